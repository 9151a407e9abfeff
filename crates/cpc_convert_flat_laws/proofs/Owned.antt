-- The live blocks: what acts on frame blocks do to them.
use Rattle.std.proofs.Common.{◌≡◌, ℕ, zero, suc, ◌+◌, ◌<◌, ◌≤◌, Bool, true, false, List, [], ◌∷◌, ◌++◌, length, slice_set, Some, None, is_some, refl, sym, ◌∙◌, ap, arith}
use Rattle.cpc_store.specs.Store.{Value, Blocks}
use Rattle.cpc_convert_flat_laws.specs.Blocks.{block, one_if, same, count, lives, Owns}
use Rattle.cpc_convert_flat_laws.proofs.Blocks.{same_number, count_append}

-- ---- the live blocks

lives_new : (bs : Blocks) (cells : List Value) (b : ℕ) → lives (bs ++ Some cells ∷ []) b ≡ same b (length bs) + lives bs b
lives_new [] cells zero = omega arith
lives_new [] cells (suc b) = omega arith
lives_new (x ∷ bs) cells zero = omega arith
lives_new (x ∷ bs) cells (suc b) = lives_new bs cells b

lives_freed : (bs : Blocks) (c b : ℕ) → lives bs c ≡ 1 → lives (slice_set bs c None) b + same b c ≡ lives bs b
lives_freed [] c b e = absurd (cc)
lives_freed (x ∷ bs) zero zero e = omega (arith, e)
lives_freed (x ∷ bs) zero (suc b) e = omega arith
lives_freed (x ∷ bs) (suc c) zero e = omega arith
lives_freed (x ∷ bs) (suc c) (suc b) e = lives_freed bs c b e

lives_written : (bs : Blocks) (c b : ℕ) (cells : List Value) → lives bs c ≡ 1 → lives (slice_set bs c (Some cells)) b ≡ lives bs b
lives_written [] c b cells e = absurd (cc)
lives_written (x ∷ bs) zero zero cells e = sym e
lives_written (x ∷ bs) zero (suc b) cells e = refl
lives_written (x ∷ bs) (suc c) zero cells e = refl
lives_written (x ∷ bs) (suc c) (suc b) cells e = lives_written bs c b cells e

-- a block with cells is live
pub lives_there : (bs : Blocks) (b : ℕ) (cells : List Value) → block bs b ≡ Some cells → lives bs b ≡ 1
lives_there bs b cells e = ap (λ o. one_if (is_some o)) e

lives_once : (bs : Blocks) (b : ℕ) → lives bs b ≤ 1
lives_once bs b = go (is_some (block bs b))
  where
    go : (t : Bool) → one_if t ≤ 1
    go true = omega arith
    go false = omega arith

-- a block is made
pub owns_alloc : (bs : Blocks) (cells : List Value) (owned : List ℕ) → Owns bs owned → Owns (bs ++ Some cells ∷ []) (length bs ∷ owned)
owns_alloc bs cells owned o = record { each = λ b. let e = o.each b in let f = lives_new bs cells b in omega (arith, e, f) }

-- a block is freed
pub owns_free : (bs : Blocks) (c : ℕ) (owned : List ℕ) → Owns bs (c ∷ owned) → Owns (slice_set bs c None) owned
owns_free bs c owned o =
    let once = lives_once bs c in
    let here : lives bs c ≡ 1 = (let e = o.each c in let s = same_number c in omega (arith, e, s, once)) in
    record { each = λ b. let e = o.each b in let f = lives_freed bs c b here in omega (arith, e, f) }

-- a live block is written
pub owns_set : (bs : Blocks) (c : ℕ) (cells : List Value) (owned : List ℕ) → lives bs c ≡ 1 → Owns bs owned → Owns (slice_set bs c (Some cells)) owned
owns_set bs c cells owned l o = record { each = λ b. o.each b ∙ sym (lives_written bs c b cells l) }

-- the same numbers in another order
pub owns_order : (bs : Blocks) (xs ys : List ℕ) → ((b : ℕ) → count b xs ≡ count b ys) → Owns bs xs → Owns bs ys
owns_order bs xs ys e o = record { each = λ b. sym (e b) ∙ o.each b }

-- no number stands twice
pub owns_once : (bs : Blocks) (owned : List ℕ) → Owns bs owned → (b : ℕ) → count b owned ≤ 1
owns_once bs owned o b = let e = o.each b in let l = lives_once bs b in omega (arith, e, l)

-- a block of one part of the list is none of the other part's
pub owns_apart : (bs : Blocks) (xs ys : List ℕ) → Owns bs (xs ++ ys) → (b : ℕ) → 0 < count b xs → count b ys ≡ 0
owns_apart bs xs ys o b h = let e = owns_once bs (xs ++ ys) o b in let f = count_append b xs ys in omega (arith, e, f, h)

pub owns_apart_left : (bs : Blocks) (xs ys : List ℕ) → Owns bs (xs ++ ys) → (b : ℕ) → 0 < count b ys → count b xs ≡ 0
owns_apart_left bs xs ys o b h = let e = owns_once bs (xs ++ ys) o b in let f = count_append b xs ys in omega (arith, e, f, h)

-- ---- one chain among others

-- numbers in front of a list and behind it
count_middle : (b : ℕ) (xs ys zs : List ℕ) → count b (xs ++ (ys ++ zs)) ≡ count b ys + count b (xs ++ zs)
count_middle b xs ys zs =
    let e = count_append b xs (ys ++ zs) in
    let f = count_append b ys zs in
    let g = count_append b xs zs in
    omega (arith, e, f, g)

-- a frame is put before one chain
pub owns_put : (bs : Blocks) (cells : List Value) (xs ys zs : List ℕ) → Owns bs (xs ++ (ys ++ zs)) → Owns (bs ++ Some cells ∷ []) (xs ++ ((length bs ∷ ys) ++ zs))
owns_put bs cells xs ys zs o =
    owns_order (bs ++ Some cells ∷ []) (length bs ∷ (xs ++ (ys ++ zs))) (xs ++ ((length bs ∷ ys) ++ zs))
    (λ b. let e = count_middle b xs (length bs ∷ ys) zs in let f = count_middle b xs ys zs in omega (arith, e, f))
    (owns_alloc bs cells (xs ++ (ys ++ zs)) o)

-- the first frame of one chain is taken
pub owns_taken : (bs : Blocks) (c : ℕ) (xs ys zs : List ℕ) → Owns bs (xs ++ ((c ∷ ys) ++ zs)) → Owns (slice_set bs c None) (xs ++ (ys ++ zs))
owns_taken bs c xs ys zs o =
    owns_free bs c (xs ++ (ys ++ zs))
    (owns_order bs (xs ++ ((c ∷ ys) ++ zs)) (c ∷ (xs ++ (ys ++ zs)))
    (λ b. let e = count_middle b xs (c ∷ ys) zs in let f = count_middle b xs ys zs in omega (arith, e, f)) o)

-- a block of one chain is none of the others'
pub owns_alone : (bs : Blocks) (xs ys zs : List ℕ) → Owns bs (xs ++ (ys ++ zs)) → (b : ℕ) → 0 < count b ys → count b (xs ++ zs) ≡ 0
owns_alone bs xs ys zs o b h = let e = owns_once bs (xs ++ (ys ++ zs)) o b in let f = count_middle b xs ys zs in omega (arith, e, f, h)
