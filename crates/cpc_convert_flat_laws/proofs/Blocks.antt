-- Numbers of blocks, and where live blocks stand.
use Rattle.std.proofs.Common.{◌≡◌, ℕ, zero, suc, ◌+◌, ◌<◌, true, List, [], ◌∷◌, ◌++◌, length, slice_get, Some, is_some, refl, sym, ◌∙◌, ap, arith}
use Rattle.cpc_store.specs.Store.{Value, Blocks}
use Rattle.cpc_convert_flat_laws.specs.Blocks.{block, same, count}

-- ---- numbers

-- a number is itself
pub same_number : (b : ℕ) → same b b ≡ 1
same_number zero = refl
same_number (suc b) = same_number b

-- where two numbers do not count as one, they are two
pub two_numbers : (b c : ℕ) → same b c ≡ 0 → ¬ (c ≡ b)
two_numbers b c e f = absurd (let g : same b b ≡ 0 = ap (λ d. same b d) (sym f) ∙ e in let h = same_number b in omega (arith, g, h))

pub count_append : (b : ℕ) (xs ys : List ℕ) → count b (xs ++ ys) ≡ count b xs + count b ys
count_append b [] ys = omega arith
count_append b (x ∷ xs) ys = let h = count_append b xs ys in omega (arith, h)

-- a number above those of a list
pub count_beyond : (n : ℕ) (b : ℕ) → n < b → same b n ≡ 0
count_beyond zero zero h = absurd (omega arith)
count_beyond zero (suc b) h = refl
count_beyond (suc n) zero h = absurd (omega arith)
count_beyond (suc n) (suc b) h = count_beyond n b (omega arith)

-- ---- blocks

pub below_length : (bs : Blocks) (b : ℕ) (cells : List Value) → block bs b ≡ Some cells → b < length bs
below_length [] b cells e = absurd (cc)
below_length (x ∷ bs) zero cells e = omega arith
below_length (x ∷ bs) (suc b) cells e = let h = below_length bs b cells e in omega arith

-- a live block is there
pub is_there : (bs : Blocks) (b : ℕ) (cells : List Value) → block bs b ≡ Some cells → is_some (slice_get bs b) ≡ true
is_there [] b cells e = absurd (cc)
is_there (x ∷ bs) zero cells e = refl
is_there (x ∷ bs) (suc b) cells e = is_there bs b cells e
