-- Live blocks, weighed: where each is owned, they weigh no more together than what is owned.
use Rattle.std.proofs.Common.{◌≡◌, ℕ, zero, suc, ◌+◌, ◌≤◌, List, [], ◌∷◌, length, Option, Some, None, is_some, refl, ap, arith}
use Rattle.std.specs.List.{sum_by}
use Rattle.std.proofs.lemmas.List.Sums.{sum_by-cons}
use Rattle.cpc_store.specs.Store.{Value, Blocks}
use Rattle.cpc_chains_store_laws.specs.Chains.{Saved, frame_cells, Chain, NoChain, AndChain}
use Rattle.cpc_convert_flat_laws.specs.Blocks.{block, one_if, same, count, Owns}
use Rattle.cpc_lifted_laws.specs.Related.Sums.{sum}

-- ---- sums over the numbers below a bound

-- a number, so many times
abbrev many : ℕ → ℕ → ℕ
many zero x = 0
many (suc k) x = x + many k x

many_plus : (a b x : ℕ) → many (a + b) x ≡ many a x + many b x
many_plus zero b x = let e : 0 + b ≡ b = omega arith in let i = ap (λ k. many k x) e in omega (arith, i)
many_plus (suc a) b x = let e : suc a + b ≡ suc (a + b) = omega arith in let h = many_plus a b x in let i = ap (λ k. many k x) e in omega (arith, h, i)

-- what the numbers below a bound come to together
abbrev upto : ℕ → (ℕ → ℕ) → ℕ
upto zero f = 0
upto (suc n) f = f 0 + upto n (λ b. f (suc b))

upto_none : (n : ℕ) → upto n (λ b. 0) ≡ 0
upto_none zero = refl
upto_none (suc n) = let h = upto_none n in omega (arith, h)

upto_le : (n : ℕ) (f g : ℕ → ℕ) → ((b : ℕ) → f b ≤ g b) → upto n f ≤ upto n g
upto_le zero f g le = omega arith
upto_le (suc n) f g le = let h = upto_le n (λ b. f (suc b)) (λ b. g (suc b)) (λ b. le (suc b)) in let i = le 0 in omega (arith, h, i)

upto_plus : (n : ℕ) (f g : ℕ → ℕ) → upto n (λ b. f b + g b) ≡ upto n f + upto n g
upto_plus zero f g = omega arith
upto_plus (suc n) f g = let h = upto_plus n (λ b. f (suc b)) (λ b. g (suc b)) in omega (arith, h)

-- one number among them
upto_one : (n c : ℕ) (g : ℕ → ℕ) → upto n (λ b. many (same b c) (g b)) ≤ g c
upto_one zero c g = omega arith
upto_one (suc n) zero g = let h = upto_none n in omega (arith, h)
upto_one (suc n) (suc c) g = let h = upto_one n c (λ b. g (suc b)) in omega (arith, h)

-- each as often as it stands in a list
upto_listed : (n : ℕ) (g : ℕ → ℕ) (cs : List ℕ) → upto n (λ b. many (count b cs) (g b)) ≤ sum g cs
upto_listed n g [] = let h = upto_none n in omega (arith, h)
upto_listed n g (c ∷ cs) =
    let h = upto_le n (λ b. many (same b c + count b cs) (g b)) (λ b. many (same b c) (g b) + many (count b cs) (g b)) (λ b. let e = many_plus (same b c) (count b cs) (g b) in omega (arith, e)) in
    let i = upto_plus n (λ b. many (same b c) (g b)) (λ b. many (count b cs) (g b)) in
    let j = upto_one n c g in
    let k = upto_listed n g cs in
    omega (arith, h, i, j, k)

-- ---- blocks

-- blocks weigh together what their numbers weigh
blocks_upto : (f : Option (List Value) → ℕ) (bs : Blocks) → sum_by f bs ≡ upto (length bs) (λ b. f (block bs b))
blocks_upto f [] = refl
blocks_upto f (x ∷ bs) = let h = blocks_upto f bs in let i = sum_by-cons f x bs in omega (arith, h, i)

-- where each live block is owned, blocks weigh no more than what is owned
pub owned_weigh : (f : Option (List Value) → ℕ) → f None ≡ 0 → (bs : Blocks) (owned : List ℕ) → Owns bs owned → sum_by f bs ≤ sum (λ b. f (block bs b)) owned
owned_weigh f none bs owned owns =
    let h = upto_le (length bs) (λ b. f (block bs b)) (λ b. many (count b owned) (f (block bs b))) (λ b. each (block bs b) (count b owned) (owns.each b)) in
    let i = upto_listed (length bs) (λ b. f (block bs b)) owned in
    let j = blocks_upto f bs in
    omega (arith, h, i, j)
  where
    each : (o : Option (List Value)) (k : ℕ) → k ≡ one_if (is_some o) → f o ≤ many k (f o)
    each None k e = omega (arith, none)
    each (Some cells) k e = let i = ap (λ n. many n (f (Some cells))) e in omega (arith, i)

-- a chain weighs no more than what is saved in it
pub chain_weighs : (f : Option (List Value) → ℕ) (g : Saved → ℕ) → ((s : Saved) (next v : Value) → f (Some (frame_cells s next v)) ≤ g s)
    → (bs : Blocks) (saved : List Saved) (p : Value) (owned : List ℕ) → Chain bs saved p owned → sum (λ b. f (block bs b)) owned ≤ sum g saved
chain_weighs f g fits bs _ _ _ NoChain = omega arith
chain_weighs f g fits bs _ _ _ (AndChain s fs b next v owned cells apart chain) =
    let e = ap f cells in
    let h = fits s next v in
    let i = chain_weighs f g fits bs fs next owned chain in
    omega (arith, e, h, i)
