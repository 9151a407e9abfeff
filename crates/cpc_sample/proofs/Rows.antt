-- Texts that are put together number by number.
use Rattle.std.proofs.Common.{◌≡◌, ◌∙◌, ℕ, zero, suc, ◌+◌, [], ◌∷◌, ◌++◌, ap, arith, sym}
use Rattle.std.specs.Prelude.{flat_map}
use Rattle.std.specs.List.{range_with_len}
use Rattle.std.proofs.lemmas.List.{flat_map_more}
use Rattle.cpc_base.specs.Bytes.{Text}

one_more : (a n j : ℕ) → a + n ≡ j → range_with_len a (suc n) ≡ range_with_len a n ++ j ∷ []
one_more a zero j e = let f : a ≡ j = omega arith in ap (λ k. k ∷ []) f
one_more a (suc n) j e = ap (λ ks. a ∷ ks) (one_more (a + 1) n j (omega arith))

-- what was put for the numbers below n, and for n, is what is put for the numbers below the next
pub put_more : (f : ℕ → Text) (n m : ℕ) (was before now : Text) → before ≡ was ++ flat_map f (range_with_len 0 n) → now ≡ before ++ f n → m ≡ suc n
    → now ≡ was ++ flat_map f (range_with_len 0 m)
put_more f n m was before now b e s =
    e ∙ (ap (λ u. u ++ f n) b ∙ (flat_map_more f was (range_with_len 0 n) n ∙ ap (λ ks. was ++ flat_map f ks) (sym (one_more 0 n n (omega arith)) ∙ ap (range_with_len 0) (sym s))))
