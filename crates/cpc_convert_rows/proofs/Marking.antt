-- Numbers in lists, and marks that are set.
use Rattle.std.proofs.Common.{◌≡◌, ℕ, ◌<◌, ◌≤◌, ◌==◌, ◌||◌, Bool, true, false, List, [], ◌∷◌, ◌++◌, length, set, refl, sym, ◌∙◌, ap, arith}
use Rattle.std.proofs.lemmas.List.{get_or-set_same, get_or-set_other, length-set}
use Rattle.cpc_base.proofs.Truth.{eq_means, eq_not_means, eq_reflexive, or_with_false, or_with_true}
use Rattle.cpc_tree.specs.Lists.{holds_number}
use Rattle.cpc_tree.proofs.Holding.{holds_both}
use Rattle.cpc_convert_rows.specs.Marks.{AreMarked, is_set}

pub unequal : (a b : ℕ) → ¬ (a ≡ b) → (a == b) ≡ false
unequal a b h = go (a == b) refl
  where
    go : (x : Bool) → (a == b) ≡ x → (a == b) ≡ false
    go true e = absurd (h (eq_means a b e))
    go false e = e

pub holds_end : (ns : List ℕ) (n : ℕ) → holds_number (ns ++ n ∷ []) n ≡ true
holds_end ns n = holds_both ns (n ∷ []) n ∙ (ap (λ b. holds_number ns n || (b || false)) (eq_reflexive n) ∙ or_with_true (holds_number ns n))

pub holds_before : (ns : List ℕ) (n k : ℕ) → ¬ (n ≡ k) → holds_number (ns ++ n ∷ []) k ≡ holds_number ns k
holds_before ns n k h = holds_both ns (n ∷ []) k ∙ (ap (λ b. holds_number ns k || (b || false)) (unequal n k h) ∙ or_with_false (holds_number ns k))

-- one more mark
pub marked_more : (marks : List ℕ) (n : ℕ) (ns : List ℕ) → n < length marks → AreMarked marks ns → AreMarked (set marks n 1) (ns ++ n ∷ [])
marked_more marks n ns within are = λ k below. go k below (n == k) refl
  where
    go : (k : ℕ) → k < length (set marks n 1) → (b : Bool) → (n == k) ≡ b → is_set (set marks n 1) k ≡ holds_number (ns ++ n ∷ []) k
    go k below true e =
        let i = eq_means n k e in
        ap (λ j. is_set (set marks n 1) j) (sym i) ∙ (ap (λ m. m == 1) (get_or-set_same marks n 1 0 within) ∙ (sym (holds_end ns n) ∙ ap (holds_number (ns ++ n ∷ [])) i))
    go k below false e =
        let ne = eq_not_means n k e in
        let other : ¬ (k ≡ n) = λ i. ne (sym i) in
        ap (λ m. m == 1) (get_or-set_other marks n k 1 0 other) ∙ (are k (omega (arith, below, length-set marks n 1)) ∙ sym (holds_before ns n k ne))

-- a number past the end sets none
pub marked_past : (marks : List ℕ) (n : ℕ) (ns : List ℕ) → length marks ≤ n → AreMarked marks ns → AreMarked marks (ns ++ n ∷ [])
marked_past marks n ns past are = λ k below. are k below ∙ sym (holds_before ns n k (λ e. absurd (omega (arith, past, below, e))))

-- one more mark, number by number
pub mark_each : (marks : List ℕ) (n : ℕ) (k : ℕ) → n < length marks → k < length marks → is_set (set marks n 1) k ≡ (is_set marks k || (n == k))
mark_each marks n k within below = go (n == k) refl
  where
    go : (b : Bool) → (n == k) ≡ b → is_set (set marks n 1) k ≡ (is_set marks k || b)
    go true e = ap (λ j. is_set (set marks n 1) j) (sym (eq_means n k e)) ∙ (ap (λ m. m == 1) (get_or-set_same marks n 1 0 within) ∙ sym (or_with_true (is_set marks k)))
    go false e =
        let ne = eq_not_means n k e in
        let other : ¬ (k ≡ n) = λ i. ne (sym i) in
        ap (λ m. m == 1) (get_or-set_other marks n k 1 0 other) ∙ sym (or_with_false (is_set marks k))

pub mark_past : (marks : List ℕ) (n : ℕ) (k : ℕ) → length marks ≤ n → k < length marks → is_set marks k ≡ (is_set marks k || (n == k))
mark_past marks n k past below = sym (ap (λ b. is_set marks k || b) (unequal n k (λ e. absurd (omega (arith, past, below, e)))) ∙ or_with_false (is_set marks k))
