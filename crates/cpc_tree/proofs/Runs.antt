-- Blanks, and runs of letters, digits and _, by their bytes.
use Rattle.std.proofs.Common.{◌≡◌, ℕ, Bool, true, false, cond, nat_eq, ◌||◌, Some, None, refl, ◌⊎◌, inl, inr, arith}
use Rattle.std.proofs.lemmas.Bool.Decides.{nat_tests}
use Rattle.cpc_tree.specs.Pieces.{Run, is_blank, in_word, first_state, next_state}

is_eq : (a b : ℕ) → nat_eq a b ≡ true → a ≡ b
is_eq a b e = grind (arith, nat_tests)

pub blank_is : (b : ℕ) → is_blank b ≡ true → (b ≡ 32) ⊎ ((b ≡ 9) ⊎ ((b ≡ 10) ⊎ (b ≡ 13)))
unfolding is_blank
blank_is b e = at (nat_eq b 32) refl (nat_eq b 9) refl (nat_eq b 10) refl (nat_eq b 13) refl e where
  at : (p : Bool) → nat_eq b 32 ≡ p → (q : Bool) → nat_eq b 9 ≡ q → (r : Bool) → nat_eq b 10 ≡ r → (s : Bool) → nat_eq b 13 ≡ s → (p || (q || (r || s))) ≡ true → (b ≡ 32) ⊎ ((b ≡ 9) ⊎ ((b ≡ 10) ⊎ (b ≡ 13)))
  at true h q i r j s k e = inl (is_eq b 32 h)
  at false h true i r j s k e = inr (inl (is_eq b 9 i))
  at false h false i true j s k e = inr (inr (inl (is_eq b 10 j)))
  at false h false i false j true k e = inr (inr (inr (is_eq b 13 k)))
  at false h false i false j false k e = absurd cc

pub blank_no_word : (b : ℕ) → is_blank b ≡ true → in_word b ≡ false
unfolding in_word
blank_no_word b e = at (blank_is b e) where
  at : (b ≡ 32) ⊎ ((b ≡ 9) ⊎ ((b ≡ 10) ⊎ (b ≡ 13))) → in_word b ≡ false
  at (inl h) = rw h refl
  at (inr (inl h)) = rw h refl
  at (inr (inr (inl h))) = rw h refl
  at (inr (inr (inr h))) = rw h refl

word_no_blank : (b : ℕ) → in_word b ≡ true → is_blank b ≡ false
word_no_blank b e = at (is_blank b) refl where
  at : (p : Bool) → is_blank b ≡ p → p ≡ false
  at true h = let f = blank_no_word b h in absurd cc
  at false h = refl

pub first_run : (b : ℕ) → in_word b ≡ true → first_state b ≡ Some Run
unfolding first_state
first_run b e = rw (word_no_blank b e, e) refl

pub next_run : (b : ℕ) (p : Bool) → in_word b ≡ p → next_state Run b ≡ cond p (Some Run) None
unfolding next_state
next_run b p e = rw e refl
