-- Which bytes go on tokens that are spelled.
use Rattle.std.proofs.Common.{◌≡◌, ℕ, Bool, false, ◌||◌, nat_eq, refl, sym, arith}
use Rattle.std.proofs.lemmas.Bool.Decides.{nat_tests}
use Rattle.cpc_tree.specs.declared.token.Punctuator.{Punctuator}
use Rattle.cpc_tree.specs.declared.token.Punctuator.TheVariants as P
use Rattle.cpc_tree.specs.Tokens.{punctuator_spelling, punctuator_of}
use Rattle.cpc_tree.specs.Pieces.{is_blank, in_word, first_state, next_state, state_behind, state_of}
use Rattle.cpc_tree.specs.Spelling.{joins}

-- the tests of the code
abbrev pub mark_joins : Punctuator → ℕ → Bool
mark_joins P.Plus b = nat_eq b 43 || nat_eq b 61
mark_joins P.Minus b = nat_eq b 45 || (nat_eq b 61 || nat_eq b 62)
mark_joins P.Slash b = nat_eq b 42 || (nat_eq b 47 || nat_eq b 61)
mark_joins P.Ampersand b = nat_eq b 38 || nat_eq b 61
mark_joins P.Bar b = nat_eq b 124 || nat_eq b 61
mark_joins P.Less b = nat_eq b 60 || nat_eq b 61
mark_joins P.Greater b = nat_eq b 62 || nat_eq b 61
mark_joins P.Star b = nat_eq b 61
mark_joins P.Percent b = nat_eq b 61
mark_joins P.Caret b = nat_eq b 61
mark_joins P.Exclamation b = nat_eq b 61
mark_joins P.Equal b = nat_eq b 61
mark_joins P.ShiftLeft b = nat_eq b 61
mark_joins P.ShiftRight b = nat_eq b 61
mark_joins _ b = false

pub joins_mark : (p : Punctuator) (b : ℕ) → joins (punctuator_spelling p) b ≡ mark_joins p b
unfolding joins state_of state_behind first_state next_state is_blank in_word punctuator_of
joins_mark P.Plus b = grind (arith, nat_tests)
joins_mark P.Minus b = grind (arith, nat_tests)
joins_mark P.Slash b = grind (arith, nat_tests)
joins_mark P.Ampersand b = grind (arith, nat_tests)
joins_mark P.Bar b = grind (arith, nat_tests)
joins_mark P.Less b = grind (arith, nat_tests)
joins_mark P.Greater b = grind (arith, nat_tests)
joins_mark P.Star b = grind (arith, nat_tests)
joins_mark P.Percent b = grind (arith, nat_tests)
joins_mark P.Caret b = grind (arith, nat_tests)
joins_mark P.Exclamation b = grind (arith, nat_tests)
joins_mark P.Equal b = grind (arith, nat_tests)
joins_mark P.ShiftLeft b = grind (arith, nat_tests)
joins_mark P.ShiftRight b = grind (arith, nat_tests)
joins_mark _ b = refl

-- a mark that none of the arms has
pub joins_other : (p : Punctuator) (b : ℕ) → (p ≡ P.Plus → ⊥) → (p ≡ P.Minus → ⊥) → (p ≡ P.Star → ⊥) → (p ≡ P.Slash → ⊥) → (p ≡ P.Percent → ⊥) → (p ≡ P.Ampersand → ⊥) → (p ≡ P.Bar → ⊥) → (p ≡ P.Caret → ⊥) → (p ≡ P.Exclamation → ⊥) → (p ≡ P.Less → ⊥) → (p ≡ P.Greater → ⊥) → (p ≡ P.ShiftLeft → ⊥) → (p ≡ P.ShiftRight → ⊥) → (p ≡ P.Equal → ⊥) → false ≡ joins (punctuator_spelling p) b
joins_other p b n0 n1 n2 n3 n4 n5 n6 n7 n8 n9 n10 n11 n12 n13 = at p n0 n1 n2 n3 n4 n5 n6 n7 n8 n9 n10 n11 n12 n13 where
  at : (q : Punctuator) → (q ≡ P.Plus → ⊥) → (q ≡ P.Minus → ⊥) → (q ≡ P.Star → ⊥) → (q ≡ P.Slash → ⊥) → (q ≡ P.Percent → ⊥) → (q ≡ P.Ampersand → ⊥) → (q ≡ P.Bar → ⊥) → (q ≡ P.Caret → ⊥) → (q ≡ P.Exclamation → ⊥) → (q ≡ P.Less → ⊥) → (q ≡ P.Greater → ⊥) → (q ≡ P.ShiftLeft → ⊥) → (q ≡ P.ShiftRight → ⊥) → (q ≡ P.Equal → ⊥) → false ≡ joins (punctuator_spelling q) b
  at P.Plus n0 n1 n2 n3 n4 n5 n6 n7 n8 n9 n10 n11 n12 n13 = absurd (n0 refl)
  at P.Minus n0 n1 n2 n3 n4 n5 n6 n7 n8 n9 n10 n11 n12 n13 = absurd (n1 refl)
  at P.Star n0 n1 n2 n3 n4 n5 n6 n7 n8 n9 n10 n11 n12 n13 = absurd (n2 refl)
  at P.Slash n0 n1 n2 n3 n4 n5 n6 n7 n8 n9 n10 n11 n12 n13 = absurd (n3 refl)
  at P.Percent n0 n1 n2 n3 n4 n5 n6 n7 n8 n9 n10 n11 n12 n13 = absurd (n4 refl)
  at P.Ampersand n0 n1 n2 n3 n4 n5 n6 n7 n8 n9 n10 n11 n12 n13 = absurd (n5 refl)
  at P.Bar n0 n1 n2 n3 n4 n5 n6 n7 n8 n9 n10 n11 n12 n13 = absurd (n6 refl)
  at P.Caret n0 n1 n2 n3 n4 n5 n6 n7 n8 n9 n10 n11 n12 n13 = absurd (n7 refl)
  at P.Exclamation n0 n1 n2 n3 n4 n5 n6 n7 n8 n9 n10 n11 n12 n13 = absurd (n8 refl)
  at P.Less n0 n1 n2 n3 n4 n5 n6 n7 n8 n9 n10 n11 n12 n13 = absurd (n9 refl)
  at P.Greater n0 n1 n2 n3 n4 n5 n6 n7 n8 n9 n10 n11 n12 n13 = absurd (n10 refl)
  at P.ShiftLeft n0 n1 n2 n3 n4 n5 n6 n7 n8 n9 n10 n11 n12 n13 = absurd (n11 refl)
  at P.ShiftRight n0 n1 n2 n3 n4 n5 n6 n7 n8 n9 n10 n11 n12 n13 = absurd (n12 refl)
  at P.Equal n0 n1 n2 n3 n4 n5 n6 n7 n8 n9 n10 n11 n12 n13 = absurd (n13 refl)
  at q n0 n1 n2 n3 n4 n5 n6 n7 n8 n9 n10 n11 n12 n13 = sym (joins_mark q b)
