-- A part with its closing mark is read exactly.
use Rattle.std.proofs.Common.{◌≡◌, ℕ, List, [], ◌∷◌, ◌++◌, refl, subst, sym}
use Rattle.cpc_base.specs.declared.stop.Place.{Place}
use Rattle.cpc_tree.specs.declared.token.Punctuator.{Punctuator}
use Rattle.cpc_tree.specs.Tokens.{Lexeme, Mark, Placed}
use Rattle.cpc_tree.specs.TypeGrammar.{mark}
use Rattle.cpc_parser_reading.specs.Reading.{Reader, before}
use Rattle.cpc_parser_reading.specs.Exact.{Any, Exact}
use Rattle.cpc_parser_reading.proofs.Readers.{exact_as, exact_before}
use Rattle.cpc_parser_types.specs.Begins.{is_mark}
use Rattle.cpc_parser_types.specs.Views.{lexeme}
use Rattle.cpc_parser_types.proofs.SameMarks.{mark_self}
use Rattle.cpc_parser_statements.proofs.Marks.{as_mark, mark_is, marks}

-- a part, and the mark behind it
abbrev pub Ended : {A : Type 0} → Punctuator → (List Placed → A → ℕ → Type 0) → List Placed → A → ℕ → Type 0
Ended p R f v h = (g : List Placed) × (r : Place) × (f ≡ g ++ mark r p ∷ []) × R g v h

-- The part may stop before the mark.
pub exact_ended : {A : Type 0} {n low : ℕ} {F : ℕ → Reader Placed A} {R : List Placed → A → ℕ → Type 0} {Q : A → Lexeme → Type 0}
    → Exact lexeme n low F R Q → (p : Punctuator) → ((v : A) → Q v (Mark p)) → Exact lexeme n low (λ d. before (F d) (λ t. is_mark p t.lexeme)) (Ended p R) Any
exact_ended {Q = Q} x p q = exact_as (exact_before x (marks p) (λ v k e. subst (λ l. Q v l) (sym (mark_is p k e)) (q v))) (λ d ts a b. refl)
    (λ f v h (g, t, e, i, r). (g, t.place, subst (λ u. f ≡ g ++ u ∷ []) (as_mark t p (mark_is p t.lexeme i)) e, r))
    (λ f v h (g, r, e, y). (g, mark r p, e, mark_self p, y))
