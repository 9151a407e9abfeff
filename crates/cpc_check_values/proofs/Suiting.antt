-- What an argument breaks that has a type.
use Rattle.std.proofs.Common.{◌≡◌, Bool, true, not, Option, Some, None, is_some, refl, ap, ◌∙◌}
use Rattle.cpc_base.specs.declared.stop.Place.{Place}
use Rattle.cpc_tree.specs.Located.{LExpr}
use Rattle.cpc_tree.specs.Typing.{Typed}
use Rattle.cpc_check_rules.specs.declared.rule.Rule.TheVariants.{Disagree}
use Rattle.cpc_check_rules.specs.Rule.{at_if}
use Rattle.cpc_check_rules.specs.Scopes.{Scope}
use Rattle.cpc_check_rules.specs.Operators.{first}
use Rattle.cpc_check_rules.specs.Calls as C

pub suit_typed : (s : Scope) (w : C.Wanted) (e : LExpr) (o : Option Typed) (typed fits : Bool) (q : Place) → typed ≡ is_some o → typed ≡ true → ((d : Typed) → o ≡ Some d → fits ≡ C.suits s w e d) → q ≡ first e
    → at_if (not fits) q Disagree ≡ C.suit_breaks s w e o
suit_typed s w e None typed fits q h t f g = absurd cc
suit_typed s w e (Some d) typed fits q h t f g = ap (λ b. at_if (not b) q Disagree) (f d refl) ∙ ap (λ r. at_if (not (C.suits s w e d)) r Disagree) g
