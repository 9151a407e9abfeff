-- What locals break, in a row of statements and alone.
use Rattle.std.proofs.Common.{◌≡◌, not, ◌++◌, Option, refl, ap, ◌∙◌}
use Rattle.cpc_base.specs.declared.stop.Place.{Place}
use Rattle.cpc_tree.specs.Syntax.{Ty}
use Rattle.cpc_tree.specs.Located.{LExpr, Ident}
use Rattle.cpc_check_rules.specs.declared.rule.Rule.{Rule}
use Rattle.cpc_check_rules.specs.declared.rule.Rule.TheVariants.{Twice, Incomplete}
use Rattle.cpc_check_rules.specs.Rule.{Broken, at_if}
use Rattle.cpc_check_rules.specs.Noted.{noted}
use Rattle.cpc_check_rules.specs.Scopes.{is_here, is_sized, with_name, with_block}
use Rattle.cpc_check_rules.specs.Operators.{Where}
use Rattle.cpc_check_rules.specs.StmtRules.{in_scope, variable, start_breaks, local_breaks}
use Rattle.cpc_check_rules.proofs.Firsts.{noted_both}
use Rattle.cpc_check_statements.proofs.Parts.{after_two}
use Rattle.cpc_check_statements.proofs.Alike.{start_alone}

abbrev Firsts : Type 0
Firsts = Option (Place × Rule)

behind_both : (o : Firsts) (a b c : Broken) → noted (noted o (a ++ b)) c ≡ noted o (a ++ (b ++ c))
behind_both o a b c = ap (λ z. noted z c) (noted_both o a b) ∙ after_two o a b c

pub local_noted : (w v : Where) (x : Ident) (t : Ty) (start : Option LExpr) (o o1 o2 : Firsts) → v ≡ in_scope w (with_name w.scope (variable x t))
    → o1 ≡ noted o (at_if (is_here w.scope.blocks x.text) x.place Twice ++ at_if (not (is_sized w.scope t)) x.place Incomplete) → o2 ≡ noted o1 (start_breaks v x t start)
    → o2 ≡ noted o (local_breaks w x t start)
local_noted w v x t start o o1 o2 e f g =
    let a = at_if (is_here w.scope.blocks x.text) x.place Twice in
    let b = at_if (not (is_sized w.scope t)) x.place Incomplete in
    g
    ∙ ap (λ z. noted o1 (start_breaks z x t start)) e
    ∙ ap (λ z. noted z (start_breaks (in_scope w (with_name w.scope (variable x t))) x t start)) f
    ∙ behind_both o a b (start_breaks (in_scope w (with_name w.scope (variable x t))) x t start)

pub lone_noted : (w v : Where) (x : Ident) (t : Ty) (start : Option LExpr) (o o1 o2 : Firsts) → v ≡ in_scope w (with_name (with_block w.scope) (variable x t))
    → o1 ≡ noted o (at_if (is_here w.scope.blocks x.text) x.place Twice ++ at_if (not (is_sized w.scope t)) x.place Incomplete) → o2 ≡ noted o1 (start_breaks v x t start)
    → o2 ≡ noted o (local_breaks w x t start)
lone_noted w v x t start o o1 o2 e f g =
    local_noted w (in_scope w (with_name w.scope (variable x t))) x t start o o1 o2 refl f (g ∙ ap (noted o1) (ap (λ z. start_breaks z x t start) e ∙ start_alone w (variable x t) x t start))
