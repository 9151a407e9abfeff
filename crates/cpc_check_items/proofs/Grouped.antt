-- Rows of breaches, grouped otherwise.
use Rattle.std.proofs.Common.{◌≡◌, true, not, [], ◌∷◌, ◌++◌, sym, ap, ◌∙◌, append_assoc, Option}
use Rattle.cpc_base.specs.declared.stop.Dialect.{Dialect}
use Rattle.cpc_tree.specs.Syntax.{Ty, Program}
use Rattle.cpc_tree.specs.Located.{Ident, LExpr, LFunction}
use Rattle.cpc_check_rules.specs.declared.rule.Rule.TheVariants.{Twice, Incomplete}
use Rattle.cpc_check_rules.specs.Rule.{Broken, at_if}
use Rattle.cpc_check_rules.specs.Scopes.{is_sized}
use Rattle.cpc_check_rules.specs.FunctionRules.{reserved_breaks}
use Rattle.cpc_check_rules.specs.ItemRules as R
use Rattle.cpc_check_items.specs.Parts.{global_parts, head_parts, tail_parts}

three : (a b c t : Broken) → a ++ (b ++ (c ++ t)) ≡ (a ++ (b ++ c)) ++ t
three a b c t = ap (λ r. a ++ r) (sym (append_assoc b c t)) ∙ sym (append_assoc a (b ++ c) t)

five : (a b c d e t : Broken) → a ++ (b ++ (c ++ (d ++ (e ++ t)))) ≡ (a ++ (b ++ (c ++ (d ++ e)))) ++ t
five a b c d e t = ap (λ r. a ++ (b ++ r)) (three c d e t) ∙ three a b (c ++ (d ++ e)) t

-- a global, and what it starts with
pub global_whole : (dialect : Dialect) (before : Program) (x : Ident) (t : Ty) (start : Option LExpr)
    → R.global_breaks dialect before x t start ≡ global_parts dialect before x t ++ R.global_start (R.outside dialect before) x t start
global_whole dialect before x t start =
    three (reserved_breaks dialect (x ∷ [])) (at_if (R.is_item x.text before) x.place Twice) (at_if (not (is_sized (R.outside dialect before).scope t)) x.place Incomplete)
    (R.global_start (R.outside dialect before) x t start)

-- a function, before its body, in it and behind it
pub function_whole : (dialect : Dialect) (before : Program) (f : LFunction)
    → R.function_breaks dialect before f ≡ head_parts dialect before f ++ (R.body_breaks (R.in_body dialect before f) f.body ++ tail_parts dialect f)
function_whole dialect before f =
    five (reserved_breaks dialect (f.called ∷ [])) (R.cps_breaks dialect f.mode f.place)
    (R.declared_breaks before f.called (record { mode = f.mode; result = f.result; parameters = R.types f.parameters; is_defined = true }))
    (R.parameters_breaks dialect f.parameters) (R.sized_breaks (R.outside dialect before).scope f.parameters) (R.body_breaks (R.in_body dialect before f) f.body ++ tail_parts dialect f)
