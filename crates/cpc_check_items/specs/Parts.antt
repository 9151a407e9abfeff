-- The rules of items, apart from those of bodies and of what globals start with.
use Rattle.std.specs.Prelude.{ℕ, true, not, [], ◌∷◌, ◌++◌, Option, Some, None}
use Rattle.cpc_base.specs.declared.stop.Dialect.{Dialect}
use Rattle.cpc_num.specs.declared.kinds.Kind.TheVariants.{Char}
use Rattle.cpc_tree.specs.Syntax.{Ty, TyInt, TyArray, Program}
use Rattle.cpc_tree.specs.Located.{Ident, LFunction}
use Rattle.cpc_check_rules.specs.declared.rule.Rule.TheVariants.{Twice, Incomplete}
use Rattle.cpc_check_rules.specs.Rule.{Broken, at_if}
use Rattle.cpc_check_rules.specs.Scopes.{is_sized}
use Rattle.cpc_check_rules.specs.FunctionRules.{label_breaks, stray_breaks, reserved_breaks, locals, labels, many_breaks}
use Rattle.cpc_check_rules.specs.ItemRules as R

-- a global, apart from what it starts with
abbrev pub global_parts : Dialect → Program → Ident → Ty → Broken
global_parts dialect before x t = reserved_breaks dialect (x ∷ []) ++ (at_if (R.is_item x.text before) x.place Twice
    ++ at_if (not (is_sized (R.outside dialect before).scope t)) x.place Incomplete)

-- the length of an array of char
abbrev pub room_of : Ty → Option ℕ
room_of (TyArray (TyInt Char) n) = Some n
room_of t = None

-- a function before its body
abbrev pub head_parts : Dialect → Program → LFunction → Broken
head_parts dialect before f = reserved_breaks dialect (f.called ∷ []) ++ (R.cps_breaks dialect f.mode f.place
    ++ (R.declared_breaks before f.called (record { mode = f.mode; result = f.result; parameters = R.types f.parameters; is_defined = true })
    ++ (R.parameters_breaks dialect f.parameters ++ R.sized_breaks (R.outside dialect before).scope f.parameters)))

-- a function behind its body: its names, labels and loops
abbrev pub tail_parts : Dialect → LFunction → Broken
tail_parts dialect f = reserved_breaks dialect (locals f.body ++ labels f.body) ++ (label_breaks f.body ++ (stray_breaks f.body ++ many_breaks dialect f.parameters f.body))
