-- The rules that an item breaks, cut in two: by what stands in it, and beside other items.
use Rattle.std.specs.Prelude.{◌&&◌, not, [], ◌∷◌, ◌++◌, List, false, true, Option}
use Rattle.cpc_base.specs.declared.stop.Place.{Place}
use Rattle.cpc_base.specs.declared.stop.Dialect.{Dialect}
use Rattle.cpc_tree.specs.declared.program.Mode.{Mode}
use Rattle.cpc_tree.specs.Syntax.{Ty, TyStruct, Program}
use Rattle.cpc_tree.specs.Located.{Ident, LExpr, LVariable, LParameter, LFunction, LItem, LStruct, LGlobal, LPrototype, LFunctionItem, bare_item}
use Rattle.cpc_tree.specs.Typing.{size}
use Rattle.cpc_check_rules.specs.declared.rule.Rule.TheVariants.{Undeclared, Twice, Disagree, Incomplete}
use Rattle.cpc_check_rules.specs.Rule.{Broken, at_if}
use Rattle.cpc_check_rules.specs.Scopes.{is_sized}
use Rattle.cpc_check_rules.specs.FunctionRules.{repeated, reserved_breaks}
use Rattle.cpc_check_rules.specs.ItemRules as R
use Rattle.cpc_check_items.specs.Parts.{tail_parts}

-- ---- by what stands in it, behind these items

abbrev pub struct_own : Dialect → Program → Ident → List LVariable → Broken
struct_own dialect before tag fs = reserved_breaks dialect (tag ∷ [])
    ++ (at_if (R.is_oversized (size (before ++ bare_item (LStruct tag fs) ∷ []) (TyStruct tag.text))) tag.place Incomplete
    ++ (repeated Twice [] (R.field_names fs) ++ R.fields_breaks (R.outside dialect before).scope fs))

abbrev pub global_own : Dialect → Program → Ident → Ty → Option LExpr → Broken
global_own dialect before x t start = reserved_breaks dialect (x ∷ [])
    ++ (at_if (not (is_sized (R.outside dialect before).scope t)) x.place Incomplete ++ R.global_start (R.outside dialect before) x t start)

abbrev pub prototype_own : Dialect → Place → Mode → Ident → Ty → List LParameter → Broken
prototype_own dialect q mode x r ps = reserved_breaks dialect (x ∷ []) ++ (R.cps_breaks dialect mode q
    ++ (at_if (R.is_extern mode && not (R.is_host_like r (R.types ps))) x.place Disagree ++ R.parameters_breaks dialect ps))

-- a function before its body
abbrev pub head_own : Dialect → Program → LFunction → Broken
head_own dialect before f = reserved_breaks dialect (f.called ∷ []) ++ (R.cps_breaks dialect f.mode f.place
    ++ (R.parameters_breaks dialect f.parameters ++ R.sized_breaks (R.outside dialect before).scope f.parameters))

abbrev pub function_own : Dialect → Program → LFunction → Broken
function_own dialect before f = head_own dialect before f ++ (R.body_breaks (R.in_body dialect before f) f.body ++ tail_parts dialect f)

abbrev pub item_own : Dialect → Program → LItem → Broken
item_own dialect before (LStruct tag fs) = struct_own dialect before tag fs
item_own dialect before (LGlobal x t start) = global_own dialect before x t start
item_own dialect before (LPrototype q mode x r ps) = prototype_own dialect q mode x r ps
item_own dialect before (LFunctionItem f) = function_own dialect before f

-- ---- beside these items, in a program that has those in all

abbrev pub item_beside : Program → Program → LItem → Broken
item_beside program before (LStruct tag fs) = at_if (R.is_struct tag.text before) tag.place Twice
item_beside program before (LGlobal x t start) = at_if (R.is_item x.text before) x.place Twice
item_beside program before (LPrototype q mode x r ps) =
    R.declared_breaks before x (record { mode = mode; result = r; parameters = R.types ps; is_defined = false })
    ++ at_if (not (R.is_extern mode) && not (R.is_function x.text program)) x.place Undeclared
item_beside program before (LFunctionItem f) =
    R.declared_breaks before f.called (record { mode = f.mode; result = f.result; parameters = R.types f.parameters; is_defined = true })

abbrev pub items_beside : Program → Program → List LItem → Broken
items_beside program before [] = []
items_beside program before (x ∷ xs) = item_beside program before x ++ items_beside program (before ++ bare_item x ∷ []) xs
