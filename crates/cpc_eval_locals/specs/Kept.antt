-- Where the variables of a table are kept: the type of each, and whether it is a register.
use Rattle.std.specs.Prelude.{Bool, List, map}
use Rattle.cpc_tree.specs.Erase.{Names, type_of}
use Rattle.cpc_tree.specs.Syntax.{Ty}
use Rattle.cpc_eval_locals.specs.declared.variables.Variable.{Variable}

abbrev pub kept_one : Names → Variable → Ty × Bool
kept_one names v = (type_of names v.of, v.is_register)

abbrev pub kept_by : Names → List Variable → List (Ty × Bool)
kept_by names vs = map (kept_one names) vs
