-- The type to which the first parameter of a function points.
use Rattle.std.specs.Prelude.{List, [], ◌∷◌, Option, Some, None}
use Rattle.cpc_tree.specs.Syntax.{Ty, Function, Program}
use Rattle.cpc_base.specs.Bytes.{Text}
use Rattle.cpc_tree.specs.Typing.{function_named, target}

-- the type to which the first of these points
abbrev pub pointed_type : List Ty → Option Ty
pointed_type [] = None
pointed_type (t ∷ ts) = target t

-- the function that is found, or else the first of this name among the items
abbrev pub or_named : Option Function → Program → Text → Option Function
or_named None items x = function_named items x
or_named (Some f) items x = Some f
