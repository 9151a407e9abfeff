-- The types that the code finds, as the definitions have them.
use Rattle.std.specs.Prelude.{Option, Some, None}
use Rattle.cpc_tree.specs.Erase.{Names, type_of}
use Rattle.cpc_tree.specs.Typing.{Typed, AValue, APlace}
use Rattle.cpc_types.specs.declared.operators.TypeFound.{TypeFound}
use Rattle.cpc_types.specs.declared.operators.TypeFound.TheVariants as F

-- the type of an expression that was found
abbrev pub found_of : Names → TypeFound → Option Typed
found_of names (F.Value t) = Some (AValue (type_of names t))
found_of names (F.Place t) = Some (APlace (type_of names t))
found_of names F.Absent = None
