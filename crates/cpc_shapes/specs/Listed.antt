-- Types of a list, and types that may be absent.
use Rattle.std.specs.Prelude.{List, map, Option, option_map}
use Rattle.cpc_tree.specs.declared.program.CType as GType
use Rattle.cpc_tree.specs.Erase.{Names, type_of}
use Rattle.cpc_tree.specs.Syntax.{Ty, Tys}
use Rattle.cpc_tree.specs.Typing.{tys_of}

-- the types of a list
abbrev pub listed_of : Names → List GType.CType → Tys
listed_of names ts = tys_of (map (type_of names) ts)

-- a type that may be absent
abbrev pub optional_of : Names → Option GType.CType → Option Ty
optional_of names o = option_map (type_of names) o
