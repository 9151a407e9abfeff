-- What a name stands for, as the code says it.
use Rattle.std.specs.Prelude.{map}
use Rattle.cpc_tree.specs.Erase.{Names, type_of, parameter_of}
use Rattle.cpc_tree.specs.Typing as T
use Rattle.cpc_types.specs.declared.meant.Meant.{Meant}
use Rattle.cpc_types.specs.declared.meant.Meant.TheVariants as M

abbrev pub meant_of : Names → Meant → T.Meant
meant_of names (M.Local t) = T.ALocal 0 (type_of names t.now)
meant_of names (M.Global t) = T.AGlobal 0 (type_of names t.now)
meant_of names (M.Function mode r ps) = T.AFunction mode (type_of names r.now) (map T.parameter_type (map (parameter_of names) ps.now))
meant_of names M.Nothing = T.NotMeant
