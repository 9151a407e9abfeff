use Rattle.std.proofs.Common.{◌≡◌, map, take}
use Rattle.cpc_tree.specs.Erase.{Names, type_of, parameter_of}
use Rattle.cpc_tree.specs.Typing as T
use Rattle.cpc_types.proofs.names.parameter_types.Given as goal

-- the types so far are those of the parameters so far
abbrev pub invariant-loop-parameter : goal.invariant-loop-parameter
invariant-loop-parameter l = (names : Names) → map (type_of names) l.types.items ≡ map T.parameter_type (map (parameter_of names) (take l.parameter-index l.parameters))
