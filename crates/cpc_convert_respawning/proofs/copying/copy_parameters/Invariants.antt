use Rattle.std.proofs.Common.{◌≡◌, map, take}
use Rattle.cpc_tree.specs.Erase.{Names, parameter_of}
use Rattle.cpc_convert_respawning.proofs.copying.copy_parameters.Given as goal

-- the parameters so far
abbrev pub invariant-loop-parameter : goal.invariant-loop-parameter
invariant-loop-parameter l = (to : Names) → map (parameter_of to) l.all.items ≡ map (parameter_of to) (take l.parameter-index l.parameters)
