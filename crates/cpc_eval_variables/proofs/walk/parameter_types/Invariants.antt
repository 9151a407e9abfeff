use Rattle.std.proofs.Common.{◌≡◌, length, map, take}
use Rattle.cpc_tree.specs.Erase.{Names, parameter_of}
use Rattle.cpc_tree.specs.Registers.{as_variable}
use Rattle.cpc_eval_variables.specs.Typed.{types_in, types_of}
use Rattle.cpc_eval_variables.proofs.walk.parameter_types.Given as goal

-- the types so far
abbrev pub invariant-loop-parameter : goal.invariant-loop-parameter
invariant-loop-parameter l = record {
  count : length l.types.items ≡ l.parameter-index;
  types : (names : Names) → types_of names l.types.items ≡ types_in (map as_variable (map (parameter_of names) (take l.parameter-index l.parameters)));
}
