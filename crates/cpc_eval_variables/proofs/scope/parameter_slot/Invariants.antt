use Rattle.std.proofs.Common.{◌≡◌, [], drop, map}
use Rattle.std.specs.Prelude.{option_to_list}
use Rattle.cpc_tree.specs.Erase.{Names, parameter_of}
use Rattle.cpc_eval_variables.specs.Told.{IsTold}
use Rattle.cpc_eval_variables.proofs.Slots.{slot_from}
use Rattle.cpc_eval_variables.proofs.scope.parameter_slot.Given as goal

-- the parameters that are left decide
abbrev pub invariant-loop-parameter : goal.invariant-loop-parameter
invariant-loop-parameter l = record {
  here : l.slot ≡ l.parameter-index;
  rest : (names : Names) → IsTold names l.parameters
      → slot_from (names l.name) l.slot (option_to_list l.found) (map (parameter_of names) (drop l.parameter-index l.parameters)) ≡ slot_from (names l.name) 0 [] (map (parameter_of names) l.parameters);
}
