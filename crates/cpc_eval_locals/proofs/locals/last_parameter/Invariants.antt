use Rattle.std.proofs.Common.{◌≡◌, ◌≤◌, drop, map, length}
use Rattle.cpc_tree.specs.Erase.{Names, parameter_of}
use Rattle.cpc_eval_locals.specs.Held.{held_among, held_from}
use Rattle.cpc_eval_variables.specs.Told.{IsTold}
use Rattle.cpc_eval_locals.specs.Locals.{held_of}
use Rattle.cpc_eval_locals.proofs.locals.last_parameter.Given as goal

-- the parameters that are left decide
abbrev pub invariant-loop-slot : goal.invariant-loop-slot
invariant-loop-slot l = record {
  within : l.slot ≤ length l.parameters;
  rest : (names : Names) → IsTold names l.parameters
      → held_from (names l.name) l.slot (held_of names l.held) (map (parameter_of names) (drop l.slot l.parameters)) ≡ held_among (names l.name) 0 (map (parameter_of names) l.parameters);
}
