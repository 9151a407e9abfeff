use Rattle.std.proofs.Common.{[], map, take}
use Rattle.cpc_tree.specs.Erase.{Names, parameter_of}
use Rattle.cpc_tree.specs.Registers.{as_variable, parameter_scope}
use Rattle.cpc_eval_variables.specs.Told.{IsTold}
use Rattle.cpc_box.specs.Walked.{Came}
use Rattle.cpc_box.proofs.walk.Walk.parameters.Given as goal

-- the parameters so far
abbrev pub invariant-loop-parameter : goal.invariant-loop-parameter
invariant-loop-parameter l = (names : Names) → IsTold names l.parameters
    → Came names l.kept l.initial.self l.self (map as_variable (map (parameter_of names) (take l.parameter-index l.parameters))) [] l.inner (parameter_scope 0 (map (parameter_of names) (take l.parameter-index l.parameters)) [])
