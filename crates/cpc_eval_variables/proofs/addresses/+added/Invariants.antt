use Rattle.std.proofs.Common.{◌≡◌, ◌++◌, drop}
use Rattle.cpc_tree.specs.Erase.{Names, exprs_of}
use Rattle.cpc_tree.specs.Registers.{addresses_all}
use Rattle.cpc_eval_variables.specs.Told.{IsTold}
use Rattle.cpc_eval_variables.specs.Scoped.{scope_of}
use Rattle.cpc_eval_variables.proofs.addresses.+added.Given as goal

-- with what is left, all of the row is gathered
abbrev pub invariant-add_all_addresses-loop-e : goal.invariant-add_all_addresses-loop-e
invariant-add_all_addresses-loop-e l = (names : Names) → IsTold names l.scope.parameters.now
    → l.found.items ++ addresses_all (scope_of names l.scope) (exprs_of names (drop l.e-index l.row)) ≡ l.initial.found.items ++ addresses_all (scope_of names l.scope) (exprs_of names l.row)
