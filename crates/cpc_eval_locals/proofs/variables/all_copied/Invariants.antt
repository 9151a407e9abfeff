use Rattle.std.proofs.Common.{◌≡◌, take}
use Rattle.cpc_tree.specs.Erase.{Names}
use Rattle.cpc_eval_variables.specs.Kept.{kept_of}
use Rattle.cpc_eval_locals.specs.Kept.{kept_by}
use Rattle.cpc_eval_locals.proofs.variables.all_copied.Given as goal

-- the copies so far are of the variables so far
abbrev pub invariant-loop-variable : goal.invariant-loop-variable
invariant-loop-variable l = (names : Names) → kept_by names l.all.items ≡ kept_of names (take l.variable-index l.found)
