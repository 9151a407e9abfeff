use Rattle.std.proofs.Common.{◌≡◌, take}
use Rattle.cpc_tree.specs.Erase.{Names}
use Rattle.cpc_meaning.specs.Answer.{Gives}
use Rattle.cpc_meaning.specs.Machine.{ints_of}
use Rattle.cpc_eval_values.specs.Shown.{values_of}
use Rattle.cpc_run.proofs.hosts.longs.Given as goal

abbrev pub invariant-loop-value : goal.invariant-loop-value
invariant-loop-value l = (names : Names) → ints_of (values_of names (take l.value-index l.values)) ≡ Gives l.numbers.items
