use Rattle.std.proofs.Common.{◌≡◌, map, take}
use Rattle.cpc_tree.specs.Erase.{Names}
use Rattle.cpc_meaning.specs.Machine.{byte_of}
use Rattle.cpc_eval_values.specs.Shown.{values_of}
use Rattle.cpc_run.proofs.asked.bytes.Given as goal

abbrev pub invariant-loop-value : goal.invariant-loop-value
invariant-loop-value l = (names : Names) → l.text.items ≡ map byte_of (values_of names (take l.value-index l.values))
