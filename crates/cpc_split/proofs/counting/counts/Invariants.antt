use Rattle.std.proofs.Common.{◌≡◌, ℕ, length, get_or}
use Rattle.cpc_forms.specs.Marks.{counted}
use Rattle.cpc_split.specs.Steps.{flow_by}
use Rattle.cpc_split.proofs.counting.counts.Given as goal

-- the places up to here are counted
abbrev pub invariant-loop-i : goal.invariant-loop-i
invariant-loop-i l = record {
  length : length l.counts.items ≡ length l.steps;
  counts : (k : ℕ) → get_or l.counts.items k 0 ≡ counted (flow_by l.entry l.steps) k l.i;
}
