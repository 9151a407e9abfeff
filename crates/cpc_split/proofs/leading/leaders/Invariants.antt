use Rattle.std.proofs.Common.{◌≡◌, ℕ, ◌<◌, false, length, get_or}
use Rattle.cpc_forms.specs.Flow.{is_leader}
use Rattle.cpc_split.specs.Steps.{flow_by}
use Rattle.cpc_split.proofs.leading.leaders.Given as goal

-- the leaders up to here are told
abbrev pub invariant-loop-i : goal.invariant-loop-i
invariant-loop-i l = record {
  length : length l.flags.items ≡ l.i;
  flags : (k : ℕ) → k < l.i → get_or l.flags.items k false ≡ is_leader (flow_by l.entry l.steps) k;
}
