use Rattle.std.proofs.Common.{◌≡◌, ℕ, ◌<◌, false, length, get_or, drop}
use Rattle.std.specs.Prelude.{◌||◌}
use Rattle.cpc_tree.specs.Lists.{holds_number}
use Rattle.cpc_eval_variables.proofs.registers.marked.Given as goal

-- with the numbers that are left, all are marked
abbrev pub invariant-loop-number : goal.invariant-loop-number
invariant-loop-number l = record {
  length : length l.flags.items ≡ l.count;
  flags : (k : ℕ) → k < l.count → (get_or l.flags.items k false || holds_number (drop l.number-index l.numbers) k) ≡ holds_number l.numbers k;
}
