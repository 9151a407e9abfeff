use Rattle.std.proofs.Common.{length, ◌-◌, ◌≡◌, ◌≤◌, ◌+◌, ◌<◌, ◌^◌, take, drop}
use Rattle.std.specs.List.{prefix_len}
use Rattle.cpc_tree.specs.Pieces.{is_digit_of, value_of}
use Rattle.cpc_lexer.proofs.integer.of_base.Given as goal

abbrev pub invariant-loop-n : goal.invariant-loop-n
invariant-loop-n l = (l.n ≤ length l.numeral) × (prefix_len (is_digit_of l.base) l.numeral ≡ l.n + prefix_len (is_digit_of l.base) (drop l.n l.numeral)) × (l.value ≡ value_of l.base (take l.n l.numeral)) × (l.value < 2 ^ 64)

abbrev pub decreases-loop-n : goal.decreases-loop-n
decreases-loop-n l = length l.numeral - l.n
