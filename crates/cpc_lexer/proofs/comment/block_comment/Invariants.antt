use Rattle.std.proofs.Common.{length, ◌-◌, ◌≡◌, ◌≤◌, take, Some}
use Rattle.cpc_tree.specs.Pieces.{state_of}
use Rattle.cpc_lexer.proofs.Steps.{block_state}
use Rattle.cpc_lexer.proofs.comment.block_comment.Given as goal

abbrev pub invariant-loop-n : goal.invariant-loop-n
invariant-loop-n l = (2 ≤ l.n) × (l.n ≤ length l.text) × (state_of (take l.n l.text) ≡ Some (block_state l.starred))

abbrev pub decreases-loop-n : goal.decreases-loop-n
decreases-loop-n l = length l.text - l.n
