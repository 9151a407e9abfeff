use Rattle.std.proofs.Common.{length, ◌-◌, ◌≡◌, ◌≤◌, take, Some}
use Rattle.cpc_tree.specs.Pieces.{state_of, LineComment}
use Rattle.cpc_lexer.proofs.comment.line_comment.Given as goal

abbrev pub invariant-loop-end : goal.invariant-loop-end
invariant-loop-end l = (2 ≤ l.end) × (l.end ≤ length l.text) × (state_of (take l.end l.text) ≡ Some LineComment)

abbrev pub decreases-loop-end : goal.decreases-loop-end
decreases-loop-end l = length l.text - l.end
