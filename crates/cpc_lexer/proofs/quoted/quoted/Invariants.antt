use Rattle.std.proofs.Common.{length, ◌-◌, ◌≡◌, ◌≤◌, take, Some}
use Rattle.cpc_tree.specs.Pieces.{Open, state_of}
use Rattle.cpc_lexer.specs.Fronts.{quote_of, escape_of, IsInRange}
use Rattle.cpc_lexer.proofs.quoted.quoted.Given as goal

abbrev pub invariant-loop-n : goal.invariant-loop-n
invariant-loop-n l = (1 ≤ l.n) × (l.n ≤ length l.text) × (state_of (take l.n l.text) ≡ Some (Open (quote_of l.quote) l.held.items (escape_of l.escape))) × IsInRange l.escape

abbrev pub decreases-loop-n : goal.decreases-loop-n
decreases-loop-n l = length l.text - l.n
