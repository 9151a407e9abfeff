use Rattle.std.proofs.Common.{length, ◌-◌, ◌≡◌, ◌≤◌, take, Some}
use Rattle.cpc_tree.specs.Tokens.{punctuator_spelling}
use Rattle.cpc_tree.specs.Pieces.{Sign, state_of}
use Rattle.cpc_lexer.proofs.mark.mark.Given as goal

abbrev pub invariant-loop-n : goal.invariant-loop-n
invariant-loop-n l = (1 ≤ l.n) × (l.n ≤ length l.text) × (state_of (take l.n l.text) ≡ Some (Sign l.mark)) × (punctuator_spelling l.mark ≡ take l.n l.text)

abbrev pub decreases-loop-n : goal.decreases-loop-n
decreases-loop-n l = length l.text - l.n
