use Rattle.std.proofs.Common.{sym, arith}
use Rattle.cpc_tree.proofs.Behind.{behind_none}
use Rattle.cpc_lexer.proofs.Places.{behind_line, behind_other}
use Rattle.cpc_lexer.proofs.text.place_behind.Goals as goal
use Rattle.cpc_lexer.proofs.text.place_behind.Goals.{then-b-eq10, else-b-eq10}

pub loop-b-init : goal.loop-b-init
loop-b-init c = (sym (behind_none c.args.place), omega arith, omega arith)

pub loop-b-preserved : goal.loop-b-preserved
loop-b-preserved c = elim c.if-b-eq10.branch [
  | then-b-eq10 w ↦ rw (w.line-is, w.column-is) (behind_line c.args.place c.args.bytes.now c.loop-b.b-index c.loop-b.line c.loop-b.column c.loop-b-test.true c.loop-b.invariant.0 w.if-b-eq10.true, omega arith, omega arith)
  | else-b-eq10 w ↦ rw (w.line-is, w.column-is) (behind_other c.args.place c.args.bytes.now c.loop-b.b-index c.loop-b.line c.loop-b.column c.loop-b-test.true c.loop-b.invariant.0 w.if-b-eq10.false, omega arith, omega arith)
]
