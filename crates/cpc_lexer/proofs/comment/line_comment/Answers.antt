use Rattle.std.proofs.Common.{arith}
use Rattle.cpc_lexer.proofs.Steps.{line_begun, line_closed, line_goes, line_open}
use Rattle.cpc_lexer.proofs.comment.line_comment.Goals as goal

pub loop-end-init : goal.loop-end-init
loop-end-init c = (omega arith, c.requires.two, line_begun c.args.text.now c.requires.two c.requires.slash c.requires.slashes)

pub returns-then-b-eq10 : goal.returns-then-b-eq10
returns-then-b-eq10 c = λ dialect. line_closed dialect c.args.text.now c.loop-end.end 0 c.loop-end-test.true c.loop-end.invariant.2 c.if-b-eq10.true

pub loop-end-preserved : goal.loop-end-preserved
loop-end-preserved c = (omega arith, omega arith, line_goes c.args.text.now c.loop-end.end 0 c.loop-end-test.true c.loop-end.invariant.2 c.if-b-eq10.false)

pub returns : goal.returns
returns c = λ dialect. line_open dialect c.args.text.now c.loop-end.end c.loop-end.invariant.0 (omega arith) c.loop-end.invariant.2
