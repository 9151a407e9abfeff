use Rattle.std.proofs.Common.{◌≡◌, true, false, get_or, arith}
use Rattle.cpc_lexer.proofs.Steps.{block_begun, block_closed, block_goes, block_open}
use Rattle.cpc_lexer.proofs.comment.block_comment.Goals as goal
use Rattle.cpc_lexer.proofs.comment.block_comment.Goals.{else-starred-via-then-starred+else-b-eq47, else-starred-via-else-starred}

pub loop-n-init : goal.loop-n-init
loop-n-init c = (omega arith, c.requires.two, block_begun c.args.text.now c.requires.two c.requires.slash c.requires.star)

pub returns-then-b-eq47 : goal.returns-then-b-eq47
returns-then-b-eq47 c = λ dialect. block_closed dialect c.args.text.now c.loop-n.n 0 c.loop-n-test.true (rw c.if-starred.true at c.loop-n.invariant.2) c.if-b-eq47.true

pub loop-n-preserved : goal.loop-n-preserved
loop-n-preserved c =
    let goes_on : (c.loop-n.starred ≡ true → get_or c.args.text.now c.loop-n.n 0 ≡ 47 → ⊥) = elim c.else-starred.branch [
      | else-starred-via-then-starred+else-b-eq47 w ↦ λ e. w.if-b-eq47.false
      | else-starred-via-else-starred w ↦ λ e f. let h : true ≡ false = cc in absurd cc
    ] in
    (omega arith, omega arith, block_goes c.args.text.now c.loop-n.n 0 c.loop-n.starred c.loop-n-test.true c.loop-n.invariant.2 goes_on)

pub returns : goal.returns
returns c = λ dialect. block_open dialect c.args.text.now c.loop-n.n c.loop-n.starred c.loop-n.invariant.0 (omega arith) c.loop-n.invariant.2
