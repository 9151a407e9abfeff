use Rattle.std.proofs.Common.{map, All, ◌+◌, arith, sym, ap, subst, ◌∙◌}
use Rattle.cpc_tree.specs.Erase.{expr_of}
use Rattle.cpc_tree.specs.Syntax as S
use Rattle.cpc_forms.specs.Flow.{At}
use Rattle.cpc_chains_lines.specs.Around.{IsVariable}
use Rattle.cpc_chains_lines.specs.Puts.{saves}
use Rattle.cpc_chains_lines.specs.Written.{written, puts}
use Rattle.cpc_chains_lines.proofs.Framing.{frame_made}
use Rattle.cpc_chains_lines.proofs.Puts.{put_at, all_put}
use Rattle.cpc_chains_lines.proofs.Within.{kept_are}
use Rattle.cpc_chains_lines.proofs.frames.make_frame.Goals as goal

pub loop-number-preserved : goal.loop-number-preserved
loop-number-preserved c = λ source from to p r st all.
    let ks = c.closure-kept.result.now in
    let i = c.loop-number.number-index in
    let g = saves r (to c.args.pointer) (to c.piece-tag.result) in
    put_at g ks i (i + 1) 0 (written to c.loop-number.out) _ (puts (written to c.begin_frame.new.out) (map g ks)) c.loop-number-test.true (omega arith)
    (c.loop-number.invariant source from to p r st all) (c.in_ok-save.ensures source from to p r st (all i 0 c.loop-number-test.true))

pub returns : goal.returns
returns c = λ source from to p r st node.
    let a = c.args.around in
    let kept = c.closure-kept.result.now in
    let pointer = to c.args.pointer in
    let tag = to c.piece-tag.result in
    let g = saves r pointer tag in
    let same = c.closure-kept.ensures source from to p r st node in
    let all = subst (All (IsVariable a)) (sym same) (kept_are source from to p r a st (At c.args.leader)) in
    frame_made r c.args.leader pointer tag (expr_of to c.named-below.result) kept (written to c.args.out.now) (written to c.ask_block.new.out) (written to c.begin_frame.new.out) (written to c.loop-number.out)
    (c.piece-tag.ensures source from to p r st node) (c.named-below.ensures to ∙ ap (λ x. S.ENamed x) st.book.own.next) same (c.in_ok-ask_block.ensures source to st.book) (c.in_ok-begin_frame.ensures source to st.book)
    (all_put g kept c.loop-number.number-index (written to c.loop-number.out) (puts (written to c.begin_frame.new.out) (map g kept)) c.loop-number-test.false (c.loop-number.invariant source from to p r st all))
