use Rattle.std.proofs.Common.{◌≡◌, ◌<◌, ◌+◌, ℕ, List, [], length, arith, refl, sym, ap, ◌∙◌}
use Rattle.cpc_forms_code.specs.declared.boxed.Variable.{Variable}
use Rattle.cpc_convert_names.specs.Called.{variables_in}
use Rattle.cpc_chains_lines.specs.Puts.{unboxes}
use Rattle.cpc_forms_code.specs.Lifts.{unless}
use Rattle.cpc_convert_needs.specs.Known.{boxes_among}
use Rattle.cpc_chains_lines.specs.Written.{written, puts}
use Rattle.cpc_chains_lines.proofs.Framing.{unboxes_rows}
use Rattle.cpc_chains_lines.proofs.Puts.{box_put, boxes_put}
use Rattle.cpc_chains_lines.proofs.leaving.unbox.Goals as goal

pub loop-number-preserved : goal.loop-number-preserved
loop-number-preserved c = λ source from to p r st.
    let vs = c.variables-variables.result.now in
    let i = c.loop-number.number in
    let lt : i < length vs = c.loop-number-test.true in
    let long : length vs ≡ length (variables_in c.args.around.called.now.lifted.now) = ap length c.variables-variables.ensures in
    let is : i < length (variables_in c.args.around.called.now.lifted.now) = omega (arith, lt, long) in
    box_put (unboxes r) (unboxes_rows r) vs i (i + 1) c.index-variables-number.result (written to c.loop-number.out) _ (puts (written to c.args.out.now) (unboxes r (boxes_among 0 vs))) c.index-variables-number.is lt (omega arith)
    (c.loop-number.invariant source from to p r st) (c.in_ok-unbox_unless.ensures source from to p r st is ∙ ap (λ (v : Variable). puts (written to c.loop-number.out) (unboxes r (unless v.is_register i []))) (sym c.index-variables-number.is))

pub returns : goal.returns
returns c = λ source from to p r st.
    let vs = c.variables-variables.result.now in
    let u = written to c.args.out.now in
    boxes_put (unboxes r) refl vs c.loop-number.number (written to c.loop-number.out) (puts u (unboxes r (boxes_among 0 vs))) c.loop-number-test.false (c.loop-number.invariant source from to p r st)
    ∙ ap (λ (l : List ℕ). puts u (unboxes r l)) (ap (boxes_among 0) c.variables-variables.ensures ∙ sym st.routine.boxes)
