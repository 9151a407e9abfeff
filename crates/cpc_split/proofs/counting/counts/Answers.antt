use Rattle.std.proofs.Common.{◌≡◌, ◌∙◌, ap, ◌*◌, ◌<◌, length, get_or, arith}
use Rattle.cpc_forms.specs.Marks.{counted}
use Rattle.cpc_split.specs.Steps.{flow_by}
use Rattle.cpc_split.proofs.Once.{entry_inside, counted_few}
use Rattle.cpc_split.proofs.counting.counts.Goals as goal

pub count_one-requires-clause-within : goal.count_one-requires-clause-within
count_one-requires-clause-within c = λ m e.
    let h = entry_inside c.args.entry c.args.steps.now c.requires m e in
    let i : length c.deref_mut.result.now ≡ length c.args.steps.now = c.deref_mut.ensures.len ∙ c.in_ok-counts.ensures.len in
    omega arith

pub count_step-requires-clause-room : goal.count_step-requires-clause-room
count_step-requires-clause-room c = λ m.
    let few = counted_few (flow_by c.args.entry c.args.steps.now) m c.loop-i.i in
    let is : get_or c.deref_mut-in-loop-i.result.now m 0 ≡ counted (flow_by c.args.entry c.args.steps.now) m c.loop-i.i = ap (λ xs. get_or xs m 0) c.deref_mut-in-loop-i.ensures.value ∙ c.loop-i.invariant.counts m in
    let test = c.loop-i-test.true in
    let long : length c.deref_mut-in-loop-i.result.now ≡ length c.args.steps.now = ap length c.deref_mut-in-loop-i.ensures.value ∙ c.loop-i.invariant.length in
    let fits : length c.deref_mut-in-loop-i.result.now * 8 < 9223372036854775808 = c.deref_mut-in-loop-i.type_inv.1 in
    omega arith
