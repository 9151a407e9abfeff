use Rattle.cpc_eval.specs.Around.{context_of}
use Rattle.cpc_native_plans.specs.Rows.{row_types}
use Rattle.cpc_native_changes.proofs.Foreseeing.{numbers_here, pass_not, pass_on, pass_end}
use Rattle.cpc_native_changes.proofs.looked.is_passed.Goals as goal

pub loop-i-preserved : goal.loop-i-preserved
loop-i-preserved c = λ names told n.
    let k = context_of names c.args.around.now in
    let ts = row_types names c.args.types in
    let args = c.args.arguments.now in
    let i = c.loop-i.i in
    let x = c.index-arguments-i.result in
    let left = c.loop-i.invariant names told n in
    let here = numbers_here names k ts args i x c.loop-i-test.true c.index-arguments-i.is left in
    pass_on names k ts args i x c.loop-i-test.true c.index-arguments-i.is left (c.if-not-is_passed_at.ensures names told here)

pub returns-then-not-is_passed_at : goal.returns-then-not-is_passed_at
returns-then-not-is_passed_at c = λ names told n.
    let k = context_of names c.args.around.now in
    let ts = row_types names c.args.types in
    let args = c.args.arguments.now in
    let i = c.loop-i.i in
    let x = c.index-arguments-i.result in
    let left = c.loop-i.invariant names told n in
    let here = numbers_here names k ts args i x c.loop-i-test.true c.index-arguments-i.is left in
    pass_not names k ts args i x c.loop-i-test.true c.index-arguments-i.is left (c.if-not-is_passed_at.ensures names told here)

pub returns : goal.returns
returns c = λ names told n.
    pass_end names (context_of names c.args.around.now) (row_types names c.args.types) c.args.arguments.now c.loop-i.i c.loop-i-test.false (c.loop-i.invariant names told n)
