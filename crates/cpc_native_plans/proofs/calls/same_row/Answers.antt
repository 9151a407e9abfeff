use Rattle.std.proofs.Common.{◌==◌, false, true, length, refl, ap, sym, ◌∙◌}
use Rattle.cpc_tree.specs.Erase.{type_of}
use Rattle.cpc_native_plans.specs.Rows.{row_types, parameter_list}
use Rattle.cpc_native_plans.specs.Calls.{is_same}
use Rattle.std.specs.Prelude.{slice_get}
use Rattle.cpc_tree.specs.declared.program.Parameter.{Parameter}
use Rattle.cpc_native_plans.proofs.Alike.{unlike, parameter_count, alike_more, alike_not}
use Rattle.cpc_native_plans.proofs.calls.same_row.Goals as goal

pub returns-then-not-has_length : goal.returns-then-not-has_length
returns-then-not-has_length c = λ names apart.
    let ts = row_types names c.args.row in
    let ps = c.args.parameters.now in
    sym (unlike ts (parameter_list names ps) (ap (λ n. length ts == n) (parameter_count names ps) ∙ sym (c.if-not-has_length.ensures names)))

pub returns-then-not-is_nth : goal.returns-then-not-is_nth
returns-then-not-is_nth c = λ names apart.
    let ts = row_types names c.args.row in
    let ps = c.args.parameters.now in
    let i = c.loop-i.i in
    let p = c.index-parameters-i.result in
    let compared = c.if-not-is_nth.ensures names apart ∙ ap (λ (q : Parameter). is_same (slice_get ts i) (type_of names q.of)) c.index-parameters-i.is in
    sym (c.loop-i.invariant names apart ∙ alike_not names ts ps i p c.loop-i-test.true false compared refl)

pub loop-i-preserved : goal.loop-i-preserved
loop-i-preserved c = λ names apart.
    let ts = row_types names c.args.row in
    let ps = c.args.parameters.now in
    let i = c.loop-i.i in
    let p = c.index-parameters-i.result in
    let compared = c.if-not-is_nth.ensures names apart ∙ ap (λ (q : Parameter). is_same (slice_get ts i) (type_of names q.of)) c.index-parameters-i.is in
    c.loop-i.invariant names apart ∙ alike_more names ts ps i p c.loop-i-test.true true compared refl
