use Rattle.std.proofs.Common.{◌≤◌, ◌<◌, ◌∙◌, ap, sym, option_map, refl, length, arith}
use Rattle.std.proofs.lemmas.Option.{slice_get_read, slice_get_past}
use Rattle.cpc_tree.specs.Erase.{type_of}
use Rattle.cpc_eval_index.proofs.FieldRows.{found_by, field_here, field_passed, field_over}
use Rattle.cpc_eval_index.proofs.fields.field_in.Goals as goal

pub loop-i-preserved : goal.loop-i-preserved
loop-i-preserved c = λ names apart.
    c.loop-i.invariant names apart
    ∙ field_passed names apart c.args.offsets.now c.args.fields.now c.loop-i.i c.args.name c.index-fields-i.result c.loop-i-test.true c.index-fields-i.is c.if-field-name.false

pub returns-in_err-offset : goal.returns-in_err-offset
returns-in_err-offset c = λ names apart p is.
    let past : length c.args.offsets.now ≤ c.loop-i.i = omega (arith, c.in_err-offset.ensures.lookup) in
    rw c.from_residual.ensures
    (sym (found_by names p c.args.offsets.now c.args.fields.now c.args.name is
    ∙ c.loop-i.invariant names apart
    ∙ field_here names apart c.args.offsets.now c.args.fields.now c.loop-i.i c.args.name c.index-fields-i.result c.loop-i-test.true c.index-fields-i.is c.if-field-name.true
    ∙ ap (option_map (λ n. (n, type_of names c.index-fields-i.result.of))) (slice_get_past c.args.offsets.now c.loop-i.i past)))

pub returns-then-field-name : goal.returns-then-field-name
returns-then-field-name c = λ names apart p is.
    let ns = c.args.offsets.now in
    let i = c.loop-i.i in
    let within : i < length ns = omega (arith, c.in_ok-offset.ensures.lookup) in
    sym (found_by names p c.args.offsets.now c.args.fields.now c.args.name is
    ∙ c.loop-i.invariant names apart
    ∙ field_here names apart c.args.offsets.now c.args.fields.now c.loop-i.i c.args.name c.index-fields-i.result c.loop-i-test.true c.index-fields-i.is c.if-field-name.true
    ∙ ap (option_map (λ n. (n, type_of names c.index-fields-i.result.of))) (slice_get_read ns (length ns) i c.in_ok-offset.offset.now refl within c.in_ok-offset.ensures.lookup.1))

pub returns : goal.returns
returns c = λ names apart p is.
    sym (found_by names p c.args.offsets.now c.args.fields.now c.args.name is
    ∙ c.loop-i.invariant names apart
    ∙ field_over names c.args.offsets.now c.args.fields.now c.loop-i.i c.args.name c.loop-i-test.false)
