use Rattle.std.proofs.Common.{sym, ◌∙◌}
use Rattle.cpc_types.proofs.Integrals.{field_integers, field_others}
use Rattle.cpc_types.proofs.integers.fields_integers.Goals as goal

pub returns-then-not-are_integers : goal.returns-then-not-are_integers
returns-then-not-are_integers c = λ names p sizes told.
    sym (c.loop-field.invariant names p sizes told
    ∙ field_others names p c.args.fields.now c.loop-field.field-index c.field-item.result c.are_integers.result c.loop-field-test.true c.field-item.is (c.are_integers.ensures names p sizes told) c.if-not-are_integers.true)

pub loop-field-preserved : goal.loop-field-preserved
loop-field-preserved c = λ names p sizes told.
    c.loop-field.invariant names p sizes told
    ∙ field_integers names p c.args.fields.now c.loop-field.field-index c.field-item.result c.are_integers.result c.loop-field-test.true c.field-item.is (c.are_integers.ensures names p sizes told) c.if-not-are_integers.false
