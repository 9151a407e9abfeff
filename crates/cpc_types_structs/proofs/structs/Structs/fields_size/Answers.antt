use Rattle.std.proofs.Common.{◌∙◌, ◌+◌, ℕ, map, drop, option_map, sym, ap, arith}
use Rattle.cpc_tree.specs.Erase.{field_of}
use Rattle.cpc_shapes.specs.Counted.{fields_count}
use Rattle.cpc_types_structs.specs.Sized.{capped}
use Rattle.cpc_types_structs.proofs.Cells.{field_counted, field_uncounted}
use Rattle.cpc_types_structs.proofs.structs.Structs.fields_size.Goals as goal

pub loop-field-preserved : goal.loop-field-preserved
loop-field-preserved c = record {
  low = omega arith;
  rest = λ names p sizes.
      c.loop-field.invariant.rest names p sizes
      ∙ field_counted names p c.args.fields.now c.loop-field.field-index c.field-item.result c.loop-field.total _ c.loop-field-test.true c.field-item.is (c.in_ok-count.ensures names p sizes)
      ∙ ap (λ (s : ℕ). option_map (λ n. capped (s + n)) (fields_count p (map (field_of names) (drop (c.loop-field.field-index + 1) c.args.fields.now)))) (sym c.saturating_add-total.ensures);
}

pub returns-in_err-count : goal.returns-in_err-count
returns-in_err-count c = λ names p sizes.
    rw c.from_residual.ensures
    (sym (c.loop-field.invariant.rest names p sizes
    ∙ field_uncounted names p c.args.fields.now c.loop-field.field-index c.field-item.result c.loop-field.total c.loop-field-test.true c.field-item.is (c.in_err-count.ensures names p sizes)))
