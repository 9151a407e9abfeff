use Rattle.std.proofs.Common.{ℕ, List, [], ◌∷◌, ◌+◌, ◌++◌, ◌∙◌, map, drop, ap, sym, arith}
use Rattle.cpc_tree.specs.Erase.{field_of}
use Rattle.cpc_eval_index.specs.Offsets.{offsets_from}
use Rattle.cpc_eval_index.proofs.FieldRows.{row_more}
use Rattle.cpc_eval_index.proofs.offsets.fields_offsets.Goals as goal

pub loop-field-preserved : goal.loop-field-preserved
loop-field-preserved c =
    let fs = c.args.fields.now in
    let i = c.loop-field.field-index in
    let row = c.loop-field.row.items in
    let offset = c.loop-field.offset in
    record {
      low = omega arith;
      rest = λ names p sizes.
          ap (λ (l : List ℕ). l ++ offsets_from p c.saturating_add-offset.result (map (field_of names) (drop (i + 1) fs))) c.in_ok-push.ensures.items
          ∙ ap (λ (n : ℕ). (row ++ offset ∷ []) ++ offsets_from p n (map (field_of names) (drop (i + 1) fs))) c.saturating_add-offset.ensures
          ∙ sym (row_more names p fs i c.field-item.result offset c.in-Some.count row c.loop-field-test.true c.field-item.is c.loop-field.invariant.low (c.in-Some.ensures names p sizes))
          ∙ c.loop-field.invariant.rest names p sizes;
    }
