use Rattle.std.proofs.Common.{List, not, map, refl, ap, ◌∙◌, arith}
use Rattle.cpc_tree.specs.declared.program.Field.{Field}
use Rattle.cpc_tree.specs.Erase.{type_of}
use Rattle.cpc_tree.specs.Locate.{located_field}
use Rattle.cpc_check_rules.specs.declared.rule.Rule.TheVariants.{Incomplete}
use Rattle.cpc_check_rules.specs.Rule.{at_if}
use Rattle.cpc_check_rules.specs.Scopes.{is_sized}
use Rattle.cpc_check_rules.specs.Noted.{noted, first_of}
use Rattle.cpc_check_rules.specs.ItemRules as R
use Rattle.cpc_types.specs.Scoped.{scope_of}
use Rattle.cpc_check_items.proofs.Notes.{row_step}
use Rattle.cpc_check_items.proofs.structs.field_rules.Goals as goal

pub loop-field-preserved : goal.loop-field-preserved
loop-field-preserved c = λ names apart.
    let s = scope_of names c.args.scope.now in
    let x : Field = c.field-item.result in
    row_step Field (λ (l : List Field). R.fields_breaks s (map (located_field names) l)) (at_if (not (is_sized s (type_of names x.of))) x.word.place Incomplete)
    c.args.fields.now c.loop-field.field-index x _ _ _ (omega arith) c.field-item.is
    (c.note_if.ensures ∙ ap (λ b. noted (first_of c.loop-field.first) (at_if (not b) x.word.place Incomplete)) (c.is_sized-is_fine.ensures names apart)) refl (c.loop-field.invariant names apart)
