use Rattle.std.proofs.Common.{◌∙◌, map, ap}
use Rattle.cpc_tree.specs.Erase.{field_of}
use Rattle.cpc_shapes.specs.Declaring.{item_at, fields_of}
use Rattle.cpc_eval_index.specs.Indexed.{program_items, items_of}
use Rattle.cpc_eval_index.proofs.FieldRows.{row_missing, row_found}
use Rattle.cpc_eval_index.proofs.Kept.{structs_known, offsets_known}
use Rattle.cpc_eval_index.proofs.Known.{fields_known, field_absent, field_known}
use Rattle.cpc_eval_index.proofs.index.Index.field.Goals as goal

pub tagged-requires : goal.tagged-requires
tagged-requires c = (structs_known c.args.self.now).structs.tagged

pub returns-in-None : goal.returns-in-None
returns-in-None c = λ names apart.
    let i = c.args.self.now in
    field_absent (items_of names i) (names c.args.tag) (names c.args.name)
    (ap (λ o. fields_of names (item_at (program_items i) o)) c.in-None.ensures
    ∙ fields_known names apart (program_items i) i.table.now.declared.structs c.args.tag (structs_known i))

pub returns-in-None-row : goal.returns-in-None-row
returns-in-None-row c = λ names apart.
    let i = c.args.self.now in
    field_absent (items_of names i) (names c.args.tag) (names c.args.name)
    (row_missing names apart (program_items i) i.table.now.offsets (offsets_known i) c.in-Some.place c.in-None-row.ensures
    ∙ ap (λ o. fields_of names (item_at (program_items i) o)) c.in-Some.ensures
    ∙ fields_known names apart (program_items i) i.table.now.declared.structs c.args.tag (structs_known i))

pub returns-in-None-fields_at : goal.returns-in-None-fields_at
returns-in-None-fields_at c = λ names apart.
    let i = c.args.self.now in
    field_absent (items_of names i) (names c.args.tag) (names c.args.name)
    (c.in-None-fields_at.ensures names
    ∙ ap (λ o. fields_of names (item_at (program_items i) o)) c.in-Some.ensures
    ∙ fields_known names apart (program_items i) i.table.now.declared.structs c.args.tag (structs_known i))

pub returns-in-Some-fields_at : goal.returns-in-Some-fields_at
returns-in-Some-fields_at c = λ names apart.
    let i = c.args.self.now in
    let fs = map (field_of names) c.in-Some-fields_at.fields.now in
    c.field_in.ensures names apart (items_of names i)
    (row_found names apart (program_items i) i.table.now.offsets (offsets_known i) c.in-Some.place c.in-Some-row.row.now fs c.in-Some-row.ensures (c.in-Some-fields_at.ensures names))
    ∙ field_known (items_of names i) (names c.args.tag) (names c.args.name) fs
    (c.in-Some-fields_at.ensures names
    ∙ ap (λ o. fields_of names (item_at (program_items i) o)) c.in-Some.ensures
    ∙ fields_known names apart (program_items i) i.table.now.declared.structs c.args.tag (structs_known i))
