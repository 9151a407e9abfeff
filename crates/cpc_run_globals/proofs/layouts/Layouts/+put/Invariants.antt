use Rattle.std.proofs.Common.{◌≡◌, ◌+◌, ◌*◌, List, Some, map, drop}
use Rattle.cpc_tree.specs.Erase.{Names, field_of}
use Rattle.cpc_tree.specs.Syntax.{Item}
use Rattle.cpc_run_globals.specs.Layouts.{AreLayouts}
use Rattle.cpc_eval_index.specs.Ends.{items_before}
use Rattle.cpc_eval_index.specs.Indexed.{program_items}
use Rattle.cpc_run_globals.specs.Rows.{fields_layout, joined}
use Rattle.cpc_run_globals.proofs.layouts.Layouts.+put.Given as goal

abbrev pub decreases-put : goal.decreases-put
decreases-put l = 3 * l.before + 2

abbrev pub decreases-put_element : goal.decreases-put_element
decreases-put_element l = 3 * l.before + 1

abbrev pub decreases-put_fields : goal.decreases-put_fields
decreases-put_fields l = 3 * l.place + 3

-- the fields that are left stand behind the row
abbrev pub invariant-put_fields-loop-field : goal.invariant-put_fields-loop-field
invariant-put_fields-loop-field l = (names : Names) (items : List Item) → AreLayouts l.self names items
    → (let b = items_before names (program_items l.self.index) l.place in joined (Some l.fn.row.items) (fields_layout b (map (field_of names) l.fields)) ≡ joined (Some l.row.items) (fields_layout b (map (field_of names) (drop l.field-index l.fields))))
