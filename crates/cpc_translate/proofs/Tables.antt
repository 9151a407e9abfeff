-- A program whose names with places are all in its table has all its names in it.
use Rattle.std.proofs.Common.{map, sym, ap, ◌∙◌}
use Rattle.cpc_tree.specs.declared.program.Program as GProgram
use Rattle.cpc_tree.specs.Erase.{in_table}
use Rattle.cpc_tree.specs.Located.{bare_item}
use Rattle.cpc_tree.proofs.Places.{bare_items}
use Rattle.cpc_check.specs.Accepted.{IsWithin}
use Rattle.cpc_convert_names.specs.Tables.{AreWithin}

-- ---- so

pub are_within : (p : GProgram.Program) → IsWithin p → AreWithin p
are_within p within names spells =
    sym (bare_items names p.items.items) ∙ ap (map bare_item) (within.alike names (λ n lt. spells.spelled n lt)) ∙ bare_items (in_table p.names) p.items.items
