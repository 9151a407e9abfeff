use Rattle.std.proofs.Common.{◌≡◌, ◌++◌, map, take}
use Rattle.cpc_tree.specs.Erase.{Names, Table, in_table, item_of}
use Rattle.cpc_convert_routines.specs.Kept.{kept_items}
use Rattle.cpc_convert_names.specs.Book.{IsBook}
use Rattle.cpc_chains_items.specs.Listed.{listed}
use Rattle.cpc_chains_items.proofs.items.Items.keep.Given as goal

-- what stays so far
abbrev pub invariant-loop-item : goal.invariant-loop-item
invariant-loop-item l = (table : Table) (to : Names) → IsBook table to l.book → map (item_of (in_table table)) l.source ≡ map (item_of to) l.source
    → listed to l.self ≡ listed to l.initial.self ++ kept_items (map (item_of to) (take l.item-index l.source))
