use Rattle.std.proofs.Common.{◌≡◌, ◌++◌, drop, map}
use Rattle.cpc_tree.specs.Erase.{Names, item_of}
use Rattle.cpc_tree.specs.ItemPrint.{program_row}
use Rattle.cpc_printer_layout.specs.Sheets.{row_of}
use Rattle.cpc_printer.proofs.items.further_items.Given as goal

-- what is put and what is left to put
abbrev pub invariant-loop-next : goal.invariant-loop-next
invariant-loop-next l = record {
  row : (names : Names) → row_of names l.out ++ program_row l.fn.out.is_tight (map (item_of names) (drop l.next-index l.rest)) ≡ row_of names l.fn.out ++ program_row l.fn.out.is_tight (map (item_of names) l.rest);
  style : l.out.is_tight ≡ l.fn.out.is_tight;
}
