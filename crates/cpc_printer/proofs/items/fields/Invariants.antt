use Rattle.std.proofs.Common.{◌≡◌, ◌++◌, drop, map}
use Rattle.cpc_tree.specs.Erase.{Names, field_of}
use Rattle.cpc_tree.specs.ItemPrint.{fields_row}
use Rattle.cpc_printer_layout.specs.Sheets.{row_of}
use Rattle.cpc_printer.proofs.items.fields.Given as goal

-- what is put and what is left to put
abbrev pub invariant-loop-of : goal.invariant-loop-of
invariant-loop-of l = record {
  row : (names : Names) → row_of names l.out ++ fields_row l.fn.out.is_tight (map (field_of names) (drop l.of-index l.list)) ≡ row_of names l.fn.out ++ fields_row l.fn.out.is_tight (map (field_of names) l.list);
  style : l.out.is_tight ≡ l.fn.out.is_tight;
}
