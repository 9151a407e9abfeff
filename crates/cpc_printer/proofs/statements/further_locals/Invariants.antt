use Rattle.std.proofs.Common.{◌≡◌, ◌++◌, drop}
use Rattle.cpc_tree.specs.Erase.{Names, list_of}
use Rattle.cpc_tree.specs.StmtPrint.{locals_row}
use Rattle.cpc_printer_layout.specs.Sheets.{row_of}
use Rattle.cpc_printer.proofs.statements.further_locals.Given as goal

-- what is put and what is left to put
abbrev pub invariant-loop-s : goal.invariant-loop-s
invariant-loop-s l = record {
  row : (names : Names) → row_of names l.out ++ locals_row l.fn.out.is_tight (list_of names (drop l.s-index l.rest)) ≡ row_of names l.fn.out ++ locals_row l.fn.out.is_tight (list_of names l.rest);
  style : l.out.is_tight ≡ l.fn.out.is_tight;
}
