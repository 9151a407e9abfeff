use Rattle.std.proofs.Common.{◌≡◌, ◌++◌, drop}
use Rattle.cpc_tree.specs.Erase.{Names, list_of}
use Rattle.cpc_tree.specs.StmtPrint.{block_row}
use Rattle.cpc_printer_layout.specs.Sheets.{row_of}
use Rattle.cpc_printer.proofs.statements.+sentences.Given as goal

-- what is put and what is left to put
abbrev pub invariant-statements-loop-s : goal.invariant-statements-loop-s
invariant-statements-loop-s l = record {
  row : (names : Names) → row_of names l.out ++ block_row l.fn.out.is_tight (list_of names (drop l.s-index l.inner)) ≡ row_of names l.fn.out ++ block_row l.fn.out.is_tight (list_of names l.inner);
  style : l.out.is_tight ≡ l.fn.out.is_tight;
}
