use Rattle.std.proofs.Common.{◌≡◌, ◌++◌, drop}
use Rattle.cpc_tree.specs.Erase.{Names}
use Rattle.cpc_tree.specs.TypePrint.{rest_row}
use Rattle.cpc_printer_layout.specs.Sheets.{row_of}
use Rattle.cpc_printer.specs.Types.{listed_types}
use Rattle.cpc_printer.proofs.types.+declarators.Given as goal

-- what is put and what is left to put
abbrev pub invariant-parameter_types-loop-of : goal.invariant-parameter_types-loop-of
invariant-parameter_types-loop-of l = record {
  row : (names : Names) → row_of names l.out ++ rest_row l.fn.out.is_tight (listed_types names (drop l.of-index l.rest)) ≡ row_of names l.initial.out ++ rest_row l.fn.out.is_tight (listed_types names l.rest);
  style : l.out.is_tight ≡ l.fn.out.is_tight;
}
