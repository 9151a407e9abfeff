use Rattle.std.proofs.Common.{◌≡◌, ◌++◌, drop, map}
use Rattle.cpc_tree.specs.Erase.{Names, parameter_of}
use Rattle.cpc_printer_layout.specs.Sheets.{row_of}
use Rattle.cpc_printer.specs.Types.{further_row}
use Rattle.cpc_printer.proofs.types.parameters.Given as goal

-- what is put and what is left to put
abbrev pub invariant-loop-next : goal.invariant-loop-next
invariant-loop-next l = record {
  row : (names : Names) → row_of names l.out ++ further_row l.fn.out.is_tight (map (parameter_of names) (drop l.next-index l.rest)) ≡ row_of names l.initial.out ++ further_row l.fn.out.is_tight (map (parameter_of names) l.rest);
  style : l.out.is_tight ≡ l.fn.out.is_tight;
}
