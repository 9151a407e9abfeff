use Rattle.std.proofs.Common.{◌≡◌, ◌++◌, drop}
use Rattle.cpc_tree.specs.Erase.{Names, exprs_of}
use Rattle.cpc_printer_layout.specs.Sheets.{row_of}
use Rattle.cpc_printer.specs.Expressions.{further_args}
use Rattle.cpc_printer.proofs.expressions.+operands.Given as goal

-- what is put and what is left to put
abbrev pub invariant-arguments_of-loop-next : goal.invariant-arguments_of-loop-next
invariant-arguments_of-loop-next l = record {
  row : (names : Names) → row_of names l.out ++ further_args l.fn.out.is_tight (exprs_of names (drop l.next-index l.rest)) ≡ row_of names l.initial.out ++ further_args l.fn.out.is_tight (exprs_of names l.rest);
  style : l.out.is_tight ≡ l.fn.out.is_tight;
}
