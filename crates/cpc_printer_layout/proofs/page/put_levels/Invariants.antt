use Rattle.std.proofs.Common.{false}
use Rattle.cpc_printer_layout.specs.Layout.{BlanksMore}
use Rattle.cpc_printer_layout.proofs.page.put_levels.Given as goal

abbrev pub invariant-loop : goal.invariant-loop
invariant-loop l = BlanksMore false l.initial.out.items l.out.items
