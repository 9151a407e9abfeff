use Rattle.std.proofs.Common.{false, arith}
use Rattle.cpc_printer_layout.proofs.Blanks.{four_blanks, some_more, then_more}
use Rattle.cpc_printer_layout.proofs.page.put_levels.Goals as goal

pub loop-preserved : goal.loop-preserved
loop-preserved c = then_more false false _ _ _ c.loop.invariant (some_more false _ _ _ four_blanks (omega arith) c.in_ok-extend_from_slice.ensures.items)
