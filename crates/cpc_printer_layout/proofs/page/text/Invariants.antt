use Rattle.std.specs.Prelude.{option_map}
use Rattle.cpc_tree.specs.Erase.{in_table}
use Rattle.cpc_printer_layout.proofs.Laid.{LaidSoFar}
use Rattle.cpc_printer_layout.proofs.page.text.Given as goal

abbrev pub invariant-loop-piece : goal.invariant-loop-piece
invariant-loop-piece l = LaidSoFar (in_table l.names) l.sheet.pieces.items l.piece-index l.out.items (option_map (λ x. x.now) l.last)
