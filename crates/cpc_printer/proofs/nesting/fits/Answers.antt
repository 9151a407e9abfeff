use Rattle.std.proofs.Common.{arith}
use Rattle.cpc_tree.specs.Erase.{in_table}
use Rattle.cpc_printer.proofs.NestRows.{fits_is}
use Rattle.cpc_printer.proofs.nesting.fits.Goals as goal

pub returns : goal.returns
returns c =
    let k = c.items_depth.ensures (in_table c.args.program.now.names) in
    let m = rw c.deref.ensures.value at k in
    rw c.from.ensures (fits_is _ _ _ m (omega arith))
