use Rattle.std.proofs.Common.{arith}
use Rattle.cpc_base.proofs.Pieces.{copied_piece}
use Rattle.cpc_base_memory.proofs.mem_shelf.copy_piece.Goals as goal

pub returns-clause-piece : goal.returns-clause-piece
returns-clause-piece c =
    let m = c.min-count.ensures in
    let n = c.min.ensures in
    copied_piece c.args.bytes.now c.args.into.now c.copy_from_slice.new.self c.args.offset c.min-start.result c.min-count.result c.min-start.ensures
    (omega (arith, m, n)) c.copy_from_slice.ensures.after (λ none room. omega (arith, m, n, c.max.ensures))
