use Rattle.std.proofs.Common.{arith}
use Rattle.cpc_run.proofs.Going.{cells_alike}
use Rattle.cpc_run.proofs.looped.Loop.makes.Goals as goal

pub alloc-requires-clause-live : goal.alloc-requires-clause-live
alloc-requires-clause-live c = λ names.
    let (other, room) = c.requires.room in
    let same = cells_alike names other c.args.self.now.machine in
    omega (arith, room, same)
