use Rattle.cpc_run.proofs.Pieces.{drained, part_written}
use Rattle.cpc_run.proofs.run.drain.Goals as goal

pub returns-in-Ok-clause-all : goal.returns-in-Ok-clause-all
returns-in-Ok-clause-all g c = λ told sent so_far.
    drained told (g.O.Sink.taken c.args.out.now) (g.O.Sink.taken c.write_all.new.sink) sent c.as_slice.result.now so_far c.args.pending.now.items c.clear.new.self.items
    c.as_slice.ensures.value c.clear.ensures.items c.in-Ok.ensures.all

pub returns-in-Err-clause-part : goal.returns-in-Err-clause-part
returns-in-Err-clause-part g c = λ told sent so_far.
    let wrote = c.in-Err.ensures.prefix in
    part_written told (g.O.Sink.taken c.args.out.now) (g.O.Sink.taken c.write_all.new.sink) sent c.as_slice.result.now so_far c.args.pending.now.items wrote.0 c.as_slice.ensures.value wrote.1 wrote.2
