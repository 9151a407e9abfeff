use Rattle.cpc_native.proofs.Frames.{well_upon}
use Rattle.cpc_native.proofs.machine.Machine.perform.Goals as goal

pub returns-in-Asks-clause-well : goal.returns-in-Asks-clause-well
returns-in-Asks-clause-well c =
    let old = c.args.self.now in
    record {
      calls = well_upon old.index old.calls.frames.items c.put_back.new.self.frames.items c.args.frame c.put_back.ensures.frames c.requires.calls c.requires.frame;
      arriving = c.requires.arriving;
    }
