use Rattle.cpc_tree.specs.Trace.{Output}
use Rattle.cpc_meaning.specs.Machine.{marks}
use Rattle.cpc_run.proofs.Asks.{marked}
use Rattle.cpc_run.proofs.looped.Loop.prints.Goals as goal

pub returns-clause-did : goal.returns-clause-did
returns-clause-did c = λ names fits sent s acted.
    c.reply.ensures.did names fits _ s (marks (Output c.args.text.now) s)
    (marked names c.args.self.now c.args.function sent c.args.pending.now.items _ s s (Output c.args.text.now) c.in_ok-put_output.ensures acted)
