use Rattle.cpc_meaning.specs.Machine.{marks}
use Rattle.cpc_history_marks.specs.Views.{mark_of}
use Rattle.cpc_run.proofs.Asks.{marked}
use Rattle.cpc_run.proofs.looped.Loop.marks.Goals as goal

pub returns-clause-did : goal.returns-clause-did
returns-clause-did c = λ names fits sent s t acted.
    c.reply.ensures.did names fits _ s (marks (mark_of c.args.mark.now) t)
    (marked names c.args.self.now c.args.function sent c.args.pending.now.items _ s t (mark_of c.args.mark.now) c.in_ok-put_wait.ensures acted)
