use Rattle.std.proofs.Common.{◌∙◌, sym}
use Rattle.cpc_run.proofs.looped.Loop.most_held.Goals as goal

pub returns-else-needs_poll-clause-none : goal.returns-else-needs_poll-clause-none
returns-else-needs_poll-clause-none c = λ names _ needs. absurd (let i = sym c.if-needs_poll.false ∙ c.needs_poll.ensures names ∙ needs in cc i)
