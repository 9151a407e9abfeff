use Rattle.cpc_pool.specs.Acts.{NoneAt}
use Rattle.cpc_pool.proofs.completions.Completions.place.Given as goal

-- none so far is of the same job
abbrev pub invariant-loop-at : goal.invariant-loop-at
invariant-loop-at g l = NoneAt g.W.Runner.same l.self.0 l.at l.job
