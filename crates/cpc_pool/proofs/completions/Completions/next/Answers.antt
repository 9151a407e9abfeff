use Rattle.std.proofs.Common.{◌≡◌, [], subst, arith}
use Rattle.std.specs.Prelude.{MatchOption}
use Rattle.cpc_pool.proofs.Lists.{ahead, behind}
use Rattle.cpc_pool.proofs.completions.Completions.next.Goals as goal

pub returns-clause-ends : goal.returns-clause-ends
returns-clause-ends g c =
    subst (λ s. MatchOption c.pop_front.result (s.0 ≡ []) (λ d. g.W.Runner.ends d.job d.end)) c.self.view_is
    (ahead (λ d. g.W.Runner.ends d.job d.end) _ _ _ _ _ c.pop_front.ensures.items c.pop_front.ensures.cases (omega arith) c.self.invariant)

pub invariant_of-self : goal.invariant_of-self
invariant_of-self g c = behind (λ d. g.W.Runner.ends d.job d.end) _ _ _ c.pop_front.ensures.items c.self.invariant
