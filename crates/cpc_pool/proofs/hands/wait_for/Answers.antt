use Rattle.std.proofs.Common.{refl, ◌∙◌}
use Rattle.cpc_pool.proofs.Coming.{answers_on, waits_on, waits_still}
use Rattle.cpc_pool.proofs.hands.wait_for.Goals as goal

pub loop-init : goal.loop-init
loop-init g c = (c.requires, refl, refl, waits_still g.W.Runner.same c.args.job.now _ _ _ _ _ _ refl refl refl)

pub loop-preserved : goal.loop-preserved
loop-preserved g c =
    let looked = rw c.in_default.is at c.in_ok-end.ensures.looked in (
      c.look.ensures.dones,
      c.look.ensures.same.0 ∙ c.loop.invariant.1,
      c.look.ensures.same.1 ∙ c.loop.invariant.2,
      waits_on g.W.Runner.same c.args.job.now _ _ _ _ _ _ _ _ _ c.loop.invariant.3 looked,
    )

pub returns-in-Some-2-clause-waited : goal.returns-in-Some-2-clause-waited
returns-in-Some-2-clause-waited g c =
    let looked = rw c.in-Some-2.is at c.in_ok-end.ensures.looked in
    answers_on g.W.Runner.same c.args.job.now _ _ _ _ _ _ _ _ _ c.in-Some-2.end c.loop.invariant.3 looked
