use Rattle.std.proofs.Common.{arith, refl, ◌∙◌}
use Rattle.cpc_lift.proofs.Linked.{links_more}
use Rattle.cpc_lift.proofs.uses.add_links.Goals as goal

pub loop-variable-preserved : goal.loop-variable-preserved
loop-variable-preserved c =
    links_more c.args.owner c.args.variables.now c.loop-variable.variable-index (omega arith) _ _ _ c.in_ok-push.ensures.items refl
    ∙ c.loop-variable.invariant
