use Rattle.cpc_chains_lines.proofs.Single.{declared_so}
use Rattle.cpc_chains_opening.proofs.taking.declare_variable.Goals as goal

pub returns : goal.returns
returns c = λ source from to p r st is.
    declared_so _ _ _ _ _ _ (c.local-name.ensures source from to p r st is) (c.in_ok-of.ensures source from to p r st is) (c.in_ok-declare.ensures to)
