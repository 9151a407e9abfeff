use Rattle.cpc_chains_lines.proofs.Loading.{loaded_so}
use Rattle.cpc_chains_opening.proofs.taking.load_variable.Goals as goal

pub returns : goal.returns
returns c = λ source from to p r st is.
    let name = c.local-name.ensures source from to p r st is in
    loaded_so _ _ _ _ _ _ _ _ name (c.in_ok-of.ensures source from to p r st is) name (c.in_ok-load.ensures source from to p r st)
