use Rattle.cpc_meaning_matching.proofs.Systems.{matches_within}
use Rattle.cpc_meaning_matching.proofs.matching_bounds_runs.Goals as goal

pub returns : goal.returns
returns g c = λ A B wa bound le r. matches_within le r
