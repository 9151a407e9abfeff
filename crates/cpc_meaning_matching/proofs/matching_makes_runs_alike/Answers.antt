use Rattle.cpc_meaning_matching.proofs.Systems.{matches_same_runs}
use Rattle.cpc_meaning_matching.proofs.matching_makes_runs_alike.Goals as goal

pub returns : goal.returns
returns g c = λ is_over A B wa wb ends r live. matches_same_runs ends r live
