use Rattle.cpc_meaning_matching.proofs.Systems.{end_within}
use Rattle.cpc_meaning_matching.proofs.matching_bounds_ends.Goals as goal

pub returns : goal.returns
returns g c = λ is_over A B wa bound le ends r m over. end_within le ends r m over
