use Rattle.cpc_meaning_matching.proofs.Systems.{matches_self}
use Rattle.cpc_meaning_matching.proofs.matches_itself.Goals as goal

pub returns : goal.returns
returns g c = λ A w. matches_self A w
