use Rattle.cpc_meaning_matching.proofs.Systems.{matches_compose}
use Rattle.cpc_meaning_matching.proofs.matching_composes.Goals as goal

pub returns : goal.returns
returns g c = λ A B C wa wb wc p q. matches_compose p q
