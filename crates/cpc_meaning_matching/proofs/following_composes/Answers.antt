use Rattle.cpc_meaning_matching.proofs.Systems.{follows_compose}
use Rattle.cpc_meaning_matching.proofs.following_composes.Goals as goal

pub returns : goal.returns
returns g c = λ is_over A B C wa wb wc ends p q. follows_compose ends p q
