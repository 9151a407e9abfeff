use Rattle.std.proofs.Common.{◌≡◌, refl}
use Rattle.cpc_convert_flat_laws.proofs.Walks.{walk_then, walk_ends}
use Rattle.cpc_convert_flat_laws.proofs.laws.walks_are_paths.Goals as goal

pub returns : goal.returns
returns c = record { law = record { ends = λ q trace n s t w. walk_ends (λ z. z ≡ t) _ (λ z quiet. quiet) n s t w refl; goes_on = λ q trace n d s t u w p. walk_then _ _ (λ z quiet. quiet) n d s t w p } }
