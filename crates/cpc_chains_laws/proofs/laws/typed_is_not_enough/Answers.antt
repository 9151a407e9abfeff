use Rattle.std.proofs.Common.{refl}
use Rattle.cpc_chains_laws.proofs.laws.typed_is_not_enough.Goals as goal

pub returns : goal.returns
returns c = record { law = (refl, refl) }
