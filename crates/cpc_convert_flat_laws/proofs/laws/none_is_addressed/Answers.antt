use Rattle.cpc_convert_flat_laws.proofs.Addresses.{none_addressed}
use Rattle.cpc_convert_flat_laws.proofs.laws.none_is_addressed.Goals as goal

pub returns : goal.returns
returns c = record { law = none_addressed }
