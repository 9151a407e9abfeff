use Rattle.cpc_native_free_laws.proofs.Alone.{accepted_alone}
use Rattle.cpc_native_free_laws.proofs.laws.accepted_free_alone.Goals as goal

pub returns : goal.returns
returns c = record { law = accepted_alone }
