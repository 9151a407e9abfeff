use Rattle.cpc_convert_flat_laws.proofs.Structs.{is_struct}
use Rattle.cpc_convert_flat_laws.proofs.laws.structs_have_fields.Goals as goal

pub returns : goal.returns
returns c = record { law = is_struct }
