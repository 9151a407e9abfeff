use Rattle.cpc_convert_flat_laws.proofs.Fits.{assigned_fits, read_fits}
use Rattle.cpc_convert_flat_laws.proofs.laws.values_fit.Goals as goal

pub returns : goal.returns
returns c = record { law = record { assigned = assigned_fits; read = read_fits } }
