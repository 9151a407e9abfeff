use Rattle.cpc_meaning_laws.proofs.Cell.Calls.{call_takes}
use Rattle.cpc_meaning_laws.proofs.laws.a_call_takes_its_cells.Goals as goal

pub returns : goal.returns
returns c = record { law = call_takes }
