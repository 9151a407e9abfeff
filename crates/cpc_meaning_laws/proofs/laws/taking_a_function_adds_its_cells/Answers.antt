use Rattle.cpc_meaning_laws.proofs.Cell.Steps.{taking_adds}
use Rattle.cpc_meaning_laws.proofs.laws.taking_a_function_adds_its_cells.Goals as goal

pub returns : goal.returns
returns g c = record { law = taking_adds _ _ }
