use Rattle.cpc_meaning_laws.proofs.Cell.Steps.{steps_leave}
use Rattle.cpc_meaning_laws.proofs.laws.a_step_leaves_the_cells_foretold.Goals as goal

pub returns : goal.returns
returns g c = record { law = steps_leave _ }
