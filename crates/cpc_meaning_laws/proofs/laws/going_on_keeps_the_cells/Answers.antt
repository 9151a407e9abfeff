use Rattle.cpc_meaning_laws.proofs.Cell.Going.{going_on_keeps}
use Rattle.cpc_meaning_laws.proofs.laws.going_on_keeps_the_cells.Goals as goal

pub returns : goal.returns
returns c = record { law = going_on_keeps }
