use Rattle.cpc_meaning_laws.proofs.Cell.Calls.{leaving_gives_back}
use Rattle.cpc_meaning_laws.proofs.laws.leaving_gives_back_the_cells.Goals as goal

pub returns : goal.returns
returns c = record { law = leaving_gives_back }
