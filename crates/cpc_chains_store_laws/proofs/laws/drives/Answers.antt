use Rattle.cpc_chains_store_laws.proofs.Pieces.{drive_begins, drive_goes_on, drive_finishes}
use Rattle.cpc_chains_store_laws.proofs.laws.drives.Goals as goal

pub returns : goal.returns
returns c = record { law = record { begins = drive_begins; goes_on = drive_goes_on; finishes = drive_finishes } }
