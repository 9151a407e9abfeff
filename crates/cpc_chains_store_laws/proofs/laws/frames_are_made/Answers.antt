use Rattle.cpc_chains_store_laws.proofs.Making.{makes_frame}
use Rattle.cpc_chains_store_laws.proofs.laws.frames_are_made.Goals as goal

pub returns : goal.returns
returns c = record { law = makes_frame }
