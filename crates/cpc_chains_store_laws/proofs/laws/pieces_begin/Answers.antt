use Rattle.cpc_chains_store_laws.proofs.Prologue.{opens_walk, takes_walk}
use Rattle.cpc_chains_store_laws.proofs.laws.pieces_begin.Goals as goal

pub returns : goal.returns
returns c = record { opens = opens_walk; law = takes_walk }
