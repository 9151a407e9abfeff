use Rattle.cpc_chains_event.proofs.Addresses as L
use Rattle.cpc_chains_event.proofs.laws.variables_are_registers.Goals as goal

pub returns : goal.returns
returns c = record { none = L.pieces_address_none; law = L.variables_are_registers }
