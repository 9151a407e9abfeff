use Rattle.cpc_chains_store_laws.proofs.Giving.{calls_frame, calls_fault}
use Rattle.cpc_chains_store_laws.proofs.laws.calls_are_framed.Goals as goal

pub returns : goal.returns
returns c = record { law = record { made = λ q w fn g body below is_g k scope n rest slots s to tag head code next piece start f lower ps p c vs giving. calls_frame q w fn g body below is_g k scope n rest slots s to tag head code next piece start f lower ps c.line c.is_named c.is_size c.small c.pointer c.old c.holds c.begins c.points c.result c.code_result c.parameters c.code_parameters c.is_piece c.is_code c.next_type c.below p c.is_next c.is_lower c.fits vs giving; faults = λ q w fn g body below is_g k scope n rest slots s to tag head code next piece start f lower ps p c fault giving. calls_fault q w fn g body below is_g k scope n rest slots s to tag head code next piece start f lower ps c.line c.is_named c.is_size c.small c.pointer c.old c.holds c.begins c.points c.result c.code_result c.parameters c.code_parameters c.is_piece c.is_code c.next_type c.below p c.is_next c.is_lower c.fits fault giving } }
