use Rattle.cpc_chains_store_laws.proofs.Waits.{ready_step, sleep_step, wait_step, io_step}
use Rattle.cpc_chains_store_laws.proofs.laws.callbacks_are_made.Goals as goal

pub returns : goal.returns
returns c = record { law = λ q w fn g body below is_g k scope n rest slots s. record { ready = ready_step q w fn g body below is_g k scope n rest slots s; sleeps = sleep_step q w fn g body below is_g k scope n rest slots s; waits = wait_step q w fn g body below is_g k scope n rest slots s; awaits = io_step q w fn g body below is_g k scope n rest slots s } }
