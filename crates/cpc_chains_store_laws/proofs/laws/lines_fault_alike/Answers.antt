use Rattle.cpc_chains_store_laws.proofs.Sections.{wait_fails, sleep_fails, line_faults, detach_step}
use Rattle.cpc_chains_store_laws.proofs.laws.lines_fault_alike.Goals as goal

pub returns : goal.returns
returns c = record { law = λ q w fn g body below is_g k scope n rest slots s x t b h is_drive. record { faults = line_faults q w fn g body below is_g k scope n rest slots s x t b h is_drive; waits = wait_fails q w fn g body below is_g k scope n rest slots s x t b h is_drive; sleeps = sleep_fails q w fn g body below is_g k scope n rest slots s x t b h is_drive; detaches = detach_step q w fn g body below is_g k scope n rest slots s x t b h is_drive } }
