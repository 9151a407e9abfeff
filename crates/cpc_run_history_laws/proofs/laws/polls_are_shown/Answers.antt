use Rattle.cpc_run_history_laws.proofs.Agree.{polls_shown}
use Rattle.cpc_run_history_laws.proofs.laws.polls_are_shown.Goals as goal

pub returns : goal.returns
returns c = record { law = polls_shown }
