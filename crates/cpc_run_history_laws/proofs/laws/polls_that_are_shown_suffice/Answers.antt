use Rattle.cpc_run_history_laws.proofs.Agree.{shown_polls_suffice}
use Rattle.cpc_run_history_laws.proofs.laws.polls_that_are_shown_suffice.Goals as goal

pub returns : goal.returns
returns c = record { law = shown_polls_suffice }
