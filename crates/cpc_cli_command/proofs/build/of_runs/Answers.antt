use Rattle.std.proofs.lemmas.Result.{IfOk-weaker}
use Rattle.cpc_cli_command.proofs.BuildLemmas.{app_is, local_is}
use Rattle.cpc_cli_command.proofs.build.of_runs.Goals as goal

pub returns-clause-app : goal.returns-clause-app
returns-clause-app c =
    IfOk-weaker c.arg.result _ _ (λ r added. app_is _ r c.flag.result _ _ added c.in_ok-with_values.ensures.app c.flag.ensures.rule c.flag.ensures.local) c.arg.ensures

pub returns-clause-local : goal.returns-clause-local
returns-clause-local c =
    IfOk-weaker c.arg.result _ _ (λ r added. local_is _ r c.flag.result added c.in_ok-with_values.ensures.local c.flag.ensures.local) c.arg.ensures
