use Rattle.std.proofs.lemmas.Result.{IfOk-weaker}
use Rattle.cpc_cli_command.proofs.BuildLemmas.{app_is, local_is}
use Rattle.cpc_cli_command.proofs.build.with_values.Goals as goal

pub returns-clause-app : goal.returns-clause-app
returns-clause-app c =
    IfOk-weaker c.arg.result _ _ (λ r added. app_is _ r c.option.result _ _ added c.in_ok-with_limits.ensures.app c.option.ensures.rule c.option.ensures.local) c.arg.ensures

pub returns-clause-local : goal.returns-clause-local
returns-clause-local c =
    IfOk-weaker c.arg.result _ _ (λ r added. local_is _ r c.option.result added c.in_ok-with_limits.ensures.local c.option.ensures.local) c.arg.ensures
