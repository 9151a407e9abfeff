use Rattle.std.proofs.lemmas.Result.{IfOk-weaker}
use Rattle.cpc_cli_command.proofs.BuildLemmas.{app_is, local_is}
use Rattle.cpc_cli_command.proofs.build.with_limits.Goals as goal

pub returns-clause-app : goal.returns-clause-app
returns-clause-app c =
    let one = app_is _ c.in_ok-arg.field-0 c.option.result _ _ c.in_ok-arg.ensures c.in_ok-on_file.ensures.app c.option.ensures.rule c.option.ensures.local in
    let two = app_is _ c.in_ok-arg-2.field-0 c.option-2.result _ _ c.in_ok-arg-2.ensures one c.option-2.ensures.rule c.option-2.ensures.local in
    let three = app_is _ c.in_ok-arg-3.field-0 c.option-3.result _ _ c.in_ok-arg-3.ensures two c.option-3.ensures.rule c.option-3.ensures.local in
    IfOk-weaker c.arg-4.result _ _ (λ r added. app_is _ r c.option-4.result _ _ added three c.option-4.ensures.rule c.option-4.ensures.local) c.arg-4.ensures

pub returns-clause-local : goal.returns-clause-local
returns-clause-local c =
    let one = local_is _ c.in_ok-arg.field-0 c.option.result c.in_ok-arg.ensures c.in_ok-on_file.ensures.local c.option.ensures.local in
    let two = local_is _ c.in_ok-arg-2.field-0 c.option-2.result c.in_ok-arg-2.ensures one c.option-2.ensures.local in
    let three = local_is _ c.in_ok-arg-3.field-0 c.option-3.result c.in_ok-arg-3.ensures two c.option-3.ensures.local in
    IfOk-weaker c.arg-4.result _ _ (λ r added. local_is _ r c.option-4.result added three c.option-4.ensures.local) c.arg-4.ensures
