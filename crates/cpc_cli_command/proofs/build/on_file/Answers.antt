use Rattle.std.proofs.lemmas.Result.{IfOk-weaker}
use Rattle.cpc_cli_command.proofs.BuildLemmas.{app_is, local_is}
use Rattle.cpc_cli_command.proofs.build.on_file.Goals as goal

pub returns-clause-app : goal.returns-clause-app
returns-clause-app c =
    IfOk-weaker c.arg.result _ _ (λ r added. app_is _ r c.file_argument.result _ _ added c.new.ensures.app c.file_argument.ensures.rule c.file_argument.ensures.local) c.arg.ensures

pub returns-clause-local : goal.returns-clause-local
returns-clause-local c =
    IfOk-weaker c.arg.result _ _ (λ r added. local_is _ r c.file_argument.result added c.new.ensures.local c.file_argument.ensures.local) c.arg.ensures
