use Rattle.std.proofs.Common.{ap, ap₂, ◌∙◌}
use Rattle.std.proofs.lemmas.Result.{IfOk-weaker}
use Rattle.clap.specs.Words.{App, with_subcommand}
use Rattle.cpc_cli_command.proofs.build.running.Goals as goal

pub returns : goal.returns
returns c =
    let run_is = ap (λ (a : App). a.top) c.in_ok-run.ensures.app in
    let exec_is = ap (λ (a : App). a.top) c.in_ok-exec.ensures.app in
    let one = c.in_ok-subcommand.ensures.shape c.in_ok-run.ensures.local ∙ ap₂ with_subcommand c.in_ok-reading.ensures run_is in
    IfOk-weaker c.subcommand-2.result _ _ (λ r added. added.shape c.in_ok-exec.ensures.local ∙ ap₂ with_subcommand one exec_is) c.subcommand-2.ensures
