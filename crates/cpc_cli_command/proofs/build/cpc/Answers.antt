use Rattle.std.proofs.Common.{ap, ap₂, refl, ◌≡◌, ◌∙◌}
use Rattle.std.proofs.lemmas.Result.{IfOk-weaker}
use Rattle.clap.specs.Words.{App, with_subcommand}
use Rattle.cpc_cli_command.specs.Commands.{cpc_app, running_app, sample_app}
use Rattle.cpc_cli_command.proofs.build.cpc.Goals as goal

whole : with_subcommand running_app sample_app.top ≡ cpc_app
unfolding cpc_app
whole = refl

pub returns : goal.returns
returns c =
    let sample_is = ap (λ (a : App). a.top) c.in_ok-sample.ensures.app in
    IfOk-weaker c.subcommand.result _ _ (λ r added. added.shape c.in_ok-sample.ensures.local ∙ (ap₂ with_subcommand c.in_ok-running.ensures sample_is ∙ whole)) c.subcommand.ensures
