use Rattle.std.proofs.Common.{ap, ap₂, ◌∙◌}
use Rattle.std.proofs.lemmas.Result.{IfOk-weaker}
use Rattle.clap.specs.Words.{App, with_subcommand}
use Rattle.cpc_cli_command.proofs.build.reading.Goals as goal

pub returns : goal.returns
returns c =
    let check_is = ap (λ (a : App). a.top) c.in_ok-on_file.ensures.app in
    let translate_is = ap (λ (a : App). a.top) c.in_ok-on_file-2.ensures.app in
    let one = c.in_ok-subcommand.ensures.shape c.in_ok-on_file.ensures.local ∙ ap₂ with_subcommand c.bare.ensures check_is in
    IfOk-weaker c.subcommand-2.result _ _ (λ r added. added.shape c.in_ok-on_file-2.ensures.local ∙ ap₂ with_subcommand one translate_is) c.subcommand-2.ensures
