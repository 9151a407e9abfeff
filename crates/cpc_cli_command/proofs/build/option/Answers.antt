use Rattle.std.proofs.Common.{◌∙◌, ap}
use Rattle.clap.specs.declared.builder.arg.Arg.{Arg}
use Rattle.cpc_cli_command.proofs.BuildLemmas.{named_is}
use Rattle.cpc_cli_command.proofs.build.option.Goals as goal

pub returns-clause-rule : goal.returns-clause-rule
returns-clause-rule c = named_is c.new.result c.long.result c.action.result _ _ _ c.long.ensures c.action.ensures c.new.ensures.rule

pub returns-clause-local : goal.returns-clause-local
returns-clause-local c = ap (λ (a : Arg). a.global) c.action.ensures ∙ (ap (λ (a : Arg). a.global) c.long.ensures ∙ c.new.ensures.optional.1)
