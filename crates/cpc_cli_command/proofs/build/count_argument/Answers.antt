use Rattle.std.proofs.Common.{◌∙◌, ap}
use Rattle.clap.specs.declared.builder.arg.Arg.{Arg}
use Rattle.cpc_cli_command.proofs.BuildLemmas.{required_is}
use Rattle.cpc_cli_command.proofs.build.count_argument.Goals as goal

pub returns-clause-rule : goal.returns-clause-rule
returns-clause-rule c = required_is c.new.result c.required.result _ c.required.ensures c.new.ensures.rule

pub returns-clause-local : goal.returns-clause-local
returns-clause-local c = ap (λ (a : Arg). a.global) c.required.ensures ∙ c.new.ensures.optional.1
