use Rattle.std.proofs.Common.{◌∙◌}
use Rattle.cpc_check_names.proofs.Told.{main_told}
use Rattle.cpc_check_names.proofs.entry.is_main.Goals as goal

pub returns-clause-spelled : goal.returns-clause-spelled
returns-clause-spelled c = λ spelling s. c.may_begin.ensures ∙ main_told c.args.names.now spelling s c.args.function.now
