use Rattle.std.proofs.Common.{ap, ◌∙◌}
use Rattle.cpc_check_rules.specs.Noted.{noted, first_of}
use Rattle.cpc_check_names.proofs.Told.{reserved_told}
use Rattle.cpc_check_names.proofs.reserved.name_rules.Goals as goal

pub returns-clause-spelled : goal.returns-clause-spelled
returns-clause-spelled c = λ spelling s. c.note_reserved.ensures ∙ ap (noted (first_of c.args.first.now)) (reserved_told c.args.names.now spelling s c.args.dialect c.args.words.now)
