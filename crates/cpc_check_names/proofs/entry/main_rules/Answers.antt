use Rattle.std.proofs.Common.{ap, ◌∙◌}
use Rattle.std.specs.Prelude.{not}
use Rattle.cpc_check_rules.specs.declared.rule.Rule.TheVariants.{NoMain}
use Rattle.cpc_check_rules.specs.Rule.{at_if}
use Rattle.cpc_check_rules.specs.Noted.{noted, first_of}
use Rattle.cpc_check_names.proofs.Told.{has_main_told}
use Rattle.cpc_check_names.proofs.entry.main_rules.Goals as goal

pub returns-clause-spelled : goal.returns-clause-spelled
returns-clause-spelled c = λ spelling s.
    c.note_if.ensures
    ∙ ap (λ b. noted (first_of c.args.first.now) (at_if (not b) c.args.end NoMain)) (c.has_main.ensures ∙ has_main_told c.args.names.now spelling s c.args.items.now)
