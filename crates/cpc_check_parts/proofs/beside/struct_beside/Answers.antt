use Rattle.std.proofs.Common.{ap, ◌∙◌}
use Rattle.cpc_check_rules.specs.declared.rule.Rule.TheVariants.{Twice}
use Rattle.cpc_check_rules.specs.Rule.{at_if}
use Rattle.cpc_check_rules.specs.Noted.{noted, first_of}
use Rattle.cpc_types.specs.Scoped.{scope_of}
use Rattle.cpc_check_items.proofs.Notes.{tag_known}
use Rattle.cpc_check_parts.proofs.beside.struct_beside.Goals as goal

pub returns : goal.returns
returns c = λ names apart.
    c.note_if.ensures ∙ ap (λ b. noted (first_of c.args.first.now) (at_if b c.args.tag.place Twice))
    (c.is_some-is_declared.ensures ∙ tag_known _ c.fields.result (scope_of names c.args.scope.now).items (names c.args.tag.name) (c.fields.ensures names apart))
