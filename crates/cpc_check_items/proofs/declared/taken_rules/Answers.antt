use Rattle.std.proofs.Common.{is_some, sym, ap, ◌∙◌}
use Rattle.cpc_check_rules.specs.declared.rule.Rule.TheVariants.{Twice}
use Rattle.cpc_check_rules.specs.Rule.{at_if}
use Rattle.cpc_check_rules.specs.Noted.{noted, first_of}
use Rattle.cpc_check_items.proofs.declared.taken_rules.Goals as goal

pub returns : goal.returns
returns c = λ names before e.
    let w = c.args.word in
    c.note_if.ensures ∙ ap (λ b. noted (first_of c.args.first.now) (at_if b w.place Twice)) (c.is_some-is_declared.ensures ∙ ap is_some c.past.ensures ∙ sym (e.told w.name).item)
