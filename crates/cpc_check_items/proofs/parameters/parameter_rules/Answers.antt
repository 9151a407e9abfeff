use Rattle.std.proofs.Common.{[], map, ap, ◌∙◌}
use Rattle.cpc_tree.specs.Locate.{ident, located_parameter}
use Rattle.cpc_check_rules.specs.declared.rule.Rule.TheVariants.{Twice}
use Rattle.cpc_check_rules.specs.Noted.{noted, first_of}
use Rattle.cpc_check_rules.specs.FunctionRules.{repeated, reserved_breaks, parameter_names}
use Rattle.cpc_check_items.proofs.Notes.{in_turn}
use Rattle.cpc_check_items.proofs.parameters.parameter_rules.Goals as goal

pub returns : goal.returns
returns c = λ names s.
    let row = parameter_names (map (located_parameter names) c.args.parameters.now) in
    let d = c.args.dialect in
    in_turn _ _ _ (repeated Twice [] row) (reserved_breaks d row)
    (c.in_ok-repeated_rules.ensures names s.apart ∙ ap (λ l. noted (first_of c.args.first.now) (repeated Twice [] l)) (ap (map (ident names)) c.deref.ensures.value ∙ c.in_ok-words.ensures names))
    (c.name_rules.ensures.spelled names s ∙ ap (λ l. noted (first_of c.repeated_rules.new.first) (reserved_breaks d l)) (ap (map (ident names)) c.deref-2.ensures.value ∙ c.in_ok-words.ensures names))
