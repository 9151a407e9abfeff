use Rattle.std.proofs.Common.{◌∙◌, sym, ap, option_map}
use Rattle.cpc_tree.specs.Typing.{AValue}
use Rattle.cpc_types.specs.Found.{found_of}
use Rattle.cpc_shapes.proofs.FormParts.{choice_tested, choice_untested}
use Rattle.cpc_types.proofs.forms.tested_form.Goals as goal

pub returns-then-tested : goal.returns-then-tested
returns-then-tested c = λ names test apart is.
    c.value_of.ensures names
    ∙ (ap (option_map AValue) (c.chosen.ensures names apart)
    ∙ choice_tested c.args.nulls.0 c.args.nulls.1 test (found_of names c.args.yes) (found_of names c.args.no) _ _ (sym is ∙ c.if-tested.true) (c.used-t.ensures names) (c.used-u.ensures names))

pub returns-else-tested : goal.returns-else-tested
returns-else-tested c = λ names test apart is. sym (choice_untested c.args.nulls.0 c.args.nulls.1 test (found_of names c.args.yes) (found_of names c.args.no) (sym is ∙ c.if-tested.false))
