use Rattle.std.proofs.Common.{◌≡◌, ◌∙◌, sym, ap, option_map}
use Rattle.cpc_tree.specs.Erase.{in_table, text_of}
use Rattle.cpc_tree.specs.Registers.{or_empty}
use Rattle.cpc_convert_routines.specs.Names.{variable_name}
use Rattle.cpc_convert_names.proofs.called.local.Goals as goal

pub returns-in_ok-name-in-Some-clause-is : goal.returns-in_ok-name-in-Some-clause-is
unfolding variable_name
returns-in_ok-name-in-Some-clause-is c = λ source to g s e.
    let reads : in_table source c.in-Some.of ≡ to c.in-Some.of =
    ap (λ o. or_empty (option_map (text_of (in_table source)) o)) (sym c.in-Some.is) ∙ (e ∙ ap (λ o. or_empty (option_map (text_of to) o)) c.in-Some.is) in
    c.in_ok-name-in-Some.ensures.is source to g s reads ∙ ap (λ o. variable_name c.args.number (or_empty (option_map (text_of to) o))) (sym c.in-Some.is)
