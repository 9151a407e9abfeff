use Rattle.std.proofs.Common.{ap, sym, ◌∙◌, Some, option_map}
use Rattle.cpc_tree.specs.Locate.{located_expr, located_exprs}
use Rattle.cpc_check_rules.specs.Noted.{first_of}
use Rattle.cpc_check_values.specs.Stands.{where_of}
use Rattle.cpc_check_statements.proofs.Parts.{found_performed}
use Rattle.cpc_check_statements.proofs.called.performed_rules.Goals as goal

pub returns-in_ok-given-in-Some : goal.returns-in_ok-given-in-Some
returns-in_ok-given-in-Some c = λ names spells q.
    found_performed (where_of names c.args.w.now) c.args.place _ _ (located_expr names c.args.function.now) (located_exprs names c.args.arguments.now) _ _ (first_of c.args.first.now) _ _ _
    (ap (option_map (located_expr names)) (c.in-Some.is ∙ ap Some (sym c.expr.ensures)))
    (c.in_ok-to-in-Some.ensures.typed names spells) (c.in_ok-to-in-Some.ensures.noted names spells) (c.in_ok-given-in-Some.ensures.given names spells) (c.in_ok-given-in-Some.ensures.noted names spells) (c.note_given.ensures names spells.apart)
