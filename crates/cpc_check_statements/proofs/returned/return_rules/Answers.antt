use Rattle.std.proofs.Common.{◌≡◌, Some, option_map, ap, sym, ◌∙◌}
use Rattle.cpc_tree.specs.Locate.{located_expr}
use Rattle.cpc_check_rules.specs.Noted.{first_of}
use Rattle.cpc_check_values.specs.Stands.{where_of}
use Rattle.cpc_check_statements.proofs.Parts.{returned_noted}
use Rattle.cpc_check_statements.proofs.returned.return_rules.Goals as goal

pub returns-in_ok-found-in-Some : goal.returns-in_ok-found-in-Some
returns-in_ok-found-in-Some c = λ names spells.
    let t = c.in_ok-found-in-Some.ensures.typed names spells in
    let k = c.in_ok-found-in-Some.ensures.noted names spells in
    let u = c.is_unfit_return.ensures names spells.apart in
    let n = c.note_if.ensures in
    let given : option_map (located_expr names) c.args.value.now ≡ Some (located_expr names c.expr-e.result.now) = ap (option_map (located_expr names)) (c.in-Some.is ∙ ap Some (sym c.expr-e.ensures)) in
    let e = returned_noted (where_of names c.args.w.now) (first_of c.args.first.now) c.args.place (located_expr names c.expr-e.result.now) in
    cc
