use Rattle.std.proofs.Common.{◌≡◌, Some, option_map, ap, sym, ◌∙◌}
use Rattle.cpc_tree.specs.Erase.{type_of, expr_of}
use Rattle.cpc_tree.specs.Locate.{ident, located_expr}
use Rattle.cpc_tree.proofs.Places.{bare_located}
use Rattle.cpc_check_rules.specs.Noted.{first_of}
use Rattle.cpc_check_values.specs.Stands.{where_of}
use Rattle.cpc_check_statements.proofs.Parts.{start_noted}
use Rattle.cpc_check_statements.proofs.locals.start_rules.Goals as goal

pub returns-in_ok-found-in-Some : goal.returns-in_ok-found-in-Some
returns-in_ok-found-in-Some c = λ names spells.
    let t = c.in_ok-found-in-Some.ensures.typed names spells in
    let k = c.in_ok-found-in-Some.ensures.noted names spells in
    let u = c.is_unfit.ensures names spells.apart in
    let n = c.note_if.ensures in
    let given : option_map (located_expr names) c.args.start.now ≡ Some (located_expr names c.expr-e.result.now) = ap (option_map (located_expr names)) (c.in-Some.is ∙ ap Some (sym c.expr-e.ensures)) in
    let e = start_noted (where_of names c.args.w.now) (first_of c.args.first.now) (ident names c.args.word) (type_of names c.args.of.now) (located_expr names c.expr-e.result.now) (expr_of names c.expr-e.result.now) (bare_located names c.expr-e.result.now) in
    cc
