use Rattle.cpc_tree.specs.Erase.{type_of, expr_of}
use Rattle.cpc_tree.specs.Locate.{located_expr}
use Rattle.cpc_tree.proofs.Places.{bare_located}
use Rattle.cpc_types.specs.Found.{found_of}
use Rattle.cpc_check_statements.proofs.Parts.{fit_is}
use Rattle.cpc_check_statements.proofs.assigned.note_fit.Goals as goal

pub returns-in-Some : goal.returns-in-Some
returns-in-Some c = λ names apart.
    let t = c.in-Some.ensures names in
    let u = c.is_unfit.ensures names apart in
    let n = c.note_if.ensures in
    let e = fit_is (found_of names c.args.to.now) (found_of names c.args.found) (type_of names c.in-Some.of.now) (located_expr names c.args.e.now) (expr_of names c.args.e.now) c.args.place t (bare_located names c.args.e.now) in
    cc
