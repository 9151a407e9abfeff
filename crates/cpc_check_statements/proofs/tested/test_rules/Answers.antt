use Rattle.cpc_tree.specs.Locate.{located_expr}
use Rattle.cpc_check_rules.specs.Noted.{first_of}
use Rattle.cpc_check_values.specs.Stands.{where_of}
use Rattle.cpc_check_statements.proofs.Parts.{test_noted}
use Rattle.cpc_check_statements.proofs.tested.test_rules.Goals as goal

pub returns : goal.returns
returns c = λ names spells.
    let t = c.in_ok-found.ensures.typed names spells in
    let k = c.in_ok-found.ensures.noted names spells in
    let n = c.note_tested.ensures names in
    let p = c.first_place.ensures names in
    let e = test_noted (where_of names c.args.w.now) (first_of c.args.first.now) (located_expr names c.args.test.now) in
    cc
