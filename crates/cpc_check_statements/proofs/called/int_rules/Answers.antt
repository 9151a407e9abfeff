use Rattle.std.proofs.Common.{Some}
use Rattle.cpc_num.specs.declared.kinds.Kind.TheVariants.{Int}
use Rattle.cpc_tree.specs.Syntax.{TyInt}
use Rattle.cpc_tree.specs.Locate.{located_expr}
use Rattle.cpc_check_rules.specs.Noted.{first_of}
use Rattle.cpc_check_values.specs.Stands.{where_of}
use Rattle.cpc_check_statements.proofs.Parts.{given_noted}
use Rattle.cpc_check_statements.proofs.called.int_rules.Goals as goal

pub returns-in_ok-to-in-Some : goal.returns-in_ok-to-in-Some
returns-in_ok-to-in-Some c = λ names spells.
    let t = c.in_ok-to-in-Some.ensures.typed names spells in
    let k = c.in_ok-to-in-Some.ensures.noted names spells in
    let g = c.note_given.ensures names spells.apart in
    let i = c.in-Some.is in
    let e = given_noted (where_of names c.args.w.now) (first_of c.args.first.now) c.args.place (located_expr names c.in-Some.target) (Some (TyInt Int)) in
    cc
