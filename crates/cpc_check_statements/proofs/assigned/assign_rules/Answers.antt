use Rattle.std.proofs.lemmas.Result.{on_ok_weaker}
use Rattle.cpc_tree.specs.Erase.{expr_of}
use Rattle.cpc_tree.specs.Locate.{located_expr}
use Rattle.cpc_tree.proofs.Places.{bare_located}
use Rattle.cpc_check_rules.specs.Noted.{first_of}
use Rattle.cpc_check_values.specs.Stands.{where_of}
use Rattle.cpc_check_statements.proofs.Parts.{found_set, found_update}
use Rattle.cpc_check_statements.proofs.assigned.assign_rules.Goals as goal

pub returns-in-Some : goal.returns-in-Some
returns-in-Some c = on_ok_weaker c.update_rules.result (λ h names spells q.
    let target = c.args.target.now in
    let value = c.args.value.now in
    found_update (where_of names c.args.w.now) c.args.place c.in-Some.op c.args.op (located_expr names target) (located_expr names value) (expr_of names target) (expr_of names value) _ _ _ _ (first_of c.args.first.now) _ _ _
    c.in-Some.is (bare_located names target) (bare_located names value) (c.is_null.ensures names) (c.is_null-in-Some.ensures names)
    (c.in_ok-to.ensures.typed names spells) (c.in_ok-to.ensures.noted names spells) (c.in_ok-found.ensures.typed names spells) (c.in_ok-found.ensures.noted names spells) (h names spells.apart)) c.update_rules.ensures

pub returns-in-None : goal.returns-in-None
returns-in-None c = λ names spells q.
    found_set (where_of names c.args.w.now) c.args.place c.args.op (located_expr names c.args.target.now) (located_expr names c.args.value.now) _ _ (first_of c.args.first.now) _ _ _
    c.in-None.is (c.in_ok-to.ensures.typed names spells) (c.in_ok-to.ensures.noted names spells) (c.in_ok-found.ensures.typed names spells) (c.in_ok-found.ensures.noted names spells) (c.note_fit.ensures names spells.apart)
