use Rattle.std.proofs.Common.{◌≡◌, option_map, ◌∙◌, ap, subst, sym}
use Rattle.cpc_tree.specs.declared.program.Statement.TheVariants as T
use Rattle.cpc_tree.specs.Erase as E
use Rattle.cpc_tree.specs.Points.{Simple}
use Rattle.cpc_meaning.specs.Act.{AtStatement}
use Rattle.cpc_chains_event.specs.Pieces.{is_entry}
use Rattle.cpc_chains_opening.proofs.calls.enters.Goals as goal

pub returns-in-Call : goal.returns-in-Call
returns-in-Call c = λ source from to p r st entries.
    let target = option_map (E.expr_of from) c.in-Call.target in
    let es = E.exprs_of from c.in-Call.arguments.items in
    let is = ap (E.stmt_of from) (subst (λ f. c.args.s.now ≡ T.Call c.in-Call.place c.in-Call.operator c.in-Call.target f c.in-Call.arguments) (sym c.expr.ensures) c.in-Call.is) in
    c.is_found.ensures source from to p r target es st entries ∙ ap (λ s. is_entry p (AtStatement (Simple s))) (sym is)
