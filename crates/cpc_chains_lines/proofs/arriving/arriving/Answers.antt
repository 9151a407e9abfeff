use Rattle.std.proofs.Common.{◌≡◌, option_map, sym, ap, ◌∙◌}
use Rattle.cpc_tree.specs.Erase.{expr_of, exprs_of, stmt_of}
use Rattle.cpc_tree.specs.Syntax as S
use Rattle.cpc_chains_lines.proofs.Arrival.{arrives}
use Rattle.cpc_chains_lines.proofs.arriving.arriving.Goals as goal

pub returns-in_ok-of-in-Some : goal.returns-in_ok-of-in-Some
returns-in_ok-of-in-Some c = λ source from to p r st means.
    let callee = c.in-Some.callee.now in
    let o = option_map (expr_of from) c.in-Call.target in
    let f = from c.in-Name.word.name in
    let es = exprs_of from c.in-Call.arguments.items in
    let is : stmt_of from c.args.s.now ≡ S.Call o (S.ENamed f) es = ap (stmt_of from) c.in-Call.is ∙ ap (λ x. S.Call o (expr_of from x) es) (sym c.expr.ensures ∙ c.in-Name.is) in
    arrives from to p c.args.around.book.now.functions.items (stmt_of from c.args.s.now) o f es callee _ st.functions is (means o f es) (sym (c.in-Some.ensures from st.spells.apart)) (c.in_ok-of-in-Some.ensures from to)
