use Rattle.std.proofs.Common.{is_some, ◌∙◌, ap, sym}
use Rattle.cpc_base.proofs.Lists.{some_seen}
use Rattle.cpc_tree.specs.Erase as E
use Rattle.cpc_tree.specs.Syntax as S
use Rattle.cpc_chains_opening.proofs.Found.{entered}
use Rattle.cpc_chains_opening.proofs.calls.is_found.Goals as goal

pub returns-in-Name : goal.returns-in-Name
returns-in-Name c = λ source from to p r o es st entries.
    let f = from c.in-Name.word.name in
    let named = ap (E.expr_of from) c.in-Name.is in
    entered p from c.args.around.book.now.functions.items (S.Call o (E.expr_of from c.args.function.now) es) o f es c.is_some.result (ap (λ x. S.Call o x es) named) (entries f)
    (c.is_some.ensures ∙ (sym (some_seen _ c.find.result) ∙ ap is_some (c.find.ensures from st.spells.apart)))
