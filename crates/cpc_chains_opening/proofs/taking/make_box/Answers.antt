use Rattle.std.proofs.Common.{Some, ap, ◌∙◌}
use Rattle.cpc_tree.specs.Erase.{expr_of}
use Rattle.cpc_tree.specs.Syntax as S
use Rattle.cpc_chains_lines.proofs.Single.{asked_so}
use Rattle.cpc_chains_opening.proofs.taking.make_box.Goals as goal

pub returns : goal.returns
returns c = λ source from to p r st is.
    let pointer = ap (expr_of to) c.new.ensures ∙ (c.named-pointer.ensures to ∙ ap (λ x. S.ENamed x) (c.local.ensures source from to p r st is)) in
    let size = c.size_of-size.ensures to ∙ ap (λ x. S.ESizeOf (S.TyStruct x)) (c.tag.ensures source from to p r st is) in
    asked_so _ _ _ _ _ _ _ _ (ap (λ (e : S.Expr). Some e) pointer) st.book.of_loop.put_in_box size (c.in_ok-call_one.ensures to)
