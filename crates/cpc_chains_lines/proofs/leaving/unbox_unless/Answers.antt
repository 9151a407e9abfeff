use Rattle.std.proofs.Common.{Bool, [], refl, sym, ap, ◌∙◌}
use Rattle.cpc_tree.specs.Syntax as S
use Rattle.cpc_forms_code.specs.Lifts.{unless}
use Rattle.cpc_chains_lines.specs.Puts.{unboxes}
use Rattle.cpc_chains_lines.specs.Written.{written, puts}
use Rattle.cpc_chains_lines.proofs.Single.{asked_so}
use Rattle.cpc_chains_lines.proofs.leaving.unbox_unless.Goals as goal

pub returns : goal.returns
returns c = λ source from to p r st is.
    let pointer = c.named-pointer.ensures to ∙ ap (λ x. S.ENamed x) (c.local.ensures source from to p r st is) in
    asked_so _ _ _ _ _ _ _ _ refl st.book.of_loop.unbox pointer (c.in_ok-call_one.ensures to)
    ∙ ap (λ (b : Bool). puts (written to c.args.out.now) (unboxes r (unless b c.args.number []))) (sym c.if-is_register.false)
