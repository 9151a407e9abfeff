use Rattle.std.proofs.Common.{◌≡◌, Option, Some, option_map, sym, ap, ◌∙◌}
use Rattle.cpc_tree.specs.Erase.{expr_of}
use Rattle.cpc_tree.specs.Syntax as S
use Rattle.cpc_convert_image_laws.specs.Images as I
use Rattle.cpc_chains_event.specs.Lines.{leave_lines}
use Rattle.cpc_convert_routines.specs.Routines.{is_plain}
use Rattle.cpc_chains_lines.specs.Around.{reads}
use Rattle.cpc_chains_lines.specs.Written.{written, puts}
use Rattle.cpc_chains_lines.proofs.Framing.{left_with, left_without}
use Rattle.cpc_chains_lines.proofs.leaving.leave.Goals as goal

pub returns-in-Some : goal.returns-in-Some
returns-in-Some c = λ source from to p r st alike.
    let e = c.expr.result.now in
    let at = c.in-Some.is ∙ ap Some (sym c.expr.ensures) in
    let names = reads from r c.args.around c.args.scope in
    let both : Some (expr_of from e) ≡ Some (expr_of to e) = sym (ap (option_map (expr_of from)) at) ∙ (alike ∙ ap (option_map (expr_of to)) at) in
    let same : expr_of from e ≡ expr_of to e = cc in
    let made = c.in_ok-made.ensures from to (is_plain r) (c.readings.ensures.read source from to p r st) same ∙ ap (λ (n : I.Readings). I.image n (expr_of from e)) (c.readings.ensures.are from r) in
    let place = c.named.ensures to ∙ ap (λ x. S.ENamed x) st.book.own.returned in
    left_with r names (expr_of from e) _ _ _ (written to c.args.out.now) _ _ _ _ place made st.book.own.next (c.in_ok-assign.ensures to) (c.in_ok-unbox.ensures source from to p r st)
    (c.in_ok-patch.ensures source from to p r st) (c.in_ok-hand_over.ensures to)
    ∙ ap (λ (o : Option S.Expr). puts (written to c.args.out.now) (leave_lines r names o)) (sym (ap (option_map (expr_of from)) at))

pub returns : goal.returns
returns c = λ source from to p r st alike.
    let names = reads from r c.args.around c.args.scope in
    left_without r names _ (written to c.args.out.now) _ _ st.book.own.next (c.in_ok-unbox-2.ensures source from to p r st) (c.in_ok-hand_over-2.ensures to)
    ∙ ap (λ (o : Option S.Expr). puts (written to c.args.out.now) (leave_lines r names o)) (sym (ap (option_map (expr_of from)) c.in_default.is))
