use Rattle.std.proofs.Common.{◌∙◌, sym, ap, refl, List, [], ◌∷◌, ◌++◌}
use Rattle.cpc_base.specs.Bytes.{Text}
use Rattle.cpc_tree.specs.Erase.{expr_of, exprs_of}
use Rattle.cpc_tree.specs.Syntax as S
use Rattle.cpc_tree.specs.declared.program.Expr as GExpr
use Rattle.cpc_tree.specs.declared.program.Expr.TheVariants as E
use Rattle.cpc_convert_image_laws.specs.Images as I
use Rattle.cpc_chains_store_laws.specs.Driver.{drive_name, detaches}
use Rattle.cpc_convert_routines.specs.Names.{to_name}
use Rattle.cpc_convert_routines.specs.Routines.{is_plain}
use Rattle.cpc_chains_event.specs.Lines as L
use Rattle.cpc_chains_lines.specs.Around.{reads}
use Rattle.cpc_chains_lines.specs.Written.{written, puts}
use Rattle.cpc_chains_lines.proofs.Puts.{behind}
use Rattle.cpc_chains_nodes.proofs.Read.{call_put}
use Rattle.cpc_chains_nodes.proofs.waiting.section.Goals as goal

pub returns : goal.returns
returns c = λ source from to p r st leads function same.
    let u = written to c.args.out.now in
    let framed = written to c.make_frame_if.new.out in
    let names = reads from r c.args.around c.args.scope in
    let es = exprs_of from c.args.arguments.now in
    let frame = c.in_ok-make_frame_if.ensures source from to p r st leads ∙ ap (λ (x : Text). puts u (L.frame_lines_if r x c.args.arrival)) st.book.own.given in
    let made = c.in_ok-made.ensures from to (is_plain r) (c.readings.ensures.read source from to p r st) same ∙ ap (λ (n : I.Readings). I.images n es) (c.readings.ensures.are from r) in
    let drive = c.named.ensures to ∙ ap S.ENamed st.book.own.drive in
    let given = c.named-2.ensures to ∙ ap S.ENamed st.book.own.given in
    let all = c.in_ok-append.ensures.items ∙ ap (λ (xs : List GExpr.Expr). xs ++ c.in_ok-made.made.items)
    (c.in_ok-push-3.ensures.items ∙ ap (λ (xs : List GExpr.Expr). xs ++ E.Name c.args.function ∷ [])
    (c.in_ok-push-2.ensures.items ∙ ap (λ (xs : List GExpr.Expr). xs ++ c.named-2.result ∷ [])
    (c.in_ok-push.ensures.items ∙ ap (λ (xs : List GExpr.Expr). xs ++ c.named.result ∷ []) c.new-all.ensures.items))) in
    let row = ap (exprs_of to) all
    ∙ (ap (λ (x : S.Expr). S.AndExpr x (S.AndExpr (expr_of to c.named-2.result) (S.AndExpr (S.ENamed (to c.args.function.name)) (exprs_of to c.in_ok-made.made.items)))) drive
    ∙ (ap (λ (x : S.Expr). S.AndExpr (S.ENamed drive_name) (S.AndExpr x (S.AndExpr (S.ENamed (to c.args.function.name)) (exprs_of to c.in_ok-made.made.items)))) given
    ∙ (ap (λ (x : Text). S.AndExpr (S.ENamed drive_name) (S.AndExpr (S.ENamed to_name) (S.AndExpr (S.ENamed x) (exprs_of to c.in_ok-made.made.items)))) (sym function)
    ∙ ap (λ (xs : S.Exprs). S.AndExpr (S.ENamed drive_name) (S.AndExpr (S.ENamed to_name) (S.AndExpr (S.ENamed (from c.args.function.name)) xs))) made))) in
    let called = call_put framed _ _ _ _ _ _ _ (c.in_ok-call.ensures to) refl (ap S.ENamed st.book.of_loop.detach) row in
    behind u framed _ (L.frame_lines_if r to_name c.args.arrival) (detaches to_name (from c.args.function.name) (I.images names es) ∷ L.hands_nothing ∷ []) frame
    (behind framed _ _ (detaches to_name (from c.args.function.name) (I.images names es) ∷ []) (L.hands_nothing ∷ []) called (c.in_ok-hand_nothing.ensures to))
