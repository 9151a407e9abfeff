use Rattle.std.proofs.Common.{◌∙◌, sym, ap, refl, subst, List, [], ◌∷◌, ◌++◌, None}
use Rattle.cpc_base.specs.Bytes.{Text}
use Rattle.cpc_tree.specs.Erase.{Table, expr_of, exprs_of}
use Rattle.cpc_tree.specs.Syntax as S
use Rattle.cpc_tree.specs.declared.program.Expr as GExpr
use Rattle.cpc_check_rules.specs.Apart.{Spells}
use Rattle.cpc_convert_image_laws.specs.Images as I
use Rattle.cpc_chains_store_laws.specs.Driver.{drive_name}
use Rattle.cpc_convert_routines.specs.Names.{to_name}
use Rattle.cpc_convert_routines.specs.Routines.{is_plain}
use Rattle.cpc_chains_event.specs.Lines as L
use Rattle.cpc_chains_lines.specs.Around.{reads}
use Rattle.cpc_chains_lines.specs.Written.{written, puts}
use Rattle.cpc_chains_lines.proofs.Puts.{behind}
use Rattle.cpc_chains_nodes.proofs.Arguments.{followed_by}
use Rattle.cpc_chains_nodes.proofs.Read.{call_put}
use Rattle.cpc_tree.specs.Primitives.{primitive_named}
use Rattle.cpc_chains_nodes.proofs.waiting.wait.Goals as goal

pub returns : goal.returns
returns c = λ source from to p r st leads same.
    let u = written to c.args.out.now in
    let framed = written to c.make_frame_if.new.out in
    let names = reads from r c.args.around c.args.scope in
    let es = exprs_of from c.args.arguments.now in
    let frame = c.in_ok-make_frame_if.ensures source from to p r st leads ∙ ap (λ (x : Text). puts u (L.frame_lines_if r x c.args.arrival)) st.book.own.given in
    let made = c.in_ok-made.ensures from to (is_plain r) (c.readings.ensures.read source from to p r st) same ∙ ap (λ (n : I.Readings). I.images n es) (c.readings.ensures.are from r) in
    let drive = c.named.ensures to ∙ ap S.ENamed st.book.own.drive in
    let given = c.named-2.ensures to ∙ ap S.ENamed st.book.own.given in
    let row = ap (exprs_of to) (c.in_ok-push-2.ensures.items ∙ ap (λ (xs : List GExpr.Expr). xs ++ c.named-2.result ∷ []) c.in_ok-push.ensures.items)
    ∙ (followed_by to c.in_ok-made.made.items c.named.result c.named-2.result
    ∙ (ap (λ (xs : S.Exprs). I.followed xs (expr_of to c.named.result) (expr_of to c.named-2.result)) made
    ∙ (ap (λ (x : S.Expr). I.followed (I.images names es) x (expr_of to c.named-2.result)) drive ∙ ap (λ (x : S.Expr). I.followed (I.images names es) (S.ENamed drive_name) x) given))) in
    let word = c.runtime_word-word.ensures to st.book.of_loop ∙ ap L.runtime_name (c.primitive_at.ensures from (subst (λ (t : Table). Spells t from) (sym st.texts) st.spells)) in
    let called = call_put framed _ _ _ _ _ _ _ (c.in_ok-call.ensures to) refl (ap S.ENamed word) row in
    behind u framed _ (L.frame_lines_if r to_name c.args.arrival) (S.Call None (S.ENamed (L.runtime_name (primitive_named (from c.args.name)))) (I.followed (I.images names es) (S.ENamed drive_name) (S.ENamed to_name)) ∷ L.hands_nothing ∷ []) frame
    (behind framed _ _ (S.Call None (S.ENamed (L.runtime_name (primitive_named (from c.args.name)))) (I.followed (I.images names es) (S.ENamed drive_name) (S.ENamed to_name)) ∷ []) (L.hands_nothing ∷ []) called (c.in_ok-hand_nothing.ensures to))
