use Rattle.std.proofs.Common.{◌∙◌, sym, ap, List, None}
use Rattle.cpc_tree.specs.Erase.{expr_of, stmt_of}
use Rattle.cpc_tree.specs.Points as P
use Rattle.cpc_tree.specs.Syntax as S
use Rattle.cpc_meaning.specs.Act as A
use Rattle.cpc_convert_image_laws.specs.Images as I
use Rattle.cpc_convert_routines.specs.Names.{value_name}
use Rattle.cpc_convert_routines.specs.Routines.{is_plain}
use Rattle.cpc_chains_event.specs.Lines as L
use Rattle.cpc_chains_lines.specs.Around.{reads}
use Rattle.cpc_chains_lines.specs.Written.{written, puts}
use Rattle.cpc_chains_lines.specs.Puts.{statements_before}
use Rattle.cpc_chains_nodes.proofs.Read.{line_put, assign_put, some_alike, arrival_some, arrival_none}
use Rattle.cpc_chains_lines.specs.Puts.{place_in}
use Rattle.cpc_chains_nodes.proofs.nodes.arrive.Goals as goal

pub returns-in_ok-go_on-in-Some : goal.returns-in_ok-go_on-in-Some
returns-in_ok-go_on-in-Some c = λ source from to p r st leads same.
    let u = written to c.args.out.now in
    let names = reads from r c.args.around c.args.scope in
    let e = expr_of from c.in-Some.e.now in
    let place = A.target_of (P.Simple (stmt_of from c.args.s.now)) in
    let alike = some_alike _ _ (c.in-Some.ensures from ∙ (ap (λ (x : S.Stmt). place_in (A.target_of (P.Simple x))) same ∙ sym (c.in-Some.ensures to))) in
    let made = c.in_ok-made-in-Some.ensures from to (is_plain r) (c.readings.ensures.read source from to p r st) alike ∙ ap (λ (n : I.Readings). I.image n e) (c.readings.ensures.are from r) in
    let value = c.named-value.ensures to ∙ ap S.ENamed st.book.own.value in
    line_put c.args.following u _ _ (S.Assign (I.image names e) None (S.ENamed value_name)) (L.goes c.args.next) (assign_put u _ _ _ _ _ _ (c.in_ok-assign-in-Some.ensures to) made value) (c.in_ok-go_on-in-Some.ensures source from to p r st leads)
    ∙ ap (λ (ls : List L.Line). puts u (statements_before c.args.following ls)) (sym (arrival_some names place e c.args.next (c.in-Some.ensures from)))

pub returns-in_ok-pass-in-None : goal.returns-in_ok-pass-in-None
returns-in_ok-pass-in-None c = λ source from to p r st leads same.
    c.in_ok-pass-in-None.ensures source from to p r st leads
    ∙ ap (λ (ls : List L.Line). puts (written to c.args.out.now) (statements_before c.args.following ls))
    (sym (arrival_none (reads from r c.args.around c.args.scope) (A.target_of (P.Simple (stmt_of from c.args.s.now))) c.args.next (c.in-None.ensures from)))
