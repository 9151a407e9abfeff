use Rattle.std.proofs.Common.{◌∙◌, sym, ap, ℕ, List, [], ◌∷◌, Option, Some, option_map}
use Rattle.std.specs.Borrow.{Bor}
use Rattle.cpc_tree.specs.Erase.{expr_of}
use Rattle.cpc_tree.specs.Syntax as S
use Rattle.cpc_tree.specs.declared.program.Expr as GExpr
use Rattle.cpc_convert_image_laws.specs.Images as I
use Rattle.cpc_convert_routines.specs.Routines.{is_plain}
use Rattle.cpc_chains_event.specs.Lines as L
use Rattle.cpc_chains_event.specs.Rows.{put_statement, JumpIf}
use Rattle.cpc_chains_lines.specs.Around.{reads}
use Rattle.cpc_chains_lines.specs.Written.{written, puts}
use Rattle.cpc_chains_lines.specs.Puts.{statements_before}
use Rattle.cpc_chains_lines.proofs.Puts.{behind}
use Rattle.cpc_chains_nodes.proofs.Read.{some_alike, never_tests}
use Rattle.cpc_chains_nodes.proofs.nodes.test.Goals as goal

pub returns-in_ok-go_on-in-Some-0₀ : goal.returns-in_ok-go_on-in-Some-0₀
returns-in_ok-go_on-in-Some-0₀ c = λ source from to p r st yes other same.
    let u = written to c.args.out.now in
    let names = reads from r c.args.around c.args.scope in
    let e = expr_of from c.in-Some.e.now in
    let by_from = ap (option_map (λ (x : Bor GExpr.Expr). expr_of from x.now)) c.in-Some.is in
    let by_to = ap (option_map (λ (x : Bor GExpr.Expr). expr_of to x.now)) c.in-Some.is in
    let alike = some_alike _ _ (sym by_from ∙ (same ∙ by_to)) in
    let made = c.in_ok-made-in-Some-0₀.ensures from to (is_plain r) (c.readings.ensures.read source from to p r st) alike ∙ ap (λ (n : I.Readings). I.image n e) (c.readings.ensures.are from r) in
    let goes = c.in_ok-goto_where-in-Some-0₀.ensures source from to p r st (yes c.in-Some-0₀.number c.in-Some-0₀.is) ∙ ap (λ (x : S.Expr). puts u (put_statement (JumpIf x c.in-Some-0₀.number) ∷ [])) made in
    behind u _ _ (put_statement (JumpIf (I.image names e) c.in-Some-0₀.number) ∷ []) (statements_before c.args.following (L.goes c.args.ways.1)) goes (c.in_ok-go_on-in-Some-0₀.ensures source from to p r st other)
    ∙ (ap (λ (o : Option ℕ). puts u (statements_before c.args.following (L.test_lines names (Some e) o c.args.ways.1))) (sym c.in-Some-0₀.is)
    ∙ ap (λ (o : Option S.Expr). puts u (statements_before c.args.following (L.test_lines names o c.args.ways.0 c.args.ways.1))) (sym by_from))

pub returns-in_ok-pass-in-None-0₀ : goal.returns-in_ok-pass-in-None-0₀
returns-in_ok-pass-in-None-0₀ c = λ source from to p r st yes other same.
    c.in_ok-pass-in-None-0₀.ensures source from to p r st yes
    ∙ ap (λ (ls : List L.Line). puts (written to c.args.out.now) (statements_before c.args.following ls))
    (sym (never_tests (reads from r c.args.around c.args.scope) (option_map (λ (x : Bor GExpr.Expr). expr_of from x.now) c.args.t) c.args.ways.0 c.args.ways.1 c.in-None-0₀.is))

pub returns-in_ok-pass-in-None : goal.returns-in_ok-pass-in-None
returns-in_ok-pass-in-None c = λ source from to p r st yes other same.
    c.in_ok-pass-in-None.ensures source from to p r st yes
    ∙ ap (λ (o : Option S.Expr). puts (written to c.args.out.now) (statements_before c.args.following (L.test_lines (reads from r c.args.around c.args.scope) o c.args.ways.0 c.args.ways.1)))
    (sym (ap (option_map (λ (x : Bor GExpr.Expr). expr_of from x.now)) c.in-None.is))
