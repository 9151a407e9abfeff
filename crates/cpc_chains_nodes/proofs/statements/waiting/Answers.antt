use Rattle.std.proofs.Common.{◌≡◌, ◌∙◌, sym, ap, option_map}
use Rattle.cpc_tree.specs.Erase.{expr_of, exprs_of, stmt_of}
use Rattle.cpc_tree.specs.Syntax as S
use Rattle.cpc_tree.specs.declared.program.Expr as GExpr
use Rattle.cpc_chains_event.specs.Lines as L
use Rattle.cpc_chains_lines.specs.Around.{reads}
use Rattle.cpc_chains_lines.specs.Written.{written, puts}
use Rattle.cpc_chains_nodes.proofs.Read.{call_alike, detach_alike}
use Rattle.cpc_chains_nodes.proofs.statements.waiting.Goals as goal

pub returns-in_ok-call_waiting-in-Name : goal.returns-in_ok-call_waiting-in-Name
returns-in_ok-call_waiting-in-Name c = λ source from to p r st leads means same.
    let u = written to c.args.out.now in
    let names = reads from r c.args.around c.args.scope in
    let target = option_map (expr_of from) c.in-Call.target in
    let parts = call_alike _ _ _ _ _ _ (sym (ap (stmt_of from) c.in-Call.is) ∙ (same ∙ ap (stmt_of to) c.in-Call.is)) in
    let row = c.deref.ensures.value in
    let given : exprs_of from c.in-Call.arguments.items ≡ exprs_of to c.in-Call.arguments.items = parts.1.1 in
    let passed : exprs_of from c.deref.result.now ≡ exprs_of to c.deref.result.now = cc in
    let same_row : exprs_of from c.deref.result.now ≡ exprs_of from c.in-Call.arguments.items = cc in
    let whole : stmt_of from c.args.s.now ≡ S.Call (option_map (expr_of from) c.in-Call.target) (S.ENamed (from c.in-Name.word.name)) (exprs_of from c.in-Call.arguments.items) =
    ap (stmt_of from) c.in-Call.is ∙ ap (λ (e : GExpr.Expr). S.Call (option_map (expr_of from) c.in-Call.target) (expr_of from e) (exprs_of from c.in-Call.arguments.items)) (sym c.expr.ensures ∙ c.in-Name.is) in
    c.in_ok-call_waiting-in-Name.ensures source from to p r st leads (means _ _ _ whole) passed
    ∙ (ap (λ (es : S.Exprs). puts u (L.cps_lines p r names (S.Call (option_map (expr_of from) c.in-Call.target) (S.ENamed (from c.in-Name.word.name)) es) c.args.arrival)) same_row
    ∙ ap (λ (x : S.Stmt). puts u (L.cps_lines p r names x c.args.arrival)) (sym whole))

pub returns-in_ok-section-in-Detach : goal.returns-in_ok-section-in-Detach
returns-in_ok-section-in-Detach c = λ source from to p r st leads means same.
    let u = written to c.args.out.now in
    let names = reads from r c.args.around c.args.scope in
    let parts = detach_alike _ _ _ _ _ _ (sym (ap (stmt_of from) c.in-Detach.is) ∙ (same ∙ ap (stmt_of to) c.in-Detach.is)) in
    let row = c.deref-in-Detach.ensures.value in
    let given : exprs_of from c.in-Detach.arguments.items ≡ exprs_of to c.in-Detach.arguments.items = parts.1 in
    let passed : exprs_of from c.deref-in-Detach.result.now ≡ exprs_of to c.deref-in-Detach.result.now = cc in
    let same_row : exprs_of from c.deref-in-Detach.result.now ≡ exprs_of from c.in-Detach.arguments.items = cc in
    c.in_ok-section-in-Detach.ensures source from to p r st leads parts.0 passed
    ∙ (ap (λ (es : S.Exprs). puts u (L.cps_lines p r names (S.Detach (option_map (expr_of from) c.in-Detach.target) (from c.in-Detach.function.name) es) c.args.arrival)) same_row
    ∙ ap (λ (x : S.Stmt). puts u (L.cps_lines p r names x c.args.arrival)) (sym (ap (stmt_of from) c.in-Detach.is)))
