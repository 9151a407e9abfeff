use Rattle.std.proofs.Common.{◌≡◌, ◌∙◌, sym, subst, ap, ℕ, List, [], ◌∷◌, Option, option_map}
use Rattle.cpc_tree.specs.Erase.{expr_of, exprs_of, stmt_of}
use Rattle.cpc_tree.specs.Syntax as S
use Rattle.cpc_tree.specs.declared.program.Statement.TheVariants as T
use Rattle.cpc_convert_image_laws.specs.Images as I
use Rattle.cpc_chains_event.specs.Lines as L
use Rattle.cpc_chains_lines.specs.Around.{reads}
use Rattle.cpc_chains_lines.specs.Written.{written, puts}
use Rattle.cpc_chains_lines.specs.Puts.{statements_before}
use Rattle.cpc_chains_nodes.proofs.OtherKinds.{only_framed}
use Rattle.cpc_chains_nodes.proofs.Read.{line_put, call_alike}
use Rattle.cpc_chains_nodes.proofs.statements.framed.Goals as goal

pub returns-in_ok-go_on-in-Call : goal.returns-in_ok-go_on-in-Call
returns-in_ok-go_on-in-Call c = λ source from to p r arrival st leads next same.
    let u = written to c.args.out.now in
    let names = reads from r c.args.around c.args.scope in
    let is = subst (λ e. c.args.s.now ≡ T.Call c.in-Call.place c.in-Call.operator c.in-Call.target e c.in-Call.arguments) (sym c.expr.ensures) c.in-Call.is in
    let seen : stmt_of from c.args.s.now ≡ S.Call (option_map (expr_of from) c.in-Call.target) (expr_of from c.expr.result.now) (exprs_of from c.in-Call.arguments.items) = ap (stmt_of from) is in
    let parts = call_alike _ _ _ _ _ _ (sym seen ∙ (same ∙ ap (stmt_of to) is)) in
    let row = c.deref.ensures.value in
    let given : exprs_of from c.in-Call.arguments.items ≡ exprs_of to c.in-Call.arguments.items = parts.1.1 in
    let passed : exprs_of from c.deref.result.now ≡ exprs_of to c.deref.result.now = cc in
    let said = S.Call (option_map (expr_of from) c.in-Call.target) (expr_of from c.expr.result.now) (exprs_of from c.deref.result.now) in
    let whole : S.Call (option_map (expr_of from) c.in-Call.target) (expr_of from c.expr.result.now) (exprs_of from c.deref.result.now) ≡ stmt_of from c.args.s.now = cc in
    line_put c.args.following u _ _ (I.image_stmt names said) (L.goes c.args.next) (c.in_ok-call-in-Call.ensures source from to p r st parts.0 parts.1.0 passed) (c.in_ok-go_on-in-Call.ensures source from to p r st leads)
    ∙ (ap (λ (o : Option ℕ). puts u (statements_before c.args.following (L.Does (I.image_stmt names said) ∷ L.goes o))) next
    ∙ ap (λ (x : S.Stmt). puts u (statements_before c.args.following (L.framed_lines r names x arrival))) whole)

pub returns-in_ok-pass-in_default : goal.returns-in_ok-pass-in_default
returns-in_ok-pass-in_default c = λ source from to p r arrival st leads next same.
    let u = written to c.args.out.now in
    c.in_ok-pass-in_default.ensures source from to p r st leads
    ∙ (ap (λ (o : Option ℕ). puts u (statements_before c.args.following (L.passes o ∷ []))) next
    ∙ ap (λ (ls : List L.Line). puts u (statements_before c.args.following ls)) (sym (only_framed r (reads from r c.args.around c.args.scope) from c.args.s.now arrival c.in_default.not-Call)))
