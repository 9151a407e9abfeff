use Rattle.std.proofs.Common.{◌≡◌, ◌∙◌, sym, subst, ap, refl, List, Option, Some, None, option_map}
use Rattle.cpc_tree.specs.Erase.{in_table, type_of, expr_of, exprs_of, stmt_of}
use Rattle.cpc_tree.specs.Syntax as S
use Rattle.cpc_tree.specs.declared.program.Statement.TheVariants as T
use Rattle.cpc_tree.specs.declared.program.Expr as GExpr
use Rattle.cpc_convert_common.specs.Converted.{spawner_name}
use Rattle.cpc_convert_image_laws.specs.Images as I
use Rattle.cpc_convert_routines.specs.Routines.{is_plain}
use Rattle.cpc_chains_event.specs.Lines as L
use Rattle.cpc_chains_lines.specs.Around.{reads}
use Rattle.cpc_chains_lines.specs.Written.{written, puts}
use Rattle.cpc_chains_lines.specs.Puts.{statements_before}
use Rattle.cpc_chains_nodes.proofs.OtherKinds.{only_passed}
use Rattle.cpc_chains_nodes.proofs.Read.{told, line_put, assign_put, call_put, some_alike, call_alike, spawn_alike, declare_alike, assign_alike, return_alike}
use Rattle.cpc_chains_nodes.proofs.statements.simple.Goals as goal

pub returns-in_ok-leave-in-Return : goal.returns-in_ok-leave-in-Return
returns-in_ok-leave-in-Return c = λ source from to p r st leads same table.
    let u = written to c.args.out.now in
    let names = reads from r c.args.around c.args.scope in
    let value = return_alike _ _ (sym (ap (stmt_of from) c.in-Return.is) ∙ (same ∙ ap (stmt_of to) c.in-Return.is)) in
    told c.args.following u _ (L.leave_lines r names (option_map (expr_of from) c.in-Return.value)) (c.in_ok-leave-in-Return.ensures source from to p r st value)
    ∙ ap (λ (x : S.Stmt). puts u (statements_before c.args.following (L.simple_lines r names x c.args.next))) (sym (ap (stmt_of from) c.in-Return.is))

pub returns-in_ok-go_on-in-Spawn : goal.returns-in_ok-go_on-in-Spawn
returns-in_ok-go_on-in-Spawn c = λ source from to p r st leads same table.
    let u = written to c.args.out.now in
    let names = reads from r c.args.around c.args.scope in
    let parts = spawn_alike _ _ _ _ (sym (ap (stmt_of from) c.in-Spawn.is) ∙ (same ∙ ap (stmt_of to) c.in-Spawn.is)) in
    let tabled = spawn_alike _ _ _ _ (sym (ap (stmt_of (in_table source)) c.in-Spawn.is) ∙ (table ∙ ap (stmt_of to) c.in-Spawn.is)) in
    let row = c.deref.ensures.value in
    let given : exprs_of from c.in-Spawn.arguments.items ≡ exprs_of to c.in-Spawn.arguments.items = parts.1 in
    let passed : exprs_of from c.deref.result.now ≡ exprs_of to c.deref.result.now = cc in
    let same_row : exprs_of from c.deref.result.now ≡ exprs_of from c.in-Spawn.arguments.items = cc in
    let name = c.spawner-name.ensures source to st.book tabled.0 ∙ ap spawner_name (sym parts.0) in
    let made = c.in_ok-arguments-in-Spawn.ensures from to (is_plain r) (c.readings.ensures.read source from to p r st) passed
    ∙ (ap (λ (n : I.Readings). I.images n (exprs_of from c.deref.result.now)) (c.readings.ensures.are from r) ∙ ap (I.images names) same_row) in
    line_put c.args.following u _ _ (S.Call None (S.ENamed (spawner_name (from c.in-Spawn.function.name))) (I.images names (exprs_of from c.in-Spawn.arguments.items))) (L.goes c.args.next)
    (call_put u _ _ _ _ _ _ _ (c.in_ok-call-in-Spawn.ensures to) refl (ap S.ENamed name) made) (c.in_ok-go_on-in-Spawn.ensures source from to p r st leads)
    ∙ ap (λ (x : S.Stmt). puts u (statements_before c.args.following (L.simple_lines r names x c.args.next))) (sym (ap (stmt_of from) c.in-Spawn.is))

pub returns-in_ok-go_on-in-Some : goal.returns-in_ok-go_on-in-Some
returns-in_ok-go_on-in-Some c = λ source from to p r st leads same table.
    let u = written to c.args.out.now in
    let names = reads from r c.args.around c.args.scope in
    let at = c.in-Some.is ∙ ap Some (sym c.expr.ensures) in
    let parts = declare_alike _ _ _ _ _ _ (sym (ap (stmt_of from) c.in-Declare.is) ∙ (same ∙ ap (stmt_of to) c.in-Declare.is)) in
    let start = some_alike _ _ (sym (ap (option_map (expr_of from)) at) ∙ (parts.1 ∙ ap (option_map (expr_of to)) at)) in
    line_put c.args.following u _ _ (S.Assign (I.image names (S.ENamed (from c.in-Declare.word.name))) None (I.image names (expr_of from c.expr.result.now))) (L.goes c.args.next)
    (c.in_ok-begin_variable-in-Some.ensures source from to p r st parts.0 start) (c.in_ok-go_on-in-Some.ensures source from to p r st leads)
    ∙ ap (λ (x : S.Stmt). puts u (statements_before c.args.following (L.simple_lines r names x c.args.next))) (sym (ap (stmt_of from) c.in-Declare.is ∙ ap (λ (o : Option GExpr.Expr). S.Declare (from c.in-Declare.word.name) (type_of from c.in-Declare.of) (option_map (expr_of from) o)) at))

pub returns-in_ok-pass-in-None : goal.returns-in_ok-pass-in-None
returns-in_ok-pass-in-None c = λ source from to p r st leads same table.
    let u = written to c.args.out.now in
    let names = reads from r c.args.around c.args.scope in
    c.in_ok-pass-in-None.ensures source from to p r st leads
    ∙ ap (λ (x : S.Stmt). puts u (statements_before c.args.following (L.simple_lines r names x c.args.next))) (sym (ap (stmt_of from) c.in-Declare.is ∙ ap (λ (o : Option GExpr.Expr). S.Declare (from c.in-Declare.word.name) (type_of from c.in-Declare.of) (option_map (expr_of from) o)) c.in-None.is))

pub returns-in_ok-go_on-in-Assign : goal.returns-in_ok-go_on-in-Assign
returns-in_ok-go_on-in-Assign c = λ source from to p r st leads same table.
    let u = written to c.args.out.now in
    let names = reads from r c.args.around c.args.scope in
    let aimed = subst (λ e. c.args.s.now ≡ T.Assign c.in-Assign.place c.in-Assign.operator e c.in-Assign.op c.in-Assign.value) (sym c.expr-in-Assign.ensures) c.in-Assign.is in
    let is = subst (λ e. c.args.s.now ≡ T.Assign c.in-Assign.place c.in-Assign.operator c.expr-in-Assign.result.now c.in-Assign.op e) (sym c.expr-in-Assign-2.ensures) aimed in
    let parts = assign_alike _ _ _ _ _ _ (sym (ap (stmt_of from) is) ∙ (same ∙ ap (stmt_of to) is)) in
    line_put c.args.following u _ _ (S.Assign (I.image names (expr_of from c.expr-in-Assign.result.now)) c.in-Assign.op (I.image names (expr_of from c.expr-in-Assign-2.result.now))) (L.goes c.args.next)
    (assign_put u _ _ _ _ _ _ (c.in_ok-assign_by-in-Assign.ensures to)
    (c.in_ok-target-in-Assign.ensures from to (is_plain r) (c.readings-in-Assign.ensures.read source from to p r st) parts.0 ∙ ap (λ (n : I.Readings). I.image n (expr_of from c.expr-in-Assign.result.now)) (c.readings-in-Assign.ensures.are from r))
    (c.in_ok-value-in-Assign.ensures from to (is_plain r) (c.readings-in-Assign-2.ensures.read source from to p r st) parts.1 ∙ ap (λ (n : I.Readings). I.image n (expr_of from c.expr-in-Assign-2.result.now)) (c.readings-in-Assign-2.ensures.are from r)))
    (c.in_ok-go_on-in-Assign.ensures source from to p r st leads)
    ∙ ap (λ (x : S.Stmt). puts u (statements_before c.args.following (L.simple_lines r names x c.args.next))) (sym (ap (stmt_of from) is))

pub returns-in_ok-go_on-in-Call : goal.returns-in_ok-go_on-in-Call
returns-in_ok-go_on-in-Call c = λ source from to p r st leads same table.
    let u = written to c.args.out.now in
    let names = reads from r c.args.around c.args.scope in
    let is = subst (λ e. c.args.s.now ≡ T.Call c.in-Call.place c.in-Call.operator c.in-Call.target e c.in-Call.arguments) (sym c.expr-in-Call.ensures) c.in-Call.is in
    let seen : stmt_of from c.args.s.now ≡ S.Call (option_map (expr_of from) c.in-Call.target) (expr_of from c.expr-in-Call.result.now) (exprs_of from c.in-Call.arguments.items) = ap (stmt_of from) is in
    let parts = call_alike _ _ _ _ _ _ (sym seen ∙ (same ∙ ap (stmt_of to) is)) in
    let row = c.deref-in-Call.ensures.value in
    let given : exprs_of from c.in-Call.arguments.items ≡ exprs_of to c.in-Call.arguments.items = parts.1.1 in
    let passed : exprs_of from c.deref-in-Call.result.now ≡ exprs_of to c.deref-in-Call.result.now = cc in
    let said = S.Call (option_map (expr_of from) c.in-Call.target) (expr_of from c.expr-in-Call.result.now) (exprs_of from c.deref-in-Call.result.now) in
    let whole : S.Call (option_map (expr_of from) c.in-Call.target) (expr_of from c.expr-in-Call.result.now) (exprs_of from c.deref-in-Call.result.now) ≡ stmt_of from c.args.s.now = cc in
    line_put c.args.following u _ _ (I.image_stmt names said) (L.goes c.args.next) (c.in_ok-call-in-Call.ensures source from to p r st parts.0 parts.1.0 passed) (c.in_ok-go_on-in-Call.ensures source from to p r st leads)
    ∙ ap (λ (x : S.Stmt). puts u (statements_before c.args.following (L.simple_lines r names x c.args.next))) whole

pub returns-in_ok-pass-in_default : goal.returns-in_ok-pass-in_default
returns-in_ok-pass-in_default c = λ source from to p r st leads same table.
    let u = written to c.args.out.now in
    let names = reads from r c.args.around c.args.scope in
    c.in_ok-pass-in_default.ensures source from to p r st leads
    ∙ ap (λ (ls : List L.Line). puts u (statements_before c.args.following ls))
    (sym (only_passed r names from c.args.s.now c.args.next c.in_default.not-Return c.in_default.not-Spawn c.in_default.not-Declare c.in_default.not-Assign c.in_default.not-Call))
