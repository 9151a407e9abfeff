use Rattle.std.proofs.Common.{◌≡◌, ◌∙◌, [], ◌∷◌, ◌++◌, map, pos, None, Some, List, ap}
use Rattle.std.proofs.lemmas.Result.{on_ok_weaker}
use Rattle.cpc_num.specs.declared.kinds.Kind.TheVariants.{Int}
use Rattle.cpc_tree.specs.declared.program.Expr as GExpr
use Rattle.cpc_tree.specs.declared.program.Parameter as GParameter
use Rattle.cpc_tree.specs.declared.program.Function as GFunction
use Rattle.cpc_tree.specs.declared.program.Mode.TheVariants.{Native}
use Rattle.cpc_tree.specs.Erase.{stmt_of, expr_of, exprs_of, parameter_of}
use Rattle.cpc_tree.specs.Syntax.{Block, Call, Return, ENamed, EInteger, NoExpr, NoStmt, TyInt, FunctionItem}
use Rattle.cpc_meaning.specs.Start.{main_name}
use Rattle.cpc_convert_common.specs.Converted.{spawner_name}
use Rattle.cpc_convert_flat_laws.specs.Flat.{before}
use Rattle.cpc_chains_event.specs.Converted.{main_function}
use Rattle.cpc_chains_lines.specs.Written.{Written, written, puts}
use Rattle.cpc_chains_items.specs.Listed.{listed}
use Rattle.cpc_chains_items.proofs.items.Items.main.Goals as goal

pub returns : goal.returns
returns c = on_ok_weaker c.add_function.result (λ h source from to p r s named.
    let none : Written = record { done = []; label = None } in
    let spawner = to c.args.around.called.now.spawner in
    let calls = Call None (ENamed (spawner_name main_name)) NoExpr in
    let called : written to c.call.new.self ≡ puts none (calls ∷ []) =
    c.in_ok-call.ensures to ∙ (ap (λ u. puts u (Call None (ENamed spawner) (exprs_of to c.new.result.items) ∷ [])) (c.new-out.ensures to)
    ∙ (ap (λ (a : List GExpr.Expr). puts none (Call None (ENamed spawner) (exprs_of to a) ∷ [])) c.new.ensures.items ∙ ap (λ f. puts none (Call None (ENamed f) NoExpr ∷ [])) (s.called.spawner ∙ ap spawner_name named))) in
    let given : written to c.give.new.self ≡ puts (puts none (calls ∷ [])) (Return (Some (EInteger Int (pos 0))) ∷ []) =
    c.in_ok-give.ensures to ∙ (ap (λ u. puts u (Return (Some (expr_of to c.zero.result)) ∷ [])) called ∙ ap (λ z. puts (puts none (calls ∷ [])) (Return (Some z) ∷ [])) (c.zero.ensures to)) in
    let body : stmt_of to c.into_block-body.result ≡ main_function.body = c.into_block-body.ensures to ∙ ap (λ (u : Written). Block (before u.done NoStmt)) given in
    let name : to c.function.result.now.word.name ≡ main_name = ap (λ (f : GFunction.Function). to f.word.name) c.function.ensures ∙ named in
    let old = listed to c.args.self.now in
    h to ∙ (ap (λ n. old ++ FunctionItem (record { mode = Native; called = n; result = TyInt Int; parameters = map (parameter_of to) c.new-2.result.items; body = stmt_of to c.into_block-body.result }) ∷ []) name
    ∙ (ap (λ (ps : List GParameter.Parameter). old ++ FunctionItem (record { mode = Native; called = main_name; result = TyInt Int; parameters = map (parameter_of to) ps; body = stmt_of to c.into_block-body.result }) ∷ []) c.new-2.ensures.items
    ∙ ap (λ u. old ++ FunctionItem (record { mode = Native; called = main_name; result = TyInt Int; parameters = []; body = u }) ∷ []) body))) c.add_function.ensures
