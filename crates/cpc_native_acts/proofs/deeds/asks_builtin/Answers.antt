use Rattle.std.proofs.Common.{Ok, refl, sym}
use Rattle.cpc_tree.specs.Erase.{exprs_of}
use Rattle.cpc_meaning.specs.Answer.{◌>>=◌}
use Rattle.cpc_meaning.specs.Requests as R
use Rattle.cpc_meaning.specs.Act as M
use Rattle.cpc_eval_values.specs.Shown.{values_of}
use Rattle.cpc_eval.specs.Around.{context_of}
use Rattle.cpc_tree.specs.PrimitiveNames.{primitive_of}
use Rattle.cpc_native_builtins.specs.declared.call.Call.TheVariants as C
use Rattle.cpc_native_plans.specs.Rows.{asked_with}
use Rattle.cpc_native_acts.specs.declared.deeds.Deed.TheVariants as D
use Rattle.cpc_native_acts.proofs.Planned.{plans_by, plans_then, plans_through}
use Rattle.cpc_native_plans.proofs.Doing.{asks_parts}
use Rattle.cpc_native_acts.proofs.deeds.asks_builtin.Goals as goal

pub returns-in_err-row-clause-value : goal.returns-in_err-row-clause-value
returns-in_err-row-clause-value c = λ names told hes.
    let k = context_of names c.args.around.now in
    let es = exprs_of names c.args.arguments.now in
    let prim = primitive_of c.args.builtin in
    let o = M.puts_text prim es in
    let r = c.from_residual.result in
    plans_by names k r (asked_with k prim es o >>= M.asks (R.Builtin prim)) (M.asks_with k prim es o) (sym (asks_parts k prim es o))
    (plans_through names k r _ (asked_with k prim es o) (M.asks (R.Builtin prim)) c.from_residual.ensures.1 (c.in_err-row.ensures.value names told hes))

pub returns-clause-value : goal.returns-clause-value
returns-clause-value c = λ names told hes.
    let k = context_of names c.args.around.now in
    let es = exprs_of names c.args.arguments.now in
    let prim = primitive_of c.args.builtin in
    let o = M.puts_text prim es in
    let d = D.Asks (C.Builtin c.args.builtin) c.in_ok-row.row in
    plans_by names k (Ok d) (asked_with k prim es o >>= M.asks (R.Builtin prim)) (M.asks_with k prim es o) (sym (asks_parts k prim es o))
    (plans_then names k (values_of names c.in_ok-row.row.items) (asked_with k prim es o) (M.asks (R.Builtin prim)) d (c.in_ok-row.ensures.value names told hes) refl)
