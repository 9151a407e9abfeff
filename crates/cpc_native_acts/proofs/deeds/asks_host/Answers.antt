use Rattle.std.proofs.Common.{refl}
use Rattle.cpc_tree.specs.Erase.{exprs_of}
use Rattle.cpc_meaning.specs.Requests as R
use Rattle.cpc_meaning.specs.Act as M
use Rattle.cpc_eval_values.specs.Shown.{values_of}
use Rattle.cpc_eval.specs.Around.{context_of}
use Rattle.cpc_native_builtins.specs.declared.call.Call.TheVariants as C
use Rattle.cpc_native_plans.specs.Rows.{longs}
use Rattle.cpc_native_acts.specs.declared.deeds.Deed.TheVariants as D
use Rattle.cpc_native_acts.proofs.Planned.{plans_then, plans_through}
use Rattle.cpc_native_acts.proofs.deeds.asks_host.Goals as goal

pub returns-in_err-row-clause-value : goal.returns-in_err-row-clause-value
returns-in_err-row-clause-value c = λ names told hes.
    let k = context_of names c.args.around.now in
    plans_through names k c.from_residual.result _ (longs k (exprs_of names c.args.arguments.now)) (M.asks (R.Host (names c.args.name))) c.from_residual.ensures.1 (c.in_err-row.ensures.value names told hes)

pub returns-clause-value : goal.returns-clause-value
returns-clause-value c = λ names told hes.
    let k = context_of names c.args.around.now in
    plans_then names k (values_of names c.in_ok-row.row.items) (longs k (exprs_of names c.args.arguments.now)) (M.asks (R.Host (names c.args.name))) (D.Asks (C.Host c.args.name) c.in_ok-row.row)
    (c.in_ok-row.ensures.value names told hes) refl
