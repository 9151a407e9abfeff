use Rattle.std.proofs.Common.{Ok, refl, sym, subst}
use Rattle.cpc_tree.specs.Erase.{exprs_of}
use Rattle.cpc_tree.specs.declared.program.Mode.{Mode}
use Rattle.cpc_eval.specs.Around.{context_of}
use Rattle.cpc_native_builtins.specs.declared.call.Call.TheVariants as C
use Rattle.cpc_native_plans.specs.Calls.{calls_host, calls_known, calls_moded}
use Rattle.cpc_native_plans.specs.Plans.{Lays}
use Rattle.cpc_native_plans.specs.declared.plan.Plan.TheVariants as L
use Rattle.cpc_native_plans.proofs.Laying.{lays_by, lays_same}
use Rattle.cpc_native_plans.proofs.Calling.{moded_known}
use Rattle.cpc_native_plans.proofs.plan.calls_item.Goals as goal

pub returns-in-Extern-clause-value : goal.returns-in-Extern-clause-value
returns-in-Extern-clause-value c = λ names told hf hes.
    let k = context_of names c.args.around.now in
    let x = names c.args.name in
    let es = exprs_of names c.args.arguments.now in
    let plan = L.Asks (C.Host c.args.name) c.args.arguments in
    let P : Mode → Type 0 = λ m. Lays names k (Ok plan) (calls_moded k x es m) in
    subst P (sym c.in-Extern.is) (lays_same names k plan (calls_host k x es) hes refl)

pub returns-in_default-clause-value : goal.returns-in_default-clause-value
returns-in_default-clause-value c = λ names told hf hes.
    let k = context_of names c.args.around.now in
    let x = names c.args.name in
    let es = exprs_of names c.args.arguments.now in
    lays_by names k c.calls_function.result (calls_known k x es) (calls_moded k x es c.args.mode) (moded_known k x es c.args.mode c.in_default.not-Extern) (c.calls_function.ensures.value names told hf hes)
