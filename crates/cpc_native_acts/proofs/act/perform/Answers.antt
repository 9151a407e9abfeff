use Rattle.std.proofs.Common.{Ok, Err, sym, subst}
use Rattle.cpc_eval_values.specs.Shown.{value_of, store_of}
use Rattle.cpc_native_plans.specs.Stops.{MeetsOr}
use Rattle.cpc_native_acts.specs.Deeds.{did}
use Rattle.cpc_native_acts.specs.declared.deeds.Deed.{Deed}
use Rattle.cpc_native_acts.specs.Acts.{act_of, acted}
use Rattle.cpc_native_acts.specs.declared.act.Act.TheVariants as A
use Rattle.cpc_native_plans.proofs.Stopping.{or_err, or_stopped}
use Rattle.cpc_native_acts.proofs.Performing.{leaves_done, leaves_not}
use Rattle.cpc_native_acts.proofs.act.perform.Goals as goal

pub returns-in_err-stopped-in-Leaves-clause-value : goal.returns-in_err-stopped-in-Leaves-clause-value
returns-in_err-stopped-in-Leaves-clause-value c = λ names k apart program slots store.
    let t = c.leave.new.store in
    let r = c.from_residual-in_err-stopped-in-Leaves.result in
    let P : Deed → Type 0 = λ d. MeetsOr (acted names c.args.slots.now t r) (did names k d) in
    subst P (sym c.in-Leaves.is)
    (or_err (act_of names c.args.slots.now t) r _ _ c.from_residual-in_err-stopped-in-Leaves.ensures.1
    (leaves_not names k c.args.slots.now c.args.store.now slots store (value_of names c.in-Leaves.value) c.in_err-stopped-in-Leaves.field-0.0
    (or_stopped (λ _. store_of names t) c.leave.result (Err c.in_err-stopped-in-Leaves.field-0.0) _ c.in_err-stopped-in-Leaves.ensures (c.leave.ensures.value names))))

pub returns-in_ok-stopped-in-Leaves-clause-value : goal.returns-in_ok-stopped-in-Leaves-clause-value
returns-in_ok-stopped-in-Leaves-clause-value c = λ names k apart program slots store.
    let t = c.leave.new.store in
    let P : Deed → Type 0 = λ d. MeetsOr (acted names c.args.slots.now t (Ok (A.Leaves c.in-Leaves.value))) (did names k d) in
    subst P (sym c.in-Leaves.is)
    (leaves_done names k c.args.slots.now c.args.store.now slots store (value_of names c.in-Leaves.value) (store_of names t)
    (or_stopped (λ _. store_of names t) c.leave.result (Ok _) _ c.in_ok-stopped-in-Leaves.ensures (c.leave.ensures.value names)))
