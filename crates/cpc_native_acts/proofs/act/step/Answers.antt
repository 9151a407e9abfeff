use Rattle.std.proofs.Common.{◌≡◌, ◌++◌, List, length, take, drop, option_map, refl, sym, ap, subst, ◌∙◌, arith}
use Rattle.std.proofs.Math.Seq.{take-append_seam}
use Rattle.cpc_tree.specs.Erase.{type_of}
use Rattle.cpc_meaning.specs.Act as M
use Rattle.cpc_eval_values.specs.Shown.{value_of}
use Rattle.cpc_eval.specs.declared.around.Slot.{Slot}
use Rattle.cpc_native_frames.specs.Made.{slots_of}
use Rattle.cpc_native_plans.specs.Stops.{MeetsOr}
use Rattle.cpc_native_acts.specs.Acts.{acted}
use Rattle.cpc_native_stood.specs.Stood.{context_in, stood_of}
use Rattle.cpc_native_acts.specs.Deeds.{did}
use Rattle.cpc_native_plans.proofs.Stopping.{or_stands}
use Rattle.cpc_native_acts.proofs.Called.{called_through, called_done}
use Rattle.cpc_native_acts.proofs.act.step.Goals as goal

pub returns-clause-value : goal.returns-clause-value
returns-clause-value c = λ names texts serving.
    let k = context_in names c.args.index.now c.args.frame.now c.args.store.now in
    let a = M.act k (type_of names c.args.frame.now.function.now.result) (option_map (value_of names) c.args.arriving) (stood_of names c.args.frame.now) in
    let old = c.args.frame.now.slots.items in
    let new = c.perform.new.slots in
    let h : c.args.frame.now.slots.len ≡ length new = omega (arith, c.perform.auto.slots, c.deref_mut.ensures.len) in
    let e : take c.args.frame.now.slots.len (new ++ drop (length new) old) ≡ new = ap (λ n. take n (new ++ drop (length new) old)) h ∙ take-append_seam new (drop (length new) old) in
    let P : List Slot → Type 0 = λ l. MeetsOr (acted names l c.perform.new.store c.perform.result) a in
    subst P (sym e)
    (or_stands (acted names new c.perform.new.store c.perform.result) (did names k c.in_ok-deed.deed) a
    (c.in_ok-deed.ensures.value names texts serving)
    (c.perform.ensures.value names k texts.told.apart refl (ap (slots_of names) (sym c.deref_mut.ensures.value)) refl))

pub returns-clause-count : goal.returns-clause-count
returns-clause-count c =
    let old = c.args.frame.now.slots.items in
    let new = c.perform.new.slots in
    let h : c.args.frame.now.slots.len ≡ length new = omega (arith, c.perform.auto.slots, c.deref_mut.ensures.len) in
    let e : take c.args.frame.now.slots.len (new ++ drop (length new) old) ≡ new = ap (λ n. take n (new ++ drop (length new) old)) h ∙ take-append_seam new (drop (length new) old) in
    ap length e ∙ sym h ∙ c.args.frame.now.slots.ok.0

pub returns-in_err-deed-clause-call : goal.returns-in_err-deed-clause-call
returns-in_err-deed-clause-call c = λ names. called_through c.from_residual.result c.in_err-deed.field-0.0 _ c.from_residual.ensures.1 (c.in_err-deed.ensures.call names)

pub returns-clause-call : goal.returns-clause-call
returns-clause-call c = λ names. called_done c.perform.result c.in_ok-deed.deed _ c.perform.ensures.memory c.perform.ensures.enters (c.in_ok-deed.ensures.call names)
