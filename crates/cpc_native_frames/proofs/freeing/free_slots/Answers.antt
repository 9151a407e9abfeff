use Rattle.std.proofs.Common.{sym, ◌∙◌, refl}
use Rattle.cpc_eval_values.proofs.Meeting.{meets_err}
use Rattle.cpc_native_frames.proofs.Freed.{freed_more, freed_not, freed_all, meets_by}
use Rattle.cpc_native_frames.proofs.freeing.free_slots.Goals as goal

pub loop-slot-preserved : goal.loop-slot-preserved
loop-slot-preserved c = λ names.
    freed_more names c.args.slots.now c.loop-slot.slot-index _ c.loop-slot.store c.free_slot.new.store c.free_slot.result c.loop-slot-test.true (c.free_slot.ensures.value names) c.in_ok-free_slot.field-0 (c.in_ok-free_slot.was)
    ∙ c.loop-slot.invariant names

pub returns : goal.returns
returns c = λ names.
    meets_by _ _ _ (sym (freed_all names c.args.slots.now c.loop-slot.slot-index c.loop-slot.store c.loop-slot-test.false) ∙ c.loop-slot.invariant names) refl

pub returns-in_err-free_slot : goal.returns-in_err-free_slot
returns-in_err-free_slot c = λ names.
    meets_err _ c.from_residual.result _ _ c.from_residual.ensures.1
    (meets_by _ _ _ (sym (freed_not names c.args.slots.now c.loop-slot.slot-index _ c.loop-slot.store c.free_slot.new.store c.free_slot.result c.loop-slot-test.true (c.free_slot.ensures.value names) _ (c.in_err-free_slot.was)) ∙ c.loop-slot.invariant names) refl)
