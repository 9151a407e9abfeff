use Rattle.std.proofs.Common.{List, ap, sym, subst, ◌∙◌}
use Rattle.cpc_tree.specs.Registers.{variables}
use Rattle.cpc_eval_values.specs.Shown.{values_of, store_of}
use Rattle.cpc_eval_index.specs.Indexed.{items_of}
use Rattle.cpc_eval.specs.declared.around.Slot.{Slot}
use Rattle.cpc_native_frames.specs.Back.{CanTakeBack}
use Rattle.cpc_native_frames.specs.Made.{make_kept, slots_of}
use Rattle.cpc_native_frames.proofs.Back.{taken_back}
use Rattle.cpc_native_frames.proofs.Filling.{kept_slots}
use Rattle.cpc_native_frames.proofs.making.make_slots.Goals as goal

pub returns-in-Ok-clause-made : goal.returns-in-Ok-clause-made
returns-in-Ok-clause-made c = λ names apart f k a e.
    let p = items_of names c.args.index.now in
    let vs = values_of names c.args.arguments.now in
    let s = store_of names c.args.store.now in
    c.in-Ok.ensures.made names apart a (ap (λ ks. make_kept p ks vs s) k ∙ (kept_slots p f 0 (variables f) vs s ∙ e))

pub returns-in-Err-clause-err : goal.returns-in-Err-clause-err
returns-in-Err-clause-err c = λ names.
    let was = store_of names c.args.store.now in
    let P : List Slot → Type 0 = λ l. CanTakeBack (slots_of names l) was (store_of names c.fill.new.store) in
    taken_back (slots_of names c.deref.result.now) was (store_of names c.fill.new.store) (store_of names c.free_slots.new.store) c.free_slots.result
    (subst P (sym c.deref.ensures.value) (c.fill.ensures.back names)) (c.free_slots.ensures names)
