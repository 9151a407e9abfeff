use Rattle.std.proofs.Common.{Ok, subst, sym}
use Rattle.std.specs.Result.{result_map_both}
use Rattle.std.proofs.lemmas.List.Elements.{All-set}
use Rattle.cpc_num.specs.declared.kinds.Fault.{Fault}
use Rattle.cpc_meaning.specs.Act as M
use Rattle.cpc_eval_values.specs.Meets.{Meets}
use Rattle.cpc_eval_values.specs.Shown.{value_of, store_of}
use Rattle.cpc_eval.specs.declared.around.Slot.TheVariants.{Register}
use Rattle.cpc_eval.specs.declared.places.Spot.{Spot}
use Rattle.cpc_eval.specs.Spots.{spot_of, IsLawfulSlot}
use Rattle.std.specs.Prelude.{slice_set}
use Rattle.cpc_native_frames.specs.Made.{slots_of}
use Rattle.cpc_native_acts.proofs.Written.{slot_written, cell_written, rise_set}
use Rattle.cpc_native_acts.proofs.writing.write.Goals as goal

pub returns-then-k-slots-clause-value : goal.returns-then-k-slots-clause-value
returns-then-k-slots-clause-value c = λ names context slots_are store_is.
    let P : Spot → Type 0 = λ spot. Meets (Ok (slots_of names (slice_set c.args.slots.now c.in-Slot.number (Register c.args.value)), store_of names c.args.store.now)) (M.write context (spot_of spot) (value_of names c.args.value)) in
    subst P (sym c.in-Slot.is) (slot_written names context c.args.slots.now c.args.store.now c.in-Slot.number c.args.value slots_are store_is)

pub returns-then-k-slots-clause-lawful : goal.returns-then-k-slots-clause-lawful
returns-then-k-slots-clause-lawful c = All-set IsLawfulSlot c.args.slots.now c.in-Slot.number (Register c.args.value) c.requires.value c.requires.slots

pub returns-then-k-slots-clause-rise : goal.returns-then-k-slots-clause-rise
returns-then-k-slots-clause-rise c = λ n r. rise_set n c.args.slots.now c.in-Slot.number c.args.value r

pub returns-in-Cell-clause-value : goal.returns-in-Cell-clause-value
returns-in-Cell-clause-value c = λ names context slots_are store_is.
    let P : Spot → Type 0 = λ spot. Meets (result_map_both {D = Fault} (λ _. (slots_of names c.args.slots.now, store_of names c.save.new.self)) (λ fault. fault) c.save.result) (M.write context (spot_of spot) (value_of names c.args.value)) in
    subst P (sym c.in-Cell.is) (cell_written names context c.args.slots.now c.args.store.now c.save.new.self c.in-Cell.block.class c.in-Cell.block.number c.in-Cell.offset c.args.value c.save.result slots_are store_is c.save.ensures.value)
