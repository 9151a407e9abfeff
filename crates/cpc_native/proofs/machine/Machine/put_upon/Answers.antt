use Rattle.std.proofs.Common.{List, sym, subst}
use Rattle.cpc_eval_values.specs.Shown.{store_of}
use Rattle.cpc_eval.specs.declared.around.Slot.{Slot}
use Rattle.cpc_native_frames.specs.declared.frame.Frame.{Frame}
use Rattle.cpc_native_frames.specs.Back.{CanTakeBack}
use Rattle.cpc_native_frames.specs.Made.{slots_of}
use Rattle.cpc_native_frames.proofs.Back.{taken_back}
use Rattle.cpc_native.specs.Well.{AreWell}
use Rattle.cpc_native.proofs.Frames.{well_upon}
use Rattle.cpc_native.proofs.Putting.{well_moved}
use Rattle.cpc_native.proofs.machine.Machine.put_upon.Goals as goal

pub returns-in-Ok-clause-well : goal.returns-in-Ok-clause-well
returns-in-Ok-clause-well c =
    let index = c.args.self.now.index in
    let waits : Frame = record c.args.frame { point = c.arrive.new.self } in
    let K : List Frame → Type 0 = AreWell index in
    let below = well_upon index c.reserve.new.self.frames.items c.put_back.new.self.frames.items waits c.put_back.ensures.frames (subst K (sym c.reserve.ensures.frames) c.requires.calls)
    (well_moved index c.args.frame c.arrive.new.self c.arrive.ensures.room c.requires.frame) in
    record { calls = well_upon index c.put_back.new.self.frames.items c.put_back-in-Ok.new.self.frames.items c.args.callee c.put_back-in-Ok.ensures.frames below c.requires.callee; arriving = tt }

pub returns-in-Err-clause-well : goal.returns-in-Err-clause-well
returns-in-Err-clause-well c =
    let index = c.args.self.now.index in
    let K : List Frame → Type 0 = AreWell index in
    record {
      calls = well_upon index c.reserve.new.self.frames.items c.put_back-in-Err.new.self.frames.items c.args.frame c.put_back-in-Err.ensures.frames (subst K (sym c.reserve.ensures.frames) c.requires.calls) c.requires.frame;
      arriving = c.requires.arriving;
    }

pub returns-in-Err-clause-back : goal.returns-in-Err-clause-back
returns-in-Err-clause-back c = λ names s b.
    let mid = store_of names c.args.self.now.store in
    let P : List Slot → Type 0 = λ l. CanTakeBack (slots_of names l) s mid in
    taken_back (slots_of names c.deref.result.now) s mid (store_of names c.leave.new.store) c.leave.result (subst P (sym c.deref.ensures.value) b) (c.leave.ensures.value names)
