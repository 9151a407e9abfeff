use Rattle.std.proofs.Common.{◌≡◌, List, [], ◌∷◌, ◌++◌, ◌∙◌, ap, sym, subst}
use Rattle.cpc_tree.specs.Points as T
use Rattle.cpc_store.specs.Store as S
use Rattle.cpc_meaning.specs.Plain as P
use Rattle.cpc_eval_values.specs.Shown.{store_of}
use Rattle.cpc_eval.specs.declared.around.Slot.{Slot}
use Rattle.cpc_native_frames.specs.Back.{CanTakeBack}
use Rattle.cpc_native_frames.specs.Frames.{frame_of}
use Rattle.cpc_native_frames.specs.Made.{slots_of}
use Rattle.cpc_native_frames.proofs.Back.{taken_back}
use Rattle.cpc_native.specs.Stacks.{frames_of}
use Rattle.cpc_native.proofs.Frames.{frames_upon, well_upon, told_in}
use Rattle.cpc_native.proofs.machine.Machine.push.Goals as goal

pub returns-in-Ok-clause-made : goal.returns-in-Ok-clause-made
returns-in-Ok-clause-made c = λ names runs a e.
    let old = c.args.self.now in
    let told = told_in names old.texts.now old.index runs c.args.function.now c.requires.own in
    let k : (frame_of names c.in_ok-frame.frame, store_of names c.enter.new.store) ≡ a = c.in_ok-frame.ensures.made names told a e in (
      ap (frames_of names) (c.put_back.ensures.frames ∙ ap (λ l. l ++ c.in_ok-frame.frame ∷ []) c.make_room.ensures.frames) ∙ frames_upon names old.calls.frames.items c.in_ok-frame.frame
          ∙ ap (λ (z : P.Frame T.Point × S.Store). z.0 ∷ frames_of names old.calls.frames.items) k,
      ap (λ (z : P.Frame T.Point × S.Store). z.1) k,
    )

pub returns-in-Ok-clause-well : goal.returns-in-Ok-clause-well
returns-in-Ok-clause-well c = record {
  calls = well_upon c.args.self.now.index c.args.self.now.calls.frames.items c.put_back.new.self.frames.items c.in_ok-frame.frame
      (c.put_back.ensures.frames ∙ ap (λ l. l ++ c.in_ok-frame.frame ∷ []) c.make_room.ensures.frames) c.requires.calls c.in_ok-frame.ensures.well;
  arriving = tt;
}

-- ---- no room

pub returns-in-Err-clause-store : goal.returns-in-Err-clause-store
returns-in-Err-clause-store c = λ names.
    let was = store_of names c.args.self.now.store in
    let mid = store_of names c.enter.new.store in
    let P : List Slot → Type 0 = λ l. CanTakeBack (slots_of names l) was mid in
    taken_back (slots_of names c.deref.result.now) was mid (store_of names c.leave.new.store) c.leave.result (subst P (sym c.deref.ensures.value) (c.in_ok-frame.ensures.back names)) (c.leave.ensures.value names)
