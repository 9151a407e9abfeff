use Rattle.std.proofs.Common.{◌≡◌, ap, sym, subst, refl}
use Rattle.std.specs.Prelude.{Some, Err}
use Rattle.std.proofs.lemmas.List.Elements.{All-pop}
use Rattle.cpc_base.specs.declared.stop.Stop.{Stop}
use Rattle.cpc_num.specs.declared.kinds.Fault.{Fault}
use Rattle.cpc_store.specs.Store as S
use Rattle.cpc_tree.specs.Erase.{Names}
use Rattle.cpc_native_acts.specs.Acts.{called}
use Rattle.cpc_meaning.specs.Plain as P
use Rattle.cpc_meaning.specs.Trees.{trees}
use Rattle.cpc_eval_values.specs.Meets.{Meets}
use Rattle.cpc_eval_values.specs.Shown.{store_of}
use Rattle.cpc_eval_index.specs.Indexed.{items_of}
use Rattle.cpc_native_frames.specs.Back.{IsAsBefore}
use Rattle.cpc_native_frames.specs.Frames.{IsWellFrame}
use Rattle.cpc_native_frames.proofs.Back.{any_err, as_before_by}
use Rattle.cpc_native.specs.declared.machine.Machine.{Machine}
use Rattle.cpc_native.specs.Stacks.{stack_of, done_of}
use Rattle.cpc_native.specs.Well.{IsBack, StandsBelow, StandsAtCall, IsStoreAsBefore}
use Rattle.cpc_native.proofs.Frames.{well_upon, texts_in, serving_in}
use Rattle.cpc_native.proofs.Putting.{place_kept}
use Rattle.cpc_native.proofs.Machines.{act_step, enters_kept, fault_step, same_back, same_stack, kept_step}
use Rattle.cpc_native.proofs.Refused.{below_again, stands_at_call, tells_running}
use Rattle.cpc_native.proofs.machine.Machine.step.Goals as goal

-- ---- room to put the frame back

pub perform-requires-clause-place : goal.perform-requires-clause-place
perform-requires-clause-place c = place_kept c.take.new.self c.in-Some.frame c.step.new.frame c.step.ensures.count c.in-Some.ensures.place

pub put_back-requires : goal.put_back-requires
put_back-requires c = record { place = place_kept c.take.new.self c.in-Some.frame c.step.new.frame c.step.ensures.count c.in-Some.ensures.place }

pub put_back-requires-in-Err-Fault : goal.put_back-requires-in-Err-Fault
put_back-requires-in-Err-Fault c = record { place = place_kept c.take.new.self c.in-Some.frame c.step.new.frame c.step.ensures.count c.in-Some.ensures.place }

-- ---- what is done

pub returns-in_ok-stepped-in-Ok-clause-meets : goal.returns-in_ok-stepped-in-Ok-clause-meets
returns-in_ok-stepped-in-Ok-clause-meets c = λ names runs.
    let old = c.args.self.now in
    let frame = c.in-Some.frame in
    let well = All-pop (IsWellFrame old.index) old.calls.frames.items c.take.new.self.frames.items (Some frame) c.in-Some.ensures.rest c.requires.calls in
    act_step names old.index runs.spells.apart frame well.1.own c.take.new.self.frames.items old.store
    old.calls.frames.items old.arriving c.in-Some.ensures.rest c.step.new.frame c.step.new.store c.in-Ok.act (done_of names c.perform.new.self c.in_ok-stepped-in-Ok.stepped)
    c.step.ensures.function c.step.ensures.point c.in-Ok.ensures.slots_kept c.in-Ok.ensures.store_kept
    (c.in-Ok.ensures.value names (texts_in names old.texts.now old.index runs frame well.1.own) (serving_in names old.texts.now old.index runs frame well.1.own))
    (c.in_ok-stepped-in-Ok.ensures.meets names runs)

pub returns-in_ok-stepped-in-Ok-clause-kept : goal.returns-in_ok-stepped-in-Ok-clause-kept
returns-in_ok-stepped-in-Ok-clause-kept c =
    let old = c.args.self.now in
    let mid : Machine = record { index = old.index; texts = old.texts; store = c.step.new.store; calls = c.take.new.self; arriving = old.arriving } in
    kept_step old mid c.perform.new.self c.in-Some.frame c.step.new.frame c.in-Ok.act c.in_ok-stepped-in-Ok.stepped c.in-Some.ensures.rest refl
    c.in-Ok.ensures.slots_kept c.in-Ok.ensures.store_kept c.step.ensures.function c.step.ensures.point c.in_ok-stepped-in-Ok.ensures.asked c.in_ok-stepped-in-Ok.ensures.back

pub returns-in_ok-stepped-in-Ok-clause-served : goal.returns-in_ok-stepped-in-Ok-clause-served
returns-in_ok-stepped-in-Ok-clause-served c = λ names runs.
    let old = c.args.self.now in
    let frame = c.in-Some.frame in
    let well = All-pop (IsWellFrame old.index) old.calls.frames.items c.take.new.self.frames.items (Some frame) c.in-Some.ensures.rest c.requires.calls in
    c.in_ok-stepped-in-Ok.ensures.served
    (c.in-Ok.ensures.asked names runs.spells (serving_in names old.texts.now old.index runs frame well.1.own))

pub returns-in-Err-Fault-clause-meets : goal.returns-in-Err-Fault-clause-meets
returns-in-Err-Fault-clause-meets c = λ names runs.
    let old = c.args.self.now in
    let frame = c.in-Some.frame in
    let well = All-pop (IsWellFrame old.index) old.calls.frames.items c.take.new.self.frames.items (Some frame) c.in-Some.ensures.rest c.requires.calls in
    let h = c.in-Err-Fault.ensures.value names (texts_in names old.texts.now old.index runs frame well.1.own) (serving_in names old.texts.now old.index runs frame well.1.own) in
    let K : Fault → Type 0 = λ f. Meets (Err f) (P.plain (trees (items_of names old.index)) (store_of names old.store) (stack_of names old)) in
    subst K (sym c.in-Err-Fault.fault-is)
    (fault_step names old.index runs.spells.apart frame well.1.own c.take.new.self.frames.items old.store old.calls.frames.items old.arriving c.in-Some.ensures.rest c.in-Err-Fault.field-0 c.in-Err-Fault.fault c.in-Err-Fault.field-0-is h)

pub returns-in-Err-Fault-clause-kept : goal.returns-in-Err-Fault-clause-kept
returns-in-Err-Fault-clause-kept c =
    let old = c.args.self.now in
    let mid : Machine = record { index = old.index; texts = old.texts; store = c.step.new.store; calls = c.take.new.self; arriving = old.arriving } in
    let new : Machine = record { index = old.index; texts = old.texts; store = c.step.new.store; calls = c.put_back-in-Err-Fault.new.self; arriving = old.arriving } in
    let back : IsBack c.step.new.frame mid new = record { calls = c.put_back-in-Err-Fault.ensures.frames; store = refl; arriving = refl } in
    same_back old mid new c.in-Some.frame c.step.new.frame c.in-Some.ensures.rest refl c.in-Err-Fault.ensures.slots c.in-Err-Fault.ensures.store c.step.ensures.function c.step.ensures.point back

pub returns-in-Err-Fault-clause-well : goal.returns-in-Err-Fault-clause-well
returns-in-Err-Fault-clause-well c =
    let old = c.args.self.now in
    let well = All-pop (IsWellFrame old.index) old.calls.frames.items c.take.new.self.frames.items (Some c.in-Some.frame) c.in-Some.ensures.rest c.requires.calls in
    record {
      calls = well_upon old.index c.take.new.self.frames.items c.put_back-in-Err-Fault.new.self.frames.items c.step.new.frame c.put_back-in-Err-Fault.ensures.frames well.0 c.step.ensures.well;
      arriving = c.requires.arriving;
    }

-- ---- want of memory for arguments

pub returns-in-Err-Memory-clause-err : goal.returns-in-Err-Memory-clause-err
returns-in-Err-Memory-clause-err c =
    let old = c.args.self.now in
    let mid : Machine = record { index = old.index; texts = old.texts; store = c.step.new.store; calls = c.take.new.self; arriving = old.arriving } in
    let new : Machine = record { index = old.index; texts = old.texts; store = c.step.new.store; calls = c.put_back.new.self; arriving = old.arriving } in
    below_again old mid new c.in-Some.frame c.in-Some.ensures.rest refl c.step.new.frame (record { calls = c.put_back.ensures.frames; arriving = refl })

pub returns-in-Err-Memory-clause-stack : goal.returns-in-Err-Memory-clause-stack
returns-in-Err-Memory-clause-stack c =
    let old = c.args.self.now in
    let mid : Machine = record { index = old.index; texts = old.texts; store = c.step.new.store; calls = c.take.new.self; arriving = old.arriving } in
    let new : Machine = record { index = old.index; texts = old.texts; store = c.step.new.store; calls = c.put_back.new.self; arriving = old.arriving } in
    same_stack old mid new c.in-Some.frame c.step.new.frame c.in-Some.ensures.rest refl c.in-Err-Memory.ensures.slots c.step.ensures.function c.step.ensures.point (record { calls = c.put_back.ensures.frames; arriving = refl })

pub returns-in-Err-Memory-clause-store : goal.returns-in-Err-Memory-clause-store
returns-in-Err-Memory-clause-store c = λ names. as_before_by (store_of names c.args.self.now.store) (store_of names c.step.new.store) (ap (store_of names) c.in-Err-Memory.ensures.store)

pub returns-in-Err-Memory-clause-refused : goal.returns-in-Err-Memory-clause-refused
returns-in-Err-Memory-clause-refused c =
    stands_at_call c.args.self.now c.take.new.self.frames.items c.in-Some.frame c.in-Some.ensures.rest
    (λ names. c.in-Err-Memory.ensures.call names (ap (λ (s : Stop Fault). called (Err s)) c.in-Err-Memory.field-0-is))

pub returns-in-Err-Memory-clause-well : goal.returns-in-Err-Memory-clause-well
returns-in-Err-Memory-clause-well c =
    let old = c.args.self.now in
    let well = All-pop (IsWellFrame old.index) old.calls.frames.items c.take.new.self.frames.items (Some c.in-Some.frame) c.in-Some.ensures.rest c.requires.calls in
    record {
      calls = well_upon old.index c.take.new.self.frames.items c.put_back.new.self.frames.items c.step.new.frame c.put_back.ensures.frames well.0 c.step.ensures.well;
      arriving = c.requires.arriving;
    }

-- ---- want of memory for the call

pub returns-in_err-stepped-in-Ok-clause-err : goal.returns-in_err-stepped-in-Ok-clause-err
returns-in_err-stepped-in-Ok-clause-err c =
    let old = c.args.self.now in
    let mid : Machine = record { index = old.index; texts = old.texts; store = c.step.new.store; calls = c.take.new.self; arriving = old.arriving } in
    any_err c.from_residual.result (StandsBelow old c.perform.new.self) (below_again old mid c.perform.new.self c.in-Some.frame c.in-Some.ensures.rest refl c.step.new.frame c.in_err-stepped-in-Ok.ensures.err.0)

pub returns-in_err-stepped-in-Ok-clause-stack : goal.returns-in_err-stepped-in-Ok-clause-stack
returns-in_err-stepped-in-Ok-clause-stack c =
    let old = c.args.self.now in
    let mid : Machine = record { index = old.index; texts = old.texts; store = c.step.new.store; calls = c.take.new.self; arriving = old.arriving } in
    let again = c.in_err-stepped-in-Ok.ensures.err in
    any_err c.from_residual.result ((names : Names) → stack_of names c.perform.new.self ≡ stack_of names old)
    (same_stack old mid c.perform.new.self c.in-Some.frame c.step.new.frame c.in-Some.ensures.rest refl (enters_kept c.in-Ok.act c.in-Some.frame.slots.items c.step.new.frame.slots.items again.1 c.in-Ok.ensures.slots_kept) c.step.ensures.function c.step.ensures.point again.0)

pub returns-in_err-stepped-in-Ok-clause-store : goal.returns-in_err-stepped-in-Ok-clause-store
returns-in_err-stepped-in-Ok-clause-store c =
    let old = c.args.self.now in
    let again = c.in_err-stepped-in-Ok.ensures.err in
    let same = enters_kept c.in-Ok.act old.store c.step.new.store again.1 c.in-Ok.ensures.store_kept in
    any_err c.from_residual.result (IsStoreAsBefore old c.perform.new.self)
    (λ names. (let K : S.Store → Type 0 = λ s. IsAsBefore s (store_of names c.perform.new.self.store) in
    subst K (ap (store_of names) same) (c.in_err-stepped-in-Ok.ensures.store names)))

pub returns-in_err-stepped-in-Ok-clause-refused : goal.returns-in_err-stepped-in-Ok-clause-refused
returns-in_err-stepped-in-Ok-clause-refused c =
    any_err c.from_residual.result (StandsAtCall c.args.self.now)
    (stands_at_call c.args.self.now c.take.new.self.frames.items c.in-Some.frame c.in-Some.ensures.rest (λ names. c.in-Ok.ensures.call names c.in_err-stepped-in-Ok.ensures.err.1))

pub returns-in_err-stepped-in-Ok-clause-well : goal.returns-in_err-stepped-in-Ok-clause-well
returns-in_err-stepped-in-Ok-clause-well c = c.perform.ensures.well

pub returns-in_ok-stepped-in-Ok-clause-told : goal.returns-in_ok-stepped-in-Ok-clause-told
returns-in_ok-stepped-in-Ok-clause-told c = λ names.
    tells_running names c.args.self.now c.take.new.self.frames.items c.in-Some.frame c.step.new.frame c.in-Some.ensures.rest c.step.ensures.function c.in_ok-stepped-in-Ok.stepped c.in_ok-stepped-in-Ok.ensures.told
