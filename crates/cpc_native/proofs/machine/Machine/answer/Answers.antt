use Rattle.std.proofs.Common.{◌≡◌, true, refl, sym, ap, ◌∙◌}
use Rattle.std.specs.Prelude.{Some}
use Rattle.std.proofs.lemmas.List.Elements.{All-pop}
use Rattle.cpc_tree.specs.Erase.{function_of}
use Rattle.cpc_tree.specs.Points as T
use Rattle.cpc_tree.specs.Syntax as Y
use Rattle.cpc_native_points.specs.Depth.{numbers}
use Rattle.cpc_native_points.specs.Seen.{path_of, point_of}
use Rattle.cpc_native_acts.specs.Acts.{is_call_stood}
use Rattle.cpc_meaning.specs.Plain as P
use Rattle.cpc_meaning.specs.Trees.{trees, stood_at}
use Rattle.cpc_eval_values.specs.Meets.{Meets}
use Rattle.cpc_eval_values.specs.Shown.{value_of, store_of}
use Rattle.cpc_eval_index.specs.Indexed.{items_of}
use Rattle.cpc_native_frames.specs.Frames.{IsWellFrame}
use Rattle.cpc_native.specs.declared.machine.Machine.{Machine}
use Rattle.cpc_native.specs.Stacks.{frames_of, stack_of, done_of}
use Rattle.cpc_native.proofs.Frames.{well_upon}
use Rattle.cpc_native.proofs.Putting.{place_kept, well_moved}
use Rattle.cpc_native.proofs.Machines.{answer_step, went_meets, faulted_meets, faulted_store}
use Rattle.cpc_native.proofs.machine.Machine.answer.Goals as goal

pub put_back-requires : goal.put_back-requires
put_back-requires c =
    let frame = c.in-Some.frame in
    record { place = place_kept c.take.new.self frame (record frame { point = c.arrive.new.self }) refl c.in-Some.ensures.place }

pub step-requires : goal.step-requires
step-requires c =
    let old = c.args.self.now in
    let frame = c.in-Some.frame in
    let well = All-pop (IsWellFrame old.index) old.calls.frames.items c.take.new.self.frames.items (Some frame) c.in-Some.ensures.rest c.requires.well.calls in
    record {
      calls = well_upon old.index c.take.new.self.frames.items c.put_back.new.self.frames.items (record frame { point = c.arrive.new.self }) c.put_back.ensures.frames well.0 (well_moved old.index frame c.arrive.new.self c.arrive.ensures.room well.1);
      arriving = c.requires.value;
    }

pub returns-in-Some-fault_of-clause-meets : goal.returns-in-Some-fault_of-clause-meets
returns-in-Some-fault_of-clause-meets c = λ names runs.
    let old = c.args.self.now in
    let frame = c.in-Some.frame in
    let well = All-pop (IsWellFrame old.index) old.calls.frames.items c.take.new.self.frames.items (Some frame) c.in-Some.ensures.rest c.requires.well.calls in
    let m : Meets (done_of names c.step.new.self c.in-Ok.stepped) (P.answered (trees (items_of names old.index)) (store_of names old.store) (stack_of names old) (value_of names c.args.value)) =
    answer_step names old.index runs.spells.apart frame well.1.own c.take.new.self.frames.items old.store old.calls.frames.items c.put_back.new.self.frames.items (record frame { point = c.arrive.new.self }) c.args.value
    (done_of names c.step.new.self c.in-Ok.stepped) c.in-Some.ensures.rest c.put_back.ensures.frames refl refl c.arrive.ensures.point (c.in-Ok.ensures.meets names runs) in
    faulted_meets names c.step.new.self c.in-Ok.stepped c.in-Some-fault_of.fault (P.answered (trees (items_of names old.index)) (store_of names old.store) (stack_of names old) (value_of names c.args.value)) c.in-Some-fault_of.ensures m

pub returns-in-Some-fault_of-clause-store : goal.returns-in-Some-fault_of-clause-store
returns-in-Some-fault_of-clause-store c =
    let old = c.args.self.now in
    let mid : Machine = record { index = old.index; texts = old.texts; store = old.store; calls = c.put_back.new.self; arriving = Some c.args.value } in
    faulted_store mid c.step.new.self c.in-Ok.stepped c.in-Some-fault_of.fault c.in-Some-fault_of.ensures c.in-Ok.ensures.kept

pub returns-in-Ok-clause-meets : goal.returns-in-Ok-clause-meets
returns-in-Ok-clause-meets c = λ names runs.
    let old = c.args.self.now in
    let frame = c.in-Some.frame in
    let well = All-pop (IsWellFrame old.index) old.calls.frames.items c.take.new.self.frames.items (Some frame) c.in-Some.ensures.rest c.requires.well.calls in
    let m : Meets (done_of names c.step.new.self c.in-Ok.stepped) (P.answered (trees (items_of names old.index)) (store_of names old.store) (stack_of names old) (value_of names c.args.value)) =
    answer_step names old.index runs.spells.apart frame well.1.own c.take.new.self.frames.items old.store old.calls.frames.items c.put_back.new.self.frames.items (record frame { point = c.arrive.new.self }) c.args.value
    (done_of names c.step.new.self c.in-Ok.stepped) c.in-Some.ensures.rest c.put_back.ensures.frames refl refl c.arrive.ensures.point (c.in-Ok.ensures.meets names runs) in
    went_meets names c.step.new.self c.in-Ok.stepped (items_of names old.index) (store_of names old.store) (value_of names c.args.value) (frames_of names old.calls.frames.items) c.in-None.ensures m

pub unreachable-requires : goal.unreachable-requires
unreachable-requires c =
    let frame = c.in-Some.frame in
    let waiting = record frame { point = c.arrive.new.self } in
    let f : Y.Function = function_of numbers frame.function.now in
    let called : is_call_stood (stood_at (Some f) (point_of c.arrive.new.self)) ≡ true = c.in-Err.ensures.refused numbers c.take.new.self.frames.items waiting c.put_back.ensures.frames in
    let arrived : is_call_stood (stood_at (Some f) (T.Arrival (path_of frame.point.path.items))) ≡ true = sym (ap (λ q. is_call_stood (stood_at (Some f) q)) c.arrive.ensures.point) ∙ called in
    let no : ⊥ = cc in
    no
