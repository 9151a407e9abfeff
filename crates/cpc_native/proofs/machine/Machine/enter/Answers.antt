use Rattle.std.proofs.Common.{◌≡◌, ◌∷◌, Option, option_map, sym, ◌∙◌, ap, subst}
use Rattle.std.specs.Prelude.{Ok}
use Rattle.cpc_tree.specs.Erase.{function_of}
use Rattle.cpc_tree.specs.Points as T
use Rattle.cpc_store.specs.Store as S
use Rattle.cpc_store.specs.declared.values.Value as V
use Rattle.cpc_meaning.specs.Act as M
use Rattle.cpc_meaning.specs.Plain as P
use Rattle.cpc_meaning.specs.Trees.{trees}
use Rattle.cpc_native_points.specs.Seen.{path_of}
use Rattle.cpc_eval_values.specs.Meets.{Meets}
use Rattle.cpc_eval_values.specs.Shown.{value_of, values_of, store_of}
use Rattle.cpc_eval_index.specs.Indexed.{items_of}
use Rattle.cpc_native_frames.specs.Frames.{frame_of}
use Rattle.cpc_native.specs.Stacks.{frames_of}
use Rattle.cpc_native.specs.Well.{StandsAgain, IsStoreAsBefore}
use Rattle.cpc_native.proofs.Frames.{told_in, well_upon}
use Rattle.cpc_native.proofs.Machines.{at_here}
use Rattle.cpc_native_frames.proofs.Back.{any_err}
use Rattle.cpc_native.proofs.Stepping.{enters_meets}
use Rattle.cpc_native.proofs.machine.Machine.enter.Goals as goal

pub returns-in_ok-put_upon-in-Ok-clause-meets : goal.returns-in_ok-put_upon-in-Ok-clause-meets
returns-in_ok-put_upon-in-Ok-clause-meets c = λ names runs.
    let old = c.args.self.now in
    let new = c.put_upon.new.self in
    let p = items_of names old.index in
    let path = path_of c.args.frame.point.path.items in
    let frame = frame_of names c.args.frame in
    let below = P.moved_to frame (T.Arrival path) ∷ frames_of names old.calls.frames.items in
    let told = told_in names old.texts.now old.index runs c.args.function.now c.requires.own in
    let K : Option V.Value → Type 0 = λ o. Meets (Ok (P.Went (store_of names new.store) (record { frames = frames_of names new.calls.frames.items; arriving = option_map (value_of names) o })))
    (P.perform (trees p) (store_of names old.store) frame (frames_of names old.calls.frames.items) (M.Enters (function_of names c.args.function.now) (values_of names c.args.arguments.now))) in
    subst K (sym c.in_ok-put_upon-in-Ok.ensures.arriving)
    (enters_meets p (store_of names old.store) (store_of names new.store) frame (frames_of names new.calls.frames.items) (frames_of names old.calls.frames.items) (function_of names c.args.function.now) (values_of names c.args.arguments.now) path
    (λ q e. at_here c.args.frame.point.phase path q e)
    (λ a e.
    let k : (frame_of names c.in-Ok.callee, store_of names c.enter.new.store) ≡ a = c.in-Ok.ensures.made names told a e in (
      c.in_ok-put_upon-in-Ok.ensures.frames names ∙ ap (λ (z : P.Frame T.Point × S.Store). z.0 ∷ below) k,
      ap (store_of names) c.in_ok-put_upon-in-Ok.ensures.store ∙ ap (λ (z : P.Frame T.Point × S.Store). z.1) k,
    )))

pub returns-in_err-put_upon-in-Ok-clause-err : goal.returns-in_err-put_upon-in-Ok-clause-err
returns-in_err-put_upon-in-Ok-clause-err c =
    let e = c.in_err-put_upon-in-Ok.ensures.err in
    any_err c.from_residual.result (StandsAgain c.args.frame c.args.self.now c.put_upon.new.self) (record { calls = e.calls; arriving = e.arriving })

pub returns-in-Err-clause-well : goal.returns-in-Err-clause-well
returns-in-Err-clause-well c =
    let old = c.args.self.now in
    record {
      calls = well_upon old.index old.calls.frames.items c.put_back.new.self.frames.items c.args.frame c.put_back.ensures.frames c.requires.calls c.requires.frame;
      arriving = c.requires.arriving;
    }

pub returns-in_err-put_upon-in-Ok-clause-store : goal.returns-in_err-put_upon-in-Ok-clause-store
returns-in_err-put_upon-in-Ok-clause-store c =
    any_err c.from_residual.result (IsStoreAsBefore c.args.self.now c.put_upon.new.self)
    (λ names. c.in_err-put_upon-in-Ok.ensures.back names (store_of names c.args.self.now.store) (c.in-Ok.ensures.back names))
