use Rattle.std.proofs.Common.{◌≡◌, List, ◌∷◌, None, refl, sym, ◌∙◌, ap, subst}
use Rattle.std.specs.Prelude.{Ok}
use Rattle.cpc_tree.specs.Erase.{function_of}
use Rattle.cpc_tree.specs.Points as T
use Rattle.cpc_meaning.specs.Act as M
use Rattle.cpc_meaning.specs.Plain as P
use Rattle.cpc_meaning.specs.Trees.{trees}
use Rattle.cpc_native_points.specs.Seen.{point_of}
use Rattle.cpc_eval_values.specs.Meets.{Meets}
use Rattle.cpc_eval_values.specs.Shown.{store_of}
use Rattle.cpc_eval_index.specs.Indexed.{items_of}
use Rattle.cpc_native_frames.specs.declared.frame.Frame.{Frame}
use Rattle.cpc_native_frames.specs.Frames.{frame_of}
use Rattle.cpc_native_frames.specs.Made.{slots_of}
use Rattle.cpc_native.specs.Stacks.{frames_of}
use Rattle.cpc_native.proofs.Frames.{frames_upon, well_upon}
use Rattle.cpc_native.proofs.Putting.{place_kept, well_moved}
use Rattle.cpc_native.proofs.Stepping.{goes_meets}
use Rattle.cpc_native.proofs.machine.Machine.go_on.Goals as goal

pub put_back-requires : goal.put_back-requires
put_back-requires c = record { place = place_kept c.args.self.now.calls c.args.frame (record c.args.frame { point = c.go_on.new.point }) refl c.requires.place }

pub returns-clause-well : goal.returns-clause-well
returns-clause-well c =
    let old = c.args.self.now in
    let frame = c.args.frame in
    record {
      calls = well_upon old.index old.calls.frames.items c.put_back.new.self.frames.items (record frame { point = c.go_on.new.point }) c.put_back.ensures.frames c.requires.calls (well_moved old.index frame c.go_on.new.point c.go_on.ensures.room c.requires.frame);
      arriving = tt;
    }

pub returns-clause-meets : goal.returns-clause-meets
returns-clause-meets c = λ names runs.
    let old = c.args.self.now in
    let frame = c.args.frame in
    let p = items_of names old.index in
    let s = store_of names old.store in
    let below = frames_of names old.calls.frames.items in
    let moved : Frame = record frame { point = c.go_on.new.point } in
    let stands : frames_of names c.put_back.new.self.frames.items ≡ frame_of names moved ∷ below =
    ap (frames_of names) c.put_back.ensures.frames ∙ frames_upon names old.calls.frames.items moved in
    let K : List (P.Frame T.Point) → Type 0 = λ fs. Meets (Ok (P.Went s (record { frames = fs; arriving = None })))
    (P.perform (trees p) s (frame_of names frame) below (M.GoesOn c.args.holds s (slots_of names frame.slots.items))) in
    subst K (sym stands)
    (goes_meets p s s (frame_of names frame) below (function_of names frame.function.now) c.args.holds (slots_of names frame.slots.items) (point_of c.go_on.new.point)
    (c.requires.frame.own names runs.spells.apart) (c.go_on.ensures.point names runs.spells.apart))
