-- A step of a machine, by what its innermost frame does.
use Rattle.std.proofs.Common.{◌≡◌, true, List, [], ◌∷◌, ◌++◌, Option, Some, None, option_map, sym, ◌∙◌, ap, subst}
use Rattle.std.specs.Prelude.{Result, Ok, Err}
use Rattle.cpc_base.specs.declared.names.Name.{Name}
use Rattle.cpc_base.specs.declared.stop.Stop.{Stop}
use Rattle.cpc_base.specs.declared.stop.Stop.TheVariants as Z
use Rattle.cpc_num.specs.declared.kinds.Fault.{Fault}
use Rattle.cpc_tree.specs.Erase.{Names, type_of, function_of}
use Rattle.cpc_tree.specs.Points as T
use Rattle.cpc_tree.specs.Syntax as Y
use Rattle.cpc_store.specs.Store as S
use Rattle.cpc_store.specs.Store.{StoreOf}
use Rattle.cpc_store.specs.declared.values.Value as V
use Rattle.cpc_meaning.specs.Answer.{Answer, ◌>>=◌}
use Rattle.cpc_meaning.specs.Act as M
use Rattle.cpc_meaning.specs.Plain as P
use Rattle.cpc_meaning.specs.Trees.{trees}
use Rattle.cpc_native_points.specs.Seen.{point_at, point_of, path_of}
use Rattle.cpc_native_points.specs.declared.parts.Phase.{Phase}
use Rattle.cpc_native_points.specs.declared.parts.Phase.TheVariants as F
use Rattle.cpc_eval_values.specs.Meets.{Meets}
use Rattle.cpc_eval_values.specs.Shown.{value_of, store_of}
use Rattle.cpc_check_rules.specs.Apart.{AreApart}
use Rattle.cpc_eval_index.specs.declared.index.Index.{Index}
use Rattle.cpc_eval_index.specs.Indexed.{items_of, IsOwn}
use Rattle.cpc_native_frames.specs.declared.frame.Frame.{Frame}
use Rattle.cpc_native_frames.specs.Frames.{frame_of}
use Rattle.cpc_native_frames.specs.Made.{slots_of}
use Rattle.cpc_native_acts.specs.declared.act.Act.{Act}
use Rattle.cpc_native_acts.specs.declared.act.Act.TheVariants as A
use Rattle.cpc_native_acts.specs.Stops.{MeetsOr}
use Rattle.cpc_native_acts.specs.Acts.{act_of, enters_act, Keeps}
use Rattle.cpc_native_acts.specs.Stood.{stood_of, context_in}
use Rattle.cpc_native.specs.declared.machine.Machine.{Machine}
use Rattle.cpc_native.specs.declared.machine.Stepped.{Stepped}
use Rattle.cpc_native.specs.declared.machine.Stepped.TheVariants as N
use Rattle.cpc_native.specs.Stacks.{frames_of, stack_at, stack_of, request_of, done_of, fault_of}
use Rattle.cpc_native.specs.Well.{IsBack, StandsAgain, BackAfter, IsSame, Unchanged, AskedBy}
use Rattle.cpc_native.proofs.Frames.{frames_upon}
use Rattle.cpc_native.proofs.Stepping.{then_meets, fault_meets, step_of_own, performed_alike, answered_arrives, only_goes, answered_goes}

-- ---- stacks

-- stacks of the same frames, at which the same value arrives
abbrev stack_with : List (P.Frame T.Point) → Option S.Value → P.Stack T.Point
stack_with fs o = record { frames = fs; arriving = o }

pub stacks_alike : (fs gs : List (P.Frame T.Point)) (o u : Option S.Value) → fs ≡ gs → o ≡ u → stack_with fs o ≡ stack_with gs u
stacks_alike fs gs o u e k = ap (λ xs. stack_with xs o) e ∙ ap (stack_with gs) k

-- ---- points

-- a frame is at the path of its point
pub at_here : (phase : Phase) (path q : T.Path) → point_at phase path ≡ T.Here q → path ≡ q
at_here F.Here path q e = cc
at_here F.Arrival path q e = absurd cc
at_here F.End path q e = absurd cc

-- ---- a step

module _ (names : Names) (index : Index) (apart : AreApart names) (frame : Frame) (own : IsOwn index frame.function.now) (below : List Frame) (s : StoreOf Name) where
  -- what a step of this frame answers
  abbrev acts : Option V.Value → Answer M.Act
  acts arriving = M.act (context_in names index frame s) (type_of names frame.function.now.result) (option_map (value_of names) arriving) (stood_of names frame)

  -- and what that leads to
  abbrev performs : M.Act → Answer (P.Done T.Point)
  performs a = P.perform (trees (items_of names index)) (store_of names s) (frame_of names frame) (frames_of names below) a

  -- a machine's step is the act of its innermost frame, and what that leads to
  plain_is : (whole : List Frame) (arriving : Option V.Value) → whole ≡ below ++ frame ∷ []
      → P.plain (trees (items_of names index)) (store_of names s) (stack_at names whole arriving) ≡ (acts arriving >>= performs)
  plain_is whole arriving e =
      ap (λ fs. P.frames_step (trees (items_of names index)) (store_of names s) (option_map (value_of names) arriving) fs) (ap (frames_of names) e ∙ frames_upon names below frame)
      ∙ step_of_own (items_of names index) (store_of names s) (option_map (value_of names) arriving) (frame_of names frame) (frames_of names below) (function_of names frame.function.now) (own names apart)

  -- a fault of the act
  pub fault_step : (whole : List Frame) (arriving : Option V.Value) → whole ≡ below ++ frame ∷ [] → (stop : Stop Fault) (fault : Fault) → stop ≡ Z.Fault fault → MeetsOr {A = M.Act} (Err stop) (acts arriving)
      → Meets (Err fault) (P.plain (trees (items_of names index)) (store_of names s) (stack_at names whole arriving))
  fault_step whole arriving e stop fault i h =
      let L : Stop Fault → Type 0 = λ z. MeetsOr {A = M.Act} (Err z) (acts arriving) in
      let K : Answer (P.Done T.Point) → Type 0 = λ a. Meets (Err fault) a in
      subst K (sym (plain_is whole arriving e)) (fault_meets fault (acts arriving) performs (subst L i h))

  kept : (act : Act) (after : Frame) (t : StoreOf Name) → Keeps act frame.slots.items after.slots.items → Keeps act s t → (g : Y.Function) (vs : List S.Value) → act_of names after.slots.items t act ≡ M.Enters g vs
      → (store_of names t ≡ store_of names s) × (slots_of names after.slots.items ≡ slots_of names frame.slots.items)
  kept (A.GoesOn h) after t k l g vs e = absurd cc
  kept (A.Enters f ws) after t k l g vs e = (ap (store_of names) l, ap (slots_of names) k)
  kept (A.Leaves v) after t k l g vs e = absurd cc
  kept (A.Asks b ws) after t k l g vs e = absurd cc

  -- an act, and what it leads to in what it left
  pub act_step : (whole : List Frame) (arriving : Option V.Value) → whole ≡ below ++ frame ∷ [] → (after : Frame) (t : StoreOf Name) (act : Act) (r : Result (P.Done T.Point) Fault)
      → after.function ≡ frame.function → after.point ≡ frame.point → Keeps act frame.slots.items after.slots.items → Keeps act s t
      → Meets (Ok (act_of names after.slots.items t act)) (acts arriving)
      → Meets r (P.perform (trees (items_of names index)) (store_of names t) (frame_of names after) (frames_of names below) (act_of names after.slots.items t act))
      → Meets r (P.plain (trees (items_of names index)) (store_of names s) (stack_at names whole arriving))
  act_step whole arriving e after t act r f at k l h m =
      let K : Answer (P.Done T.Point) → Type 0 = λ a. Meets r a in
      let same : performs (act_of names after.slots.items t act) ≡ P.perform (trees (items_of names index)) (store_of names t) (frame_of names after) (frames_of names below) (act_of names after.slots.items t act) =
      performed_alike (items_of names index) (store_of names s) (store_of names t) (frame_of names frame) (frame_of names after) (frames_of names below) (act_of names after.slots.items t act)
      (ap (λ g. names g.now.word.name) f) (ap point_of at) (λ g vs i. kept act after t k l g vs i) in
      subst K (sym (plain_is whole arriving e)) (then_meets (act_of names after.slots.items t act) (acts arriving) performs r h (subst K (sym same) m))

  -- ---- an answer

  -- the frame waits for a value, which arrives
  pub answer_step : (whole back : List Frame) (waiting : Frame) (v : V.Value) (r : Result (P.Done T.Point) Fault) → whole ≡ below ++ frame ∷ [] → back ≡ below ++ waiting ∷ []
      → waiting.function ≡ frame.function → waiting.slots ≡ frame.slots → point_of waiting.point ≡ T.Arrival (path_of frame.point.path.items)
      → Meets r (P.plain (trees (items_of names index)) (store_of names s) (stack_at names back (Some v)))
      → Meets r (P.answered (trees (items_of names index)) (store_of names s) (stack_at names whole None) (value_of names v))
  answer_step whole back waiting v r e i f ss at m =
      let path = path_of frame.point.path.items in
      let x = names frame.function.now.word.name in
      let slots = slots_of names frame.slots.items in
      let K : List (P.Frame T.Point) → Type 0 = λ fs. Meets r (P.frames_step (trees (items_of names index)) (store_of names s) (Some (value_of names v)) fs) in
      let L : List (P.Frame T.Point) → Type 0 = λ fs. Meets r (P.frames_answered (trees (items_of names index)) (store_of names s) (value_of names v) fs) in
      let w : frame_of names waiting ≡ record { function = x; point = T.Arrival path; slots = slots } =
      ap (λ g. record { function = names g.now.word.name; point = point_of waiting.point; slots = slots_of names waiting.slots.items }) f
      ∙ ap (λ q. record { function = x; point = q; slots = slots_of names waiting.slots.items }) at
      ∙ ap (λ ts. record { function = x; point = T.Arrival path; slots = slots_of names ts.items }) ss in
      let stands : frames_of names back ≡ record { function = x; point = T.Arrival path; slots = slots } ∷ frames_of names below =
      ap (frames_of names) i ∙ frames_upon names below waiting ∙ ap (λ y. y ∷ frames_of names below) w in
      subst L (sym (ap (frames_of names) e ∙ frames_upon names below frame))
      (answered_arrives (items_of names index) (store_of names s) (value_of names v) x slots (frames_of names below) (function_of names frame.function.now) (own names apart) r (point_of frame.point) path
      (λ q k. at_here frame.point.phase path q k) (subst K stands m))

-- ---- what a step leaves

-- a frame that was put back unchanged leaves the calls as they were
pub same_stack : (old mid new : Machine) (frame after : Frame) → old.calls.frames.items ≡ mid.calls.frames.items ++ frame ∷ [] → mid.arriving ≡ old.arriving
    → after.slots.items ≡ frame.slots.items → after.function ≡ frame.function → after.point ≡ frame.point → StandsAgain after mid new → (names : Names) → stack_of names new ≡ stack_of names old
same_stack old mid new frame after e a k f at b = λ names.
    let i : frame_of names after ≡ frame_of names frame =
    ap (λ g. record { function = names g.now.word.name; point = point_of after.point; slots = slots_of names after.slots.items }) f
    ∙ ap (λ q. record { function = names frame.function.now.word.name; point = point_of q; slots = slots_of names after.slots.items }) at
    ∙ ap (λ ss. record { function = names frame.function.now.word.name; point = point_of frame.point; slots = slots_of names ss }) k in
    let j : frames_of names new.calls.frames.items ≡ frames_of names old.calls.frames.items =
    ap (frames_of names) b.calls ∙ frames_upon names mid.calls.frames.items after ∙ ap (λ y. y ∷ frames_of names mid.calls.frames.items) i
    ∙ sym (frames_upon names mid.calls.frames.items frame) ∙ sym (ap (frames_of names) e) in
    stacks_alike (frames_of names new.calls.frames.items) (frames_of names old.calls.frames.items) (option_map (value_of names) new.arriving) (option_map (value_of names) old.arriving) j (ap (option_map (value_of names)) (b.arriving ∙ a))

-- and all, where the store is the same
pub same_back : (old mid new : Machine) (frame after : Frame) → old.calls.frames.items ≡ mid.calls.frames.items ++ frame ∷ [] → mid.arriving ≡ old.arriving
    → after.slots.items ≡ frame.slots.items → mid.store ≡ old.store → after.function ≡ frame.function → after.point ≡ frame.point → IsBack after mid new → IsSame old new
same_back old mid new frame after e a k l f at b = record {
  stack = same_stack old mid new frame after e a k f at (record { calls = b.calls; arriving = b.arriving });
  store = b.store ∙ l;
}

-- an act that enters a function leaves the slots as they were
pub enters_kept : {X : Type 0} (act : Act) (old new : X) → enters_act act ≡ true → Keeps act old new → new ≡ old
enters_kept (A.GoesOn h) old new e k = absurd cc
enters_kept (A.Enters f vs) old new e k = k
enters_kept (A.Leaves v) old new e k = absurd cc
enters_kept (A.Asks b vs) old new e k = absurd cc

-- a request and a fault leave all as it was
pub kept_step : (old mid new : Machine) (frame after : Frame) (act : Act) (stepped : Stepped) → old.calls.frames.items ≡ mid.calls.frames.items ++ frame ∷ [] → mid.arriving ≡ old.arriving
    → Keeps act frame.slots.items after.slots.items → Keeps act old.store mid.store → after.function ≡ frame.function → after.point ≡ frame.point
    → AskedBy act stepped → BackAfter stepped after mid new → Unchanged stepped old new
kept_step old mid new frame after act N.Went e a k l f at q b = tt
kept_step old mid new frame after act (N.Returned v) e a k l f at q b = tt
kept_step old mid new frame after (A.GoesOn h) (N.Asked r) e a k l f at q b = absurd q
kept_step old mid new frame after (A.Enters g vs) (N.Asked r) e a k l f at q b = absurd q
kept_step old mid new frame after (A.Leaves v) (N.Asked r) e a k l f at q b = absurd q
kept_step old mid new frame after (A.GoesOn h) (N.Faulted fault x) e a k l f at q b = absurd q
kept_step old mid new frame after (A.Enters g vs) (N.Faulted fault x) e a k l f at q b = absurd q
kept_step old mid new frame after (A.Leaves v) (N.Faulted fault x) e a k l f at q b = absurd q
kept_step old mid new frame after (A.Asks p vs) (N.Asked r) e a k l f at q b = same_back old mid new frame after e a k l f at b
kept_step old mid new frame after (A.Asks p vs) (N.Faulted fault x) e a k l f at q b = same_back old mid new frame after e a k l f at b

-- ---- an answer

-- where an answer goes on, what met it was that
pub went_meets : (names : Names) (m : Machine) (stepped : Stepped) (p : Y.Program) (s : S.Store) (v : S.Value) (frames : List (P.Frame T.Point)) → None ≡ fault_of stepped
    → Meets (done_of names m stepped) (P.frames_answered (trees p) s v frames) → Meets (Ok (P.Went (store_of names m.store) (stack_of names m))) (P.frames_answered (trees p) s v frames)
went_meets names m N.Went p s v frames n h = h
went_meets names m (N.Returned w) p s v frames n h =
    only_goes (P.frames_answered (trees p) s v frames) (answered_goes p s v frames) (P.Returned (value_of names w) (store_of names m.store)) (λ x. x) h (Ok (P.Went (store_of names m.store) (stack_of names m)))
went_meets names m (N.Asked r) p s v frames n h =
    only_goes (P.frames_answered (trees p) s v frames) (answered_goes p s v frames) (P.Asks (request_of names r)) (λ x. x) h (Ok (P.Went (store_of names m.store) (stack_of names m)))
went_meets names m (N.Faulted fault x) p s v frames n h = absurd cc

-- and what met its fault was that fault
pub faulted_meets : (names : Names) (m : Machine) (stepped : Stepped) (fault : Fault) (a : Answer (P.Done T.Point)) → Some fault ≡ fault_of stepped → Meets (done_of names m stepped) a → Meets (Err fault) a
faulted_meets names m N.Went fault a n h = absurd cc
faulted_meets names m (N.Returned w) fault a n h = absurd cc
faulted_meets names m (N.Asked r) fault a n h = absurd cc
faulted_meets names m (N.Faulted f x) fault a n h = let i : f ≡ fault = cc in let K : Fault → Type 0 = λ g. Meets (Err g) a in subst K i h

-- and a fault left the store as it was
pub faulted_store : (old new : Machine) (stepped : Stepped) (fault : Fault) → Some fault ≡ fault_of stepped → Unchanged stepped old new → new.store ≡ old.store
faulted_store old new N.Went fault n h = absurd cc
faulted_store old new (N.Returned w) fault n h = absurd cc
faulted_store old new (N.Asked r) fault n h = h.store
faulted_store old new (N.Faulted f x) fault n h = h.store
