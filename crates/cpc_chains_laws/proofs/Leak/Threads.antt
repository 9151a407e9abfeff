-- The threads of a program as it is written, and the states of the lifted run of its split form: which frames and which needs are the same.
use Rattle.std.proofs.Common.{◌≡◌, if◌then◌else◌, ℕ, zero, suc, ◌+◌, ◌≤◌, Bool, true, false, not, List, [], ◌∷◌, length, Option, Some, None, is_some, option_map, refl, ◌∙◌, ap, arith}
use Rattle.cpc_base.specs.Bytes.{Text}
use Rattle.cpc_base.proofs.Truth.{never_both}
use Rattle.cpc_store.specs.Store.{Value}
use Rattle.cpc_tree.specs.Lists.{holds_number}
use Rattle.cpc_tree.specs.Points.{Point}
use Rattle.cpc_tree.specs.Syntax.{Function, Program}
use Rattle.cpc_tree.specs.Typing.{function_named}
use Rattle.cpc_meaning_matching.specs.Steps.{or_stay}
use Rattle.cpc_meaning_matching.specs.Systems.{run}
use Rattle.cpc_meaning.specs.Eval.{Slot, Register, Boxed}
use Rattle.cpc_meaning.specs.History.{History}
use Rattle.cpc_meaning.specs.Machine.{State}
use Rattle.cpc_meaning.specs.Matching.{thread_system}
use Rattle.cpc_meaning.specs.Plain.{Code, Form, Frame, Stack}
use Rattle.cpc_meaning.specs.Runs.{slot_registers, slots_registers}
use Rattle.cpc_meaning.specs.Threads.{Thread, is_cps_mode, is_cps, threaded}
use Rattle.cpc_meaning.specs.Trees.{tree_code}
use Rattle.cpc_meaning.specs.Ways.{ways, way_code}
use Rattle.cpc_meaning.proofs.Both.{Both, Ends, Goes}
use Rattle.cpc_meaning.proofs.Follow.{opens}
use Rattle.cpc_meaning.proofs.Machines.{ThreadsMeet, PendingBoth, SuspendedBoth, StatesMeet, Meet}
use Rattle.cpc_meaning.proofs.Meeting.{BothSome, SomeBoth, NoneBoth, FramesMeet, FrameMeets, ListsMeet, NoFrames, AndFrame, StacksMeet, StackMeets}
use Rattle.cpc_meaning.proofs.Positions.{positions_go}
use Rattle.cpc_meaning.proofs.Stacks.{StacksGo}
use Rattle.cpc_meaning.proofs.Steps.{next_meet}
use Rattle.cpc_meaning.proofs.Ways.{AtWay, ways_meet}
use Rattle.cpc_forms.specs.Flow.{At}
use Rattle.cpc_forms.specs.Graph.{Graph, graph_if, graph_where}
use Rattle.cpc_forms.specs.Split.{Position, InTree, InGraph, splits, split_of, split_code, split_form}
use Rattle.cpc_graph_laws.proofs.Positions.{InPiece, NotInPiece, OwnedBy, AtOwner, owners_meet}
use Rattle.cpc_lift_laws.specs.Boxes.{is_box}
use Rattle.cpc_lift_laws.specs.Lift.{variables_in, closure_in}
use Rattle.cpc_lift_laws.proofs.Slots.{SlotMeets, SlotsMeet}
use Rattle.cpc_lift_laws.proofs.Boxes.{programs_have_marks}
use Rattle.cpc_lift_laws.proofs.Frames.{FramesAgree, FrameAgrees, StacksAgree, StackAgrees}
use Rattle.cpc_lift_laws.proofs.Standing.{run_agrees}
use Rattle.cpc_convert_routines.specs.ClosureLaws.{lifting}
use Rattle.cpc_lifted_laws.specs.Accepted.Lifted.{kept_of, lifted_after}
use Rattle.cpc_lifted_laws.proofs.Accepted.Lifted.{programs_are_closed}
use Rattle.cpc_lifted_laws.specs.Native.Instance.{keeps_in}
use Rattle.cpc_lifted_laws.specs.Related.Sums.{sum, total}
use Rattle.cpc_chains_laws.specs.Leak.Need.{where_so, closure_at, thread_weight, stack_weight, frame_count, frame_need, running_need, frames_in, need, native_slots, native_registers}
use Rattle.cpc_chains_laws.proofs.Leak.Weights.{both_weigh, agendas_weigh}

-- ---- weights of frames and of threads

module _ {P Q : Type 0} (K : Stack P → Stack Q → Type 0) (pending : Text → List Value → ℕ) (w : Frame P → ℕ) (v : Frame Q → ℕ) (le : (k : Stack P) (j : Stack Q) → K k j → sum v j.frames ≤ sum w k.frames)
    (runs : List (Frame P) → ℕ) (runs' : List (Frame Q) → ℕ) (run_le : (k : Stack P) (j : Stack Q) → K k j → runs' j.frames ≤ runs k.frames) where
  thread_weighs : (x : Thread P) (y : Thread Q) → ThreadsMeet K x y → thread_weight pending v y ≤ thread_weight pending w x
  thread_weighs _ _ (PendingBoth f vs) = omega arith
  thread_weighs _ _ (SuspendedBoth k j r) = le k j r

  running_weighs : (k : Option (Stack P)) (j : Option (Stack Q)) → BothSome K k j → stack_weight runs' j ≤ stack_weight runs k
  running_weighs _ _ (SomeBoth k j r) = run_le k j r
  running_weighs _ _ NoneBoth = omega arith

  -- where stacks that meet weigh no more, states that meet weigh no more
  pub states_weigh : (x : State P (Thread P)) (y : State Q (Thread Q)) → StatesMeet K x y → stack_weight runs' y.running + total (thread_weight pending v) y.agenda ≤ stack_weight runs x.running + total (thread_weight pending w) x.agenda
  states_weigh _ _ (Meet s k j a b jobs h tr o r g) = let h = running_weighs k j r in let i = agendas_weigh (thread_weight pending w) (thread_weight pending v) thread_weighs a b g in omega (arith, h, i)

-- frames whose positions meet
module _ {P Q : Type 0} (R : Text → P → Q → Type 0) (w : Frame P → ℕ) (v : Frame Q → ℕ) (le : (x : Frame P) (y : Frame Q) → FramesMeet R x y → v y ≤ w x) where
  pub lists_weigh : (xs : List (Frame P)) (ys : List (Frame Q)) → ListsMeet R xs ys → sum v ys ≤ sum w xs
  lists_weigh _ _ NoFrames = omega arith
  lists_weigh _ _ (AndFrame x y xs ys r rs) = let h = lists_weigh xs ys rs in let i = le x y r in omega (arith, h, i)

  pub stacks_weigh : (k : Stack P) (j : Stack Q) → StacksMeet R k j → sum v j.frames ≤ sum w k.frames
  stacks_weigh _ _ (StackMeets xs ys o r) = lists_weigh xs ys r

-- ---- runs

module _ {P Q : Type 0} (K : Stack P → Stack Q → Type 0) (prog : Program) (code : Code P) (other : Code Q) (go : StacksGo K prog code other) (h : History) where
  abbrev p : Form P
  p = record { program = prog; code = code }

  abbrev q : Form Q
  q = record { program = prog; code = other }

  step_meets : (x : State P (Thread P)) (y : State Q (Thread Q)) (u : Option (State P (Thread P))) (w : Option (State Q (Thread Q))) → StatesMeet K x y → BothSome (StatesMeet K) u w → StatesMeet K (or_stay x u) (or_stay y w)
  step_meets x y _ _ r (SomeBoth u w i) = i
  step_meets x y _ _ r NoneBoth = r

  -- the states of both runs after n steps meet
  pub runs_meet : (n : ℕ) → StatesMeet K (run (thread_system p h) n) (run (thread_system q h) n)
  runs_meet zero = opens K prog code other go h
  runs_meet (suc n) = let r = runs_meet n in step_meets _ _ _ _ r (next_meet K prog code other go _ _ r)

-- ---- the threads of a program, and its lifted run

-- a frame of split graphs counts 1 at a node
abbrev pub position_count : Position → ℕ
position_count (InTree point) = 0
position_count (InGraph l n) = 1

abbrev pub split_count : Frame Position → ℕ
split_count frame = position_count frame.point

-- and needs 8 there, and 1 for each variable that the frames of the node keep where it leads
abbrev pub position_need : Program → Option Function → Position → ℕ
position_need p o (InTree point) = 0
position_need p o (InGraph l n) = 8 + length (keeps_in p o (At n))

abbrev pub split_need : Program → Frame Position → ℕ
split_need p frame = position_need p (function_named p frame.function) frame.point

-- what the frames of a stack that runs need: of the first frame at a node nothing is counted
abbrev pub running_at : Position → ℕ → ℕ → ℕ
running_at (InTree point) below others = below
running_at (InGraph l n) below others = others

abbrev pub split_running : Program → List (Frame Position) → ℕ
split_running p [] = 0
split_running p (frame ∷ below) = running_at frame.point (split_running p below) (sum (split_need p) below)

-- what two states have alike, whatever their positions
pub record SameRest {P Q T U : Type 0} (x : State P T) (y : State Q U) : Type 0 where
  pub store : x.store ≡ y.store
  pub trace : x.trace ≡ y.trace
  pub outcome : x.outcome ≡ y.outcome
  pub rests : x.running ≡ None → y.running ≡ None
  pub rested : y.running ≡ None → x.running ≡ None

rest_then : {P Q R T U V : Type 0} (x : State P T) (y : State Q U) (z : State R V) → SameRest x y → SameRest y z → SameRest x z
rest_then x y z r s = record { store = r.store ∙ s.store; trace = r.trace ∙ s.trace; outcome = r.outcome ∙ s.outcome; rests = λ e. s.rests (r.rests e); rested = λ e. r.rested (s.rested e) }

states_rest : {P Q : Type 0} (K : Stack P → Stack Q → Type 0) (x : State P (Thread P)) (y : State Q (Thread Q)) → StatesMeet K x y → SameRest x y
states_rest {P = P} {Q = Q} K _ _ (Meet s k j a b jobs h tr o r g) = record { store = refl; trace = refl; outcome = refl; rests = none k j r; rested = back k j r }
  where
    none : (k : Option (Stack P)) (j : Option (Stack Q)) → BothSome K k j → k ≡ None → j ≡ None
    none _ _ (SomeBoth k j r) e = absurd (cc)
    none _ _ NoneBoth e = refl

    back : (k : Option (Stack P)) (j : Option (Stack Q)) → BothSome K k j → j ≡ None → k ≡ None
    back _ _ (SomeBoth k j r) e = absurd (cc)
    back _ _ NoneBoth e = refl

-- where stacks that meet weigh no more, what runs does not
module _ {P Q : Type 0} (K : Stack P → Stack Q → Type 0) (runs : List (Frame P) → ℕ) (runs' : List (Frame Q) → ℕ) (le : (k : Stack P) (j : Stack Q) → K k j → runs' j.frames ≤ runs k.frames) where
  some_runs : (k : Option (Stack P)) (j : Option (Stack Q)) → BothSome K k j → stack_weight runs' j ≤ stack_weight runs k
  some_runs _ _ (SomeBoth k j r) = le k j r
  some_runs _ _ NoneBoth = omega arith

  pub stacks_run : (x : State P (Thread P)) (y : State Q (Thread Q)) → StatesMeet K x y → stack_weight runs' y.running ≤ stack_weight runs x.running
  stacks_run _ _ (Meet s k j a b jobs h tr o r g) = some_runs k j r

-- slots that are all kept
kept_slot : (keep box : Bool) (x y : Slot) → SlotMeets keep box x y → keep ≡ true → slot_registers y ≡ slot_registers x
kept_slot keep box (Register v) (Register w) m e = refl
kept_slot keep box (Boxed i) (Boxed j) m e = refl
kept_slot keep box (Boxed i) (Register w) m e = absurd (never_both keep e m.1)
kept_slot keep box (Register v) (Boxed j) m e = absurd m

kept_slots : (keep box : ℕ → Bool) (xs ys : List Slot) → SlotsMeet keep box xs ys → ((k : ℕ) → keep k ≡ true) → slots_registers ys ≡ slots_registers xs
kept_slots keep box [] [] m h = refl
kept_slots keep box (x ∷ xs) (y ∷ ys) m h =
    let a = kept_slot (keep 0) (box 0) x y m.0 (h 0) in
    let b = kept_slots (λ k. keep (suc k)) (λ k. box (suc k)) xs ys m.1 (λ k. h (suc k)) in
    omega (arith, a, b)
kept_slots keep box [] (y ∷ ys) m h = absurd m
kept_slots keep box (x ∷ xs) [] m h = absurd m

module _ (p : Program) where
  where_true : (b : Bool) (n : ℕ) → b ≡ true → where_so b n ≡ n
  where_true b n e = ap (λ c. where_so c n) e

  -- a point and its position
  piece_count : (o : Option Function) (point : Point) (to : Position) → InPiece p o point to → position_count to ≤ where_so (is_cps o) 1
  piece_count _ _ _ (NotInPiece o point e) = omega arith
  piece_count _ _ _ (OwnedBy f l point cps il i own) = let e = where_true (is_cps (Some f)) 1 cps in omega (arith, e)

  piece_need : (o : Option Function) (point : Point) (to : Position) → InPiece p o point to → position_need p o to ≤ where_so (is_cps o) (8 + closure_at p o point)
  piece_need _ _ _ (NotInPiece o point e) = omega arith
  piece_need _ _ _ (OwnedBy f l point cps il i own) = let e = where_true (is_cps (Some f)) (8 + closure_at p (Some f) point) cps in omega (arith, e)

  owner_count : (x : Frame Point) (y : Frame Position) → FramesMeet (AtOwner p) x y → split_count y ≤ frame_count p x
  owner_count _ _ (FrameMeets f point to slots r) = piece_count (function_named p f) point to r

  owner_need : (x : Frame Point) (y : Frame Position) → FramesMeet (AtOwner p) x y → split_need p y ≤ frame_need p x
  owner_need _ _ (FrameMeets f point to slots r) = piece_need (function_named p f) point to r

  -- a point of the text and of the ways that are taken
  way_count : (x y : Frame Point) → FramesMeet (AtWay p) x y → frame_count p y ≤ frame_count p x
  way_count _ _ (FrameMeets f u w slots r) = omega arith

  way_need : (x y : Frame Point) → FramesMeet (AtWay p) x y → frame_need p y ≤ frame_need p x
  way_need _ _ (FrameMeets f u w slots r) = let e = ap (λ (point : Point). where_so (is_cps (function_named p f)) (8 + closure_at p (function_named p f) point)) r.0 in omega (arith, e)

  -- what runs: where nothing of split graphs stands no function is cps
  not_cps : (o : Option Function) → graph_where p o ≡ None → is_cps o ≡ false
  not_cps None e = refl
  not_cps (Some f) e = go (is_cps_mode f.mode) e
    where
      go : (b : Bool) → graph_if b p f ≡ None → b ≡ false
      go true e = absurd (cc)
      go false e = refl

  abbrev stands_need : Bool → ℕ → ℕ → ℕ
  stands_need b top below = if b then top else below

  piece_running : (o : Option Function) (point : Point) (to : Position) → InPiece p o point to → (below below' others others' k : ℕ) → below' ≤ below → others' ≤ others → running_at to below' others' ≤ stands_need (is_cps o) (8 + k + others) below
  piece_running _ _ _ (NotInPiece o point e) below below' others others' k le less = let i = ap (λ b. stands_need b (8 + k + others) below) (not_cps o e) in omega (arith, i, le)
  piece_running _ _ _ (OwnedBy f l point cps il i own) below below' others others' k le less = let e = ap (λ b. stands_need b (8 + k + others) below) cps in omega (arith, e, less)

  owner_running : (xs : List (Frame Point)) (ys : List (Frame Position)) → ListsMeet (AtOwner p) xs ys → split_running p ys ≤ running_need p xs
  owner_running _ _ NoFrames = omega arith
  owner_running _ _ (AndFrame _ _ xs ys (FrameMeets f point to slots r) rs) =
      piece_running (function_named p f) point to r (running_need p xs) (split_running p ys) (sum (frame_need p) xs) (sum (split_need p) ys) (variables_in (function_named p f)) (owner_running xs ys rs)
      (lists_weigh (AtOwner p) (frame_need p) (split_need p) owner_need xs ys rs)

  way_running : (xs ys : List (Frame Point)) → ListsMeet (AtWay p) xs ys → running_need p ys ≤ running_need p xs
  way_running _ _ NoFrames = omega arith
  way_running _ _ (AndFrame _ _ xs ys (FrameMeets f u w slots r) rs) = go (is_cps (function_named p f)) (way_running xs ys rs) (lists_weigh (AtWay p) (frame_need p) (frame_need p) way_need xs ys rs)
    where
      go : (b : Bool) → running_need p ys ≤ running_need p xs → sum (frame_need p) ys ≤ sum (frame_need p) xs
          → stands_need b (8 + variables_in (function_named p f) + sum (frame_need p) ys) (running_need p ys) ≤ stands_need b (8 + variables_in (function_named p f) + sum (frame_need p) xs) (running_need p xs)
      go true le less = omega (arith, less)
      go false le less = omega (arith, le)

  -- a frame that forgets
  abbrev Agree : Frame Position → Frame Position → Type 0
  Agree = FramesAgree p (is_box p) (lifting p).there (kept_of p)

  abbrev Stacks : Stack Position → Stack Position → Type 0
  Stacks = StacksAgree p (is_box p) (lifting p).there (kept_of p)

  lift_count : (x y : Frame Position) → Agree x y → split_count y ≤ split_count x
  lift_count _ _ (FrameAgrees f a xs ys t size m) = omega arith

  lift_need : (x y : Frame Position) → Agree x y → split_need p y ≤ split_need p x
  lift_need _ _ (FrameAgrees f a xs ys t size m) = omega arith

  lift_running : (xs ys : List (Frame Position)) → Both Agree xs ys → split_running p ys ≤ split_running p xs
  lift_running _ _ Ends = omega arith
  lift_running _ _ (Goes _ _ xs ys (FrameAgrees f a us ws t size m) rs) = go a (lift_running xs ys rs) (both_weigh (split_need p) (split_need p) lift_need xs ys rs)
    where
      go : (a : Position) → split_running p ys ≤ split_running p xs → sum (split_need p) ys ≤ sum (split_need p) xs → running_at a (split_running p ys) (sum (split_need p) ys) ≤ running_at a (split_running p xs) (sum (split_need p) xs)
      go (InTree point) le less = le
      go (InGraph l n) le less = less

  -- the registers of native frames
  way_registers : (x y : Frame Point) → FramesMeet (AtWay p) x y → native_registers p y ≤ native_registers p x
  way_registers _ _ (FrameMeets f u w slots r) = omega arith

  owner_registers : (x : Frame Point) (y : Frame Position) → FramesMeet (AtOwner p) x y → native_registers p y ≤ native_registers p x
  owner_registers _ _ (FrameMeets f point to slots r) = omega arith

  no_graph_where : (o : Option Function) → is_cps o ≡ false → graph_where p o ≡ None
  no_graph_where None e = refl
  no_graph_where (Some f) e = ap (λ b. graph_if b p f) e

  lift_registers : (x y : Frame Position) → Agree x y → native_registers p y ≤ native_registers p x
  lift_registers _ _ (FrameAgrees f a xs ys t size m) = go (is_cps (function_named p f)) refl
    where
      kept : (lifting p).whole f ≡ true → (k : ℕ) → kept_of p f a k ≡ true
      kept w k = ap (λ b. if b then true else holds_number (closure_in (split_form p) (lifting p) f ((lifting p).owner f a)) k) w

      go : (b : Bool) → is_cps (function_named p f) ≡ b → native_slots (function_named p f) ys ≤ native_slots (function_named p f) xs
      go true e = let i = ap (λ b. where_so (not b) (slots_registers ys)) e in omega (arith, i)
      go false e =
          let none = ap (λ (g : Option Graph). not (is_some (option_map split_of g))) (no_graph_where (function_named p f) e) in
          let same = kept_slots (kept_of p f a) (is_box p f) xs ys m (kept none) in
          let i = ap (λ n. where_so (not (is_cps (function_named p f))) n) same in
          omega (arith, i)

  way_stacks : (k j : Stack Point) → StacksMeet (AtWay p) k j → running_need p j.frames ≤ running_need p k.frames
  way_stacks _ _ (StackMeets xs ys o r) = way_running xs ys r

  owner_stacks : (k : Stack Point) (j : Stack Position) → StacksMeet (AtOwner p) k j → split_running p j.frames ≤ running_need p k.frames
  owner_stacks _ _ (StackMeets xs ys o r) = owner_running xs ys r

  lift_stacks : (k j : Stack Position) → Stacks k j → split_running p j.frames ≤ split_running p k.frames
  lift_stacks _ _ (StackAgrees us ws o rs) = lift_running us ws rs

  lifted_stacks : (v : Frame Position → ℕ) → ((x y : Frame Position) → Agree x y → v y ≤ v x) → (k j : Stack Position) → Stacks k j → sum v j.frames ≤ sum v k.frames
  lifted_stacks v le _ _ (StackAgrees us ws o rs) = both_weigh v v le us ws rs

  module _ (h : History) (m : ℕ) where
    by_ways : StatesMeet (StacksMeet (AtWay p)) (threaded p h m) (run (thread_system (ways p) h) m)
    by_ways = runs_meet (StacksMeet (AtWay p)) p (tree_code p) (way_code p) (positions_go (AtWay p) p (tree_code p) (way_code p) (ways_meet p)) h m

    by_owners : StatesMeet (StacksMeet (AtOwner p)) (run (thread_system (ways p) h) m) (run (thread_system (split_form p) h) m)
    by_owners = runs_meet (StacksMeet (AtOwner p)) p (way_code p) (split_code (way_code p) (splits p)) (positions_go (AtOwner p) p (way_code p) (split_code (way_code p) (splits p)) (owners_meet p)) h m

    by_lift : StatesMeet Stacks (run (thread_system (split_form p) h) m) (lifted_after p h m)
    by_lift = run_agrees (split_form p) (is_box p) (lifting p).there (kept_of p) (programs_have_marks p) (programs_are_closed p) h m

    -- the lifted run has the same store, trace and outcome, and rests where the threads do
    pub lifted_rest : SameRest (threaded p h m) (lifted_after p h m)
    lifted_rest =
        rest_then _ _ _ (states_rest (StacksMeet (AtWay p)) _ _ by_ways)
        (rest_then _ _ _ (states_rest (StacksMeet (AtOwner p)) _ _ by_owners) (states_rest Stacks _ _ by_lift))

    -- its frames count no more, and need no more
    pub lifted_count : stack_weight (sum split_count) (lifted_after p h m).running + total (thread_weight (λ f vs. 1) split_count) (lifted_after p h m).agenda ≤ frames_in p (threaded p h m)
    lifted_count =
        let way = stacks_weigh (AtWay p) (frame_count p) (frame_count p) way_count in
        let owner = stacks_weigh (AtOwner p) (frame_count p) split_count owner_count in
        let lift = lifted_stacks split_count lift_count in
        let a = states_weigh (StacksMeet (AtWay p)) (λ f vs. 1) (frame_count p) (frame_count p) way (sum (frame_count p)) (sum (frame_count p)) way _ _ by_ways in
        let b = states_weigh (StacksMeet (AtOwner p)) (λ f vs. 1) (frame_count p) split_count owner (sum (frame_count p)) (sum split_count) owner _ _ by_owners in
        let c = states_weigh Stacks (λ f vs. 1) split_count split_count lift (sum split_count) (sum split_count) lift _ _ by_lift in
        omega (arith, a, b, c)

    pub lifted_needs : stack_weight (split_running p) (lifted_after p h m).running + total (thread_weight (λ f vs. 8 + length vs) (split_need p)) (lifted_after p h m).agenda ≤ need p (threaded p h m)
    lifted_needs =
        let a = states_weigh (StacksMeet (AtWay p)) (λ f vs. 8 + length vs) (frame_need p) (frame_need p) (stacks_weigh (AtWay p) (frame_need p) (frame_need p) way_need) (running_need p) (running_need p) way_stacks _ _ by_ways in
        let b = states_weigh (StacksMeet (AtOwner p)) (λ f vs. 8 + length vs) (frame_need p) (split_need p) (stacks_weigh (AtOwner p) (frame_need p) (split_need p) owner_need) (running_need p) (split_running p) owner_stacks _ _ by_owners in
        let c = states_weigh Stacks (λ f vs. 8 + length vs) (split_need p) (split_need p) (lifted_stacks (split_need p) lift_need) (split_running p) (split_running p) lift_stacks _ _ by_lift in
        omega (arith, a, b, c)

    -- and so are the registers of the native frames that run
    pub lifted_registers : stack_weight (sum (native_registers p)) (lifted_after p h m).running ≤ stack_weight (sum (native_registers p)) (threaded p h m).running
    lifted_registers =
        let a = stacks_run (StacksMeet (AtWay p)) (sum (native_registers p)) (sum (native_registers p)) (stacks_weigh (AtWay p) (native_registers p) (native_registers p) way_registers) _ _ by_ways in
        let b = stacks_run (StacksMeet (AtOwner p)) (sum (native_registers p)) (sum (native_registers p)) (stacks_weigh (AtOwner p) (native_registers p) (native_registers p) owner_registers) _ _ by_owners in
        let c = stacks_run Stacks (sum (native_registers p)) (sum (native_registers p)) (lifted_stacks (native_registers p) lift_registers) _ _ by_lift in
        omega (arith, a, b, c)
