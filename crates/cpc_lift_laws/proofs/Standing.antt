-- Each state of a lifted run agrees with one of the threads, so its frames stand.
use Rattle.std.proofs.Common.{is_some, ◌≡◌, ℕ, zero, suc, Bool, true, List, [], ◌∷◌, length, Option, Some, slice_get, refl, sym, ◌∙◌, ap}
use Rattle.cpc_base.specs.Bytes.{Text}
use Rattle.cpc_base.proofs.Truth.{never_both}
use Rattle.cpc_meaning_matching.specs.Steps.{or_stay}
use Rattle.cpc_meaning_matching.specs.Systems.{run}
use Rattle.cpc_meaning.specs.Eval.{Slot, Register, Boxed}
use Rattle.cpc_meaning.specs.Plain.{Form, Frame, Stack}
use Rattle.cpc_meaning.specs.Agenda.{Agenda}
use Rattle.cpc_meaning.specs.History.{History}
use Rattle.cpc_meaning.specs.Machine.{State}
use Rattle.cpc_meaning.specs.Threads.{Thread}
use Rattle.cpc_meaning.specs.Matching.{thread_system}
use Rattle.cpc_meaning.proofs.Both.{Both, Ends, Goes}
use Rattle.cpc_meaning.proofs.Agendas.{SameAgenda}
use Rattle.cpc_meaning.proofs.Meeting.{BothSome, SomeBoth, NoneBoth}
use Rattle.cpc_lift_laws.specs.Boxes.{Marks}
use Rattle.cpc_lift_laws.specs.Closed.{Closed}
use Rattle.cpc_lift_laws.specs.Lifted.{lifted_system}
use Rattle.cpc_lift_laws.specs.Laws.{SameBesides, LiftedIsSame}
use Rattle.cpc_lift_laws.specs.Standing.{is_block, FrameStands, FramesStand, RunningStands, ThreadStands, AllStand, AgendaStands, StateStands, LiftedStands}
use Rattle.cpc_lift_laws.proofs.Slots.{SlotMeets, SlotsMeet}
use Rattle.cpc_meaning.proofs.Machines.{ThreadsMeet, PendingBoth, SuspendedBoth, StatesMeet, Meet}
use Rattle.cpc_meaning.proofs.Steps.{next_meet}
use Rattle.cpc_lift_laws.proofs.Frames.{FramesAgree, FrameAgrees, StacksAgree, StackAgrees, stacks_go}
use Rattle.cpc_meaning.proofs.Follow.{opens}
use Rattle.cpc_lift_laws.proofs.Lifting.{tidied}

-- ---- slots

block_marked : (keep box : Bool) (x y slot : Slot) → SlotMeets keep box x y → Some y ≡ Some slot → keep ≡ true → is_block slot ≡ box
block_marked keep box (Register v) (Register w) slot m e k = let i : Register w ≡ slot = cc in sym (ap is_block i) ∙ sym m.0
block_marked keep box (Boxed a) (Boxed b) slot m e k = let i : Boxed b ≡ slot = cc in sym (ap is_block i) ∙ sym m.0
block_marked keep box (Boxed a) (Register w) slot m e k = absurd (never_both keep k m.1)
block_marked keep box (Register v) (Boxed b) slot m e k = absurd m

blocks_marked : (keep box : ℕ → Bool) (xs ys : List Slot) → SlotsMeet keep box xs ys → (k : ℕ) (slot : Slot) → slice_get ys k ≡ Some slot → keep k ≡ true → is_block slot ≡ box k
blocks_marked keep box [] [] m k slot e g = absurd (cc)
blocks_marked keep box (x ∷ xs) (y ∷ ys) m zero slot e g = block_marked (keep 0) (box 0) x y slot m.0 e g
blocks_marked keep box (x ∷ xs) (y ∷ ys) m (suc k) slot e g = blocks_marked (λ k. keep (suc k)) (λ k. box (suc k)) xs ys m.1 k slot e g
blocks_marked keep box [] (y ∷ ys) m k slot e g = absurd m
blocks_marked keep box (x ∷ xs) [] m k slot e g = absurd m

pub one_length : (keep box : ℕ → Bool) (xs ys : List Slot) → SlotsMeet keep box xs ys → length ys ≡ length xs
one_length keep box [] [] m = refl
one_length keep box (x ∷ xs) (y ∷ ys) m = ap (λ n. suc n) (one_length (λ k. keep (suc k)) (λ k. box (suc k)) xs ys m.1)
one_length keep box [] (y ∷ ys) m = absurd m
one_length keep box (x ∷ xs) [] m = absurd m

module _ {P : Type 0} (p : Form P) (box : Text → ℕ → Bool) (there : Text → P → Bool) (kept : Text → P → ℕ → Bool) where
  abbrev Stacks : Stack P → Stack P → Type 0
  Stacks = StacksAgree p.program box there kept

  -- ---- frames

  frame_stands : (x y : Frame P) → FramesAgree p.program box there kept x y → FrameStands p box there kept y
  frame_stands _ _ (FrameAgrees f a xs ys t size m) = record {
    at = t;
    function = size.function;
    named = size.named;
    number = one_length (kept f a) (box f) xs ys m ∙ size.number;
    boxes = λ k slot e g. blocks_marked (kept f a) (box f) xs ys m k slot e g;
  }

  frames_stand : (us ws : List (Frame P)) → Both (FramesAgree p.program box there kept) us ws → FramesStand p box there kept ws
  frames_stand _ _ Ends = tt
  frames_stand _ _ (Goes x y us ws r rs) = (frame_stands x y r, frames_stand us ws rs)

  stack_stands : (k j : Stack P) → Stacks k j → FramesStand p box there kept j.frames
  stack_stands _ _ (StackAgrees us ws o rs) = frames_stand us ws rs

  running_stands : (k j : Option (Stack P)) → BothSome Stacks k j → RunningStands p box there kept j
  running_stands _ _ NoneBoth = tt
  running_stands _ _ (SomeBoth k j r) = stack_stands k j r

  -- ---- threads

  thread_stands : (x y : Thread P) → ThreadsMeet Stacks x y → ThreadStands p box there kept y
  thread_stands _ _ (PendingBoth f vs) = tt
  thread_stands _ _ (SuspendedBoth k j r) = stack_stands k j r

  all_stand : {X : Type 0} (R : X → X → Type 0) (item : X → Thread P) → ((x y : X) → R x y → ThreadsMeet Stacks (item x) (item y)) → (xs ys : List X) → Both R xs ys → AllStand p box there kept item ys
  all_stand R item h _ _ Ends = tt
  all_stand R item h _ _ (Goes x y xs ys r rs) = (thread_stands (item x) (item y) (h x y r), all_stand R item h xs ys rs)

  agenda_stands : (a b : Agenda (Thread P)) → SameAgenda (ThreadsMeet Stacks) a b → AgendaStands p box there kept b
  agenda_stands a b g = record {
    ready = all_stand _ (λ d. d.item) (λ x y r. r.item) _ _ g.ready;
    round = all_stand _ (λ d. d.item) (λ x y r. r.item) _ _ g.round;
    waiters = all_stand _ (λ w. w.item) (λ x y r. r.item) _ _ g.waiters;
    descriptors = all_stand _ (λ w. w.item) (λ x y r. r.item) _ _ g.descriptors;
    timers = all_stand _ (λ t. t.item) (λ x y r. r.item) _ _ g.timers;
    sections = all_stand _ (λ s. s.item) (λ x y r. r.item) _ _ g.sections;
  }

  pub state_stands : (x y : State P (Thread P)) → StatesMeet Stacks x y → StateStands p box there kept y
  state_stands _ _ (Meet s k j a b jobs h tr o r g) = record { running = running_stands k j r; agenda = agenda_stands a b g }

  -- ---- runs

  module _ (marks : Marks p.program box) (closed : Closed p box there kept) where
    step_agrees : (x y : State P (Thread P)) (u w : Option (State P (Thread P))) → StatesMeet Stacks x y → BothSome (StatesMeet Stacks) u w → StatesMeet Stacks (or_stay x u) (or_stay y w)
    step_agrees x y _ _ r (SomeBoth u w i) = i
    step_agrees x y _ _ r NoneBoth = r

    -- the state of the lifted run after n steps agrees with that of the threads
    pub run_agrees : (h : History) (n : ℕ) → StatesMeet Stacks (run (thread_system p h) n) (run (lifted_system kept p h) n)
    run_agrees h zero = opens Stacks p.program p.code p.code (stacks_go p.program p.code box there kept marks closed.inside) h
    run_agrees h (suc n) =
        let r = run_agrees h n in
        step_agrees _ _ _ _ r
        (tidied p.program box there kept _ _ (next_meet Stacks p.program p.code p.code (stacks_go p.program p.code box there kept marks closed.inside) _ _ r))

pub lifted_stands : (P : Type 0) → LiftedStands P
lifted_stands P p box there kept marks closed h n = state_stands p box there kept _ _ (run_agrees p box there kept marks closed h n)

some_both : {P : Type 0} (K : Stack P → Stack P → Type 0) (k j : Option (Stack P)) → BothSome K k j → is_some k ≡ is_some j
some_both K _ _ (SomeBoth k j r) = refl
some_both K _ _ NoneBoth = refl

same_besides : {P : Type 0} (K : Stack P → Stack P → Type 0) (x y : State P (Thread P)) → StatesMeet K x y → SameBesides x y
same_besides K _ _ (Meet s k j a b jobs h tr o r g) = record { store = refl; jobs = refl; history = refl; trace = refl; outcome = refl; runs = some_both K k j r }

pub lifted_is_same : (P : Type 0) → LiftedIsSame P
lifted_is_same P p box there kept marks closed h n = same_besides (StacksAgree p.program box there kept) _ _ (run_agrees p box there kept marks closed h n)
