-- What is known of all frames of a lifted run, of those that run and of those that wait.
use Rattle.std.specs.Prelude.{◌≡◌, ℕ, Bool, true, false, List, [], ◌∷◌, length, slice_get, Option, Some, None}
use Rattle.cpc_base.specs.Bytes.{Text}
use Rattle.cpc_tree.specs.Syntax.{Function}
use Rattle.cpc_tree.specs.Typing.{function_named}
use Rattle.cpc_tree.specs.Registers.{variables}
use Rattle.cpc_meaning_matching.specs.Systems.{run}
use Rattle.cpc_meaning.specs.Eval.{Slot, Register, Boxed}
use Rattle.cpc_meaning.specs.Plain.{Form, Frame, Stack}
use Rattle.cpc_meaning.specs.Agenda.{Agenda}
use Rattle.cpc_meaning.specs.History.{History}
use Rattle.cpc_meaning.specs.Machine.{State}
use Rattle.cpc_meaning.specs.Threads.{Thread, Pending, Suspended}
use Rattle.cpc_lift_laws.specs.Boxes.{Marks}
use Rattle.cpc_lift_laws.specs.Closed.{Closed}
use Rattle.cpc_lift_laws.specs.Lifted.{lifted_system}

-- whether a slot is a box
abbrev pub is_block : Slot → Bool
is_block (Register v) = false
is_block (Boxed n) = true

module _ {P : Type 0} (p : Form P) (box : Text → ℕ → Bool) (there : Text → P → Bool) (kept : Text → P → ℕ → Bool) where
  -- a frame of a function of the program, where its code may stand, with a slot for each variable, of which those that are kept
  -- are boxes where they are marked
  pub record FrameStands (frame : Frame P) : Type 0 where
    pub at : there frame.function frame.point ≡ true
    pub function : Function
    pub named : function_named p.program frame.function ≡ Some function
    pub number : length frame.slots ≡ length (variables function)
    pub boxes : (k : ℕ) (slot : Slot) → slice_get frame.slots k ≡ Some slot → kept frame.function frame.point k ≡ true → is_block slot ≡ box frame.function k

  -- so it is in each of these frames
  abbrev pub FramesStand : List (Frame P) → Type 0
  FramesStand [] = Unit {0}
  FramesStand (frame ∷ frames) = FrameStands frame × FramesStand frames

  -- those of the running stack
  abbrev pub RunningStands : Option (Stack P) → Type 0
  RunningStands None = Unit {0}
  RunningStands (Some k) = FramesStand k.frames

  -- those of a thread
  abbrev pub ThreadStands : Thread P → Type 0
  ThreadStands (Pending f vs) = Unit {0}
  ThreadStands (Suspended k) = FramesStand k.frames

  -- those of the threads of a list
  abbrev pub AllStand : {X : Type 0} → (X → Thread P) → List X → Type 0
  AllStand item [] = Unit {0}
  AllStand item (x ∷ xs) = ThreadStands (item x) × AllStand item xs

  -- those of all threads that wait or are ready
  pub record AgendaStands (a : Agenda (Thread P)) : Type 0 where
    pub ready : AllStand (λ d. d.item) a.ready
    pub round : AllStand (λ d. d.item) a.round
    pub waiters : AllStand (λ w. w.item) a.waiters
    pub descriptors : AllStand (λ w. w.item) a.descriptors
    pub timers : AllStand (λ t. t.item) a.timers
    pub sections : AllStand (λ s. s.item) a.sections

  -- those of a state
  pub record StateStands (s : State P (Thread P)) : Type 0 where
    pub running : RunningStands s.running
    pub agenda : AgendaStands s.agenda

-- where enough is kept, it is so in each state of the lifted run
abbrev pub LiftedStands : (P : Type 0) → Type 0
LiftedStands P =
    (p : Form P) (box : Text → ℕ → Bool) (there : Text → P → Bool) (kept : Text → P → ℕ → Bool)
    → Marks p.program box → Closed p box there kept → (h : History) (n : ℕ) → StateStands p box there kept (run (lifted_system kept p h) n)
