-- The lifted machine matches the threads, and its running frames are tidy.
use Rattle.std.proofs.Common.{◌≡◌, ℕ, zero, suc, Bool, true, List, [], ◌∷◌, map, Option, Some, None, option_map, ap}
use Rattle.cpc_base.specs.Bytes.{Text}
use Rattle.cpc_tree.specs.Syntax.{Program}
use Rattle.cpc_tree.specs.Trace.{is_over}
use Rattle.cpc_meaning_matching.specs.Steps.{or_stay}
use Rattle.cpc_meaning_matching.specs.Systems.{run}
use Rattle.cpc_meaning.specs.Plain.{Form, Frame, Stack}
use Rattle.cpc_meaning.specs.History.{History}
use Rattle.cpc_meaning.specs.Machine.{State, next}
use Rattle.cpc_meaning.specs.Start.{main_name}
use Rattle.cpc_meaning.specs.Threads.{Thread, Pending, threads_of}
use Rattle.cpc_meaning.proofs.Connect.{machine_ends}
use Rattle.cpc_meaning.proofs.Meeting.{BothSome, SomeBoth, NoneBoth}
use Rattle.cpc_lift_laws.specs.Lifted.{tidy_frame, tidy_running, tidy, lifted_system, TidyFrames, TidyRunning}
use Rattle.cpc_lift_laws.specs.Laws.{LiftingFollows, LiftedEnds, LiftedIsTidy}
use Rattle.cpc_lift_laws.proofs.Slots.{tidy_unset}
use Rattle.cpc_meaning.proofs.Machines.{StatesMeet, Meet}
use Rattle.cpc_lift_laws.proofs.Frames.{StacksAgree, tidy_agrees, stacks_go}
use Rattle.cpc_meaning.proofs.Follow.{changed_follow}

-- ---- the match

module _ {P : Type 0} (prog : Program) (box : Text → ℕ → Bool) (there : Text → P → Bool) (kept : Text → P → ℕ → Bool) where
  abbrev Agree : State P (Thread P) → State P (Thread P) → Type 0
  Agree = StatesMeet (StacksAgree prog box there kept)

  running_agrees : (k j : Option (Stack P)) → BothSome (StacksAgree prog box there kept) k j → BothSome (StacksAgree prog box there kept) k (tidy_running kept j)
  running_agrees _ _ NoneBoth = NoneBoth
  running_agrees _ _ (SomeBoth k j r) = SomeBoth k _ (tidy_agrees prog box there kept k j r)

  tidy_state_agrees : (x y : State P (Thread P)) → Agree x y → Agree x (tidy kept y)
  tidy_state_agrees _ _ (Meet s k j a b jobs h tr o r g) = Meet s k (tidy_running kept j) a b jobs h tr o (running_agrees k j r) g

  pub tidied : (x y : Option (State P (Thread P))) → BothSome Agree x y → BothSome Agree x (option_map (tidy kept) y)
  tidied _ _ NoneBoth = NoneBoth
  tidied _ _ (SomeBoth x y r) = SomeBoth x (tidy kept y) (tidy_state_agrees x y r)

lifted_over : {P : Type 0} (p : Form P) (kept : Text → P → ℕ → Bool) (s : State P (Thread P)) → is_over s.outcome ≡ true → option_map (tidy kept) (next (threads_of p) s) ≡ None
lifted_over p kept s o = ap (option_map (tidy kept)) ((machine_ends (threads_of p) (Pending main_name []) (record { polls = []; answers = []; section_bound = 0 })).none s o)

pub lifted_ends : (P : Type 0) → LiftedEnds P
lifted_ends P p kept h = record { none = lifted_over p kept }

pub lifting_follows : (P : Type 0) → LiftingFollows P
lifting_follows P p box there kept marks closed =
    changed_follow (StacksAgree p.program box there kept) p.program p.code p.code (stacks_go p.program p.code box there kept marks closed.inside)
    (λ s. option_map (tidy kept) (next (threads_of p) s))
    (lifted_over p kept)
    (λ x y r. tidied p.program box there kept x (next (threads_of p) y) r)

-- ---- tidy frames

module _ {P : Type 0} (p : Form P) (kept : Text → P → ℕ → Bool) where
  frames_tidy : (frames : List (Frame P)) → TidyFrames kept (map (tidy_frame kept) frames)
  frames_tidy [] = tt
  frames_tidy (frame ∷ frames) = (λ k slot e f. tidy_unset (kept frame.function frame.point) frame.slots k slot e f, frames_tidy frames)

  running_tidy : (k : Option (Stack P)) → TidyRunning kept (tidy_running kept k)
  running_tidy None = tt
  running_tidy (Some k) = frames_tidy k.frames

  step_tidy : (s : State P (Thread P)) (o : Option (State P (Thread P))) → TidyRunning kept s.running → TidyRunning kept (or_stay s (option_map (tidy kept) o)).running
  step_tidy s None t = t
  step_tidy s (Some u) t = running_tidy u.running

  pub run_tidy : (h : History) (n : ℕ) → TidyRunning kept (run (lifted_system kept p h) n).running
  run_tidy h zero = tt
  run_tidy h (suc n) = step_tidy (run (lifted_system kept p h) n) (next (threads_of p) (run (lifted_system kept p h) n)) (run_tidy h n)

pub lifted_is_tidy : (P : Type 0) → LiftedIsTidy P
lifted_is_tidy P p kept h n = run_tidy p kept h n
