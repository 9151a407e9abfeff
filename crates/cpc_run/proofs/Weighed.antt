-- A step within the cap.
use Rattle.std.proofs.Common.{◌≡◌, ◌≢◌, ℕ, ◌+◌, ◌<◌, ◌≤◌, min, Bool, true, false, ◌++◌, Option, Some, None, Ok, refl, sym, ap, subst, ◌∙◌, arith, append_assoc}
use Rattle.cpc_base.specs.Bytes.{Text}
use Rattle.cpc_base.specs.declared.names.Name.{Name}
use Rattle.cpc_num.specs.declared.kinds.Fault.{Fault}
use Rattle.cpc_tree.specs.Erase.{Names}
use Rattle.cpc_store.specs.Store.{store_cells}
use Rattle.cpc_meaning.specs.Plain.{Stack}
use Rattle.cpc_meaning.specs.Runs.{live_cells, registers, frames_registers}
use Rattle.cpc_tree.specs.Points.{Point}
use Rattle.cpc_run.specs.declared.looped.Loop.{Loop}
use Rattle.cpc_run.specs.declared.made.Made.TheVariants as M
use Rattle.cpc_run_shown.specs.declared.outcome.Outcome.{Outcome}
use Rattle.cpc_run_code.specs.declared.short.Short.TheVariants as W
use Rattle.cpc_run.specs.Shorts.{Counts, IsBeyond}
use Rattle.cpc_run_code.specs.Code.{store_in, stack_in, IsIdle}
use Rattle.cpc_run.specs.declared.step.Step.TheVariants as X
use Rattle.cpc_run.specs.States.{States, Stands, Breaks, Came, CameTo, IsSteady, where_running}
use Rattle.cpc_run.specs.Reports.{MadeSo}
use Rattle.cpc_run_code.proofs.Coded.{idle_frames}

-- a number below the greatest is not capped
pub uncapped : (cells live greatest : ℕ) → cells ≡ min live greatest → cells ≢ greatest → cells ≡ live
uncapped cells live greatest e ne = omega arith

-- the registers of what runs
registers_of : (b : Bool) (k : Stack Point) → (b ≡ false → frames_registers k.frames ≡ 0) → frames_registers k.frames ≡ registers (where_running b k)
registers_of true k h = refl
registers_of false k h = h refl

idle_registers : (names : Names) (l : Loop) → IsIdle l.machine → frames_registers (stack_in names l.machine).frames ≡ 0
idle_registers names l h = ap frames_registers (idle_frames names l.machine h)

-- the cells of the loop are those of the state
pub cells_so : (names : Names) (l : Loop) (printed : Text) (s : States) → IsSteady l → Stands names l printed s → store_cells (store_in names l.machine) + frames_registers (stack_in names l.machine).frames ≡ live_cells s
cells_so names l printed s steady h =
    let stored : store_cells s.store ≡ store_cells (store_in names l.machine) = ap store_cells h.store in
    let running : registers s.running ≡ registers (where_running l.running (stack_in names l.machine)) = ap registers h.running in
    let kept : frames_registers (stack_in names l.machine).frames ≡ registers (where_running l.running (stack_in names l.machine)) = registers_of l.running (stack_in names l.machine) (λ e. idle_registers names l (steady.idle e)) in
    omega arith

-- bytes behind the others, in whatever order they are put together
pub behind_all : (sent old more new : Text) → new ≡ old ++ more → (sent ++ old) ++ more ≡ sent ++ new
behind_all sent old more new e = append_assoc sent old more ∙ ap (λ t. sent ++ t) (sym e)

module _ (names : Names) (cap : ℕ) (l : Loop) (s : States) where
  pub made_on : (old printed new : Text) (cells greatest : ℕ) (o : Option States) → printed ≡ new → Came names None l printed s o
      → ((t : States) → Stands names l printed t → cells ≡ min (live_cells t) greatest) → cap < greatest → Counts (λ n. n ≤ cap) o → MadeSo names cap (Ok (M.On cells)) l old new s o
  made_on old printed new cells greatest None e h counted small le = tt
  made_on old printed new cells greatest (Some t) e h counted small le =
      let is = counted t h in
      (subst (λ p. Stands names l p t) e h, omega (arith, is, small, le), omega (arith, is, small, le))

  pub made_over : (old printed new : Text) (outcome : Outcome) (o : Option States) → Came names (Some outcome) l printed s o → new ≡ old → MadeSo names cap (Ok (M.Over outcome)) l old new s o
  made_over old printed new outcome None h same = tt
  made_over old printed new outcome (Some t) h same = (same, h)

  pub made_full : (old new : Text) (cells : ℕ) (o : Option States) → Counts (IsBeyond cap (W.Beyond cells)) o → new ≡ old → MadeSo names cap (Ok (M.Full cells)) l old new s o
  made_full old new cells None h same = tt
  made_full old new cells (Some t) h same = (same, h.0, h.1)

  -- the same where nothing ran
  pub turned_on : (old printed new : Text) (cells greatest : ℕ) (o : Option States) → printed ≡ new → CameTo names X.On l printed s o
      → ((t : States) → Stands names l printed t → cells ≡ min (live_cells t) greatest) → cap < greatest → Counts (λ n. n ≤ cap) o → MadeSo names cap (Ok (M.On cells)) l old new s o
  turned_on old printed new cells greatest None e h counted small le = tt
  turned_on old printed new cells greatest (Some t) e h counted small le =
      let is = counted t h in
      (subst (λ p. Stands names l p t) e h, omega (arith, is, small, le), omega (arith, is, small, le))

  pub turned_over : (old printed new : Text) (outcome : Outcome) (o : Option States) → CameTo names (X.Over outcome) l printed s o → new ≡ old → MadeSo names cap (Ok (M.Over outcome)) l old new s o
  turned_over old printed new outcome None h same = tt
  turned_over old printed new outcome (Some t) h same = (same, h)

  pub turned_broke : (old printed new : Text) (fault : Fault) (f : Name) (o : Option States) → printed ≡ new → CameTo names (X.Broke fault f) l printed s o → MadeSo names cap (Ok (M.Broke fault f)) l old new s o
  turned_broke old printed new fault f None e h = tt
  turned_broke old printed new fault f (Some t) e h = subst (λ p. Breaks names fault f l.trace p s t) e h
