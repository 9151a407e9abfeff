-- A section from its first frame on, step by step.
use Rattle.std.proofs.Common.{◌≡◌, ℕ, suc, ◌+◌, ◌-◌, ◌<◌, ◌≤◌, Bool, false, ◌==◌, List, [], ◌∷◌, length, Option, Some, None, Result, Ok, Err, refl, sym, ap, subst, ◌∙◌, arith}
use Rattle.std.specs.Prelude.{IfOk}
use Rattle.std.proofs.Math.Dec.{eqb-suc-zero}
use Rattle.cpc_base.specs.Bytes.{Text}
use Rattle.cpc_base.specs.declared.names.Name.{Name}
use Rattle.cpc_tree.specs.Erase.{Names}
use Rattle.cpc_tree.specs.Lists.{is_empty}
use Rattle.cpc_tree.specs.Points.{Point}
use Rattle.cpc_tree.specs.Syntax.{Function, Program}
use Rattle.cpc_tree.specs.Typing.{function_named}
use Rattle.cpc_num.specs.declared.kinds.Fault.{Fault}
use Rattle.cpc_num.specs.declared.kinds.Fault.TheVariants as F
use Rattle.cpc_store.specs.Store.{Value, Store, alloc, empty_store}
use Rattle.cpc_store.specs.declared.values.Class.TheVariants.{Static}
use Rattle.cpc_store.specs.declared.values.Value as V
use Rattle.cpc_meaning.specs.Answer.{Answer, Gives, Faults, NoAnswer}
use Rattle.cpc_meaning.specs.Plain.{Frame, Stack, stack_of, make_frame}
use Rattle.cpc_meaning.specs.Section.{Job, section_run, section_from, section_frame, section_end, copy_store, copy_pointer}
use Rattle.cpc_meaning.specs.Trees.{trees}
use Rattle.cpc_eval_values.specs.Shown.{values_of, store_of}
use Rattle.cpc_eval_index.specs.Indexed.{items_of}
use Rattle.cpc_native.specs.declared.machine.Machine.{Machine}
use Rattle.cpc_native.specs.Stacks.{stack_of as machine_stack}
use Rattle.cpc_native.proofs.Stepping.{frame_never_fails}
use Rattle.cpc_native.proofs.Same.{runs_same}
use Rattle.cpc_sections.specs.Jobs.{EndsAs}
use Rattle.cpc_sections.specs.declared.job.SectionEnd as E
use Rattle.cpc_sections.specs.declared.job.SectionEnd.TheVariants as D
use Rattle.cpc_native_sections.specs.Led.{Rest, LeadsTo, IsRunning, step_of, run_of}

-- ---- the first frame

-- where the stack and the store are those of the first frame, what they come to is what the section comes to
module _ (names : Names) (p : Program) (job : Job) (bound : ℕ) (end : E.SectionEnd) (k : Stack Point) (s : Store) where
  abbrev First : Type 0
  First = (g : Function) (a : Frame Point × Store) → function_named p job.function ≡ Some g → make_frame (trees p) g (copy_pointer job.cells ∷ job.arguments) (copy_store job.cells) ≡ Gives a
      → (k ≡ stack_of a.0) × (s ≡ a.1)

  abbrev Runs_so : Store → Stack Point → Type 0
  Runs_so t j = EndsAs names end (section_run (trees p) job.function (is_empty job.cells) bound t j)

  made : (a : Answer (Frame Point × Store)) → ((fault : Fault) → a ≡ Faults fault → ⊥) → ((b : Frame Point × Store) → a ≡ Gives b → (k ≡ stack_of b.0) × (s ≡ b.1)) → Runs_so s k → EndsAs names end (section_from (trees p) job bound a)
  made NoAnswer none first h = tt
  made (Faults fault) none first h = absurd (none fault refl)
  made (Gives (frame, t)) none first h =
      let e = first (frame, t) refl in
      subst (λ j. Runs_so t j) e.0 (subst (λ u. Runs_so u k) e.1 h)

  called : (o : Option Function) → function_named p job.function ≡ o → First → Runs_so s k → EndsAs names end (section_from (trees p) job bound (section_frame (trees p) job o))
  called None e first h = tt
  called (Some g) e first h =
      made (make_frame (trees p) g (copy_pointer job.cells ∷ job.arguments) (copy_store job.cells)) (frame_never_fails p g (copy_pointer job.cells ∷ job.arguments) (copy_store job.cells))
      (λ b. first g b e) h

  pub begun : First → Runs_so s k → EndsAs names end (section_end (trees p) job bound)
  begun first h = called (function_named p job.function) refl first h

-- the same of the machine in which the function was called, whose program is that of the job
pub begun_in : (names : Names) (p q : Program) (job : Job) (bound : ℕ) (end : E.SectionEnd) (vs : List Value) (t s : Store) (k : Stack Point) → q ≡ p
    → vs ≡ copy_pointer job.cells ∷ job.arguments → t ≡ copy_store job.cells
    → ((g : Function) (a : Frame Point × Store) → function_named q job.function ≡ Some g → make_frame (trees q) g vs t ≡ Gives a → (k ≡ stack_of a.0) × (s ≡ a.1))
    → EndsAs names end (section_run (trees q) job.function (is_empty job.cells) bound s k) → EndsAs names end (section_end (trees p) job bound)
begun_in names p q job bound end vs t s k e row store called h =
    let first = copy_pointer job.cells ∷ job.arguments in
    subst (λ x. EndsAs names end (section_end (trees x) job bound)) e
    (begun names q job bound end k s (λ g a named made. called g a named (ap (λ ws. make_frame (trees q) g ws t) row ∙ ap (make_frame (trees q) g first) store ∙ made)) h)

-- ---- step by step

module _ (names : Names) (m new : Machine) (f : Text) (no_copy : Bool) (bound step : ℕ) where
  abbrev after : Rest
  after t j = section_run (trees (items_of names m.index)) f no_copy (bound - (step + 1)) t j

  one_less : step < bound → bound - step ≡ suc (bound - (step + 1))
  one_less lt = omega (arith, lt)

  -- what ends in a step ends as the whole
  pub ends_in_step : (end : E.SectionEnd) → step < bound → LeadsTo names new (Some end) (step_of names m f no_copy) → EndsAs names end (run_of names m f no_copy (bound - step))
  ends_in_step end lt led = subst (λ n. EndsAs names end (run_of names m f no_copy n)) (sym (one_less lt)) (led after)

  -- what goes on after a step ends as the whole
  pub goes_after_step : (end : E.SectionEnd) → step < bound → LeadsTo names new None (step_of names m f no_copy) → new.index ≡ m.index → EndsAs names end (run_of names new f no_copy (bound - (step + 1)))
      → EndsAs names end (run_of names m f no_copy (bound - step))
  goes_after_step end lt led index h =
      subst (λ n. EndsAs names end (run_of names m f no_copy n)) (sym (one_less lt))
      (led after end (subst (λ i. EndsAs names end (section_run (trees (items_of names i)) f no_copy (bound - (step + 1)) (store_of names new.store) (machine_stack names new))) index h))

-- no step is left
pub ends_late : (names : Names) (m : Machine) (f : Name) (no_copy : Bool) (bound step : ℕ) → bound ≤ step → EndsAs names (D.Faulted F.SectionSteps f) (run_of names m (names f) no_copy (bound - step))
ends_late names m f no_copy bound step le =
    let none : 0 ≡ bound - step = omega (arith, le) in
    subst (λ n. EndsAs names (D.Faulted F.SectionSteps f) (run_of names m (names f) no_copy n)) none refl

-- ---- tables and programs

-- another state of a machine of which it is said how its code runs
pub still_running : (names : Names) (old new : Machine) → new.index ≡ old.index → new.texts ≡ old.texts → IsRunning names old → IsRunning names new
still_running names old new index texts h = runs_same names old.texts.now new.texts.now (items_of names old.index) (items_of names new.index) (ap (λ t. t.now) texts) (ap (items_of names) index) h

-- two facts about a result give a third
pub from_both : {A B : Type 0} (r : Result A B) {P Q R : A → Type 0} → ((x : A) → P x → Q x → R x) → IfOk r P → IfOk r Q → IfOk r R
from_both (Ok x) f h k = f x h k
from_both (Err e) f h k = tt

-- no cells, and no values
pub none_there : (names : Names) (xs : List V.Value) → (length xs == 0) ≡ is_empty (values_of names xs)
none_there names [] = refl
none_there names (x ∷ xs) = eqb-suc-zero (length xs)

-- the first store, where there are cells
pub store_made : (names : Names) (xs : List V.Value) → false ≡ (length xs == 0) → alloc Static (values_of names xs) empty_store ≡ copy_store (values_of names xs)
store_made names [] e = absurd cc
store_made names (x ∷ xs) e = refl
