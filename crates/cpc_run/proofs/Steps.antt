-- A step is what runs, or what is taken.
use Rattle.std.proofs.Common.{◌≡◌, ℕ, true, false, List, [], ◌∷◌, Option, Some, None, Result, Ok, Err, refl, sym, ap, subst, ◌∙◌}
use Rattle.cpc_base.specs.Bytes.{Text}
use Rattle.cpc_base.specs.declared.names.Name.{Name}
use Rattle.cpc_base.specs.declared.stop.NoMemory.{NoMemory}
use Rattle.cpc_num.specs.declared.kinds.Fault.{Fault}
use Rattle.cpc_num.specs.declared.kinds.Kind.TheVariants.{Int}
use Rattle.cpc_tree.specs.Erase.{Names}
use Rattle.cpc_tree.specs.Points.{Point}
use Rattle.cpc_tree.specs.Syntax.{TyInt}
use Rattle.cpc_tree.specs.Trace as T
use Rattle.cpc_store.specs.declared.values.Value.{Value}
use Rattle.cpc_store.specs.Store as S
use Rattle.cpc_meaning.specs.Agenda as A
use Rattle.cpc_meaning.specs.Answer.{Answer, Gives, Faults, NoAnswer, ◌>>=◌}
use Rattle.cpc_meaning.specs.Eval.{assigned}
use Rattle.cpc_meaning.specs.Events.{Callback, CallWith, callbacks, starts_callback}
use Rattle.cpc_meaning.specs.Machine.{ends, fault_function, settled, schedules, step_running, try_step, code_step, runs_on, asked_by, runs, with_agenda}
use Rattle.cpc_meaning.specs.Plain.{Done, Asks, plain, running_function}
use Rattle.cpc_meaning.specs.Runs.{live_cells}
use Rattle.cpc_meaning.specs.Start.{before_underscores}
use Rattle.cpc_meaning.specs.Requests.{Request}
use Rattle.cpc_meaning.specs.Trees.{trees}
use Rattle.cpc_meaning.proofs.Agendas.{SameAgenda, SameDue}
use Rattle.cpc_meaning.proofs.Both.{Both, Ends, Goes}
use Rattle.cpc_agenda.specs.Lists.{due_of}
use Rattle.cpc_eval_values.specs.Shown.{value_of}
use Rattle.cpc_run_code.specs.declared.items.Item.{Item}
use Rattle.cpc_run.specs.declared.looped.Loop.{Loop}
use Rattle.cpc_run_shown.specs.declared.outcome.Outcome.{Outcome}
use Rattle.cpc_run_shown.specs.declared.outcome.Outcome.TheVariants as O
use Rattle.cpc_run.specs.declared.step.Step.TheVariants as X
use Rattle.cpc_run.specs.Shorts.{Counts}
use Rattle.cpc_run_code.specs.Code.{items_in, store_in, stack_in, Same}
use Rattle.cpc_run_shown.specs.Shown.{shown}
use Rattle.cpc_run.specs.States.{States, IsCallback, HasLists, Stands, Came, Did, CameTo, callback_of, lists_in, settles, where_running, program_in}
use Rattle.cpc_run.proofs.Asks.{same_agenda}

-- where no rule fits nothing is said
pub nothing : {E : Type 0} (names : Names) (r : Result (Option Outcome) E) (new : Loop) (printed : Text) (s : States) → Did names r new printed s None
nothing names (Ok r) new printed s = tt
nothing names (Err e) new printed s = tt

-- ---- a callback

pub calls_with : (names : Names) (l new : Loop) (printed : Text) (s : States) (f : Text) (pointer v w : S.Value) → ((x : S.Value) → assigned (TyInt Int) v ≡ Gives x → w ≡ x)
    → CameTo names X.On new printed s (settles names l s (runs (trees (program_in names l)) f (pointer ∷ w ∷ []) s))
    → CameTo names X.On new printed s (settles names l s (starts_callback (trees (program_in names l)) (CallWith f pointer) v s))
calls_with names l new printed s f pointer S.Unset w e h = subst (λ x. CameTo names X.On new printed s (settles names l s (runs (trees (program_in names l)) f (pointer ∷ x ∷ []) s))) (e S.Unset refl) h
calls_with names l new printed s f pointer (S.Whole kind z) w e h = subst (λ x. CameTo names X.On new printed s (settles names l s (runs (trees (program_in names l)) f (pointer ∷ x ∷ []) s))) (e _ refl) h
calls_with names l new printed s f pointer S.Null w e h = tt
calls_with names l new printed s f pointer (S.At c n k) w e h = tt
calls_with names l new printed s f pointer (S.Code g) w e h = tt
calls_with names l new printed s f pointer (S.Cond n) w e h = tt

-- ---- what the code asks for

done_so : (names : Names) (r : Result (Option Outcome) NoMemory) (l new : Loop) (printed : Text) (s : States) (request : Request) (a : Answer (Done Point)) → Same (Ok (Asks request)) a
    → Did names r new printed s (settles names l s (asked_by (callbacks (program_in names l)) (stack_in names l.machine) s request.asked request.arguments))
    → Did names r new printed s (settles names l s (a >>= runs_on (callbacks (program_in names l)) s (stack_in names l.machine)))
done_so names r l new printed s request NoAnswer e h = nothing names r new printed s
done_so names r l new printed s request (Faults fault) e h = absurd (cc e)
done_so names r l new printed s request (Gives d) e h =
    let same : Asks request ≡ d = cc e in
    subst (λ d. Did names r new printed s (settles names l s (runs_on (callbacks (program_in names l)) s (stack_in names l.machine) d))) same h

pub asked_so : (names : Names) (r : Result (Option Outcome) NoMemory) (l mid new : Loop) (before printed : Text) (s : States) (request : Request) → Stands names l before s
    → program_in names mid ≡ program_in names l → stack_in names mid.machine ≡ stack_in names l.machine
    → Same (Ok (Asks request)) (plain (trees (program_in names l)) (store_in names l.machine) (stack_in names l.machine))
    → Did names r new printed s (settles names mid s (asked_by (callbacks (program_in names mid)) (stack_in names mid.machine) s request.asked request.arguments))
    → Did names r new printed s (settles names l s (code_step (callbacks (program_in names l)) s (stack_in names l.machine)))
asked_so names r l mid new before printed s request stands program stack e h =
    let k = stack_in names l.machine in
    done_so names r l new printed s request (plain (trees (program_in names l)) s.store k) (subst (λ t. Same (Ok (Asks request)) (plain (trees (program_in names l)) t k)) (sym stands.store) e)
    (subst (λ p. Did names r new printed s (settled (callbacks p) s (asked_by (callbacks p) k s request.asked request.arguments))) program
    (subst (λ j. Did names r new printed s (settled (callbacks (program_in names mid)) s (asked_by (callbacks (program_in names mid)) j s request.asked request.arguments))) stack h))

-- ---- a fault of the code

failed_so : (names : Names) (l new : Loop) (printed : Text) (s : States) (fault : Fault) (f : Name) (a : Answer (Done Point)) → Same (Err fault) a → names f ≡ running_function (stack_in names l.machine) → s.running ≡ Some (stack_in names l.machine)
    → Came names (Some (O.Failed fault f)) new printed s (settles names l s (a >>= runs_on (callbacks (program_in names l)) s (stack_in names l.machine)))
failed_so names l new printed s fault f NoAnswer e name running = tt
failed_so names l new printed s fault f (Gives d) e name running = absurd (cc e)
failed_so names l new printed s fault f (Faults other) e name running =
    let same : other ≡ fault = cc e in
    ap (λ x. ends (T.Failed x (before_underscores (fault_function s.running))) s) same ∙ ap (λ x. ends (T.Failed fault (before_underscores x)) s) (ap fault_function running ∙ sym name)

pub faulted_so : (names : Names) (l new : Loop) (before printed : Text) (s : States) (fault : Fault) (f : Name) → Stands names l before s → l.running ≡ true
    → names f ≡ running_function (stack_in names l.machine) → Same (Err fault) (plain (trees (program_in names l)) (store_in names l.machine) (stack_in names l.machine))
    → Came names (Some (O.Failed fault f)) new printed s (settles names l s (code_step (callbacks (program_in names l)) s (stack_in names l.machine)))
faulted_so names l new before printed s fault f stands running name e =
    let k = stack_in names l.machine in
    failed_so names l new printed s fault f (plain (trees (program_in names l)) s.store k) (subst (λ t. Same (Err fault) (plain (trees (program_in names l)) t k)) (sym stands.store) e) name
    (stands.running ∙ ap (λ b. where_running b k) running)

-- a step in which code runs
pub code_step_is : (names : Names) (l : Loop) (s : States) → s.running ≡ Some (stack_in names l.machine)
    → settles names l s (code_step (callbacks (program_in names l)) s (stack_in names l.machine)) ≡ try_step (callbacks (program_in names l)) s
code_step_is names l s running = let m = callbacks (program_in names l) in sym (ap (λ o. settled m s (step_running m s o)) running)

-- ---- what is taken

-- a step that goes on does so from either state
from_either : (names : Names) (l new : Loop) (printed : Text) (s t : States) (a : Answer States) → CameTo names X.On new printed t (settles names l t a) → CameTo names X.On new printed s (settles names l s a)
from_either names l new printed s t NoAnswer h = tt
from_either names l new printed s t (Gives u) h = h
from_either names l new printed s t (Faults fault) h = absurd (let going = h.going in cc)

-- the live cells are the same from either state
counts_either : (P : ℕ → Type 0) (names : Names) (l : Loop) (s t : States) (a : Answer States) → live_cells t ≡ live_cells s → Counts P (settles names l t a) → Counts P (settles names l s a)
counts_either P names l s t NoAnswer live h = tt
counts_either P names l s t (Gives u) live h = h
counts_either P names l s t (Faults fault) live h = subst P live h

-- what stands first in the ones stands first in the others
module _ {X Y : Type 0} (R : X → Y → Type 0) where
  cons_is : (x d : X) (xs ds : List X) → x ∷ xs ≡ d ∷ ds → (x ≡ d) × (xs ≡ ds)
  cons_is x d xs ds e = (cc e, cc e)

  first_of : (xs : List X) (ys : List Y) (d : X) (ds : List X) → Both R xs ys → xs ≡ d ∷ ds → (e : Y) × (es : List Y) × (ys ≡ e ∷ es) × R d e × Both R ds es
  first_of _ _ d ds Ends h = absurd (cc h)
  first_of _ _ d ds (Goes x y xs ys r b) h =
      let same = cons_is x d xs ds h in
      (y, ys, refl, subst (λ z. R z y) same.0 r, subst (λ zs. Both R zs ys) same.1 b)

module _ (names : Names) (l mid : Loop) (before : Text) (s : States) (item : Item) (v : Value) where
  abbrev it : A.Due Callback
  it = record { item = callback_of names item; result = value_of names v }

  -- the item is taken
  abbrev Taken : Type 0
  Taken = lists_in names l ≡ record (lists_in names mid) { round = due_of names (item, v) ∷ (lists_in names mid).round }

  -- it is the first of the state's round, and the lists without it are those without it
  record First : Type 0 where
    pub rest : List (A.Due Callback)
    pub is : s.agenda.round ≡ it ∷ rest
    pub lists : HasLists names mid (with_agenda s (record s.agenda { round = rest }))

  first : HasLists names l s → Taken → mid.turns.polls.now ≡ l.turns.polls.now → mid.jobs ≡ l.jobs → First
  first h e polls jobs =
      let moved : SameAgenda (IsCallback names) (record (lists_in names mid) { round = due_of names (item, v) ∷ (lists_in names mid).round }) s.agenda =
      subst (λ a. SameAgenda (IsCallback names) a s.agenda) e h.agenda in
      let (due, rest, is, same, others) = first_of (SameDue (IsCallback names)) _ s.agenda.round (due_of names (item, v)) (lists_in names mid).round moved.round refl in
      let named : due ≡ it = ap (λ x. record { item = x; result = due.result }) (sym same.item) ∙ ap (λ x. record { item = callback_of names item; result = x }) (sym same.result) in
      record {
        rest = rest;
        is = is ∙ ap (λ d. d ∷ rest) named;
        lists = same_agenda names l mid s (record s.agenda { round = rest }) polls jobs
            (record {
              ready = moved.ready;
              round = others;
              waiters = moved.waiters;
              descriptors = moved.descriptors;
              timers = moved.timers;
              sections = moved.sections;
              live = moved.live;
              now = moved.now;
              conditions_made = moved.conditions_made;
              timers_made = moved.timers_made;
              sections_made = moved.sections_made;
            }) (refl, refl) h;
      }

  -- the state without the item
  abbrev without_it : First → States
  without_it f = with_agenda s (record s.agenda { round = f.rest })

  -- what the item comes to
  abbrev begins : Loop → States → Answer States
  begins at t = starts_callback (trees (program_in names at)) (callback_of names item) (value_of names v) t

  rest_stands : Stands names l before s → l.running ≡ false → mid.machine ≡ l.machine → mid.running ≡ false → mid.trace ≡ l.trace → (f : First) → Stands names mid before (without_it f)
  rest_stands h idle same still trace f = record {
    store = h.store ∙ ap (store_in names) (sym same);
    running = h.running ∙ ap (λ b. where_running b (stack_in names l.machine)) (idle ∙ sym still) ∙ ap (λ x. where_running mid.running (stack_in names x)) (sym same);
    lists = f.lists;
    printed_so = ap (λ b. shown b s.trace) trace ∙ h.printed_so;
    going = h.going;
  }

  -- the step is what the item comes to
  step_is : Stands names l before s → l.running ≡ false → (f : First) → try_step (callbacks (program_in names l)) s ≡ settled (callbacks (program_in names l)) s (begins l (without_it f))
  step_is h idle f =
      let m = callbacks (program_in names l) in
      ap (λ o. settled m s (step_running m s o)) (h.running ∙ ap (λ b. where_running b (stack_in names l.machine)) idle) ∙ ap (λ r. settled m s (schedules m s r)) f.is

  pub taken : (new : Loop) (printed : Text) → Stands names l before s → l.running ≡ false → mid.machine ≡ l.machine → mid.running ≡ false → mid.trace ≡ l.trace → mid.turns.polls.now ≡ l.turns.polls.now → mid.jobs ≡ l.jobs → Taken
      → ((t : States) → Stands names mid before t → CameTo names X.On new printed t (settles names mid t (begins mid t)))
      → CameTo names X.On new printed s (try_step (callbacks (program_in names l)) s)
  taken new printed h idle same still trace polls jobs e start =
      let f = first h.lists e polls jobs in
      let rest = without_it f in
      let begun = subst (λ x. CameTo names X.On new printed rest (settled (callbacks (items_in names x)) rest (starts_callback (trees (items_in names x)) (callback_of names item) (value_of names v) rest))) same (start rest (rest_stands h idle same still trace f)) in
      subst (λ o. CameTo names X.On new printed s o) (sym (step_is h idle f)) (from_either names l new printed s rest (begins l rest) begun)

  -- and so are its live cells
  pub taken_counts : (P : ℕ → Type 0) → Stands names l before s → l.running ≡ false → mid.machine ≡ l.machine → mid.running ≡ false → mid.trace ≡ l.trace → mid.turns.polls.now ≡ l.turns.polls.now → mid.jobs ≡ l.jobs → Taken
      → ((t : States) → Stands names mid before t → live_cells t ≡ live_cells s → Counts P (settles names mid t (begins mid t)))
      → Counts P (try_step (callbacks (program_in names l)) s)
  taken_counts P h idle same still trace polls jobs e start =
      let f = first h.lists e polls jobs in
      let rest = without_it f in
      let begun = subst (λ x. Counts P (settled (callbacks (items_in names x)) rest (starts_callback (trees (items_in names x)) (callback_of names item) (value_of names v) rest))) same (start rest (rest_stands h idle same still trace f) refl) in
      subst (Counts P) (sym (step_is h idle f)) (counts_either P names l s rest (begins l rest) refl begun)
