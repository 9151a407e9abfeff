-- Steps, and runs, over other polls that begin with those that were taken.
use Rattle.std.proofs.Common.{◌≡◌, ℕ, zero, suc, Bool, true, false, List, [], ◌∷◌, ◌++◌, Option, Some, None, refl, sym, ap, subst, ◌∙◌, append_assoc}
use Rattle.std.proofs.lemmas.List.{append-nil}
use Rattle.cpc_tree.specs.Lists.{is_empty}
use Rattle.cpc_tree.specs.Syntax.{Program}
use Rattle.cpc_tree.specs.Trace.{Told, Polled, Outcome, Going, HistoryEnded, BadHistory}
use Rattle.cpc_meaning.specs.Agenda.{Due, completed, needs_poll, not_out, out}
use Rattle.cpc_meaning.specs.Answer.{Answer, Gives, NoAnswer}
use Rattle.cpc_meaning.specs.Copies.{AllGave, Collected, NotClear, OneFailed, collect}
use Rattle.cpc_meaning.specs.Events.{Callback, callbacks, callbacks_of, event}
use Rattle.cpc_meaning.specs.History.{History}
use Rattle.cpc_meaning.specs.Machine.{State, IsStuck, ends, next_poll, polled, schedules, settled, step, step_running, takes_poll, told_state, try_step, turns_where, unless_over, with_agenda}
use Rattle.cpc_meaning.specs.Plain.{Form, Stack}
use Rattle.cpc_meaning.specs.Trees.{trees}
use Rattle.cpc_meaning_matching.specs.Steps.{or_stay}
use Rattle.cpc_run_history_laws.specs.Laws.{IsServed, polls_of, with_left, with_polls}
use Rattle.cpc_run_history_laws.proofs.Moves.{Moves, BothGive, BothFault, BothStick, Shows, code_moves, polls_more, round_moves, starts_moves}

-- ---- a step

-- a step from s to t, and what a step comes to where other polls are left: more polls are shown, and where these stand before others that are left, it
-- comes to t with those others, unless it is not fine or t ended because of what is next
record Agrees {P : Type 0} (ps : List Told) (Fine : Type 0) (s t : State P Callback) (next : List Told → State P Callback) : Type 0 where
  pub more : List Told
  pub shown_so : polls_of t.trace ≡ polls_of s.trace ++ more
  pub took : s.history.polls ≡ more ++ t.history.polls
  pub same : Fine → IsServed t.outcome → next (more ++ ps) ≡ with_left ps t

module _ {P : Type 0} (p : Form P) (ps : List Told) (s : State P Callback) where
  abbrev S : Type 0
  S = State P Callback

  abbrev shown : List Told
  shown = polls_of s.trace

  -- what an act comes to, and the same one where other polls are left: no poll is taken, or one is, or the run ends because of what is next, or no rule fits
  data Acts : Answer S → (List Told → Answer S) → Type 0 where
    Silent : (a b : Answer S) (f : List Told → Answer S) → Moves ps shown s.history.polls a b → f ps ≡ b → Acts a f
    Takes : (told : Told) (rest : List Told) (t : S) (f : List Told → Answer S) → s.history.polls ≡ told ∷ rest → Shows (shown ++ told ∷ []) rest t → f (told ∷ ps) ≡ Gives (with_left ps t) → Acts (Gives t) f
    Refuses : (o : Outcome) (f : List Told → Answer S) → (IsServed o → ⊥) → Acts (Gives (ends o s)) f
    Sticks : (f : List Told → Answer S) → Acts NoAnswer f

  -- ---- what an act comes to

  module _ (told : Told) (rest : List Told) (first : s.history.polls ≡ told ∷ rest) (f : List Told → Answer S) where
    abbrev Taking : S
    Taking = told_state told rest s

    shows : Shows (shown ++ told ∷ []) rest Taking
    shows = record { shown_so = polls_more s.trace (Polled told); left_so = refl }

    polled_acts : (c : Collected) → f (told ∷ ps) ≡ polled (callbacks_of p) told (with_left ps Taking) c → Acts (polled (callbacks_of p) told Taking c) f
    polled_acts (AllGave vs u) e = Takes told rest _ f first (record { shown_so = shows.shown_so; left_so = shows.left_so }) e
    polled_acts (OneFailed fault g) e = Takes told rest _ f first (record { shown_so = shows.shown_so; left_so = shows.left_so }) e
    polled_acts NotClear e = Sticks f

    taken_acts : (o : Option ℕ) → f (told ∷ ps) ≡ takes_poll (callbacks_of p) (with_left (told ∷ ps) s) told ps o → Acts (takes_poll (callbacks_of p) s told rest o) f
    taken_acts (Some n) e = Refuses (BadHistory n) f (λ i. i)
    taken_acts None e = polled_acts (collect p s.history.section_bound s.jobs (completed told.events) s.store) e

  next_acts : (polls : List Told) → s.history.polls ≡ polls → Acts (next_poll (callbacks_of p) s polls) (λ qs. next_poll (callbacks_of p) (with_left qs s) qs)
  next_acts [] e = Refuses HistoryEnded _ (λ i. i)
  next_acts (told ∷ rest) e = taken_acts told rest e _ (not_out (completed told.events) (out s.agenda)) refl

  turns_acts : (b : Bool) → Acts (turns_where (callbacks_of p) s b) (λ qs. turns_where (callbacks_of p) (with_left qs s) b)
  turns_acts true = next_acts s.history.polls refl
  turns_acts false = Silent _ _ _ (round_moves ps shown s.history.polls p s (is_empty s.agenda.ready) (record { shown_so = refl; left_so = refl })) refl

  schedules_acts : (round : List (Due Callback)) → Acts (schedules (callbacks_of p) s round) (λ qs. schedules (callbacks_of p) (with_left qs s) round)
  schedules_acts [] = turns_acts (needs_poll s.agenda)
  schedules_acts (d ∷ ds) =
      Silent _ _ _ (starts_moves ps shown s.history.polls p d.item d.result (with_agenda s (record s.agenda { round = ds })) (record { shown_so = refl; left_so = refl })) refl

  step_acts : (k : Option (Stack P)) → Acts (step_running (callbacks_of p) s k) (λ qs. step_running (callbacks_of p) (with_left qs s) k)
  step_acts None = schedules_acts s.agenda.round
  step_acts (Some k) = Silent _ _ _ (code_moves ps shown s.history.polls p s k (record { shown_so = refl; left_so = refl })) refl

  -- ---- what a step comes to

  -- the state after an act
  abbrev So : S → Answer S → S
  So t a = or_stay t (settled (callbacks_of p) t a)

  abbrev Goes : Answer S → Type 0
  Goes a = settled (callbacks_of p) s a ≡ None → ⊥

  silent : (F : Type 0) (a b : Answer S) (f : List Told → Answer S) → Moves ps shown s.history.polls a b → f ps ≡ b → Agrees ps F s (So s a) (λ qs. So (with_left qs s) (f qs))
  silent F _ _ f (BothGive t h) e = record { more = []; shown_so = h.shown_so ∙ sym (append-nil shown); took = sym h.left_so; same = λ x i. ap (So (with_left ps s)) e }
  silent F _ _ f (BothFault fault) e = record { more = []; shown_so = sym (append-nil shown); took = refl; same = λ x i. ap (So (with_left ps s)) e }
  silent F _ _ f BothStick e = record { more = []; shown_so = sym (append-nil shown); took = refl; same = λ x i. ap (So (with_left ps s)) e }

  settle : (a : Answer S) (f : List Told → Answer S) → Acts a f → Agrees ps (Goes a) s (So s a) (λ qs. So (with_left qs s) (f qs))
  settle _ _ (Silent a b f h e) = silent (Goes a) a b f h e
  settle _ _ (Takes told rest t f first h e) = record { more = told ∷ []; shown_so = h.shown_so; took = first ∙ ap (λ x. told ∷ x) (sym h.left_so); same = λ x i. ap (So (with_left (told ∷ ps) s)) e }
  settle _ _ (Refuses o f ends_so) = record { more = []; shown_so = sym (append-nil shown); took = refl; same = λ x i. absurd (ends_so i) }
  settle _ _ (Sticks f) = record { more = []; shown_so = sym (append-nil shown); took = refl; same = λ x i. absurd (x refl) }

  -- a step by how the run stands
  abbrev Goes_on : Outcome → Type 0
  Goes_on o = o ≡ Going → try_step (callbacks_of p) s ≡ None → ⊥

  stepped : (o : Outcome) → Agrees ps (Goes_on o) s (or_stay s (unless_over o (try_step (callbacks_of p) s))) (λ qs. or_stay (with_left qs s) (unless_over o (try_step (callbacks_of p) (with_left qs s))))
  stepped Going =
      let a = settle (step_running (callbacks_of p) s s.running) _ (step_acts s.running) in
      record { more = a.more; shown_so = a.shown_so; took = a.took; same = λ x i. a.same (x refl) i }
  stepped _ = record { more = []; shown_so = sym (append-nil shown); took = refl; same = λ x i. refl }

  -- a run that ended because of what is next stays so
  served : (o : Outcome) → s.outcome ≡ o → IsServed (or_stay s (unless_over o (try_step (callbacks_of p) s))).outcome → IsServed o
  served HistoryEnded e i = subst IsServed e i
  served (BadHistory n) e i = subst IsServed e i
  served _ e i = tt

-- ---- runs

pub polls_shown : (q : Program) (h : History) (n : ℕ) → polls_of (event q h n).trace ++ (event q h n).history.polls ≡ h.polls
polls_shown q h zero = refl
polls_shown q h (suc n) =
    let s = event q h n in
    let t = event q h (suc n) in
    let a = stepped (trees q) [] s s.outcome in
    ap (λ x. x ++ t.history.polls) a.shown_so ∙ append_assoc (polls_of s.trace) a.more t.history.polls ∙ ap (λ x. polls_of s.trace ++ x) (sym a.took) ∙ polls_shown q h n

pub shown_polls_suffice : (q : Program) (h : History) (n : ℕ) (polls : List Told) → ((m : ℕ) → ¬ IsStuck (callbacks q) (event q h m)) → IsServed (event q h n).outcome
    → event q (with_polls h (polls_of (event q h n).trace ++ polls)) n ≡ with_left polls (event q h n)
shown_polls_suffice q h zero polls stuck i = refl
shown_polls_suffice q h (suc n) polls stuck i =
    let s = event q h n in
    let a = stepped (trees q) polls s s.outcome in
    ap (λ x. step (callbacks q) (event q (with_polls h x) n)) (ap (λ x. x ++ polls) a.shown_so ∙ append_assoc (polls_of s.trace) a.more polls)
    ∙ ap (step (callbacks q)) (shown_polls_suffice q h n (a.more ++ polls) stuck (served (trees q) polls s s.outcome refl i))
    ∙ a.same (λ g e. stuck n (g, e)) i
