-- Lists of the loop whose items correspond: a turn of the ones is a turn of the others, and no act but a section's lets a section wait.
use Rattle.std.proofs.Common.{◌≡◌, ◌==◌, not, ℕ, ℤ, pos, Bool, true, false, List, [], ◌∷◌, map, length, Option, Some, None, Result, Ok, Err, refl, sym, ap, subst, ◌∙◌, cond}
use Rattle.std.specs.Prelude.{int_lt}
use Rattle.cpc_base.specs.declared.poll.Event.{Event}
use Rattle.cpc_base.specs.declared.poll.Event.TheVariants.{Done, Ready}
use Rattle.cpc_num.specs.declared.kinds.Fault.{Fault}
use Rattle.cpc_num.specs.declared.kinds.Fault.TheVariants as F
use Rattle.cpc_store.specs.Store.{Value}
use Rattle.cpc_tree.specs.Lists.{is_empty, holds_number}
use Rattle.cpc_tree.specs.Trace.{Told}
use Rattle.cpc_meaning.specs.Agenda.{Agenda, OnSection, begin_round, needs_poll, completed, out, not_out, without, finish_section, finish_sections, wake_all, wake, poll, where_live, cond_free, wait, signal, signal_all, sleep, first_passing, waits_on}
use Rattle.cpc_meaning.proofs.Agendas.{SameAgenda, SameResult, BothOk, BothErr, begins, polls_same, polled, outs}
use Rattle.cpc_meaning.proofs.Both.{both_empty, both_length}
use Rattle.cpc_agenda_turns.specs.Turns.{Turn, Round, Poll, Ended, HistoryEnded, BadHistory, TurnIs}
use Rattle.cpc_run_jobs.specs.Holding.{left_out}

-- ---- turns

module _ {T U : Type 0} (R : T → U → Type 0) (a : Agenda T) (x : Agenda U) (g : SameAgenda R a x) where
  needs_same : (b : Bool) → needs_poll a ≡ b → needs_poll x ≡ b
  needs_same b h = sym (polls_same R a x g) ∙ h

  ready_same : (b : Bool) → is_empty a.ready ≡ b → is_empty x.ready ≡ b
  ready_same b h = sym (both_empty _ _ g.ready) ∙ h

  out_same : (told : Told) (o : Option ℕ) → not_out (completed told.events) (out a) ≡ o → not_out (completed told.events) (out x) ≡ o
  out_same told o h = ap (not_out (completed told.events)) (sym (outs R a.sections x.sections g.sections)) ∙ h

  -- the others as they were
  as_before : (b : Agenda T) → b ≡ a → SameAgenda R b x
  as_before b e = subst (λ z. SameAgenda R z x) (sym e) g

  -- a turn of the ones is a turn of the others
  pub turn_same : (t : Turn) (polls : List Told) (b : Agenda T) → TurnIs t a polls b → (y : Agenda U) × SameAgenda R b y × TurnIs t x polls y
  turn_same Round polls b h = (
    begin_round x,
    subst (λ z. SameAgenda R z (begin_round x)) (sym h.begun) (begins R a x g),
    record { needs = needs_same false h.needs; ready = ready_same false h.ready; begun = refl },
  )
  turn_same (Poll told) polls b h = (x, as_before b h.1, (record { needs = needs_same true h.0.needs; left = h.0.left; next = h.0.next; all_out = out_same told None h.0.all_out }, refl))
  turn_same (Ended n) polls b h = (x, as_before b h.1, (record { needs = needs_same false h.0.needs; ready = ready_same true h.0.ready; waiting = h.0.waiting ∙ both_length _ _ g.waiters }, refl))
  turn_same HistoryEnded polls b h = (x, as_before b h.1, (record { needs = needs_same true h.0.needs; none = h.0.none }, refl))
  turn_same (BadHistory n) polls b h = (
    x,
    as_before b h.1,
    (record { needs = needs_same true h.0.needs; told = h.0.told; left = h.0.left; next = h.0.next; not_there = out_same h.0.told (Some n) h.0.not_there }, refl),
  )

  -- a poll that the ones take is one that the others take
  pub poll_same : (told : Told) (vs : List Value) (b : Agenda T) → b ≡ begin_round (poll told vs a) → SameAgenda R b (begin_round (poll told vs x))
  poll_same told vs b e = subst (λ z. SameAgenda R z (begin_round (poll told vs x))) (sym e) (begins R _ _ (polled R told vs a x g))

-- ---- sections

-- a round has as many sections waiting as the lists had before it
pub round_out : {T : Type 0} (a b : Agenda T) → b ≡ begin_round a → out b ≡ out a
round_out a b e = ap (λ z. out z) e

pub round_made : {T : Type 0} (a b : Agenda T) → b ≡ begin_round a → b.sections_made ≡ a.sections_made
round_made a b e = ap (λ z. Agenda.sections_made z) e

module _ {T : Type 0} where
  -- without the sections of a number
  without_out : (n : ℕ) (xs : List (OnSection T)) → map (λ s. s.section) (without (λ s. s.section == n) xs) ≡ without (λ m. m == n) (map (λ s. s.section) xs)
  without_out n [] = refl
  without_out n (x ∷ xs) = go (x.section == n) (without_out n xs)
    where
      go : (b : Bool) → map (λ (s : OnSection T). s.section) (without (λ s. s.section == n) xs) ≡ without (λ m. m == n) (map (λ (s : OnSection T). s.section) xs)
          → map (λ (s : OnSection T). s.section) (cond (not b) (x ∷ without (λ s. s.section == n) xs) (without (λ s. s.section == n) xs))
          ≡ cond (not b) (x.section ∷ without (λ m. m == n) (map (λ (s : OnSection T). s.section) xs)) (without (λ m. m == n) (map (λ (s : OnSection T). s.section) xs))
      go true rest = rest
      go false rest = ap (λ ys. x.section ∷ ys) rest

  finished_out : (ns : List ℕ) (vs : List Value) (a : Agenda T) → length vs ≡ length ns → out (finish_sections ns vs a) ≡ left_out ns (out a)
  finished_out [] vs a e = refl
  finished_out (n ∷ ns) [] a e = absurd (cc e)
  finished_out (n ∷ ns) (v ∷ vs) a e = finished_out ns vs (finish_section n v a) (cc e) ∙ ap (left_out ns) (without_out n a.sections)

  finished_made : (ns : List ℕ) (vs : List Value) (a : Agenda T) → (finish_sections ns vs a).sections_made ≡ a.sections_made
  finished_made [] vs a = refl
  finished_made (n ∷ ns) [] a = refl
  finished_made (n ∷ ns) (v ∷ vs) a = finished_made ns vs (finish_section n v a)

  woken_out : (es : List Event) (a : Agenda T) → out (wake_all es a) ≡ out a
  woken_out [] a = refl
  woken_out (Done n ∷ es) a = woken_out es a
  woken_out (Ready fd way ∷ es) a = woken_out es (wake (Ready fd way) a)

  woken_made : (es : List Event) (a : Agenda T) → (wake_all es a).sections_made ≡ a.sections_made
  woken_made [] a = refl
  woken_made (Done n ∷ es) a = woken_made es a
  woken_made (Ready fd way ∷ es) a = woken_made es (wake (Ready fd way) a)

  -- what is out after a poll with a value for each section that it tells
  pub polled_out : (told : Told) (vs : List Value) (a : Agenda T) → length vs ≡ length (completed told.events) → out (begin_round (poll told vs a)) ≡ left_out (completed told.events) (out a)
  polled_out told vs a e = woken_out told.events (finish_sections (completed told.events) vs (record a { now = _ })) ∙ finished_out (completed told.events) vs (record a { now = _ }) e

  pub polled_made : (told : Told) (vs : List Value) (a : Agenda T) → (begin_round (poll told vs a)).sections_made ≡ a.sections_made
  polled_made told vs a = woken_made told.events (finish_sections (completed told.events) vs (record a { now = _ })) ∙ finished_made (completed told.events) vs (record a { now = _ })

  -- an act, where it is not refused, lets as many sections wait as before
  abbrev pub KeepsSections : Agenda T → Result (Agenda T) Fault → Type 0
  KeepsSections a (Ok b) = (b.sections ≡ a.sections) × (b.sections_made ≡ a.sections_made)
  KeepsSections a (Err fault) = Unit {0}

  either : (a : Agenda T) (x y : Result (Agenda T) Fault) (b : Bool) → KeepsSections a x → KeepsSections a y → KeepsSections a (cond b x y)
  either a x y true h k = h
  either a x y false h k = k

  where_live_keeps : (c : ℕ) (a b : Agenda T) → (b.sections ≡ a.sections) × (b.sections_made ≡ a.sections_made) → KeepsSections a (where_live c a b)
  where_live_keeps c a b h = either a (Ok b) (Err F.CondVar) (holds_number a.live c) h tt

  pub wait_keeps : (c : ℕ) (item : T) (a : Agenda T) → KeepsSections a (wait c item a)
  wait_keeps c item a = where_live_keeps c a _ (refl, refl)

  pub signal_keeps : (c : ℕ) (a : Agenda T) → KeepsSections a (signal c a)
  signal_keeps c a = where_live_keeps c a _ (refl, refl)

  pub signal_all_keeps : (c : ℕ) (a : Agenda T) → KeepsSections a (signal_all c a)
  signal_all_keeps c a = where_live_keeps c a _ (refl, refl)

  pub cond_free_keeps : (c : ℕ) (a : Agenda T) → KeepsSections a (cond_free c a)
  cond_free_keeps c a = either a _ (Err F.CondVar) (is_empty (first_passing (waits_on c) a.waiters)) (where_live_keeps c a _ (refl, refl)) tt

  pub sleep_keeps : (z : ℤ) (item : T) (a : Agenda T) → KeepsSections a (sleep z item a)
  sleep_keeps z item a = either a (Err F.Length) (Ok _) (int_lt z (pos 0)) tt (refl, refl)

-- ---- results

-- what an act that was done came to
ok_is : {X E : Type 0} (u : Result X E) (x y : X) → u ≡ Ok x → u ≡ Ok y → x ≡ y
ok_is u x y e f = cc (e, f)

err_is : {X E : Type 0} (u : Result X E) (x y : E) → u ≡ Err x → u ≡ Err y → x ≡ y
err_is u x y e f = cc (e, f)

module _ {T U : Type 0} (R : T → U → Type 0) where
  pub ok_same : (u : Result (Agenda T) Fault) (v : Result (Agenda U) Fault) → SameResult R u v → (a : Agenda T) → u ≡ Ok a → (b : Agenda U) × (v ≡ Ok b) × SameAgenda R a b
  ok_same u _ (BothOk c b g) a e = (b, refl, subst (λ z. SameAgenda R z b) (ok_is u c a refl e) g)
  ok_same _ _ (BothErr fault) a e = absurd (cc e)

  pub err_same : (u : Result (Agenda T) Fault) (v : Result (Agenda U) Fault) → SameResult R u v → (fault : Fault) → u ≡ Err fault → v ≡ Err fault
  err_same _ _ (BothOk c b g) fault e = absurd (cc e)
  err_same u _ (BothErr other) fault e = ap Err (err_is u other fault refl e)
