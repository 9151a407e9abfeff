-- No item is lost or doubled by an act on an agenda: what all items weigh together stays the same, or grows by the item that is put.
use Rattle.std.proofs.Common.{◌≡◌, ℕ, suc, ◌+◌, max, ◌==◌, nat_lt, Bool, true, false, not, ℤ, pos, unsigned_abs, int_lt, List, [], ◌∷◌, ◌++◌, length, map, filter, cond, Ok, Err, refl, sym, ◌∙◌, ap, arith}
use Rattle.cpc_base.specs.declared.poll.Direction.{Direction}
use Rattle.cpc_base.specs.declared.poll.Event.{Event}
use Rattle.cpc_base.specs.declared.poll.Event.TheVariants.{Done, Ready}
use Rattle.cpc_num.specs.declared.kinds.Fault.TheVariants as F
use Rattle.cpc_store.specs.Store.{Value}
use Rattle.cpc_tree.specs.Lists.{is_empty, holds_number}
use Rattle.cpc_tree.specs.Trace.{Told}
use Rattle.cpc_meaning.specs.Agenda.{Due, OnCondition, OnDescriptor, Timer, OnSection, Agenda, due, no_result, ready_all, begin_round, first_passing, without_first, without, waits_on, where_live, cond_free, wait, waiter, signal, signal_all, put_timer, sleep, io, section, finish_section, finish_sections, waits_for, descriptor_waiter, wake, wake_all, is_due, sleeper, ring, poll, completed}
use Rattle.cpc_lifted_laws.specs.Related.Sums.{sum, total}
use Rattle.cpc_lifted_laws.specs.Related.Laws.{ItemsStay}

-- ---- lists

pub sum_append : {X : Type 0} (w : X → ℕ) (xs ys : List X) → sum w (xs ++ ys) ≡ sum w xs + sum w ys
sum_append w [] ys = omega arith
sum_append w (x ∷ xs) ys = let h = sum_append w xs ys in omega (arith, h)

sum_map : {X Y : Type 0} (w : Y → ℕ) (f : X → Y) (xs : List X) → sum w (map f xs) ≡ sum (λ x. w (f x)) xs
sum_map w f [] = refl
sum_map w f (x ∷ xs) = let h = sum_map w f xs in omega (arith, h)

sum_filter : {X : Type 0} (w : X → ℕ) (test : X → Bool) (xs : List X) → sum w (filter test xs) + sum w (without test xs) ≡ sum w xs
sum_filter w test [] = refl
sum_filter w test (x ∷ xs) = go (test x) (sum_filter w test xs)
  where
    go : (t : Bool) → sum w (filter test xs) + sum w (without test xs) ≡ sum w xs
        → sum w (cond t (x ∷ filter test xs) (filter test xs)) + sum w (cond (not t) (x ∷ without test xs) (without test xs)) ≡ w x + sum w xs
    go true h = omega (arith, h)
    go false h = omega (arith, h)

sum_first : {X : Type 0} (w : X → ℕ) (test : X → Bool) (xs : List X) → sum w (first_passing test xs) + sum w (without_first test xs) ≡ sum w xs
sum_first w test [] = refl
sum_first w test (x ∷ xs) = go (test x) (sum_first w test xs)
  where
    go : (t : Bool) → sum w (first_passing test xs) + sum w (without_first test xs) ≡ sum w xs
        → sum w (cond t (x ∷ []) (first_passing test xs)) + sum w (cond t xs (x ∷ without_first test xs)) ≡ w x + sum w xs
    go true h = omega arith
    go false h = omega (arith, h)

sum_put : {T : Type 0} (w : T → ℕ) (t : Timer T) (us : List (Timer T)) → sum (λ (u : Timer T). w u.item) (put_timer t us) ≡ w t.item + sum (λ (u : Timer T). w u.item) us
sum_put w t [] = omega arith
sum_put {T = T} w t (u ∷ us) = go (nat_lt t.deadline u.deadline) (sum_put w t us)
  where
    go : (b : Bool) → sum (λ (u : Timer T). w u.item) (put_timer t us) ≡ w t.item + sum (λ (u : Timer T). w u.item) us
        → sum (λ (u : Timer T). w u.item) (cond b (t ∷ u ∷ us) (u ∷ put_timer t us)) ≡ w t.item + (w u.item + sum (λ (u : Timer T). w u.item) us)
    go true h = refl
    go false h = omega (arith, h)

module _ {T : Type 0} (w : T → ℕ) where
  of_dues : (items : List T) → sum (λ (d : Due T). w d.item) (map (λ item. due item no_result) items) ≡ sum w items
  of_dues items = sum_map (λ (d : Due T). w d.item) (λ item. due item no_result) items

  pub total_ready : (items : List T) (a : Agenda T) → total w (ready_all items a) ≡ sum w items + total w a
  total_ready items a =
      let h = sum_append (λ (d : Due T). w d.item) a.ready (map (λ item. due item no_result) items) in
      let g = of_dues items in
      omega (arith, h, g)

  pub total_begins : (a : Agenda T) → a.round ≡ [] → total w (begin_round a) ≡ total w a
  total_begins a e = let h : sum (λ (d : Due T). w d.item) a.round ≡ 0 = ap (sum (λ (d : Due T). w d.item)) e in omega (arith, h)

  -- ---- conditions

  live_total : (c : ℕ) (a b d : Agenda T) → where_live c a b ≡ Ok d → total w d ≡ total w b
  live_total c a b d e = go (holds_number a.live c) e
    where
      go : (t : Bool) → cond t (Ok b) (Err F.CondVar) ≡ Ok d → total w d ≡ total w b
      go true e = let i : b ≡ d = cc in sym (ap (total w) i)
      go false e = absurd (cc)

  pub total_wait : (c : ℕ) (item : T) (a d : Agenda T) → wait c item a ≡ Ok d → total w d ≡ w item + total w a
  total_wait c item a d e =
      let h = sum_append (λ (o : OnCondition T). w o.item) a.waiters (record { item = item; condition = c } ∷ []) in
      let g = live_total c a (record a { waiters = a.waiters ++ record { item = item; condition = c } ∷ [] }) d e in
      omega (arith, h, g)

  pub total_signal : (c : ℕ) (a d : Agenda T) → signal c a ≡ Ok d → total w d ≡ total w a
  total_signal c a d e =
      let xs : List T = map waiter (first_passing (waits_on c) a.waiters) in
      let b : Agenda T = record a { waiters = without_first (waits_on c) a.waiters } in
      let g = live_total c a (ready_all xs b) d e in
      let h = total_ready xs b in
      let i = sum_map w (λ (o : OnCondition T). waiter o) (first_passing (waits_on c) a.waiters) in
      let j = sum_first (λ (o : OnCondition T). w o.item) (waits_on c) a.waiters in
      omega (arith, g, h, i, j)

  pub total_signal_all : (c : ℕ) (a d : Agenda T) → signal_all c a ≡ Ok d → total w d ≡ total w a
  total_signal_all c a d e =
      let xs : List T = map waiter (filter (waits_on c) a.waiters) in
      let b : Agenda T = record a { waiters = without (waits_on c) a.waiters } in
      let g = live_total c a (ready_all xs b) d e in
      let h = total_ready xs b in
      let i = sum_map w (λ (o : OnCondition T). waiter o) (filter (waits_on c) a.waiters) in
      let j = sum_filter (λ (o : OnCondition T). w o.item) (waits_on c) a.waiters in
      omega (arith, g, h, i, j)

  pub total_freed : (c : ℕ) (a d : Agenda T) → cond_free c a ≡ Ok d → total w d ≡ total w a
  total_freed c a d e = go (is_empty (first_passing (waits_on c) a.waiters)) e
    where
      go : (t : Bool) → cond t (where_live c a (record a { live = without (λ n. n == c) a.live })) (Err F.CondVar) ≡ Ok d → total w d ≡ total w a
      go true e = live_total c a (record a { live = without (λ n. n == c) a.live }) d e
      go false e = absurd (cc)

  -- ---- times, descriptors and sections

  pub total_sleep : (z : ℤ) (item : T) (a d : Agenda T) → sleep z item a ≡ Ok d → total w d ≡ w item + total w a
  total_sleep z item a d e = go (int_lt z (pos 0)) e
    where
      timer : Timer T
      timer = record { item = item; deadline = a.now + unsigned_abs z; number = a.timers_made }

      slept : Agenda T
      slept = record a { timers = put_timer timer a.timers; timers_made = suc a.timers_made }

      put : total w slept ≡ w item + total w a
      put = let h = sum_put w timer a.timers in omega (arith, h)

      go : (t : Bool) → cond t (Err F.Length) (Ok slept) ≡ Ok d → total w d ≡ w item + total w a
      go true e = absurd (cc)
      go false e = let i : slept ≡ d = cc in sym (ap (total w) i) ∙ put

  pub total_io : (fd : ℤ) (way : Direction) (item : T) (a : Agenda T) → total w (io fd way item a) ≡ w item + total w a
  total_io fd way item a =
      let h = sum_append (λ (o : OnDescriptor T). w o.item) a.descriptors (record { item = item; descriptor = fd; direction = way } ∷ []) in
      omega (arith, h)

  pub total_section : (item : T) (a d : Agenda T) → section item a ≡ Ok d → total w d ≡ w item + total w a
  total_section item a d e = go (nat_lt (length a.sections) 1024) e
    where
      submitted : Agenda T
      submitted = record a { sections = a.sections ++ record { item = item; section = a.sections_made } ∷ []; sections_made = suc a.sections_made }

      put : total w submitted ≡ w item + total w a
      put = let h = sum_append (λ (o : OnSection T). w o.item) a.sections (record { item = item; section = a.sections_made } ∷ []) in omega (arith, h)

      go : (t : Bool) → cond t (Ok submitted) (Err F.Sections) ≡ Ok d → total w d ≡ w item + total w a
      go true e = let i : submitted ≡ d = cc in sym (ap (total w) i) ∙ put
      go false e = absurd (cc)

  -- ---- polls

  total_finished : (n : ℕ) (v : Value) (a : Agenda T) → total w (finish_section n v a) ≡ total w a
  total_finished n v a =
      let done : List (OnSection T) = filter (λ (s : OnSection T). s.section == n) a.sections in
      let h = sum_append (λ (d : Due T). w d.item) a.ready (map (λ (s : OnSection T). due s.item v) done) in
      let i = sum_map (λ (d : Due T). w d.item) (λ (s : OnSection T). due s.item v) done in
      let j = sum_filter (λ (o : OnSection T). w o.item) (λ (s : OnSection T). s.section == n) a.sections in
      omega (arith, h, i, j)

  total_all_finished : (ns : List ℕ) (vs : List Value) (a : Agenda T) → total w (finish_sections ns vs a) ≡ total w a
  total_all_finished [] vs a = refl
  total_all_finished (n ∷ ns) [] a = refl
  total_all_finished (n ∷ ns) (v ∷ vs) a = total_all_finished ns vs (finish_section n v a) ∙ total_finished n v a

  total_woken : (e : Event) (a : Agenda T) → total w (wake e a) ≡ total w a
  total_woken (Done n) a = refl
  total_woken (Ready fd way) a =
      let xs : List T = map descriptor_waiter (filter (waits_for fd way) a.descriptors) in
      let b : Agenda T = record a { descriptors = without (waits_for fd way) a.descriptors } in
      let h = total_ready xs b in
      let i = sum_map w (λ (o : OnDescriptor T). descriptor_waiter o) (filter (waits_for fd way) a.descriptors) in
      let j = sum_filter (λ (o : OnDescriptor T). w o.item) (waits_for fd way) a.descriptors in
      omega (arith, h, i, j)

  total_all_woken : (es : List Event) (a : Agenda T) → total w (wake_all es a) ≡ total w a
  total_all_woken [] a = refl
  total_all_woken (e ∷ es) a = total_all_woken es (wake e a) ∙ total_woken e a

  total_rings : (a : Agenda T) → total w (ring a) ≡ total w a
  total_rings a =
      let xs : List T = map sleeper (filter (is_due a.now) a.timers) in
      let b : Agenda T = record a { timers = without (is_due a.now) a.timers } in
      let h = total_ready xs b in
      let i = sum_map w (λ (t : Timer T). sleeper t) (filter (is_due a.now) a.timers) in
      let j = sum_filter (λ (o : Timer T). w o.item) (is_due a.now) a.timers in
      omega (arith, h, i, j)

  pub total_polled : (told : Told) (vs : List Value) (a : Agenda T) → total w (poll told vs a) ≡ total w a
  total_polled told vs a =
      let b : Agenda T = record a { now = max a.now told.clock } in
      let c : Agenda T = finish_sections (completed told.events) vs b in
      total_rings (wake_all told.events c) ∙ total_all_woken told.events c ∙ total_all_finished (completed told.events) vs b

  -- ---- the round is as before

  round_finished : (ns : List ℕ) (vs : List Value) (a : Agenda T) → (finish_sections ns vs a).round ≡ a.round
  round_finished [] vs a = refl
  round_finished (n ∷ ns) [] a = refl
  round_finished (n ∷ ns) (v ∷ vs) a = round_finished ns vs (finish_section n v a)

  round_one : (e : Event) (a : Agenda T) → (wake e a).round ≡ a.round
  round_one (Done n) a = refl
  round_one (Ready fd way) a = refl

  round_woken : (es : List Event) (a : Agenda T) → (wake_all es a).round ≡ a.round
  round_woken [] a = refl
  round_woken (e ∷ es) a = round_woken es (wake e a) ∙ round_one e a

  pub round_polled : (told : Told) (vs : List Value) (a : Agenda T) → (poll told vs a).round ≡ a.round
  round_polled told vs a =
      let b : Agenda T = record a { now = max a.now told.clock } in
      round_woken told.events (finish_sections (completed told.events) vs b) ∙ round_finished (completed told.events) vs b

-- no item is lost or doubled
pub items_stay : {T : Type 0} → ItemsStay T
items_stay = record { begins = λ w a e. total_begins w a e; polled = λ w told vs a. total_polled w told vs a }
