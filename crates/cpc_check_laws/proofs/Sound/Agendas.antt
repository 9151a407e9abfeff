-- What holds of all items of an agenda holds of them after each act on it.
use Rattle.std.proofs.Common.{◌≡◌, ◌==◌, ◌||◌, ◌+◌, not, nat_lt, ℕ, suc, ℤ, pos, Bool, true, false, cond, List, [], ◌∷◌, ◌++◌, map, length, Some, None, Result, Ok, Err, refl, subst, arith}
use Rattle.std.specs.Prelude.{filter, int_lt, unsigned_abs}
use Rattle.cpc_num.specs.declared.kinds.Fault.{Fault}
use Rattle.cpc_num.specs.declared.kinds.Fault.TheVariants as F
use Rattle.cpc_num.specs.declared.kinds.Kind.TheVariants.{Int}
use Rattle.cpc_base.specs.declared.poll.Direction.{Direction}
use Rattle.cpc_base.specs.declared.poll.Event.{Event}
use Rattle.cpc_base.specs.declared.poll.Event.TheVariants.{Done, Ready}
use Rattle.cpc_tree.specs.Syntax.{TyInt}
use Rattle.cpc_tree.specs.Lists.{is_empty, holds_number}
use Rattle.cpc_tree.specs.Trace.{Told}
use Rattle.cpc_store.specs.Store.{Value}
use Rattle.cpc_meaning.specs.Agenda.{Due, OnCondition, OnDescriptor, Timer, OnSection, Agenda, new_agenda, no_result, due, ready_all, ready_one, begin_round, first_passing, without_first, without, waits_on, cond_new, where_live, cond_free, wait, waiter, signal, signal_all, put_timer, sleep, io, section, completed, not_out, finish_section, finish_sections, waits_for, descriptor_waiter, wake, wake_all, is_due, sleeper, ring, poll}
use Rattle.cpc_check_laws.specs.Sound.Suits.{Suits}

-- ---- lists

abbrev pub Each : {X : Type 0} → (X → Type 0) → List X → Type 0
Each P [] = Unit {0}
Each P (x ∷ xs) = P x × Each P xs

pub each_append : {X : Type 0} (P : X → Type 0) (xs ys : List X) → Each P xs → Each P ys → Each P (xs ++ ys)
each_append P [] ys h k = k
each_append P (x ∷ xs) ys h k = (h.0, each_append P xs ys h.1 k)

pub each_map : {X Y : Type 0} (P : X → Type 0) (Q : Y → Type 0) (f : X → Y) (xs : List X) → ((x : X) → P x → Q (f x)) → Each P xs → Each Q (map f xs)
each_map P Q f [] g h = tt
each_map P Q f (x ∷ xs) g h = (g x h.0, each_map P Q f xs g h.1)

each_if : {X : Type 0} (P : X → Type 0) (b : Bool) (x : X) (xs : List X) → P x → Each P xs → Each P (cond b (x ∷ xs) xs)
each_if P true x xs h k = (h, k)
each_if P false x xs h k = k

pub each_filter : {X : Type 0} (P : X → Type 0) (test : X → Bool) (xs : List X) → Each P xs → Each P (filter test xs)
each_filter P test [] h = tt
each_filter P test (x ∷ xs) h = each_if P (test x) x (filter test xs) h.0 (each_filter P test xs h.1)

each_either : {X : Type 0} (P : X → Type 0) (b : Bool) (xs ys : List X) → Each P xs → Each P ys → Each P (cond b xs ys)
each_either P true xs ys h k = h
each_either P false xs ys h k = k

each_first : {X : Type 0} (P : X → Type 0) (test : X → Bool) (xs : List X) → Each P xs → Each P (first_passing test xs)
each_first P test [] h = tt
each_first P test (x ∷ xs) h = each_either P (test x) (x ∷ []) (first_passing test xs) (h.0, tt) (each_first P test xs h.1)

each_without_first : {X : Type 0} (P : X → Type 0) (test : X → Bool) (xs : List X) → Each P xs → Each P (without_first test xs)
each_without_first P test [] h = tt
each_without_first P test (x ∷ xs) h = each_either P (test x) xs (x ∷ without_first test xs) h.1 (h.0, each_without_first P test xs h.1)

each_timer : {T : Type 0} (P : Timer T → Type 0) (t : Timer T) (us : List (Timer T)) → P t → Each P us → Each P (put_timer t us)
each_timer P t [] h k = (h, tt)
each_timer P t (u ∷ us) h k = each_either P (nat_lt t.deadline u.deadline) (t ∷ u ∷ us) (u ∷ put_timer t us) (h, k) (k.0, each_timer P t us h k.1)

-- ---- agendas

-- a result that is there holds
abbrev pub OkThen : {A : Type 0} → (A → Type 0) → Result A Fault → Type 0
OkThen P (Ok x) = P x
OkThen P (Err fault) = Unit {0}

module _ {T : Type 0} (Fine : T → Type 0) (Out : ℕ → Type 0) where
  -- an item that waits for a section whose number is known
  abbrev pub OutOk : OnSection T → Type 0
  OutOk w = Fine w.item × Out w.section

  abbrev pub DueOk : Due T → Type 0
  DueOk d = Fine d.item × Suits (TyInt Int) d.result

  pub record AgendaOk (a : Agenda T) : Type 0 where
    pub ready : Each DueOk a.ready
    pub round : Each DueOk a.round
    pub waiters : Each (λ (w : OnCondition T). Fine w.item) a.waiters
    pub descriptors : Each (λ (w : OnDescriptor T). Fine w.item) a.descriptors
    pub timers : Each (λ (w : Timer T). Fine w.item) a.timers
    pub sections : Each OutOk a.sections

  dues : (items : List T) → Each Fine items → Each DueOk (map (λ item. due item no_result) items)
  dues items h = each_map Fine DueOk (λ item. due item no_result) items (λ item k. (k, refl)) h

  pub new_ok : AgendaOk new_agenda
  new_ok = record { ready = tt; round = tt; waiters = tt; descriptors = tt; timers = tt; sections = tt }

  pub ready_all_ok : (items : List T) (a : Agenda T) → Each Fine items → AgendaOk a → AgendaOk (ready_all items a)
  ready_all_ok items a h k = record {
    ready = each_append DueOk a.ready (map (λ item. due item no_result) items) k.ready (dues items h);
    round = k.round;
    waiters = k.waiters;
    descriptors = k.descriptors;
    timers = k.timers;
    sections = k.sections;
  }

  pub ready_one_ok : (item : T) (a : Agenda T) → Fine item → AgendaOk a → AgendaOk (ready_one item a)
  ready_one_ok item a h k = ready_all_ok (item ∷ []) a (h, tt) k

  pub begin_round_ok : (a : Agenda T) → AgendaOk a → AgendaOk (begin_round a)
  begin_round_ok a k = record { ready = tt; round = k.ready; waiters = k.waiters; descriptors = k.descriptors; timers = k.timers; sections = k.sections }

  pub cond_new_ok : (a : Agenda T) → AgendaOk a → AgendaOk (cond_new a)
  cond_new_ok a k = record { ready = k.ready; round = k.round; waiters = k.waiters; descriptors = k.descriptors; timers = k.timers; sections = k.sections }

  where_live_ok : (n : ℕ) (a b : Agenda T) → AgendaOk b → OkThen AgendaOk (where_live n a b)
  where_live_ok n a b k = go (holds_number a.live n)
    where
      go : (t : Bool) → OkThen AgendaOk (cond t (Ok b) (Err F.CondVar))
      go true = k
      go false = tt

  pub cond_free_ok : (n : ℕ) (a : Agenda T) → AgendaOk a → OkThen AgendaOk (cond_free n a)
  cond_free_ok n a k = go (is_empty (first_passing (waits_on n) a.waiters))
    where
      go : (t : Bool) → OkThen AgendaOk (cond t (where_live n a (record a { live = without (λ m. m == n) a.live })) (Err F.CondVar))
      go true = where_live_ok n a (record a { live = without (λ m. m == n) a.live }) (record { ready = k.ready; round = k.round; waiters = k.waiters; descriptors = k.descriptors; timers = k.timers; sections = k.sections })
      go false = tt

  pub wait_ok : (n : ℕ) (item : T) (a : Agenda T) → Fine item → AgendaOk a → OkThen AgendaOk (wait n item a)
  wait_ok n item a h k = where_live_ok n a (record a { waiters = a.waiters ++ record { item = item; condition = n } ∷ [] }) (record {
    ready = k.ready;
    round = k.round;
    waiters = each_append (λ (w : OnCondition T). Fine w.item) a.waiters (record { item = item; condition = n } ∷ []) k.waiters (h, tt);
    descriptors = k.descriptors;
    timers = k.timers;
    sections = k.sections;
  })

  pub signal_ok : (n : ℕ) (a : Agenda T) → AgendaOk a → OkThen AgendaOk (signal n a)
  signal_ok n a k = where_live_ok n a _
      (ready_all_ok (map waiter (first_passing (waits_on n) a.waiters)) (record a { waiters = without_first (waits_on n) a.waiters })
      (each_map (λ (w : OnCondition T). Fine w.item) Fine waiter (first_passing (waits_on n) a.waiters) (λ w h. h) (each_first (λ (w : OnCondition T). Fine w.item) (waits_on n) a.waiters k.waiters))
      (record { ready = k.ready; round = k.round; waiters = each_without_first (λ (w : OnCondition T). Fine w.item) (waits_on n) a.waiters k.waiters; descriptors = k.descriptors; timers = k.timers; sections = k.sections }))

  pub signal_all_ok : (n : ℕ) (a : Agenda T) → AgendaOk a → OkThen AgendaOk (signal_all n a)
  signal_all_ok n a k = where_live_ok n a _
      (ready_all_ok (map waiter (filter (waits_on n) a.waiters)) (record a { waiters = without (waits_on n) a.waiters })
      (each_map (λ (w : OnCondition T). Fine w.item) Fine waiter (filter (waits_on n) a.waiters) (λ w h. h) (each_filter (λ (w : OnCondition T). Fine w.item) (waits_on n) a.waiters k.waiters))
      (record { ready = k.ready; round = k.round; waiters = each_filter (λ (w : OnCondition T). Fine w.item) (λ w. not (waits_on n w)) a.waiters k.waiters; descriptors = k.descriptors; timers = k.timers; sections = k.sections }))

  pub sleep_ok : (z : ℤ) (item : T) (a : Agenda T) → Fine item → AgendaOk a → OkThen AgendaOk (sleep z item a)
  sleep_ok z item a h k = go (int_lt z (pos 0))
    where
      go : (t : Bool) → OkThen AgendaOk (cond t (Err F.Length) (Ok (record a {
        timers = put_timer (record { item = item; deadline = a.now + unsigned_abs z; number = a.timers_made }) a.timers;
        timers_made = suc a.timers_made;
      })))
      go true = tt
      go false = record {
        ready = k.ready;
        round = k.round;
        waiters = k.waiters;
        descriptors = k.descriptors;
        timers = each_timer (λ (w : Timer T). Fine w.item) (record { item = item; deadline = a.now + unsigned_abs z; number = a.timers_made }) a.timers h k.timers;
        sections = k.sections;
      }

  pub io_ok : (fd : ℤ) (way : Direction) (item : T) (a : Agenda T) → Fine item → AgendaOk a → AgendaOk (io fd way item a)
  io_ok fd way item a h k = record {
    ready = k.ready;
    round = k.round;
    waiters = k.waiters;
    descriptors = each_append (λ (w : OnDescriptor T). Fine w.item) a.descriptors (record { item = item; descriptor = fd; direction = way } ∷ []) k.descriptors (h, tt);
    timers = k.timers;
    sections = k.sections;
  }

  pub section_ok : (item : T) (a : Agenda T) → Fine item → Out a.sections_made → AgendaOk a → OkThen AgendaOk (section item a)
  section_ok item a h o k = go (nat_lt (length a.sections) 1024)
    where
      go : (t : Bool) → OkThen AgendaOk (cond t (Ok (record a {
        sections = a.sections ++ record { item = item; section = a.sections_made } ∷ [];
        sections_made = suc a.sections_made;
      })) (Err F.Sections))
      go true = record {
        ready = k.ready;
        round = k.round;
        waiters = k.waiters;
        descriptors = k.descriptors;
        timers = k.timers;
        sections = each_append OutOk a.sections (record { item = item; section = a.sections_made } ∷ []) k.sections ((h, o), tt);
      }
      go false = tt

  -- ---- polls

  finish_ok : (n : ℕ) (v : Value) (a : Agenda T) → Suits (TyInt Int) v → AgendaOk a → AgendaOk (finish_section n v a)
  finish_ok n v a h k = record {
    ready = each_append DueOk a.ready (map (λ s. due s.item v) (filter (λ s. s.section == n) a.sections)) k.ready
        (each_map OutOk DueOk (λ s. due s.item v) (filter (λ s. s.section == n) a.sections) (λ s g. (g.0, h)) (each_filter OutOk (λ s. s.section == n) a.sections k.sections));
    round = k.round;
    waiters = k.waiters;
    descriptors = k.descriptors;
    timers = k.timers;
    sections = each_filter OutOk (λ s. not (s.section == n)) a.sections k.sections;
  }

  finish_all_ok : (ns : List ℕ) (vs : List Value) (a : Agenda T) → Each (Suits (TyInt Int)) vs → AgendaOk a → AgendaOk (finish_sections ns vs a)
  finish_all_ok [] vs a h k = k
  finish_all_ok (n ∷ ns) [] a h k = k
  finish_all_ok (n ∷ ns) (v ∷ vs) a h k = finish_all_ok ns vs (finish_section n v a) h.1 (finish_ok n v a h.0 k)

  wake_ok : (e : Event) (a : Agenda T) → AgendaOk a → AgendaOk (wake e a)
  wake_ok (Done n) a k = k
  wake_ok (Ready fd way) a k =
      ready_all_ok (map descriptor_waiter (filter (waits_for fd way) a.descriptors)) (record a { descriptors = without (waits_for fd way) a.descriptors })
      (each_map (λ (w : OnDescriptor T). Fine w.item) Fine descriptor_waiter (filter (waits_for fd way) a.descriptors) (λ w h. h) (each_filter (λ (w : OnDescriptor T). Fine w.item) (waits_for fd way) a.descriptors k.descriptors))
      (record { ready = k.ready; round = k.round; waiters = k.waiters; descriptors = each_filter (λ (w : OnDescriptor T). Fine w.item) (λ w. not (waits_for fd way w)) a.descriptors k.descriptors; timers = k.timers; sections = k.sections })

  wake_all_ok : (es : List Event) (a : Agenda T) → AgendaOk a → AgendaOk (wake_all es a)
  wake_all_ok [] a k = k
  wake_all_ok (e ∷ es) a k = wake_all_ok es (wake e a) (wake_ok e a k)

  ring_ok : (a : Agenda T) → AgendaOk a → AgendaOk (ring a)
  ring_ok a k =
      ready_all_ok (map sleeper (filter (is_due a.now) a.timers)) (record a { timers = without (is_due a.now) a.timers })
      (each_map (λ (w : Timer T). Fine w.item) Fine sleeper (filter (is_due a.now) a.timers) (λ w h. h) (each_filter (λ (w : Timer T). Fine w.item) (is_due a.now) a.timers k.timers))
      (record { ready = k.ready; round = k.round; waiters = k.waiters; descriptors = k.descriptors; timers = each_filter (λ (w : Timer T). Fine w.item) (λ w. not (is_due a.now w)) a.timers k.timers; sections = k.sections })

  now_ok : (n : ℕ) (a : Agenda T) → AgendaOk a → AgendaOk (record a { now = n })
  now_ok n a k = record { ready = k.ready; round = k.round; waiters = k.waiters; descriptors = k.descriptors; timers = k.timers; sections = k.sections }

  pub poll_ok : (told : Told) (vs : List Value) (a : Agenda T) → Each (Suits (TyInt Int)) vs → AgendaOk a → AgendaOk (poll told vs a)
  poll_ok told vs a h k = ring_ok _ (wake_all_ok told.events _ (finish_all_ok (completed told.events) vs _ h (now_ok _ a k)))

-- where more sections are known
pub more_out : {T : Type 0} (Fine : T → Type 0) (Out More : ℕ → Type 0) (a : Agenda T) → ((n : ℕ) → Out n → More n) → AgendaOk Fine Out a → AgendaOk Fine More a
more_out Fine Out More a h k = record { ready = k.ready; round = k.round; waiters = k.waiters; descriptors = k.descriptors; timers = k.timers; sections = go a.sections k.sections }
  where
    go : (ws : List _) → Each (OutOk Fine Out) ws → Each (OutOk Fine More) ws
    go [] k = tt
    go (w ∷ ws) k = ((k.0.0, h w.section k.0.1), go ws k.1)

-- ---- sections that are out

pub held_is : (P : ℕ → Type 0) (ms : List ℕ) (n : ℕ) → Each P ms → holds_number ms n ≡ true → P n
held_is P [] n h e = absurd (cc)
held_is P (m ∷ ms) n h e = go (m == n) refl (held_is P ms n h.1) e
  where
    go : (b : Bool) → (m == n) ≡ b → (holds_number ms n ≡ true → P n) → (b || holds_number ms n) ≡ true → P n
    go true i rest e = let j : m ≡ n = grind arith in subst P j h.0
    go false i rest e = rest e

-- sections that a poll may name are out
pub out_are : (P : ℕ → Type 0) (ns outs : List ℕ) → not_out ns outs ≡ None → Each P outs → Each P ns
out_are P [] outs e h = tt
out_are P (n ∷ ns) outs e h = go (holds_number outs n) refl e (λ f. out_are P ns (without (λ m. m == n) outs) f (each_filter P (λ m. not (m == n)) outs h))
  where
    go : (b : Bool) → holds_number outs n ≡ b → cond b (not_out ns (without (λ m. m == n) outs)) (Some n) ≡ None → (not_out ns (without (λ m. m == n) outs) ≡ None → Each P ns) → Each P (n ∷ ns)
    go true i e rest = (held_is P outs n h i, rest e)
    go false i e rest = absurd (cc)
