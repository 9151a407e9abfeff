-- Acts on an agenda keep its pointers.
use Rattle.std.proofs.Common.{◌+◌, ◌==◌, not, nat_lt, ℕ, suc, ℤ, pos, Bool, true, false, cond, List, [], ◌∷◌, ◌++◌, map, length, Ok, Err}
use Rattle.std.specs.Prelude.{filter, int_lt, unsigned_abs}
use Rattle.std.specs.List.{All}
use Rattle.std.proofs.lemmas.List.Elements.{All-nil, All-cons, All-head, All-tail, All-append, All-filter, All-map, All-weaker, All-push}
use Rattle.cpc_num.specs.declared.kinds.Fault.TheVariants as F
use Rattle.cpc_base.specs.declared.poll.Direction.{Direction}
use Rattle.cpc_tree.specs.Lists.{is_empty, holds_number}
use Rattle.cpc_store.specs.Store.{Store}
use Rattle.cpc_meaning.specs.Answer.{of_result}
use Rattle.cpc_meaning.specs.Agenda.{Due, OnCondition, OnDescriptor, Timer, OnSection, Agenda, no_result, due, ready_all, ready_one, begin_round, first_passing, without_first, without, waits_on, where_live, cond_free, wait, waiter, signal, signal_all, put_timer, sleep, io, section}
use Rattle.cpc_meaning.specs.Events.{Callback, CallMain, CallWith}
use Rattle.cpc_meaning_laws.specs.Pointer.Made.{IsMade, IsMadeCallback, IsMadeAgenda}
use Rattle.cpc_meaning_laws.proofs.Pointer.Blocks.{Only}
use Rattle.cpc_meaning_laws.proofs.Pointer.Stores.{Later, later_made}

-- ---- lists

all_either : {X : Type 0} (P : X → Type 0) (b : Bool) (xs ys : List X) → All P xs → All P ys → All P (cond b xs ys)
all_either P true xs ys h k = h
all_either P false xs ys h k = k

pub all_first : {X : Type 0} (P : X → Type 0) (test : X → Bool) (xs : List X) → All P xs → All P (first_passing test xs)
all_first P test [] h = h
all_first P test (x ∷ xs) h =
    all_either P (test x) (x ∷ []) (first_passing test xs) (All-cons P x [] (All-head P x xs h) (All-nil P)) (all_first P test xs (All-tail P x xs h))

pub all_without_first : {X : Type 0} (P : X → Type 0) (test : X → Bool) (xs : List X) → All P xs → All P (without_first test xs)
all_without_first P test [] h = h
all_without_first P test (x ∷ xs) h =
    all_either P (test x) xs (x ∷ without_first test xs) (All-tail P x xs h) (All-cons P x (without_first test xs) (All-head P x xs h) (all_without_first P test xs (All-tail P x xs h)))

pub all_timer : {T : Type 0} (P : Timer T → Type 0) (t : Timer T) (us : List (Timer T)) → P t → All P us → All P (put_timer t us)
all_timer P t [] h k = All-cons P t [] h k
all_timer P t (u ∷ us) h k =
    all_either P (nat_lt t.deadline u.deadline) (t ∷ u ∷ us) (u ∷ put_timer t us) (All-cons P t (u ∷ us) h k) (All-cons P u (put_timer t us) (All-head P u us k) (all_timer P t us h (All-tail P u us k)))

-- ---- a callback in a later store

pub later_callback : (s t : Store) → Later s t → (c : Callback) → IsMadeCallback s c → IsMadeCallback t c
later_callback s t l CallMain h = tt
later_callback s t l (CallWith f pointer) h = later_made s t l pointer h

-- ---- acts

module _ (s : Store) where
  -- a callback
  abbrev pub Fine : Callback → Type 0
  Fine c = IsMadeCallback s c

  abbrev pub DueMade : Due Callback → Type 0
  DueMade d = IsMadeCallback s d.item × IsMade s d.result

  abbrev Waits : OnCondition Callback → Type 0
  Waits w = IsMadeCallback s w.item

  abbrev Awaits : OnDescriptor Callback → Type 0
  Awaits w = IsMadeCallback s w.item

  abbrev Sleeps : Timer Callback → Type 0
  Sleeps w = IsMadeCallback s w.item

  abbrev Detached : OnSection Callback → Type 0
  Detached w = IsMadeCallback s w.item

  dues : (items : List Callback) → All Fine items → All DueMade (map (λ item. due item no_result) items)
  dues items h = All-map DueMade (λ item. due item no_result) items (All-weaker Fine (λ c. DueMade (due c no_result)) (λ c k. (k, tt)) items h)

  pub ready_all_made : (items : List Callback) (a : Agenda Callback) → All Fine items → IsMadeAgenda s a → IsMadeAgenda s (ready_all items a)
  ready_all_made items a h k = record {
    ready = All-append DueMade a.ready (map (λ item. due item no_result) items) k.ready (dues items h);
    round = k.round;
    waiters = k.waiters;
    descriptors = k.descriptors;
    timers = k.timers;
    sections = k.sections;
  }

  pub ready_one_made : (item : Callback) (a : Agenda Callback) → Fine item → IsMadeAgenda s a → IsMadeAgenda s (ready_one item a)
  ready_one_made item a h k = ready_all_made (item ∷ []) a (All-cons Fine item [] h (All-nil Fine)) k

  pub begin_round_made : (a : Agenda Callback) → IsMadeAgenda s a → IsMadeAgenda s (begin_round a)
  begin_round_made a k = record { ready = All-nil DueMade; round = k.ready; waiters = k.waiters; descriptors = k.descriptors; timers = k.timers; sections = k.sections }

  -- the round without its first item
  pub later_round : (ds : List (Due Callback)) (a : Agenda Callback) → All DueMade ds → IsMadeAgenda s a → IsMadeAgenda s (record a { round = ds })
  later_round ds a h k = record { ready = k.ready; round = h; waiters = k.waiters; descriptors = k.descriptors; timers = k.timers; sections = k.sections }

  -- other conditions
  pub other_conditions : (live : List ℕ) (n : ℕ) (a : Agenda Callback) → IsMadeAgenda s a → IsMadeAgenda s (record a { live = live; conditions_made = n })
  other_conditions live n a k = record { ready = k.ready; round = k.round; waiters = k.waiters; descriptors = k.descriptors; timers = k.timers; sections = k.sections }

  where_live_made : (n : ℕ) (a b : Agenda Callback) → IsMadeAgenda s b → Only (IsMadeAgenda s) (of_result (where_live n a b))
  where_live_made n a b k = go (holds_number a.live n)
    where
      go : (t : Bool) → Only (IsMadeAgenda s) (of_result (cond t (Ok b) (Err F.CondVar)))
      go true = k
      go false = tt

  pub cond_free_made : (n : ℕ) (a : Agenda Callback) → IsMadeAgenda s a → Only (IsMadeAgenda s) (of_result (cond_free n a))
  cond_free_made n a k = go (is_empty (first_passing (waits_on n) a.waiters))
    where
      go : (t : Bool) → Only (IsMadeAgenda s) (of_result (cond t (where_live n a (record a { live = without (λ m. m == n) a.live })) (Err F.CondVar)))
      go true = where_live_made n a (record a { live = without (λ m. m == n) a.live }) (other_conditions (without (λ m. m == n) a.live) a.conditions_made a k)
      go false = tt

  pub wait_made : (n : ℕ) (item : Callback) (a : Agenda Callback) → Fine item → IsMadeAgenda s a → Only (IsMadeAgenda s) (of_result (wait n item a))
  wait_made n item a h k = where_live_made n a (record a { waiters = a.waiters ++ record { item = item; condition = n } ∷ [] }) (record {
    ready = k.ready;
    round = k.round;
    waiters = All-push Waits a.waiters (record { item = item; condition = n }) k.waiters h;
    descriptors = k.descriptors;
    timers = k.timers;
    sections = k.sections;
  })

  -- waiters become ready
  wakes : (n : ℕ) (woken rest : List (OnCondition Callback)) (a : Agenda Callback) → All Waits woken → All Waits rest → IsMadeAgenda s a
      → Only (IsMadeAgenda s) (of_result (where_live n a (ready_all (map waiter woken) (record a { waiters = rest }))))
  wakes n woken rest a h i k = where_live_made n a _
      (ready_all_made (map waiter woken) (record a { waiters = rest }) (All-map Fine waiter woken h)
      (record { ready = k.ready; round = k.round; waiters = i; descriptors = k.descriptors; timers = k.timers; sections = k.sections }))

  pub signal_made : (n : ℕ) (a : Agenda Callback) → IsMadeAgenda s a → Only (IsMadeAgenda s) (of_result (signal n a))
  signal_made n a k = wakes n (first_passing (waits_on n) a.waiters) (without_first (waits_on n) a.waiters) a
      (all_first Waits (waits_on n) a.waiters k.waiters) (all_without_first Waits (waits_on n) a.waiters k.waiters) k

  pub signal_all_made : (n : ℕ) (a : Agenda Callback) → IsMadeAgenda s a → Only (IsMadeAgenda s) (of_result (signal_all n a))
  signal_all_made n a k = wakes n (filter (waits_on n) a.waiters) (without (waits_on n) a.waiters) a
      (All-filter (waits_on n) Waits a.waiters k.waiters) (All-filter (λ w. not (waits_on n w)) Waits a.waiters k.waiters) k

  pub sleep_made : (z : ℤ) (item : Callback) (a : Agenda Callback) → Fine item → IsMadeAgenda s a → Only (IsMadeAgenda s) (of_result (sleep z item a))
  sleep_made z item a h k = go (int_lt z (pos 0))
    where
      go : (t : Bool) → Only (IsMadeAgenda s) (of_result (cond t (Err F.Length) (Ok (record a {
        timers = put_timer (record { item = item; deadline = a.now + unsigned_abs z; number = a.timers_made }) a.timers;
        timers_made = suc a.timers_made;
      }))))
      go true = tt
      go false = record {
        ready = k.ready;
        round = k.round;
        waiters = k.waiters;
        descriptors = k.descriptors;
        timers = all_timer Sleeps (record { item = item; deadline = a.now + unsigned_abs z; number = a.timers_made }) a.timers h k.timers;
        sections = k.sections;
      }

  pub io_made : (fd : ℤ) (way : Direction) (item : Callback) (a : Agenda Callback) → Fine item → IsMadeAgenda s a → IsMadeAgenda s (io fd way item a)
  io_made fd way item a h k = record {
    ready = k.ready;
    round = k.round;
    waiters = k.waiters;
    descriptors = All-push Awaits a.descriptors (record { item = item; descriptor = fd; direction = way }) k.descriptors h;
    timers = k.timers;
    sections = k.sections;
  }

  pub section_made : (item : Callback) (a : Agenda Callback) → Fine item → IsMadeAgenda s a → Only (IsMadeAgenda s) (of_result (section item a))
  section_made item a h k = go (nat_lt (length a.sections) 1024)
    where
      go : (t : Bool) → Only (IsMadeAgenda s) (of_result (cond t (Ok (record a {
        sections = a.sections ++ record { item = item; section = a.sections_made } ∷ [];
        sections_made = suc a.sections_made;
      })) (Err F.Sections)))
      go true = record {
        ready = k.ready;
        round = k.round;
        waiters = k.waiters;
        descriptors = k.descriptors;
        timers = k.timers;
        sections = All-push Detached a.sections (record { item = item; section = a.sections_made }) k.sections h;
      }
      go false = tt

-- ---- the agenda in a later store

pub later_agenda : (s t : Store) → Later s t → (a : Agenda Callback) → IsMadeAgenda s a → IsMadeAgenda t a
later_agenda s t l a h = record {
  ready = All-weaker (DueMade s) (DueMade t) (λ d k. (later_callback s t l d.item k.0, later_made s t l d.result k.1)) a.ready h.ready;
  round = All-weaker (DueMade s) (DueMade t) (λ d k. (later_callback s t l d.item k.0, later_made s t l d.result k.1)) a.round h.round;
  waiters = All-weaker (Waits s) (Waits t) (λ w k. later_callback s t l w.item k) a.waiters h.waiters;
  descriptors = All-weaker (Awaits s) (Awaits t) (λ w k. later_callback s t l w.item k) a.descriptors h.descriptors;
  timers = All-weaker (Sleeps s) (Sleeps t) (λ w k. later_callback s t l w.item k) a.timers h.timers;
  sections = All-weaker (Detached s) (Detached t) (λ w k. later_callback s t l w.item k) a.sections h.sections;
}
