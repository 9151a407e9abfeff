-- Acts on an agenda keep what holds of its items and of the results that are due, over items of any type.
use Rattle.std.proofs.Common.{◌+◌, ◌==◌, not, nat_lt, max, ℕ, suc, ℤ, pos, Bool, true, false, cond, List, [], ◌∷◌, ◌++◌, map, length, Ok, Err}
use Rattle.std.specs.Prelude.{filter, int_lt, unsigned_abs}
use Rattle.std.specs.List.{All}
use Rattle.std.proofs.lemmas.List.Elements.{All-nil, All-cons, All-head, All-tail, All-append, All-filter, All-map, All-weaker, All-push}
use Rattle.cpc_num.specs.declared.kinds.Fault.TheVariants as F
use Rattle.cpc_base.specs.declared.poll.Direction.{Direction}
use Rattle.cpc_base.specs.declared.poll.Event.{Event}
use Rattle.cpc_base.specs.declared.poll.Event.TheVariants.{Done, Ready}
use Rattle.cpc_tree.specs.Lists.{is_empty, holds_number}
use Rattle.cpc_tree.specs.Trace.{Told}
use Rattle.cpc_store.specs.Store.{Value}
use Rattle.cpc_meaning.specs.Answer.{of_result}
use Rattle.cpc_meaning.specs.Agenda.{Due, OnCondition, OnDescriptor, Timer, OnSection, Agenda, new_agenda, no_result, due, ready_all, ready_one, begin_round, first_passing, without_first, without, waits_on, where_live, cond_free, wait, waiter, signal, signal_all, put_timer, sleep, io, section, completed, finish_section, finish_sections, waits_for, descriptor_waiter, wake, wake_all, is_due, sleeper, ring, poll}
use Rattle.cpc_meaning_laws.proofs.Pointer.Blocks.{Only}
use Rattle.cpc_meaning_laws.proofs.Pointer.Agendas.{all_first, all_timer, all_without_first}
use Rattle.cpc_check_laws.specs.Kept.Kept.{KeptAgenda}

-- ---- acts

module _ {T : Type 0} (Fine : T → Type 0) (Good : Value → Type 0) (zero_good : Good no_result) where
  abbrev pub DueSo : Due T → Type 0
  DueSo d = Fine d.item × Good d.result

  abbrev Waits : OnCondition T → Type 0
  Waits w = Fine w.item

  abbrev Awaits : OnDescriptor T → Type 0
  Awaits w = Fine w.item

  abbrev Sleeps : Timer T → Type 0
  Sleeps w = Fine w.item

  abbrev Detached : OnSection T → Type 0
  Detached w = Fine w.item

  abbrev So : Agenda T → Type 0
  So a = KeptAgenda Fine Good a

  pub nothing_there : So new_agenda
  nothing_there = record { ready = All-nil DueSo; round = All-nil DueSo; waiters = All-nil Waits; descriptors = All-nil Awaits; timers = All-nil Sleeps; sections = All-nil Detached }

  dues : (v : Value) → Good v → (items : List T) → All Fine items → All DueSo (map (λ item. due item v) items)
  dues v g items h = All-map DueSo (λ item. due item v) items (All-weaker Fine (λ c. DueSo (due c v)) (λ c k. (k, g)) items h)

  pub ready_all_so : (items : List T) (a : Agenda T) → All Fine items → So a → So (ready_all items a)
  ready_all_so items a h k = record {
    ready = All-append DueSo a.ready (map (λ item. due item no_result) items) k.ready (dues no_result zero_good items h);
    round = k.round;
    waiters = k.waiters;
    descriptors = k.descriptors;
    timers = k.timers;
    sections = k.sections;
  }

  pub ready_one_so : (item : T) (a : Agenda T) → Fine item → So a → So (ready_one item a)
  ready_one_so item a h k = ready_all_so (item ∷ []) a (All-cons Fine item [] h (All-nil Fine)) k

  pub begin_round_so : (a : Agenda T) → So a → So (begin_round a)
  begin_round_so a k = record { ready = All-nil DueSo; round = k.ready; waiters = k.waiters; descriptors = k.descriptors; timers = k.timers; sections = k.sections }

  -- the round without its first item
  pub later_round : (ds : List (Due T)) (a : Agenda T) → All DueSo ds → So a → So (record a { round = ds })
  later_round ds a h k = record { ready = k.ready; round = h; waiters = k.waiters; descriptors = k.descriptors; timers = k.timers; sections = k.sections }

  -- other conditions
  pub other_conditions : (live : List ℕ) (n : ℕ) (a : Agenda T) → So a → So (record a { live = live; conditions_made = n })
  other_conditions live n a k = record { ready = k.ready; round = k.round; waiters = k.waiters; descriptors = k.descriptors; timers = k.timers; sections = k.sections }

  where_live_so : (n : ℕ) (a b : Agenda T) → So b → Only So (of_result (where_live n a b))
  where_live_so n a b k = go (holds_number a.live n)
    where
      go : (t : Bool) → Only So (of_result (cond t (Ok b) (Err F.CondVar)))
      go true = k
      go false = tt

  pub cond_free_so : (n : ℕ) (a : Agenda T) → So a → Only So (of_result (cond_free n a))
  cond_free_so n a k = go (is_empty (first_passing (waits_on n) a.waiters))
    where
      go : (t : Bool) → Only So (of_result (cond t (where_live n a (record a { live = without (λ m. m == n) a.live })) (Err F.CondVar)))
      go true = where_live_so n a (record a { live = without (λ m. m == n) a.live }) (other_conditions (without (λ m. m == n) a.live) a.conditions_made a k)
      go false = tt

  pub wait_so : (n : ℕ) (item : T) (a : Agenda T) → Fine item → So a → Only So (of_result (wait n item a))
  wait_so n item a h k = where_live_so n a (record a { waiters = a.waiters ++ record { item = item; condition = n } ∷ [] }) (record {
    ready = k.ready;
    round = k.round;
    waiters = All-push Waits a.waiters (record { item = item; condition = n }) k.waiters h;
    descriptors = k.descriptors;
    timers = k.timers;
    sections = k.sections;
  })

  -- waiters become ready
  wakes : (n : ℕ) (woken rest : List (OnCondition T)) (a : Agenda T) → All Waits woken → All Waits rest → So a
      → Only So (of_result (where_live n a (ready_all (map waiter woken) (record a { waiters = rest }))))
  wakes n woken rest a h i k = where_live_so n a _
      (ready_all_so (map waiter woken) (record a { waiters = rest }) (All-map Fine waiter woken h)
      (record { ready = k.ready; round = k.round; waiters = i; descriptors = k.descriptors; timers = k.timers; sections = k.sections }))

  pub signal_so : (n : ℕ) (a : Agenda T) → So a → Only So (of_result (signal n a))
  signal_so n a k = wakes n (first_passing (waits_on n) a.waiters) (without_first (waits_on n) a.waiters) a
      (all_first Waits (waits_on n) a.waiters k.waiters) (all_without_first Waits (waits_on n) a.waiters k.waiters) k

  pub signal_all_so : (n : ℕ) (a : Agenda T) → So a → Only So (of_result (signal_all n a))
  signal_all_so n a k = wakes n (filter (waits_on n) a.waiters) (without (waits_on n) a.waiters) a
      (All-filter (waits_on n) Waits a.waiters k.waiters) (All-filter (λ w. not (waits_on n w)) Waits a.waiters k.waiters) k

  pub sleep_so : (z : ℤ) (item : T) (a : Agenda T) → Fine item → So a → Only So (of_result (sleep z item a))
  sleep_so z item a h k = go (int_lt z (pos 0))
    where
      go : (t : Bool) → Only So (of_result (cond t (Err F.Length) (Ok (record a {
        timers = put_timer (record { item = item; deadline = a.now + unsigned_abs z; number = a.timers_made }) a.timers;
        timers_made = suc a.timers_made;
      }))))
      go true = tt
      go false = record {
        ready = k.ready;
        round = k.round;
        waiters = k.waiters;
        descriptors = k.descriptors;
        timers = all_timer Sleeps (record { item = item; deadline = a.now + unsigned_abs z; number = a.timers_made }) a.timers h k.timers;
        sections = k.sections;
      }

  pub io_so : (fd : ℤ) (way : Direction) (item : T) (a : Agenda T) → Fine item → So a → So (io fd way item a)
  io_so fd way item a h k = record {
    ready = k.ready;
    round = k.round;
    waiters = k.waiters;
    descriptors = All-push Awaits a.descriptors (record { item = item; descriptor = fd; direction = way }) k.descriptors h;
    timers = k.timers;
    sections = k.sections;
  }

  pub section_so : (item : T) (a : Agenda T) → Fine item → So a → Only So (of_result (section item a))
  section_so item a h k = go (nat_lt (length a.sections) 1024)
    where
      go : (t : Bool) → Only So (of_result (cond t (Ok (record a {
        sections = a.sections ++ record { item = item; section = a.sections_made } ∷ [];
        sections_made = suc a.sections_made;
      })) (Err F.Sections)))
      go true = record {
        ready = k.ready;
        round = k.round;
        waiters = k.waiters;
        descriptors = k.descriptors;
        timers = k.timers;
        sections = All-push Detached a.sections (record { item = item; section = a.sections_made }) k.sections h;
      }
      go false = tt

  -- ---- polls

  finish_so : (n : ℕ) (v : Value) (a : Agenda T) → Good v → So a → So (finish_section n v a)
  finish_so n v a g k =
      let done : List (OnSection T) = filter (λ s. s.section == n) a.sections in
      record {
        ready = All-append DueSo a.ready (map (λ s. due s.item v) done) k.ready
            (All-map DueSo (λ (s : OnSection T). due s.item v) done (All-weaker Detached (λ s. DueSo (due s.item v)) (λ s i. (i, g)) done (All-filter (λ s. s.section == n) Detached a.sections k.sections)));
        round = k.round;
        waiters = k.waiters;
        descriptors = k.descriptors;
        timers = k.timers;
        sections = All-filter (λ s. not (s.section == n)) Detached a.sections k.sections;
      }

  finish_all_so : (ns : List ℕ) (vs : List Value) (a : Agenda T) → All Good vs → So a → So (finish_sections ns vs a)
  finish_all_so [] vs a g k = k
  finish_all_so (n ∷ ns) [] a g k = k
  finish_all_so (n ∷ ns) (v ∷ vs) a g k = finish_all_so ns vs (finish_section n v a) (All-tail Good v vs g) (finish_so n v a (All-head Good v vs g) k)

  wake_so : (e : Event) (a : Agenda T) → So a → So (wake e a)
  wake_so (Done n) a k = k
  wake_so (Ready fd way) a k =
      ready_all_so (map descriptor_waiter (filter (waits_for fd way) a.descriptors)) (record a { descriptors = without (waits_for fd way) a.descriptors })
      (All-map Fine descriptor_waiter (filter (waits_for fd way) a.descriptors) (All-filter (waits_for fd way) Awaits a.descriptors k.descriptors))
      (record {
        ready = k.ready;
        round = k.round;
        waiters = k.waiters;
        descriptors = All-filter (λ w. not (waits_for fd way w)) Awaits a.descriptors k.descriptors;
        timers = k.timers;
        sections = k.sections;
      })

  wake_all_so : (es : List Event) (a : Agenda T) → So a → So (wake_all es a)
  wake_all_so [] a k = k
  wake_all_so (e ∷ es) a k = wake_all_so es (wake e a) (wake_so e a k)

  ring_so : (a : Agenda T) → So a → So (ring a)
  ring_so a k =
      ready_all_so (map sleeper (filter (is_due a.now) a.timers)) (record a { timers = without (is_due a.now) a.timers })
      (All-map Fine sleeper (filter (is_due a.now) a.timers) (All-filter (is_due a.now) Sleeps a.timers k.timers))
      (record {
        ready = k.ready;
        round = k.round;
        waiters = k.waiters;
        descriptors = k.descriptors;
        timers = All-filter (λ t. not (is_due a.now t)) Sleeps a.timers k.timers;
        sections = k.sections;
      })

  pub poll_so : (told : Told) (vs : List Value) (a : Agenda T) → All Good vs → So a → So (poll told vs a)
  poll_so told vs a g k =
      let later : Agenda T = record a { now = max a.now told.clock } in
      let done : Agenda T = finish_sections (completed told.events) vs later in
      ring_so (wake_all told.events done) (wake_all_so told.events done (finish_all_so (completed told.events) vs later g
      (record { ready = k.ready; round = k.round; waiters = k.waiters; descriptors = k.descriptors; timers = k.timers; sections = k.sections })))

-- ---- items of which more is known

pub agenda_as : {T : Type 0} (Fine Fine' : T → Type 0) (Good Good' : Value → Type 0) → ((x : T) → Fine x → Fine' x) → ((v : Value) → Good v → Good' v) → (a : Agenda T) → KeptAgenda Fine Good a → KeptAgenda Fine' Good' a
agenda_as {T = T} Fine Fine' Good Good' f g a h =
    let dues : (d : Due T) → Fine d.item × Good d.result → Fine' d.item × Good' d.result = λ d k. (f d.item k.0, g d.result k.1) in
    record {
      ready = All-weaker (λ (d : Due T). Fine d.item × Good d.result) (λ (d : Due T). Fine' d.item × Good' d.result) dues a.ready h.ready;
      round = All-weaker (λ (d : Due T). Fine d.item × Good d.result) (λ (d : Due T). Fine' d.item × Good' d.result) dues a.round h.round;
      waiters = All-weaker (λ (w : OnCondition T). Fine w.item) (λ (w : OnCondition T). Fine' w.item) (λ w k. f w.item k) a.waiters h.waiters;
      descriptors = All-weaker (λ (w : OnDescriptor T). Fine w.item) (λ (w : OnDescriptor T). Fine' w.item) (λ w k. f w.item k) a.descriptors h.descriptors;
      timers = All-weaker (λ (w : Timer T). Fine w.item) (λ (w : Timer T). Fine' w.item) (λ w k. f w.item k) a.timers h.timers;
      sections = All-weaker (λ (w : OnSection T). Fine w.item) (λ (w : OnSection T). Fine' w.item) (λ w k. f w.item k) a.sections h.sections;
    }
