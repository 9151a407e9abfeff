-- What a request does, and its answer, are one step.
use Rattle.std.proofs.Common.{◌≡◌, ℕ, true, false, ℤ, pos, ◌++◌, ◌+◌, ◌≤◌, length, map, Option, Some, None, Result, Ok, Err, refl, sym, ap, subst, ◌∙◌, append_assoc, arith}
use Rattle.std.proofs.lemmas.List.{length-replicate}
use Rattle.std.specs.Prelude.{int_lt, unsigned_abs, is_some}
use Rattle.cpc_base.specs.Bytes.{Text}
use Rattle.cpc_base.specs.declared.names.Name.{Name}
use Rattle.cpc_base.proofs.Lists.{some_is}
use Rattle.cpc_base.specs.declared.stop.NoMemory.{NoMemory}
use Rattle.cpc_num.specs.declared.kinds.Fault.{Fault}
use Rattle.cpc_num.specs.declared.kinds.Kind.{Kind}
use Rattle.cpc_tree.specs.Erase.{Names}
use Rattle.cpc_tree.specs.Points.{Point}
use Rattle.cpc_tree.specs.Trace as T
use Rattle.cpc_tree.specs.Trace.{Mark}
use Rattle.cpc_store.specs.declared.values.Class.{Class}
use Rattle.cpc_store.specs.declared.values.Class.TheVariants.{Static}
use Rattle.cpc_store.proofs.CellLemmas.{store_cells-alloc}
use Rattle.cpc_store.specs.Store.{Store, Value, Unset, Whole, At, alloc, free, next_block, store_cells, unset_cells}
use Rattle.cpc_meaning.specs.Answer.{Answer, Gives, Faults, NoAnswer, ◌>>=◌}
use Rattle.cpc_meaning.specs.Agenda as A
use Rattle.cpc_meaning.specs.Events.{Callback, callbacks}
use Rattle.cpc_meaning.specs.Machine.{acts, ends, fault_function, marks, after_done, reply, replies, with_store, with_agenda, settled}
use Rattle.cpc_meaning.specs.Plain.{Form, Stack, Done, Went, Returned, Asks, answered, running_function}
use Rattle.cpc_meaning.specs.Runs.{frames_registers, live_cells}
use Rattle.cpc_meaning.specs.Section.{allocated, freed}
use Rattle.cpc_meaning.specs.Start.{before_underscores}
use Rattle.cpc_meaning.specs.Trees.{trees}
use Rattle.cpc_meaning.proofs.Agendas.{SameAgenda, SameResult, made as cond_same}
use Rattle.cpc_history_marks.specs.Views.{told_of}
use Rattle.cpc_run_code.specs.declared.items.Item.{Item}
use Rattle.cpc_run.specs.declared.looped.Loop.{Loop}
use Rattle.cpc_meaning_laws.specs.Pointer.Made.{IsMadeCode}
use Rattle.cpc_meaning_laws.specs.Pointer.Laws.{done_with}
use Rattle.cpc_meaning_laws.proofs.Pointer.Answered.{answered_alike}
use Rattle.cpc_run_shown.specs.declared.outcome.Outcome.{Outcome}
use Rattle.cpc_run_shown.specs.declared.outcome.Outcome.TheVariants as O
use Rattle.cpc_run_code.specs.Code.{items_in, store_in, stack_in}
use Rattle.cpc_run_shown.specs.Outcomes.{outcome_of}
use Rattle.cpc_run_shown.specs.Shown.{shown, shown_of}
use Rattle.cpc_run.specs.States.{States, IsCallback, SameLists, HasLists, Stands, Did, Acted, lists_in, settles, program_in}
use Rattle.cpc_run_jobs.specs.declared.jobs.Jobs.{Jobs}
use Rattle.cpc_run_jobs.specs.Holding.{Holds}
use Rattle.cpc_run.proofs.Alike.{KeepsSections, ok_same, err_same}
use Rattle.cpc_run_shown.proofs.Marks.{shown_more}

-- a mark goes out behind what went out
pub marked : (names : Names) (l : Loop) (f : Name) (sent old new : Text) (s t : States) (m : Mark) → new ≡ old ++ shown_of l.trace m → Acted names l f (sent ++ old) s t → Acted names l f (sent ++ new) s (marks m t)
marked names l f sent old new s t m e h = record {
  store = h.store;
  asks = h.asks;
  name = h.name;
  lists = h.lists;
  printed_so = shown_more l.trace t.trace m ∙ ap (λ x. x ++ shown_of l.trace m) h.printed_so ∙ append_assoc sent old (shown_of l.trace m) ∙ ap (λ x. sent ++ x) (sym e);
  going = h.going;
}

-- the answer of a loop in the middle is that of the loop before it, where program and stack are the same
pub carried : (names : Names) (r : Result (Option Outcome) NoMemory) (l mid new : Loop) (printed : Text) (s t : States) (v : Value) → program_in names mid ≡ program_in names l → stack_in names mid.machine ≡ stack_in names l.machine
    → Did names r new printed s (settles names mid s (reply (trees (program_in names mid)) (stack_in names mid.machine) v t))
    → Did names r new printed s (settles names l s (reply (trees (program_in names l)) (stack_in names l.machine) v t))
carried names r l mid new printed s t v program stack h =
    subst (λ p. Did names r new printed s (settled (callbacks p) s (reply (trees p) (stack_in names l.machine) v t))) program
    (subst (λ k. Did names r new printed s (settled (callbacks (program_in names mid)) s (reply (trees (program_in names mid)) k v t))) stack h)

-- the loop has the same lists and sections
pub same_lists : (names : Names) (l mid : Loop) (s : States) → mid.turns ≡ l.turns → mid.jobs ≡ l.jobs → HasLists names l s → HasLists names mid s
same_lists names l mid s turns jobs h =
    subst (λ j. SameLists names mid.turns j s.agenda s.history.polls s.history.section_bound s.jobs) (sym jobs)
    (subst (λ t. SameLists names t l.jobs s.agenda s.history.polls s.history.section_bound s.jobs) (sym turns) h)

-- the store is another one
pub stored : (names : Names) (l mid : Loop) (f : Name) (printed : Text) (s : States) (t : Store) → stack_in names mid.machine ≡ stack_in names l.machine → store_in names mid.machine ≡ t → mid.turns ≡ l.turns → mid.jobs ≡ l.jobs → mid.trace ≡ l.trace
    → Acted names l f printed s s → Acted names mid f printed s (with_store s t)
stored names l mid f printed s t stack store turns jobs trace h = record {
  store = sym store;
  asks = h.asks ∙ ap Some (sym stack);
  name = h.name ∙ ap (λ k. running_function k) (sym stack);
  lists = same_lists names l mid s turns jobs h.lists;
  printed_so = ap (λ b. shown b s.trace) trace ∙ h.printed_so;
  going = h.going;
}

-- ---- blocks

-- a block is made
pub made_so : (class : Class) (kind : Kind) (count : ℤ) (cells : ℕ) (s : Store) → int_lt count (pos 0) ≡ false → unsigned_abs count ≡ cells
    → allocated class (Whole kind count) s ≡ Gives (alloc class (unset_cells cells) s, At class (next_block class s) 0)
made_so class kind count cells s e f = simp (e, f) refl

-- an outcome that is told is one of a run that is over
pub not_going : (names : Names) (o : Outcome) → outcome_of names o ≡ T.Going → ⊥
not_going names (O.Ended n) e = cc e
not_going names (O.Exited z) e = cc e
not_going names (O.Failed fault f) e = cc e
not_going names O.HistoryEnded e = cc e
not_going names (O.BadHistory n) e = cc e

-- a loop in the middle, in which a pointer arrived, and the same with the block it leads to
module _ (names : Names) (l mid : Loop) (printed : Text) (s : States) (class : Class) (cells : ℕ) (v : Value) (dynamic : ¬ (class ≡ Static)) (made : IsMadeCode s.store (stack_in names l.machine)) (going : s.outcome ≡ T.Going) where
  abbrev p : Form Point
  p = trees (program_in names l)

  abbrev k : Stack Point
  k = stack_in names l.machine

  abbrev grown : States
  grown = with_store s (alloc class (unset_cells cells) s.store)

  -- the answer where the block is there, by the answer without it
  abbrev with_it : Answer (Done Point) → Answer States
  with_it a = (a >>= λ d. Gives (done_with class (unset_cells cells) d)) >>= after_done grown

  reply_is : reply p k v grown ≡ with_it (answered p s.store k v)
  reply_is = ap (λ a. a >>= after_done grown) (answered_alike p class (unset_cells cells) s.store k v dynamic made)

  -- the loop with the block stands as the state with it
  abbrev pub Grows : Loop → Type 0
  Grows new = (t : States) → Stands names mid printed t → Stands names new printed (with_store t (alloc class (unset_cells cells) t.store))

  went_on : (new : Loop) → Grows new → (a : Answer (Done Point)) → Did {E = NoMemory} names (Ok None) mid printed s (settles names l s (a >>= after_done s)) → Did {E = NoMemory} names (Ok None) new printed s (settles names l s (with_it a))
  went_on new grows (Gives (Went t j)) h = grows (record s { store = t; running = Some j }) h
  went_on new grows (Gives (Returned w t)) h = tt
  went_on new grows (Gives (Asks r)) h = tt
  went_on new grows (Faults fault) h = absurd (let g = h.going in cc g)
  went_on new grows NoAnswer h = tt

  -- the block is one of the cells that are live then
  room_in : (a : Answer (Done Point)) → Did {E = NoMemory} names (Ok None) mid printed s (settles names l s (a >>= after_done s)) → (next : States) → settles names l s (with_it a) ≡ Some next
      → store_cells (store_in names mid.machine) + cells ≤ live_cells next
  room_in (Gives (Went t j)) h next e =
      let stored : store_cells t ≡ store_cells (store_in names mid.machine) = ap store_cells h.store in
      let more : store_cells (alloc class (unset_cells cells) t) ≡ store_cells t + length (unset_cells {C = Text} cells) = store_cells-alloc class (unset_cells cells) t in
      let many : length (unset_cells {C = Text} cells) ≡ cells = length-replicate cells Unset in
      let live : store_cells (alloc class (unset_cells cells) t) + frames_registers j.frames ≡ live_cells next = ap live_cells (some_is _ next e) in
      omega (arith, stored, more, many, live)
  room_in (Gives (Returned w t)) h next e = absurd (cc e)
  room_in (Gives (Asks r)) h next e = absurd (cc e)
  room_in (Faults fault) h next e = absurd (let g = h.going in cc g)
  room_in NoAnswer h next e = absurd (cc e)

  gone : (o : Outcome) (a : Answer (Done Point)) → Did {E = NoMemory} names (Ok (Some o)) mid printed s (settles names l s (a >>= after_done s)) → Did {E = NoMemory} names (Ok (Some o)) mid printed s (settles names l s (with_it a))
  gone o (Gives (Went t j)) h = absurd (not_going names o (sym (ap (λ (u : States). u.outcome) h) ∙ going))
  gone o (Gives (Returned w t)) h = tt
  gone o (Gives (Asks r)) h = tt
  gone o (Faults fault) h = h
  gone o NoAnswer h = tt

  module _ (kind : Kind) (count : ℤ) (not_below : int_lt count (pos 0) ≡ false) (counted : unsigned_abs count ≡ cells) (pointer : v ≡ At class (next_block class s.store) 0) where
    replies_is : replies p k (allocated class (Whole kind count) s.store) s ≡ with_it (answered p s.store k v)
    replies_is =
        ap (λ a. replies p k a s) (made_so class kind count cells s.store not_below counted)
        ∙ ap (λ w. reply p k w grown) (sym pointer) ∙ reply_is

    -- the step goes on, and the block was made
    pub made_on : (new : Loop) → Grows new → (o : Option Outcome) → is_some o ≡ false → Did {E = NoMemory} names (Ok o) mid printed s (settles names l s (reply p k v s))
        → Did {E = NoMemory} names (Ok None) new printed s (settles names l s (replies p k (allocated class (Whole kind count) s.store) s))
    made_on new grows (Some o) e h = absurd (cc e)
    made_on new grows None e h = subst (λ a. Did {E = NoMemory} names (Ok None) new printed s (settles names l s a)) (sym replies_is) (went_on new grows (answered p s.store k v) h)

    -- and there is room for it
    pub room_left : (o : Option Outcome) → is_some o ≡ false → Did {E = NoMemory} names (Ok o) mid printed s (settles names l s (reply p k v s))
        → (next : States) → settles names l s (replies p k (allocated class (Whole kind count) s.store) s) ≡ Some next → store_cells (store_in names mid.machine) + cells ≤ live_cells next
    room_left (Some o) e h next goes = absurd (cc e)
    room_left None e h next goes = room_in (answered p s.store k v) h next (subst (λ a. settles names l s a ≡ Some next) replies_is goes)

    -- the pointer could not arrive
    pub made_not : (o : Option Outcome) → is_some o ≡ true → Did {E = NoMemory} names (Ok o) mid printed s (settles names l s (reply p k v s))
        → Did {E = NoMemory} names (Ok o) mid printed s (settles names l s (replies p k (allocated class (Whole kind count) s.store) s))
    made_not None e h = absurd (cc e)
    made_not (Some o) e h = subst (λ a. Did {E = NoMemory} names (Ok (Some o)) mid printed s (settles names l s a)) (sym replies_is) (gone o (answered p s.store k v) h)

-- a block is freed
pub freed_so : (class : Class) (v : Value) (s t : Store) → Ok t ≡ free class v s → freed class v s ≡ Gives (t, Unset)
freed_so class v s t e = simp (sym e) refl

pub freed_answered : (names : Names) (r : Result (Option Outcome) NoMemory) (l mid new : Loop) (f : Name) (printed : Text) (s : States) (class : Class) (v : Value)
    → Ok (store_in names mid.machine) ≡ free class v (store_in names l.machine)
    → program_in names mid ≡ program_in names l → stack_in names mid.machine ≡ stack_in names l.machine → mid.turns ≡ l.turns → mid.jobs ≡ l.jobs → mid.trace ≡ l.trace
    → Acted names l f printed s s
    → ((t : States) → Acted names mid f printed s t → Did names r new printed s (settles names mid s (reply (trees (program_in names mid)) (stack_in names mid.machine) Unset t)))
    → Did names r new printed s (settles names l s (replies (trees (program_in names l)) (stack_in names l.machine) (freed class v s.store) s))
freed_answered names r l mid new f printed s class v e program stack turns jobs trace h answer =
    let t = store_in names mid.machine in
    let done = carried names r l mid new printed s (with_store s t) Unset program stack (answer (with_store s t) (stored names l mid f printed s t stack refl turns jobs trace h)) in
    subst (λ a. Did names r new printed s (settles names l s (replies (trees (program_in names l)) (stack_in names l.machine) a s))) (sym (freed_so class v s.store t (e ∙ ap (free class v) (sym h.store)))) done

-- ---- acts on the lists

-- as many sections are out
held_so : (names : Names) (l mid : Loop) (s : States) (b : A.Agenda Callback) → mid.jobs ≡ l.jobs → (b.sections ≡ s.agenda.sections) × (b.sections_made ≡ s.agenda.sections_made)
    → Holds names l.jobs s.jobs s.agenda.sections_made (A.out s.agenda) → Holds names mid.jobs s.jobs b.sections_made (A.out b)
held_so names l mid s b jobs kept h =
    subst (λ j. Holds names j s.jobs b.sections_made (A.out b)) (sym jobs)
    (subst (λ n. Holds names l.jobs s.jobs n (A.out b)) (sym kept.1)
    (subst (λ xs. Holds names l.jobs s.jobs s.agenda.sections_made (map (λ (x : A.OnSection Callback). x.section) xs)) (sym kept.0) h))

-- the lists are others, in which as many sections are out
pub same_agenda : (names : Names) (l mid : Loop) (s : States) (b : A.Agenda Callback) → mid.turns.polls.now ≡ l.turns.polls.now → mid.jobs ≡ l.jobs
    → SameAgenda (IsCallback names) (lists_in names mid) b → (b.sections ≡ s.agenda.sections) × (b.sections_made ≡ s.agenda.sections_made) → HasLists names l s → HasLists names mid (with_agenda s b)
same_agenda names l mid s b polls jobs same kept h = record {
  agenda = same;
  polls = h.polls ∙ ap (map told_of) (sym polls);
  held = held_so names l mid s b jobs kept h.held;
  bound_so = h.bound_so ∙ ap (λ (j : Jobs). j.bound) (sym jobs);
}

-- the same of a state whose code asked
pub relisted : (names : Names) (l mid : Loop) (f : Name) (printed : Text) (s : States) (b : A.Agenda Callback) → mid.machine ≡ l.machine → mid.trace ≡ l.trace → mid.turns.polls.now ≡ l.turns.polls.now → mid.jobs ≡ l.jobs
    → SameAgenda (IsCallback names) (lists_in names mid) b → (b.sections ≡ s.agenda.sections) × (b.sections_made ≡ s.agenda.sections_made) → Acted names l f printed s s → Acted names mid f printed s (with_agenda s b)
relisted names l mid f printed s b machine trace polls jobs same kept h = record {
  store = h.store ∙ ap (store_in names) (sym machine);
  asks = h.asks ∙ ap (λ m. Some (stack_in names m)) (sym machine);
  name = h.name ∙ ap (λ m. running_function (stack_in names m)) (sym machine);
  lists = same_agenda names l mid s b polls jobs same kept h.lists;
  printed_so = ap (λ x. shown x s.trace) trace ∙ h.printed_so;
  going = h.going;
}

-- a condition is made
pub condition_made : (names : Names) (l mid : Loop) (f : Name) (printed : Text) (s : States) → mid.machine ≡ l.machine → mid.trace ≡ l.trace → mid.turns.polls.now ≡ l.turns.polls.now → mid.jobs ≡ l.jobs
    → lists_in names mid ≡ A.cond_new (lists_in names l) → Acted names l f printed s s → Acted names mid f printed s (with_agenda s (A.cond_new s.agenda))
condition_made names l mid f printed s machine trace polls jobs e h =
    relisted names l mid f printed s (A.cond_new s.agenda) machine trace polls jobs
    (subst (λ a. SameAgenda (IsCallback names) a (A.cond_new s.agenda)) (sym e) (cond_same (IsCallback names) (lists_in names l) s.agenda h.lists.agenda)) (refl, refl) h

-- an act on the lists of the code, which is done, is that of the definition
module _ (names : Names) (l mid new : Loop) (f : Name) (result : Result (Option Outcome) NoMemory) (s : States) (u : Result (A.Agenda Item) Fault) (v : Result (A.Agenda Callback) Fault)
    (same : SameResult (IsCallback names) u v) (kept : KeepsSections s.agenda v) (done : u ≡ Ok (lists_in names mid))
    (machine : mid.machine ≡ l.machine) (trace : mid.trace ≡ l.trace) (polls : mid.turns.polls.now ≡ l.turns.polls.now) (jobs : mid.jobs ≡ l.jobs) where
  act_done : (b : A.Agenda Callback) × (v ≡ Ok b) × SameAgenda (IsCallback names) (lists_in names mid) b
  act_done = ok_same (IsCallback names) u v same (lists_in names mid) done

  act_acted : (before : Text) → Acted names l f before s s → Acted names mid f before s (with_agenda s act_done.0)
  act_acted before h = relisted names l mid f before s act_done.0 machine trace polls jobs act_done.2 (subst (KeepsSections s.agenda) act_done.1 kept) h

  -- the answer goes on from there
  abbrev pub Answers : Text → (States → States) → Text → Type 0
  Answers before g after = (t : States) → Acted names mid f before s t → Did names result new after s (settles names mid s (reply (trees (program_in names mid)) (stack_in names mid.machine) Unset (g t)))

  answered_from : (t : States) (after : Text) → Did names result new after s (settles names mid s (reply (trees (program_in names mid)) (stack_in names mid.machine) Unset t))
      → Did names result new after s (settles names l s (reply (trees (program_in names l)) (stack_in names l.machine) Unset t))
  answered_from t after h = carried names result l mid new after s t Unset (ap (items_in names) machine) (ap (stack_in names) machine) h

  pub acts_so : (before after : Text) → Acted names l f before s s → Answers before (λ t. t) after → Did names result new after s (settles names l s (acts (trees (program_in names l)) (stack_in names l.machine) v s))
  acts_so before after h answer =
      subst (λ r. Did names result new after s (settles names l s (acts (trees (program_in names l)) (stack_in names l.machine) r s))) (sym act_done.1)
      (answered_from (with_agenda s act_done.0) after (answer (with_agenda s act_done.0) (act_acted before h)))

  pub acts_marked : (m : Mark) (before after : Text) → Acted names l f before s s → Answers before (marks m) after
      → Did names result new after s (settles names l s (acts (trees (program_in names l)) (stack_in names l.machine) v (marks m s)))
  acts_marked m before after h answer =
      subst (λ r. Did names result new after s (settles names l s (acts (trees (program_in names l)) (stack_in names l.machine) r (marks m s)))) (sym act_done.1)
      (answered_from (marks m (with_agenda s act_done.0)) after (answer (with_agenda s act_done.0) (act_acted before h)))

-- an act that the lists of the code refuse is refused
pub refused_so : (names : Names) (l new : Loop) (f : Name) (before after : Text) (s t : States) (u : Result (A.Agenda Item) Fault) (v : Result (A.Agenda Callback) Fault) (fault : Fault) → SameResult (IsCallback names) u v → u ≡ Err fault
    → Acted names l f before s s → Did {E = NoMemory} names (Ok (Some (O.Failed fault f))) new after s (settles names l s (acts (trees (program_in names l)) (stack_in names l.machine) v t))
refused_so names l new f before after s t u v fault same e h =
    subst (λ r. Did {E = NoMemory} names (Ok (Some (O.Failed fault f))) new after s (settles names l s (acts (trees (program_in names l)) (stack_in names l.machine) r t))) (sym (err_same (IsCallback names) u v same fault e))
    (ap (λ x. ends (T.Failed fault (before_underscores x)) s) (ap fault_function h.asks ∙ sym h.name))
