-- A section that is submitted: its copy, its job and its item.
use Rattle.std.proofs.Common.{◌≡◌, ℕ, suc, Bool, true, false, cond, nat_lt, length, List, [], ◌∷◌, ◌++◌, map, Option, Some, None, Result, Ok, Err, refl, sym, ap, subst, ◌∙◌}
use Rattle.std.proofs.lemmas.List.{map-append}
use Rattle.cpc_base.specs.Bytes.{Text}
use Rattle.cpc_base.specs.declared.names.Name.{Name}
use Rattle.cpc_base.specs.declared.stop.NoMemory.{NoMemory}
use Rattle.cpc_base.specs.declared.stop.Stop.{Stop}
use Rattle.cpc_base.specs.declared.stop.Stop.TheVariants as W
use Rattle.cpc_num.specs.declared.kinds.Fault.{Fault}
use Rattle.cpc_num.specs.declared.kinds.Fault.TheVariants as F
use Rattle.cpc_tree.specs.Erase.{Names}
use Rattle.cpc_tree.specs.Lists.{first_or, rest_of}
use Rattle.cpc_tree.specs.Points.{Point}
use Rattle.cpc_tree.specs.Syntax.{Function, Program}
use Rattle.cpc_tree.specs.Trace as T
use Rattle.cpc_tree.specs.Typing.{function_named}
use Rattle.cpc_store.specs.Store.{Store, Value, Unset}
use Rattle.cpc_meaning.specs.Agenda as A
use Rattle.cpc_meaning.specs.Answer.{Answer, Gives, Faults, NoAnswer, ◌>>=◌, of_result, needed}
use Rattle.cpc_meaning.specs.Copies.{copy_of}
use Rattle.cpc_meaning.specs.Events.{Callback}
use Rattle.cpc_meaning.specs.Machine.{ends, fault_function, marks, reply}
use Rattle.cpc_meaning.specs.Plain.{Stack, running_function}
use Rattle.cpc_meaning.specs.Section.{Job}
use Rattle.cpc_meaning.specs.Start.{before_underscores}
use Rattle.cpc_meaning.specs.Trees.{trees}
use Rattle.cpc_meaning.proofs.Agendas.{SameAgenda, SameResult, sectioned}
use Rattle.cpc_history_marks.specs.Views.{told_of}
use Rattle.cpc_run_jobs.specs.Holding.{Holds, SubmitsAs, items_of}
use Rattle.cpc_run_code.specs.declared.items.Item.{Item}
use Rattle.cpc_run.specs.declared.looped.Loop.{Loop}
use Rattle.cpc_run_shown.specs.declared.outcome.Outcome.{Outcome}
use Rattle.cpc_run_shown.specs.declared.outcome.Outcome.TheVariants as O
use Rattle.cpc_run_code.specs.Code.{items_in, store_in, stack_in}
use Rattle.cpc_run.specs.Sections.{submitted}
use Rattle.cpc_run_shown.specs.Shown.{shown}
use Rattle.cpc_run.specs.States.{States, IsCallback, Fits, HasLists, Did, Acted, callback_of, lists_in, settles, program_in}
use Rattle.cpc_run.proofs.Alike.{ok_same, err_same}
use Rattle.cpc_run.proofs.Asks.{carried}
use Rattle.cpc_run.proofs.Steps.{nothing}

-- ---- the lists

-- one more section is out
abbrev OneMore : {T : Type 0} → A.Agenda T → A.Agenda T → Type 0
OneMore a b = (b.sections_made ≡ suc a.sections_made) × (A.out b ≡ A.out a ++ a.sections_made ∷ [])

one_more : {T : Type 0} (item : T) (a b : A.Agenda T) → A.section item a ≡ Ok b → OneMore a b
one_more {T} item a b e = go (nat_lt (length a.sections) 1024) e
  where
    with_it : A.Agenda T
    with_it = record a { sections = a.sections ++ record { item = item; section = a.sections_made } ∷ []; sections_made = suc a.sections_made }

    go : (t : Bool) → cond t (Ok with_it) (Err F.Sections) ≡ Ok b → OneMore a b
    go true e =
        let is : with_it ≡ b = cc e in
        subst (OneMore a) is (refl, map-append (λ (x : A.OnSection T). x.section) a.sections (record { item = item; section = a.sections_made } ∷ []))
    go false e = absurd (cc e)

-- ---- the step

module _ (names : Names) (l new : Loop) (f called : Name) (item : Item) (vs : List Value) (before after : Text) (s : States) (h : Acted names l f before s s) where
  abbrev p : Program
  p = program_in names l

  abbrev k : Stack Point
  k = stack_in names l.machine

  abbrev callback : Callback
  callback = callback_of names item

  abbrev job : List Value → Job
  job cells = record { number = s.agenda.sections_made; function = names called; arguments = rest_of vs; cells = cells; pointer = first_or Unset vs }

  -- the state with the section
  abbrev with_job : A.Agenda Callback → List Value → States
  with_job a cells = record s { agenda = a; jobs = s.jobs ++ job cells ∷ [] }

  -- what is left of the step, once the cells are copied, the function is found, and the item waits
  abbrev copied : A.Agenda Callback → Answer (List Value) → Answer States
  copied a c = c >>= λ cells. Gives (marks (T.Submitted s.agenda.sections_made (names called)) (with_job a cells))

  abbrev found : A.Agenda Callback → Option Function → Answer States
  found a o = needed o >>= λ g. copied a (copy_of p g (first_or Unset vs) s.store)

  abbrev waited : Result (A.Agenda Callback) Fault → Answer States
  waited r = of_result r >>= λ a. found a (function_named p (names called))

  abbrev replied : Answer States → Answer States
  replied a = a >>= λ t. reply (trees p) k Unset t

  pub same : SameResult (IsCallback names) (A.section item (lists_in names l)) (A.section callback s.agenda)
  same = sectioned (IsCallback names) item callback (lists_in names l) s.agenda refl h.lists.agenda

  fault_is : (fault : Fault) → ends (T.Failed fault (before_underscores (fault_function s.running))) s ≡ ends (T.Failed fault (before_underscores (names f))) s
  fault_is fault = ap (λ x. ends (T.Failed fault (before_underscores x)) s) (ap fault_function h.asks ∙ sym h.name)

  -- too many are out
  pub submit_refused : (fault : Fault) → A.section item (lists_in names l) ≡ Err fault
      → Did {E = NoMemory} names (Ok (Some (O.Failed fault f))) new after s (settles names l s (submitted (trees p) (names called) vs callback k s))
  submit_refused fault e =
      subst (λ r. Did {E = NoMemory} names (Ok (Some (O.Failed fault f))) new after s (settles names l s (replied (waited r)))) (sym (err_same (IsCallback names) _ _ same fault e)) (fault_is fault)

  -- the item waits, and the cells were copied so
  module _ (mid : Loop) (fits : Fits names l) (waits : A.section item (lists_in names l) ≡ Ok (lists_in names mid)) (result : Result (Unit {0}) (Stop Fault)) (number : ℕ) (pointer : Value) (others : List Value) (store : Store)
      (is_number : number ≡ s.agenda.sections_made) (is_pointer : pointer ≡ first_or Unset vs) (is_others : others ≡ rest_of vs) (is_store : store ≡ store_in names l.machine)
      (submits : (g : Function) → function_named (items_of names l.jobs) (names called) ≡ Some g
      → SubmitsAs names mid.jobs result s.jobs number (A.out s.agenda) (λ cells. record { number = number; function = names called; arguments = others; cells = cells; pointer = pointer }) (copy_of (items_of names l.jobs) g pointer store)) where
    pub done : (b : A.Agenda Callback) × (A.section callback s.agenda ≡ Ok b) × SameAgenda (IsCallback names) (lists_in names mid) b
    done = ok_same (IsCallback names) _ _ same (lists_in names mid) waits

    abbrev Submits : Answer (List Value) → Type 0
    Submits c = SubmitsAs names mid.jobs result s.jobs s.agenda.sections_made (A.out s.agenda) job c

    -- the same, as the state has it
    submits_so : (g : Function) → function_named p (names called) ≡ Some g → Submits (copy_of p g (first_or Unset vs) s.store)
    submits_so g e =
        subst (λ q. function_named q (names called) ≡ Some g → Submits (copy_of q g (first_or Unset vs) s.store)) fits.items
        (λ found. subst (λ t. Submits (copy_of (items_of names l.jobs) g (first_or Unset vs) t)) (is_store ∙ sym h.store)
        (subst (λ v. SubmitsAs names mid.jobs result s.jobs s.agenda.sections_made (A.out s.agenda) (λ cells. record { number = s.agenda.sections_made; function = names called; arguments = rest_of vs; cells = cells; pointer = v }) (copy_of (items_of names l.jobs) g v store)) is_pointer
        (subst (λ ws. SubmitsAs names mid.jobs result s.jobs s.agenda.sections_made (A.out s.agenda) (λ cells. record { number = s.agenda.sections_made; function = names called; arguments = ws; cells = cells; pointer = pointer }) (copy_of (items_of names l.jobs) g pointer store)) is_others
        (subst (λ n. SubmitsAs names mid.jobs result s.jobs n (A.out s.agenda) (λ cells. record { number = n; function = names called; arguments = others; cells = cells; pointer = pointer }) (copy_of (items_of names l.jobs) g pointer store)) is_number
        (submits g found))))) e

    -- the copy faults
    broke : (fault : Fault) → result ≡ Err (W.Fault fault) → (c : Answer (List Value)) → Submits c → Did {E = NoMemory} names (Ok (Some (O.Failed fault f))) new after s (settles names l s (replied (copied done.0 c)))
    broke fault e (Gives cells) i = absurd (subst (λ r. SubmitsAs names mid.jobs r s.jobs s.agenda.sections_made (A.out s.agenda) job (Gives cells)) e i)
    broke fault e (Faults other) i =
        let is = subst (λ r. SubmitsAs names mid.jobs r s.jobs s.agenda.sections_made (A.out s.agenda) job (Faults other)) e i in
        subst (λ x. ends (T.Failed x (before_underscores (fault_function s.running))) s ≡ ends (T.Failed fault (before_underscores (names f))) s) is (fault_is fault)
    broke fault e NoAnswer i = tt

    pub submit_broke : (fault : Fault) → result ≡ Err (W.Fault fault) → Did {E = NoMemory} names (Ok (Some (O.Failed fault f))) new after s (settles names l s (submitted (trees p) (names called) vs callback k s))
    submit_broke fault e =
        subst (λ r. Did {E = NoMemory} names (Ok (Some (O.Failed fault f))) new after s (settles names l s (replied (waited r)))) (sym done.1) (go (function_named p (names called)) refl)
      where
        go : (o : Option Function) → function_named p (names called) ≡ o → Did {E = NoMemory} names (Ok (Some (O.Failed fault f))) new after s (settles names l s (replied (found done.0 o)))
        go None i = tt
        go (Some g) i = broke fault e (copy_of p g (first_or Unset vs) s.store) (submits_so g i)

    -- the section waits, and its mark goes out
    module _ (r : Result (Option Outcome) NoMemory) (machine : mid.machine ≡ l.machine) (trace : mid.trace ≡ l.trace) (polls : mid.turns.polls.now ≡ l.turns.polls.now) (bound : mid.jobs.bound ≡ l.jobs.bound)
        (u : Unit {0}) (well : result ≡ Ok u)
        (answer : (t : States) → Acted names mid f after s t → Did names r new after s (settles names mid s (reply (trees (program_in names mid)) (stack_in names mid.machine) Unset t))) where
      more : OneMore s.agenda done.0
      more = one_more callback s.agenda done.0 done.1

      lists : (cells : List Value) → Holds names mid.jobs (s.jobs ++ job cells ∷ []) (suc s.agenda.sections_made) (A.out s.agenda ++ s.agenda.sections_made ∷ []) → HasLists names mid (with_job done.0 cells)
      lists cells held = record {
        agenda = done.2;
        polls = h.lists.polls ∙ ap (map told_of) (sym polls);
        held = subst (λ n. Holds names mid.jobs (s.jobs ++ job cells ∷ []) n (A.out done.0)) (sym more.0)
            (subst (λ ns. Holds names mid.jobs (s.jobs ++ job cells ∷ []) (suc s.agenda.sections_made) ns) (sym more.1) held);
        bound_so = h.lists.bound_so ∙ sym bound;
      }

      acted : (cells : List Value) → Holds names mid.jobs (s.jobs ++ job cells ∷ []) (suc s.agenda.sections_made) (A.out s.agenda ++ s.agenda.sections_made ∷ []) → Acted names mid f before s (with_job done.0 cells)
      acted cells held = record {
        store = h.store ∙ ap (store_in names) (sym machine);
        asks = h.asks ∙ ap (λ m. Some (stack_in names m)) (sym machine);
        name = h.name ∙ ap (λ m. running_function (stack_in names m)) (sym machine);
        lists = lists cells held;
        printed_so = ap (λ b. shown b s.trace) trace ∙ h.printed_so;
        going = h.going;
      }

      went : ((cells : List Value) → Acted names mid f before s (with_job done.0 cells) → Acted names mid f after s (marks (T.Submitted s.agenda.sections_made (names called)) (with_job done.0 cells)))
          → (c : Answer (List Value)) → Submits c → Did names r new after s (settles names l s (replied (copied done.0 c)))
      went mark (Gives cells) i =
          let held = subst (λ x. SubmitsAs names mid.jobs x s.jobs s.agenda.sections_made (A.out s.agenda) job (Gives cells)) well i in
          let t = marks (T.Submitted s.agenda.sections_made (names called)) (with_job done.0 cells) in
          carried names r l mid new after s t Unset (ap (items_in names) machine) (ap (stack_in names) machine) (answer t (mark cells (acted cells held)))
      went mark (Faults fault) i = absurd (subst (λ x. SubmitsAs names mid.jobs x s.jobs s.agenda.sections_made (A.out s.agenda) job (Faults fault)) well i)
      went mark NoAnswer i = nothing names r new after s

      pub submit_done : ((cells : List Value) → Acted names mid f before s (with_job done.0 cells) → Acted names mid f after s (marks (T.Submitted s.agenda.sections_made (names called)) (with_job done.0 cells)))
          → Did names r new after s (settles names l s (submitted (trees p) (names called) vs callback k s))
      submit_done mark = subst (λ x. Did names r new after s (settles names l s (replied (waited x)))) (sym done.1) (go (function_named p (names called)) refl)
        where
          go : (o : Option Function) → function_named p (names called) ≡ o → Did names r new after s (settles names l s (replied (found done.0 o)))
          go None i = nothing names r new after s
          go (Some g) i = went mark (copy_of p g (first_or Unset vs) s.store) (submits_so g i)
