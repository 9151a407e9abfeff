-- The ends of a run, and its beginning.
use Rattle.std.proofs.Common.{◌≡◌, ◌≢◌, min, inl, inr, ℕ, ◌+◌, ◌<◌, length, Bool, true, false, List, [], ◌∷◌, ◌++◌, map, cond, bytes_eq, Option, Some, None, refl, sym, ap, subst, ◌∙◌, arith}
use Rattle.std.proofs.Math.Logic.{∥∥₁_elim}
use Rattle.std.proofs.Math.Nat.{add-zero}
use Rattle.std.proofs.lemmas.Option.{get_or_from_slice_get, slice_get_within}
use Rattle.std.specs.Prelude.{slice_get}
use Rattle.cpc_base.specs.Bytes.{Text}
use Rattle.cpc_base.specs.declared.names.Name.{Name}
use Rattle.cpc_base.specs.declared.stop.Dialect.{Dialect}
use Rattle.cpc_base.specs.declared.stop.Dialect.TheVariants as D
use Rattle.cpc_base.proofs.Pieces.{append_known-nil}
use Rattle.cpc_tree.specs.Erase.{Names, Table, function_of, in_table, item_of, program_of}
use Rattle.cpc_tree.specs.Locate.{located}
use Rattle.cpc_tree.specs.Syntax.{Program}
use Rattle.cpc_tree.specs.Trace as T
use Rattle.cpc_tree.specs.Typing.{function_named}
use Rattle.cpc_tree.specs.declared.program.Function.{Function as GFunction}
use Rattle.cpc_tree.specs.declared.program.Item as GItem
use Rattle.cpc_tree.specs.declared.program.Item.TheVariants as J
use Rattle.cpc_tree.specs.declared.program.Program as GProgram
use Rattle.cpc_tree.proofs.Places.{bare_program}
use Rattle.cpc_check_rules.specs.Apart.{Spells}
use Rattle.cpc_check_rules.specs.Rules.{breaks}
use Rattle.cpc_store.specs.Store.{empty_store, store_cells}
use Rattle.cpc_meaning_matching.specs.Systems.{NotStuck}
use Rattle.cpc_meaning.specs.Agenda as A
use Rattle.cpc_meaning.specs.Events.{CallMain, callbacks}
use Rattle.cpc_meaning.specs.History.{History}
use Rattle.cpc_meaning.specs.Machine.{IsStuck, try_step, unless_over}
use Rattle.cpc_meaning.specs.Matching.{event_system}
use Rattle.cpc_meaning.specs.Runs.{live_cells}
use Rattle.cpc_meaning.specs.Start.{main_name, opening, globals, make_globals}
use Rattle.cpc_meaning.specs.Trees.{trees}
use Rattle.cpc_meaning.proofs.Agendas.{SameAgenda, readies_all}
use Rattle.cpc_meaning.proofs.Both.{Ends, Goes}
use Rattle.cpc_check.specs.Accepted.{IsRead}
use Rattle.cpc_check_laws.specs.Sound.Promises.{AcceptedCallbacksNeverStuck}
use Rattle.cpc_native_builtins.specs.Served.{is_served_program}
use Rattle.cpc_check_served_laws.specs.Laws.{AcceptedAreServed}
use Rattle.cpc_history_marks.specs.declared.marks.Told.{Told}
use Rattle.cpc_history_marks.specs.Views.{told_of}
use Rattle.cpc_agenda.specs.Lists.{lists_of}
use Rattle.cpc_agenda_turns.specs.declared.turns.Turns.{Turns}
use Rattle.cpc_run_jobs.specs.declared.jobs.Jobs.{Jobs}
use Rattle.cpc_run_jobs.specs.Holding.{Holds}
use Rattle.cpc_run_code.specs.declared.items.Item.{Item}
use Rattle.cpc_run_code.specs.declared.items.Item.TheVariants as I
use Rattle.cpc_run.specs.declared.looped.Loop.{Loop}
use Rattle.cpc_run_shown.specs.declared.outcome.Ended.TheVariants as E
use Rattle.cpc_run_shown.specs.declared.outcome.Limits.{Limits}
use Rattle.cpc_run_shown.specs.declared.outcome.RunReport.{RunReport}
use Rattle.cpc_run_shown.specs.Shown.{shown}
use Rattle.cpc_run.specs.States.{IsCallback, SameLists, Stands}
use Rattle.cpc_run.specs.Reports.{NeverStuck, Begins, Opened, EndsSo, IsBrokenOff, IsLeft, KeepsFirst, Tells, Wrote, run_of}
use Rattle.cpc_run_code.proofs.Making.{first_made}
use Rattle.cpc_run_shown.proofs.Marks.{nothing_shown}
use Rattle.cpc_run.proofs.Runs.{AtEnd, ends_told}
use Rattle.cpc_run.proofs.Weighed.{uncapped}

-- ---- names

-- a name of the table has its text
pub text_is : (names : Names) (table : Table) (name : Name) (text : Text) → Spells table names → slice_get table name.0 ≡ Some text → names name ≡ text
text_is names table name text spells e = spells.inside name (slice_get_within table name.0 text e) ∙ get_or_from_slice_get table name.0 text [] e

-- the name of `main` has its text
pub main_is : (names : Names) (table : Table) (name : Name) → Spells table names → slice_get table name.0 ≡ Some main_name → names name ≡ main_name
main_is names table name spells e = text_is names table name main_name spells e

-- an item that declares no function
pub no_function : (names : Names) (item : GItem.Item) (x : Text) → ((f : GFunction) → item ≡ J.Function f → ⊥) → (rest : Program) → function_named (item_of names item ∷ rest) x ≡ function_named rest x
no_function names (J.Struct tag fields) x h rest = refl
no_function names (J.Global w t start) x h rest = refl
no_function names (J.Prototype q mode w r ps) x h rest = refl
no_function names (J.Function f) x h rest = absurd (h f refl)

-- and one that declares another
pub other_function : (names : Names) (f : GFunction) (x : Text) → bytes_eq (names f.word.name) x ≡ false → (rest : Program) → function_named (item_of names (J.Function f) ∷ rest) x ≡ function_named rest x
other_function names f x e rest = ap (λ b. cond b (Some (function_of names f)) (function_named rest x)) e

-- ---- the beginning

none_taken : (n : ℕ) → n ≡ 0 + n
none_taken n = omega arith

-- no step was made
broken_first : (q : Program) (h : History) (limits : Limits) → IsBrokenOff q h limits.steps 0
broken_first q h limits = record { within = omega arith; going = λ m lt. absurd (omega (arith, lt)) }

-- memory was wanting before the first state
pub starved_first : (names : Names) (q : Program) (h : History) (limits : Limits) (trace : Bool) (told : Option Text) → Wrote told told (Tells names q h limits trace (record { ended = E.Memory; steps = 0; cells = 0; polls = 0 }))
starved_first names q h limits trace told = (
  [],
  sym (append_known-nil told),
  record {
    left = broken_first q h limits;
    wrote = record { rest = shown trace (run_of q h 0).trace; whole = refl };
    cells = inr (refl, refl, refl);
    bounded = λ m pos le. absurd (omega arith);
    first = λ starved. inr (inr refl);
    polls = none_taken (length h.polls);
  },
)

-- nothing was put out in the first state
pub at_first : (q : Program) (h : History) (limits : Limits) (trace : Bool) (first : ℕ) (whole : Text) → whole ≡ [] → first ≡ live_cells (run_of q h 0) → AtEnd q h limits trace 0 first 0 whole
at_first q h limits trace first whole none e = record { wrote = none ∙ sym (nothing_shown trace); cells_are = e; bounded = λ m pos le. absurd (omega arith); polls_are = none_taken (length h.polls); broken_off = broken_first q h limits }

-- the first state has too many cells
pub full_first : (table : Table) (q : Program) (h : History) (limits : Limits) (trace : Bool) (first : ℕ) (due result : RunReport) (pending : Text) (told now : Option Text) → due ≡ record { ended = E.Full first; steps = 0; cells = first; polls = 0 }
    → first ≡ live_cells (run_of q h 0) → limits.cells < first → pending ≡ [] → result ≡ record due { ended = result.ended } → Wrote told now (λ o. EndsSo table trace due.ended result.ended o ([] ++ pending))
    → Wrote told now (Tells (in_table table) q h limits trace result)
full_first table q h limits trace first due result pending told now is e lt none same wrote =
    let at : AtEnd q h limits trace due.steps due.cells due.polls pending = subst (λ d. AtEnd q h limits trace d.steps d.cells d.polls pending) (sym is) (at_first q h limits trace first pending none e) in
    let left : IsLeft (in_table table) q h limits due.steps due.ended = subst (λ d. IsLeft (in_table table) q h limits d.steps d.ended) (sym is) (inr (refl, lt, e)) in
    let first = subst (λ d. KeepsFirst q h limits.cells d.ended) (sym is) tt in
    ends_told table q h limits trace due result pending told now (λ i. left) first at same wrote

-- ---- never stuck

not_stuck : (q : Program) (h : History) (n : ℕ) → NotStuck T.is_over (event_system (trees q) h) (run_of q h n) → IsStuck (callbacks q) (run_of q h n) → ⊥
not_stuck q h n (inl over) (going, none) = let e : true ≡ false = sym over ∙ ap T.is_over going in cc
not_stuck q h n (inr (t, next)) (going, none) =
    let e : None ≡ Some t = sym (ap (λ o. unless_over o (try_step (callbacks q) (run_of q h n))) going ∙ none) ∙ next in cc

-- the run of a checked event program is never stuck
pub checked_never_stuck : AcceptedCallbacksNeverStuck → (p : GProgram.Program) (dialect : Dialect) (h : History) → dialect ≡ D.Event → ∥ IsRead dialect (located p) ∥₁ → breaks dialect (located p) ≡ [] → NeverStuck (program_of p) h
checked_never_stuck law p dialect h e read unbroken n stuck =
    let read_so = subst (λ d. ∥ IsRead d (located p) ∥₁) e read in
    let unbroken_so = subst (λ d. breaks d (located p) ≡ []) e unbroken in
    ∥∥₁_elim read_so (λ x y. absurd x) (λ (r : IsRead D.Event (located p)).
    let parses = r.parses in
    not_stuck (program_of p) h n (subst (λ q. NotStuck T.is_over (event_system (trees q) h) (run_of q h n)) (bare_program p) ((law parses.0 _ (located p) parses.2 unbroken_so h).here n)) stuck)

-- a checked event program asks only for what the loop answers
pub checked_served : AcceptedAreServed → (p : GProgram.Program) (dialect : Dialect) → dialect ≡ D.Event → ∥ IsRead dialect (located p) ∥₁ → breaks dialect (located p) ≡ [] → is_served_program (program_of p) ≡ true
checked_served law p dialect e read unbroken = go (is_served_program (program_of p)) refl
  where
    not_false : is_served_program (program_of p) ≡ false → ⊥
    not_false i =
        let read_so = subst (λ d. ∥ IsRead d (located p) ∥₁) e read in
        let unbroken_so = subst (λ d. breaks d (located p) ≡ []) e unbroken in
        ∥∥₁_elim read_so (λ x y. absurd x) (λ (r : IsRead D.Event (located p)).
        let parses = r.parses in
        let served : is_served_program (program_of p) ≡ true = subst (λ q. is_served_program q ≡ true) (bare_program p) (law parses.0 _ (located p) parses.2 unbroken_so) in
        let both : false ≡ true = sym i ∙ served in
        cc)

    go : (b : Bool) → is_served_program (program_of p) ≡ b → is_served_program (program_of p) ≡ true
    go true i = i
    go false i = absurd (not_false i)

-- ---- the first state

none_there : (names : Names) → SameAgenda (IsCallback names) A.new_agenda A.new_agenda
none_there names = record {
  ready = Ends;
  round = Ends;
  waiters = Ends;
  descriptors = Ends;
  timers = Ends;
  sections = Ends;
  live = refl;
  now = refl;
  conditions_made = refl;
  timers_made = refl;
  sections_made = refl;
}

-- the call of `main` is ready, and nothing waits
pub main_ready : (names : Names) (t : Turns Item) (j : Jobs) (polls : List Told) (bound : ℕ) → polls ≡ t.polls.now → j.bound ≡ bound → Holds names j [] 0 [] → lists_of names t.agenda ≡ A.ready_one I.Main A.new_agenda
    → SameLists names t j (A.ready_one CallMain A.new_agenda) (map told_of polls) bound []
main_ready names t j polls bound same bounded held e = record {
  agenda = subst (λ a. SameAgenda (IsCallback names) a (A.ready_one CallMain A.new_agenda)) (sym e) (readies_all (IsCallback names) (I.Main ∷ []) (CallMain ∷ []) A.new_agenda A.new_agenda (Goes I.Main CallMain [] [] refl Ends) (none_there names));
  polls = ap (map told_of) same;
  held = held;
  bound_so = sym bounded;
}

first_stands : (names : Names) (p : GProgram.Program) (h : History) (l : Loop) → Opened names p h l → map (item_of names) p.items.items ≡ program_of p → Stands names l [] (run_of (program_of p) h 0)
first_stands names p h l opened same = subst (λ q. Stands names l [] (opening q CallMain h)) same opened.stands

-- the live cells of the first state are those of the globals
opened_cells : (q : Program) (h : History) → live_cells (run_of q h 0) ≡ store_cells (globals (make_globals q q empty_store))
opened_cells q h = add-zero (store_cells (globals (make_globals q q empty_store)))

-- they are counted where there are fewer than the greatest number
pub first_counted : (names : Names) (p : GProgram.Program) (h : History) (first greatest : ℕ) → map (item_of names) p.items.items ≡ program_of p
    → first ≡ min (store_cells (globals (make_globals (map (item_of names) p.items.items) (map (item_of names) p.items.items) empty_store))) greatest → first ≢ greatest → first ≡ live_cells (run_of (program_of p) h 0)
first_counted names p h first greatest same e ne =
    let counted : first ≡ min (live_cells (run_of (program_of p) h 0)) greatest =
    e ∙ ap (λ (q : Program). min (store_cells (globals (make_globals q q empty_store))) greatest) same ∙ ap (λ n. min n greatest) (sym (opened_cells (program_of p) h)) in
    uncapped first (live_cells (run_of (program_of p) h 0)) greatest counted ne

-- the first state of a run
pub begins : (names : Names) (p : GProgram.Program) (h : History) (l : Loop) (first : ℕ) → Opened names p h l → map (item_of names) p.items.items ≡ program_of p → NeverStuck (program_of p) h
    → first ≡ live_cells (run_of (program_of p) h 0) → Begins names (program_of p) h l first
begins names p h l first opened same stuck counted = record {
  fits = opened.fits;
  program = opened.items ∙ same;
  never_stuck = stuck;
  stands = first_stands names p h l opened same;
  cells_are = counted;
  polls = opened.polls;
  made = first_made (program_of p) h;
}
