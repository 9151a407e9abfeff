-- The rows between the lifted run and the event run, whose ends are states that stand for each other.
use Rattle.std.proofs.Common.{◌≡◌, ◌⊎◌, inl, inr, ⊎_elim, ℕ, zero, suc, ◌+◌, ◌≤◌, Bool, true, false, List, [], ◌++◌, length, Option, Some, None, option_map, is_some, refl, sym, ◌∙◌, ap, subst, arith}
use Rattle.std.specs.List.{All}
use Rattle.std.proofs.lemmas.List.Elements.{All-head}
use Rattle.cpc_store.specs.Store.{Store, Blocks, empty_store, cells_in}
use Rattle.cpc_tree.specs.declared.program.Mode.TheVariants.{Native, Cps}
use Rattle.cpc_tree.specs.Syntax.{Program}
use Rattle.cpc_tree.specs.Points.{Point}
use Rattle.cpc_tree.specs.Trace.{Mark, Outcome, Going, Ended, Exited, Failed, HistoryEnded, BadHistory, is_over}
use Rattle.cpc_tree.specs.Typing.{function_named}
use Rattle.cpc_meaning_matching.specs.Simulation.{Rows, Path, Last, More, one}
use Rattle.cpc_meaning_matching.specs.Systems.{System, run, Alike, Goes as Moves, NeverStuck}
use Rattle.cpc_meaning_matching.proofs.Paths.{path_map, path_wider, rows_of_paths}
use Rattle.cpc_meaning_matching.proofs.Systems.{over_stays}
use Rattle.cpc_meaning.specs.Agenda.{Due, Agenda, begin_round}
use Rattle.cpc_meaning.specs.History.{History}
use Rattle.cpc_meaning.specs.Matching.{event_system}
use Rattle.cpc_meaning.specs.Runs.{cost, registers, live_cells}
use Rattle.cpc_meaning.specs.Start.{main_name, globals, make_globals}
use Rattle.cpc_meaning.specs.Threads.{Thread, Pending, is_cps_mode, threads_of}
use Rattle.cpc_meaning.specs.Machine.{next, settled, code_step, step_running, unless_over}
use Rattle.cpc_meaning.specs.Plain.{Stack}
use Rattle.cpc_meaning.specs.Events.{Callback, CallMain, callbacks, callbacks_of}
use Rattle.cpc_meaning.specs.Trees.{trees}
use Rattle.cpc_meaning.proofs.Connect.{machine_ends}
use Rattle.cpc_forms.specs.Split.{Position, split_form}
use Rattle.cpc_lift_laws.specs.Lifted.{tidy, tidy_running}
use Rattle.cpc_lift_laws.proofs.Lifting.{lifted_ends}
use Rattle.cpc_convert_image_laws.specs.Held.{beside}
use Rattle.cpc_convert_image_laws.specs.Relations.{Found, BothFound}
use Rattle.cpc_convert_routines.specs.Kept.{kept_function}
use Rattle.cpc_chains_event.specs.Converted.{converted}
use Rattle.cpc_chains_laws.proofs.Related.Beginning.{main_row}
use Rattle.cpc_chains_laws.proofs.Related.Joined.{RowFacts, row}
use Rattle.cpc_convert_flat_laws.specs.Blocks.{Owns}
use Rattle.cpc_chains_laws.specs.Related.Fresh.{AllFresh}
use Rattle.cpc_lifted_laws.specs.Related.Cut.{Tagged, owned_in}
use Rattle.cpc_chains_laws.specs.Related.Running.{RunningFor, NothingRuns, NativeRuns, PieceRuns}
use Rattle.cpc_lifted_laws.specs.Related.Sums.{total}
use Rattle.cpc_chains_laws.proofs.Related.Tidy.{related_tidied}
use Rattle.cpc_chains_laws.proofs.Related.Relation.{Source, Target, Shared, AgendaFor, going, source_state, target_state, with_main, Related, MainIsReady, MainIsNext, Goes, IsOver}
use Rattle.cpc_chains_laws.proofs.Related.Rows.{Shows, Near, Midway, AtFirst, AtLast, MainWaits, RowFor, midway_near}
use Rattle.cpc_chains_laws.proofs.Related.Setting.{Setting, from_form, Known}
use Rattle.cpc_lifted_laws.specs.Accepted.Functions.{HasMain}
use Rattle.cpc_lifted_laws.specs.Accepted.Lifted.{kept_of, lifted_threads, lifted_after}
use Rattle.cpc_lifted_laws.specs.Native.Instance.{StaysAs}
use Rattle.cpc_chains_laws.proofs.Native.Wholes.{kept_there, kept_named}
use Rattle.cpc_lifted_laws.specs.Arrival.Taken.{IsFine}
use Rattle.cpc_lifted_laws.specs.Runs.Bounds.{bounds_of}
use Rattle.cpc_lifted_laws.specs.Runs.Runs.{CallsCps}
use Rattle.cpc_lifted_laws.proofs.Runs.Bounds.{bounds_enough}
use Rattle.cpc_lifted_laws.proofs.Runs.Called.{cps_from_then, OfCps, AllCpsIn}
use Rattle.cpc_chains_laws.proofs.Runs.Had.{Had}
use Rattle.cpc_chains_laws.proofs.Runs.Join.{setting, PiecesDo, FineSays, rows}
use Rattle.cpc_chains_laws.proofs.Runs.Known.{state_known}
use Rattle.cpc_chains_laws.proofs.Runs.Locals.{ArePlacesThin, stood_thin}
use Rattle.cpc_chains_laws.specs.Leak.Need.{thread_weight}
use Rattle.cpc_chains_laws.specs.Leak.Held.{live_blocks}
use Rattle.cpc_chains_laws.proofs.Related.Pass.{related_shows}
use Rattle.cpc_chains_laws.proofs.Runs.Pass.{next_along}
use Rattle.cpc_chains_laws.proofs.Runs.Theorem.{cps_known}
use Rattle.cpc_lifted_laws.proofs.Leak.Ended.{thread_idle, callback_idle, idle_rests}
use Rattle.cpc_chains_laws.proofs.Leak.Overs.{round_over, ends_both}
use Rattle.cpc_chains_laws.proofs.Leak.Related.{Bounded, wide, split_measure, bounded_live, going_bounded, main_bounded, related_bounded}
use Rattle.cpc_chains_laws.proofs.Leak.Threads.{split_count, split_need}

-- an outcome of a run that is not over
pub going_of : (o : Outcome) → is_over o ≡ false → o ≡ Going
going_of Going e = refl
going_of (Ended n) e = absurd (cc)
going_of (Exited n) e = absurd (cc)
going_of (Failed fault f) e = absurd (cc)
going_of HistoryEnded e = absurd (cc)
going_of (BadHistory n) e = absurd (cc)

module _ (p : Program) (had : Had p) where
  abbrev pub z : Setting
  z = setting p had.known (IsFine p) (CallsCps p)

  -- states that stand for each other
  abbrev pub Stand : Source → Target → Type 0
  Stand = Related z.codes z.cut z.there

  thin : ArePlacesThin p z.there
  thin = stood_thin p had.convertible.named had.cps

  abbrev main : HasMain p
  main = had.convertible.main

  says : FineSays p had.known (IsFine p) (CallsCps p)
  says = record { stands = λ frame o fine. fine.may; held = λ frame o fine. fine.variables.held }

  -- and where nothing runs in the source the blocks are bounded, and nothing runs in the source where nothing runs in the target
  pub record Holds (x : Source) (y : Target) : Type 0 where
    pub stands : Stand x y
    pub bounded : x.running ≡ None → Bounded p x y
    pub rests : y.running ≡ None → x.running ≡ None

  module _ (does : PiecesDo p had.known (IsFine p) (CallsCps p)) (h : History) where
    facts : RowFacts z (bounds_of p)
    facts = rows p had.known (IsFine p) (CallsCps p) had.cps says does had.convertible

    abbrev A : System Source Mark Outcome
    A = lifted_threads p h

    abbrev B : System Target Mark Outcome
    B = event_system (trees (converted p)) h

    -- a state inside a row shows the same, and where nothing runs in it the blocks are bounded; its live cells are within the measure and the cost, where the run goes on or nothing runs
    pub record Inside (x : Source) (t : Target) : Type 0 where
      pub alike : Alike A B x t
      pub bounded : t.running ≡ None → Bounded p x t
      pub few : (is_over t.outcome ≡ true → t.running ≡ None) → live_cells t ≤ split_measure p x + cost p

    abbrev pub RunsStand : Type 0
    RunsStand = Rows Holds Inside (Moves A) (Moves B) (λ (s : Source). cost p) one (run A) (run B)

    -- a related pair of the run, by how far the run of the source has come
    module _ (live : NeverStuck is_over A) (Stage : ℕ → Source → Target → Type 0) (opens : Stage 0 A.opening B.opening) (holds : (n : ℕ) (x : Source) (y : Target) → x ≡ run A n → Stage n x y → Holds x y)
        (paths : (n : ℕ) (x x' : Source) (y : Target) → A.next x ≡ Some x' → x ≡ run A n → x' ≡ run A (suc n) → Stage n x y → Path B.next one (Stage (suc n) x') (λ t. Inside x t ⊎ Inside x' t) (cost p) y) where
      abbrev R : Source → Target → Type 0
      R x y = (n : ℕ) × (x ≡ run A n) × Stage n x y

      alike_at : (x : Source) (y : Target) → R x y → Alike A B x y
      alike_at x y r = let k = related_shows z x y (holds r.0 x y r.1 r.2).stands in record { trace = k.trace; outcome = k.outcome }

      along : (x x' : Source) (y : Target) → A.next x ≡ Some x' → R x y → Path B.next one (R x') (λ t. Inside x t ⊎ Inside x' t) (cost p) y
      along x x' y e r = let i = next_along A x x' r.0 e r.1 in path_map (λ t s. (suc r.0, i, s)) (λ t s. s) (paths r.0 x x' y e r.1 i r.2)

      staged : RunsStand
      staged =
          rows_of_paths (lifted_ends Position (split_form p) (kept_of p) h) (machine_ends (callbacks_of (trees (converted p))) CallMain h) live (λ (x : Source). cost p) one R (0, refl, opens) Holds Inside
          (λ x y r. holds r.0 x y r.1 r.2)
          (λ x y o r. (ap is_over (sym (alike_at x y r).outcome) ∙ o, let i = (bounds_enough p).goes in omega arith))
          (λ x x' y e stuck r. along x x' y e r)

    -- what stands for a state of the source is near it
    pub holds_inside : (x : Source) (y : Target) → Holds x y → Inside x y
    holds_inside x y held = record { alike = record { trace = k.trace; outcome = k.outcome }; bounded = λ none. held.bounded (held.rests none); few = λ calm. go calm (is_over y.outcome) refl }
      where
        k : Shows x y
        k = related_shows z x y held.stands

        go : (is_over y.outcome ≡ true → y.running ≡ None) → (b : Bool) → is_over y.outcome ≡ b → live_cells y ≤ split_measure p x + cost p
        go calm true over = let b = bounded_live p x y (held.bounded (held.rests (calm over))) in omega (arith, b)
        go calm false i = let b = bounded_live p x y (related_bounded p z.codes z.there thin x y held.stands (k.outcome ∙ going_of y.outcome i)) in omega (arith, b)

    -- a row, as a path
    abbrev PathTo : (Target → Type 0) → Source → Source → Target → Type 0
    PathTo End x x' y = Path B.next one End (λ t. Inside x t ⊎ Inside x' t) (cost p) y

    -- where nothing runs in a state that is near one of the source
    near_rests : (x : Source) (t : Target) → Near z x t → t.running ≡ None → Bounded p x t
    near_rests x t n = go n.runs
      where
        go : (is_some t.running ≡ true) ⊎ MainWaits z x t → t.running ≡ None → Bounded p x t
        go (inl runs) none = absurd (let i = ap is_some none in cc)
        go (inr main) none = main_bounded p z.codes z.there thin z x t n main

    -- a state inside a row from one with few live cells
    both_inside : (x x' : Source) (y t : Target) → live_cells y ≤ split_measure p x + wide p → Midway z (bounds_of p).rise x x' y t → Inside x t ⊎ Inside x' t
    both_inside x x' y t start (AtFirst n less) = inl (record { alike = record { trace = n.trace; outcome = n.outcome }; bounded = near_rests x t n; few = λ calm. omega (arith, start, less) })
    both_inside x x' y t start (AtLast n last stands goes less) =
        let b = bounded_live p x' last (related_bounded p z.codes z.there thin x' last stands goes) in
        inr (record { alike = record { trace = n.trace; outcome = n.outcome }; bounded = near_rests x' t n; few = λ calm. omega (arith, b, less) })

    -- a state of the source with a next one goes on
    source_going : (x x' : Source) → A.next x ≡ Some x' → x.outcome ≡ Going
    source_going x x' e = go (is_over x.outcome) refl
      where
        go : (b : Bool) → is_over x.outcome ≡ b → x.outcome ≡ Going
        go true over = absurd (let i = (lifted_ends Position (split_form p) (kept_of p) h).none x over in let j : None ≡ Some x' = sym i ∙ e in cc)
        go false i = going_of x.outcome i

    start_few : (x x' : Source) (y : Target) → Stand x y → A.next x ≡ Some x' → live_cells y ≤ split_measure p x + wide p
    start_few x x' y stands e = bounded_live p x y (related_bounded p z.codes z.there thin x y stands (source_going x x' e))

    -- the step before the source forgets
    untidied : (x' : Source) (u : Option Source) → option_map (tidy z.kept) u ≡ Some x' → (s : Source) × (u ≡ Some s) × (tidy z.kept s ≡ x')
    untidied x' None e = absurd (cc)
    untidied x' (Some s) e = (s, refl, let i : tidy z.kept s ≡ x' = cc in i)

    none_tidy : (k : Option (Stack Position)) → tidy_running z.kept k ≡ None → k ≡ None
    none_tidy None e = refl
    none_tidy (Some k) e = absurd (cc)

    -- where nothing runs in the source, a step that ends the run leaves nothing running
    over_none : {X : Type 0} (x s : Source) → is_over x.outcome ≡ true → next (threads_of (from_form z)) x ≡ Some s → X
    over_none x s over e = absurd (let i = (machine_ends (threads_of (from_form z)) (Pending main_name []) h).none x over in let j : None ≡ Some s = sym i ∙ e in cc)

    stand_rests : (x : Source) (y : Target) → Stand x y → (s : Source) → next (threads_of (from_form z)) x ≡ Some s → x.running ≡ None → is_over s.outcome ≡ true → s.running ≡ None
    stand_rests _ _ (MainIsReady w) s e none over = idle_rests (from_form z) (source_state w None (with_main (Pending main_name []))) refl refl s e over
    stand_rests _ _ (MainIsNext w) s e none over = idle_rests (from_form z) (source_state w None (begin_round (with_main (Pending main_name [])))) refl refl s e over
    stand_rests _ _ (Goes w bs k j owned a tags b runs g owns fresh) s e none over = go k none e
      where
        go : (k : Option (Stack Position)) → k ≡ None → next (threads_of (from_form z)) (source_state w k a) ≡ Some s → s.running ≡ None
        go None i e = idle_rests (from_form z) (source_state w None a) refl refl s e over
        go (Some k) i e = absurd (cc)
    stand_rests x y (IsOver _ _ ended trace outcome) s e none over = over_none x s ended e

    stand_runs : (x : Source) (y : Target) → Stand x y → (s : Source) → next (threads_of (from_form z)) x ≡ Some s → (x.running ≡ None → ⊥) → is_some y.running ≡ true
    stand_runs _ _ (MainIsReady w) s e runs = absurd (runs refl)
    stand_runs _ _ (MainIsNext w) s e runs = absurd (runs refl)
    stand_runs _ _ (Goes w bs k j owned a tags b r g owns fresh) s e runs = go k j owned r runs
      where
        go : (k : Option (Stack Position)) (j : Option (Stack Point)) (owned : List ℕ) → RunningFor z.codes z.cut z.there bs k j owned → (k ≡ None → ⊥) → is_some j ≡ true
        go _ _ _ NothingRuns runs = absurd (runs refl)
        go _ _ _ (NativeRuns xs ys o owned stacks hold) runs = refl
        go _ _ _ (PieceRuns xs o ys o' owned r) runs = refl
    stand_runs x y (IsOver _ _ ended trace outcome) s e runs = over_none x s ended e

    -- a state with a next one goes on
    next_going : (t u : Target) → B.next t ≡ Some u → t.outcome ≡ Going
    next_going t u e = go (is_over t.outcome) refl
      where
        go : (b : Bool) → is_over t.outcome ≡ b → t.outcome ≡ Going
        go true over = absurd (let i = (machine_ends (callbacks_of (trees (converted p))) CallMain h).none t over in let j : None ≡ Some u = sym i ∙ e in cc)
        go false i = going_of t.outcome i

    -- a row of which the source still runs where it ends the run: so does the target
    module _ (x x' : Source) (y : Target) (stands : Stand x y) (e : A.next x ≡ Some x') (over : is_over x'.outcome ≡ true) (k : Stack Position) (runs : x'.running ≡ Some k) where
      x_runs : x.running ≡ None → ⊥
      x_runs none =
          let u = untidied x' (next (threads_of (from_form z)) x) e in
          let rests = stand_rests x y stands u.0 u.1 none (ap (λ (v : Source). is_over v.outcome) u.2 ∙ over) in
          absurd (let i : None ≡ Some k = sym (ap (tidy_running z.kept) rests) ∙ (ap (λ (v : Source). v.running) u.2 ∙ runs) in cc)

      y_runs : is_some y.running ≡ true
      y_runs = let u = untidied x' (next (threads_of (from_form z)) x) e in stand_runs x y stands u.0 u.1 x_runs

      near_runs : (t : Target) → Near z x t ⊎ Near z x' t → is_some t.running ≡ true
      near_runs t (inl n) = ⊎_elim (λ i. i) (λ (m : MainWaits z x t). absurd (x_runs (ap (λ (s : Source). s.running) m.source))) n.runs
      near_runs t (inr n) = ⊎_elim (λ i. i) (λ (m : MainWaits z x' t). absurd (let i : Some k ≡ None = sym runs ∙ ap (λ (s : Source). s.running) m.source in cc)) n.runs

      not_idle : (t u : Target) → is_some t.running ≡ true → B.next t ≡ Some u → Stand x' u → u.running ≡ None → ⊥
      not_idle t u is q end none = go t.running refl
        where
          step : (j : Stack Point) → t.running ≡ Some j → settled (callbacks z.target) t (code_step (callbacks z.target) t j) ≡ Some u
          step j i =
              sym (ap (λ o. unless_over o (settled (callbacks z.target) t (step_running (callbacks z.target) t t.running))) (next_going t u q) ∙ ap (λ r. settled (callbacks z.target) t (step_running (callbacks z.target) t r)) i) ∙ q

          go : (j : Option (Stack Point)) → t.running ≡ j → ⊥
          go None i = absurd (let l = ap is_some i in cc)
          go (Some j) i =
              let goes = callback_idle (trees z.target) t u j i (next_going t u q) (step j i) none in
              let shown = (related_shows z x' u end).outcome in
              absurd (let l = ap is_over (shown ∙ goes) in cc)

      past : (n : ℕ) (t : Target) → is_some t.running ≡ true → Path B.next one (Stand x') (Midway z (bounds_of p).rise x x' y) n t → Path B.next one (Holds x') (λ t. Inside x t ⊎ Inside x' t) n t
      past _ t is (Last c _ u q le end) =
          Last c t u q le (record { stands = end; bounded = λ none. absurd (let i : Some k ≡ None = sym runs ∙ none in cc); rests = λ none. absurd (not_idle t u is q end none) })
      past _ t is (More c d _ u q le mid more) = More c d t u q le (both_inside x x' y u (start_few x x' y stands e) mid) (past d u (near_runs u (midway_near z (bounds_of p).rise x x' y u mid)) more)

    as_path : (x x' : Source) (y : Target) → Stand x y → A.next x ≡ Some x' → (is_over x'.outcome ≡ true → x'.running ≡ None → PathTo (Holds x') x x' y) → RowFor z (bounds_of p).rise x x' (cost p) y → PathTo (Holds x') x x' y
    as_path x x' y stands e ended r = by_end (is_over x'.outcome) refl x'.running refl
      where
        goes_on : x'.outcome ≡ Going → PathTo (Holds x') x x' y
        goes_on fine =
            path_map (λ t s. let b = related_bounded p z.codes z.there thin x' t s fine in record { stands = s; bounded = λ none. b; rests = b.rested })
            (λ t m. both_inside x x' y t (start_few x x' y stands e) m) r

        by_end : (b : Bool) → is_over x'.outcome ≡ b → (k : Option (Stack Position)) → x'.running ≡ k → PathTo (Holds x') x x' y
        by_end false i k j = goes_on (going_of x'.outcome i)
        by_end true i (Some k) j = past x x' y stands e i k j (cost p) y (y_runs x x' y stands e i k j) r
        by_end true i None j = ended i j

    -- where the next state is over and nothing runs in it, the event program ends in one step
    abbrev EndsIn : Source → Target → Type 0
    EndsIn s y = (t : Target) × (B.next y ≡ Some t) × Holds (tidy z.kept s) t

    still : (x s : Source) (k : Stack Position) → x.running ≡ Some k → x.outcome ≡ Going → settled (threads_of (from_form z)) x (code_step (threads_of (from_form z)) x k) ≡ Some s → s.running ≡ None → is_over s.outcome ≡ true → ⊥
    still x s k is going e none over = absurd (let i = ap is_over (thread_idle (from_form z) x s k is going e none) in cc)

    idle_ends : (w : Shared) (bs : Blocks) (k : Option (Stack Position)) (j : Option (Stack Point)) (owned : List ℕ) (a : Agenda (Thread Position)) (tags : Agenda Tagged) (b : Agenda Callback) → RunningFor z.codes z.cut z.there bs k j owned → AgendaFor z.cut bs a tags b
        → Owns bs (owned ++ owned_in tags) → AllFresh bs → Known z (source_state w k a) → (s : Source) → next (threads_of (from_form z)) (source_state w k a) ≡ Some s → s.running ≡ None → is_over s.outcome ≡ true → EndsIn s (target_state w bs j b)
    idle_ends w bs _ _ _ a tags b NothingRuns g owns fresh known s e none over =
        let r = ends_both z facts.native w bs a tags b g owns fresh known s e none over in
        let stands = related_tidied z facts.native facts.keeps s r.last r.stand in
        let shown = related_shows z (tidy z.kept s) r.last stands in
        let base = going_bounded p z.codes z.there thin w bs None None [] a tags b NothingRuns g owns in
        let blocks = ap (λ (store : Store). live_blocks store.frames) r.store in
        let cells = ap (λ (store : Store). cells_in store.frames) r.store in
        let counts = ap (λ (c : Agenda (Thread Position)). total (thread_weight (λ f vs. 1) split_count) c) r.agenda in
        let needs = ap (λ (c : Agenda (Thread Position)). total (thread_weight (λ f vs. 8 + length vs) (split_need p)) c) r.agenda in (
          r.last,
          r.steps,
          record {
            stands = stands;
            bounded = λ none'. record {
              trace = shown.trace;
              outcome = shown.outcome;
              rests = λ e. r.rests;
              rested = λ e. none';
              frames = let f = base.frames in omega (arith, f, blocks, counts);
              cells = let f = base.cells in omega (arith, f, cells, needs);
              auto = ap (λ (store : Store). store.auto) r.store ∙ sym (ap (λ (store : Store). store.auto) r.source);
              store = r.store ∙ ap (λ (store : Store). beside bs store) (sym r.source) ∙ ap (λ fs. beside fs s.store) (sym (ap (λ (store : Store). store.frames) r.store));
              registers = let e = ap (λ (k : Option (Stack Point)). registers k) r.rests in omega (arith, e);
            };
            rests = λ idle. ap (tidy_running z.kept) none;
          },
        )
    idle_ends w bs _ _ _ a tags b (NativeRuns xs ys o owned stacks hold) g owns fresh known s e none over = absurd (still _ s (record { frames = xs; arriving = o }) refl refl e none over)
    idle_ends w bs _ _ _ a tags b (PieceRuns xs o ys o' owned r) g owns fresh known s e none over = absurd (still _ s (record { frames = xs; arriving = o }) refl refl e none over)

    ends_in : (x : Source) (y : Target) → Stand x y → Known z x → (s : Source) → next (threads_of (from_form z)) x ≡ Some s → s.running ≡ None → is_over s.outcome ≡ true → EndsIn s y
    ends_in _ _ (MainIsReady w) known s e none over =
        absurd (let i : Some (source_state w None (begin_round (with_main (Pending main_name [])))) ≡ Some s = e in let j : source_state w None (begin_round (with_main (Pending main_name []))) ≡ s = cc in let k = ap (λ (u : Source). is_over u.outcome) j ∙ over in cc)
    ends_in _ _ (MainIsNext w) known s e none over = absurd (let i = round_over z w (begin_round (with_main (Pending main_name []))) s none (begin_round (with_main (Pending main_name []))).round e in cc)
    ends_in _ _ (Goes w bs k j owned a tags b runs g owns fresh) known s e none over = idle_ends w bs k j owned a tags b runs g owns fresh known s e none over
    ends_in x y (IsOver _ _ ended trace outcome) known s e none over = absurd (let i = (machine_ends (threads_of (from_form z)) (Pending main_name []) h).none x ended in let j : None ≡ Some s = sym i ∙ e in cc)

    ended_path : (x x' : Source) (y : Target) → Stand x y → Known z x → A.next x ≡ Some x' → is_over x'.outcome ≡ true → x'.running ≡ None → PathTo (Holds x') x x' y
    ended_path x x' y stands known e over none =
        let u = untidied x' (next (threads_of (from_form z)) x) e in
        let r = ends_in x y stands known u.0 u.1 (none_tidy u.0.running (ap (λ (v : Source). v.running) u.2 ∙ none)) (ap (λ (v : Source). is_over v.outcome) u.2 ∙ over) in
        Last (cost p) y r.0 r.1 (let k = (bounds_enough p).goes in omega arith) (subst (λ v. Holds v r.0) u.2 r.2)

    row_path : (x x' : Source) (y : Target) → A.next x ≡ Some x' → Known z x → Known z x' → Stand x y → PathTo (Holds x') x x' y
    row_path x x' y e known known' stands = as_path x x' y stands e (ended_path x x' y stands known e) (row z (bounds_of p) facts (cost p) (bounds_enough p) x x' y e known known' stands)

    abbrev w0 : Shared
    w0 = record { store = globals (make_globals p p empty_store); jobs = []; history = h; trace = [] }

    first : B.opening ≡ target_state w0 [] None (with_main CallMain)
    first = ap (λ (s : Store). going w0 s None (with_main CallMain)) facts.globals

    main_ready : Holds A.opening (target_state w0 [] None (with_main CallMain))
    main_ready = record { stands = MainIsReady w0; bounded = λ none. related_bounded p z.codes z.there thin _ _ (MainIsReady w0) refl; rests = λ none. refl }

    -- ---- a cps `main`

    cps_main : is_cps_mode main.function.mode ≡ true → NeverStuck is_over A → RunsStand
    cps_main mode live =
        staged live (λ n. Holds) (subst (λ y. Holds A.opening y) (sym first) main_ready) (λ n x y i s. s)
        (λ n x x' y e i i' s. row_path x x' y e (subst (Known z) (sym i) (cps_known p had mode h n)) (subst (Known z) (sym i') (cps_known p had mode h (suc n))) s.stands)

    -- ---- a native `main`

    native_known : (n : ℕ) → AllCpsIn p had.modes (lifted_after p h n) → Known z (lifted_after p h n)
    native_known n all =
        state_known p (bounds_of p) had.sections h n (had.fine h n) (had.well h n)
        (λ f vs v ds e. (All-head (λ (d : Due (Thread Position)). OfCps p d.item × Unit {0}) (record { item = Pending f vs; result = v }) ds (subst (All (λ (d : Due (Thread Position)). OfCps p d.item × Unit {0})) e all.round)).0)

    from_then : (is_over (run A 2).outcome ≡ true) ⊎ ((n : ℕ) → AllCpsIn p had.modes (run A (suc (suc n)))) → (is_over (run A 2).outcome ≡ true) ⊎ ((n : ℕ) → Known z (run A (suc (suc n))))
    from_then (inl over) = inl over
    from_then (inr all) = inr (λ n. native_known (suc (suc n)) (all n))

    -- the first states: `main` is ready, `main` is next, and then states that stand for each other
    abbrev Stage : ℕ → Source → Target → Type 0
    Stage zero x y = y ≡ target_state w0 [] None (with_main CallMain)
    Stage (suc zero) x y = y ≡ target_state w0 [] None (begin_round (with_main CallMain))
    Stage (suc (suc n)) x y = Holds x y

    stage_holds : (n : ℕ) (x : Source) (y : Target) → x ≡ run A n → Stage n x y → Holds x y
    stage_holds zero x y i s = subst (λ x. Holds x y) (sym i) (subst (λ y. Holds (run A 0) y) (sym s) main_ready)
    stage_holds (suc zero) x y i s = subst (λ x. Holds x y) (sym i) (subst (λ y. Holds (run A 1) y) (sym s) (record { stands = MainIsNext w0; bounded = λ none. related_bounded p z.codes z.there thin _ _ (MainIsNext w0) refl; rests = λ none. refl }))
    stage_holds (suc (suc n)) x y i s = s

    module _ (found : Found (StaysAs p) (function_named p main_name) (function_named (converted p) main_name)) (known : (is_over (run A 2).outcome ≡ true) ⊎ ((n : ℕ) → Known z (run A (suc (suc n))))) where
      -- a run that is over has no step
      no_step : {X : Type 0} (x x' : Source) (n : ℕ) → is_over (run A 2).outcome ≡ true → A.next x ≡ Some x' → x ≡ run A (suc (suc n)) → X
      no_step x x' n over e i =
          let same : x ≡ run A 2 = i ∙ over_stays {A = A} (lifted_ends Position (split_form p) (kept_of p) h) 2 (suc (suc n)) (omega arith) over in
          let none = (lifted_ends Position (split_form p) (kept_of p) h).none x (ap (λ (s : Source). is_over s.outcome) same ∙ over) in
          absurd (let k : None ≡ Some x' = sym none ∙ e in cc)

      native_path : (n : ℕ) (x x' : Source) (y : Target) → A.next x ≡ Some x' → x ≡ run A n → x' ≡ run A (suc n) → Stage n x y → PathTo (Stage (suc n) x') x x' y
      native_path zero x x' y e i i' s =
          subst (PathTo (Stage 1 x') x x') (sym s) (Last (cost p) _ (target_state w0 [] None (begin_round (with_main CallMain))) refl (let k = (bounds_enough p).goes in omega arith) refl)
      native_path (suc zero) x x' y e i i' s =
          subst (PathTo (Holds x') x x') (sym s)
          (subst (λ x. PathTo (Holds x') x x' (target_state w0 [] None (begin_round (with_main CallMain)))) (sym i)
          (as_path (run A 1) x' (target_state w0 [] None (begin_round (with_main CallMain))) (MainIsNext w0) (ap A.next (sym i) ∙ e) (λ over none. absurd (main_runs over none))
          (path_wider (cost p) (let k = (bounds_enough p).goes in omega arith) (main_row z facts.native facts.keeps w0 (had.fine h 1).store found x' (ap A.next (sym i) ∙ e)))))
        where
          -- `main` runs
          main_runs : is_over x'.outcome ≡ true → x'.running ≡ None → ⊥
          main_runs over none =
              let u = untidied x' (next (threads_of (from_form z)) (run A 1)) (ap A.next (sym i) ∙ e) in
              absurd (let r = round_over z w0 (begin_round (with_main (Pending main_name []))) u.0 (none_tidy u.0.running (ap (λ (v : Source). v.running) u.2 ∙ none)) (begin_round (with_main (Pending main_name []))).round u.1 in cc)
      native_path (suc (suc n)) x x' y e i i' s =
          ⊎_elim (λ over. no_step x x' n over e i)
          (λ (k : (n : ℕ) → Known z (run A (suc (suc n)))). row_path x x' y e (subst (Known z) (sym i) (k n)) (subst (Known z) (sym i') (k (suc n))) s.stands) known

      native_main : NeverStuck is_over A → RunsStand
      native_main live = staged live Stage first stage_holds native_path

    -- ---- both

    runs_by : (main.function.mode ≡ Native) ⊎ (main.function.mode ≡ Cps) → NeverStuck is_over A → RunsStand
    runs_by (inr cps) live = cps_main (ap is_cps_mode cps) live
    runs_by (inl native) live =
        let f = main.function in
        let stays = ap is_cps_mode native in
        native_main
        (subst (λ o. Found (StaysAs p) o (function_named (converted p) main_name)) (sym main.named)
        (subst (λ u. Found (StaysAs p) (Some f) u) (sym (kept_named p had.convertible.names had.convertible.named main_name f main.named stays))
        (BothFound f (kept_function f) (record { kept = kept_there p had.convertible.names main_name f main.named stays; same = refl }) (record { result = refl; parameters = refl }))))
        (from_then (cps_from_then p had.modes h live)) live

    -- from one state of the lifted run to the next is a row of the event run
    pub runs_stand : NeverStuck is_over A → RunsStand
    runs_stand live = runs_by main.mode live
