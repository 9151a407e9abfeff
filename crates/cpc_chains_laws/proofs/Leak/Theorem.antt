-- From row to row the event program of an accepted program holds no more frames than its threads need.
use Rattle.std.proofs.Common.{◌≡◌, ◌⊎◌, inl, inr, Bool, true, false, not, ◌&&◌, ℕ, ◌+◌, ◌*◌, ◌≤◌, List, [], ◌∷◌, Option, Some, refl, sym, ◌∙◌, ap, subst, arith, ◌<◌, zero, suc, None}
use Rattle.cpc_store.specs.Store.{Store, Blocks, cells_in, store_cells}
use Rattle.cpc_tree.specs.Located.{bare}
use Rattle.cpc_base.specs.Bytes.{Text}
use Rattle.cpc_tree.specs.Points.{Point}
use Rattle.cpc_tree.specs.Syntax.{Function, Program}
use Rattle.cpc_tree.specs.Typing.{function_named}
use Rattle.cpc_tree.specs.Trace.{Going, is_over}
use Rattle.cpc_meaning_matching.specs.Steps.{or_stay}
use Rattle.cpc_meaning_matching.specs.Systems.{run, NeverStuck}
use Rattle.cpc_meaning_matching.proofs.Laws.{near_row, spent-one, spent-within, place_ge, place_cost, row_at}
use Rattle.cpc_meaning_matching.proofs.Systems.{matches_live}
use Rattle.cpc_meaning.specs.Events.{CallMain, event, callbacks, callbacks_of}
use Rattle.cpc_meaning.specs.History.{History}
use Rattle.cpc_meaning.specs.Matching.{event_system}
use Rattle.cpc_meaning.specs.Plain.{Frame, Stack}
use Rattle.cpc_meaning.specs.Machine.{next, try_step, unless_over}
use Rattle.cpc_meaning.specs.Runs.{slots_registers, frames_registers, registers, live_cells, cost}
use Rattle.cpc_meaning.specs.Start.{main_name}
use Rattle.cpc_meaning.specs.Threads.{Pending, is_cps, threaded, threads_of}
use Rattle.cpc_meaning.specs.Trees.{trees}
use Rattle.cpc_meaning.proofs.Connect.{machine_ends}
use Rattle.cpc_convert_routines.specs.Kept.{routines}
use Rattle.cpc_chains_event.specs.Converted.{converted}
use Rattle.cpc_chains_laws.proofs.Related.Relation.{Source, Target}
use Rattle.cpc_lifted_laws.specs.Accepted.Accepted.{OfAccepted}
use Rattle.cpc_lifted_laws.specs.Accepted.Lifted.{lifted_threads, lifted_after}
use Rattle.cpc_lifted_laws.proofs.Accepted.Lifted.{threads_follow}
use Rattle.cpc_lifted_laws.specs.Arrival.Taken.{IsFine}
use Rattle.cpc_check_laws.specs.Run.Plain.{is_plain}
use Rattle.cpc_check_laws.proofs.Run.Stands.{function_plain}
use Rattle.cpc_lifted_laws.proofs.Accepted.Known.{accepted_is_fine}
use Rattle.cpc_lifted_laws.proofs.Accepted.Counts.{cps_same}
use Rattle.cpc_chains_laws.specs.Runs.Laws.{IsNative}
use Rattle.cpc_lifted_laws.specs.Runs.Runs.{CallsCps}
use Rattle.cpc_chains_laws.proofs.Runs.Natives.{CpsAmong, some_cps, native_converted}
use Rattle.cpc_chains_laws.proofs.Runs.Pieces.{pieces_do}
use Rattle.cpc_chains_laws.proofs.Runs.Had.{Had, accepted_had}
use Rattle.cpc_chains_laws.proofs.Runs.Join.{PiecesDo}
use Rattle.cpc_chains_laws.specs.Leak.Held.{live_blocks, GoesOrRests, FramesHeld}
use Rattle.cpc_chains_laws.specs.Leak.Laws.{ComesTo, ComesFrom, Rests, Measured, ConvertedComesTo, ConvertedComesFrom, ConvertedRests}
use Rattle.cpc_lifted_laws.specs.Related.Sums.{sum}
use Rattle.cpc_chains_laws.specs.Leak.Need.{where_so, stack_weight, native_registers, measure}
use Rattle.cpc_chains_laws.proofs.Runs.Locals.{stood_thin}
use Rattle.cpc_lifted_laws.proofs.Leak.Plain.{plain_same}
use Rattle.cpc_chains_laws.proofs.Leak.Related.{Bounded, split_measure, related_bounded}
use Rattle.cpc_lifted_laws.proofs.Leak.Ending.{step_ends}
use Rattle.cpc_chains_laws.proofs.Leak.Runs.{z, RunsStand, runs_stand, holds_inside, going_of}
use Rattle.cpc_chains_laws.proofs.Leak.Threads.{lifted_rest, lifted_count, lifted_needs, lifted_registers}

-- what is bounded by the lifted run is bounded by the threads
held_by : (p : Program) (h : History) (m : ℕ) (t : Target) → Bounded p (lifted_after p h m) t → FramesHeld p (threaded p h m) t
held_by p h m t b =
    let same = lifted_rest p h m in
    let counts = lifted_count p h m in
    let needs = lifted_needs p h m in
    let native = lifted_registers p h m in
    let there = ap (λ (s : Store). store_cells s) same.store in
    let here = ap (λ (s : Store). store_cells s) b.store in
    record {
      trace = same.trace ∙ b.trace;
      outcome = same.outcome ∙ b.outcome;
      rests = λ e. b.rests (same.rests e);
      rested = λ e. same.rested (b.rested e);
      frames = let f = b.frames in omega (arith, counts, f);
      cells = let f = b.cells in omega (arith, needs, f);
      auto = b.auto ∙ sym (ap (λ (s : Store). s.auto) same.store);
      live = let c = b.cells in let r = b.registers in omega (arith, needs, native, there, here, c, r);
      idle = λ none. let c = b.cells in let e = ap (λ (k : Option (Stack Point)). registers k) none in omega (arith, needs, there, here, c, e);
    }

module _ (p : Program) (had : Had p) (does : PiecesDo p had.known (IsFine p) (CallsCps p)) where
  module _ (h : History) where
    -- the lifted run is never stuck
    lifted_live : NeverStuck is_over (lifted_threads p h)
    lifted_live = matches_live (machine_ends (threads_of (trees p)) (Pending main_name []) h) ((threads_follow p).text.on h (had.live.on h)) (had.live.on h)

    stand : RunsStand p had does h
    stand = runs_stand p had does h lifted_live

    -- at the ends of rows frames are held
    held_at : (m : ℕ) → GoesOrRests (threaded p h m) → FramesHeld p (threaded p h m) (event (converted p) h (stand.place m))
    held_at m fine = held_by p h m (event (converted p) h (stand.place m)) (bounded fine)
      where
        bounded : GoesOrRests (threaded p h m) → Bounded p (lifted_after p h m) (event (converted p) h (stand.place m))
        bounded (inl going) = related_bounded p (z p had).codes (z p had).there (stood_thin p had.convertible.named had.cps) _ _ (stand.meets m).stands (sym (lifted_rest p h m).outcome ∙ going)
        bounded (inr none) = (stand.meets m).bounded ((lifted_rest p h m).rests none)

    abbrev events : ℕ → Target
    events = run (event_system (trees (converted p)) h)

    -- a state of the event program comes as early as the cost of the threads' steps up to its row allows
    recent : (n m : ℕ) → n < stand.place (suc m) → n ≤ cost p * (m + 2)
    recent n m before =
        let spent = place_cost stand (suc m) in
        let steps = spent-one events (stand.place (suc m)) in
        let within = spent-within (λ (s : Source). cost p) (cost p) (run (lifted_threads p h)) (λ i. omega arith) (suc m) in
        omega (arith, before, spent, steps, within)

    -- wherever nothing runs in the event program they are held
    cps_rests : (n : ℕ) → (event (converted p) h n).running ≡ None
        → (m : ℕ) × (m ≤ n) × (n ≤ cost p * (m + 2)) × ((threaded p h m).running ≡ None) × FramesHeld p (threaded p h m) (event (converted p) h n)
    cps_rests n none =
        let near = near_row stand (holds_inside p had does h) n in
        let held = held_by p h near.0 (event (converted p) h n) (near.3.bounded none) in
        (near.0, near.1, recent n near.0 near.2, held.rested none, held)

    -- the measure of the lifted run is within that of the threads
    within_measure : (m : ℕ) → split_measure p (lifted_after p h m) ≤ measure p (threaded p h m)
    within_measure m =
        let same = lifted_rest p h m in
        let needs = lifted_needs p h m in
        let native = lifted_registers p h m in
        let there = ap (λ (s : Store). store_cells s) same.store in
        omega (arith, needs, native, there)

    -- after n steps
    abbrev Few : ℕ → Target → Type 0
    Few n t = (m : ℕ) × (m ≤ n) × ((n ≤ cost p * (m + 2)) ⊎ (is_over t.outcome ≡ true)) × ((threaded p h m).trace ≡ t.trace) × (live_cells t ≤ measure p (threaded p h m) + cost p)

    abbrev states : ℕ → Target
    states = event (converted p) h

    -- where the run goes on, or nothing runs
    calm_few : (n : ℕ) → (is_over (states n).outcome ≡ true → (states n).running ≡ None) → Few n (states n)
    calm_few n calm =
        let near = near_row stand (holds_inside p had does h) n in
        let few = near.3.few calm in
        let same = within_measure near.0 in
        (near.0, near.1, inl (recent n near.0 near.2), (lifted_rest p h near.0).trace ∙ near.3.alike.trace, omega (arith, few, same))

    -- one step later, where the run is over
    later_few : (n : ℕ) (t : Target) → is_over t.outcome ≡ true → Few n t → Few (suc n) t
    later_few n t over few = let before = few.1 in (few.0, omega (arith, before), inr over, few.3, few.4)

    -- after a step of a state that goes on
    next_few : (n : ℕ) → (states n).outcome ≡ Going → Few n (states n) → (o : Option Target) → next (callbacks (converted p)) (states n) ≡ o → Few (suc n) (states (suc n))
    next_few n going few None e = calm_few (suc n)
        (λ over. absurd (let l : true ≡ false = sym over ∙ ap (λ (u : Target). is_over u.outcome) (ap (or_stay (states n)) e) ∙ ap is_over going in cc))
    next_few n going few (Some t) e = subst (Few (suc n)) same (by_over (is_over t.outcome) refl t.running refl)
      where
        same : t ≡ states (suc n)
        same = sym (ap (or_stay (states n)) e)

        stepped : try_step (callbacks (converted p)) (states n) ≡ Some t
        stepped = sym (ap (λ o. unless_over o (try_step (callbacks (converted p)) (states n))) going) ∙ e

        here : (is_over t.outcome ≡ true → t.running ≡ None) → Few (suc n) t
        here calm = subst (Few (suc n)) (sym same) (calm_few (suc n) (subst (λ (u : Target). is_over u.outcome ≡ true → u.running ≡ None) same calm))

        ended : is_over t.outcome ≡ true → (t.running ≡ None) ⊎ ((t.trace ≡ (states n).trace) × (live_cells t ≡ live_cells (states n))) → Few (suc n) t
        ended over (inl none) = here (λ over. none)
        ended over (inr kept) = let before = few.1 in let few' = few.4 in let live = kept.1 in (few.0, omega (arith, before), inr over, few.3 ∙ sym kept.0, omega (arith, few', live))

        by_over : (b : Bool) → is_over t.outcome ≡ b → (k : Option (Stack Point)) → t.running ≡ k → Few (suc n) t
        by_over false i k j = here (λ over. absurd (let l : true ≡ false = sym over ∙ i in cc))
        by_over true i None j = here (λ over. j)
        by_over true i (Some k) j = ended i (step_ends (trees (converted p)) (states n) t going stepped i)

    -- at every number of steps
    cps_few : (n : ℕ) → Few n (states n)
    cps_few zero = calm_few zero (λ over. refl)
    cps_few (suc n) = go (cps_few n) (is_over (states n).outcome) refl
      where
        go : Few n (states n) → (b : Bool) → is_over (states n).outcome ≡ b → Few (suc n) (states (suc n))
        go few true over =
            let same = sym (ap (or_stay (states n)) ((machine_ends (callbacks_of (trees (converted p))) CallMain h).none (states n) over)) in
            later_few n (states (suc n)) (subst (λ (u : Target). is_over u.outcome ≡ true) same over) (subst (Few n) same few)
        go few false i = next_few n (going_of (states n).outcome i) few (next (callbacks (converted p)) (states n)) refl

    cps_comes_to : (m : ℕ) → GoesOrRests (threaded p h m) → (n : ℕ) × (m ≤ n) × (n ≤ cost p * (m + 1)) × FramesHeld p (threaded p h m) (event (converted p) h n)
    cps_comes_to m fine =
        let r = stand in
        let spent = place_cost r m in
        let steps = spent-one events (r.place m) in
        let within = spent-within (λ (s : Source). cost p) (cost p) (run (lifted_threads p h)) (λ i. omega arith) m in
        (r.place m, place_ge r m, omega (arith, spent, steps, within), held_at m fine)

    cps_comes_from : (n : ℕ) → (m : ℕ) × (k : ℕ) × (m ≤ k) × (k ≤ n) × (n < k + cost p) × (GoesOrRests (threaded p h m) → FramesHeld p (threaded p h m) (event (converted p) h k))
    cps_comes_from n =
        let r = stand in
        let at = row_at r n in
        let most = r.cost at.0 in
        let steps = spent-one events (r.place at.0) in
        let steps' = spent-one events (r.place (suc at.0)) in
        let before = at.2 in
        (at.0, r.place at.0, place_ge r at.0, at.1, omega (arith, most, steps, steps', before), held_at at.0)

-- a program without cps functions has native frames alone
module _ (p : Program) (plain : is_plain p ≡ true) where
  first_false : (a b : Bool) → (not a && b) ≡ true → a ≡ false
  first_false true b e = absurd (cc)
  first_false false b e = refl

  all_native : (x : Text) (o : Option Function) → function_named p x ≡ o → is_cps o ≡ false
  all_native x None e = refl
  all_native x (Some f) e = cps_same f.mode ∙ first_false _ _ (function_plain p plain x f e)

  frames_native : (frames : List (Frame Point)) → frames_registers frames ≤ sum (native_registers p) frames
  frames_native [] = omega arith
  frames_native (f ∷ fs) =
      let h = frames_native fs in
      let i = ap (λ b. where_so (not b) (slots_registers f.slots)) (all_native f.function (function_named p f.function) refl) in
      omega (arith, h, i)

  stack_native : (k : Option (Stack Point)) → registers k ≤ stack_weight (sum (native_registers p)) k
  stack_native None = omega arith
  stack_native (Some k) = frames_native k.frames

-- where a program is its own event program
plain_held : (p : Program) → is_plain p ≡ true → ((h : History) (n : ℕ) → (threaded p h n).store.frames ≡ []) → (h : History) (m : ℕ) → FramesHeld p (threaded p h m) (event p h m)
plain_held p plain none h m =
    let same = plain_same p plain h m in
    let empty = ap (λ (s : Store). s.frames) same.store ∙ none h m in
    let blocks = ap (λ (bs : Blocks). live_blocks bs) empty in
    let cells = ap (λ (bs : Blocks). cells_in bs) empty in
    let alike = ap (λ (s : Store). store_cells s) same.store in
    let runs = ap (λ (k : Option (Stack Point)). registers k) same.running in
    let native = stack_native p plain (threaded p h m).running in
    record {
      trace = same.trace;
      outcome = same.outcome;
      rests = λ e. same.running ∙ e;
      rested = λ e. sym same.running ∙ e;
      frames = omega (arith, blocks);
      cells = omega (arith, cells);
      auto = ap (λ (s : Store). s.auto) same.store;
      live = omega (arith, alike, runs, native);
      idle = λ none. omega (arith, alike, runs, native);
    }

-- the three laws
abbrev All : Program → Type 0
All p = ComesTo p × ComesFrom p × Rests p × Measured p (converted p)

converted_all : OfAccepted All
converted_all list end p read unbroken = go (some_cps (bare p) (bare p))
  where
    no_frames : (h : History) (n : ℕ) → (threaded (bare p) h n).store.frames ≡ []
    no_frames h n = ap (λ (s : Store). s.frames) (lifted_rest (bare p) h n).store ∙ (accepted_is_fine list end p read unbroken h n).no_frames

    native : IsNative (bare p) → All (bare p)
    native is =
        let held = plain_held (bare p) is.plain no_frames in (
          λ h m fine. (m, omega arith, omega arith, subst (λ q. FramesHeld (bare p) (threaded (bare p) h m) (event q h m)) (sym is.same) (held h m)),
          λ h n. (n, n, omega arith, omega arith, omega arith, λ fine. subst (λ q. FramesHeld (bare p) (threaded (bare p) h n) (event q h n)) (sym is.same) (held h n)),
          λ h n none.
              let f = subst (λ q. FramesHeld (bare p) (threaded (bare p) h n) (event q h n)) (sym is.same) (held h n) in (n, omega arith, omega arith, f.rested none, f),
          λ h n. let f = subst (λ q. FramesHeld (bare p) (threaded (bare p) h n) (event q h n)) (sym is.same) (held h n) in (n, omega arith, inl (omega arith), f.trace, f.live),
        )

    go : (routines (bare p) ≡ []) ⊎ CpsAmong (bare p) → All (bare p)
    go (inl none) = native (native_converted list end p read unbroken none)
    go (inr (f, has, mode)) =
        let had = accepted_had list end p read unbroken in
        let does = pieces_do (bare p) had f (record { has = has; mode = mode }) in
        (cps_comes_to (bare p) had does, cps_comes_from (bare p) had does, cps_rests (bare p) had does, cps_few (bare p) had does)

pub converted_comes_to : ConvertedComesTo
converted_comes_to list end p read unbroken = (converted_all list end p read unbroken).0

pub converted_comes_from : ConvertedComesFrom
converted_comes_from list end p read unbroken = (converted_all list end p read unbroken).1

pub converted_rests : ConvertedRests
converted_rests list end p read unbroken =
    let all = converted_all list end p read unbroken in
    record { rests = all.2; live = all.3 }
