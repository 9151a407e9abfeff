-- An accepted program has the same runs as its event program, within the cost.
use Rattle.std.proofs.Common.{◌≡◌, ◌⊎◌, inl, inr, ℕ, suc, true, [], Some, refl, sym, ◌∙◌, ap, subst}
use Rattle.std.specs.List.{All}
use Rattle.std.proofs.lemmas.List.Elements.{All-head}
use Rattle.cpc_base.specs.Bytes.{Text}
use Rattle.cpc_tree.specs.declared.program.Mode.TheVariants.{Native, Cps}
use Rattle.cpc_tree.specs.Located.{bare}
use Rattle.cpc_tree.specs.Syntax.{Function, Program}
use Rattle.cpc_tree.specs.Trace.{is_over}
use Rattle.cpc_tree.specs.Typing.{function_named}
use Rattle.cpc_meaning_matching.specs.Simulation.{Follows, one}
use Rattle.cpc_meaning.specs.Agenda.{Due}
use Rattle.cpc_meaning.specs.History.{History}
use Rattle.cpc_meaning.specs.Matching.{event_system}
use Rattle.cpc_meaning.specs.Runs.{SameRuns, Within, cost}
use Rattle.cpc_meaning.specs.Start.{main_name}
use Rattle.cpc_meaning.specs.Threads.{Thread, Pending, is_cps_mode}
use Rattle.cpc_meaning.specs.Trees.{trees}
use Rattle.cpc_check_laws.proofs.Sound.Accepted.{accepted_threads_never_stuck}
use Rattle.cpc_check_rules.specs.Operators.{is_cps}
use Rattle.cpc_forms.specs.Split.{Position}
use Rattle.cpc_convert_image_laws.specs.Relations.{Found, BothFound}
use Rattle.cpc_convert_routines.specs.Kept.{kept_function, routines}
use Rattle.cpc_chains_event.specs.Converted.{converted}
use Rattle.cpc_chains_laws.proofs.Related.Joined.{RowFacts}
use Rattle.cpc_chains_laws.proofs.Related.Pass.{follows_lifted}
use Rattle.cpc_chains_laws.proofs.Related.Setting.{Setting, Known}
use Rattle.cpc_lifted_laws.specs.Accepted.Functions.{HasMain}
use Rattle.cpc_lifted_laws.specs.Accepted.Lifted.{lifted_threads, lifted_after}
use Rattle.cpc_lifted_laws.proofs.Accepted.Counts.{cps_same}
use Rattle.cpc_lifted_laws.specs.Native.Instance.{StaysAs}
use Rattle.cpc_chains_laws.proofs.Native.Wholes.{kept_there, kept_named}
use Rattle.cpc_check_laws.proofs.Run.Alike.{plain_runs_same, plain_runs_within}
use Rattle.cpc_lifted_laws.specs.Arrival.Taken.{IsFine}
use Rattle.cpc_lifted_laws.specs.Runs.Bounds.{bounds_of}
use Rattle.cpc_chains_laws.specs.Runs.Laws.{IsNative, ConvertedHasSameRuns}
use Rattle.cpc_lifted_laws.specs.Runs.Runs.{CallsCps, NamesCps}
use Rattle.cpc_lifted_laws.proofs.Runs.Bounds.{bounds_enough}
use Rattle.cpc_lifted_laws.proofs.Runs.Called.{cps_from_then, OfCps, AllCpsIn}
use Rattle.cpc_chains_laws.proofs.Runs.Had.{Had, accepted_had}
use Rattle.cpc_chains_laws.proofs.Runs.Join.{setting, PiecesDo, FineSays, rows, same_runs}
use Rattle.cpc_chains_laws.proofs.Runs.Known.{state_known}
use Rattle.cpc_chains_laws.proofs.Runs.Natives.{CpsAmong, some_cps, native_converted}
use Rattle.cpc_chains_laws.proofs.Runs.Pass.{matches_native}
use Rattle.cpc_chains_laws.proofs.Runs.Pieces.{pieces_do}

module _ (p : Program) (had : Had p) where
  -- the pieces of all functions do what is asked of them
  abbrev pub Do : Type 0
  Do = PiecesDo p had.known (IsFine p) (CallsCps p)

  abbrev pub z : Setting
  z = setting p had.known (IsFine p) (CallsCps p)

  abbrev main : HasMain p
  main = had.convertible.main

  says : FineSays p had.known (IsFine p) (CallsCps p)
  says = record { stands = λ frame o fine. fine.may; held = λ frame o fine. fine.variables.held }

  -- then each call that is to begin is of a cps function
  item_cps : is_cps_mode main.function.mode ≡ true → (f : Text) → (f ≡ main_name) ⊎ ((g : Function) → function_named p f ≡ Some g → is_cps g.mode ≡ true) → NamesCps p f
  item_cps mode f (inl is) g named =
      let same : main.function ≡ g = let i : Some main.function ≡ Some g = sym main.named ∙ (ap (function_named p) (sym is) ∙ named) in cc in
      subst (λ (k : Function). is_cps_mode k.mode ≡ true) same mode
  item_cps mode f (inr cps) g named = cps_same g.mode ∙ cps g named

  pub cps_known : is_cps_mode main.function.mode ≡ true → (h : History) (n : ℕ) → Known z (lifted_after p h n)
  cps_known mode h n =
      state_known p (bounds_of p) had.sections h n (had.fine h n) (had.well h n) (λ f vs v ds e. item_cps mode f ((had.well h n).begins f vs v ds e))

  module _ (does : Do) where
    facts : RowFacts z (bounds_of p)
    facts = rows p had.known (IsFine p) (CallsCps p) had.cps says does had.convertible

    -- ---- a cps `main`

    cps_main : is_cps_mode main.function.mode ≡ true → Follows is_over (lifted_threads p) (event_system (trees (converted p))) (λ s. cost p) one
    cps_main mode = follows_lifted z (bounds_of p) facts (cost p) (bounds_enough p) (λ h n live. cps_known mode h n)

    -- ---- a native `main`

    native_known : (h : History) (n : ℕ) → AllCpsIn p had.modes (lifted_after p h n) → Known z (lifted_after p h n)
    native_known h n all =
        state_known p (bounds_of p) had.sections h n (had.fine h n) (had.well h n)
        (λ f vs v ds e. (All-head (λ (d : Due (Thread Position)). OfCps p d.item × Unit {0}) (record { item = Pending f vs; result = v }) ds (subst (All (λ (d : Due (Thread Position)). OfCps p d.item × Unit {0})) e all.round)).0)

    native_main : Found (StaysAs p) (function_named p main_name) (function_named (converted p) main_name) → Follows is_over (lifted_threads p) (event_system (trees (converted p))) (λ s. cost p) one
    native_main found = record { on = λ h live. matches_native z (bounds_of p) facts (cost p) (bounds_enough p) found h live (had.fine h 1).store (from_then h (cps_from_then p had.modes h live)) }
      where
        from_then : (h : History) → (is_over (lifted_after p h 2).outcome ≡ true) ⊎ ((n : ℕ) → AllCpsIn p had.modes (lifted_after p h (suc (suc n))))
            → (is_over (lifted_after p h 2).outcome ≡ true) ⊎ ((n : ℕ) → Known z (lifted_after p h (suc (suc n))))
        from_then h (inl over) = inl over
        from_then h (inr all) = inr (λ n. native_known h (suc (suc n)) (all n))

    -- ---- both

    follows : (main.function.mode ≡ Native) ⊎ (main.function.mode ≡ Cps) → Follows is_over (lifted_threads p) (event_system (trees (converted p))) (λ s. cost p) one
    follows (inr cps) = cps_main (ap is_cps_mode cps)
    follows (inl native) =
        let f = main.function in
        let stays = ap is_cps_mode native in
        native_main
        (subst (λ o. Found (StaysAs p) o (function_named (converted p) main_name)) (sym main.named)
        (subst (λ u. Found (StaysAs p) (Some f) u) (sym (kept_named p had.convertible.names had.convertible.named main_name f main.named stays))
        (BothFound f (kept_function f) (record { kept = kept_there p had.convertible.names main_name f main.named stays; same = refl }) (record { result = refl; parameters = refl }))))

    pub runs : SameRuns p (converted p) × Within p (converted p)
    runs = same_runs p (follows main.mode) had.live

-- the runs of an accepted program, and of its event program
pub converted_runs : ConvertedHasSameRuns
converted_runs list end p read unbroken = go (some_cps (bare p) (bare p))
  where
    native : IsNative (bare p) → SameRuns (bare p) (converted (bare p)) × Within (bare p) (converted (bare p))
    native is =
        let live = accepted_threads_never_stuck list end p read unbroken in
        subst (λ q. SameRuns (bare p) q × Within (bare p) q) (sym is.same) (plain_runs_same (bare p) is.plain live, plain_runs_within (bare p) is.plain live)

    go : (routines (bare p) ≡ []) ⊎ CpsAmong (bare p) → SameRuns (bare p) (converted (bare p)) × Within (bare p) (converted (bare p))
    go (inl none) = native (native_converted list end p read unbroken none)
    go (inr (f, has, mode)) = let had = accepted_had list end p read unbroken in runs (bare p) had (pieces_do (bare p) had f (record { has = has; mode = mode }))
