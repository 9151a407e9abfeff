-- Programs that are not plain have other runs, and the rules do not see enough of trees of another shape.
use Rattle.std.proofs.Common.{◌≡◌, true, ℕ, [], length, refl, sym, ◌∙◌, ap, arith}
use Rattle.cpc_tree.specs.Syntax.{Program}
use Rattle.cpc_tree.specs.Trace.{Outcome, Failed, is_over}
use Rattle.cpc_meaning_matching.proofs.Systems.{over_stays}
use Rattle.cpc_meaning.specs.History.{History}
use Rattle.cpc_meaning.specs.Events.{CallMain, callbacks, event}
use Rattle.cpc_meaning.specs.Threads.{threaded}
use Rattle.cpc_meaning.specs.Runs.{SameRuns}
use Rattle.cpc_meaning.proofs.Connect.{machine_ends}
use Rattle.cpc_check_laws.specs.Run.Refusals.{underscored, cps_named, PlainIsNeeded, ShapeIsNeeded}

-- nothing comes from outside
abbrev nothing : History
nothing = record { polls = []; answers = []; section_bound = 1 }

-- the length of the name that is told of a fault
abbrev told : Outcome → ℕ
told (Failed fault f) = length f
told _ = 0

-- runs that are the same tell one name, where the event run is over after five steps
one_name : (p : Program) → SameRuns p p → is_over (event p nothing 5).outcome ≡ true → told (event p nothing 5).outcome ≡ told (threaded p nothing 5).outcome
one_name p r over =
    let g = r.forth nothing 5 in
    let stays : event p nothing g.0 ≡ event p nothing 5 = over_stays (machine_ends (callbacks p) CallMain nothing) 5 g.0 g.1 over in
    sym (ap (λ s. told s.outcome) stays) ∙ ap told g.3

-- so two names of different lengths are not told
other_names : (p : Program) (m n : ℕ) → told (event p nothing 5).outcome ≡ m → told (threaded p nothing 5).outcome ≡ n → ¬ (m ≡ n) → is_over (event p nothing 5).outcome ≡ true → ¬ SameRuns p p
other_names p m n e i apart over r = apart (sym e ∙ one_name p r over ∙ i)

pub plain_is_needed : PlainIsNeeded
plain_is_needed = record {
  spawn = λ r. r.event_never_stuck nothing 2 (refl, refl);
  detach = λ r. r.event_never_stuck nothing 2 (refl, refl);
  yield = λ r. r.event_never_stuck nothing 2 (refl, refl);
  box = λ r. r.threaded_never_stuck nothing 2 (refl, refl);
  underscores = other_names underscored 1 4 refl refl (λ e. absurd (omega arith)) refl;
  cps = other_names cps_named 2 1 refl refl (λ e. absurd (omega arith)) refl;
}

pub shape_is_needed : ShapeIsNeeded
shape_is_needed = (record { unbroken = refl; native = refl; not_plain = refl }, record { unbroken = refl; native = refl; not_plain = refl })
