-- How a call ends by what is told of its run.
use Rattle.std.proofs.Common.{◌≡◌, ◌<◌, ◌≤◌, ◌∙◌, ◌++◌, append_assoc, ℕ, zero, suc, Bool, true, false, List, [], arith, Option, None, Some, ap, refl, sym, subst, inl, inr, ◌⊎◌}
use Rattle.std.proofs.lemmas.Bool.{cases_lt}
use Rattle.cpc_base.specs.Bytes.{Text}
use Rattle.cpc_tree.specs.Erase.{Names}
use Rattle.cpc_tree.specs.Syntax.{Program}
use Rattle.cpc_tree.specs.Texts.{Stop, Over, AtCells}
use Rattle.cpc_tree.specs.Trace as T
use Rattle.cpc_meaning.specs.Events.{event}
use Rattle.cpc_meaning.specs.History.{History}
use Rattle.cpc_meaning.specs.Runs.{live_cells}
use Rattle.cpc_run_shown.specs.Outcomes.{outcome_of}
use Rattle.cpc_run_workers.specs.Reports.{IsCutShort, IsPrefix, KeepsFirst, Tells, IsLeft, WentOut, IsBrokenOff as RunIsBrokenOff, IsFull as RunIsFull}
use Rattle.cpc_run_shown.specs.Shown.{all_shown, shown as run_shown, stop_of}
use Rattle.cpc_run_shown.specs.declared.outcome.Limits.{Limits}
use Rattle.cpc_run_shown.specs.declared.outcome.Ended.{Ended as RunEnded}
use Rattle.cpc_run_shown.specs.declared.outcome.Ended.TheVariants as E
use Rattle.cpc_run_shown.specs.declared.outcome.Outcome.{Outcome as RunOutcome}
use Rattle.cpc_run_shown.specs.declared.outcome.Outcome.TheVariants as O
use Rattle.cpc_run_shown.specs.declared.outcome.RunReport.{RunReport}
use Rattle.cpc_cli_command.specs.Commands.{Options}
use Rattle.cpc_cli.specs.Counted.{IsCounted}
use Rattle.cpc_cli.specs.Ran.{FirstFits, HasCells, IsBrokenOff, IsFull, IsLeftBy, IsOver, IsStopped, MayHaveCells, RanInPart, RanWhole, StandsSo, StartsFull, StaysWithin, TookPolls, outcome_in, run_text, stop_in}
use Rattle.cpc_cli.specs.declared.answer.Report.{Report}
use Rattle.cpc_cli.specs.declared.answer.Outcome.{Outcome}
use Rattle.cpc_cli.specs.declared.answer.Outcome.TheVariants.{Ended, Exited, Failed, HistoryEnded, BadHistory, Stopped, Full, Accepted, Translated}
use Rattle.cpc_cli.specs.declared.answer.End.TheVariants.{Unwritten, Memory}
use Rattle.cpc_cli.proofs.AnswerLemmas.{whole_prefix}

not_going : (names : Names) (outcome : RunOutcome) → T.Going ≡ outcome_of names outcome → ⊥
not_going names (O.Ended n) e = cc
not_going names (O.Exited z) e = cc
not_going names (O.Failed f x) e = cc
not_going names O.HistoryEnded e = cc
not_going names (O.BadHistory n) e = cc

-- the first state is not over
some_steps : (names : Names) (q : Program) (h : History) (outcome : RunOutcome) (n : ℕ) → (event q h n).outcome ≡ outcome_of names outcome → 0 < n
some_steps names q h outcome zero e = absurd (not_going names outcome e)
some_steps names q h outcome (suc n) e = omega arith

-- ---- ends by what they tell

over_is : (o : Outcome) (outcome : T.Outcome) → outcome_in o ≡ Some outcome → stop_in o ≡ Some (Over outcome)
over_is (Ended k) outcome e = cc
over_is (Exited z) outcome e = cc
over_is (Failed f x) outcome e = cc
over_is (HistoryEnded k) outcome e = cc
over_is (BadHistory k m) outcome e = cc
over_is (Stopped k) outcome e = cc
over_is (Full c k) outcome e = cc
over_is Accepted outcome e = cc
over_is Translated outcome e = cc

-- a run that is over stands so
over_stands : (q : Program) (h : History) (bound cap n taken : ℕ) (o : Outcome) (outcome : T.Outcome) → outcome_in o ≡ Some outcome → IsCounted taken o
    → TookPolls q h n taken → IsOver q h bound cap n outcome → StandsSo q h bound cap n o
over_stands q h bound cap n taken (Ended k) outcome e c t s = let is : outcome ≡ T.Ended k = cc in subst (IsOver q h bound cap n) is s
over_stands q h bound cap n taken (Exited z) outcome e c t s = let is : outcome ≡ T.Exited z = cc in subst (IsOver q h bound cap n) is s
over_stands q h bound cap n taken (Failed f x) outcome e c t s = let is : outcome ≡ T.Failed f x.items = cc in subst (IsOver q h bound cap n) is s
over_stands q h bound cap n taken (HistoryEnded k) outcome e c t s =
    let is : outcome ≡ T.HistoryEnded = cc in (subst (IsOver q h bound cap n) is s, subst (TookPolls q h n) (sym c) t)
over_stands q h bound cap n taken (BadHistory k m) outcome e c t s =
    let is : outcome ≡ T.BadHistory m = cc in (subst (IsOver q h bound cap n) is s, taken, c, t)
over_stands q h bound cap n taken (Stopped k) outcome e c t s = cc
over_stands q h bound cap n taken (Full d k) outcome e c t s = cc
over_stands q h bound cap n taken Accepted outcome e c t s = cc
over_stands q h bound cap n taken Translated outcome e c t s = cc

-- ---- texts

-- at the start a run has nothing to show
none_shown : (trace : Bool) (q : Program) (h : History) → run_shown trace (event q h 0).trace ≡ []
none_shown true q h = refl
none_shown false q h = refl

-- what is a part of nothing is a part of any text
part_of_none : (out text : Text) → IsPrefix out [] → IsPrefix out text
part_of_none out text part = record { rest = part.rest ++ text; whole = ap (λ t. t ++ text) part.whole ∙ append_assoc out part.rest text }

all_is : (names : Names) (trace : Bool) (ended : RunEnded) (marks : List T.Mark) → all_shown names trace ended marks ≡ run_text trace (stop_of names ended) marks
all_is names true ended marks = refl
all_is names false ended marks = refl

shown_is : (trace : Bool) (marks : List T.Mark) → run_shown trace marks ≡ run_text trace None marks
shown_is true marks = refl
shown_is false marks = refl

module _ (names : Names) (q : Program) (h : History) (options : Options) (limits : Limits) (bound_is : limits.steps ≡ options.steps) (cap_is : limits.cells ≡ options.cells)
    (some : 1 ≤ options.steps) (r : RunReport) (out : Text) (t : Tells names q h limits options.trace r out) (old : Report) where
  abbrev pub report : Report
  report = record old { steps = r.steps; cells = r.cells }

  abbrev pub marks : List T.Mark
  marks = (event q h r.steps).trace

  fits : 0 < r.steps → StaysWithin q h options.cells r.steps
  fits more m le = subst (λ c. live_cells (event q h m) ≤ c) cap_is (t.bounded m more le)

  sure_cells : ¬ r.ended ≡ E.Memory → HasCells q h report
  sure_cells other = go t.cells
    where
      go : (r.cells ≡ live_cells (event q h r.steps)) ⊎ ((r.ended ≡ E.Memory) × (r.steps ≡ 0) × (r.cells ≡ 0)) → HasCells q h report
      go (inl c) = c
      go (inr c) = absurd (other c.0)

  -- memory was wanting before the first state, and nothing was written
  unshown : r.steps ≡ 0 → IsPrefix out (run_shown options.trace marks) → IsPrefix out []
  unshown none part = subst (IsPrefix out) (none_shown options.trace q h) (subst (λ n. IsPrefix out (run_shown options.trace (event q h n).trace)) none part)

  may_cells : IsPrefix out (run_shown options.trace marks) → MayHaveCells q h report (IsPrefix out [])
  may_cells part = go t.cells
    where
      go : (r.cells ≡ live_cells (event q h r.steps)) ⊎ ((r.ended ≡ E.Memory) × (r.steps ≡ 0) × (r.cells ≡ 0)) → MayHaveCells q h report (IsPrefix out [])
      go (inl c) = inl c
      go (inr c) = inr (record { steps = c.1; cells = c.2 }, unshown c.1 part)

  -- ---- how it was left

  -- the first states keep to the cap, the last of them too
  fit_all : live_cells (event q h r.steps) ≤ options.cells → (n : ℕ) → r.steps ≡ n → StaysWithin q h options.cells r.steps
  fit_all last zero e m le = let is : r.steps ≡ m = omega (arith, le, e) in subst (λ k. live_cells (event q h k) ≤ options.cells) is last
  fit_all last (suc n) e m le = fits (omega (arith, e)) m le

  over_left : (outcome : RunOutcome) → IsLeft names q h limits r.steps (E.Over outcome) → IsOver q h options.steps options.cells r.steps (outcome_of names outcome)
  over_left outcome s = record {
    within = subst (λ b. r.steps ≤ b) bound_is s.within;
    fits = fits (some_steps names q h outcome r.steps s.over);
    over = s.over;
    first = s.before;
  }

  steps_left : IsLeft names q h limits r.steps E.Steps → IsStopped q h options.steps options.cells r.steps
  steps_left s = let at = s.at_bound ∙ bound_is in record { at_bound = at; fits = fits (omega (arith, at, some)); going = s.going }

  full_left : (asked : ℕ) → RunIsFull q h limits.steps limits.cells r.steps asked → IsFull q h options.steps options.cells r.steps asked ⊎ StartsFull q h options.cells r.steps asked
  full_left asked (inl (less, fit, full, is)) = inl (record {
    within = subst (λ b. r.steps < b) bound_is less;
    fits = fit_all (subst (λ c. live_cells (event q h r.steps) ≤ c) cap_is fit) r.steps refl;
    above = subst (λ c. Rattle.cpc_meaning.specs.Runs.Full q h r.steps c) cap_is full;
    asked = is;
  })
  full_left asked (inr (start, above, is)) = inr (record { at_start = start; above = subst (λ c. c < asked) cap_is above; asked = is })

  first_in : live_cells (event q h 0) ≤ limits.cells → live_cells (event q h 0) ≤ options.cells
  first_in keeps = subst (λ c. live_cells (event q h 0) ≤ c) cap_is keeps

  broken_left : RunIsBrokenOff q h limits.steps r.steps → IsBrokenOff q h options.steps r.steps
  broken_left s = record { within = subst (λ b. r.steps ≤ b) bound_is s.within; going = s.going }

  left_by : (ended : RunEnded) → IsLeft names q h limits r.steps ended → IsLeftBy q h options.steps options.cells r.steps (stop_of names ended)
  left_by (E.Over outcome) s = over_left outcome s
  left_by E.Steps s = steps_left s
  left_by (E.Full asked) s = (asked, full_left asked s)
  left_by E.WriteFault s = broken_left s
  left_by E.Memory s = broken_left s
  left_by (E.NoHost x) s = absurd s

  -- the first state keeps to the cap, unless the run was left for its cells
  first_by : (ended : RunEnded) → KeepsFirst q h limits.cells ended → FirstFits q h options.cells (stop_of names ended) [] out
  first_by (E.Full asked) keeps = inr (inl refl)
  first_by (E.Over outcome) keeps = inl (first_in keeps)
  first_by E.Steps keeps = inl (first_in keeps)
  first_by E.WriteFault keeps = inl (first_in keeps)
  first_by E.Memory keeps = inl (first_in keeps)
  first_by (E.NoHost x) keeps = inl (first_in keeps)

  -- ---- what the call tells

  went : (ended : RunEnded) → r.ended ≡ ended → WentOut names q h limits options.trace r.steps ended out
  went ended e = subst (λ x. WentOut names q h limits options.trace r.steps x out) e t.wrote

  left_as : (ended : RunEnded) → r.ended ≡ ended → IsLeft names q h limits r.steps ended
  left_as ended e = subst (IsLeft names q h limits r.steps) e t.left

  over_whole : (outcome : RunOutcome) → r.ended ≡ E.Over outcome → out ≡ run_text options.trace (Some (Over (outcome_of names outcome))) marks
  over_whole outcome e = went (E.Over outcome) e ∙ all_is names options.trace (E.Over outcome) marks

  pub ended_over : (outcome : RunOutcome) (o : Outcome) → r.ended ≡ E.Over outcome → outcome_in o ≡ Some (outcome_of names outcome) → IsCounted r.polls o
      → RanWhole q h options false report out o
  ended_over outcome o e is counted = record {
    cells = sure_cells (λ m. cc);
    stands = over_stands q h options.steps options.cells r.steps r.polls o (outcome_of names outcome) is counted t.polls (over_left outcome (left_as (E.Over outcome) e));
    whole = over_whole outcome e ∙ ap (λ s. run_text options.trace s marks) (sym (over_is o (outcome_of names outcome) is));
  }

  pub ended_steps : r.ended ≡ E.Steps → RanWhole q h options false report out (Stopped r.steps)
  ended_steps e = record {
    cells = sure_cells (λ m. cc);
    stands = (refl, steps_left (left_as E.Steps e));
    whole = went E.Steps e ∙ all_is names options.trace E.Steps marks;
  }

  pub ended_full : (asked : _) → r.ended ≡ E.Full asked → RanWhole q h options false report out (Full options.cells asked)
  ended_full asked e = record {
    cells = sure_cells (λ m. cc);
    stands = (refl, full_left asked (left_as (E.Full asked) e));
    whole = went (E.Full asked) e ∙ all_is names options.trace (E.Full asked) marks;
  }

  pub ended_unwritten : r.ended ≡ E.WriteFault → RanInPart q h options false report out Unwritten
  ended_unwritten e =
      let w = went E.WriteFault e in record {
        cells = inl (sure_cells (λ m. cc));
        fits = fits;
        last = stop_of names w.0;
        left = left_by w.0 w.1;
        first = first_by w.0 w.2;
        part = subst (IsCutShort out) (all_is names options.trace w.0 marks) w.3;
      }

  -- where the first state has more live cells than the cap, no step was made
  at_first : options.cells < live_cells (event q h 0) → r.steps ≡ 0
  at_first above = go r.steps refl
    where
      go : (n : ℕ) → r.steps ≡ n → r.steps ≡ 0
      go zero e = e
      go (suc n) e = absurd (let fit = fits (omega (arith, e)) 0 (omega arith) in omega (arith, fit, above))

  -- a first state with more than the cap is one that a run is left at, whatever was wanting
  pub ended_starved : r.ended ≡ E.Memory → RanInPart q h options false report out Memory
  ended_starved e = starved (cases_lt options.cells (live_cells (event q h 0)))
    where
      starved : (options.cells < live_cells (event q h 0)) ⊎ (live_cells (event q h 0) ≤ options.cells) → RanInPart q h options false report out Memory
      starved (inl above) = record {
        cells = may_cells (went E.Memory e);
        fits = fits;
        last = Some AtCells;
        left = (live_cells (event q h 0), inr (record { at_start = at_first above; above = above; asked = refl }));
        first = inr (inl refl);
        part = part_of_none out (run_text options.trace (Some AtCells) marks) (unshown (at_first above) (went E.Memory e));
      }
      starved (inr within) = record {
        cells = may_cells (went E.Memory e);
        fits = fits;
        last = None;
        left = broken_left (left_as E.Memory e);
        first = inl within;
        part = subst (IsPrefix out) (shown_is options.trace marks) (went E.Memory e);
      }

  -- no function of the host is missing
  pub ended_hosted : (x : _) → r.ended ≡ E.NoHost x → ⊥
  ended_hosted x e = left_as (E.NoHost x) e

  -- the run is over, and memory was wanting for the name of its function
  pub over_starved : (outcome : RunOutcome) → r.ended ≡ E.Over outcome → RanInPart q h options false report out Memory
  over_starved outcome e = record {
    cells = inl (sure_cells (λ m. cc));
    fits = fits;
    last = Some (Over (outcome_of names outcome));
    left = over_left outcome (left_as (E.Over outcome) e);
    first = inl (fits (some_steps names q h outcome r.steps (left_as (E.Over outcome) e).over) 0 (omega arith));
    part = subst (IsPrefix out) (over_whole outcome e) (whole_prefix out);
  }

  -- the polls that were taken are no more than those of the history
  pub took_some : (n : ℕ) → n ≡ Rattle.std.specs.Prelude.length h.polls → r.polls ≤ n
  took_some n e = let p = t.polls in omega (arith, e, p)
