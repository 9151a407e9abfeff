-- An answer stays one when only the status is filled in, and each end may give way to want of memory.
use Rattle.std.proofs.Common.{◌≡◌, ◌≢◌, ◌==◌, ◌<◌, ◌++◌, ℕ, Bool, true, false, List, [], ap, sym, subst, ◌∙◌, inl, inr, ◌⊎◌, Option, Some, arith, refl}
use Rattle.std.specs.Prelude.{if◌then◌else◌}
use Rattle.std.proofs.lemmas.List.{append-nil}
use Rattle.cpc_base.specs.Bytes.{Text}
use Rattle.cpc_base.specs.Outside.{Files}
use Rattle.cpc_tree.specs.Syntax.{Program}
use Rattle.cpc_tree.specs.Located.{LProgram, bare}
use Rattle.cpc_tree.specs.Texts.{Stop}
use Rattle.cpc_meaning.specs.Events.{event}
use Rattle.cpc_meaning.specs.History.{History}
use Rattle.cpc_meaning.specs.Runs.{live_cells}
use Rattle.cpc_cli_command.specs.Commands.{Command, Check, Exec, Options, Sample, Translate, Run, command_of}
use Rattle.cpc_cli.specs.Command.{Asks, Host, bytes_line, history_named, named, sample_options, source_of}
use Rattle.cpc_cli.specs.Ran.{FirstFits, HasCells, IsAnswered, IsPartOf, IsUnbegun, LacksHost, MayHaveCells, NoSteps, NotTold, RanInPart, RanWhole, StandsSo, StaysWithin, IsFull, IsLeftBy, StartsFull, heading, shown, stop_in}
use Rattle.cpc_cli.specs.Answer.{IsPrinted, Answer, Rises, status_of, Does, DoesInPart, NotAccepted, EndedIn, did, not_begun, lacks_host, not_told, unwritten_in, starved_in, IsEnd, misused, starved, performed, NoRun, Nothing, Printed, Runs, RunsInPart, Takes}
use Rattle.cpc_run_workers.specs.Reports.{IsPrefix}
use Rattle.cpc_cli.specs.declared.answer.Role.{Role}
use Rattle.cpc_cli.specs.declared.answer.Role.TheVariants as R
use Rattle.cpc_cli.specs.declared.answer.Report.{Report}
use Rattle.cpc_cli.specs.declared.answer.Outcome.{Outcome}
use Rattle.cpc_cli.specs.declared.answer.Outcome.TheVariants.{Ended, Exited, Failed, HistoryEnded, BadHistory, Stopped, Full, Accepted, Translated}
use Rattle.cpc_cli.specs.declared.answer.End.{End}
use Rattle.cpc_cli.specs.declared.answer.End.TheVariants.{Done, Usage, Refused, Unread, Unwritten, Memory, TooLong, BadLine, NoHost}

-- the two reports differ at most in the status
pub record SameRun (old new : Report) : Type 0 where
  pub printed : new.printed.items ≡ old.printed.items
  pub steps : new.steps ≡ old.steps
  pub cells : new.cells ≡ old.cells

pub whole_prefix : (text : Text) → IsPrefix text text
whole_prefix text = record { rest = []; whole = sym (append-nil text) }

-- ---- a run that stands so was left so

pub left_so : (q : Program) (h : History) (bound cap n : ℕ) (outcome : Outcome) → StandsSo q h bound cap n outcome → IsLeftBy q h bound cap n (stop_in outcome)
left_so q h bound cap n (Ended k) s = s
left_so q h bound cap n (Exited z) s = s
left_so q h bound cap n (Failed f x) s = s
left_so q h bound cap n (HistoryEnded k) s = s.0
left_so q h bound cap n (BadHistory k m) s = s.0
left_so q h bound cap n (Stopped m) s = s.1
left_so q h bound cap n (Full c m) s = (m, s.1)
left_so q h bound cap n Accepted s = absurd s
left_so q h bound cap n Translated s = absurd s

full_fits : (q : Program) (h : History) (bound cap n m : ℕ) → IsFull q h bound cap n m ⊎ StartsFull q h cap n m → 0 < n → StaysWithin q h cap n
full_fits q h bound cap n m (inl s) some = s.fits
full_fits q h bound cap n m (inr s) some = absurd (let z = s.at_start in omega (arith, z, some))

pub stands_fit : (q : Program) (h : History) (bound cap n : ℕ) (outcome : Outcome) → StandsSo q h bound cap n outcome → 0 < n → StaysWithin q h cap n
stands_fit q h bound cap n (Ended k) s some = s.fits
stands_fit q h bound cap n (Exited z) s some = s.fits
stands_fit q h bound cap n (Failed f x) s some = s.fits
stands_fit q h bound cap n (HistoryEnded k) s some = s.0.fits
stands_fit q h bound cap n (BadHistory k m) s some = s.0.fits
stands_fit q h bound cap n (Stopped m) s some = s.1.fits
stands_fit q h bound cap n (Full c m) s some = full_fits q h bound cap n m s.1 some
stands_fit q h bound cap n Accepted s some = absurd s
stands_fit q h bound cap n Translated s some = absurd s

-- the first state of a run that stands so keeps to the cap, unless the run was left there for its cells
first_so : (q : Program) (h : History) (bound cap n : ℕ) (outcome : Outcome) (before out : Text) → StandsSo q h bound cap n outcome → FirstFits q h cap (stop_in outcome) before out
first_so q h bound cap n (Ended k) before out s = inl (s.fits 0 (omega arith))
first_so q h bound cap n (Exited z) before out s = inl (s.fits 0 (omega arith))
first_so q h bound cap n (Failed f x) before out s = inl (s.fits 0 (omega arith))
first_so q h bound cap n (HistoryEnded k) before out s = inl (s.0.fits 0 (omega arith))
first_so q h bound cap n (BadHistory k m) before out s = inl (s.0.fits 0 (omega arith))
first_so q h bound cap n (Stopped m) before out s = inl (s.1.fits 0 (omega arith))
first_so q h bound cap n (Full c m) before out s = inr (inl refl)
first_so q h bound cap n Accepted before out s = absurd s
first_so q h bound cap n Translated before out s = absurd s

-- a run that ended is one that may be told in part, where memory is wanting
pub whole_in_part : (q : Program) (h : History) (options : Options) (text : Bool) (report : Report) (out : Text) (outcome : Outcome)
    → RanWhole q h options text report out outcome → RanInPart q h options text report out Memory
whole_in_part q h options text report out outcome r = record {
  cells = inl r.cells;
  fits = stands_fit q h options.steps options.cells report.steps outcome r.stands;
  last = stop_in outcome;
  left = left_so q h options.steps options.cells report.steps outcome r.stands;
  first = first_so q h options.steps options.cells report.steps outcome (heading text report.printed.items) out r.stands;
  part = subst (IsPrefix out) r.whole (whole_prefix out);
}

module _ (host : Host) (told : Option Files) (unread : Text → Type 0) (unwritten : Type 0) (old new : Report) (out : Text) (same : SameRun old new) where
  -- where no run was begun by the one end, none was by the other; and so with what was written
  abbrev pub Turns : (was now : End) → Type 0
  Turns was now = ((before : Text) → IsUnbegun was before out → IsUnbegun now before out) × ((text : Text) → IsPartOf was out text → IsPartOf now out text)

  stays : (end : End) → Turns end end
  stays end = (λ before unbegun. unbegun, λ text part. part)

  no_run : NoRun old → NoRun new
  no_run h = record { printed = same.printed ∙ h.printed; steps = same.steps ∙ h.steps; cells = same.cells ∙ h.cells }

  nothing : Nothing old out → Nothing new out
  nothing h = record { no_run = no_run h.no_run; silent = h.silent }

  no_steps : NoSteps old → NoSteps new
  no_steps h = record { steps = same.steps ∙ h.steps; cells = same.cells ∙ h.cells }

  has_cells : (q : Program) (h : History) → HasCells q h old → HasCells q h new
  has_cells q h c = same.cells ∙ c ∙ ap (λ n. live_cells (event q h n)) (sym same.steps)

  may_have_cells : (q : Program) (h : History) (a b : Type 0) → (a → b) → MayHaveCells q h old a → MayHaveCells q h new b
  may_have_cells q h a b moves (inl c) = inl (has_cells q h c)
  may_have_cells q h a b moves (inr (none, unbegun)) = inr (no_steps none, moves unbegun)

  accepts : (q : LProgram) → IsPrinted old.printed.items q → IsPrinted new.printed.items q
  accepts q h = subst (λ t. IsPrinted t q) (sym same.printed) h

  printed : (q : LProgram) → Printed q old → Printed q new
  printed q h = record { printed = accepts q h.printed; steps = same.steps ∙ h.steps; cells = same.cells ∙ h.cells }

  takes : (command : Command) (q : LProgram) → Takes told command old q → Takes told command new q
  takes (Run file options text) q h = (accepts q h.0, h.1)
  takes (Exec file options) q h = (same.printed ∙ h.0, h.1)
  takes (Sample number) q h = (accepts q h.0, h.1)
  takes (Translate file) q h = h
  takes (Check file) q h = h

  same_shown : (trace text : Bool) (q : Program) (h : History) (last : Option Stop) → shown trace text old.printed.items q h old.steps last ≡ shown trace text new.printed.items q h new.steps last
  same_shown trace text q h last = ap (λ t. shown trace text t q h old.steps last) (sym same.printed) ∙ ap (λ n. shown trace text new.printed.items q h n last) (sym same.steps)

  ran_whole : (out : Text) (q : Program) (h : History) (options : Options) (text : Bool) (outcome : Outcome) → RanWhole q h options text old out outcome → RanWhole q h options text new out outcome
  ran_whole out q h options text outcome r = record {
    cells = has_cells q h r.cells;
    stands = subst (λ n. StandsSo q h options.steps options.cells n outcome) (sym same.steps) r.stands;
    whole = r.whole ∙ same_shown options.trace text q h (stop_in outcome);
  }

  ran_in_part : (was now : End) → Turns was now → (q : Program) (h : History) (options : Options) (text : Bool) → RanInPart q h options text old out was → RanInPart q h options text new out now
  ran_in_part was now turns q h options text r = record {
    cells = may_have_cells q h _ _ (λ unbegun. subst (λ t. IsUnbegun now (heading text t) out) (sym same.printed) (turns.0 (heading text old.printed.items) unbegun)) r.cells;
    fits = subst (λ n. 0 < n → StaysWithin q h options.cells n) (sym same.steps) r.fits;
    last = r.last;
    left = subst (λ n. IsLeftBy q h options.steps options.cells n r.last) (sym same.steps) r.left;
    first = subst (λ t. FirstFits q h options.cells r.last (heading text t) out) (sym same.printed) r.first;
    part = subst (IsPartOf now out) (same_shown options.trace text q h r.last) (turns.1 _ r.part);
  }

  answered : (q : Program) (h : History) → IsAnswered host q h old.steps → IsAnswered host q h new.steps
  answered q h a = subst (IsAnswered host q h) (sym same.steps) a

  runs : (out : Text) (command : Command) (options : Options) (text : Bool) (outcome : Outcome) → Runs host told command options text old out outcome → Runs host told command options text new out outcome
  runs out command options text outcome r = record {
    program = r.program;
    takes = takes command r.program r.takes;
    hosts = r.hosts;
    polls = r.polls;
    tells = r.tells;
    answers = r.answers;
    answered = answered (bare r.program) _ r.answered;
    ran = ran_whole out (bare r.program) _ options text outcome r.ran;
  }

  runs_in_part : (was now : End) → Turns was now → (command : Command) (options : Options) (text : Bool) → RunsInPart host told command options text old out was
      → RunsInPart host told command options text new out now
  runs_in_part was now turns command options text r = record {
    program = r.program;
    takes = takes command r.program r.takes;
    hosts = r.hosts;
    polls = r.polls;
    tells = r.tells;
    answers = r.answers;
    answered = answered (bare r.program) _ r.answered;
    ran = ran_in_part was now turns (bare r.program) _ options text r.ran;
  }

  part_of_runs : (command : Command) (options : Options) (text : Bool) (outcome : Outcome) → Runs host told command options text old out outcome → RunsInPart host told command options text new out Memory
  part_of_runs command options text outcome r = record {
    program = r.program;
    takes = takes command r.program r.takes;
    hosts = r.hosts;
    polls = r.polls;
    tells = r.tells;
    answers = r.answers;
    answered = answered (bare r.program) _ r.answered;
    ran = whole_in_part (bare r.program) _ options text new out outcome (ran_whole out (bare r.program) _ options text outcome r.ran);
  }

  does : (command : Command) (outcome : Outcome) → Does host told command old out outcome → Does host told command new out outcome
  does (Run file options text) outcome h = runs out (Run file options text) options text outcome h
  does (Exec file options) outcome h = runs out (Exec file options) options false outcome h
  does (Sample number) outcome h = (h.0, runs h.0 (Sample number) sample_options false outcome h.1, h.2)
  does (Translate file) Translated h = (h.0, printed h.0 h.1, h.2 ∙ sym same.printed, h.3)
  does (Translate file) Accepted h = absurd h
  does (Translate file) (Ended n) h = absurd h
  does (Translate file) (Exited z) h = absurd h
  does (Translate file) (Failed f x) h = absurd h
  does (Translate file) (HistoryEnded n) h = absurd h
  does (Translate file) (BadHistory n m) h = absurd h
  does (Translate file) (Stopped n) h = absurd h
  does (Translate file) (Full c m) h = absurd h
  does (Check file) Accepted h = (no_run h.0, h.1, h.2)
  does (Check file) Translated h = absurd h
  does (Check file) (Ended n) h = absurd h
  does (Check file) (Exited z) h = absurd h
  does (Check file) (Failed f x) h = absurd h
  does (Check file) (HistoryEnded n) h = absurd h
  does (Check file) (BadHistory n m) h = absurd h
  does (Check file) (Stopped n) h = absurd h
  does (Check file) (Full c m) h = absurd h

  in_part : (was now : End) → Turns was now → (command : Command) → DoesInPart host told command old out was → DoesInPart host told command new out now
  in_part was now turns (Run file options text) h = runs_in_part was now turns (Run file options text) options text h
  in_part was now turns (Exec file options) h = runs_in_part was now turns (Exec file options) options false h
  in_part was now turns (Sample number) (inl h) = inl (runs_in_part was now turns (Sample number) sample_options false h)
  in_part was now turns (Sample number) (inr (outcome, front, h, p)) = inr (outcome, front, runs front (Sample number) sample_options false outcome h, turns.1 _ p)
  in_part was now turns (Translate file) h = (h.0, printed h.0 h.1, subst (IsPartOf now out) (sym same.printed) (turns.1 _ h.2), h.3)
  in_part was now turns (Check file) h = (no_run h.0, turns.1 _ h.1, h.2)

  in_part_from_whole : (command : Command) (outcome : Outcome) → Does host told command old out outcome → DoesInPart host told command new out Memory
  in_part_from_whole (Run file options text) outcome h = part_of_runs (Run file options text) options text outcome h
  in_part_from_whole (Exec file options) outcome h = part_of_runs (Exec file options) options false outcome h
  in_part_from_whole (Sample number) outcome h =
      inr (outcome, h.0, runs h.0 (Sample number) sample_options false outcome h.1, subst (IsPrefix out) h.2 (whole_prefix out))
  in_part_from_whole (Translate file) Translated h = (h.0, printed h.0 h.1, subst (IsPrefix out) (h.2 ∙ sym same.printed) (whole_prefix out), h.3)
  in_part_from_whole (Translate file) Accepted h = absurd h
  in_part_from_whole (Translate file) (Ended n) h = absurd h
  in_part_from_whole (Translate file) (Exited z) h = absurd h
  in_part_from_whole (Translate file) (Failed f x) h = absurd h
  in_part_from_whole (Translate file) (HistoryEnded n) h = absurd h
  in_part_from_whole (Translate file) (BadHistory n m) h = absurd h
  in_part_from_whole (Translate file) (Stopped n) h = absurd h
  in_part_from_whole (Translate file) (Full c m) h = absurd h
  in_part_from_whole (Check file) Accepted h = (no_run h.0, subst (IsPrefix out) h.1 (whole_prefix out), h.2)
  in_part_from_whole (Check file) Translated h = absurd h
  in_part_from_whole (Check file) (Ended n) h = absurd h
  in_part_from_whole (Check file) (Exited z) h = absurd h
  in_part_from_whole (Check file) (Failed f x) h = absurd h
  in_part_from_whole (Check file) (HistoryEnded n) h = absurd h
  in_part_from_whole (Check file) (BadHistory n m) h = absurd h
  in_part_from_whole (Check file) (Stopped n) h = absurd h
  in_part_from_whole (Check file) (Full c m) h = absurd h

  ended_as : (command : Command) (end : End) → EndedIn host told command unread unwritten old out end → EndedIn host told command unread unwritten new out end
  ended_as command _ (did outcome h) = did outcome (does command outcome h)
  ended_as command _ (not_begun end h none) = not_begun end h (nothing none)
  ended_as command _ (lacks_host end q t h none silent) = lacks_host end q (takes command q t) h (no_steps none) silent
  ended_as command _ (not_told end q t has h none silent) = not_told end q (takes command q t) has h (no_steps none) silent
  ended_as command _ (unwritten_in u h) = unwritten_in u (in_part Unwritten Unwritten (stays Unwritten) command h)
  ended_as command _ (starved_in h) = starved_in (in_part Memory Memory (stays Memory) command h)

  -- nothing is claimed of the cause of want of memory
  ended_by_memory : (command : Command) (end : End) → EndedIn host told command unread unwritten old out end → EndedIn host told command unread unwritten new out Memory
  ended_by_memory command _ (did outcome h) = starved_in (in_part_from_whole command outcome h)
  ended_by_memory command _ (not_begun end h none) = not_begun Memory tt (nothing none)
  ended_by_memory command _ (lacks_host end q t h none silent) = lacks_host Memory q (takes command q t) tt (no_steps none) silent
  ended_by_memory command _ (not_told end q t has h none silent) = not_told Memory q (takes command q t) has tt (no_steps none) silent
  ended_by_memory command _ (unwritten_in u h) = starved_in (in_part Unwritten Memory (λ before cut. cut.part, λ text cut. cut.part) command h)
  ended_by_memory command _ (starved_in h) = starved_in (in_part Memory Memory (stays Memory) command h)

  is_end_as : {words : List Text} {end : End} → IsEnd words host told unread unwritten old out end → IsEnd words host told unread unwritten new out end
  is_end_as (misused none h) = misused none (nothing h)
  is_end_as (starved h) = starved (nothing h)
  is_end_as (performed command {end} asks h) = performed command asks (ended_as command end h)

  is_end_by_memory : {words : List Text} {end : End} → IsEnd words host told unread unwritten old out end → IsEnd words host told unread unwritten new out Memory
  is_end_by_memory (misused none h) = starved (nothing h)
  is_end_by_memory (starved h) = starved (nothing h)
  is_end_by_memory (performed command {end} asks h) = performed command asks (ended_by_memory command end h)

  pub is_end_last : {words : List Text} {end last : End} → last ≡ end ⊎ last ≡ Memory → IsEnd words host told unread unwritten old out end → IsEnd words host told unread unwritten new out last
  is_end_last {words} (inl e) h = subst (IsEnd words host told unread unwritten new out) (sym e) (is_end_as h)
  is_end_last {words} (inr e) h = subst (IsEnd words host told unread unwritten new out) (sym e) (is_end_by_memory h)
