-- Where nothing failed, an answer is what is due.
use Rattle.std.proofs.Common.{◌≡◌, ◌≢◌, ◌<◌, ◌≤◌, ◌++◌, ℕ, Bool, false, List, [], ap, length, refl, sym, subst, ◌∙◌, inl, inr, Option, None, Some}
use Rattle.cpc_base.specs.Bytes.{Text}
use Rattle.cpc_base.specs.Outside.{Files}
use Rattle.cpc_base.specs.declared.stop.Dialect.{Dialect}
use Rattle.cpc_base.specs.declared.stop.Dialect.TheVariants.{Cpc, Event}
use Rattle.cpc_check.specs.Accepted.{Accepts}
use Rattle.cpc_translate.specs.Refusals.{IsTextFault}
use Rattle.cpc_tree.specs.Located.{LProgram, bare}
use Rattle.cpc_tree.specs.Trace as T
use Rattle.cpc_cli_command.specs.Commands.{Command, Check, Exec, Options, Sample, Translate, Run, command_of}
use Rattle.cpc_cli.specs.Command.{Host, InFile, IsMade, IsRun, Origin, Source, by_exec, by_run, bytes_line, events_source, history_limit, history_named, made_source, sample_options, source_of, text_limit, threads_source}
use Rattle.cpc_sample.specs.Sample.{sample_text}
use Rattle.cpc_cli.specs.Ran.{FileHas, HasHosts, IsAnswered, LacksHost, NotTold, StandsSo, TellsPolls, history_with, shown, stop_in}
use Rattle.cpc_cli.specs.Answer.{AcceptedAs, Answer, IsTranslated, Rises, Does, NotAccepted, EndedIn, did, not_begun, lacks_host, not_told, unwritten_in, starved_in, IsEnd, misused, starved, performed, LongIn, Runs, Takes, TextHas, TextIn, UnreadIn, status_of}
use Rattle.cpc_cli.specs.Exact.{ArePolls, Due, for_usage, for_absent, for_too_long, for_refused, for_no_host, for_no_history, for_long_history, for_bad_line, for_check, for_translate, for_run, for_sample, CanRun, Given, IsProgram, IsText, IsTextIn, NoneRose, Gives}
use Rattle.cpc_cli.specs.declared.answer.Role.TheVariants as R
use Rattle.cpc_cli.specs.declared.answer.Report.{Report}
use Rattle.cpc_cli.specs.declared.answer.Outcome.{Outcome}
use Rattle.cpc_cli.specs.declared.answer.Outcome.TheVariants.{Ended, Exited, Failed, HistoryEnded, BadHistory, Stopped, Full, Accepted, Translated}
use Rattle.cpc_cli.specs.declared.answer.End.{End}
use Rattle.cpc_cli.specs.declared.answer.End.TheVariants.{Done, Usage, Refused, Unread, Unwritten, Memory, TooLong, BadLine, NoHost}

-- ---- what is told of files, of the files themselves

text_there : (files : Files) (source : Source) (P : Text → Type 0) → TextHas (Some files) source P → (text : Text) × IsText files source text × P text
text_there files source P h = go source.origin h
  where
    go : (origin : Origin) → TextIn (Some files) origin source.dialect P → (text : Text) × IsTextIn files origin source.dialect text × P text
    go (InFile name) h = let t = h files refl in (t.0, (t.1, t.2.0), t.2.1)
    go (IsMade text) h = (text, refl, h)

program_there : (files : Files) (source : Source) (P : LProgram → Type 0) → AcceptedAs (Some files) source P → (p : LProgram) × IsProgram files source p × P p
program_there files source P h =
    let t = text_there files source (λ text. (p : LProgram) × Accepts source.dialect text p × P p) h in
    (t.2.0, record { text = t.0; is_text = t.1; accepts = t.2.1 }, t.2.2)

given : (files : Files) (command : Command) (report : Report) (q : LProgram) → Takes (Some files) command report q → Given files command report.printed.items q
given files (Run file options text) report q t = let p = program_there files (threads_source file) (λ p. IsTranslated p q) t.1 in (t.0, p.0, p.1, p.2)
given files (Exec file options) report q t =
    let text = text_there files (events_source file) (λ text. Accepts Event text q) t.1 in
    (t.0, record { text = text.0; is_text = text.1; accepts = text.2 })
given files (Sample number) report q t =
    let p = program_there files (made_source (sample_text number)) (λ p. IsTranslated p q) t.1 in (t.0, p.0, p.1, p.2)
given files (Translate file) report q t = t
given files (Check file) report q t = t

polls_there : (files : Files) (history : Option Text) (polls : List T.Told) → TellsPolls (Some files) history polls → ArePolls files history polls
polls_there files None polls h = h
polls_there files (Some name) polls h = let b = h files refl in (b.0, b.1, b.2.0, b.2.1)

module _ (host : Host) (files : Files) (words : List Text) (rose : Rises) (none : NoneRose files rose) (report : Report) (out : Text) where
  ran_due : (command : Command) (options : Options) (text : Bool) (outcome : Outcome) → command_of words ≡ Some command → IsRun command options text
      → Runs host (Some files) command options text report out outcome → Due host files words (Done outcome) out
  ran_due command options text outcome asks is r = subst (Due host files words (Done outcome)) (sym r.ran.whole)
      (for_run command options text report.printed.items r.program r.polls r.answers report.steps outcome asks is (given files command report r.program r.takes, r.hosts)
      (polls_there files options.history r.polls r.tells) r.answered r.ran.stands)

  sample_due : (number : ℕ) (outcome : Outcome) → command_of words ≡ Some (Sample number) → (front : Text)
      → Runs host (Some files) (Sample number) sample_options false report front outcome → out ≡ front ++ bytes_line number → Due host files words (Done outcome) out
  sample_due number outcome asks front r wrote =
      let none : r.polls ≡ [] = r.tells in
      let is : out ≡ shown false false report.printed.items (bare r.program) (history_with sample_options r.polls r.answers) report.steps (stop_in outcome) ++ bytes_line number = wrote ∙ ap (λ t. t ++ bytes_line number) r.ran.whole in
      subst (Due host files words (Done outcome)) (sym is) (subst (λ polls. Due host files words (Done outcome)
      (shown false false report.printed.items (bare r.program) (history_with sample_options polls r.answers) report.steps (stop_in outcome) ++ bytes_line number)) (sym none)
      (for_sample number report.printed.items r.program r.answers report.steps outcome asks (given files (Sample number) report r.program r.takes, r.hosts)
      (subst (λ polls. IsAnswered host (bare r.program) (history_with sample_options polls r.answers) report.steps) none r.answered)
      (subst (λ polls. StandsSo (bare r.program) (history_with sample_options polls r.answers) sample_options.steps sample_options.cells report.steps outcome) none r.ran.stands)))

  did_due : (command : Command) (outcome : Outcome) → command_of words ≡ Some command → Does host (Some files) command report out outcome → Due host files words (Done outcome) out
  did_due (Run file options text) outcome asks h = ran_due (Run file options text) options text outcome asks (by_run file options text) h
  did_due (Exec file options) outcome asks h = ran_due (Exec file options) options false outcome asks (by_exec file options) h
  did_due (Sample number) outcome asks (front, r, wrote) = sample_due number outcome asks front r wrote
  did_due (Translate file) Translated asks (q, printed, wrote, accepted) =
      let p = program_there files (threads_source file) (λ p. IsTranslated p q) accepted in
      subst (Due host files words (Done Translated)) (sym wrote) (for_translate file report.printed.items p.0 q asks p.1 printed.printed p.2)
  did_due (Translate file) Accepted asks h = absurd h
  did_due (Translate file) (Ended n) asks h = absurd h
  did_due (Translate file) (Exited z) asks h = absurd h
  did_due (Translate file) (Failed f x) asks h = absurd h
  did_due (Translate file) (HistoryEnded n) asks h = absurd h
  did_due (Translate file) (BadHistory n m) asks h = absurd h
  did_due (Translate file) (Stopped n) asks h = absurd h
  did_due (Translate file) (Full c m) asks h = absurd h
  did_due (Check file) Accepted asks (no_run, wrote, accepted) =
      let p = program_there files (threads_source file) (λ p. Unit {0}) accepted in
      subst (Due host files words (Done Accepted)) (sym wrote) (for_check file p.0 asks p.1)
  did_due (Check file) Translated asks h = absurd h
  did_due (Check file) (Ended n) asks h = absurd h
  did_due (Check file) (Exited z) asks h = absurd h
  did_due (Check file) (Failed f x) asks h = absurd h
  did_due (Check file) (HistoryEnded n) asks h = absurd h
  did_due (Check file) (BadHistory n m) asks h = absurd h
  did_due (Check file) (Stopped n) asks h = absurd h
  did_due (Check file) (Full c m) asks h = absurd h

  -- a file at which the shelf failed is not there
  absent : (name : Text) → rose.shelf name → files name ≡ None
  absent name h = go (files name) refl
    where
      go : (found : Option Text) → files name ≡ found → found ≡ None
      go None e = refl
      go (Some text) e = absurd (none.shelf name text e h)

  unread_due : (command : Command) (origin : Origin) → command_of words ≡ Some command → (source_of command).origin ≡ origin → UnreadIn origin rose.shelf → Due host files words (Unread R.Text) []
  unread_due command (InFile name) asks is h = for_absent command name asks is (absent name h)
  unread_due command (IsMade text) asks is h = absurd h

  long_due : (command : Command) (origin : Origin) → command_of words ≡ Some command → (source_of command).origin ≡ origin → LongIn (Some files) origin (source_of command).dialect
      → Due host files words (TooLong R.Text) []
  long_due command (InFile name) asks is h = let text = h files refl in for_too_long command name text.0 asks is text.1 text.2
  long_due command (IsMade text) asks is h = absurd h

  refused_due : (command : Command) (end : End) → command_of words ≡ Some command → NotAccepted (Some files) (source_of command) rose.shelf end → status_of end ≢ 11 → Due host files words end []
  refused_due command (Refused fault) asks h ample = let text = text_there files (source_of command) (λ text. IsTextFault (source_of command).dialect text fault) h in for_refused command text.0 fault asks text.1 text.2
  refused_due command (Unread R.Text) asks h ample = unread_due command (source_of command).origin asks refl h
  refused_due command (Unread R.History) asks h ample = absurd h
  refused_due command (TooLong R.Text) asks h ample = long_due command (source_of command).origin asks refl h
  refused_due command (TooLong R.History) asks h ample = absurd h
  refused_due command (BadLine fault) asks h ample = absurd h
  refused_due command Memory asks h ample = absurd (ample refl)
  refused_due command (Done outcome) asks h ample = absurd h
  refused_due command Usage asks h ample = absurd h
  refused_due command Unwritten asks h ample = absurd h
  refused_due command (NoHost name) asks h ample = absurd h

  lacking_due : (command : Command) (q : LProgram) (end : End) → command_of words ≡ Some command → Takes (Some files) command report q → LacksHost host.there (bare q) end → status_of end ≢ 11
      → Due host files words end []
  lacking_due command q (NoHost name) asks t h ample = for_no_host command report.printed.items name.items q (NoHost name) asks (given files command report q t) h refl
  lacking_due command q Memory asks t h ample = absurd (ample refl)
  lacking_due command q (Done outcome) asks t h ample = absurd h
  lacking_due command q Usage asks t h ample = absurd h
  lacking_due command q (Refused fault) asks t h ample = absurd h
  lacking_due command q (Unread role) asks t h ample = absurd h
  lacking_due command q Unwritten asks t h ample = absurd h
  lacking_due command q (TooLong role) asks t h ample = absurd h
  lacking_due command q (BadLine fault) asks t h ample = absurd h

  untold_due : (command : Command) (q : LProgram) (end : End) → command_of words ≡ Some command → Takes (Some files) command report q → HasHosts host.there (bare q)
      → NotTold (Some files) (history_named command) rose.shelf end → status_of end ≢ 11 → Due host files words end []
  untold_due command q (Unread R.History) asks t has (name, is, h) ample = for_no_history command report.printed.items name q asks (given files command report q t, has) is (absent name h)
  untold_due command q (TooLong R.History) asks t has (name, is, h) ample =
      let bytes = h files refl in
      for_long_history command report.printed.items name bytes.0 q asks (given files command report q t, has) is bytes.1 bytes.2
  untold_due command q (BadLine fault) asks t has (name, is, h) ample =
      let bytes = h files refl in
      for_bad_line command report.printed.items name bytes.0 q fault asks (given files command report q t, has) is bytes.1 bytes.2.0 bytes.2.1
  untold_due command q (Unread R.Text) asks t has h ample = absurd h
  untold_due command q (TooLong R.Text) asks t has h ample = absurd h
  untold_due command q (Refused fault) asks t has h ample = absurd h
  untold_due command q Memory asks t has h ample = absurd (ample refl)
  untold_due command q (Done outcome) asks t has h ample = absurd h
  untold_due command q Usage asks t has h ample = absurd h
  untold_due command q Unwritten asks t has h ample = absurd h
  untold_due command q (NoHost name) asks t has h ample = absurd h

  ended_due : (command : Command) (end : End) → command_of words ≡ Some command → EndedIn host (Some files) command rose.shelf rose.out report out end → status_of end ≢ 11 → Due host files words end out
  ended_due command _ asks (did outcome h) ample = did_due command outcome asks h
  ended_due command _ asks (not_begun end h nothing) ample = subst (Due host files words end) (sym nothing.silent) (refused_due command end asks h ample)
  ended_due command _ asks (lacks_host end q t h no_steps silent) ample = subst (Due host files words end) (sym silent) (lacking_due command q end asks t h ample)
  ended_due command _ asks (not_told end q t has h no_steps silent) ample = subst (Due host files words end) (sym silent) (untold_due command q end asks t has h ample)
  ended_due command _ asks (unwritten_in u h) ample = absurd (none.out u)
  ended_due command _ asks (starved_in h) ample = absurd (ample refl)

  end_due : {end : End} → IsEnd words host (Some files) rose.shelf rose.out report out end → status_of end ≢ 11 → Due host files words end out
  end_due (misused e h) ample = subst (Due host files words Usage) (sym h.silent) (for_usage e)
  end_due (starved h) ample = absurd (ample refl)
  end_due (performed command {end} asks h) ample = ended_due command end asks h ample

  exact : (err : Text) → Answer words host (Some files) rose report out err → report.status ≢ 11 → Gives host files words report.status out err
  exact err (end, ended, asked, inl said) ample =
      record { end = end; due = end_due ended (λ e. ample (said.0 ∙ e)); its_status = said.0; its_line = said.1 }
  exact err (end, ended, asked, inr said) ample = absurd (none.err said.2)

-- the same where the shelf tells its files
pub exact_where_told : (words : List Text) (host : Host) (told : Option Files) (rose : Rises) (report : Report) (out err : Text) → Answer words host told rose report out err → report.status ≢ 11
    → (files : Files) → told ≡ Some files → NoneRose files rose → Gives host files words report.status out err
exact_where_told words host told rose report out err answer ample files e none =
    exact host files words rose none report out err (subst (λ t. Answer words host t rose report out err) e answer) ample
