-- 8 comes only where the count of a file of the command rose.
use Rattle.std.proofs.Common.{◌≡◌, ◌≢◌, ◌==◌, ℕ, Bool, true, false, List, sym, ◌∙◌, inl, inr, Option, Some, arith, refl}
use Rattle.std.specs.Prelude.{if◌then◌else◌}
use Rattle.cpc_base.specs.Bytes.{Text}
use Rattle.cpc_base.specs.Outside.{Files}
use Rattle.cpc_cli_command.specs.Commands.{Command, command_of}
use Rattle.cpc_cli.specs.Command.{Asks, Host, InFile, IsMade, Origin, file_named, history_named, named, source_of}
use Rattle.cpc_tree.specs.Syntax.{Program}
use Rattle.cpc_tree.specs.Located.{bare}
use Rattle.cpc_cli.specs.Ran.{LacksHost, NotTold}
use Rattle.cpc_cli.specs.Answer.{Answer, Rises, UnreadIn, status_of, NotAccepted, EndedIn, did, not_begun, lacks_host, not_told, unwritten_in, starved_in, IsEnd, misused, starved, performed}
use Rattle.cpc_cli.specs.declared.answer.Role.{Role}
use Rattle.cpc_cli.specs.declared.answer.Role.TheVariants as R
use Rattle.cpc_cli.specs.declared.answer.Report.{Report}
use Rattle.cpc_cli.specs.declared.answer.Outcome.{Outcome}
use Rattle.cpc_cli.specs.declared.answer.Outcome.TheVariants.{Ended, Exited, Failed, HistoryEnded, BadHistory, Stopped, Full, Accepted, Translated}
use Rattle.cpc_cli.specs.declared.answer.End.{End}
use Rattle.cpc_cli.specs.declared.answer.End.TheVariants.{Done, Usage, Refused, Unread, Unwritten, Memory, TooLong, BadLine, NoHost}

waiting_not_8 : (b : Bool) → ◌≢◌ {A = ℕ} (if b then 0 else 14) 8
waiting_not_8 true e = absurd (omega (arith, e))
waiting_not_8 false e = absurd (omega (arith, e))

outcome_not_8 : (outcome : Outcome) → status_of (Done outcome) ≢ 8
outcome_not_8 (Ended waiting) e = waiting_not_8 (waiting == 0) e
outcome_not_8 (Exited z) e = absurd (omega (arith, e))
outcome_not_8 (Failed f x) e = absurd (omega (arith, e))
outcome_not_8 (HistoryEnded n) e = absurd (omega (arith, e))
outcome_not_8 (BadHistory n m) e = absurd (omega (arith, e))
outcome_not_8 (Stopped n) e = absurd (omega (arith, e))
outcome_not_8 (Full c m) e = absurd (omega (arith, e))
outcome_not_8 Accepted e = absurd (omega (arith, e))
outcome_not_8 Translated e = absurd (omega (arith, e))

module _ (words : List Text) (host : Host) (told : Option Files) (rose : Rises) (report : Report) (out : Text) where
  abbrev pub Cause : Type 0
  Cause = Asks words (λ command. (role : Role) × (name : Text) × (named command role ≡ Some name) × rose.shelf name)

  file_of : (origin : Origin) → UnreadIn origin rose.shelf → (name : Text) × (file_named origin ≡ Some name) × rose.shelf name
  file_of (InFile name) h = (name, refl, h)
  file_of (IsMade text) h = absurd h

  not_read : (command : Command) (end : End) → command_of words ≡ Some command → NotAccepted told (source_of command) rose.shelf end → status_of end ≡ 8 → Cause
  not_read command (Unread R.Text) asks h e = let f = file_of (source_of command).origin h in (command, asks, (R.Text, f.0, f.1, f.2))
  not_read command (Unread R.History) asks h e = absurd h
  not_read command (Refused fault) asks h e = absurd (omega (arith, e))
  not_read command (TooLong role) asks h e = absurd (omega (arith, e))
  not_read command (BadLine fault) asks h e = absurd h
  not_read command Memory asks h e = absurd (omega (arith, e))
  not_read command (Done outcome) asks h e = absurd h
  not_read command Usage asks h e = absurd h
  not_read command Unwritten asks h e = absurd h
  not_read command (NoHost name) asks h e = absurd h

  none_told : (command : Command) (end : End) → command_of words ≡ Some command → NotTold told (history_named command) rose.shelf end → status_of end ≡ 8 → Cause
  none_told command (Unread R.History) asks h e = (command, asks, (R.History, h.0, h.1, h.2))
  none_told command (Unread R.Text) asks h e = absurd h
  none_told command (Refused fault) asks h e = absurd h
  none_told command (TooLong role) asks h e = absurd (omega (arith, e))
  none_told command (BadLine fault) asks h e = absurd (omega (arith, e))
  none_told command Memory asks h e = absurd (omega (arith, e))
  none_told command (Done outcome) asks h e = absurd h
  none_told command Usage asks h e = absurd h
  none_told command Unwritten asks h e = absurd h
  none_told command (NoHost name) asks h e = absurd h

  not_lacking : (q : Program) (end : End) → LacksHost host.there q end → status_of end ≡ 8 → Cause
  not_lacking q (NoHost name) h e = absurd (omega (arith, e))
  not_lacking q Memory h e = absurd (omega (arith, e))
  not_lacking q (Done outcome) h e = absurd h
  not_lacking q Usage h e = absurd h
  not_lacking q (Refused fault) h e = absurd h
  not_lacking q (Unread role) h e = absurd h
  not_lacking q Unwritten h e = absurd h
  not_lacking q (TooLong role) h e = absurd h
  not_lacking q (BadLine fault) h e = absurd h

  ended_read : (command : Command) (end : End) → command_of words ≡ Some command → EndedIn host told command rose.shelf rose.out report out end → status_of end ≡ 8 → Cause
  ended_read command _ asks (did outcome h) e = absurd (outcome_not_8 outcome e)
  ended_read command _ asks (not_begun end h none) e = not_read command end asks h e
  ended_read command _ asks (lacks_host end q t h none silent) e = not_lacking (bare q) end h e
  ended_read command _ asks (not_told end q t has h none silent) e = none_told command end asks h e
  ended_read command _ asks (unwritten_in u h) e = absurd (omega (arith, e))
  ended_read command _ asks (starved_in h) e = absurd (omega (arith, e))

  end_read : {end : End} → IsEnd words host told rose.shelf rose.out report out end → status_of end ≡ 8 → Cause
  end_read (misused none h) e = absurd (omega (arith, e))
  end_read (starved h) e = absurd (omega (arith, e))
  end_read (performed command {end} asks h) e = ended_read command end asks h e

  pub read_cause : (err : Text) → Answer words host told rose report out err → report.status ≡ 8 → Cause
  read_cause err (end, ended, asked, inl said) e = end_read ended (sym said.0 ∙ e)
  read_cause err (end, ended, asked, inr said) e = absurd (let nine = said.0 in omega (arith, nine, e))
