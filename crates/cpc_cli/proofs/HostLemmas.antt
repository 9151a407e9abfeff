-- What `check` and `translate` do is the same whatever host there is.
use Rattle.std.proofs.Common.{Option}
use Rattle.cpc_base.specs.Bytes.{Text}
use Rattle.cpc_base.specs.Outside.{Files}
use Rattle.cpc_cli_command.specs.Commands.{Check, Translate}
use Rattle.cpc_cli.specs.Command.{Host}
use Rattle.cpc_cli.specs.Answer.{EndedIn, did, lacks_host, not_begun, not_told, starved_in, unwritten_in}
use Rattle.cpc_cli.specs.declared.answer.Report.{Report}
use Rattle.cpc_cli.specs.declared.answer.End.{End}
use Rattle.cpc_cli.specs.declared.answer.Outcome.TheVariants.{Ended, Exited, Failed, HistoryEnded, BadHistory, Stopped, Full, Accepted, Translated}

module _ (one two : Host) (told : Option Files) (file : Text) (unread : Text → Type 0) (unwritten : Type 0) (report : Report) (out : Text) where
  pub check_any : {end : End} → EndedIn one told (Check file) unread unwritten report out end → EndedIn two told (Check file) unread unwritten report out end
  check_any (did Accepted h) = did Accepted h
  check_any (did Translated h) = absurd h
  check_any (did (Ended n) h) = absurd h
  check_any (did (Exited z) h) = absurd h
  check_any (did (Failed f x) h) = absurd h
  check_any (did (HistoryEnded n) h) = absurd h
  check_any (did (BadHistory n m) h) = absurd h
  check_any (did (Stopped n) h) = absurd h
  check_any (did (Full c m) h) = absurd h
  check_any (not_begun end h none) = not_begun end h none
  check_any (lacks_host end q t h none silent) = absurd t
  check_any (not_told end q t has h none silent) = absurd t
  check_any (unwritten_in u h) = unwritten_in u h
  check_any (starved_in h) = starved_in h

  pub translate_any : {end : End} → EndedIn one told (Translate file) unread unwritten report out end → EndedIn two told (Translate file) unread unwritten report out end
  translate_any (did Translated h) = did Translated h
  translate_any (did Accepted h) = absurd h
  translate_any (did (Ended n) h) = absurd h
  translate_any (did (Exited z) h) = absurd h
  translate_any (did (Failed f x) h) = absurd h
  translate_any (did (HistoryEnded n) h) = absurd h
  translate_any (did (BadHistory n m) h) = absurd h
  translate_any (did (Stopped n) h) = absurd h
  translate_any (did (Full c m) h) = absurd h
  translate_any (not_begun end h none) = not_begun end h none
  translate_any (lacks_host end q t h none silent) = absurd t
  translate_any (not_told end q t has h none silent) = absurd t
  translate_any (unwritten_in u h) = unwritten_in u h
  translate_any (starved_in h) = starved_in h
