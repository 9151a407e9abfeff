-- What a call asks of the shelf: which files, and how far into each.
use Rattle.std.specs.Prelude.{ℕ, suc, ◌==◌, ◌≤◌, ◌||◌, Bool, true, false, if◌then◌else◌, List, Option, None, Some, max}
use Rattle.std.specs.Option.{option_map_or}
use Rattle.std.specs.Str.{bytes_eq}
use Rattle.cpc_base.specs.Bytes.{Text}
use Rattle.cpc_cli_command.specs.Commands.{Command, command_of}
use Rattle.cpc_cli.specs.Command.{file_named, history_limit, history_named, source_of, text_limit}
use Rattle.cpc_cli.specs.declared.answer.Role.TheVariants as R
use Rattle.cpc_cli.specs.declared.answer.End.{End}
use Rattle.cpc_cli.specs.declared.answer.End.TheVariants.{Done, Usage, Refused, Unread, Unwritten, Memory, TooLong, BadLine, NoHost}

-- between the two counts nothing was asked for under a name beyond its end
abbrev pub AsksUpTo : (before now ends : Text → ℕ) → Type 0
AsksUpTo before now ends = (name : Text) → now name ≤ max (before name) (ends name)

-- the end of what is asked for under a name where at most this file is read: one byte past its limit, and nothing of another file
abbrev pub file_end : (file : Option Text) → (limit : ℕ) → Text → ℕ
file_end None limit name = 0
file_end (Some file) limit name = if bytes_eq name file then suc limit else 0

-- the same for a history, of which nothing is read where a call ends early
abbrev pub history_end : (early : Bool) → (history : Option Text) → Text → ℕ
history_end true history name = 0
history_end false history name = file_end history history_limit name

-- the same for the two files of a command
abbrev pub command_end : Command → (early : Bool) → Text → ℕ
command_end command early name =
    max (file_end (file_named (source_of command).origin) (text_limit (source_of command).dialect) name) (history_end early (history_named command) name)

-- the same for words, which may ask for no command
abbrev pub words_end : (words : List Text) → (early : Bool) → Text → ℕ
words_end words early name = option_map_or (λ command. command_end command early name) (command_of words) 0

-- the call ended at its words, at its text, or at a function of the host: before its history is read
abbrev pub is_early : End → Bool
is_early (Done outcome) = false
is_early Usage = true
is_early (Refused fault) = true
is_early (Unread R.Text) = true
is_early (Unread R.History) = false
is_early Unwritten = false
is_early Memory = false
is_early (TooLong R.Text) = true
is_early (TooLong R.History) = false
is_early (BadLine fault) = false
is_early (NoHost name) = true

-- the status tells so
abbrev pub tells_early : (status : ℕ) → Bool
tells_early status = (status == 3) || (status == 12)
