-- Of which files a call asks, and how far.
use Rattle.std.proofs.Common.{◌≡◌, ◌+◌, ◌==◌, ◌≤◌, ◌⊎◌, inl, inr, ℕ, suc, max, Bool, true, false, List, Option, Some, None, refl, ap, sym, ◌∙◌, subst, arith}
use Rattle.std.specs.Prelude.{if◌then◌else◌}
use Rattle.std.specs.Option.{option_map_or}
use Rattle.std.specs.Str.{bytes_eq}
use Rattle.cpc_base.specs.Bytes.{Text}
use Rattle.cpc_base.specs.Outside.{AskedTo, Files}
use Rattle.cpc_tree.specs.Syntax.{Program}
use Rattle.cpc_meaning.specs.History.{History}
use Rattle.cpc_cli_command.specs.Commands.{Command, Options, command_of}
use Rattle.cpc_cli.specs.Answer.{Said, status_of}
use Rattle.cpc_cli.specs.Asked.{AsksUpTo, command_end, file_end, history_end, is_early, tells_early, words_end}
use Rattle.cpc_cli.specs.Command.{InFile, file_named, history_limit, history_named, source_of, text_limit}
use Rattle.cpc_cli.specs.Ran.{NotTold, RanTo}
use Rattle.cpc_cli.specs.declared.answer.Role.TheVariants as R
use Rattle.cpc_cli.specs.declared.answer.Report.{Report}
use Rattle.cpc_cli.specs.declared.answer.Outcome.TheVariants.{Ended, Exited, Failed, HistoryEnded, BadHistory, Stopped, Full, Accepted, Translated}
use Rattle.cpc_cli.specs.declared.answer.End.{End}
use Rattle.cpc_cli.specs.declared.answer.End.TheVariants.{Done, Usage, Refused, Unread, Unwritten, Memory, TooLong, BadLine, NoHost}

-- ---- what was asked for

pub asks_nothing : (count ends : Text → ℕ) → AsksUpTo count count ends
asks_nothing count ends = λ name. omega arith

asks_less : (before now few many : Text → ℕ) → ((name : Text) → few name ≤ many name) → AsksUpTo before now few → AsksUpTo before now many
asks_less before now few many less asks = λ name. omega (arith, less name, asks name)

-- what was asked of one file
pub asks_file : (before now : Text → ℕ) (file : Text) (limit : ℕ) → AskedTo before now file (limit + 1) → AsksUpTo before now (file_end (Some file) limit)
asks_file before now file limit asked = λ name. by (before name) (now name) (bytes_eq name file) (asked name)
  where
    by : (b n : ℕ) (is : Bool) → n ≤ (if is then max b (limit + 1) else b) → n ≤ max b (if is then suc limit else 0)
    by b n true less = omega (arith, less)
    by b n false less = omega (arith, less)

-- and of a command whose text it is
pub asks_text : (before now : Text → ℕ) (command : Command) (file : Text) (early : Bool) → (source_of command).origin ≡ InFile file
    → AskedTo before now file (text_limit (source_of command).dialect + 1) → AsksUpTo before now (command_end command early)
asks_text before now command file early is asked =
    let limit = text_limit (source_of command).dialect in
    let one : AsksUpTo before now (file_end (file_named (source_of command).origin) limit) =
    subst (λ origin. AsksUpTo before now (file_end (file_named origin) limit)) (sym is) (asks_file before now file limit asked) in
    asks_less before now _ (command_end command early) (λ name. omega arith) one

-- its text and then its history
pub asks_both : (before mid now : Text → ℕ) (command : Command) (file : Text) (early : Bool) → (source_of command).origin ≡ InFile file
    → AskedTo before mid file (text_limit (source_of command).dialect + 1) → AsksUpTo mid now (history_end early (history_named command)) → AsksUpTo before now (command_end command early)
asks_both before mid now command file early is asked more =
    let one = asks_text before mid command file early is asked in
    λ name. let first = one name in let second = more name in omega (arith, first, second)

-- its history alone
pub asks_history : (before now : Text → ℕ) (command : Command) (early : Bool) → AsksUpTo before now (history_end early (history_named command)) → AsksUpTo before now (command_end command early)
asks_history before now command early asks = asks_less before now _ (command_end command early) (λ name. omega arith) asks

-- where no history is named, none is asked for
pub asks_none : (before now : Text → ℕ) (history : Option Text) (early late : Bool) (command : Command) → history ≡ None → AsksUpTo before now (history_end early history)
    → AsksUpTo before now (command_end command late)
asks_none before now history early late command is asks =
    let none : AsksUpTo before now (history_end early None) = subst (λ h. AsksUpTo before now (history_end early h)) is asks in
    λ name. by name early (none name)
  where
    by : (name : Text) (b : Bool) → now name ≤ max (before name) (history_end b None name) → now name ≤ max (before name) (command_end command late name)
    by name true less = omega (arith, less)
    by name false less = omega (arith, less)

-- the words ask for the command
pub asks_named : (before now : Text → ℕ) (words : List Text) (command : Command) (early : Bool) → command_of words ≡ Some command
    → AsksUpTo before now (command_end command early) → AsksUpTo before now (words_end words early)
asks_named before now words command early is asks = λ name.
    subst (λ end. now name ≤ max (before name) end) (sym (ap (λ o. option_map_or (λ command. command_end command early name) o 0) is)) (asks name)

-- ---- when a call ends early

-- a history that is asked for is not asked for early
pub late_history : (before now : Text → ℕ) (history : Option Text) (early : Bool) → early ≡ false → AsksUpTo before now (file_end history history_limit)
    → AsksUpTo before now (history_end early history)
late_history before now history early late asks = subst (λ b. AsksUpTo before now (history_end b history)) (sym late) asks

-- a run that was told its history is not left early
pub ran_late : (q : Program) (h : History) (options : Options) (text : Bool) (report : Report) (unwritten : Type 0) (out : Text) (end : End) → RanTo q h options text report unwritten out end → is_early end ≡ false
ran_late q h options text report unwritten out (Done outcome) r = refl
ran_late q h options text report unwritten out Unwritten r = refl
ran_late q h options text report unwritten out Memory r = refl
ran_late q h options text report unwritten out Usage r = absurd r
ran_late q h options text report unwritten out (Refused fault) r = absurd r
ran_late q h options text report unwritten out (Unread role) r = absurd r
ran_late q h options text report unwritten out (TooLong role) r = absurd r
ran_late q h options text report unwritten out (BadLine fault) r = absurd r
ran_late q h options text report unwritten out (NoHost name) r = absurd r

-- nor is a call that is not told its history
pub untold_late : (told : Option Files) (history : Option Text) (unread : Text → Type 0) (end : End) → NotTold told history unread end → is_early end ≡ false
untold_late told history unread (Unread R.History) h = refl
untold_late told history unread (Unread R.Text) h = absurd h
untold_late told history unread (TooLong R.History) h = refl
untold_late told history unread (TooLong R.Text) h = absurd h
untold_late told history unread (BadLine fault) h = refl
untold_late told history unread Memory h = refl
untold_late told history unread (Done outcome) h = absurd h
untold_late told history unread Usage h = absurd h
untold_late told history unread (Refused fault) h = absurd h
untold_late told history unread Unwritten h = absurd h
untold_late told history unread (NoHost name) h = absurd h

waiting_late : (b : Bool) → tells_early (if b then 0 else 14) ≡ true → false ≡ true
waiting_late true e = e
waiting_late false e = e

-- an end whose status tells so is early
early_end : (end : End) → tells_early (status_of end) ≡ true → is_early end ≡ true
early_end (Done (Ended waiting)) e = waiting_late (waiting == 0) e
early_end (Done (Exited number)) e = e
early_end (Done (Failed fault function)) e = e
early_end (Done (HistoryEnded taken)) e = e
early_end (Done (BadHistory poll section)) e = e
early_end (Done (Stopped n)) e = e
early_end (Done (Full cap asked)) e = e
early_end (Done Accepted) e = e
early_end (Done Translated) e = e
early_end Usage e = refl
early_end (Refused fault) e = refl
early_end (Unread R.Text) e = refl
early_end (Unread R.History) e = e
early_end Unwritten e = e
early_end Memory e = e
early_end (TooLong R.Text) e = refl
early_end (TooLong R.History) e = e
early_end (BadLine fault) e = e
early_end (NoHost name) e = refl

-- the status of an end that was said, or of want of memory in place of it
early_said : (end last : End) (line err : Text) (failed : Type 0) (status : ℕ) → last ≡ end ⊎ last ≡ Memory → Said line (status_of last) failed status err
    → tells_early status ≡ true → is_early end ≡ true
early_said end last line err failed status (inl e) (inl said) tells = early_end end (subst (λ n. tells_early n ≡ true) (said.0 ∙ ap status_of e) tells)
early_said end last line err failed status (inr e) (inl said) tells = absurd (let was : false ≡ true = subst (λ n. tells_early n ≡ true) (said.0 ∙ ap status_of e) tells in cc)
early_said end last line err failed status which (inr said) tells = absurd (let was : false ≡ true = subst (λ n. tells_early n ≡ true) said.0 tells in cc)

-- what is asked for by an early end is within what is by any
any_end : (before now : Text → ℕ) (words : List Text) (early : Bool) → AsksUpTo before now (words_end words early) → AsksUpTo before now (words_end words false)
any_end before now words false asks = asks
any_end before now words true asks = asks_less before now _ (words_end words false) (λ name. less (command_of words) name) asks
  where
    less : (o : Option Command) (name : Text) → option_map_or (λ command. command_end command true name) o 0 ≤ option_map_or (λ command. command_end command false name) o 0
    less None name = omega arith
    less (Some command) name = omega arith

-- what was asked for by an end is within what is due by the one that is told, which may be want of memory
pub asks_last : (before now : Text → ℕ) (words : List Text) (end last : End) → last ≡ end ⊎ last ≡ Memory → AsksUpTo before now (words_end words (is_early end))
    → AsksUpTo before now (words_end words (is_early last))
asks_last before now words end last (inl same) asks = subst (λ x. AsksUpTo before now (words_end words (is_early x))) (sym same) asks
asks_last before now words end last (inr memory) asks = subst (λ x. AsksUpTo before now (words_end words (is_early x))) (sym memory) (any_end before now words (is_early end) asks)

-- what was asked by an end is within what is due by the status
pub asks_said : (before now : Text → ℕ) (words : List Text) (end last : End) (line err : Text) (failed : Type 0) (status : ℕ) → last ≡ end ⊎ last ≡ Memory
    → Said line (status_of last) failed status err → AsksUpTo before now (words_end words (is_early end)) → AsksUpTo before now (words_end words (tells_early status))
asks_said before now words end last line err failed status which said asks =
    by (is_early end) (tells_early status) (early_said end last line err failed status which said) asks
  where
    by : (e s : Bool) → (s ≡ true → e ≡ true) → AsksUpTo before now (words_end words e) → AsksUpTo before now (words_end words s)
    by true true h a = a
    by false false h a = a
    by true false h a = any_end before now words true a
    by false true h a = absurd (let wrong = h refl in cc)
