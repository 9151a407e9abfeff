-- How a command ended.
use Rattle.std.proofs.Common.{◌≡◌, ◌<◌, ◌≤◌, ◌++◌, ℕ, Bool, true, false, arith, List, [], length, map, take, drop, Option, Some, None, refl, ap, sym, ◌∙◌, subst, append_assoc, append-nil, length-append, length-take-le, inl, inr, ◌⊎◌}
use Rattle.std.proofs.lemmas.List.{take-append-drop}
use Rattle.cpc_base.specs.Bytes.{Text}
use Rattle.cpc_base.specs.Outside.{Files, Rose}
use Rattle.cpc_base.specs.declared.stop.Dialect.{Dialect}
use Rattle.cpc_base.specs.declared.stop.Dialect.TheVariants.{Cpc, Event}
use Rattle.std.specs.Option.{option_map_or}
use Rattle.std.specs.Prelude.{codes}
use Rattle.cpc_tree.specs.Syntax.{Program}
use Rattle.cpc_history_marks.specs.Views.{told_of}
use Rattle.cpc_history_marks.specs.declared.marks.Told.{Told}
use Rattle.cpc_tree.specs.Located.{LProgram, bare}
use Rattle.cpc_tree.specs.Texts.{Stop}
use Rattle.cpc_tree.specs.Trace as T
use Rattle.cpc_tree.specs.declared.program.Program as GProgram
use Rattle.cpc_tree.specs.Erase.{program_of}
use Rattle.cpc_tree.specs.Locate.{located}
use Rattle.cpc_tree.proofs.Places.{bare_program}
use Rattle.cpc_meaning.specs.Events.{event}
use Rattle.cpc_meaning.specs.History.{History}
use Rattle.cpc_meaning.specs.Runs.{SameRuns, Within}
use Rattle.cpc_cli_command.specs.Commands.{Command, Check, Exec, Options, Run, Sample, Translate, command_of}
use Rattle.cpc_check.specs.Accepted.{Accepts}
use Rattle.cpc_translate.specs.Promised.{NoLeak, Shape, converted}
use Rattle.cpc_translate.specs.Refusals.{IsTextFault}
use Rattle.cpc_sample.specs.Sample.{sample_text}
use Rattle.cpc_cli.specs.Command.{Host, InFile, IsRun, Labels, Source, by_exec, by_run, events_source, file_source, history_named, labels_in, labels_of, made_source, no_labels, source_of, threads_source}
use Rattle.cpc_cli.specs.Ran.{FirstFits, HasHosts, IsAnswered, IsPartOf, IsUnbegun, LacksHost, MayHaveCells, NoSteps, NotTold, RanAnswered, RanInPart, RanTo, RanTold, RanWhole, TellsPolls, heading, history_with, run_text, shown, stop_in}
use Rattle.cpc_cli.specs.Answer.{IsPrinted, AcceptedAs, TextHas, IsTranslated, NotAccepted, Does, DoesInPart, EndedIn, did, not_begun, lacks_host, not_told, unwritten_in, starved_in, Nothing, NoRun, Printed, RefusesText, Runs, RunsInPart, Takes, line_of}
use Rattle.cpc_run_workers.specs.Reports.{IsCutShort, IsPrefix}
use Rattle.cpc_cli.specs.declared.answer.Role.TheVariants as R
use Rattle.cpc_cli.specs.declared.answer.Report.{Report}
use Rattle.cpc_cli.specs.declared.answer.Outcome.{Outcome}
use Rattle.cpc_cli.specs.declared.answer.End.{End}
use Rattle.cpc_cli.specs.declared.answer.End.TheVariants.{Done, Usage, Refused, Unread, Unwritten, Memory, TooLong, BadLine, NoHost}

-- a text of a file that is refused
pub text_refused : (told : Option Files) (file text : Text) (unread : Text → Type 0) (end : End) → TextHas told (threads_source file) (λ bytes. text ≡ bytes)
    → RefusesText text end → NotAccepted told (threads_source file) unread end
text_refused told file text unread (Refused fault) h x = λ files is. let t = h files is in (t.0, t.1, (t.2.0, subst (λ b. IsTextFault Cpc b fault) t.2.1 x))
text_refused told file text unread Memory h x = tt
text_refused told file text unread (Unread role) h x = absurd x
text_refused told file text unread (TooLong role) h x = absurd x
text_refused told file text unread (BadLine fault) h x = absurd x
text_refused told file text unread (Done outcome) h x = absurd x
text_refused told file text unread Usage h x = absurd x
text_refused told file text unread Unwritten h x = absurd x
text_refused told file text unread (NoHost name) h x = absurd x

-- a sample's text that is refused
pub sample_refused : (told : Option Files) (number : ℕ) (text : Text) (unread : Text → Type 0) (end : End) → text ≡ sample_text number → RefusesText text end
    → NotAccepted told (made_source (sample_text number)) unread end
sample_refused told number text unread (Refused fault) is x = subst (λ b. IsTextFault Cpc b fault) is x
sample_refused told number text unread Memory is x = tt
sample_refused told number text unread (Unread role) is x = absurd x
sample_refused told number text unread (TooLong role) is x = absurd x
sample_refused told number text unread (BadLine fault) is x = absurd x
sample_refused told number text unread (Done outcome) is x = absurd x
sample_refused told number text unread Usage is x = absurd x
sample_refused told number text unread Unwritten is x = absurd x
sample_refused told number text unread (NoHost name) is x = absurd x

-- a program that is read is accepted
pub accepted_as : (told : Option Files) (dialect : Dialect) (file : Text) (q : LProgram) → TextHas told (file_source dialect file) (λ text. Accepts dialect text q)
    → AcceptedAs told (file_source dialect file) (λ p. Unit {0})
accepted_as told dialect file q h = λ files is. let t = h files is in (t.0, t.1, (t.2.0, (q, t.2.1, tt)))

-- ---- the line

-- the files of the words' command
pub line_named : (words : List Text) (command : Command) (labels : Labels) → command_of words ≡ Some command → labels ≡ labels_of command → (end : End)
    → line_of labels end ≡ line_of (labels_in words) end
line_named words command labels asks is end = ap (λ l. line_of l end) (is ∙ ap (λ o. option_map_or labels_of o no_labels) (sym asks))

-- the line of the end, or that of want of memory, in which no file is named
pub last_line : (words : List Text) (labels : Labels) (end last : End) → last ≡ end ⊎ last ≡ Memory → line_of labels end ≡ line_of (labels_in words) end
    → line_of labels last ≡ line_of (labels_in words) last
last_line words labels end last (inl e) line = subst (λ x. line_of labels x ≡ line_of (labels_in words) x) (sym e) line
last_line words labels end last (inr e) line = subst (λ x. line_of labels x ≡ line_of (labels_in words) x) (sym e) refl

pub is_front : (n : _) (text : Text) → IsPrefix (take n text) text
is_front n text = record { rest = drop n text; whole = sym (take-append-drop n text) }

-- fewer bytes of a text than it has
pub is_cut : (n : ℕ) (text : Text) → n < length text → IsCutShort (take n text) text
is_cut n text less = record { part = is_front n text; short = let taken = length-take-le n text (omega (arith, less)) in omega (arith, taken, less) }

-- ---- a run

-- a count that rose from a later one on rose, also for a history
untold_earlier : (told : Option Files) (history : Option Text) (late early : Text → Type 0) → ((name : Text) → late name → early name) → (end : End)
    → NotTold told history late end → NotTold told history early end
untold_earlier told history late early moves (Unread R.History) (name, is, h) = (name, is, moves name h)
untold_earlier told history late early moves (Unread R.Text) h = h
untold_earlier told history late early moves (TooLong R.History) h = h
untold_earlier told history late early moves (TooLong R.Text) h = h
untold_earlier told history late early moves (BadLine fault) h = h
untold_earlier told history late early moves (Refused fault) h = h
untold_earlier told history late early moves Memory h = h
untold_earlier told history late early moves (Done outcome) h = h
untold_earlier told history late early moves Usage h = h
untold_earlier told history late early moves Unwritten h = h
untold_earlier told history late early moves (NoHost name) h = h

pub told_earlier : (host : Host) (told : Option Files) (q : Program) (options : Options) (text : Bool) (report : Report) (late early : Text → Type 0) (unwritten : Type 0) (out : Text)
    → ((name : Text) → late name → early name) → (end : End) → RanTold host told q options text report late unwritten out end → RanTold host told q options text report early unwritten out end
told_earlier host told q options text report late early unwritten out moves end (inl lacks) = inl lacks
told_earlier host told q options text report late early unwritten out moves end (inr (has, inl (h, none, silent))) =
    inr (has, inl (untold_earlier told options.history late early moves end h, none, silent))
told_earlier host told q options text report late early unwritten out moves end (inr (has, inr ran)) = inr (has, inr ran)

-- a run is told of the same files, by the same program
pub told_as : (host : Host) (told files : Option Files) (p q : Program) (options : Options) (text : Bool) (report : Report) (unread : Text → Type 0) (unwritten : Type 0) (out : Text) (end : End)
    → files ≡ told → p ≡ q → RanTold host files p options text report unread unwritten out end → RanTold host told q options text report unread unwritten out end
told_as host told files p q options text report unread unwritten out end e f ran =
    subst (λ t. RanTold host t q options text report unread unwritten out end) e (subst (λ x. RanTold host files x options text report unread unwritten out end) f ran)

-- and by the same polls
pub told_polls : (host : Host) (p q : Program) (options : Options) (text : Bool) (report : Report) (unwritten : Type 0) (out : Text) (end : End) (xs ys : List Told) → p ≡ q → xs ≡ ys
    → RanAnswered host p (map told_of xs) options text report unwritten out end → RanAnswered host q (map told_of ys) options text report unwritten out end
told_polls host p q options text report unwritten out end xs ys f e ran = subst (λ polls. RanAnswered host q (map told_of polls) options text report unwritten out end) e
    (subst (λ x. RanAnswered host x (map told_of xs) options text report unwritten out end) f ran)

does_so : (host : Host) (told : Option Files) (report : Report) (out : Text) (outcome : Outcome) {command : Command} {options : Options} {text : Bool} → IsRun command options text
    → Runs host told command options text report out outcome → Does host told command report out outcome
does_so host told report out outcome (by_run file options text) r = r
does_so host told report out outcome (by_exec file options) r = r

part_so : (host : Host) (told : Option Files) (report : Report) (out : Text) (end : End) {command : Command} {options : Options} {text : Bool} → IsRun command options text
    → RunsInPart host told command options text report out end → DoesInPart host told command report out end
part_so host told report out end (by_run file options text) r = r
part_so host told report out end (by_exec file options) r = r

untold_so : (told : Option Files) (unread : Text → Type 0) (end : End) {command : Command} {options : Options} {text : Bool} → IsRun command options text
    → NotTold told options.history unread end → NotTold told (history_named command) unread end
untold_so told unread end (by_run file options text) h = h
untold_so told unread end (by_exec file options) h = h

-- a run that ended so did what the command does, or a part of it, or was not begun
pub run_ended : (host : Host) (told : Option Files) (command : Command) (options : Options) (text : Bool) → IsRun command options text → (q : LProgram) (unread : Text → Type 0) (unwritten : Type 0) (report : Report) (out : Text)
    → Takes told command report q → (end : End) → RanTold host told (bare q) options text report unread unwritten out end → EndedIn host told command unread unwritten report out end
run_ended host told command options text is q unread unwritten report out takes end (inl (lacks, none, silent)) = lacks_host end q takes lacks none silent
run_ended host told command options text is q unread unwritten report out takes end (inr (has, inl (h, none, silent))) =
    not_told end q takes has (untold_so told unread end is h) none silent
run_ended host told command options text is q unread unwritten report out takes end (inr (has, inr (polls, tells, by))) = go end by.ran
  where
    in_part : (end : End) → RanInPart (bare q) (history_with options polls by.answers) options text report out end → DoesInPart host told command report out end
    in_part end r = part_so host told report out end is (record { program = q; takes = takes; hosts = has; polls = polls; tells = tells; answers = by.answers; answered = by.answered; ran = r })

    go : (end : End) → RanTo (bare q) (history_with options polls by.answers) options text report unwritten out end → EndedIn host told command unread unwritten report out end
    go (Done outcome) r = did outcome (does_so host told report out outcome is
        (record { program = q; takes = takes; hosts = has; polls = polls; tells = tells; answers = by.answers; answered = by.answered; ran = r }))
    go Unwritten (cause, r) = unwritten_in cause (in_part Unwritten r)
    go Memory r = starved_in (in_part Memory r)
    go Usage h = absurd h
    go (Refused fault) h = absurd h
    go (Unread role) h = absurd h
    go (TooLong role) h = absurd h
    go (BadLine fault) h = absurd h
    go (NoHost name) h = absurd h

-- what `run` runs, once the run has left the printed text as it was
pub run_takes : (told : Option Files) (file : Text) (options : Options) (text : Bool) (q : LProgram) (old new : Report) → Printed q old → new.printed ≡ old.printed
    → AcceptedAs told (threads_source file) (λ p. IsTranslated p q) → Takes told (Run file options text) new q
run_takes told file options text q old new printed same accepted = (subst (λ v. IsPrinted v.items q) (sym same) printed.printed, accepted)

-- and what `exec` does
pub exec_takes : (told : Option Files) (file : Text) (options : Options) (q : LProgram) (old new : Report) → NoRun old → new.printed ≡ old.printed
    → TextHas told (events_source file) (λ text. Accepts Event text q) → Takes told (Exec file options) new q
exec_takes told file options q old new none same accepted = (ap (λ v. v.items) same ∙ none.printed, accepted)

-- nothing before a run makes a state of it
pub no_steps_in : (report : Report) → Nothing report [] → NoSteps report
no_steps_in report none = record { steps = none.no_run.steps; cells = none.no_run.cells }

pub no_steps_printed : (q : LProgram) (report : Report) → Printed q report → NoSteps report
no_steps_printed q report printed = record { steps = printed.steps; cells = printed.cells }

-- a prefix with what goes before it
pub behind_heading : (h a b : Text) → IsPrefix a b → IsPrefix (h ++ a) (h ++ b)
behind_heading h a b p = record { rest = p.rest; whole = ap (λ t. h ++ t) p.whole ∙ sym (append_assoc h a p.rest) }

-- a prefix of what goes before
pub front_heading : (a h b : Text) → IsPrefix a h → IsPrefix a (h ++ b)
front_heading a h b p = record { rest = p.rest ++ b; whole = ap (λ t. t ++ b) p.whole ∙ append_assoc a p.rest b }

-- the same of what is cut short
pub cut_behind : (h a b : Text) → IsCutShort a b → IsCutShort (h ++ a) (h ++ b)
cut_behind h a b cut = record {
  part = behind_heading h a b cut.part;
  short = let less = cut.short in let one = length-append h a in let two = length-append h b in omega (arith, less, one, two);
}

cut_heading : (a h b : Text) → IsCutShort a h → IsCutShort a (h ++ b)
cut_heading a h b cut = record {
  part = front_heading a h b cut.part;
  short = let less = cut.short in let both = length-append h b in omega (arith, less, both);
}

-- and of a part
part_behind : (end : End) (h a b : Text) → IsPartOf end a b → IsPartOf end (h ++ a) (h ++ b)
part_behind Unwritten h a b p = cut_behind h a b p
part_behind (Done outcome) h a b p = behind_heading h a b p
part_behind Usage h a b p = behind_heading h a b p
part_behind (Refused fault) h a b p = behind_heading h a b p
part_behind (Unread role) h a b p = behind_heading h a b p
part_behind Memory h a b p = behind_heading h a b p
part_behind (TooLong role) h a b p = behind_heading h a b p
part_behind (BadLine fault) h a b p = behind_heading h a b p
part_behind (NoHost name) h a b p = behind_heading h a b p

-- what is told of the first state of a run is told of it behind what goes before its text, since no bytes are not cut short
first_behind : (q : Program) (h : History) (cap : ℕ) (last : Option Stop) (out before front : Text) → FirstFits q h cap last [] out → FirstFits q h cap last before (front ++ out)
first_behind q h cap last out before front (inl fits) = inl fits
first_behind q h cap last out before front (inr (inl at_cells)) = inr (inl at_cells)
first_behind q h cap last out before front (inr (inr cut)) = absurd (let less = cut.short in omega (arith, less))

-- a count that rose from a later one on rose
pub rose_earlier : (a b c : ℕ) → a ≤ b → Rose b c → Rose a c
rose_earlier a b c le rose = omega (arith, le, rose)

-- what is told of no state of a run is so for a further reason
told_for : (q : Program) (h : History) (report : Report) (a b : Type 0) → (a → b) → MayHaveCells q h report a → MayHaveCells q h report b
told_for q h report a b moves (inl c) = inl c
told_for q h report a b moves (inr (none, unbegun)) = inr (none, moves unbegun)

-- a run behind what goes before its text
pub behind : (q : Program) (h : History) (options : Options) (text : Bool) (report : Report) (early late : Type 0) (front out : Text) → (early → late) → front ≡ heading text report.printed.items
    → (end : End) → RanTo q h options false report early out end → RanTo q h options text report late (front ++ out) end
behind q h options text report early late front out cause is end = go end
  where
    whole : (last : Option Stop) → out ≡ shown options.trace false report.printed.items q h report.steps last
        → front ++ out ≡ shown options.trace text report.printed.items q h report.steps last
    whole last e = ap (λ t. front ++ t) e ∙ ap (λ t. t ++ run_text options.trace last (event q h report.steps).trace) is

    -- no bytes are not cut short; and where memory was wanting before the first state, what goes before it is all that was written
    begun : (end : End) → IsUnbegun end [] out → IsUnbegun end (heading text report.printed.items) (front ++ out)
    begun Unwritten cut = absurd (let less = cut.short in omega (arith, less))
    begun Memory part = subst (λ t. IsPrefix (t ++ out) (heading text report.printed.items)) (sym is)
        (subst (IsPrefix (heading text report.printed.items ++ out)) (append-nil (heading text report.printed.items)) (behind_heading (heading text report.printed.items) out [] part))
    begun (Done outcome) h = h
    begun Usage h = h
    begun (Refused fault) h = h
    begun (Unread role) h = h
    begun (TooLong role) h = h
    begun (BadLine fault) h = h
    begun (NoHost name) h = h

    moved : (end : End) → RanInPart q h options false report out end → RanInPart q h options text report (front ++ out) end
    moved end r = record {
      cells = told_for q h report _ _ (begun end) r.cells;
      fits = r.fits;
      last = r.last;
      left = r.left;
      first = first_behind q h options.cells r.last out (heading text report.printed.items) front r.first;
      part = subst (λ t. IsPartOf end (t ++ out) (shown options.trace text report.printed.items q h report.steps r.last)) (sym is) (part_behind end (heading text report.printed.items) out _ r.part);
    }

    go : (end : End) → RanTo q h options false report early out end → RanTo q h options text report late (front ++ out) end
    go (Done outcome) r = record { cells = r.cells; stands = r.stands; whole = whole (stop_in outcome) r.whole }
    go Unwritten (u, r) = (cause u, moved Unwritten r)
    go Memory r = moved Memory r
    go Usage h = h
    go (Refused fault) h = h
    go (Unread role) h = h
    go (TooLong role) h = h
    go (BadLine fault) h = h
    go (NoHost name) h = h

-- the same with what the host answered
pub answered_behind : (host : Host) (q : Program) (polls : List T.Told) (options : Options) (text : Bool) (report : Report) (early late : Type 0) (front out : Text) → (early → late)
    → front ≡ heading text report.printed.items → (end : End) → RanAnswered host q polls options false report early out end → RanAnswered host q polls options text report late (front ++ out) end
answered_behind host q polls options text report early late front out cause is end by = record {
  answers = by.answers;
  answered = by.answered;
  ran = behind q (history_with options polls by.answers) options text report early late front out cause is end by.ran;
}

-- a run of which no state was made asked no host
pub unasked : (host : Host) (q : Program) (options : Options) (polls : List T.Told) (report : Report) → NoSteps report → IsAnswered host q (history_with options polls []) report.steps
unasked host q options polls report none = subst (IsAnswered host q (history_with options polls [])) (sym none.steps) (record { answered = refl; meets = tt })

-- a run of which no state was made, since the sink failed in what goes before it, shows no more than a part of that
pub unbegun : (q : Program) (h : History) (options : Options) (text : Bool) (report : Report) (out : Text) → NoSteps report → IsCutShort out (heading text report.printed.items)
    → RanInPart q h options text report out Unwritten
unbegun q h options text report out none cut = record {
  cells = inr (none, cut);
  fits = λ some. absurd (let z = none.steps in omega (arith, z, some));
  last = None;
  left = record { within = let z = none.steps in omega (arith, z); going = λ m less. absurd (let z = none.steps in omega (arith, z, less)) };
  first = inr (inr cut);
  part = cut_heading out _ _ cut;
}

-- a part of the printed text, or of the line behind it, where they are wanted
pub in_printed : (text : Bool) (printed : Text) (n : ℕ) → text ≡ true → n < length printed → IsCutShort (take n printed) (heading text printed)
in_printed true printed n e less = cut_heading (take n printed) printed (codes "/* run */\n") (is_cut n printed less)
in_printed false printed n e less = absurd cc

pub in_line : (text : Bool) (printed : Text) (n : ℕ) → text ≡ true → n < length (codes "/* run */\n") → IsCutShort (printed ++ take n (codes "/* run */\n")) (heading text printed)
in_line true printed n e less = cut_behind printed (take n (codes "/* run */\n")) (codes "/* run */\n") (is_cut n (codes "/* run */\n") less)
in_line false printed n e less = absurd cc

-- a program that is translated, by the trees with places
pub translated_so : (p q : GProgram.Program) → program_of q ≡ converted (program_of p) → SameRuns (program_of p) (program_of q)
    → Within (program_of p) (program_of q) → Shape (program_of p) (program_of q) → NoLeak (program_of p) (program_of q) → IsTranslated (located p) (located q)
translated_so p q event same within shape no_leak = record {
  event = bare_program q ∙ event ∙ ap converted (sym (bare_program p));
  same = subst (λ x. SameRuns x (bare (located q))) (sym (bare_program p)) (subst (SameRuns (program_of p)) (sym (bare_program q)) same);
  within = subst (λ x. Within x (bare (located q))) (sym (bare_program p)) (subst (Within (program_of p)) (sym (bare_program q)) within);
  shape = subst (λ x. Shape x (bare (located q))) (sym (bare_program p)) (subst (Shape (program_of p)) (sym (bare_program q)) shape);
  no_leak = subst (λ x. NoLeak x (bare (located q))) (sym (bare_program p)) (subst (NoLeak (program_of p)) (sym (bare_program q)) no_leak);
}
