-- How a sample's run ended, and the line behind it.
use Rattle.std.proofs.Common.{◌≡◌, ◌∙◌, ◌++◌, ℕ, false, [], Option, Some, refl, ap, sym, subst, inl, inr, ◌⊎◌}
use Rattle.cpc_base.specs.Bytes.{Text}
use Rattle.cpc_base.specs.Outside.{Files}
use Rattle.cpc_tree.specs.Located.{LProgram, bare}
use Rattle.cpc_tree.specs.Syntax.{Program}
use Rattle.cpc_base.specs.declared.stop.Dialect.TheVariants.{Cpc}
use Rattle.cpc_check.specs.Accepted.{Accepts}
use Rattle.cpc_sample.specs.Sample.{sample_text}
use Rattle.cpc_cli_command.specs.Commands.{Options, Sample}
use Rattle.cpc_cli.specs.Command.{Host, bytes_line, sample_options}
use Rattle.cpc_cli.specs.Ran.{ClosedBy, HasHosts, NotTold, RanAnswered, RanInPart, RanTo, RanTold, history_with}
use Rattle.cpc_cli.specs.Answer.{IsPrinted, EndedIn, IsTranslated, Printed, Runs, RunsInPart, Takes, did, lacks_host, not_told, starved_in, unwritten_in}
use Rattle.cpc_cli.specs.declared.answer.Report.{Report}
use Rattle.cpc_cli.specs.declared.answer.Outcome.{Outcome}
use Rattle.cpc_cli.specs.declared.answer.Role.TheVariants as R
use Rattle.cpc_cli.specs.declared.answer.End.{End}
use Rattle.cpc_cli.specs.declared.answer.End.TheVariants.{Done, Usage, Refused, Unread, Unwritten, Memory, TooLong, BadLine, NoHost}
use Rattle.cpc_cli.proofs.TopLemmas.{behind_heading, cut_behind}

-- what `sample` runs, once the run has left the printed text as it was
pub sample_takes : (told : Option Files) (number : ℕ) (text : Text) (q : LProgram) (old new : Report) → Printed q old → new.printed ≡ old.printed → text ≡ sample_text number
    → ((p : LProgram) × Accepts Cpc text p × IsTranslated p q) → Takes told (Sample number) new q
sample_takes told number text q old new printed same is accepted =
    (subst (λ v. IsPrinted v.items q) (sym same) printed.printed, (accepted.0, subst (λ t. Accepts Cpc t accepted.0) is accepted.1, accepted.2))

-- a sample's run is told with its options, by its program
pub sample_told : (host : Host) (told : Option Files) (o : Options) (p q : Program) (report : Report) (unread : Text → Type 0) (unwritten : Type 0) (out : Text) (end now : End)
    → o ≡ sample_options → p ≡ q → end ≡ now → RanTold host told p o false report unread unwritten out end → RanTold host told q sample_options false report unread unwritten out now
sample_told host told o p q report unread unwritten out end now e f is ran =
    subst (λ x. RanTold host told q sample_options false report unread unwritten out x) is (subst (λ x. RanTold host told x sample_options false report unread unwritten out end) f
    (subst (λ x. RanTold host told p x false report unread unwritten out end) e ran))

-- the run did not come to an end that the line follows
abbrev pub IsUnfinished : End → Type 0
IsUnfinished (Done outcome) = ⊥
IsUnfinished _ = Unit {0}

pub unfinished : (end : End) → ((outcome : Outcome) → end ≡ Done outcome → ⊥) → IsUnfinished end
unfinished (Done outcome) other = other outcome refl
unfinished Usage other = tt
unfinished (Refused fault) other = tt
unfinished (Unread role) other = tt
unfinished Unwritten other = tt
unfinished Memory other = tt
unfinished (TooLong role) other = tt
unfinished (BadLine fault) other = tt
unfinished (NoHost name) other = tt

module _ (host : Host) (told : Option Files) (number : ℕ) (q : LProgram) (unread : Text → Type 0) (unwritten : Type 0) (report : Report) (takes : Takes told (Sample number) report q) where
  -- a run that came to its end
  pub sample_ran : (front : Text) (outcome : Outcome) → RanTold host told (bare q) sample_options false report unread unwritten front (Done outcome)
      → Runs host told (Sample number) sample_options false report front outcome
  sample_ran front outcome (inl (lacks, none, silent)) = absurd lacks
  sample_ran front outcome (inr (has, inl (h, none, silent))) = absurd h
  sample_ran front outcome (inr (has, inr (polls, tells, by))) =
      record { program = q; takes = takes; hosts = has; polls = polls; tells = tells; answers = by.answers; answered = by.answered; ran = by.ran }

  -- one that did not
  pub sample_unfinished : (out : Text) (end : End) → IsUnfinished end → RanTold host told (bare q) sample_options false report unread unwritten out end
      → EndedIn host told (Sample number) unread unwritten report out end
  sample_unfinished out end un (inl (lacks, none, silent)) = lacks_host end q takes lacks none silent
  sample_unfinished out end un (inr (has, inl (h, none, silent))) = not_told end q takes has h none silent
  sample_unfinished out end un (inr (has, inr (polls, tells, by))) = go end un by.ran
    where
      in_part : (end : End) → RanInPart (bare q) (history_with sample_options polls by.answers) sample_options false report out end → RunsInPart host told (Sample number) sample_options false report out end
      in_part end r = record { program = q; takes = takes; hosts = has; polls = polls; tells = tells; answers = by.answers; answered = by.answered; ran = r }

      go : (end : End) → IsUnfinished end → RanTo (bare q) (history_with sample_options polls by.answers) sample_options false report unwritten out end
          → EndedIn host told (Sample number) unread unwritten report out end
      go (Done outcome) un r = absurd un
      go Unwritten un (cause, r) = unwritten_in cause (inl (in_part Unwritten r))
      go Memory un r = starved_in (inl (in_part Memory r))
      go Usage un h = absurd h
      go (Refused fault) un h = absurd h
      go (Unread role) un h = absurd h
      go (TooLong role) un h = absurd h
      go (BadLine fault) un h = absurd h
      go (NoHost name) un h = absurd h

  -- the line behind a run that came to its end
  pub sample_closed : (late : Type 0) (front line : Text) (outcome : Outcome) (end : End) → (late → unwritten) → Runs host told (Sample number) sample_options false report front outcome
      → ClosedBy (bytes_line number) outcome late line end → EndedIn host told (Sample number) unread unwritten report (front ++ line) end
  sample_closed late front line outcome (Done last) cause r (is, e) =
      did last (front, subst (Runs host told (Sample number) sample_options false report front) (sym is) r, ap (λ t. front ++ t) e)
  sample_closed late front line outcome Unwritten cause r (u, p) = unwritten_in (cause u) (inr (outcome, front, r, cut_behind front line (bytes_line number) p))
  sample_closed late front line outcome Memory cause r e =
      starved_in (inr (outcome, front, r, behind_heading front line (bytes_line number) (record { rest = bytes_line number; whole = ap (λ t. t ++ bytes_line number) (sym e) })))
  sample_closed late front line outcome Usage cause r h = absurd h
  sample_closed late front line outcome (Refused fault) cause r h = absurd h
  sample_closed late front line outcome (Unread role) cause r h = absurd h
  sample_closed late front line outcome (TooLong role) cause r h = absurd h
  sample_closed late front line outcome (BadLine fault) cause r h = absurd h
  sample_closed late front line outcome (NoHost name) cause r h = absurd h
