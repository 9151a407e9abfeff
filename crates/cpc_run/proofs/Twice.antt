-- A run that is told by two spellings: its steps go on, and what ends it is told in names of the table.
use Rattle.std.proofs.Common.{◌≡◌, ℕ, suc, Bool, List, [], Option, Some, None, Ok, refl, sym, ap, subst, ◌∙◌, arith}
use Rattle.cpc_base.specs.Bytes.{Text}
use Rattle.cpc_base.specs.declared.names.Name.{Name}
use Rattle.cpc_check_rules.specs.Apart.{Spells}
use Rattle.cpc_num.specs.declared.kinds.Fault.{Fault}
use Rattle.cpc_tree.specs.Erase.{Names, Table}
use Rattle.cpc_tree.specs.Syntax.{Function, Program}
use Rattle.cpc_tree.specs.Typing.{function_named}
use Rattle.cpc_meaning.specs.Answer.{Answer, Gives, ◌>>=◌, needed}
use Rattle.cpc_meaning.specs.Events.{callbacks}
use Rattle.cpc_meaning.specs.History.{History}
use Rattle.cpc_meaning.specs.Machine.{settled, try_step}
use Rattle.cpc_meaning.specs.Plain.{make_frame, stack_of}
use Rattle.cpc_meaning.specs.Start.{main_name}
use Rattle.cpc_meaning.specs.Trees.{trees}
use Rattle.cpc_run_code.specs.Laws.{AreOthers}
use Rattle.cpc_run.specs.declared.looped.Loop.{Loop}
use Rattle.cpc_run.specs.declared.made.Made as D
use Rattle.cpc_run.specs.declared.made.Made.TheVariants as M
use Rattle.cpc_run_shown.specs.declared.outcome.Ended.TheVariants as E
use Rattle.cpc_run_shown.specs.declared.outcome.Outcome.{Outcome}
use Rattle.cpc_run_shown.specs.declared.outcome.Outcome.TheVariants as O
use Rattle.cpc_run.specs.Going.{Goes}
use Rattle.cpc_run.specs.Hosts.{HasHosts}
use Rattle.cpc_run_shown.specs.Outcomes.{outcome_of}
use Rattle.cpc_run_shown.specs.Known.{IsInTable}
use Rattle.cpc_run.specs.Reports.{MadeSo, NeverStuck, Reached, run_of}
use Rattle.cpc_run.specs.States.{States, program_in}
use Rattle.cpc_run.proofs.Going.{end_known}
use Rattle.cpc_run.proofs.Runs.{made_next, next_is, over_next, within_cap}

module _ (table : Table) (names other : Names) (others : AreOthers table names other) (q : Program) (h : History) (cap : ℕ) (trace : Bool) (l : Loop) (printed printed_other : Text) (n cells : ℕ) (stuck : NeverStuck q h)
    (r : Reached names q h cap trace l printed n cells) (u : Reached other q h cap trace l printed_other n cells) where
  -- the next step can be made
  pub goes_twice : {there : List (Text × ℕ)} → Spells table names → HasHosts there q → Goes table there cap l
  goes_twice {there} spells hosts = record {
    names = names;
    other = other;
    others = others;
    spells = spells;
    hosts = subst (HasHosts there) (sym r.program) hosts;
    fits = r.fits;
    fits_other = u.fits;
    programs = u.program ∙ sym r.program;
    state = run_of q h n;
    sent = printed;
    sent_other = printed_other;
    stands = r.stands;
    stands_other = u.stands;
    within = within_cap names q h cap trace l printed n cells r;
    next = run_of q h (suc n);
    goes = subst (λ p. try_step (callbacks p) (run_of q h n) ≡ Some (run_of q h (suc n))) (sym r.program) (next_is q h n stuck (r.going n (omega arith)));
  }

  abbrev Made : Names → D.Made → Loop → (old text : Text) → Type 0
  Made by made new old text = MadeSo by cap (Ok made) new old text (run_of q h n) (try_step (callbacks (program_in by l)) (run_of q h n))

  -- where the step was the last one, its end is told so
  pub over_known : (new : Loop) (text text_other : Text) (outcome : Outcome) → Made names (M.Over outcome) new printed text → Made other (M.Over outcome) new printed_other text_other → IsInTable table (E.Over outcome)
  over_known new text text_other outcome x y =
      let first = over_next names q h cap trace l printed n cells stuck r new text outcome x in
      let second = over_next other q h cap trace l printed_other n cells stuck u new text_other outcome y in
      let same : outcome_of names outcome ≡ outcome_of other outcome = ap (λ (s : States). s.outcome) (sym first ∙ second) in
      end_known table names other others outcome same

  -- and where it took a poll, and a section failed
  pub broke_known : (new : Loop) (text text_other : Text) (fault : Fault) (f : Name) → Made names (M.Broke fault f) new printed text → Made other (M.Broke fault f) new printed_other text_other → IsInTable table (E.Over (O.Failed fault f))
  broke_known new text text_other fault f x y =
      let first = made_next names q h cap trace l printed n cells stuck r (Ok (M.Broke fault f)) new printed text x in
      let second = made_next other q h cap trace l printed_other n cells stuck u (Ok (M.Broke fault f)) new printed_other text_other y in
      let same : outcome_of names (O.Failed fault f) ≡ outcome_of other (O.Failed fault f) = ap (λ (s : States). s.outcome) (sym first.over ∙ second.over) in
      end_known table names other others (O.Failed fault f) same

-- a program that is never stuck has a function that is called first
module _ (q : Program) (h : History) (stuck : NeverStuck q h) where
  abbrev ready : States
  ready = run_of q h 1

  -- what taking up the call of `main` comes to, by the function
  abbrev taken : Option Function → Answer States
  taken o = needed o >>= λ g. make_frame (trees q) g [] ready.store >>= λ m. Gives (record ready { agenda = record ready.agenda { round = [] }; store = m.1; running = Some (stack_of m.0) })

  main_in : (o : Option Function) → function_named q main_name ≡ o → (f : Function) × (function_named q main_name ≡ Some f)
  main_in (Some f) e = (f, e)
  main_in None e =
      let none : try_step (callbacks q) ready ≡ None = ap (λ o. settled (callbacks q) ready (taken o)) e in
      absurd (stuck 1 (refl, none))

  pub main_there : (f : Function) × (function_named q main_name ≡ Some f)
  main_there = main_in (function_named q main_name) refl
