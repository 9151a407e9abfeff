-- The answers that hosts gave in a run so far, and what is told of them at its end.
use Rattle.std.proofs.Common.{◌≡◌, ℕ, suc, ◌+◌, ◌≤◌, ℤ, Bool, List, [], ◌++◌, Option, refl, sym, ap, subst, ◌∙◌, arith, add-one}
use Rattle.std.proofs.lemmas.List.{append-nil}
use Rattle.cpc_base.specs.Bytes.{Text}
use Rattle.cpc_tree.specs.Erase.{Names}
use Rattle.cpc_tree.specs.Syntax.{Program}
use Rattle.cpc_tree.specs.Trace as T
use Rattle.cpc_tree.specs.declared.program.Program as GProgram
use Rattle.cpc_meaning.specs.Events.{callbacks}
use Rattle.cpc_meaning.specs.History.{History}
use Rattle.cpc_meaning.specs.Machine.{try_step}
use Rattle.cpc_meaning.specs.Runs.{live_cells}
use Rattle.cpc_run.specs.declared.looped.Loop.{Loop}
use Rattle.cpc_run_shown.specs.declared.outcome.Ended.TheVariants as E
use Rattle.cpc_run_shown.specs.declared.outcome.Limits.{Limits}
use Rattle.cpc_run_shown.specs.declared.outcome.RunReport.{RunReport}
use Rattle.cpc_run.specs.Answers.{Allows, Answered, HasAnswers, HasSaid}
use Rattle.cpc_run.specs.Hosts.{with_answers}
use Rattle.cpc_run.specs.Reports.{Begins, NeverStuck, Opened, Ran, Reached, Tells, Wrote, run_of}
use Rattle.cpc_run.specs.States.{States, Stands, program_in}
use Rattle.cpc_run.proofs.Ends.{starved_first}
use Rattle.cpc_run.proofs.Runs.{next_is}

-- ---- on the way

-- a state with these answers more
said_next : (allows : Allows) (given said rest : List ℤ) (s t : States) → HasSaid allows given (said ++ rest) s → HasAnswers allows said rest s t → HasSaid allows (given ++ said) rest t
said_next allows given said rest s t h i = record { answered = i.said_so ∙ ap (λ x. x ++ said) h.answered; left = i.left; meets = i.meets h.meets }

-- the next state of a run, where the step from a state that was reached gave these
pub has_next : (allows : Allows) (given said rest : List ℤ) (names : Names) (q : Program) (h : History) (l : Loop) (n : ℕ) → NeverStuck q h → (run_of q h n).outcome ≡ T.Going → program_in names l ≡ q
    → Answered allows said rest (run_of q h n) (try_step (callbacks (program_in names l)) (run_of q h n)) → HasSaid allows given (said ++ rest) (run_of q h n) → HasSaid allows (given ++ said) rest (run_of q h (n + 1))
has_next allows given said rest names q h l n stuck going program i has =
    let s = run_of q h n in
    subst (λ m. HasSaid allows (given ++ said) rest (run_of q h m)) (sym (add-one n))
    (said_next allows given said rest s (run_of q h (suc n)) has
    (subst (Answered allows said rest s) (next_is q h n stuck going)
    (subst (λ p. Answered allows said rest s (try_step (callbacks p) s)) program i)))

-- a step that was not made gave none
pub has_same : (allows : Allows) (given said rest : List ℤ) (s : States) → said ≡ [] → HasSaid allows given (said ++ rest) s → HasSaid allows (given ++ said) rest s
has_same allows given said rest s none has = record {
  answered = has.answered ∙ sym (append-nil given) ∙ ap (λ x. given ++ x) (sym none);
  left = has.left ∙ ap (λ x. x ++ rest) none;
  meets = has.meets;
}

-- nothing was answered in the first state
pub none_given : (allows : Allows) (q : Program) (h : History) (rest : List ℤ) → HasSaid allows [] rest (run_of q (with_answers h rest) 0)
none_given allows q h rest = record { answered = refl; left = refl; meets = tt }

-- the loop stands as the first state, and nothing was put out
pub reached_first : (names : Names) (q : Program) (h : History) (cap : ℕ) (l : Loop) (first : ℕ) (pending : Text) → Begins names q h l first → first ≤ cap → pending ≡ [] → Reached names q h cap l.trace l ([] ++ pending) 0 first
reached_first names q h cap l first pending b le none = record {
  fits = b.fits;
  program = b.program;
  stands = subst (λ p. Stands names l p (run_of q h 0)) (sym none) b.stands;
  cells_are = b.cells_are;
  going = λ m most. let zero : m ≡ 0 = omega (arith, most) in subst (λ k. (run_of q h k).outcome ≡ T.Going) (sym zero) b.stands.going;
  bounded = λ m most. let zero : m ≡ 0 = omega (arith, most) in subst (λ k. live_cells (run_of q h k) ≤ cap) (sym zero) (subst (λ n. n ≤ cap) b.cells_are le);
  traces = refl;
  polls = b.polls;
  made = b.made;
}

-- ---- what is told

-- what is told of a run with these answers is told of the run
pub ran_with : (allows : Allows) (names : Names) (q : Program) (h : History) (limits : Limits) (trace : Bool) (result : RunReport) (answers : List ℤ) (n : ℕ) (told now : Option Text) → result.steps ≡ n
    → HasSaid allows answers [] (run_of q (with_answers h answers) n) → Wrote told now (Tells names q (with_answers h answers) limits trace result) → Wrote told now (Ran allows names q h limits trace result)
ran_with allows names q h limits trace result answers n told now is has w =
    let here = subst (λ m. HasSaid allows answers [] (run_of q (with_answers h answers) m)) (sym is) has in
    (w.0, w.1, record { answers = answers; tells = w.2; answered = here.answered; meets = here.meets })

-- memory was wanting before the first state
pub starved_ran : (allows : Allows) (names : Names) (q : Program) (h : History) (limits : Limits) (trace : Bool) (told : Option Text) → Wrote told told (Ran allows names q h limits trace (record { ended = E.Memory; steps = 0; cells = 0; polls = 0 }))
starved_ran allows names q h limits trace told =
    ran_with allows names q h limits trace (record { ended = E.Memory; steps = 0; cells = 0; polls = 0 }) [] 0 told told refl (none_given allows q h []) (starved_first names q (with_answers h []) limits trace told)

-- ---- the first state

-- a loop that stands as a first state does so whatever hosts will answer
pub opened_with : (names : Names) (p : GProgram.Program) (h : History) (l : Loop) (answers : List ℤ) → Opened names p h l → Opened names p (with_answers h answers) l
opened_with names p h l answers o = record {
  fits = o.fits;
  items = o.items;
  stands = record { store = o.stands.store; running = o.stands.running; lists = o.stands.lists; printed_so = o.stands.printed_so; going = o.stands.going };
  polls = o.polls;
}
