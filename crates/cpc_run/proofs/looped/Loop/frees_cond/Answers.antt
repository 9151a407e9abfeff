use Rattle.std.proofs.Common.{[], ◌∷◌, Some, refl, sym, subst}
use Rattle.cpc_tree.specs.Primitives.{CondFree}
use Rattle.cpc_meaning.specs.Agenda as A
use Rattle.cpc_meaning.specs.Events.{callbacks}
use Rattle.cpc_meaning.specs.Machine.{primitive}
use Rattle.cpc_meaning.proofs.Agendas.{freed}
use Rattle.cpc_eval_values.specs.Shown.{value_of}
use Rattle.cpc_run_code.specs.Code.{stack_in}
use Rattle.cpc_run_shown.specs.declared.outcome.Outcome.TheVariants as O
use Rattle.cpc_run.specs.States.{IsCallback, Came, Did, lists_in, settles, program_in}
use Rattle.cpc_run.proofs.Alike.{cond_free_keeps}
use Rattle.cpc_run.proofs.Asks.{acts_so, refused_so}
use Rattle.cpc_run.proofs.looped.Loop.frees_cond.Goals as goal

pub returns-in-Ok-clause-did : goal.returns-in-Ok-clause-did
returns-in-Ok-clause-did c = λ names fits printed s acted.
    let l = c.args.self.now in
    let mid = record l { turns = record l.turns { agenda = c.cond_free.new.self } } in
    let n = c.in-Cond.number in
    subst (λ v. Did names c.reply.result c.reply.new.self printed s (settles names l s (primitive (callbacks (program_in names l)) CondFree (value_of names v ∷ []) (stack_in names l.machine) s))) (sym c.in-Cond.is)
    (acts_so names l mid c.reply.new.self c.args.function c.reply.result s (A.cond_free n (lists_in names l)) (A.cond_free n s.agenda) (freed (IsCallback names) n _ _ acted.lists.agenda) (cond_free_keeps n s.agenda)
    (c.in-Ok.ensures.ok names) refl refl refl refl printed printed acted (λ t a. c.reply.ensures.did names (record { runs = fits.runs; main = fits.main; serves = fits.serves; items = fits.items }) printed s t a))

pub returns-in-Err-clause-did : goal.returns-in-Err-clause-did
returns-in-Err-clause-did c = λ names fits printed s acted.
    let l = c.args.self.now in
    let new = record l { turns = record l.turns { agenda = c.cond_free.new.self } } in
    let n = c.in-Cond.number in
    subst (λ v. Came names (Some (O.Failed c.in-Err.fault c.args.function)) new printed s (settles names l s (primitive (callbacks (program_in names l)) CondFree (value_of names v ∷ []) (stack_in names l.machine) s))) (sym c.in-Cond.is)
    (refused_so names l new c.args.function printed printed s s (A.cond_free n (lists_in names l)) (A.cond_free n s.agenda) c.in-Err.fault (freed (IsCallback names) n _ _ acted.lists.agenda) (c.in-Err.ensures.fault names) acted)
