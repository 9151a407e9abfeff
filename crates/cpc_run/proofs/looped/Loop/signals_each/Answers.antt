use Rattle.std.proofs.Common.{[], ◌∷◌, refl, sym, subst}
use Rattle.cpc_tree.specs.Primitives.{SignalAll}
use Rattle.cpc_meaning.specs.Agenda as A
use Rattle.cpc_meaning.specs.Events.{callbacks}
use Rattle.cpc_meaning.specs.Machine.{primitive}
use Rattle.cpc_meaning.proofs.Agendas.{signals_all}
use Rattle.cpc_eval_values.specs.Shown.{value_of}
use Rattle.cpc_run_code.specs.Code.{stack_in}
use Rattle.cpc_run.specs.States.{IsCallback, Did, lists_in, settles, program_in}
use Rattle.cpc_run.proofs.Alike.{signal_all_keeps}
use Rattle.cpc_run.proofs.Asks.{acts_so}
use Rattle.cpc_run.proofs.looped.Loop.signals_each.Goals as goal

pub returns-in-Ok-clause-did : goal.returns-in-Ok-clause-did
returns-in-Ok-clause-did c = λ names fits printed s acted.
    let l = c.args.self.now in
    let mid = record l { turns = record l.turns { agenda = c.signal_all.new.self } } in
    let n = c.in-Cond.number in
    subst (λ v. Did names c.reply.result c.reply.new.self printed s (settles names l s (primitive (callbacks (program_in names l)) SignalAll (value_of names v ∷ []) (stack_in names l.machine) s))) (sym c.in-Cond.is)
    (acts_so names l mid c.reply.new.self c.args.function c.reply.result s (A.signal_all n (lists_in names l)) (A.signal_all n s.agenda) (signals_all (IsCallback names) n _ _ acted.lists.agenda) (signal_all_keeps n s.agenda)
    (c.in-Ok.ensures.ok names) refl refl refl refl printed printed acted (λ t a. c.reply.ensures.did names (record { runs = fits.runs; main = fits.main; serves = fits.serves; items = fits.items }) printed s t a))
