use Rattle.std.proofs.Common.{refl, subst, ◌∙◌}
use Rattle.cpc_store.specs.Store.{Cond}
use Rattle.cpc_meaning.specs.Agenda as A
use Rattle.cpc_meaning.specs.Machine.{reply, with_agenda}
use Rattle.cpc_meaning.specs.Trees.{trees}
use Rattle.cpc_run_code.specs.Code.{stack_in}
use Rattle.cpc_run.specs.States.{Did, settles, program_in}
use Rattle.cpc_run.proofs.Asks.{condition_made}
use Rattle.cpc_run.proofs.looped.Loop.replies_condition.Goals as goal

pub returns-clause-did : goal.returns-clause-did
returns-clause-did c = λ names fits printed s acted.
    let l = c.args.self.now in
    let mid = record l { turns = record l.turns { agenda = c.cond_new.new.self } } in
    subst (λ n. Did names c.reply.result c.reply.new.self printed s (settles names l s (reply (trees (program_in names l)) (stack_in names l.machine) (Cond n) (with_agenda s (A.cond_new s.agenda)))))
    (c.in_ok-cond.ensures.number ∙ acted.lists.agenda.conditions_made)
    (c.reply.ensures.did names (record { runs = fits.runs; main = fits.main; serves = fits.serves; items = fits.items }) printed s (with_agenda s (A.cond_new s.agenda))
    (condition_made names l mid c.args.function printed s refl refl refl refl (c.in_ok-cond.ensures.ok names) acted))
