use Rattle.std.proofs.Common.{subst}
use Rattle.std.proofs.lemmas.Result.{IfOk-weaker}
use Rattle.cpc_meaning.specs.Agenda.{completed}
use Rattle.cpc_meaning.specs.Copies.{collect}
use Rattle.cpc_meaning.specs.Trees.{trees}
use Rattle.cpc_eval_values.specs.Shown.{store_of}
use Rattle.cpc_sections.specs.Backs.{CollectsAs, collected_of}
use Rattle.cpc_run_jobs.specs.Holding.{are_out, items_of}
use Rattle.cpc_run_jobs.proofs.jobs.Jobs.finish.Goals as goal

pub returns-clause-collected : goal.returns-clause-collected
returns-clause-collected g c = IfOk-weaker c.all_told.result _ _
    (λ told so names serves jobs made outs held.
    let j = c.args.self.now in
    subst (λ n. CollectsAs (collected_of names (store_of names c.all_told.new.store) told) (collect (trees (items_of names j)) n jobs (are_out (completed c.args.events.now) outs) (store_of names c.args.store.now))) c.requires.steps
    (so j.program.now c.requires.program names serves.runs jobs made outs held))
    c.all_told.ensures.collected

pub returns-clause-holds : goal.returns-clause-holds
returns-clause-holds g c = IfOk-weaker c.all_told.result _ _
    (λ told so names serves jobs made outs held. so c.args.self.now.program.now c.requires.program names serves.runs jobs made outs held)
    c.all_told.ensures.holds
