use Rattle.std.proofs.Common.{sym}
use Rattle.std.specs.Arc.{arc_value}
use Rattle.cpc_tree.specs.Erase.{in_table, program_of}
use Rattle.cpc_run.specs.Reports.{history_of}
use Rattle.cpc_run.proofs.Given.{starved_ran}
use Rattle.cpc_run_workers.proofs.run.run_over.Goals as goal

pub returns-in_default-clause-told : goal.returns-in_default-clause-told
returns-in_default-clause-told g c =
    let p = (arc_value c.args.program.now).program in
    rw c.not_begun.ensures (starved_ran g.R.HostRule.answers (in_table p.names) (program_of p) (history_of c.args.polls.now c.args.limits.section_steps) c.args.limits c.args.trace (g.O.Sink.taken c.args.out.now))

pub returns-in_default-try_clone-clause-told : goal.returns-in_default-try_clone-clause-told
returns-in_default-try_clone-clause-told g c =
    let p = (arc_value c.args.program.now).program in
    rw c.not_begun-in_default-try_clone.ensures (starved_ran g.R.HostRule.answers (in_table p.names) (program_of p) (history_of c.args.polls.now c.args.limits.section_steps) c.args.limits c.args.trace (g.O.Sink.taken c.args.out.now))

pub returns-in-Ok-start-clause-told : goal.returns-in-Ok-start-clause-told
returns-in-Ok-start-clause-told g c = rw (sym c.deref.ensures) (c.run_event-report.ensures.told (rw c.deref.ensures c.requires.present))

pub returns-in-Err-clause-told : goal.returns-in-Err-clause-told
returns-in-Err-clause-told g c =
    let p = (arc_value c.args.program.now).program in
    rw c.not_begun-in-Err.ensures (starved_ran g.R.HostRule.answers (in_table p.names) (program_of p) (history_of c.args.polls.now c.args.limits.section_steps) c.args.limits c.args.trace (g.O.Sink.taken c.args.out.now))
