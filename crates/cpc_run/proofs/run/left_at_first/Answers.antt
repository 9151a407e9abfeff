use Rattle.std.proofs.Common.{[], sym, ap, subst, ◌∙◌}
use Rattle.cpc_base.proofs.Pieces.{append_known-nil}
use Rattle.cpc_tree.specs.Erase.{program_of}
use Rattle.cpc_run_shown.specs.declared.outcome.RunReport.{RunReport}
use Rattle.cpc_run_shown.specs.Known.{IsInTable}
use Rattle.cpc_run.proofs.Ends.{full_first}
use Rattle.cpc_run.proofs.run.left_at_first.Goals as goal

pub returns-clause-told : goal.returns-clause-told
returns-clause-told g c = λ h limits e lt.
    let p = c.args.program.now in
    let now = g.O.Sink.taken c.args.out.now in
    full_first p.names (program_of p) h limits c.args.trace c.args.first c.report-due.result c.told.result c.new-pending.result.items now (g.O.Sink.taken c.told.new.out) c.report-due.ensures e lt c.new-pending.ensures.items c.told.ensures.same
    (c.told.ensures.told now [] (sym (append_known-nil now)))

pub returns-clause-steps : goal.returns-clause-steps
returns-clause-steps g c = ap (λ r. r.steps) c.told.ensures.same ∙ ap (λ r. r.steps) c.report-due.ensures

pub told-requires : goal.told-requires
told-requires g c = subst (λ (d : RunReport). IsInTable c.args.program.now.names d.ended) (sym c.report-due.ensures) tt
