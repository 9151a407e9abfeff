use Rattle.cpc_convert_rows.proofs.Reached.{marked_onwards}
use Rattle.std.proofs.Common.{◌++◌}
use Rattle.cpc_forms.specs.Flow.{as_list}
use Rattle.cpc_convert_rows.proofs.leaders.mark_onwards.Goals as goal

pub returns-clause-marks : goal.returns-clause-marks
returns-clause-marks c = λ r ns is are.
    marked_onwards r c.args.node c.step-step.result c.mark_some-3.new.marks.items ns (c.step-step.ensures r is)
    (c.mark_some-3.ensures.marks ((ns ++ as_list c.step-step.result.yes) ++ as_list c.step-step.result.no)
    (c.mark_some-2.ensures.marks (ns ++ as_list c.step-step.result.yes) (c.mark_some.ensures.marks ns are)))
