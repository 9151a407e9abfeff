use Rattle.std.proofs.Common.{◌^◌, ◌-◌}
use Rattle.cpc_run.proofs.Ends.{first_counted}
use Rattle.cpc_run.proofs.run.first_cells.Goals as goal

pub returns : goal.returns
returns c = λ names given h.
    first_counted names c.args.program.now h c.global_cells-first.result (2 ^ 64 - 1) given.spelled.same (c.global_cells-first.ensures names given.spelled.spells.apart) c.if-first.false
