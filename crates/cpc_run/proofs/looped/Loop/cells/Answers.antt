use Rattle.std.proofs.Common.{◌^◌, ◌-◌, min, ap, ◌∙◌}
use Rattle.cpc_run.proofs.Weighed.{cells_so}
use Rattle.cpc_run.proofs.looped.Loop.cells.Goals as goal

pub returns : goal.returns
returns c = λ names printed s stands. c.live_cells.ensures names ∙ ap (λ n. min n (2 ^ 64 - 1)) (cells_so names c.args.self.now printed s c.requires.steady stands)
