use Rattle.std.proofs.Common.{length}
use Rattle.cpc_native_points.proofs.moves.+step.Given as goal

abbrev pub decreases-step : goal.decreases-step
decreases-step l = length l.path.now
