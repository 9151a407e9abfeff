use Rattle.std.proofs.Common.{length}
use Rattle.cpc_native_points.proofs.control.+standing.Given as goal

abbrev pub decreases-standing : goal.decreases-standing
decreases-standing l = length l.path.now
