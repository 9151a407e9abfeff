use Rattle.cpc_native_points.proofs.Ways.{above_all}
use Rattle.cpc_native_points.proofs.table.+climb.Given as goal

-- each statement comes behind the one that it is a part of
abbrev pub decreases-climb : goal.decreases-climb
decreases-climb l = above_all l.at
