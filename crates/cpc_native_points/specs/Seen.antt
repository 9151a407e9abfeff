-- The points of the code as the points of a body.
use Rattle.std.specs.Prelude.{List, map, Option, Some, None}
use Rattle.std.specs.Borrow.{Bor}
use Rattle.cpc_tree.specs.Erase.{Names, stmt_of}
use Rattle.cpc_tree.specs.Syntax.{MaybeStmt, Absent, Present}
use Rattle.cpc_tree.specs.declared.program.Statement.{Statement}
use Rattle.cpc_tree.specs.Points as P
use Rattle.cpc_native_points.specs.declared.parts.Part.{Part}
use Rattle.cpc_native_points.specs.declared.parts.Part.TheVariants as V
use Rattle.cpc_native_points.specs.declared.parts.Phase.{Phase}
use Rattle.cpc_native_points.specs.declared.parts.Phase.TheVariants as F
use Rattle.cpc_native_points.specs.declared.parts.Point.{Point}

abbrev pub part_of : Part → P.Part
part_of (V.Nth n) = P.Nth n
part_of V.Test = P.TheTest
part_of V.Yes = P.TheYes
part_of V.No = P.TheNo
part_of V.Step = P.TheStep
part_of V.Body = P.TheBody

abbrev pub path_of : List Part → P.Path
path_of path = map part_of path

-- a point by what happens there and its path
abbrev pub point_at : Phase → P.Path → P.Point
point_at F.Here path = P.Here path
point_at F.Arrival path = P.Arrival path
point_at F.End path = P.End

abbrev pub point_of : Point → P.Point
point_of p = point_at p.phase (path_of p.path.items)

-- a statement that may be there
abbrev pub maybe_seen : Names → Option (Bor Statement) → MaybeStmt
maybe_seen names None = Absent
maybe_seen names (Some s) = Present (stmt_of names s.now)
