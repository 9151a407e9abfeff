use Rattle.std.proofs.Common.{suc, ◌*◌, length}
use Rattle.cpc_tree.specs.Erase.{stmt_of, list_of}
use Rattle.cpc_tree.specs.Points.{enter}
use Rattle.cpc_native_points.specs.Depth.{numbers}
use Rattle.cpc_native_points.specs.Parts.{entered}
use Rattle.cpc_native_points.proofs.entering.+entered.Given as goal

-- how many parts are still to be put
abbrev pub decreases-enter : goal.decreases-enter
decreases-enter l = suc (2 * length (enter (stmt_of numbers l.s.now)))

abbrev pub decreases-enter_row : goal.decreases-enter_row
decreases-enter_row l = 2 * length (entered (list_of numbers l.row.now) l.otherwise)
