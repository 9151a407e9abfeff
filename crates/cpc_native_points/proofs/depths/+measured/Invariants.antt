use Rattle.std.proofs.Common.{◌≡◌, max, ◌≤◌, drop}
use Rattle.cpc_tree.specs.Erase.{Names, list_of}
use Rattle.cpc_native_points.specs.Depth.{depth_row, capped}
use Rattle.cpc_native_points.proofs.depths.+measured.Given as goal

-- with what is left, all of the row is measured
abbrev pub invariant-depth_of_row-loop-s : goal.invariant-depth_of_row-loop-s
invariant-depth_of_row-loop-s l = (l.most ≤ 18446744073709551615)
    × ((names : Names) → capped (max l.most (depth_row (list_of names (drop l.s-index l.row)))) ≡ capped (depth_row (list_of names l.row)))
