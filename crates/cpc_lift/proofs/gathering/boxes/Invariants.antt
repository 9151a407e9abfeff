use Rattle.std.proofs.Common.{◌≡◌, ◌++◌, drop, map}
use Rattle.cpc_tree.specs.Erase.{Names}
use Rattle.cpc_forms_code.specs.Points.{variable_seen}
use Rattle.cpc_forms_code.specs.Lifts.{boxes_among}
use Rattle.cpc_lift.proofs.gathering.boxes.Given as goal

-- with those that are left, all boxes are there
abbrev pub invariant-loop-i : goal.invariant-loop-i
invariant-loop-i l = (names : Names) → l.boxes.items ++ boxes_among l.i (map (variable_seen names) (drop l.i l.variables)) ≡ boxes_among 0 (map (variable_seen names) l.variables)
