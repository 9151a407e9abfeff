use Rattle.std.proofs.Common.{◌≡◌, ◌++◌, drop}
use Rattle.cpc_chains_lines.specs.Known.{boxes_among}
use Rattle.cpc_chains_opening.proofs.kept.add_boxes.Given as goal

-- with those that are left, all are there
abbrev pub invariant-loop-number : goal.invariant-loop-number
invariant-loop-number l = l.all.items ++ boxes_among l.number (drop l.number l.variables) ≡ l.initial.all.items ++ boxes_among 0 l.variables
