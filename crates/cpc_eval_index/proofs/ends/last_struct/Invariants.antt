use Rattle.std.proofs.Common.{◌≡◌, ◌≤◌, map}
use Rattle.cpc_shapes.specs.Counted.{tag_of}
use Rattle.cpc_shapes.specs.Indexed.{last_below}
use Rattle.cpc_eval_index.proofs.ends.last_struct.Given as goal

-- none stands behind those that are left
abbrev pub invariant-loop-left : goal.invariant-loop-left
invariant-loop-left l = record {
  within : l.left ≤ l.before;
  same : last_below l.before (map tag_of l.items) l.tag.0 ≡ last_below l.left (map tag_of l.items) l.tag.0;
}

abbrev pub decreases-loop-left : goal.decreases-loop-left
decreases-loop-left l = l.left
