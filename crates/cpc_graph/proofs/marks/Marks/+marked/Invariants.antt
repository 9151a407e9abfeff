use Rattle.std.proofs.Common.{◌≡◌, ◌+◌, ◌++◌, drop, length}
use Rattle.cpc_tree.specs.Erase.{Names, list_of}
use Rattle.cpc_forms.specs.Order.{points_in}
use Rattle.cpc_forms.specs.Table.{labels_in}
use Rattle.cpc_graph.specs.Ends.{ends_in}
use Rattle.cpc_graph.specs.Labels.{labels_seen}
use Rattle.cpc_graph.proofs.marks.Marks.+marked.Given as goal

-- with what is left, all of the row is noted
abbrev pub invariant-row-loop-s : goal.invariant-row-loop-s
invariant-row-loop-s l = record {
  number : (names : Names) → l.next + length (points_in (list_of names (drop l.s-index l.row))) ≡ l.initial.next + length (points_in (list_of names l.row));
  ends : (names : Names) → l.self.ends.items ++ ends_in (list_of names (drop l.s-index l.row)) l.next ≡ l.initial.self.ends.items ++ ends_in (list_of names l.row) l.initial.next;
  labels : (names : Names) → labels_seen names l.self.labels.items ++ labels_in (list_of names (drop l.s-index l.row)) l.next ≡ labels_seen names l.initial.self.labels.items ++ labels_in (list_of names l.row) l.initial.next;
}
