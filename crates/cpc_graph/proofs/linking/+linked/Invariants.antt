use Rattle.std.proofs.Common.{◌≡◌, ℕ, ◌++◌, List, Option, drop}
use Rattle.cpc_base.specs.Bytes.{Text}
use Rattle.cpc_tree.specs.Erase.{Names, list_of}
use Rattle.cpc_graph.specs.Ends.{ends_in}
use Rattle.cpc_graph.specs.Labels.{FindsLabels}
use Rattle.cpc_graph.specs.Ways.{ways_in, onward_seen}
use Rattle.cpc_graph.proofs.linking.+linked.Given as goal

-- with what is left, there are the ways of all of the row
abbrev pub invariant-link_row-loop-i : goal.invariant-link_row-loop-i
invariant-link_row-loop-i l = record {
  left : (names : Names) (more : List ℕ) → l.initial.left ≡ ends_in (list_of names l.row) l.initial.next ++ more → l.left ≡ ends_in (list_of names (drop l.i l.row)) l.next ++ more;
  ways : (names : Names) (label : Text → Option ℕ) (more : List ℕ) → FindsLabels names l.w.labels.now label → l.initial.left ≡ ends_in (list_of names l.row) l.initial.next ++ more
      → l.ways.items ++ ways_in (list_of names (drop l.i l.row)) l.next (onward_seen label l.w) ≡ l.initial.ways.items ++ ways_in (list_of names l.row) l.initial.next (onward_seen label l.w);
}
