use Rattle.std.proofs.Common.{◌≡◌, vec_len}
use Rattle.cpc_base.specs.declared.names.Name.{Name}
use Rattle.cpc_tree.specs.Erase.{Names}
use Rattle.cpc_check_rules.specs.Apart.{AreApart}
use Rattle.cpc_forms.specs.Table as T
use Rattle.cpc_graph.specs.Labels.{labels_seen, marked_or, number_at}
use Rattle.cpc_graph.proofs.labels.Labels.of.Given as goal

-- the labels that are left count before those that were put
abbrev pub invariant-loop-mark : goal.invariant-loop-mark
invariant-loop-mark l = (names : Names) → AreApart names → (x : Name) → marked_or (labels_seen names l.marks.items) (names x) (number_at l.labels x) ≡ T.marked (labels_seen names l.initial.marks.items) (names x)

abbrev pub decreases-loop-mark : goal.decreases-loop-mark
decreases-loop-mark l = vec_len l.marks
