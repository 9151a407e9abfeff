use Rattle.std.proofs.Common.{◌++◌, length, map, ap, ◌∙◌}
use Rattle.std.proofs.Math.Logic.{∥∥₁_map}
use Rattle.cpc_forms_code.specs.Points.{point_seen}
use Rattle.cpc_graph.specs.Labels.{labels_seen}
use Rattle.cpc_tree.specs.Erase.{stmt_of}
use Rattle.cpc_forms.specs.Table.{labels_of}
use Rattle.cpc_graph.specs.Ends.{ends_of}
use Rattle.cpc_graph.specs.Joined.{joined}
use Rattle.cpc_graph.proofs.Formed.{is_graph}
use Rattle.cpc_graph.proofs.graphs.graph_function.Goals as goal

pub invariant_of-result : goal.invariant_of-result
invariant_of-result c = record {
  formed = ∥∥₁_map c.args.boxed.now.formed (is_graph c.args.boxed.now c.statement.new.self.labels.items c.deref.result.now c.in_ok-end.end c.in_ok-labels.labels c.deref-3.result.now c.in_ok-nodes.nodes.items
      c.in_ok-end.ensures.number
      (λ names. c.deref.ensures.value ∙ (c.in_ok-end.ensures.ends names ∙ ap (λ l. l ++ ends_of (stmt_of names c.args.boxed.now.function.now.body) 0) c.new-marks.ensures.ends))
      (λ names. c.in_ok-end.ensures.labels names ∙ ap (λ l. labels_seen names l ++ labels_of (stmt_of names c.args.boxed.now.function.now.body) 0) c.new-marks.ensures.labels)
      c.in_ok-labels.ensures
      (λ names label finds e. c.deref-3.ensures.value ∙ c.in_ok-ways.ensures names label finds e)
      (λ names vs h. c.in_ok-nodes.ensures names vs (ap length c.deref-2.ensures.value ∙ h) ∙ ap (λ l. joined 0 (map (point_seen names vs) l) c.deref-3.result.now) c.deref-2.ensures.value));
}
