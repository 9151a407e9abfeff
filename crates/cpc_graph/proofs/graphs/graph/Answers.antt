use Rattle.std.proofs.Common.{◌∙◌, ap, arith, take}
use Rattle.std.proofs.Math.Logic.{∥∥₁_map}
use Rattle.cpc_graph.proofs.Formed.{functions_same}
use Rattle.cpc_graph.proofs.graphs.graph.Goals as goal

pub invariant_of-result : goal.invariant_of-result
invariant_of-result c = record {
  whole = ∥∥₁_map c.args.boxed.now.whole (λ e.
      functions_same c.loop-function.functions.items c.args.boxed.now.functions.items c.loop-function.function-index
      (c.loop-function.invariant ∙ ap (take c.loop-function.function-index) c.deref-function-items.ensures.value)
      (omega arith) ∙ e);
}
