use Rattle.std.proofs.Common.{◌∙◌, ap, take, arith}
use Rattle.std.proofs.Math.Logic.{∥∥₁_map}
use Rattle.cpc_lift.proofs.Parts.{functions_same}
use Rattle.cpc_lift.proofs.lifting.lift.Goals as goal

pub invariant_of-result : goal.invariant_of-result
invariant_of-result c = record {
  whole = ∥∥₁_map c.args.source.now.whole (λ e.
      functions_same c.loop-function.functions.items c.args.source.now.functions.items c.loop-function.function-index
      (c.loop-function.invariant ∙ ap (take c.loop-function.function-index) c.deref-function-items.ensures.value)
      (omega arith) ∙ e);
}
