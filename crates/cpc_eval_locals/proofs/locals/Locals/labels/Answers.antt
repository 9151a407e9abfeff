use Rattle.std.proofs.Math.Logic.{∥∥₁_map}
use Rattle.cpc_eval_locals.proofs.locals.Locals.labels.Goals as goal

pub over-requires : goal.over-requires
over-requires c = ∥∥₁_map c.args.self.now.tabled (λ tabled. tabled.labels)
