use Rattle.std.proofs.Math.Logic.{∥∥₁_elim}
use Rattle.std.proofs.Math.Nat.{ℕ_set}
use Rattle.cpc_native_points.proofs.labels.Labels.depth.Goals as goal

pub returns : goal.returns
returns c = λ names. ∥∥₁_elim c.args.self.now.tabled (ℕ_set _ _) (λ t. t.deep names)
