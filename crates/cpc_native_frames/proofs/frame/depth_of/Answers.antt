use Rattle.std.proofs.Common.{◌≡◌, ◌∙◌, ap}
use Rattle.std.proofs.Math.Logic.{∥∥₁_elim}
use Rattle.std.proofs.Math.Nat.{ℕ_set}
use Rattle.cpc_tree.specs.Erase.{function_of}
use Rattle.cpc_tree.specs.Syntax as S
use Rattle.cpc_native_points.specs.Depth.{capped, deep, depth, numbers}
use Rattle.cpc_native_points.proofs.Ways.{numbers_apart}
use Rattle.cpc_eval_locals.specs.Owners.{owner_of}
use Rattle.cpc_eval.proofs.Own.{same_function, no_own}
use Rattle.cpc_native_frames.proofs.frame.depth_of.Goals as goal

pub returns : goal.returns
returns c =
    let f = c.args.function.now in
    let l = owner_of c.in-Some.locals in
    ∥∥₁_elim c.in-Some.ensures (ℕ_set _ _) (λ found. ∥∥₁_elim c.labels.ensures (ℕ_set _ _) (λ led.
    let same : function_of numbers l ≡ function_of numbers f = same_function _ (function_of numbers f) (function_of numbers l) (found numbers numbers_apart) (c.requires numbers numbers_apart) in
    c.depth.ensures numbers ∙ ap (λ s. capped (deep s)) led ∙ ap (λ (g : S.Function). capped (depth g.body)) same))

pub unreachable-requires : goal.unreachable-requires
unreachable-requires c = no_own c.args.index.now c.args.function.now c.in-None.ensures c.requires
