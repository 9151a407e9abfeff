use Rattle.std.proofs.Common.{◌≡◌, ◌∙◌, ap}
use Rattle.std.proofs.Math.Logic.{∥∥₁_elim}
use Rattle.cpc_tree.specs.Erase.{function_of}
use Rattle.cpc_tree.specs.Registers.{variables}
use Rattle.cpc_tree.specs.Syntax as S
use Rattle.cpc_eval_variables.specs.Kept.{kept_from}
use Rattle.cpc_eval_locals.specs.Owners.{owner_of}
use Rattle.cpc_eval_locals.proofs.Types.{kept_set}
use Rattle.cpc_eval.proofs.Own.{same_function, told_along, no_own}
use Rattle.cpc_native_frames.proofs.frame.variables_of.Goals as goal

pub returns : goal.returns
returns c = λ names told.
    let f = c.args.function.now in
    let l = owner_of c.in-Some.locals in
    ∥∥₁_elim c.in-Some.ensures (kept_set _ _) (λ found.
    let same : function_of names l ≡ function_of names f = same_function _ (function_of names f) (function_of names l) (found names told.apart) (c.requires names told.apart) in
    c.variables.ensures.kept names (told_along names f.parameters.items told l.parameters.items (ap (λ (g : S.Function). g.parameters) same))
    ∙ ap (λ (g : S.Function). kept_from g 0 (variables g)) same)

pub unreachable-requires : goal.unreachable-requires
unreachable-requires c = no_own c.args.index.now c.args.function.now c.in-None.ensures c.requires
