use Rattle.std.proofs.Common.{◌≡◌, ◌∙◌, ap}
use Rattle.std.proofs.Math.Logic.{∥∥₁_elim}
use Rattle.cpc_tree.specs.Erase.{function_of}
use Rattle.cpc_tree.specs.Registers.{scope_in_function}
use Rattle.cpc_tree.specs.Syntax as S
use Rattle.cpc_native_points.specs.Seen.{path_of}
use Rattle.cpc_eval_locals.specs.Held.{local_in, capped_held}
use Rattle.cpc_eval_locals.specs.Owners.{owner_of}
use Rattle.cpc_eval_locals.proofs.Types.{held_set}
use Rattle.cpc_eval.proofs.Own.{same_function, never_absent, told_along}
use Rattle.cpc_eval.proofs.around.Around.local.Goals as goal

pub returns-in-Some : goal.returns-in-Some
returns-in-Some c = λ names told.
    let a = c.args.self.now in
    let l = owner_of c.in-Some.locals in
    ∥∥₁_elim a.own (held_set _ _) (λ own. ∥∥₁_elim c.in-Some.ensures (held_set _ _) (λ found.
    let same : function_of names l ≡ function_of names a.function.now = same_function _ (function_of names a.function.now) (function_of names l) (found names told.apart) (own names told.apart) in
    c.at.ensures names (told_along names a.function.now.parameters.items told l.parameters.items (ap (λ (f : S.Function). f.parameters) same))
    ∙ ap (λ (f : S.Function). capped_held (local_in (scope_in_function f (path_of a.path.now)) (names c.args.name))) same))

pub returns-in-None : goal.returns-in-None
returns-in-None c = λ names told.
    let a = c.args.self.now in
    ∥∥₁_elim a.own (held_set _ _) (λ own. ∥∥₁_elim c.in-None.ensures (held_set _ _) (λ found. absurd (never_absent _ (function_of names a.function.now) (found names told.apart) (own names told.apart))))
