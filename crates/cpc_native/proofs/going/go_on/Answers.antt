use Rattle.std.proofs.Common.{◌≡◌, ◌≤◌, ◌∙◌, ap, sym, subst}
use Rattle.std.proofs.Math.Logic.{∥∥₁_elim}
use Rattle.std.specs.Prelude.{IfSome}
use Rattle.cpc_tree.specs.Erase.{stmt_of, function_of}
use Rattle.cpc_tree.specs.Points.{next_point}
use Rattle.cpc_tree.specs.Syntax as S
use Rattle.cpc_tree.specs.declared.program.Statement.{Statement}
use Rattle.cpc_native_points.specs.Depth.{deep, depth, numbers}
use Rattle.cpc_native_points.specs.Seen.{point_of}
use Rattle.cpc_native_points.proofs.Pointing.{leads_prop}
use Rattle.cpc_native_points.proofs.Ways.{numbers_apart, at_most_prop}
use Rattle.cpc_eval_locals.specs.Owners.{owner_of}
use Rattle.cpc_eval.proofs.Own.{same_function, no_own}
use Rattle.cpc_native.proofs.going.go_on.Goals as goal

pub after-requires : goal.after-requires
after-requires c =
    let f = c.args.function.now in
    let l = owner_of c.in-Some.locals in
    let capacity = c.args.point.now.path.cap in
    record {
      room = ∥∥₁_elim c.in-Some.ensures (at_most_prop _ _) (λ found. ∥∥₁_elim c.labels.ensures (at_most_prop _ _) (λ body.
          let D : S.Stmt → Type 0 = λ s. depth s ≤ capacity in
          let L : Statement → Type 0 = λ s. deep s ≤ capacity in
          let same : function_of numbers l ≡ function_of numbers f = same_function _ (function_of numbers f) (function_of numbers l) (found numbers numbers_apart) (c.requires.own numbers numbers_apart) in
          subst L (sym body) (subst D (sym (ap (λ (g : S.Function). g.body) same)) c.requires.room)));
    }

pub returns-clause-point : goal.returns-clause-point
returns-clause-point c = λ names apart.
    let f = c.args.function.now in
    let l = owner_of c.in-Some.locals in
    let old = point_of c.args.point.now in
    let new = point_of c.after.new.point in
    let P : S.Stmt → Type 0 = λ body. IfSome (next_point body old c.args.holds) (λ q. new ≡ q) in
    ∥∥₁_elim c.in-Some.ensures (leads_prop (next_point (stmt_of names f.body) old c.args.holds) new) (λ found.
    ∥∥₁_elim c.labels.ensures (leads_prop (next_point (stmt_of names f.body) old c.args.holds) new) (λ body.
    let same : function_of names l ≡ function_of names f = same_function _ (function_of names f) (function_of names l) (found names apart) (c.requires.own names apart) in
    subst P (ap (stmt_of names) body ∙ ap (λ (g : S.Function). g.body) same) (c.after.ensures.point names apart)))

pub unreachable-requires : goal.unreachable-requires
unreachable-requires c = no_own c.args.index.now c.args.function.now c.in-None.ensures c.requires.own
