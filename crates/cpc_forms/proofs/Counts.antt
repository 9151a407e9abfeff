-- How many points a body has, by its parts.
use Rattle.std.proofs.Common.{◌≡◌, ◌+◌, length, map, ap, ◌∙◌, length-append}
use Rattle.std.proofs.lemmas.List.{length-map}
use Rattle.cpc_tree.specs.Syntax.{Stmt, Stmts, AndStmt}
use Rattle.cpc_tree.specs.Points.{Nth}
use Rattle.cpc_forms.specs.Order.{points_of, points_in, within, below, one_later}

-- how many points a row has
pub row_count : (t : Stmt) (ss : Stmts) → length (points_in (AndStmt t ss)) ≡ length (points_of t) + length (points_in ss)
row_count t ss =
    length-append (within (Nth 0) (points_of t)) (map one_later (points_in ss))
    ∙ (ap (λ k. k + length (map one_later (points_in ss))) (length-map (points_of t) (below (Nth 0))) ∙ ap (λ k. length (points_of t) + k) (length-map (points_in ss) one_later))
