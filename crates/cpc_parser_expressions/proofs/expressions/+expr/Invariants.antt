use Rattle.std.proofs.Common.{◌+◌, ◌*◌, ◌≡◌, ◌-◌, ◌<◌, ◌≤◌, length, map}
use Rattle.cpc_tree.specs.Erase.{Names}
use Rattle.cpc_tree.specs.ExprGrammar.{Tier, Postfix}
use Rattle.cpc_parser_reading.specs.Chain.{links}
use Rattle.cpc_parser_types.specs.Views.{placed}
use Rattle.cpc_parser_expressions.specs.ExprReaders.{rank_expr_at, shape_at, tier_links, expr_at, args_at, postfix_links}
use Rattle.cpc_parser_expressions.specs.ShapeViews.{shape_of, apart_of}
use Rattle.cpc_parser_expressions.specs.Steps.{args_room}
use Rattle.cpc_tree.specs.Locate.{located_expr}
use Rattle.cpc_parser_reading.specs.Reading.{◌>>=◌}
use Rattle.cpc_parser_expressions.proofs.Follow.{row_links}
use Rattle.cpc_parser_expressions.proofs.Passages.{row_end}
use Rattle.cpc_parser_expressions.proofs.expressions.+expr.Given as goal

abbrev pub decreases-expr : goal.decreases-expr
decreases-expr l = 16 * length l.tokens.now + 10

abbrev pub decreases-whole_shape : goal.decreases-whole_shape
decreases-whole_shape l = 16 * length l.tokens.now + 9

abbrev pub decreases-tier : goal.decreases-tier
decreases-tier l = 16 * length l.tokens.now + 7

abbrev pub decreases-applied : goal.decreases-applied
decreases-applied l = 16 * length l.tokens.now

abbrev pub decreases-cast : goal.decreases-cast
decreases-cast l = 16 * length l.tokens.now + 6

abbrev pub decreases-unary : goal.decreases-unary
decreases-unary l = 16 * length l.tokens.now + 5

abbrev pub decreases-postfix : goal.decreases-postfix
decreases-postfix l = 16 * length l.tokens.now + 4

abbrev pub decreases-part : goal.decreases-part
decreases-part l = 16 * length l.tokens.now

abbrev pub decreases-arguments : goal.decreases-arguments
decreases-arguments l = 16 * length l.tokens.now + 12

abbrev pub decreases-primary : goal.decreases-primary
decreases-primary l = 16 * length l.tokens.now + 3

abbrev pub invariant-tier-ops : goal.invariant-tier-ops
invariant-tier-ops l =
    ((names : Names) → shape_at l.fn.depth (apart_of l.fn.apart) (Tier l.fn.n) (placed names l.fn.tokens) ≡ links (tier_links (rank_expr_at (l.fn.depth - 1)) l.fn.depth l.fn.n) (shape_of names l.left) l.nest (placed names l.rest))
    × (0 < l.nest)
    × (l.nest ≤ l.fn.depth)
    × (length l.rest < length l.fn.tokens)

abbrev pub decreases-tier-ops : goal.decreases-tier-ops
decreases-tier-ops l = length l.rest

abbrev pub invariant-postfix-parts : goal.invariant-postfix-parts
invariant-postfix-parts l =
    ((names : Names) → shape_at l.fn.depth (apart_of l.fn.apart) Postfix (placed names l.fn.tokens)
    ≡ links (postfix_links (expr_at (l.fn.depth - 1)) (args_at (args_room (apart_of l.fn.apart) l.fn.depth)) l.fn.depth (apart_of l.fn.apart)) (shape_of names l.shape) l.nest (placed names l.rest))
    × (0 < l.nest)
    × (l.nest ≤ l.fn.depth)
    × (length l.rest < length l.fn.tokens)

abbrev pub decreases-postfix-parts : goal.decreases-postfix-parts
decreases-postfix-parts l = length l.rest

abbrev pub invariant-arguments-more : goal.invariant-arguments-more
invariant-arguments-more l =
    ((names : Names) → args_at l.fn.depth (placed names l.fn.tokens) ≡ (links (row_links l.fn.depth) (map (located_expr names) l.all.items) l.nest (placed names l.rest) >>= row_end))
    × (0 < l.nest)
    × (l.nest ≤ l.fn.depth)
    × (length l.rest < length l.fn.tokens)

abbrev pub decreases-arguments-more : goal.decreases-arguments-more
decreases-arguments-more l = length l.rest
