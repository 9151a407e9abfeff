use Rattle.std.proofs.Common.{◌≡◌, ◌≤◌, length}
use Rattle.cpc_tree.specs.Erase.{Names, type_of}
use Rattle.cpc_parser_reading.specs.Chain.{links}
use Rattle.cpc_parser_types.specs.Declarators.{pointer_links, stars_at}
use Rattle.cpc_parser_types.specs.TypeViews.{base_type}
use Rattle.cpc_parser_types.specs.Views.{placed}
use Rattle.cpc_parser_types.proofs.base.stars.Given as goal

abbrev pub invariant-stars : goal.invariant-stars
invariant-stars l =
    ((names : Names) → links (pointer_links l.fn.depth) (type_of names l.of) l.nest (placed names l.rest) ≡ stars_at (base_type names l.fn.base) l.fn.depth (placed names l.fn.tokens))
    × (l.nest ≤ l.fn.depth)
    × (length l.rest ≤ length l.fn.tokens)

abbrev pub decreases-stars : goal.decreases-stars
decreases-stars l = length l.rest
