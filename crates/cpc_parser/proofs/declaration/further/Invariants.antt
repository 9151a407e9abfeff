use Rattle.std.proofs.Common.{length, map, ◌≤◌}
use Rattle.cpc_tree.specs.Erase.{Names}
use Rattle.cpc_tree.specs.Locate.{located_item}
use Rattle.cpc_parser_types.specs.TypeViews.{base_type}
use Rattle.cpc_parser_types.specs.Views.{placed}
use Rattle.cpc_parser.specs.ItemViews.{InRow}
use Rattle.cpc_parser.proofs.declaration.further.Given as goal

abbrev pub invariant-rows : goal.invariant-rows
invariant-rows l = ((names : Names) → InRow (base_type names l.fn.base) l.fn.depth (placed names l.fn.tokens) (map (located_item names) l.fn.all.items) (map (located_item names) l.all.items) (placed names l.rest)) × (length l.rest ≤ length l.fn.tokens)

abbrev pub decreases-rows : goal.decreases-rows
decreases-rows l = length l.rest
