use Rattle.std.proofs.Common.{length, map}
use Rattle.cpc_tree.specs.Erase.{Names}
use Rattle.cpc_tree.specs.Locate.{located_item}
use Rattle.cpc_parser_types.specs.Views.{placed}
use Rattle.cpc_parser.specs.ItemViews.{InItems}
use Rattle.cpc_parser.proofs.program.items.Given as goal

abbrev pub invariant-all : goal.invariant-all
invariant-all l = (names : Names) → InItems l.depth (placed names l.tokens) (map (located_item names) l.all.items) (placed names l.rest)

abbrev pub decreases-all : goal.decreases-all
decreases-all l = length l.rest
