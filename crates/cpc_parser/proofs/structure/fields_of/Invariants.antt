use Rattle.std.proofs.Common.{length, map, ◌<◌}
use Rattle.cpc_tree.specs.Erase.{Names}
use Rattle.cpc_tree.specs.Locate.{located_field}
use Rattle.cpc_parser_types.specs.Views.{placed}
use Rattle.cpc_parser.specs.ItemViews.{InLines}
use Rattle.cpc_parser.proofs.structure.fields_of.Given as goal

abbrev pub invariant-lines : goal.invariant-lines
invariant-lines l = ((names : Names) → InLines l.fn.depth (placed names l.fn.tokens) (map (located_field names) l.all.items) (placed names l.rest)) × (length l.rest < length l.fn.tokens)

abbrev pub decreases-lines : goal.decreases-lines
decreases-lines l = length l.rest
