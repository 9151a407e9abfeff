use Rattle.std.proofs.Common.{length, map, ◌<◌}
use Rattle.cpc_tree.specs.Erase.{Names}
use Rattle.cpc_tree.specs.Locate.{located_field}
use Rattle.cpc_parser_types.specs.TypeViews.{base_type}
use Rattle.cpc_parser_types.specs.Views.{placed}
use Rattle.cpc_parser.specs.ItemViews.{InFields}
use Rattle.cpc_parser.proofs.structure.field_row.Given as goal

abbrev pub invariant-fields : goal.invariant-fields
invariant-fields l = ((names : Names) → InFields (base_type names l.fn.base) l.fn.depth (placed names l.fn.tokens) (map (located_field names) l.fn.all.items) (map (located_field names) l.all.items) (placed names l.rest)) × (length l.rest < length l.fn.tokens)

abbrev pub decreases-fields : goal.decreases-fields
decreases-fields l = length l.rest
