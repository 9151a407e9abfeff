-- The rules that a program breaks, cut by its items, so that these can be looked at apart.
use Rattle.std.specs.Prelude.{ℕ, ◌++◌, [], Option, Some, None, map, not, take, slice_get}
use Rattle.cpc_base.specs.declared.stop.Dialect.{Dialect}
use Rattle.cpc_tree.specs.Syntax.{Program}
use Rattle.cpc_tree.specs.Located.{LItem, LProgram, bare, bare_item}
use Rattle.cpc_check_rules.specs.declared.rule.Rule.TheVariants.{NoMain}
use Rattle.cpc_check_rules.specs.Rule.{Broken, at_if}
use Rattle.cpc_check_rules.specs.Rules.{has_main, breadth_breaks}
use Rattle.cpc_check_parts.specs.ItemParts.{item_own, items_beside}

-- what lies between items, or in the whole
abbrev pub whole : Dialect → LProgram → Broken
whole dialect p = items_beside (bare p) [] p.items ++ (at_if (not (has_main p.items)) p.end NoMain ++ breadth_breaks dialect p.items)

abbrev pub own_of : Dialect → Program → Option LItem → Broken
own_of dialect before None = []
own_of dialect before (Some x) = item_own dialect before x

-- what the i-th item breaks by what stands in it
abbrev pub own : Dialect → LProgram → ℕ → Broken
own dialect p i = own_of dialect (map bare_item (take i p.items)) (slice_get p.items i)
