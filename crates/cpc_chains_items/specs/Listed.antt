-- Items that are listed one after the other.
use Rattle.std.specs.Prelude.{List, map}
use Rattle.cpc_tree.specs.Erase.{Names, item_of}
use Rattle.cpc_tree.specs.Syntax.{Item}
use Rattle.cpc_chains_items.specs.declared.items.Items.{Items}

-- by the texts of their names
abbrev pub listed : Names → Items → List Item
listed names i = map (item_of names) i.items.items
