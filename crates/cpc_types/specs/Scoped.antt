-- A scope of the code, as the rules have it.
use Rattle.std.specs.Prelude.{ℕ, List, map, take}
use Rattle.cpc_tree.specs.Erase.{Names, item_of}
use Rattle.cpc_tree.specs.Syntax.{Program}
use Rattle.cpc_tree.specs.declared.program.Item.{Item}
use Rattle.cpc_check_rules.specs.Scopes as R
use Rattle.cpc_types.specs.Blocks.{inside}
use Rattle.cpc_types.specs.declared.scope.Scope.{Scope}

-- the first items of a list
abbrev pub first_items : Names → ℕ → List Item → Program
first_items names n xs = map (item_of names) (take n xs)

-- all items of the program of a scope
abbrev pub all_items : Scope → List Item
all_items s = s.program.now.items.items

-- the items in scope
abbrev pub items_of : Names → Scope → Program
items_of names s = first_items names s.items.names.count (all_items s)

-- the scope
abbrev pub scope_of : Names → Scope → R.Scope
scope_of names s = inside names (items_of names s) s.blocks
