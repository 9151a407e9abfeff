-- The program of an index.
use Rattle.std.specs.Prelude.{◌≡◌, List, Some, map}
use Rattle.cpc_tree.specs.Erase.{Names, item_of, function_of}
use Rattle.cpc_tree.specs.Syntax.{Program}
use Rattle.cpc_tree.specs.Typing.{function_named}
use Rattle.cpc_tree.specs.declared.program.Function.{Function}
use Rattle.cpc_tree.specs.declared.program.Item.{Item}
use Rattle.cpc_check_rules.specs.Apart.{AreApart}
use Rattle.cpc_eval_index.specs.declared.index.Index.{Index}

-- all items of the program of an index
abbrev pub program_items : Index → List Item
program_items i = i.program.now.items.items

-- the program of an index, by the texts of its names
abbrev pub items_of : Names → Index → Program
items_of names i = map (item_of names) (program_items i)

-- a function is the one that is meant by its name
abbrev pub IsOwn : Index → Function → Type 0
IsOwn index f = (names : Names) → AreApart names → function_named (items_of names index) (names f.word.name) ≡ Some (function_of names f)
