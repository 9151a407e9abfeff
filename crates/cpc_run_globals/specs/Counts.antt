-- How many cells the globals have.
use Rattle.std.specs.Prelude.{ℕ, ◌+◌, List, [], ◌∷◌, Option, Some}
use Rattle.cpc_tree.specs.Syntax.{Item, GlobalItem, Program}
use Rattle.cpc_tree.specs.Typing.{size, ◌>>=◌}

-- the cells of the global that an item declares
abbrev pub item_cells : Program → Item → Option ℕ
item_cells p (GlobalItem x t start) = size p t
item_cells p _ = Some 0

-- the cells of the globals among these items, where the type of each is complete
abbrev pub all_cells : Program → List Item → Option ℕ
all_cells p [] = Some 0
all_cells p (item ∷ items) = do
  m ← item_cells p item
  n ← all_cells p items
  Some (m + n)
