-- How many cells types have, and which name or tag an item declares.
use Rattle.std.specs.Prelude.{ℕ, List, reverse, length, get_or, Option, Some, None}
use Rattle.cpc_base.specs.declared.names.Name.{Name}
use Rattle.cpc_tree.specs.Syntax.{Variable, Program}
use Rattle.cpc_tree.specs.Typing as T
use Rattle.cpc_tree.specs.Typing.{◌>>=◌}
use Rattle.cpc_tree.specs.declared.program.Item.{Item}
use Rattle.cpc_tree.specs.declared.program.Item.TheVariants as I

-- how many cells there are
abbrev pub count : T.Cells → Option ℕ
count o = do
  xs ← o
  Some (length xs)

-- the number of cells of fields
abbrev pub fields_count : Program → List Variable → Option ℕ
fields_count p fs = count (T.fields_cells (T.struct_cells (reverse p)) fs)

-- the name of a variable or a function that an item declares
abbrev pub name_of : Item → Option Name
name_of (I.Struct tag fields) = None
name_of (I.Global w t start) = Some w.name
name_of (I.Prototype p mode w result ps) = Some w.name
name_of (I.Function f) = Some f.word.name

-- the tag of a struct that an item declares
abbrev pub tag_of : Item → Option Name
tag_of (I.Struct tag fields) = Some tag.name
tag_of _ = None

-- the number of cells at a place, if there is one
abbrev pub size_at : List (Option ℕ) → Option ℕ → Option ℕ
size_at sizes None = None
size_at sizes (Some k) = get_or sizes k None
