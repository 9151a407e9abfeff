-- The numbers of cells of types, capped at the greatest number of 64 bits.
use Rattle.std.specs.Prelude.{◌≡◌, ℕ, map, Option, None, option_map}
pub use Rattle.cpc_base.specs.Counts.{capped}
use Rattle.cpc_base.specs.declared.names.Name.{Name}
use Rattle.cpc_tree.specs.Erase.{Names, field_of}
use Rattle.cpc_tree.specs.Syntax.{Ty, TyStruct, Program}
use Rattle.cpc_tree.specs.Typing as T
use Rattle.cpc_tree.specs.declared.program.Item.{Item}
use Rattle.cpc_tree.specs.declared.program.Item.TheVariants as I
use Rattle.cpc_shapes.specs.Counted.{fields_count, size_at}
use Rattle.cpc_shapes.specs.Indexed.{last_below}
use Rattle.cpc_types_structs.specs.declared.structs.Structs.{Structs}

-- the number of cells of a type, capped
abbrev pub capped_size : Program → Ty → Option ℕ
capped_size p t = option_map capped (T.size p t)

-- the number of cells of the struct that an item declares, capped
abbrev pub declared_size : Names → Program → Item → Option ℕ
declared_size names p (I.Struct tag fields) = option_map capped (fields_count p (map (field_of names) fields.items))
declared_size names p _ = None

-- the number of the last item in scope that declares a tag
abbrev pub tag_place : Structs → Name → Option ℕ
tag_place s tag = last_below s.tags.count s.tags.names.items tag.0

-- the cells of the struct in scope that has a tag, capped
abbrev pub tag_size : Structs → Name → Option ℕ
tag_size s tag = size_at s.sizes.items (tag_place s tag)

-- these are the sizes of the structs of a program
pub record AreSizes (s : Structs) (names : Names) (p : Program) : Type 0 where
  pub each : (tag : Name) → tag_size s tag ≡ capped_size p (TyStruct (names tag))
