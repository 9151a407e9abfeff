-- The cells of structs by their places, and structs that have the same cells as the struct in them.
use Rattle.std.specs.Prelude.{ℕ, ◌==◌, if◌then◌else◌, List, [], ◌∷◌, get_or, take, map, reverse, slice_get, Option, Some, None}
use Rattle.cpc_base.specs.declared.names.Name.{Name}
use Rattle.cpc_tree.specs.Erase.{Names, item_of, field_of}
use Rattle.cpc_tree.specs.Syntax as S
use Rattle.cpc_tree.specs.Typing.{Cells, fields_cells, struct_cells}
use Rattle.cpc_tree.specs.declared.program.CType.{CType}
use Rattle.cpc_tree.specs.declared.program.CType.TheVariants as C
use Rattle.cpc_tree.specs.declared.program.Field.{Field}
use Rattle.cpc_tree.specs.declared.program.Item.{Item}
use Rattle.cpc_tree.specs.declared.program.Item.TheVariants as I
use Rattle.cpc_shapes.specs.Counted.{tag_of}
use Rattle.cpc_eval_index.specs.Placed.{last_place}

-- ---- cells

-- the first n items, the last first
abbrev pub items_before : Names → List Item → ℕ → List S.Item
items_before names xs n = reverse (map (item_of names) (take n xs))

-- the cells of the struct that an item declares, behind these items
abbrev pub declared_cells : Names → List S.Item → Option Item → Cells
declared_cells names items (Some (I.Struct tag fields)) = fields_cells (struct_cells items) (map (field_of names) fields.items)
declared_cells names items _ = None

-- the cells of the struct at a place
abbrev pub cells_at : Names → List Item → Option ℕ → Cells
cells_at names xs None = None
cells_at names xs (Some k) = declared_cells names (items_before names xs k) (slice_get xs k)

-- ---- the struct in a struct

-- the struct that a type is, or of which it is an array of one
abbrev pub same_struct : CType → Option Name
same_struct (C.Struct tag) = Some tag
same_struct (C.Array' p t n) = if n == 1 then same_struct t else None
same_struct _ = None

-- the struct that is the only one of these fields
abbrev pub only_field : List Field → Option Name
only_field [] = None
only_field (f ∷ []) = same_struct f.of
only_field (f ∷ g ∷ fs) = None

-- the struct that is the only field of the struct that an item declares
abbrev pub only_struct : Item → Option Name
only_struct (I.Struct tag fields) = only_field fields.items
only_struct _ = None

-- the place of a struct that may be absent, by the places of tags
abbrev pub place_if : (ℕ → Option ℕ) → Option Name → Option ℕ
place_if place None = None
place_if place (Some tag) = place tag.0

-- the place of the last of these items that declares the only field of one more, if this is a struct
abbrev pub inner_place : List Item → Item → Option ℕ
inner_place xs x = place_if (λ n. last_place n (map tag_of xs)) (only_struct x)

-- what a row has for a place that may be absent, or else this place
abbrev pub end_by : List ℕ → ℕ → Option ℕ → ℕ
end_by ends k None = k
end_by ends k (Some j) = get_or ends j j
