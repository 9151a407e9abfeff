-- The offsets of the fields of structs, capped.
use Rattle.std.specs.Prelude.{◌≡◌, ℕ, ◌+◌, List, [], ◌∷◌, map, Option, Some, None, Vec}
use Rattle.std.specs.Global.{Global}
use Rattle.cpc_tree.specs.Erase.{Names, item_of, field_of}
use Rattle.cpc_tree.specs.Syntax.{Variable, Program}
use Rattle.cpc_tree.specs.Typing.{size}
use Rattle.cpc_tree.specs.declared.program.Item.{Item}
use Rattle.cpc_tree.specs.declared.program.Item.TheVariants as I
use Rattle.cpc_check_rules.specs.Apart.{AreApart}
use Rattle.cpc_types_structs.specs.Sized.{capped}
use Rattle.cpc_eval_index.specs.declared.offsets.Offsets.{Offsets}

-- what comes behind a field of so many cells, if it is complete
abbrev pub offsets_behind : Option ℕ → (ℕ → List ℕ) → List ℕ
offsets_behind None rest = []
offsets_behind (Some k) rest = rest k

-- the offsets of fields, as far as the fields before them are complete, where n cells come before the first
abbrev pub offsets_from : Program → ℕ → List Variable → List ℕ
offsets_from p n [] = []
offsets_from p n (f ∷ fs) = capped n ∷ offsets_behind (size p f.type) (λ k. offsets_from p (n + k) fs)

-- the offsets of the fields of the struct that an item declares
abbrev pub item_offsets : Names → Program → Item → List ℕ
item_offsets names p (I.Struct tag fields) = offsets_from p 0 (map (field_of names) fields.items)
item_offsets names p _ = []

-- the rows of offsets that a table has
abbrev pub offset_rows : Offsets → List (List ℕ)
offset_rows o = map (λ (row : Vec ℕ Global). row.items) o.rows.items

-- a table has the offsets of the structs of a list of items, in the program of all of them
pub record AreOffsets (xs : List Item) (o : Offsets) : Type 0 where
  pub rows : (names : Names) → AreApart names → offset_rows o ≡ map (item_offsets names (map (item_of names) xs)) xs
