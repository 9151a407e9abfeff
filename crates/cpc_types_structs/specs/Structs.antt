-- The structs that the items of a list declare.
use Rattle.std.specs.Prelude.{◌≡◌, ℕ, List, map, take, length, get_or, slice_get, Some, None}
use Rattle.cpc_tree.specs.Erase.{Names, item_of}
use Rattle.cpc_check_rules.specs.Apart.{AreApart}
use Rattle.cpc_tree.specs.declared.program.Item.{Item}
use Rattle.cpc_shapes.specs.Counted.{tag_of}
use Rattle.cpc_types_structs.specs.Indexed.{IsIndex}
use Rattle.cpc_types_structs.specs.Sized.{declared_size}
use Rattle.cpc_types_structs.specs.declared.structs.Structs.{Structs}

-- These are the structs of a list of items, of which a number is in scope.
pub record AreStructs (xs : List Item) (s : Structs) : Type 0 where
  pub tags : s.tags.names.items ≡ map tag_of xs
  pub tagged : IsIndex s.tags
  pub even : length s.sizes.items ≡ length xs
  pub sized : (k : ℕ) (x : Item) → slice_get xs k ≡ Some x → (names : Names) → AreApart names → get_or s.sizes.items k None ≡ declared_size names (map (item_of names) (take k xs)) x

-- the same, where all items are in scope
pub record AreAllStructs (xs : List Item) (s : Structs) : Type 0 where
  pub structs : AreStructs xs s
  pub all : s.tags.count ≡ length xs
