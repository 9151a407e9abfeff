-- What the items of a list declare.
use Rattle.std.specs.Prelude.{◌≡◌, ℕ, List, map, length}
use Rattle.cpc_tree.specs.declared.program.Item.{Item}
use Rattle.cpc_shapes.specs.Counted.{name_of}
use Rattle.cpc_types_structs.specs.Placed.{place_at, first_place, definition_of}
use Rattle.cpc_types_structs.specs.Structs.{AreStructs}
use Rattle.cpc_types_structs.specs.declared.declared.Declared.{Declared}

-- The items of a list declare this, of which a number is in scope.
pub record Declares (xs : List Item) (d : Declared) : Type 0 where
  pub structs : AreStructs xs d.structs
  pub named : (x : ℕ) → place_at d.named x ≡ first_place x (map name_of xs)
  pub defined : (x : ℕ) → place_at d.defined x ≡ first_place x (map definition_of xs)

-- the same, where all items are in scope
pub record AreAllDeclared (xs : List Item) (d : Declared) : Type 0 where
  pub declares : Declares xs d
  pub all : d.structs.tags.count ≡ length xs
