-- What the items in scope declare.
use Rattle.std.specs.Prelude.{◌≡◌, List, map}
use Rattle.cpc_tree.specs.declared.program.Item.{Item}
use Rattle.cpc_shapes.specs.Counted.{name_of}
use Rattle.cpc_types_structs.specs.Declares.{Declares}
use Rattle.cpc_types_structs.specs.Indexed.{IsIndex}
use Rattle.cpc_types.specs.declared.items.Items.{Items}

-- These are declared by the items of a list, of which a number is in scope.
pub record AreDeclared (xs : List Item) (i : Items) : Type 0 where
  pub names : i.names.names.items ≡ map name_of xs
  pub named : IsIndex i.names
  pub together : i.declared.structs.tags.count ≡ i.names.count
  pub declares : Declares xs i.declared
