-- Which item is the first that declares a name, by the names that items declare.
use Rattle.std.specs.Prelude.{ℕ, suc, if◌then◌else◌, List, [], ◌∷◌, get_or, Option, Some, None, option_map}
use Rattle.cpc_base.specs.declared.names.Name.{Name}
pub use Rattle.cpc_base.specs.Lists.{or_place}
use Rattle.cpc_tree.specs.declared.program.Item.{Item}
use Rattle.cpc_tree.specs.declared.program.Item.TheVariants as I
use Rattle.cpc_shapes.specs.Indexed.{is_name}
use Rattle.cpc_types_structs.specs.declared.places.Places.{Places}

-- the number that a name has
abbrev pub place_at : Places → ℕ → Option ℕ
place_at p x = get_or p.numbers.items x None

-- the number of the first of these that is a name
abbrev pub first_place : ℕ → List (Option Name) → Option ℕ
first_place x [] = None
first_place x (k ∷ ks) = if is_name x k then Some 0 else option_map suc (first_place x ks)

-- the name of the function that an item defines
abbrev pub definition_of : Item → Option Name
definition_of (I.Function f) = Some f.word.name
definition_of _ = None
