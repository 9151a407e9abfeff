-- Whether the cells of types are all integers.
use Rattle.std.specs.Prelude.{◌≡◌, ℕ, Bool, false, List, map, take, reverse, length, get_or, slice_get, Option, Some, None}
use Rattle.cpc_base.specs.declared.names.Name.{Name}
use Rattle.cpc_tree.specs.Erase.{Names, item_of, field_of}
use Rattle.cpc_tree.specs.Syntax.{TyStruct, Variable, Program}
use Rattle.cpc_tree.specs.Typing as T
use Rattle.cpc_tree.specs.declared.program.Item.{Item}
use Rattle.cpc_tree.specs.declared.program.Item.TheVariants as I
use Rattle.cpc_check_rules.specs.Apart.{AreApart}
use Rattle.cpc_check_rules.specs.Calls as C
use Rattle.cpc_types_structs.specs.Sized.{tag_place}
use Rattle.cpc_types.specs.declared.items.Items.{Items}

-- whether the cells of fields are all integers
abbrev pub have_integers : Program → List Variable → Bool
have_integers p fs = C.are_integers (T.fields_cells (T.struct_cells (reverse p)) fs)

abbrev pub flag_at : List Bool → Option ℕ → Bool
flag_at flags None = false
flag_at flags (Some k) = get_or flags k false

-- whether the struct in scope that has a tag has cells that are all integers
abbrev pub tag_integral : Items → Name → Bool
tag_integral i tag = flag_at i.integral.items (tag_place i.declared.structs tag)

-- these tell it of the structs of a program
pub record AreIntegral (i : Items) (names : Names) (p : Program) : Type 0 where
  pub each : (tag : Name) → tag_integral i tag ≡ C.are_integers (T.cells p (TyStruct (names tag)))

-- the same of the struct that an item declares
abbrev pub declared_integral : Names → Program → Item → Bool
declared_integral names p (I.Struct tag fields) = have_integers p (map (field_of names) fields.items)
declared_integral names p _ = false

-- these tell it of the items of a list
pub record AreTold (xs : List Item) (i : Items) : Type 0 where
  pub even : length i.integral.items ≡ length xs
  pub told : (k : ℕ) (x : Item) → slice_get xs k ≡ Some x → (names : Names) → AreApart names → get_or i.integral.items k false ≡ declared_integral names (map (item_of names) (take k xs)) x
