-- Whether an item of a program defines a function of a name, by the first that does.
use Rattle.std.proofs.Common.{◌≡◌, ◌==◌, ℕ, suc, Bool, true, false, ◌||◌, if◌then◌else◌, List, [], ◌∷◌, map, Option, Some, None, is_some, option_map, refl, ap, ◌∙◌}
use Rattle.cpc_tree.specs.Erase.{Names, item_of}
use Rattle.cpc_check_rules.specs.Apart.{AreApart}
use Rattle.cpc_check_rules.specs.ItemRules.{is_function}
use Rattle.cpc_base.specs.declared.names.Name.{Name}
use Rattle.cpc_tree.specs.declared.program.Item.{Item}
use Rattle.cpc_tree.specs.declared.program.Item.TheVariants as I
use Rattle.cpc_types_structs.specs.Placed.{place_at, first_place, definition_of}
use Rattle.cpc_types.specs.Scoped.{all_items}
use Rattle.cpc_types.specs.declared.scope.Scope.{Scope}

first_here : (b : Bool) (o : Option ℕ) → is_some (if b then Some 0 else option_map suc o) ≡ (b || is_some o)
first_here true o = refl
first_here false None = refl
first_here false (Some k) = refl

module _ (names : Names) (apart : AreApart names) where
  defined_first : (n : Name) (xs : List Item) → is_some (first_place n.0 (map definition_of xs)) ≡ is_function (names n) (map (item_of names) xs)
  defined_first n [] = refl
  defined_first n (I.Struct t fs ∷ xs) = first_here false _ ∙ defined_first n xs
  defined_first n (I.Global w t start ∷ xs) = first_here false _ ∙ defined_first n xs
  defined_first n (I.Prototype p mode w r ps ∷ xs) = first_here false _ ∙ defined_first n xs
  defined_first n (I.Function f ∷ xs) = rw (apart.told f.word.name n) (first_here (f.word.name.0 == n.0) _ ∙ ap (λ b. (f.word.name.0 == n.0) || b) (defined_first n xs))

-- of all items of a program
pub defined_scope : (names : Names) → AreApart names → (s : Scope) (n : Name) → is_some (place_at s.items.declared.defined n.0) ≡ is_function (names n) (map (item_of names) (all_items s))
defined_scope names apart s n = ap is_some (s.declared.declares.defined n.0) ∙ defined_first names apart n (all_items s)
