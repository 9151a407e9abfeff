-- What a scope says by what its items declare.
use Rattle.std.proofs.Common.{◌≡◌, List, Option, reverse, ap, sym, subst, ◌∙◌}
use Rattle.cpc_tree.specs.Erase.{Names}
use Rattle.cpc_check_rules.specs.Apart.{AreApart}
use Rattle.cpc_tree.specs.Syntax.{Program}
use Rattle.cpc_base.specs.declared.names.Name.{Name}
use Rattle.cpc_tree.specs.Typing as T
use Rattle.cpc_tree.specs.declared.program.Item.{Item}
use Rattle.cpc_shapes.specs.Indexed.{last_below}
use Rattle.cpc_types_structs.specs.Sized.{AreSizes, tag_place}
use Rattle.cpc_shapes.specs.Declaring.{item_at, meaning_of, fields_of}
use Rattle.cpc_types.specs.Scoped.{all_items, items_of, scope_of}
use Rattle.cpc_types.specs.Blocks.{outer_meant}
use Rattle.cpc_types.specs.declared.scope.Scope.{Scope}
use Rattle.cpc_types.proofs.Entered.{items_inside}
use Rattle.cpc_types.proofs.Declared.{within_all}
use Rattle.cpc_types.proofs.Declares.{sizes_known, meant_known, fields_known}

-- the items in scope
pub items_are : (names : Names) (s : Scope) → (scope_of names s).items ≡ items_of names s
items_are names s = items_inside names (items_of names s) (reverse s.blocks.entries.items)

-- the fields of a struct, by the item that declares it
pub fields_scope : (names : Names) → AreApart names → (s : Scope) (tag : Name) (xs : List Item) (o : Option Item) → xs ≡ all_items s
    → o ≡ item_at xs (tag_place s.items.declared.structs tag) → fields_of names o ≡ T.fields (scope_of names s).items (names tag)
fields_scope names apart s tag xs o all is =
    ap (fields_of names) (is ∙ ap (λ l. item_at l (tag_place s.items.declared.structs tag)) all)
    ∙ fields_known names apart (all_items s) s.items tag s.declared
    ∙ ap (λ p. T.fields p (names tag)) (sym (items_are names s))

-- what a name stands for outside of the blocks, by the item that declares it
pub meant_scope : (names : Names) → AreApart names → (s : Scope) (x : Name) (xs : List Item) (o : Option Item) → xs ≡ all_items s
    → o ≡ item_at xs (last_below s.items.names.count s.items.names.names.items x.0) → meaning_of names o ≡ outer_meant (items_of names s) (names x)
meant_scope names apart s x xs o all is =
    ap (meaning_of names) (is ∙ ap (λ l. item_at l (last_below s.items.names.count s.items.names.names.items x.0)) all)
    ∙ meant_known names apart (all_items s) s.items x s.declared (within_all (all_items s) s.items s.declared)

-- the sizes of the structs in scope
pub sizes_scope : (names : Names) → AreApart names → (s : Scope) → AreSizes s.items.declared.structs names (scope_of names s).items
sizes_scope names apart s =
    let P : Program → Type 0 = AreSizes s.items.declared.structs names in
    subst P (sym (items_are names s)) (sizes_known names apart (all_items s) s.items s.declared)
