-- What is declared as items come into scope and leave it.
use Rattle.std.proofs.Common.{◌≡◌, ◌≤◌, List, [], ◌∷◌, ◌++◌, length, ap, sym, ◌∙◌, arith}
use Rattle.std.proofs.lemmas.List.{length-map, map-append}
use Rattle.cpc_tree.specs.declared.program.Item.{Item}
use Rattle.cpc_shapes.specs.Counted.{name_of}
use Rattle.cpc_types.specs.Declaring.{AreDeclared}
use Rattle.cpc_types.specs.declared.items.Items.{Items}
use Rattle.cpc_types_structs.specs.Declares.{Declares}
use Rattle.cpc_types_structs.specs.Indexed.{IsIndex}

-- no more items are in scope than there are
pub within_all : (xs : List Item) (i : Items) → AreDeclared xs i → i.names.count ≤ length xs
within_all xs i d =
    let e : length i.names.names.items ≡ length xs = ap length d.names ∙ length-map xs name_of in
    let h : i.names.count ≤ length i.names.names.items = d.named.within in
    omega arith

-- one more item is declared
pub appended : (xs : List Item) (y : Item) (i j : Items) → AreDeclared xs i → IsIndex j.names → j.declared.structs.tags.count ≡ j.names.count → j.names.names.items ≡ i.names.names.items ++ name_of y ∷ []
    → Declares (xs ++ y ∷ []) j.declared → AreDeclared (xs ++ y ∷ []) j
appended xs y i j d named together names declares = record {
  names = names ∙ ap (λ l. l ++ name_of y ∷ []) d.names ∙ sym (map-append name_of xs (y ∷ []));
  named = named;
  together = together;
  declares = declares;
}
