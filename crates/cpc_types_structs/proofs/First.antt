-- The first item that declares a name, where one more item comes.
use Rattle.std.proofs.Common.{◌≡◌, ℕ, suc, Bool, true, false, if◌then◌else◌, List, [], ◌∷◌, ◌++◌, length, map, Option, Some, None, option_map, refl, ap, sym, ◌∙◌}
use Rattle.std.proofs.lemmas.List.{length-map, map-append}
use Rattle.cpc_base.specs.declared.names.Name.{Name}
use Rattle.cpc_tree.specs.declared.program.Item.{Item}
use Rattle.cpc_shapes.specs.Indexed.{is_name}
use Rattle.cpc_types_structs.specs.Placed.{or_place, first_place}

-- one more name at the end
or_next : (o : Option ℕ) (b : Bool) (n : ℕ) → option_map suc (or_place o (if b then Some n else None)) ≡ or_place (option_map suc o) (if b then Some (suc n) else None)
or_next None true n = refl
or_next None false n = refl
or_next (Some m) b n = refl

first_step : (x : ℕ) (ks : List (Option Name)) (y : Option Name) (b : Bool) (o p : Option ℕ) → o ≡ or_place p (if is_name x y then Some (length ks) else None)
    → (if b then Some 0 else option_map suc o) ≡ or_place (if b then Some 0 else option_map suc p) (if is_name x y then Some (suc (length ks)) else None)
first_step x ks y true o p e = refl
first_step x ks y false o p e = ap (option_map suc) e ∙ or_next p (is_name x y) (length ks)

first_alone : (b : Bool) → (if b then Some 0 else option_map suc None) ≡ or_place None (if b then Some 0 else None)
first_alone true = refl
first_alone false = refl

first_pushed : (x : ℕ) (ks : List (Option Name)) (y : Option Name) → first_place x (ks ++ y ∷ []) ≡ or_place (first_place x ks) (if is_name x y then Some (length ks) else None)
first_pushed x [] y = first_alone (is_name x y)
first_pushed x (k ∷ ks) y = first_step x ks y (is_name x k) _ _ (first_pushed x ks y)

-- the first place, where one more item comes: what was kept, or else the number of the item, if it declares the name
pub first_more : (key : Item → Option Name) (xs : List Item) (y : Item) (x n : ℕ) (k : Option Name) (old new : Option ℕ) → n ≡ length xs → k ≡ key y → old ≡ first_place x (map key xs)
    → new ≡ or_place old (if is_name x k then Some n else None) → new ≡ first_place x (map key (xs ++ y ∷ []))
first_more key xs y x n k old new at declares is step =
    step
    ∙ ap (λ o. or_place o (if is_name x k then Some n else None)) is
    ∙ ap (λ m. or_place (first_place x (map key xs)) (if is_name x k then Some m else None)) (at ∙ sym (length-map xs key))
    ∙ ap (λ j. or_place (first_place x (map key xs)) (if is_name x j then Some (length (map key xs)) else None)) declares
    ∙ sym (first_pushed x (map key xs) (key y))
    ∙ ap (first_place x) (sym (map-append key xs (y ∷ [])))
