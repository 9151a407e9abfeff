-- The last item that declares a name.
use Rattle.std.proofs.Common.{◌≡◌, ℕ, zero, suc, ◌≤◌, Bool, true, false, List, [], ◌∷◌, ◌++◌, length, map, take, reverse, Option, Some, None, refl, ap, sym, ◌∙◌, subst, arith, add-one}
use Rattle.std.specs.Prelude.{slice_get}
use Rattle.std.proofs.lemmas.List.{reverse-append, length-reverse, length-take-le, take-map, length-map, map-append}
use Rattle.cpc_base.specs.declared.names.Name.{Name}
use Rattle.cpc_base.proofs.Lists.{found_within}
use Rattle.cpc_shapes.specs.Indexed.{is_name, latest, last_below}
use Rattle.cpc_shapes.proofs.Indexes.{one_more}

pub map_reverse : {A B : Type 0} (f : A → B) (xs : List A) → map f (reverse xs) ≡ reverse (map f xs)
map_reverse f [] = refl
map_reverse f (x ∷ xs) = ap (map f) (reverse-append (x ∷ []) xs) ∙ map-append f (reverse xs) (x ∷ []) ∙ ap (λ ys. ys ++ f x ∷ []) (map_reverse f xs) ∙ sym (reverse-append (f x ∷ []) (map f xs))

next_more : {A : Type 0} (xs : List A) (n : ℕ) (x : A) → slice_get xs n ≡ Some x → reverse (take (suc n) xs) ≡ x ∷ reverse (take n xs)
next_more {A = A} xs n x e = let P : ℕ → Type 0 = λ m. reverse (take m xs) ≡ x ∷ reverse (take n xs) in subst P (add-one n) (one_more xs n x e)

-- What is said of items by the last of them that declares a name: another one says nothing.
module _ (A X : Type 0) (key : A → Option Name) (f : List A → X) (x : ℕ) (skip : (y : A) (ys : List A) → is_name x (key y) ≡ false → f (y ∷ ys) ≡ f ys) where
  none_more : (r : A) (rs : List A) (b : Bool) → is_name x (key r) ≡ b → (latest x (map key rs) ≡ None → f rs ≡ f []) → latest x (map key (r ∷ rs)) ≡ None → f (r ∷ rs) ≡ f []
  none_more r rs true is h e = let g : latest x (map key (r ∷ rs)) ≡ Some (length (map key rs)) = rw is refl in cc
  none_more r rs false is h e = let g : latest x (map key (r ∷ rs)) ≡ latest x (map key rs) = rw is refl in skip r rs is ∙ h (sym g ∙ e)

  none_of : (rs : List A) → latest x (map key rs) ≡ None → f rs ≡ f []
  none_of [] e = refl
  none_of (r ∷ rs) e = none_more r rs (is_name x (key r)) refl (none_of rs) e

  -- the item, and what is said of it and those before it
  pub record Found (xs : List A) (n j : ℕ) : Type 0 where
    pub item : A
    pub at : slice_get xs j ≡ Some item
    pub is : is_name x (key item) ≡ true
    pub same : f (reverse (take n xs)) ≡ f (item ∷ reverse (take j xs))

  found_more : (xs : List A) (n j : ℕ) (r : A) (b : Bool) → n ≤ length xs → slice_get xs n ≡ Some r → is_name x (key r) ≡ b
      → (latest x (map key (reverse (take n xs))) ≡ Some j → Found xs n j) → latest x (map key (r ∷ reverse (take n xs))) ≡ Some j → Found xs (suc n) j
  found_more xs n j r true h at is next e =
      let g : latest x (map key (r ∷ reverse (take n xs))) ≡ Some (length (map key (reverse (take n xs)))) = rw is refl in
      let d : length (map key (reverse (take n xs))) ≡ n = length-map (reverse (take n xs)) key ∙ length-reverse (take n xs) ∙ length-take-le n xs h in
      let c : n ≡ j = cc in
      let P : ℕ → Type 0 = Found xs (suc n) in
      subst P c (record { item = r; at = at; is = is; same = ap f (next_more xs n r at) })
  found_more xs n j r false h at is next e =
      let g : latest x (map key (r ∷ reverse (take n xs))) ≡ latest x (map key (reverse (take n xs))) = rw is refl in
      let d = next (sym g ∙ e) in
      record { item = d.item; at = d.at; is = d.is; same = ap f (next_more xs n r at) ∙ skip r (reverse (take n xs)) is ∙ d.same }

  found_of : (xs : List A) (n j : ℕ) → n ≤ length xs → latest x (map key (reverse (take n xs))) ≡ Some j → Found xs n j
  found_of xs zero j h e = cc
  found_of xs (suc n) j h e =
      let r = found_within xs n (omega arith) in
      found_more xs n j r.0 (is_name x (key r.0)) (omega arith) r.1 refl (found_of xs n j (omega arith)) (sym (ap (λ ys. latest x (map key ys)) (next_more xs n r.0 r.1)) ∙ e)

  keys_of : (xs : List A) (n : ℕ) → last_below n (map key xs) x ≡ latest x (map key (reverse (take n xs)))
  keys_of xs n = ap (latest x) (ap reverse (take-map key n xs) ∙ sym (map_reverse key (take n xs)))

  -- where no item in scope declares the name, nothing is said
  pub absent : (xs : List A) (n : ℕ) → last_below n (map key xs) x ≡ None → f (reverse (take n xs)) ≡ f []
  absent xs n e = none_of (reverse (take n xs)) (sym (keys_of xs n) ∙ e)

  -- where one does, the last of them says it
  pub found : (xs : List A) (n j : ℕ) → n ≤ length xs → last_below n (map key xs) x ≡ Some j → Found xs n j
  found xs n j h e = found_of xs n j h (sym (keys_of xs n) ∙ e)
