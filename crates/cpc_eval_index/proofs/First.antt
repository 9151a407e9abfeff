-- The first item that declares a name.
use Rattle.std.proofs.Common.{◌≡◌, ℕ, suc, ◌+◌, Bool, true, false, if◌then◌else◌, List, [], ◌∷◌, map, take, Option, Some, None, option_map, refl, ap, ◌∙◌, arith}
use Rattle.std.specs.Prelude.{slice_get}
use Rattle.std.specs.List.{sum_by}
use Rattle.std.proofs.lemmas.List.Sums.{sum_by-cons}
use Rattle.cpc_base.specs.declared.names.Name.{Name}
use Rattle.cpc_shapes.specs.Indexed.{is_name}
use Rattle.cpc_types_structs.specs.Placed.{first_place}

-- What is said of items by the first of them that declares a name, where each counts so much: another one says nothing.
module _ (A X : Type 0) (key : A → Option Name) (weight : A → ℕ) (f : ℕ → List A → X) (e : X) (g : ℕ → A → X) (x : ℕ)
    (none : (n : ℕ) → f n [] ≡ e)
    (here : (n : ℕ) (y : A) (ys : List A) → is_name x (key y) ≡ true → f n (y ∷ ys) ≡ g n y)
    (skip : (n : ℕ) (y : A) (ys : List A) → is_name x (key y) ≡ false → f n (y ∷ ys) ≡ f (n + weight y) ys) where
  item_says : ℕ → Option A → X
  item_says n None = e
  item_says n (Some y) = g n y

  said_at : ℕ → List A → Option ℕ → X
  said_at n xs None = e
  said_at n xs (Some j) = item_says (n + sum_by weight (take j xs)) (slice_get xs j)

  said_later : (n : ℕ) (y : A) (ys : List A) (o : Option ℕ) → said_at (n + weight y) ys o ≡ said_at n (y ∷ ys) (option_map suc o)
  unfolding said_at
  said_later n y ys None = refl
  said_later n y ys (Some j) =
      let e : sum_by weight (y ∷ take j ys) ≡ weight y + sum_by weight (take j ys) = sum_by-cons weight y (take j ys) in
      let h : n + weight y + sum_by weight (take j ys) ≡ n + sum_by weight (y ∷ take j ys) = omega arith in
      ap (λ m. item_says m (slice_get ys j)) h

  said_now : (n : ℕ) (y : A) (ys : List A) → g n y ≡ said_at n (y ∷ ys) (Some 0)
  unfolding said_at item_says
  said_now n y ys = let h : n ≡ n + 0 = omega arith in ap (λ m. g m y) h

  said_step : (n : ℕ) (y : A) (ys : List A) (b : Bool) → is_name x (key y) ≡ b → f (n + weight y) ys ≡ said_at (n + weight y) ys (first_place x (map key ys))
      → f n (y ∷ ys) ≡ said_at n (y ∷ ys) (if b then Some 0 else option_map suc (first_place x (map key ys)))
  said_step n y ys true is h = here n y ys is ∙ said_now n y ys
  said_step n y ys false is h = skip n y ys is ∙ h ∙ said_later n y ys (first_place x (map key ys))

  said_by : (n : ℕ) (xs : List A) → f n xs ≡ said_at n xs (first_place x (map key xs))
  unfolding said_at
  said_by n [] = none n
  said_by n (y ∷ ys) = said_step n y ys (is_name x (key y)) refl (said_by (n + weight y) ys)

  -- where none declares the name
  pub first_absent : (n : ℕ) (xs : List A) → first_place x (map key xs) ≡ None → f n xs ≡ e
  unfolding said_at
  first_absent n xs is = said_by n xs ∙ ap (said_at n xs) is

  -- where this is the place of the first that does, and no item stands there
  pub first_missing : (n : ℕ) (xs : List A) (j : ℕ) → first_place x (map key xs) ≡ Some j → slice_get xs j ≡ None → f n xs ≡ e
  unfolding said_at item_says
  first_missing n xs j is at = said_by n xs ∙ ap (said_at n xs) is ∙ ap (item_says (n + sum_by weight (take j xs))) at

  -- where this is the place of the first that does
  pub first_found : (n : ℕ) (xs : List A) (j : ℕ) (y : A) → first_place x (map key xs) ≡ Some j → slice_get xs j ≡ Some y → f n xs ≡ g (n + sum_by weight (take j xs)) y
  unfolding said_at item_says
  first_found n xs j y is at = said_by n xs ∙ ap (said_at n xs) is ∙ ap (item_says (n + sum_by weight (take j xs))) at
