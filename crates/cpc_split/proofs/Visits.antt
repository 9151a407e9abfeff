-- What a visit does to the marks that code has.
use Rattle.std.proofs.Common.{◌≡◌, ℕ, zero, suc, List, [], ◌∷◌, ◌++◌, map, slice_get, slice_set, is_some, Option, Some, None, option_map, refl, sym, ◌∙◌, ap}
use Rattle.cpc_forms.specs.Flow.{Place}
use Rattle.cpc_forms.specs.Spread.{Spread, known, visit, visit_if}
use Rattle.cpc_forms_code.specs.declared.split.Owner.{Owner}
use Rattle.cpc_split.specs.Seen.{place_of, places_of}

map_set : {A B : Type 0} (f : A → B) (xs : List A) (n : ℕ) (x : A) → map f (slice_set xs n x) ≡ slice_set (map f xs) n (f x)
map_set f [] n x = refl
map_set f (y ∷ xs) zero x = refl
map_set f (y ∷ xs) (suc n) x = ap (λ ys. f y ∷ ys) (map_set f xs n x)

abbrev pub spread : List (Option Place) → List ℕ → Spread
spread os ws = record { owners = os; waiting = ws }

-- where nothing is known of the node
pub visited_none : (os : List (Option Owner)) (ws : List ℕ) (m : ℕ) (o : Owner) → slice_get os m ≡ Some None
    → spread (places_of (slice_set os m (Some o))) (ws ++ (m ∷ [])) ≡ visit m (place_of o) (spread (places_of os) ws)
visited_none os ws m o e =
    ap (λ xs. spread xs (ws ++ (m ∷ []))) (map_set (option_map place_of) os m (Some o))
    ∙ sym (ap (λ b. visit_if b m (place_of o) (spread (places_of os) ws)) (ap (λ x. is_some (known x)) (at os m e)))
  where
    at : (os : List (Option Owner)) (m : ℕ) → slice_get os m ≡ Some None → slice_get (places_of os) m ≡ Some None
    at [] m e = absurd (cc)
    at (x ∷ os) zero e = let i : x ≡ None = cc in ap (λ z. Some (option_map place_of z)) i
    at (x ∷ os) (suc m) e = at os m e
