-- Lists of waiters that are seen in another form.
use Rattle.std.proofs.Common.{◌≡◌, Bool, true, false, List, [], ◌∷◌, map, inl, inr, refl, sym, ap, ◌∙◌}
use Rattle.std.specs.List.{list_any}
use Rattle.cpc_base.specs.Waiting.{first_passing, without_first}
use Rattle.cpc_base.proofs.Truth.{true_or_false}

pub first_map : {X Y : Type 0} (f : X → Y) (p : X → Bool) (q : Y → Bool) → ((x : X) → p x ≡ q (f x)) → (xs : List X) → map f (first_passing p xs) ≡ first_passing q (map f xs)
first_map f p q h [] = refl
first_map f p q h (x ∷ xs) = elim (true_or_false (p x)) [
  | inl t ↦ (let u : q (f x) ≡ true = sym (h x) ∙ t in rw (t, u) refl)
  | inr n ↦ (let u : q (f x) ≡ false = sym (h x) ∙ n in rw (n, u) (first_map f p q h xs))
]

pub without_map : {X Y : Type 0} (f : X → Y) (p : X → Bool) (q : Y → Bool) → ((x : X) → p x ≡ q (f x)) → (xs : List X) → map f (without_first p xs) ≡ without_first q (map f xs)
without_map f p q h [] = refl
without_map f p q h (x ∷ xs) = elim (true_or_false (p x)) [
  | inl t ↦ (let u : q (f x) ≡ true = sym (h x) ∙ t in rw (t, u) refl)
  | inr n ↦ (let u : q (f x) ≡ false = sym (h x) ∙ n in rw (n, u) (ap (λ ys. f x ∷ ys) (without_map f p q h xs)))
]

pub any_same : {X : Type 0} (p q : X → Bool) → ((x : X) → p x ≡ q x) → (xs : List X) → list_any p xs ≡ list_any q xs
any_same p q h [] = refl
any_same p q h (x ∷ xs) = rw (h x, any_same p q h xs) refl
