-- Members of lists, as evidence that tells where.
use Rattle.std.specs.Prelude.{List, ◌∷◌}

-- x stands in the list
pub data Has {A : Type 0} : A → List A → Type 0 where
  OnTop : (x : A) (xs : List A) → Has x (x ∷ xs)
  Below : (x y : A) (xs : List A) → Has x xs → Has x (y ∷ xs)
