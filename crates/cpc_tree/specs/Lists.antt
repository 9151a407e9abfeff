-- Small functions on lists.
use Rattle.std.specs.Prelude.{ℕ, Bool, false, ◌||◌, ◌==◌, List, [], ◌∷◌}
pub use Rattle.cpc_base.specs.Lists.{is_empty, rest_of}

-- the first element, or this one where there is none
abbrev pub first_or : {X : Type 0} → X → List X → X
first_or y [] = y
first_or y (x ∷ xs) = x

-- whether a list has this number
abbrev pub holds_number : List ℕ → ℕ → Bool
holds_number [] n = false
holds_number (m ∷ ms) n = (m == n) || holds_number ms n
