-- Marks by numbers.
use Rattle.std.specs.Prelude.{◌≡◌, ℕ, ◌<◌, ◌==◌, Bool, List, length, get_or}
use Rattle.cpc_tree.specs.Lists.{holds_number}

-- a number is marked by a 1; what is past the end is not
abbrev pub is_set : List ℕ → ℕ → Bool
is_set marks k = get_or marks k 0 == 1

-- the marks are set at these numbers
abbrev pub AreMarked : List ℕ → List ℕ → Type 0
AreMarked marks ns = (k : ℕ) → k < length marks → is_set marks k ≡ holds_number ns k
