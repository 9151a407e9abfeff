-- What the rules' clauses come to.
use Rattle.std.specs.Prelude.{◌≡◌, ◌⊎◌, ℕ, List, [], ◌∷◌}
use Rattle.cpc_pool_jobs.specs.declared.views.Taken.{Taken}
use Rattle.cpc_pool_jobs.specs.Views.{Rises, numbers, of}

-- the number stands in the list
abbrev pub Has : ℕ → List ℕ → Type 0
Has n [] = ⊥
Has n (x ∷ xs) = (x ≡ n) ⊎ Has n xs

-- where the numbers of a log rise, no two workers have one number
abbrev pub OnlyOne : Type 0
OnlyOne = (log : List Taken) (u w n : ℕ) → Rises (numbers log) → Has n (of u log) → Has n (of w log) → u ≡ w
