-- Numbers by name.
use Rattle.std.proofs.Common.{◌≡◌, ℕ, ◌<◌, ◌==◌, if◌then◌else◌, List, [], ◌∷◌, ◌++◌, length, get_or, set, Option, Some, None, arith}
use Rattle.std.proofs.lemmas.Bool.Decides.{nat_tests}
use Rattle.std.proofs.lemmas.Grind.{common_steps}
use Rattle.std.proofs.lemmas.List.{get_or-set_same, get_or-set_other}

-- room for one more name gives none a number
pub more_room : (ls : List (Option ℕ)) (x : ℕ) → get_or (ls ++ None ∷ []) x None ≡ get_or ls x None
more_room ls x = grind (arith, common_steps)

-- one name gets a number
pub one_set : (ls : List (Option ℕ)) (y n x : ℕ) → y < length ls → get_or (set ls y (Some n)) x None ≡ (if y == x then Some n else get_or ls x None)
one_set ls y n x h = grind (arith, nat_tests, get_or-set_same ls y (Some n) None h, get_or-set_other ls y x (Some n) None)
