-- Links of code as those of the definitions, and rows of the numbers that lead to each.
use Rattle.std.specs.Prelude.{◌≡◌, ◌<◌, ℕ, Bool, false, List, [], ◌∷◌, length, get_or}
use Rattle.cpc_tree.specs.Lists.{holds_number}
use Rattle.cpc_lift_laws.specs.Search as S
use Rattle.cpc_lift_closures.specs.declared.links.Link.{Link}

-- links, as numbers
abbrev pub links_of : List Link → List S.Link
links_of [] = []
links_of (w ∷ links) = record { from = w.from; to = w.to } ∷ links_of links

-- a link to a number below this one
abbrev pub IsBelow : ℕ → Link → Type 0
IsBelow count w = w.to < count

-- each row has the numbers that lead to its own
abbrev pub RowsAre : List S.Link → List (List ℕ) → Type 0
RowsAre links rows = (m : ℕ) → m < length rows → get_or rows m [] ≡ S.before links m

-- a link from a number below this one
abbrev pub IsFrom : ℕ → Link → Type 0
IsFrom count w = w.from < count

-- a number below this one
abbrev pub IsNumber : ℕ → ℕ → Type 0
IsNumber count u = u < count

-- so many marks, which are set at these numbers
pub record MarksAre (count : ℕ) (found : List ℕ) (marks : List Bool) : Type 0 where
  pub length : length marks ≡ count
  pub set : (k : ℕ) → k < count → get_or marks k false ≡ holds_number found k
