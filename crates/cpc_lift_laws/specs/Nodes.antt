-- The ways and the uses of a function's code, gathered from a list of its positions.
use Rattle.std.specs.Prelude.{◌≡◌, ◌↔◌, ℕ, Bool, true, false, if◌then◌else◌, List, [], ◌∷◌, ◌++◌, Option, Some, None}
use Rattle.cpc_base.specs.Bytes.{Text}
use Rattle.cpc_tree.specs.Lists.{holds_number}
use Rattle.cpc_meaning.specs.Plain.{Code}
use Rattle.cpc_lift_laws.specs.Used.{used_at, is_left}
use Rattle.cpc_lift_laws.specs.Search.{Link, WaysOf}

-- an element of a list
pub data Member {X : Type 0} : X → List X → Type 0 where
  First : (x : X) (xs : List X) → Member x (x ∷ xs)
  Later : (x y : X) (xs : List X) → Member x xs → Member x (y ∷ xs)

-- an owner leads to each of these numbers
abbrev pub links_to : ℕ → List ℕ → List Link
links_to l [] = []
links_to l (k ∷ ks) = record { from = l; to = k } ∷ links_to l ks

module _ {P : Type 0} (code : Code P) (f : Text) (owner : P → ℕ) where
  -- the way to a position, if there is one
  abbrev pub way_to : ℕ → Option P → List Link
  way_to l None = []
  way_to l (Some b) = record { from = l; to = owner b } ∷ []

  -- the ways from a position: as a test holds, as it does not, and where the value of what stands there arrives
  abbrev pub ways_from : P → List Link
  ways_from a = way_to (owner a) (code.goes f a true) ++ (way_to (owner a) (code.goes f a false) ++ way_to (owner a) (code.arrival f a))

  -- those from all of these
  abbrev pub ways_of_nodes : List P → List Link
  ways_of_nodes [] = []
  ways_of_nodes (a ∷ nodes) = ways_from a ++ ways_of_nodes nodes

  -- the variables that a position uses: those that occur there, and the boxes where the function is left
  abbrev pub uses_from : (boxes : List ℕ) → P → List Link
  uses_from boxes a = links_to (owner a) (used_at (code.scope f a) (code.stood f a) ++ (if is_left (code.stood f a) then boxes else []))

  -- those that all of these use
  abbrev pub uses_of_nodes : (boxes : List ℕ) → List P → List Link
  uses_of_nodes boxes [] = []
  uses_of_nodes boxes (a ∷ nodes) = uses_from boxes a ++ uses_of_nodes boxes nodes

-- ---- laws

-- gathered from all positions at which code may stand, these are the ways and the uses of the code
abbrev pub NodesGiveWays : (P : Type 0) → Type 0
NodesGiveWays P =
    (code : Code P) (f : Text) (box : ℕ → Bool) (there : P → Bool) (owner : P → ℕ) (nodes : List P) (boxes : List ℕ)
    → ((a : P) → (there a ≡ true) ↔ Member a nodes)
    → ((k : ℕ) → (holds_number boxes k ≡ true) ↔ (box k ≡ true))
    → WaysOf code f box there owner (ways_of_nodes code f owner nodes) (uses_of_nodes code f owner boxes nodes)
