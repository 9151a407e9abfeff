-- Closures as they are computed: for each variable a search backwards over ways between owners, which are numbers here.
use Rattle.std.specs.Prelude.{◌≡◌, ◌↔◌, ◌==◌, ℕ, zero, suc, ◌+◌, ◌<◌, Bool, true, false, if◌then◌else◌, List, [], ◌∷◌, ◌++◌, length}
use Rattle.cpc_base.specs.Bytes.{Text}
use Rattle.cpc_tree.specs.Lists.{holds_number}
use Rattle.cpc_meaning.specs.Plain.{Code}
use Rattle.cpc_lift_laws.specs.Closures.{InClosure, IsClosure, UsedBy, LeadsTo, Reaches}

-- A number that leads to another: an owner to one to which control goes, or at which a value arrives; or an owner to a variable that it uses.
pub record Link : Type 0 where
  pub from : ℕ
  pub to : ℕ

-- the numbers that lead to this one
abbrev pub before : List Link → ℕ → List ℕ
before [] m = []
before (w ∷ links) m = if m == w.to then w.from ∷ before links m else before links m

-- what is still to be looked at after an owner, which was seen before or not
abbrev pub work_after : (was_seen : Bool) → List Link → ℕ → List ℕ → List ℕ
work_after true ways m work = work
work_after false ways m work = work ++ before ways m

-- what was seen then
abbrev pub seen_after : (was_seen : Bool) → ℕ → List ℕ → List ℕ
seen_after true m seen = seen
seen_after false m seen = m ∷ seen

-- at most so many turns, each of which looks at the first owner of those that are still to be looked at
abbrev pub search : List Link → (turns : ℕ) → (work seen : List ℕ) → List ℕ
search ways zero work seen = seen
search ways (suc n) [] seen = seen
search ways (suc n) (m ∷ work) seen = search ways n (work_after (holds_number seen m) ways m work) (seen_after (holds_number seen m) m seen)

-- the owners that have a variable in their closures
abbrev pub keepers : List Link → List Link → ℕ → List ℕ
keepers ways uses k = search ways (length (before uses k) + length ways) (before uses k) []

-- those of the n variables from this one on that an owner keeps, in order
abbrev pub closure_from : List Link → List Link → ℕ → (k n : ℕ) → List ℕ
closure_from ways uses l k zero = []
closure_from ways uses l k (suc n) = if holds_number (keepers ways uses k) l then k ∷ closure_from ways uses l (suc k) n else closure_from ways uses l (suc k) n

-- the closure of an owner in a function of n variables
abbrev pub closure : List Link → List Link → (n l : ℕ) → List ℕ
closure ways uses n l = closure_from ways uses l 0 n

-- ---- laws

-- an owner is found exactly where it leads to a user in any number of steps
abbrev pub SearchFinds : Type 0
SearchFinds =
    (ways : List Link) (uses : List Link) (l k : ℕ)
    → (holds_number (keepers ways uses k) l ≡ true)
    ↔ ((m : ℕ) × Reaches (λ i j. holds_number (before ways j) i ≡ true) l m × (holds_number (before uses k) m ≡ true))

-- these are the ways and the uses of the code of a function
pub record WaysOf {P : Type 0} (code : Code P) (f : Text) (box : ℕ → Bool) (there : P → Bool) (owner : P → ℕ) (ways : List Link) (uses : List Link) : Type 0 where
  pub leads : (l m : ℕ) → (holds_number (before ways m) l ≡ true) ↔ LeadsTo code f box there owner l m
  pub used : (l k : ℕ) → (holds_number (before uses k) l ≡ true) ↔ UsedBy code f box there owner l k

-- then what is computed is the closure
abbrev pub SearchIsClosure : (P : Type 0) → Type 0
SearchIsClosure P =
    (code : Code P) (f : Text) (box : ℕ → Bool) (there : P → Bool) (owner : P → ℕ) (ways : List Link) (uses : List Link)
    → WaysOf code f box there owner ways uses
    → (n l k : ℕ) → (holds_number (closure ways uses n l) k ≡ true) ↔ ((k < n) × InClosure code f box there owner l k)

-- and where no variable beyond n is in a closure, it is, kept at each position, exactly the closure of the owner
abbrev pub ComputedIsKept : (P : Type 0) → Type 0
ComputedIsKept P =
    (code : Code P) (f : Text) (box : ℕ → Bool) (there : P → Bool) (owner : P → ℕ) (ways : List Link) (uses : List Link) (n : ℕ)
    → WaysOf code f box there owner ways uses → ((l k : ℕ) → InClosure code f box there owner l k → k < n)
    → IsClosure code f box there owner (λ a k. holds_number (closure ways uses n (owner a)) k)
