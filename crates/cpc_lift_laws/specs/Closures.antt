-- The least that frames have to keep where all positions of one owner keep the same.
use Rattle.std.specs.Prelude.{◌≡◌, ◌↔◌, ◌⊎◌, ◌<◌, ℕ, Bool, true, Some}
use Rattle.cpc_base.specs.Bytes.{Text}
use Rattle.cpc_tree.specs.Lists.{holds_number}
use Rattle.cpc_meaning.specs.Plain.{Code, Form}
use Rattle.cpc_lift_laws.specs.Used.{used_at, is_left}
use Rattle.cpc_lift_laws.specs.Closed.{Stands, ClosedIn, Closed}

module _ {P O : Type 0} (code : Code P) (f : Text) (box : ℕ → Bool) (there : P → Bool) (owner : P → O) where
  -- a variable is in the closure of an owner: it occurs at a position of the owner, or it is a box and the function is left there,
  -- or it is in the closure of the owner of a position to which control goes from there, or at which the value of what stands there arrives
  pub data InClosure : O → ℕ → Type 0 where
    Occurs : (l : O) (k : ℕ) (a : P) → there a ≡ true → owner a ≡ l → holds_number (used_at (code.scope f a) (code.stood f a)) k ≡ true → InClosure l k
    IsFreed : (l : O) (k : ℕ) (a : P) → there a ≡ true → owner a ≡ l → is_left (code.stood f a) ≡ true → box k ≡ true → InClosure l k
    GoesOn : (l : O) (k : ℕ) (a b : P) (h : Bool) → there a ≡ true → owner a ≡ l → code.goes f a h ≡ Some b → InClosure (owner b) k → InClosure l k
    Arrives : (l : O) (k : ℕ) (a b : P) → there a ≡ true → owner a ≡ l → code.arrival f a ≡ Some b → InClosure (owner b) k → InClosure l k

  -- what is kept at each position is the closure of its owner
  pub record IsClosure (kept : P → ℕ → Bool) : Type 0 where
    pub least : (a : P) (k : ℕ) → there a ≡ true → kept a k ≡ true → InClosure (owner a) k
    pub whole : (a : P) (k : ℕ) → there a ≡ true → InClosure (owner a) k → kept a k ≡ true

  -- ---- by a search

  -- a position of the owner uses the variable
  pub data UsedBy : O → ℕ → Type 0 where
    HasName : (l : O) (k : ℕ) (a : P) → there a ≡ true → owner a ≡ l → holds_number (used_at (code.scope f a) (code.stood f a)) k ≡ true → UsedBy l k
    HasBox : (l : O) (k : ℕ) (a : P) → there a ≡ true → owner a ≡ l → is_left (code.stood f a) ≡ true → box k ≡ true → UsedBy l k

  -- control goes, or a value arrives, from a position of the one to one of the other
  pub data LeadsTo : O → O → Type 0 where
    ByWay : (l m : O) (a b : P) (h : Bool) → there a ≡ true → owner a ≡ l → code.goes f a h ≡ Some b → owner b ≡ m → LeadsTo l m
    ByArrival : (l m : O) (a b : P) → there a ≡ true → owner a ≡ l → code.arrival f a ≡ Some b → owner b ≡ m → LeadsTo l m

-- an owner from which one comes to another, over any relation between owners
pub data Reaches {O : Type 0} (Leads : O → O → Type 0) : O → O → Type 0 where
  Here : (l : O) → Reaches Leads l l
  Further : (l m n : O) → Leads l m → Reaches Leads m n → Reaches Leads l n

-- where code may stand, all is kept
abbrev pub KeepsAll : {P : Type 0} → (there : P → Bool) (kept : P → ℕ → Bool) → Type 0
KeepsAll {P = P} there kept = (a : P) (k : ℕ) → there a ≡ true → kept a k ≡ true

-- ---- laws

-- a form is closed where each of its functions keeps all, or the closures of its owners
abbrev pub SplitIsClosed : (P O : Type 0) → Type 0
SplitIsClosed P O =
    (p : Form P) (box : Text → ℕ → Bool) (there : Text → P → Bool) (owner : Text → P → O) (kept : Text → P → ℕ → Bool)
    → ((f : Text) → Stands p.code f (there f))
    → ((f : Text) → KeepsAll (there f) (kept f) ⊎ IsClosure p.code f (box f) (there f) (owner f) (kept f))
    → Closed p box there kept

-- what is the closure of the owner at each position is closed
abbrev pub ClosuresAreClosed : (P O : Type 0) → Type 0
ClosuresAreClosed P O =
    (code : Code P) (f : Text) (box : ℕ → Bool) (there : P → Bool) (owner : P → O) (kept : P → ℕ → Bool)
    → Stands code f there → IsClosure code f box there owner kept → ClosedIn code f box there kept

-- and all that is closed, and depends on the owner alone, keeps it
abbrev pub ClosuresAreLeast : (P O : Type 0) → Type 0
ClosuresAreLeast P O =
    (code : Code P) (f : Text) (box : ℕ → Bool) (there : P → Bool) (owner : P → O) (keeps : O → ℕ → Bool)
    → ClosedIn code f box there (λ a. keeps (owner a)) → (l : O) (k : ℕ) → InClosure code f box there owner l k → keeps l k ≡ true

-- a variable is in the closure of an owner exactly where it is used by an owner to which this one leads in any number of steps
abbrev pub ClosuresAreReached : (P O : Type 0) → Type 0
ClosuresAreReached P O =
    (code : Code P) (f : Text) (box : ℕ → Bool) (there : P → Bool) (owner : P → O) (l : O) (k : ℕ)
    → InClosure code f box there owner l k
    ↔ ((m : O) × Reaches (LeadsTo code f box there owner) l m × UsedBy code f box there owner m k)

-- where less than n variables are used and boxed, closures have none beyond
abbrev pub ClosuresAreBelow : (P O : Type 0) → Type 0
ClosuresAreBelow P O =
    (code : Code P) (f : Text) (box : ℕ → Bool) (there : P → Bool) (owner : P → O) (n : ℕ)
    → ((a : P) (k : ℕ) → there a ≡ true → holds_number (used_at (code.scope f a) (code.stood f a)) k ≡ true → k < n)
    → ((k : ℕ) → box k ≡ true → k < n)
    → (l : O) (k : ℕ) → InClosure code f box there owner l k → k < n
