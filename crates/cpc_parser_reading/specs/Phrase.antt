-- Which lists of tokens are which values with which nesting, in the readers' words.
use Rattle.std.specs.Prelude.{◌≡◌, ℕ, ◌+◌, Bool, true, List, [], ◌∷◌, ◌++◌, Option, Some, None, max, ◌⊎◌}

-- the lists that are a value with a nesting
abbrev pub Phrase : Type 0 → Type 0 → Type 1
Phrase T A = List T → A → ℕ → Type 0

-- no token at all
abbrev pub Nothing : {T : Type 0} → List T → Unit {0} → ℕ → Type 0
Nothing f v h = (f ≡ []) × (h ≡ 0)

-- one token that has the value
abbrev pub One : {T A : Type 0} → (T → Option A) → List T → A → ℕ → Type 0
One pick f v h = (t : _) × (f ≡ t ∷ []) × (pick t ≡ Some v) × (h ≡ 0)

-- one token of the test
abbrev pub Expect : {T : Type 0} → (T → Bool) → List T → Unit {0} → ℕ → Type 0
Expect p f v h = (t : _) × (f ≡ t ∷ []) × (p t ≡ true) × (h ≡ 0)

-- a part, and a token of the test behind it
abbrev pub Before : {T A : Type 0} → (List T → A → ℕ → Type 0) → (T → Bool) → List T → A → ℕ → Type 0
Before R p f v h = (g : _) × (t : _) × (f ≡ g ++ t ∷ []) × (p t ≡ true) × R g v h

-- a token of the test, and a part behind it
abbrev pub After : {T A : Type 0} → (T → Bool) → (List T → A → ℕ → Type 0) → List T → A → ℕ → Type 0
After p R f v h = (t : _) × (g : _) × (f ≡ t ∷ g) × (p t ≡ true) × R g v h

-- a first token of whose kind P holds, and a part behind it that depends on the token
abbrev pub Headed : {T K A : Type 0} → (T → K) → (K → Type 0) → (T → List T → A → ℕ → Type 0) → List T → A → ℕ → Type 0
Headed kind P R f v h = (t : _) × (g : _) × (f ≡ t ∷ g) × P (kind t) × R t g v h

-- a part, and a part behind it that depends on what the first was
pub record Bound {T A B : Type 0} (R : List T → A → ℕ → Type 0) (S : A → List T → B → ℕ → Type 0) (f : List T) (v : A × B) (h : ℕ) : Type 0 where
  pub left : List T
  pub right : List T
  pub i : ℕ
  pub j : ℕ
  pub whole : f ≡ left ++ right
  pub nest : h ≡ max i j
  pub first : R left v.0 i
  pub second : S v.0 right v.1 j

-- two parts
abbrev pub Both : {T A B : Type 0} → (List T → A → ℕ → Type 0) → (List T → B → ℕ → Type 0) → List T → A × B → ℕ → Type 0
Both R S = Bound R (λ v. S)

-- a part, seen as another value
abbrev pub Mapped : {T A B : Type 0} → (A → B) → (List T → A → ℕ → Type 0) → List T → B → ℕ → Type 0
Mapped make R f v h = (w : _) × (v ≡ make w) × R f w h

-- a node round a part
abbrev pub Made : {T A B : Type 0} → (A → B) → (List T → A → ℕ → Type 0) → List T → B → ℕ → Type 0
Made make R f v h = (w : _) × (i : ℕ) × (v ≡ make w) × (h ≡ i + 1) × R f w i

-- a part whose value is of the test
abbrev pub Only : {T A : Type 0} → (A → Bool) → (List T → A → ℕ → Type 0) → List T → A → ℕ → Type 0
Only ok R f v h = (ok v ≡ true) × R f v h

-- one part or the other
abbrev pub Either : {T A : Type 0} → (List T → A → ℕ → Type 0) → (List T → A → ℕ → Type 0) → List T → A → ℕ → Type 0
Either R S f v h = R f v h ⊎ S f v h

-- a part that can be absent
abbrev pub Optional : {T A : Type 0} → (List T → A → ℕ → Type 0) → List T → Option A → ℕ → Type 0
Optional R f None h = (f ≡ []) × (h ≡ 0)
Optional R f (Some v) h = R f v h

-- one of many parts
abbrev pub OneOf : {T C A : Type 0} → (C → List T → A → ℕ → Type 0) → List T → A → ℕ → Type 0
OneOf R f v h = (c : _) × R c f v h
