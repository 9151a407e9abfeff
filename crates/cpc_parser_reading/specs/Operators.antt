-- Operators that group from left to right, and a part that may follow another one.
use Rattle.std.specs.Prelude.{◌≡◌, ℕ, ◌+◌, Bool, false, List, [], ◌∷◌, ◌++◌, Option, Some, None, max, nat_lt, if◌then◌else◌}
use Rattle.cpc_parser_reading.specs.Reading.{Read, Deep, Reader, ◌>>=◌, headed, mapped}
use Rattle.cpc_parser_reading.specs.Chain.{Linking, chain}

-- A value goes on with an operator and an operand, if there is room for a node above it.
abbrev pub operators : {T O A B : Type 0} → (T → Option O) → (O → T → A → B → A) → ℕ → Reader T B → Linking T O A (T × B)
operators op node room G = record {
  class = λ v t. op t;
  full = λ o h. nat_lt room h;
  part = λ o. headed (λ t. mapped (λ w. (t, w)) G);
  make = λ o v w. node o w.0 v w.1;
  nest = λ o h j. max h j + 1;
}

-- an operand, and further ones behind operators of one level, with the room inside
abbrev pub level : {T O A B : Type 0} → (T → Option O) → (O → T → A → B → A) → ℕ → Reader T A → Reader T B → Reader T A
level op node room F G = chain F (operators op node room G)

-- Operands with operators of one level between them: each operator takes all that stands before it.
pub data Level {T K O A B : Type 0} (kind : T → K) (op : K → Option O) (node : O → T → A → B → A) (R : List T → A → ℕ → Type 0) (S : List T → B → ℕ → Type 0) : List T → A → ℕ → Type 0 where
  single : (f : List T) (v : A) (h : ℕ) → R f v h → Level kind op node R S f v h
  applied : (f g : List T) (t : T) (o : O) (v : A) (w : B) (h j : ℕ) → Level kind op node R S f v h → op (kind t) ≡ Some o → S g w j → Level kind op node R S (f ++ t ∷ g) (node o t v w) (max h j + 1)

-- what may follow a value: a part where the token stands, if there is room for it
abbrev pub tail_from : {T A B : Type 0} → (T → Bool) → (ℕ → Bool) → (ℕ → ℕ → ℕ) → Reader T B → A → ℕ → Reader T (A × Option B)
tail_from p full nest G a h [] = Read ((a, None), h, [])
tail_from p full nest G a h (t ∷ rest) =
    if p t then (if full h then Deep (t ∷ rest) else (G (t ∷ rest) >>= λ y. Read ((a, Some y.0), nest h y.1, y.2))) else Read ((a, None), h, t ∷ rest)

-- a part, and what may follow it
abbrev pub tail : {T A B : Type 0} → Reader T A → (T → Bool) → (ℕ → Bool) → (ℕ → ℕ → ℕ) → Reader T B → Reader T (A × Option B)
tail F p full nest G ts = F ts >>= λ x. tail_from p full nest G x.0 x.1 x.2

-- A part alone, or a part that is fine with what follows it.
pub data Tailed {T A B : Type 0} (nest : ℕ → ℕ → ℕ) (R : List T → A → ℕ → Type 0) (fine : A → Type 0) (S : List T → B → ℕ → Type 0) : List T → A × Option B → ℕ → Type 0 where
  bare : (f : List T) (a : A) (h : ℕ) → R f a h → Tailed nest R fine S f (a, None) h
  tailed : (f g : List T) (a : A) (b : B) (i j : ℕ) → R f a i → fine a → S g b j → Tailed nest R fine S (f ++ g) (a, Some b) (nest i j)

-- what may stand behind it
abbrev pub Trails : {K A B : Type 0} → (K → Bool) → (A → K → Type 0) → (B → K → Type 0) → A × Option B → K → Type 0
Trails p Q P (a, None) k = Q a k × (p k ≡ false)
Trails p Q P (a, Some b) k = P b k
