-- Parts one after another: what has been read goes on as long as the next token carries on.
use Rattle.std.specs.Prelude.{◌≡◌, ℕ, zero, suc, ◌+◌, ◌≤◌, Bool, false, List, [], ◌∷◌, ◌++◌, length, Option, Some, None, max, if◌then◌else◌}
use Rattle.cpc_parser_reading.specs.Reading.{Reading, Read, Deep, Reader, ◌>>=◌, below}

-- How a value goes on: the class of the next token behind it, whether there is no room for a part of the class, the
-- part from that token on, and the value and the nesting with it.
pub record Linking (T C A B : Type 0) : Type 0 where
  pub class : A → T → Option C
  pub full : C → ℕ → Bool
  pub part : C → Reader T B
  pub make : C → A → B → A
  pub nest : C → ℕ → ℕ → ℕ

-- the next token carries on, or not
abbrev pub linked_by : {T C A B : Type 0} → Linking T C A B → (A → ℕ → Reader T A) → A → ℕ → T → List T → Option C → Reading T A
linked_by l on v h t rest None = Read (v, h, t ∷ rest)
linked_by l on v h t rest (Some c) =
    if l.full c h then Deep (t ∷ rest) else (l.part c (t ∷ rest) >>= λ x. on (l.make c v x.0) (l.nest c h x.1) x.2)

-- what follows a value, in so many parts at most
unfoldable pub linked : {T C A B : Type 0} → Linking T C A B → ℕ → A → ℕ → Reader T A
linked l zero v h ts = Deep ts
linked l (suc n) v h [] = Read (v, h, [])
linked l (suc n) v h (t ∷ rest) = linked_by l (λ w i us. linked l n w i us) v h t rest (l.class v t)

-- what follows a value; each part takes a token at least
unfoldable pub links : {T C A B : Type 0} → Linking T C A B → A → ℕ → Reader T A
links l v h ts = linked l (suc (length ts)) v h ts

-- a first part, and what follows it
abbrev pub chain : {T C A B : Type 0} → Reader T A → Linking T C A B → Reader T A
chain F l ts = F ts >>= λ x. links l x.0 x.1 x.2

-- A chain as a list of tokens: each part behind a value begins with a token of its class, and is fine there.
pub data Chained {T K C A B : Type 0} (kind : T → K) (class : A → K → Option C) (fine : A → C → Type 0) (make : C → A → B → A) (nest : C → ℕ → ℕ → ℕ)
    (R : List T → A → ℕ → Type 0) (S : C → List T → B → ℕ → Type 0) : List T → A → ℕ → Type 0 where
  first : (f : List T) (v : A) (h : ℕ) → R f v h → Chained kind class fine make nest R S f v h
  further : (f g : List T) (t : T) (c : C) (v : A) (w : B) (h j : ℕ) → Chained kind class fine make nest R S f v h → class v (kind t) ≡ Some c → fine v c → S c (t ∷ g) w j
      → Chained kind class fine make nest R S (f ++ t ∷ g) (make c v w) (nest c h j)

-- so much less room
abbrev pub down : ℕ → ℕ → ℕ
down zero d = d
down (suc b) d = down b (below d)

-- How values and parts fit together. Behind a value of nesting h a part of class c makes the nesting at least
-- h + left c, and with its own nesting j at least j + right c.
pub record Joint {T K C A B : Type 0} (kind : T → K) (n low : ℕ) (class : A → K → Option C) (full : ℕ → C → ℕ → Bool) (make : C → A → B → A) (nest : C → ℕ → ℕ → ℕ)
    (fine : A → C → Type 0) (begin : C → K → Type 0) (Q : A → K → Type 0) (P : C → B → K → Type 0) (left right least : C → ℕ) : Type 0 where
  -- a part of a class begins with a token of it
  pub begins : (v : A) (k : K) (c : C) → class v k ≡ Some c → begin c k
  -- a fine part may stand behind the value, and what may stand there is fine
  pub clear : (v : A) (k : K) (c : C) → class v k ≡ Some c → fine v c → Q v k
  pub suits : (v : A) (k : K) (c : C) → class v k ≡ Some c → Q v k → fine v c
  -- what may stand behind a part may stand behind the value with it
  pub to : (c : C) (v : A) (w : B) (k : K) → P c w k → Q (make c v w) k
  pub of : (c : C) (v : A) (w : B) (k : K) → Q (make c v w) k → P c w k
  pub grows : (c : C) (h j : ℕ) → nest c h j ≡ max (h + left c) (j + right c)
  -- the room is full exactly where no part of the class fits
  pub fits : (d : ℕ) (c : C) (h : ℕ) → low ≤ h → h ≤ d → d ≤ n → full d c h ≡ false → (h + left c ≤ d) × (least c + right c ≤ d)
  pub free : (d : ℕ) (c : C) (h : ℕ) → h + left c ≤ d → least c + right c ≤ d → full d c h ≡ false
