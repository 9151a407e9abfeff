-- What an answer to a whole list of tokens says.
use Rattle.std.specs.Prelude.{◌≡◌, ℕ, ◌≤◌, ◌<◌, List, [], ◌∷◌, ◌++◌}
use Rattle.cpc_parser_reading.specs.Reading.{Reading, Read, Fault, Deep, ◌>>=◌}
use Rattle.cpc_parser_reading.specs.Exact.{SameHead, Opens}

-- nothing stands behind
abbrev pub ended : {T A : Type 0} → A × ℕ × List T → List T → Reading T A
ended x [] = Read x
ended x (t ∷ rest) = Fault (t ∷ rest)

-- all of the tokens
abbrev pub whole : {T A : Type 0} → Reading T A → Reading T A
whole r = r >>= λ x. ended x x.2

-- The tokens are the value, within the nesting.
abbrev pub Within : {T A : Type 0} → (List T → A → ℕ → Type 0) → ℕ → List T → A → Type 0
Within R d ts v = (h : ℕ) × (h ≤ d) × R ts v h

-- A fault of syntax: what stands before the place is open within the nesting. With the next token (or, at the end, as
-- it stands) it begins no list of the grammar, however deep.
pub record SyntaxAt {T K A : Type 0} (kind : T → K) (R : List T → A → ℕ → Type 0) (d : ℕ) (ts left : List T) : Type 0 where
  pub front : List T
  pub whole : ts ≡ front ++ left
  pub opens : Opens R d front
  pub closed : (other : List T) (v : A) (h : ℕ) → SameHead kind left other → R (front ++ other) v h → ⊥

-- Too deep: what stands before the place is open within the nesting. With the next token it begins lists of the
-- grammar, but none within the nesting.
pub record DeepAt {T K A : Type 0} (kind : T → K) (R : List T → A → ℕ → Type 0) (d : ℕ) (ts left : List T) : Type 0 where
  pub front : List T
  pub next : T
  pub after : List T
  pub is : left ≡ next ∷ after
  pub whole : ts ≡ front ++ left
  pub opens : Opens R d front
  pub most : ℕ
  pub deeper : Opens R most (front ++ next ∷ [])
  pub shut : (other : List T) (v : A) (h : ℕ) → SameHead kind left other → R (front ++ other) v h → d < h

-- What an answer to the tokens says: they are the tree, or a refusal stands at its place, the earlier of the two.
abbrev pub Answers : {T K A : Type 0} → (T → K) → (List T → A → ℕ → Type 0) → ℕ → List T → Reading T A → Type 0
Answers kind R d ts (Read x) = (x.2 ≡ []) × (x.1 ≤ d) × R ts x.0 x.1
Answers kind R d ts (Fault left) = SyntaxAt kind R d ts left
Answers kind R d ts (Deep left) = DeepAt kind R d ts left
