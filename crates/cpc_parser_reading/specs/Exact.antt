-- What it is to read exactly: what is read is in the grammar, all of it, and a refusal stands where the tokens
-- before it begin a text of the grammar, and those with the next one don't.
use Rattle.std.specs.Prelude.{◌≡◌, ℕ, ◌≤◌, Bool, true, false, Option, Some, None, List, [], ◌∷◌, ◌++◌}
use Rattle.cpc_parser_reading.specs.Reading.{Reading, Read, Fault, Deep, Reader}

-- Both are at an end, or begin with tokens of the same kind.
abbrev pub SameHead : {T K : Type 0} → (T → K) → List T → List T → Type 0
SameHead kind [] [] = Unit {0}
SameHead kind [] (u ∷ us) = ⊥
SameHead kind (t ∷ ts) [] = ⊥
SameHead kind (t ∷ ts) (u ∷ us) = kind t ≡ kind u

-- at an end, or before a token of whose kind Q holds
abbrev pub Stops : {T K : Type 0} → (T → K) → (K → Type 0) → List T → Type 0
Stops kind Q [] = Unit {0}
Stops kind Q (t ∷ ts) = Q (kind t)

-- anything may stand behind
abbrev pub Any : {K A : Type 0} → A → K → Type 0
Any v k = Unit {0}

-- what may stand behind a part that can be absent
abbrev pub Absent : {K A : Type 0} → (K → Bool) → (A → K → Type 0) → Option A → K → Type 0
Absent p Q None k = p k ≡ false
Absent p Q (Some v) k = Q v k

-- The front begins a list of R, of nesting up to d.
pub record Opens {T A : Type 0} (R : List T → A → ℕ → Type 0) (d : ℕ) (front : List T) : Type 0 where
  pub rest : List T
  pub value : A
  pub nest : ℕ
  pub reads : R (front ++ rest) value nest
  pub fits : nest ≤ d

-- A front of R was taken, and reading stopped where it may.
pub record Took {T K A : Type 0} (kind : T → K) (R : List T → A → ℕ → Type 0) (Q : A → K → Type 0) (d : ℕ) (ts : List T) (x : A × ℕ × List T) : Type 0 where
  pub front : List T
  pub whole : ts ≡ front ++ x.2
  pub reads : R front x.0 x.1
  pub fits : x.1 ≤ d
  pub stops : Stops kind (Q x.0) x.2

-- The front begins a list of R, and each list with this front and a next token of the same kind is refused there.
pub record Faulty {T K A : Type 0} (kind : T → K) (F : List T → Reading T A) (R : List T → A → ℕ → Type 0) (d : ℕ) (ts left : List T) : Type 0 where
  pub front : List T
  pub whole : ts ≡ front ++ left
  pub opens : Opens R d front
  pub local : (other : List T) → SameHead kind left other → F (front ++ other) ≡ Fault other

-- The front begins a list of R, and with the next token one of more nesting. Each list with both is refused there.
pub record TooDeep {T K A : Type 0} (kind : T → K) (F : List T → Reading T A) (R : List T → A → ℕ → Type 0) (d : ℕ) (ts left : List T) : Type 0 where
  pub front : List T
  pub next : T
  pub after : List T
  pub is : left ≡ next ∷ after
  pub whole : ts ≡ front ++ left
  pub opens : Opens R d front
  pub most : ℕ
  pub deeper : Opens R most (front ++ next ∷ [])
  pub local : (other : List T) → SameHead kind left other → F (front ++ other) ≡ Deep other

-- what an answer says
abbrev pub Good : {T K A : Type 0} → (T → K) → (List T → Reading T A) → (List T → A → ℕ → Type 0) → (A → K → Type 0) → ℕ → List T → Reading T A → Type 0
Good kind F R Q d ts (Read x) = Took kind R Q d ts x
Good kind F R Q d ts (Fault left) = Faulty kind F R d ts left
Good kind F R Q d ts (Deep left) = TooDeep kind F R d ts left

-- With room d the reader reads the lists of R, which may stop where Q says, and refuses the others at their place.
pub record ExactAt {T K A : Type 0} (kind : T → K) (d : ℕ) (F : List T → Reading T A) (R : List T → A → ℕ → Type 0) (Q : A → K → Type 0) : Type 0 where
  pub sample : Opens R d []
  pub good : (ts : List T) → Good kind F R Q d ts (F ts)
  pub complete : (f : List T) (v : A) (h : ℕ) (rest : List T) → R f v h → h ≤ d → Stops kind (Q v) rest → F (f ++ rest) ≡ Read (v, h, rest)

-- With more room a reader answers the same, but for what was too deep.
abbrev pub Keeps : {T A : Type 0} → Reading T A → Reading T A → Type 0
Keeps (Read x) r = r ≡ Read x
Keeps (Fault left) r = r ≡ Fault left
Keeps (Deep left) r = Unit {0}

-- The lists of R have a nesting of low at least, and with each room from low up to n the readers read them exactly.
pub record Exact {T K A : Type 0} (kind : T → K) (n low : ℕ) (F : ℕ → Reader T A) (R : List T → A → ℕ → Type 0) (Q : A → K → Type 0) : Type 0 where
  pub sample : Opens R low []
  pub least : (f : List T) (v : A) (h : ℕ) → R f v h → low ≤ h
  pub at : (d : ℕ) → low ≤ d → d ≤ n → ExactAt kind d (F d) R Q
  pub keeps : (d e : ℕ) → low ≤ d → d ≤ e → e ≤ n → (ts : List T) → Keeps (F d ts) (F e ts)

-- a token of the test
pub record Sample {T K : Type 0} (kind : T → K) (p : K → Bool) : Type 0 where
  pub token : T
  pub holds : p (kind token) ≡ true

-- The lists of R begin with tokens of whose kinds P holds, and each such token begins one.
pub record Starts {T K A : Type 0} (kind : T → K) (P : K → Type 0) (R : List T → A → ℕ → Type 0) : Type 0 where
  pub head : (f : List T) (v : A) (h : ℕ) → R f v h → (t : T) × (g : List T) × (f ≡ t ∷ g) × P (kind t)
  pub each : (t : T) → P (kind t) → (m : ℕ) × Opens R m (t ∷ [])

-- exact on lists that begin with a token of whose kind P holds
pub record ExactOn {T K A : Type 0} (kind : T → K) (P : K → Type 0) (d : ℕ) (F : List T → Reading T A) (R : List T → A → ℕ → Type 0) (Q : A → K → Type 0) : Type 0 where
  pub good : (t : T) (rest : List T) → P (kind t) → Good kind F R Q d (t ∷ rest) (F (t ∷ rest))
  pub complete : (t : T) (g : List T) (v : A) (h : ℕ) (rest : List T) → P (kind t) → R (t ∷ g) v h → h ≤ d → Stops kind (Q v) rest → F (t ∷ g ++ rest) ≡ Read (v, h, rest)

-- A choice's branch: its lists begin with tokens of whose kinds P holds, and such lists are read exactly.
pub record Branch {T K A : Type 0} (kind : T → K) (P : K → Type 0) (n low : ℕ) (F : ℕ → Reader T A) (R : List T → A → ℕ → Type 0) (Q : A → K → Type 0) : Type 0 where
  pub starts : Starts kind P R
  pub least : (f : List T) (v : A) (h : ℕ) → R f v h → low ≤ h
  pub on : (d : ℕ) → low ≤ d → d ≤ n → ExactOn kind P d (F d) R Q
  pub keeps : (d e : ℕ) → low ≤ d → d ≤ e → e ≤ n → (t : T) (rest : List T) → P (kind t) → Keeps (F d (t ∷ rest)) (F e (t ∷ rest))
