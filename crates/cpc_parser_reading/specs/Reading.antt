-- What a reader answers to a list of tokens, and how readers are put together.
use Rattle.std.specs.Prelude.{ℕ, zero, suc, ◌+◌, Bool, true, false, List, [], ◌∷◌, Option, Some, None, max, nat_lt, if◌then◌else◌}

-- A value, its nesting and the tokens behind it, or a refusal with the tokens from its place on.
pub data Reading (T A : Type 0) : Type 0 where
  Read : A × ℕ × List T → Reading T A
  Fault : List T → Reading T A
  Deep : List T → Reading T A

-- A reader looks at the tokens from its place on.
abbrev pub Reader : Type 0 → Type 0 → Type 0
Reader T A = List T → Reading T A

infixl 10 ◌>>=◌
-- Reading goes on behind what was read.
abbrev pub ◌>>=◌ : {T A B : Type 0} → Reading T A → (A × ℕ × List T → Reading T B) → Reading T B
(Read x) >>= f = f x
(Fault left) >>= f = Fault left
(Deep left) >>= f = Deep left

-- the room that is left inside
abbrev pub below : ℕ → ℕ
below zero = zero
below (suc n) = n

-- nothing, which is always there
abbrev pub nothing : {T : Type 0} → Reader T (Unit {0})
nothing ts = Read (tt, 0, ts)

-- the value of the token, if it has one
abbrev pub picked : {T A : Type 0} → Option A → T → List T → Reading T A
picked None t rest = Fault (t ∷ rest)
picked (Some v) t rest = Read (v, 0, rest)

-- one token that has a value
abbrev pub one : {T A : Type 0} → (T → Option A) → Reader T A
one pick [] = Fault []
one pick (t ∷ rest) = picked (pick t) t rest

-- one token of the test
abbrev pub expect : {T : Type 0} → (T → Bool) → Reader T (Unit {0})
expect p [] = Fault []
expect p (t ∷ rest) = if p t then Read (tt, 0, rest) else Fault (t ∷ rest)

-- a part, and a token of the test behind it
abbrev pub before : {T A : Type 0} → Reader T A → (T → Bool) → Reader T A
before F p ts = F ts >>= λ x. expect p x.2 >>= λ y. Read (x.0, x.1, y.2)

-- a token of the test, and a part behind it
abbrev pub after : {T A : Type 0} → (T → Bool) → Reader T A → Reader T A
after p F ts = expect p ts >>= λ x. F x.2

-- a part, and a part behind it that depends on what the first was
abbrev pub bind : {T A B : Type 0} → Reader T A → (A → Reader T B) → Reader T (A × B)
bind F G ts = F ts >>= λ x. G x.0 x.2 >>= λ y. Read ((x.0, y.0), max x.1 y.1, y.2)

-- two parts
abbrev pub pair : {T A B : Type 0} → Reader T A → Reader T B → Reader T (A × B)
pair F G = bind F (λ v. G)

-- a part, seen as another value
abbrev pub mapped : {T A B : Type 0} → (A → B) → Reader T A → Reader T B
mapped make F ts = F ts >>= λ x. Read (make x.0, x.1, x.2)

-- a node round a part
abbrev pub made : {T A B : Type 0} → (A → B) → Reader T A → Reader T B
made make F ts = F ts >>= λ x. Read (make x.0, x.1 + 1, x.2)

-- the value if it is permitted
abbrev pub allowed : {T A : Type 0} → Bool → A × ℕ × List T → Reading T A
allowed true x = Read x
allowed false x = Fault x.2

-- a part whose value is of the test; another one wants something behind it
abbrev pub only : {T A : Type 0} → (A → Bool) → Reader T A → Reader T A
only ok F ts = F ts >>= λ x. allowed (ok x.0) x

-- what is read from the first token and those behind it
abbrev pub headed : {T A : Type 0} → (T → Reader T A) → Reader T A
headed F [] = Fault []
headed F (t ∷ rest) = F t rest

-- the first part where its token stands, if there is room for it, and else the second
abbrev pub either : {T A : Type 0} → (T → Bool) → ℕ → ℕ → Reader T A → Reader T A → Reader T A
either p low d F G [] = G []
either p low d F G (t ∷ rest) = if p t then (if nat_lt d low then Deep (t ∷ rest) else F (t ∷ rest)) else G (t ∷ rest)

-- a part where its token stands, if there is room for it, or none
abbrev pub optional : {T A : Type 0} → (T → Bool) → ℕ → ℕ → Reader T A → Reader T (Option A)
optional p low d F = either p low d (mapped (λ v. Some v) F) (λ ts. Read (None, 0, ts))

-- the part of the class, if there is room
abbrev pub by_class : {T C A : Type 0} → (C → ℕ) → ℕ → (C → Reader T A) → T → List T → Option C → Reading T A
by_class low d F t rest None = Fault (t ∷ rest)
by_class low d F t rest (Some c) = if nat_lt d (low c) then Deep (t ∷ rest) else F c (t ∷ rest)

-- one of many parts, by the class of the first token, if there is room for it
abbrev pub one_of : {T C A : Type 0} → (T → Option C) → (C → ℕ) → ℕ → (C → Reader T A) → Reader T A
one_of class low d F [] = Fault []
one_of class low d F (t ∷ rest) = by_class low d F t rest (class t)

-- the part that the second token chooses
abbrev pub by_second : {T A : Type 0} → (T → T → Bool) → Reader T A → Reader T A → T → List T → Reading T A
by_second p F G t [] = G (t ∷ [])
by_second p F G t (u ∷ rest) = if p t u then F (t ∷ u ∷ rest) else G (t ∷ u ∷ rest)

-- One of two parts that begin with a token of the test, if there is room for them. The next token tells them apart.
abbrev pub either_two : {T A : Type 0} → (T → Bool) → (T → T → Bool) → ℕ → ℕ → Reader T A → Reader T A → Reader T A
either_two p q low d F G [] = G []
either_two p q low d F G (t ∷ rest) = if p t then (if nat_lt d low then Deep (t ∷ rest) else by_second q F G t rest) else G (t ∷ rest)
