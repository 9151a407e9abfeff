-- Any number of parts, and parts with separators between them.
use Rattle.std.specs.Prelude.{◌≡◌, ℕ, Bool, true, false, List, [], ◌∷◌, ◌++◌, Option, Some, None, max, nat_lt, if◌then◌else◌}
use Rattle.cpc_parser_reading.specs.Reading.{Read, Reader, after, mapped}
use Rattle.cpc_parser_reading.specs.Chain.{Linking, chain}

-- the class where the test holds
abbrev pub if_so : Bool → Option (Unit {0})
if_so b = if b then Some tt else None

-- A value goes on with a part where its token stands.
abbrev pub several : {T A : Type 0} → (T → Bool) → Bool → Reader T A → Linking T (Unit {0}) (List A) A
several p full F = record { class = λ vs t. if_so (p t); full = λ c h. full; part = λ c. F; make = λ c vs v. vs ++ v ∷ []; nest = λ c h j. max h j }

-- as many parts as begin here; there is room for one, or none may begin
abbrev pub many : {T A : Type 0} → (T → Bool) → ℕ → ℕ → Reader T A → Reader T (List A)
many p low d F = chain (λ ts. Read ([], 0, ts)) (several p (nat_lt d low) F)

-- one part, and further ones behind separators
abbrev pub separated : {T A : Type 0} → (T → Bool) → Reader T A → Reader T (List A)
separated p F = chain (mapped (λ v. v ∷ []) F) (several p false (after p F))

-- any number of parts
pub data Many {T A : Type 0} (R : List T → A → ℕ → Type 0) : List T → List A → ℕ → Type 0 where
  no_more : Many R [] [] 0
  one_more : (f g : List T) (v : A) (vs : List A) (i j : ℕ) → R f v i → Many R g vs j → Many R (f ++ g) (v ∷ vs) (max i j)

-- parts with separators between them
pub data Separated {T A : Type 0} (p : T → Bool) (R : List T → A → ℕ → Type 0) : List T → List A → ℕ → Type 0 where
  alone : (f : List T) (v : A) (i : ℕ) → R f v i → Separated p R f (v ∷ []) i
  and_more : (f g : List T) (t : T) (v : A) (vs : List A) (i j : ℕ) → R f v i → p t ≡ true → Separated p R g vs j → Separated p R (f ++ t ∷ g) (v ∷ vs) (max i j)

-- what may stand behind the last of several values
abbrev pub Last : {K A : Type 0} → (A → K → Type 0) → List A → K → Type 0
Last Q [] k = Unit {0}
Last Q (v ∷ []) k = Q v k
Last Q (v ∷ (w ∷ vs)) k = Last Q (w ∷ vs) k
