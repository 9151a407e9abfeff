-- An exact reader answers for all of the tokens.
use Rattle.std.proofs.Common.{◌≡◌, ℕ, ◌+◌, ◌≤◌, ◌<◌, List, [], ◌∷◌, ◌++◌, refl, sym, ap, subst, ◌∙◌, arith, inl, inr}
use Rattle.std.proofs.lemmas.List.{append-nil}
use Rattle.std.proofs.lemmas.Bool.{cases_lt}
use Rattle.cpc_parser_reading.specs.Reading.{Reading, Read, Fault, Deep, Reader}
use Rattle.cpc_parser_reading.specs.Exact.{SameHead, Took, Good, Exact}
use Rattle.cpc_parser_reading.specs.Answers.{whole, Answers}
use Rattle.cpc_parser_reading.proofs.Two.{no_fault, no_deep}

-- what was read
abbrev done : {T A : Type 0} → A × ℕ × List T → Reading T A
done x = Read x

rest_is : {T A : Type 0} (r : Reading T A) (x y : A × ℕ × List T) → r ≡ Read x → r ≡ Read y → x ≡ y
rest_is r x y a b = let e : done x ≡ done y = sym a ∙ b in cc

no_rest : {T : Type 0} (t : T) (ts : List T) → t ∷ ts ≡ [] → ⊥
no_rest t ts e = cc

module _ {T K A : Type 0} (kind : T → K) (low : ℕ) (F : ℕ → Reader T A) (R : List T → A → ℕ → Type 0) (Q : A → K → Type 0) (x : (n : ℕ) → Exact kind n low F R Q) (d : ℕ) (le : low ≤ d) where
  reads_all : (e : ℕ) (f : List T) (v : A) (h : ℕ) → low ≤ e → R f v h → h ≤ e → F e f ≡ Read (v, h, [])
  reads_all e f v h a r l = let k = ((x e).at e a (omega arith)).complete f v h [] r l tt in rw append-nil at k

  fault_stays : (e : ℕ) (ts left : List T) → F d ts ≡ Fault left → d ≤ e → F e ts ≡ Fault left
  fault_stays e ts left i l = let k = (x e).keeps d e le l (omega arith) ts in rw i at k

  -- with more room it stays a fault
  closes : (front left : List T) → ((other : List T) → SameHead kind left other → F d (front ++ other) ≡ Fault other)
      → (other : List T) (v : A) (h : ℕ) → SameHead kind left other → R (front ++ other) v h → ⊥
  closes front left local other v h s r =
      no_fault (F (d + h) (front ++ other)) (v, h, []) other (reads_all (d + h) (front ++ other) v h (omega arith) r (omega arith)) (fault_stays (d + h) (front ++ other) other (local other s) (omega arith))

  shuts : (front left : List T) → ((other : List T) → SameHead kind left other → F d (front ++ other) ≡ Deep other)
      → (other : List T) (v : A) (h : ℕ) → SameHead kind left other → R (front ++ other) v h → d < h
  shuts front left local other v h s r =
      elim (cases_lt d h) [
        | inl lt ↦ lt
        | inr l ↦ absurd (no_deep (F d (front ++ other)) (v, h, []) other (reads_all d (front ++ other) v h le r l) (local other s))
      ]

  -- a list of the grammar and more behind it is none
  over : (front : List T) (v : A) (h : ℕ) (t : T) (rest : List T) → R front v h → Q v (kind t)
      → (other : List T) (w : A) (i : ℕ) → SameHead kind (t ∷ rest) other → R (front ++ other) w i → ⊥
  over front v h t rest r q [] w i s r' = absurd s
  over front v h t rest r q (u ∷ us) w i s r' =
      let e = d + h + i in
      let one = ((x e).at e (omega arith) (omega arith)).complete front v h (u ∷ us) r (omega arith) (subst (Q v) s q) in
      let two = reads_all e (front ++ u ∷ us) w i (omega arith) r' (omega arith) in
      no_rest u us (ap (λ z. z.2) (rest_is (F e (front ++ u ∷ us)) (v, h, u ∷ us) (w, i, []) one two))

  read_answers : (ts : List T) (v : A) (h : ℕ) (rest : List T) → Took kind R Q d ts (v, h, rest) → Answers kind R d ts (whole (Read (v, h, rest)))
  read_answers ts v h [] t = (refl, t.fits, rw (t.whole, append-nil) t.reads)
  read_answers ts v h (u ∷ us) t = record {
    front = t.front;
    whole = t.whole;
    opens = record { rest = []; value = v; nest = h; reads = rw append-nil t.reads; fits = t.fits };
    closed = over t.front v h u us t.reads t.stops;
  }

  all_answers : (ts : List T) (r : Reading T A) → Good kind (F d) R Q d ts r → Answers kind R d ts (whole r)
  all_answers ts (Read z) g = read_answers ts z.0 z.1 z.2 g
  all_answers ts (Fault left) g = record { front = g.front; whole = g.whole; opens = g.opens; closed = closes g.front left g.local }
  all_answers ts (Deep left) g = record { front = g.front; next = g.next; after = g.after; is = g.is; whole = g.whole; opens = g.opens; most = g.most; deeper = g.deeper; shut = shuts g.front left g.local }

-- What is read is in the grammar within the nesting, and each refusal stands at its place.
pub answers : {T K A : Type 0} {kind : T → K} {low : ℕ} {F : ℕ → Reader T A} {R : List T → A → ℕ → Type 0} {Q : A → K → Type 0}
    → ((n : ℕ) → Exact kind n low F R Q) → (d : ℕ) → low ≤ d → (ts : List T) → Answers kind R d ts (whole (F d ts))
answers {kind = kind} {low = low} {F = F} {R = R} {Q = Q} x d le ts = all_answers kind low F R Q x d le ts (F d ts) (((x d).at d le (omega arith)).good ts)

-- What is in the grammar within the nesting is read.
pub complete : {T K A : Type 0} {kind : T → K} {low : ℕ} {F : ℕ → Reader T A} {R : List T → A → ℕ → Type 0} {Q : A → K → Type 0}
    → ((n : ℕ) → Exact kind n low F R Q) → (d : ℕ) (ts : List T) (v : A) (h : ℕ) → R ts v h → h ≤ d → whole (F d ts) ≡ Read (v, h, [])
complete {kind = kind} {low = low} {F = F} {R = R} {Q = Q} x d ts v h r l =
    let a = (x d).least ts v h r in
    rw (reads_all kind low F R Q x d (omega arith) d ts v h (omega arith) r l) refl
