-- A part behind which no token of a test stands is read exactly, and what may stand behind what is read.
use Rattle.std.proofs.Common.{◌≡◌, ℕ, ◌≤◌, Bool, true, false, List, [], ◌∷◌, ◌++◌, refl, subst, cond}
use Rattle.std.proofs.lemmas.List.{append-nil}
use Rattle.cpc_parser_reading.specs.Reading.{Read, Fault, Reader}
use Rattle.cpc_parser_reading.specs.Exact.{SameHead, Stops, Took, Good, ExactAt, Exact}
use Rattle.cpc_parser_reading.proofs.Heads.{stops_as}
use Rattle.cpc_parser_reading.proofs.Behind.{behind, along}
use Rattle.cpc_parser_reading.proofs.Keeps.{keeps_on}
use Rattle.cpc_parser_reading.proofs.Sequence.{taken_again}
use Rattle.cpc_parser_expressions.specs.ExprReaders.{ended, ending}

module _ {T K A : Type 0} (kind : T → K) (p : K → Bool) (d : ℕ) (F : Reader T A) (R : List T → A → ℕ → Type 0) (Q : A → K → Type 0) (x : ExactAt kind d F R Q) where
  abbrev test : T → Bool
  test t = p (kind t)

  abbrev follow : A → K → Type 0
  follow v k = Q v k × (p k ≡ false)

  refuses : (v : A) (h : ℕ) (t : T) (rest other : List T) → p (kind t) ≡ true → SameHead kind (t ∷ rest) other → ended test (v, h, other) ≡ Fault other
  refuses v h t rest [] e s = absurd s
  refuses v h t rest (u ∷ us) e s = let e' : p (kind u) ≡ true = subst (λ k. p k ≡ true) s e in rw e' refl

  ended_by : (ts : List T) (v : A) (h : ℕ) (t : T) (rest : List T) → Took kind R Q d ts (v, h, t ∷ rest) → (b : Bool) → p (kind t) ≡ b
      → Good kind (ending test F) R follow d ts (cond b (Fault (t ∷ rest)) (Read (v, h, t ∷ rest)))
  ended_by ts v h t rest k false e = record { front = k.front; whole = k.whole; reads = k.reads; fits = k.fits; stops = (k.stops, e) }
  ended_by ts v h t rest k true e = record {
    front = k.front;
    whole = k.whole;
    opens = record { rest = []; value = v; nest = h; reads = rw append-nil k.reads; fits = k.fits };
    local = λ other s. rw (taken_again x k other s) (refuses v h t rest other e s);
  }

  ended_good : (ts : List T) (v : A) (h : ℕ) (left : List T) → Took kind R Q d ts (v, h, left) → Good kind (ending test F) R follow d ts (ended test (v, h, left))
  ended_good ts v h [] k = record { front = k.front; whole = k.whole; reads = k.reads; fits = k.fits; stops = tt }
  ended_good ts v h (t ∷ rest) k = ended_by ts v h t rest k (p (kind t)) refl

  goes_past : (v : A) (h : ℕ) (rest : List T) → Stops kind (follow v) rest → ended test (v, h, rest) ≡ Read (v, h, rest)
  goes_past v h [] s = refl
  goes_past v h (t ∷ rest) s = rw s.1 refl

  ending_complete : (f : List T) (v : A) (h : ℕ) (rest : List T) → R f v h → h ≤ d → Stops kind (follow v) rest → ending test F (f ++ rest) ≡ Read (v, h, rest)
  ending_complete f v h rest r fits s = rw (x.complete f v h rest r fits (stops_as kind (follow v) (Q v) (λ k q. q.0) rest s)) (goes_past v h rest s)

  ending_at : ExactAt kind d (ending test F) R follow
  ending_at = record {
    sample = x.sample;
    good = λ ts. behind kind (ending test F) R follow d F R Q d (ended test) [] ts (λ other s. refl) (λ g l e o. o) (λ m g l e o. (m, o)) (λ z k. ended_good ts z.0 z.1 z.2 k) (F ts) (x.good ts);
    complete = ending_complete;
  }

-- What stood behind the part may stand there, but for the tokens of the test.
pub exact_ending : {T K A : Type 0} {kind : T → K} {n low : ℕ} {F : ℕ → Reader T A} {R : List T → A → ℕ → Type 0} {Q : A → K → Type 0} (p : K → Bool)
    → Exact kind n low F R Q → Exact kind n low (λ d. ending (λ t. p (kind t)) (F d)) R (λ v k. Q v k × (p k ≡ false))
exact_ending {kind = kind} {F = F} {R = R} {Q = Q} p x = record {
  sample = x.sample;
  least = x.least;
  at = λ d a b. ending_at kind p d (F d) R Q (x.at d a b);
  keeps = λ d e a b l ts. keeps_on (F d ts) (F e ts) (ended (λ t. p (kind t))) (x.keeps d e a b l ts);
}

-- What may stand behind what is read, in other words.
pub exact_stop_on : {T K A : Type 0} {kind : T → K} {n low : ℕ} {F : ℕ → Reader T A} {R : List T → A → ℕ → Type 0} {Q : A → K → Type 0} (P : A → K → Type 0) → Exact kind n low F R Q
    → ((f : List T) (v : A) (h : ℕ) → R f v h → (k : K) → Q v k → P v k) → ((f : List T) (v : A) (h : ℕ) → R f v h → (k : K) → P v k → Q v k) → Exact kind n low F R P
exact_stop_on {kind = kind} {F = F} {R = R} {Q = Q} P x to of = record {
  sample = x.sample;
  least = x.least;
  at = λ d a b. let y = x.at d a b in record {
    sample = y.sample;
    good = λ ts. along kind (F d) R P d (F d) R Q [] ts (λ other s. refl) (λ m g o. o)
        (λ z t. record { front = t.front; whole = t.whole; reads = t.reads; fits = t.fits; stops = stops_as kind (Q z.0) (P z.0) (to t.front z.0 z.1 t.reads) z.2 t.stops }) (F d ts) (y.good ts);
    complete = λ f v h rest r fits s. y.complete f v h rest r fits (stops_as kind (P v) (Q v) (of f v h r) rest s);
  };
  keeps = x.keeps;
}
