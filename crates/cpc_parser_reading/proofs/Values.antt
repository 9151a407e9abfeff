-- Exact readers of a part that is seen as another value, gets a node round it, or is told in other words.
use Rattle.std.proofs.Common.{◌≡◌, ℕ, zero, suc, ◌+◌, ◌≤◌, ◌<◌, Bool, true, false, List, [], ◌++◌, refl, sym, subst, ◌∙◌, arith}
use Rattle.std.proofs.lemmas.List.{append-nil}
use Rattle.cpc_parser_reading.specs.Reading.{Read, Reader, mapped, made, below, only, allowed}
use Rattle.cpc_parser_reading.specs.Phrase.{Mapped, Made, Only}
use Rattle.cpc_parser_reading.specs.Exact.{Stops, Opens, Took, Good, Keeps, ExactAt, Exact}
use Rattle.cpc_parser_reading.proofs.Heads.{stops_as}
use Rattle.cpc_parser_reading.proofs.Behind.{behind, along}
use Rattle.cpc_parser_reading.proofs.Keeps.{keeps_on}
use Rattle.cpc_parser_reading.proofs.Sequence.{taken_again}

-- A part, seen as another value. What may stand behind it is told where the old value is read.
module _ {T K A B : Type 0} (kind : T → K) (make : A → B) (d : ℕ) (F : Reader T A) (R : List T → A → ℕ → Type 0) (Q : A → K → Type 0) (x : ExactAt kind d F R Q)
    (P : B → K → Type 0) (to : (f : List T) (w : A) (h : ℕ) → R f w h → (k : K) → Q w k → P (make w) k) (of : (f : List T) (w : A) (h : ℕ) → R f w h → (k : K) → P (make w) k → Q w k) where
  seen_opens : (m : ℕ) (front : List T) → Opens R m front → Opens (Mapped make R) m front
  seen_opens m front o = record { rest = o.rest; value = make o.value; nest = o.nest; reads = (o.value, refl, o.reads); fits = o.fits }

  seen_complete : (f : List T) (v : B) (h : ℕ) (rest : List T) → Mapped make R f v h → h ≤ d → Stops kind (P v) rest → mapped make F (f ++ rest) ≡ Read (v, h, rest)
  seen_complete f v h rest (w, e, r) fits s =
      let here : F (f ++ rest) ≡ Read (w, h, rest) = x.complete f w h rest r fits (stops_as kind (P (make w)) (Q w) (of f w h r) rest (subst (λ u. Stops kind (P u) rest) e s)) in
      rw (here, e) refl

  seen_at : ExactAt kind d (mapped make F) (Mapped make R) P
  seen_at = record {
    sample = seen_opens d [] x.sample;
    good = λ ts. behind kind (mapped make F) (Mapped make R) P d F R Q d (λ z. Read (make z.0, z.1, z.2)) [] ts (λ other s. refl) (λ g l e o. seen_opens d g o) (λ m g l e o. (m, seen_opens m g o))
        (λ z t. record { front = t.front; whole = t.whole; reads = (z.0, refl, t.reads); fits = t.fits; stops = stops_as kind (Q z.0) (P (make z.0)) (to t.front z.0 z.1 t.reads) z.2 t.stops })
        (F ts) (x.good ts);
    complete = seen_complete;
  }

-- Behind what is read the new value may be followed by what the old one may.
pub exact_seen : {T K A B : Type 0} {kind : T → K} {n low : ℕ} {F : ℕ → Reader T A} {R : List T → A → ℕ → Type 0} {Q : A → K → Type 0}
    (make : A → B) (P : B → K → Type 0) → Exact kind n low F R Q → ((f : List T) (w : A) (h : ℕ) → R f w h → (k : K) → Q w k → P (make w) k)
    → ((f : List T) (w : A) (h : ℕ) → R f w h → (k : K) → P (make w) k → Q w k) → Exact kind n low (λ d. mapped make (F d)) (Mapped make R) P
exact_seen {kind = kind} {F = F} {R = R} {Q = Q} make P x to of = record {
  sample = let o = x.sample in record { rest = o.rest; value = make o.value; nest = o.nest; reads = (o.value, refl, o.reads); fits = o.fits };
  least = λ f v h r. x.least f r.0 h r.2;
  at = λ d a b. seen_at kind make d (F d) R Q (x.at d a b) P to of;
  keeps = λ d e a b l ts. keeps_on (F d ts) (F e ts) _ (x.keeps d e a b l ts);
}

-- The new value may be followed by what the old one may.
pub exact_mapped : {T K A B : Type 0} {kind : T → K} {n low : ℕ} {F : ℕ → Reader T A} {R : List T → A → ℕ → Type 0} {Q : A → K → Type 0}
    (make : A → B) (P : B → K → Type 0) → Exact kind n low F R Q → ((w : A) (k : K) → Q w k → P (make w) k) → ((w : A) (k : K) → P (make w) k → Q w k)
    → Exact kind n low (λ d. mapped make (F d)) (Mapped make R) P
exact_mapped make P x to of = exact_seen make P x (λ f w h r. to w) (λ f w h r. of w)

-- A node round a part.
module _ {T K A B : Type 0} (kind : T → K) (make : A → B) (d : ℕ) (F : Reader T A) (R : List T → A → ℕ → Type 0) (Q : A → K → Type 0) (x : ExactAt kind d F R Q)
    (P : B → K → Type 0) (to : (w : A) (k : K) → Q w k → P (make w) k) (of : (w : A) (k : K) → P (make w) k → Q w k) where
  made_opens : (m : ℕ) (front : List T) → Opens R m front → Opens (Made make R) (suc m) front
  made_opens m front o = record { rest = o.rest; value = make o.value; nest = o.nest + 1; reads = (o.value, o.nest, refl, refl, o.reads); fits = omega (arith, o.fits) }

  made_complete : (f : List T) (v : B) (h : ℕ) (rest : List T) → Made make R f v h → h ≤ suc d → Stops kind (P v) rest → made make F (f ++ rest) ≡ Read (v, h, rest)
  made_complete f v h rest (w, i, e, n, r) fits s =
      let here : F (f ++ rest) ≡ Read (w, i, rest) = x.complete f w i rest r (omega (arith, n, fits)) (stops_as kind (P (make w)) (Q w) (of w) rest (subst (λ u. Stops kind (P u) rest) e s)) in
      rw (here, e, n) refl

  made_at : ExactAt kind (suc d) (made make F) (Made make R) P
  made_at = record {
    sample = made_opens d [] x.sample;
    good = λ ts. behind kind (made make F) (Made make R) P (suc d) F R Q d (λ z. Read (make z.0, z.1 + 1, z.2)) [] ts (λ other s. refl) (λ g l e o. made_opens d g o) (λ m g l e o. (suc m, made_opens m g o))
        (λ z t. record { front = t.front; whole = t.whole; reads = (z.0, z.1, refl, refl, t.reads); fits = omega (arith, t.fits); stops = stops_as kind (Q z.0) (P (make z.0)) (to z.0) z.2 t.stops })
        (F ts) (x.good ts);
    complete = made_complete;
  }

module _ {T K A B : Type 0} {kind : T → K} {n low : ℕ} {F : ℕ → Reader T A} {R : List T → A → ℕ → Type 0} {Q : A → K → Type 0}
    (make : A → B) (P : B → K → Type 0) (x : Exact kind n low F R Q) (to : (w : A) (k : K) → Q w k → P (make w) k) (of : (w : A) (k : K) → P (make w) k → Q w k) where
  made_from : (d : ℕ) → suc low ≤ d → d ≤ suc n → ExactAt kind d (made make (F (below d))) (Made make R) P
  made_from zero a b = absurd (omega arith)
  made_from (suc d) a b = made_at kind make d (F d) R Q (x.at d (omega arith) (omega arith)) P to of

  made_keeps : (d e : ℕ) → suc low ≤ d → d ≤ e → e ≤ suc n → (ts : List T) → Keeps (made make (F (below d)) ts) (made make (F (below e)) ts)
  made_keeps zero e a b l ts = absurd (omega arith)
  made_keeps (suc d) zero a b l ts = absurd (omega arith)
  made_keeps (suc d) (suc e) a b l ts = keeps_on (F d ts) (F e ts) _ (x.keeps d e (omega arith) (omega arith) (omega arith) ts)

  -- With one more room, and a nesting of one more.
  pub exact_made : Exact kind (suc n) (suc low) (λ d. made make (F (below d))) (Made make R) P
  exact_made = record {
    sample = let o = x.sample in record { rest = o.rest; value = make o.value; nest = o.nest + 1; reads = (o.value, o.nest, refl, refl, o.reads); fits = omega (arith, o.fits) };
    least = λ f v h r. omega (arith, x.least f r.0 r.1 r.4, r.3);
    at = made_from;
    keeps = made_keeps;
  }

-- A part of which only some values stand alone. What is another value can be made one of them by what comes behind it.
module _ {T K A : Type 0} (kind : T → K) (ok : A → Bool) (d : ℕ) (F : Reader T A) (R : List T → A → ℕ → Type 0) (Q : A → K → Type 0) (x : ExactAt kind d F R Q)
    (sample : Opens (Only ok R) d []) (opens : (m : ℕ) (front : List T) → Opens R m front → (k : ℕ) × Opens (Only ok R) k front)
    (within : (front : List T) → Opens R d front → Opens (Only ok R) d front) where
  refused : (ts : List T) (z : A × ℕ × List T) → Took kind R Q d ts z → (b : Bool) → ok z.0 ≡ b → Good kind (only ok F) (Only ok R) Q d ts (allowed b z)
  refused ts z t true e = record { front = t.front; whole = t.whole; reads = (e, t.reads); fits = t.fits; stops = t.stops }
  refused ts z t false e = record {
    front = t.front;
    whole = t.whole;
    opens = within t.front (record { rest = []; value = z.0; nest = z.1; reads = rw append-nil t.reads; fits = t.fits });
    local = λ other s. rw (taken_again x t other s, e) refl;
  }

  only_at : ExactAt kind d (only ok F) (Only ok R) Q
  only_at = record {
    sample = sample;
    good = λ ts. behind kind (only ok F) (Only ok R) Q d F R Q d (λ z. allowed (ok z.0) z) [] ts (λ other s. refl) (λ g l e o. within g o) (λ m g l e o. opens m g o) (λ z t. refused ts z t (ok z.0) refl) (F ts) (x.good ts);
    complete = λ f v h rest r fits s. rw (x.complete f v h rest r.1 fits s, r.0) refl;
  }

-- What is begun within a room can be made a permitted value within it.
pub exact_only : {T K A : Type 0} {kind : T → K} {n low : ℕ} {F : ℕ → Reader T A} {R : List T → A → ℕ → Type 0} {Q : A → K → Type 0}
    (ok : A → Bool) → Exact kind n low F R Q → Opens (Only ok R) low [] → ((d : ℕ) (front : List T) → low ≤ d → Opens R d front → Opens (Only ok R) d front)
    → Exact kind n low (λ d. only ok (F d)) (Only ok R) Q
exact_only {T = T} {A = A} {kind = kind} {low = low} {F = F} {R = R} {Q = Q} ok x sample opens = record {
  sample = sample;
  least = λ f v h r. x.least f v h r.1;
  at = λ d a b. only_at kind ok d (F d) R Q (x.at d a b) (let o = sample in record { rest = o.rest; value = o.value; nest = o.nest; reads = o.reads; fits = omega (arith, o.fits) })
      (λ m front o. (m, opens m front (omega (arith, o.fits, x.least (front ++ o.rest) o.value o.nest o.reads)) o)) (λ front o. opens d front a o);
  keeps = λ d e a b l ts. keeps_on (F d ts) (F e ts) (λ z. allowed (ok z.0) z) (x.keeps d e a b l ts);
}

-- The same reader and the same lists in other words.
module _ {T K A : Type 0} (kind : T → K) (d : ℕ) (F F' : Reader T A) (R R' : List T → A → ℕ → Type 0) (Q : A → K → Type 0)
    (same : (ts : List T) → F ts ≡ F' ts) (to : (f : List T) (v : A) (h : ℕ) → R f v h → R' f v h) (of : (f : List T) (v : A) (h : ℕ) → R' f v h → R f v h) (x : ExactAt kind d F R Q) where
  as_opens : (m : ℕ) (front : List T) → Opens R m front → Opens R' m front
  as_opens m front o = record { rest = o.rest; value = o.value; nest = o.nest; reads = to (front ++ o.rest) o.value o.nest o.reads; fits = o.fits }

  -- the other reader is as exact
  pub as_at : ExactAt kind d F' R' Q
  as_at = record {
    sample = as_opens d [] x.sample;
    good = λ ts. subst (λ r. Good kind F' R' Q d ts r) (same ts)
        (along kind F' R' Q d F R Q [] ts (λ other s. sym (same other)) (λ m g o. as_opens m g o)
        (λ z t. record { front = t.front; whole = t.whole; reads = to t.front z.0 z.1 t.reads; fits = t.fits; stops = t.stops }) (F ts) (x.good ts));
    complete = λ f v h rest r fits s. sym (same (f ++ rest)) ∙ x.complete f v h rest (of f v h r) fits s;
  }

-- The readers are the same where there is room, and so are the lists.
pub exact_as : {T K A : Type 0} {kind : T → K} {n low : ℕ} {F F' : ℕ → Reader T A} {R R' : List T → A → ℕ → Type 0} {Q : A → K → Type 0}
    → Exact kind n low F R Q → ((d : ℕ) (ts : List T) → low ≤ d → d ≤ n → F d ts ≡ F' d ts)
    → ((f : List T) (v : A) (h : ℕ) → R f v h → R' f v h) → ((f : List T) (v : A) (h : ℕ) → R' f v h → R f v h) → Exact kind n low F' R' Q
exact_as {kind = kind} {F = F} {F' = F'} {R = R} {R' = R'} {Q = Q} x same to of = record {
  sample = let o = x.sample in record { rest = o.rest; value = o.value; nest = o.nest; reads = to o.rest o.value o.nest o.reads; fits = o.fits };
  least = λ f v h r. x.least f v h (of f v h r);
  at = λ d a b. as_at kind d (F d) (F' d) R R' Q (λ ts. same d ts a b) to of (x.at d a b);
  keeps = λ d e a b l ts. subst (λ r. Keeps r (F' e ts)) (same d ts a (omega arith)) (subst (λ r. Keeps (F d ts) r) (same e ts (omega arith) l) (x.keeps d e a b l ts));
}

-- What may stand behind a value, in other words.
pub exact_stop : {T K A : Type 0} {kind : T → K} {n low : ℕ} {F : ℕ → Reader T A} {R : List T → A → ℕ → Type 0} {Q : A → K → Type 0} (P : A → K → Type 0)
    → Exact kind n low F R Q → ((v : A) (k : K) → Q v k → P v k) → ((v : A) (k : K) → P v k → Q v k) → Exact kind n low F R P
exact_stop {kind = kind} {F = F} {R = R} {Q = Q} P x to of = record {
  sample = x.sample;
  least = x.least;
  at = λ d a b. let y = x.at d a b in record {
    sample = y.sample;
    good = λ ts. along kind (F d) R P d (F d) R Q [] ts (λ other s. refl) (λ m g o. o) (λ z t. record { front = t.front; whole = t.whole; reads = t.reads; fits = t.fits; stops = stops_as kind (Q z.0) (P z.0) (to z.0) z.2 t.stops }) (F d ts) (y.good ts);
    complete = λ f v h rest r fits s. y.complete f v h rest r fits (stops_as kind (P v) (Q v) (of v) rest s);
  };
  keeps = x.keeps;
}

-- With no room at all nothing is asked of the readers.
pub exact_start : {T K A : Type 0} {kind : T → K} {low : ℕ} (F : ℕ → Reader T A) {R : List T → A → ℕ → Type 0} (Q : A → K → Type 0) → 0 < low → Opens R low [] → ((f : List T) (v : A) (h : ℕ) → R f v h → low ≤ h) → Exact kind 0 low F R Q
exact_start F Q pos sample least = record { sample = sample; least = least; at = λ d a b. absurd (omega arith); keeps = λ d e a b l ts. absurd (omega arith) }
