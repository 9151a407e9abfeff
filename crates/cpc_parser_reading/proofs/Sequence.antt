-- Exact readers of parts one behind another, and of a part seen as another value.
use Rattle.std.proofs.Common.{◌≡◌, ℕ, ◌≤◌, Bool, true, List, [], ◌∷◌, ◌++◌, max, refl, sym, ap, subst, ◌∙◌, append_assoc, arith}
use Rattle.cpc_parser_reading.specs.Reading.{Read, Reader, ◌>>=◌, expect, before, after, bind, pair}
use Rattle.cpc_parser_reading.specs.Phrase.{Expect, Before, After, Bound, Both}
use Rattle.cpc_parser_reading.specs.Exact.{SameHead, Stops, Any, Opens, Took, Good, ExactAt, Exact, Sample}
use Rattle.cpc_parser_reading.proofs.Heads.{stops_same}
use Rattle.cpc_parser_reading.proofs.Behind.{behind, along}
use Rattle.cpc_parser_reading.proofs.Keeps.{keeps_same, keeps_then, keeps_on}
use Rattle.cpc_parser_reading.proofs.Tokens.{any_stops, expect_at}

-- what was taken is read again, whatever comes behind it with the same head
pub taken_again : {T K A : Type 0} {kind : T → K} {d : ℕ} {F : Reader T A} {R : List T → A → ℕ → Type 0} {Q : A → K → Type 0} {ts : List T} {z : A × ℕ × List T}
    → ExactAt kind d F R Q → (t : Took kind R Q d ts z) → (other : List T) → SameHead kind z.2 other → F (t.front ++ other) ≡ Read (z.0, z.1, other)
taken_again {kind = kind} {Q = Q} {z = z} x t other s = x.complete t.front z.0 z.1 other t.reads t.fits (stops_same kind (Q z.0) z.2 other s t.stops)

-- A part, and a token of a test behind it.
module _ {T K A : Type 0} (kind : T → K) (d : ℕ) (F : Reader T A) (R : List T → A → ℕ → Type 0) (Q : A → K → Type 0) (x : ExactAt kind d F R Q) (p : K → Bool) (c : Sample kind p) (q : (v : A) (k : K) → p k ≡ true → Q v k) where
  abbrev test : T → Bool
  test t = p (kind t)

  before_opens : (m : ℕ) (front : List T) → Opens R m front → Opens (Before R test) m front
  before_opens m front o = record {
    rest = o.rest ++ c.token ∷ [];
    value = o.value;
    nest = o.nest;
    reads = (front ++ o.rest, c.token, sym (append_assoc front o.rest (c.token ∷ [])), c.holds, o.reads);
    fits = o.fits;
  }

  before_taken : (ts : List T) (z : A × ℕ × List T) → Took kind R Q d ts z → Good kind (before F test) (Before R test) Any d ts (expect test z.2 >>= λ y. Read (z.0, z.1, y.2))
  before_taken ts z t = subst (λ u. Good kind (before F test) (Before R test) Any d u (expect test z.2 >>= λ y. Read (z.0, z.1, y.2))) (sym t.whole)
      (behind kind (before F test) (Before R test) Any d (expect test) (Expect test) Any d (λ y. Read (z.0, z.1, y.2)) t.front z.2
      (λ other s. rw (taken_again x t other s) refl)
      (λ g l e o. record { rest = o.rest; value = z.0; nest = z.1; fits = t.fits; reads = (t.front, o.reads.0, append_assoc t.front g o.rest ∙ ap (λ u. t.front ++ u) o.reads.1, o.reads.2, t.reads) })
      (λ m g l e o. (d, record { rest = o.rest; value = z.0; nest = z.1; fits = t.fits; reads = (t.front, o.reads.0, append_assoc t.front g o.rest ∙ ap (λ u. t.front ++ u) o.reads.1, o.reads.2, t.reads) }))
      (λ y b. record { front = t.front ++ b.front; whole = ap (λ u. t.front ++ u) b.whole ∙ sym (append_assoc t.front b.front y.2); reads = (t.front, b.reads.0, ap (λ u. t.front ++ u) b.reads.1, b.reads.2, t.reads); fits = t.fits; stops = any_stops kind z.0 y.2 })
      (expect test z.2) ((expect_at kind d p c).good z.2))

  before_complete : (f : List T) (v : A) (h : ℕ) (rest : List T) → Before R test f v h → h ≤ d → Stops kind (Any v) rest → before F test (f ++ rest) ≡ Read (v, h, rest)
  before_complete f v h rest (g, t, e, b, r) fits s =
      let at : f ++ rest ≡ g ++ (t ∷ rest) = ap (λ z. z ++ rest) e ∙ append_assoc g (t ∷ []) rest in
      let here : F (f ++ rest) ≡ Read (v, h, t ∷ rest) = rw at (x.complete g v h (t ∷ rest) r fits (q v (kind t) b)) in
      rw (here, b) refl

  before_at : ExactAt kind d (before F test) (Before R test) Any
  before_at = record {
    sample = before_opens d [] x.sample;
    good = λ ts. behind kind (before F test) (Before R test) Any d F R Q d (λ z. expect test z.2 >>= λ y. Read (z.0, z.1, y.2)) [] ts (λ other s. refl) (λ g l e o. before_opens d g o) (λ m g l e o. (m, before_opens m g o)) (before_taken ts) (F ts) (x.good ts);
    complete = before_complete;
  }

-- The part may stop before the token.
pub exact_before : {T K A : Type 0} {kind : T → K} {n low : ℕ} {F : ℕ → Reader T A} {R : List T → A → ℕ → Type 0} {Q : A → K → Type 0} {p : K → Bool}
    → Exact kind n low F R Q → Sample kind p → ((v : A) (k : K) → p k ≡ true → Q v k) → Exact kind n low (λ d. before (F d) (λ t. p (kind t))) (Before R (λ t. p (kind t))) Any
exact_before {kind = kind} {low = low} {F = F} {R = R} {Q = Q} {p = p} x c q = record {
  sample = let o = x.sample in record { rest = o.rest ++ c.token ∷ []; value = o.value; nest = o.nest; reads = (o.rest, c.token, refl, c.holds, o.reads); fits = o.fits };
  least = λ f v h r. x.least r.0 v h r.4;
  at = λ d a b. before_at kind d (F d) R Q (x.at d a b) p c q;
  keeps = λ d e a b l ts. keeps_on (F d ts) (F e ts) _ (x.keeps d e a b l ts);
}

-- A token of a test, and a part behind it.
module _ {T K A : Type 0} (kind : T → K) (d : ℕ) (F : Reader T A) (R : List T → A → ℕ → Type 0) (Q : A → K → Type 0) (x : ExactAt kind d F R Q) (p : K → Bool) (c : Sample kind p) where
  abbrev first_test : T → Bool
  first_test t = p (kind t)

  after_sample : (m : ℕ) → Opens R m [] → Opens (After first_test R) m []
  after_sample m o = record { rest = c.token ∷ o.rest; value = o.value; nest = o.nest; reads = (c.token, o.rest, refl, c.holds, o.reads); fits = o.fits }

  after_opens : (t : T) → first_test t ≡ true → (m : ℕ) (front : List T) → Opens R m front → Opens (After first_test R) m (t ∷ front)
  after_opens t e m front o = record { rest = o.rest; value = o.value; nest = o.nest; reads = (t, front ++ o.rest, refl, e, o.reads); fits = o.fits }

  after_taken : (ts : List T) (z : Unit {0} × ℕ × List T) → Took kind (Expect first_test) Any d ts z → Good kind (after first_test F) (After first_test R) Q d ts (F z.2)
  after_taken ts z t =
      let r = t.reads in
      let w : ts ≡ r.0 ∷ z.2 = t.whole ∙ ap (λ u. u ++ z.2) r.1 in
      subst (λ u. Good kind (after first_test F) (After first_test R) Q d u (F z.2)) (sym w)
      (along kind (after first_test F) (After first_test R) Q d F R Q (r.0 ∷ []) z.2
      (λ other s. rw (r.2) refl)
      (λ m g o. after_opens r.0 r.2 m g o)
      (λ y b. record { front = r.0 ∷ b.front; whole = ap (λ u. r.0 ∷ u) b.whole; reads = (r.0, b.front, refl, r.2, b.reads); fits = b.fits; stops = b.stops })
      (F z.2) (x.good z.2))

  after_at : ExactAt kind d (after first_test F) (After first_test R) Q
  after_at = record {
    sample = after_sample d x.sample;
    good = λ ts. behind kind (after first_test F) (After first_test R) Q d (expect first_test) (Expect first_test) Any d (λ z. F z.2) [] ts (λ other s. refl)
        (λ g l e o. let r = o.reads in let k = x.sample in record { rest = o.rest ++ k.rest; value = k.value; nest = k.nest; reads = (r.0, k.rest, sym (append_assoc g o.rest k.rest) ∙ ap (λ u. u ++ k.rest) r.1, r.2, k.reads); fits = k.fits })
        (λ m g l e o. let r = o.reads in let k = x.sample in (d, record { rest = o.rest ++ k.rest; value = k.value; nest = k.nest; reads = (r.0, k.rest, sym (append_assoc g o.rest k.rest) ∙ ap (λ u. u ++ k.rest) r.1, r.2, k.reads); fits = k.fits }))
        (after_taken ts) (expect first_test ts) ((expect_at kind d p c).good ts);
    complete = λ f v h rest (t, g, e, b, r) fits s. rw (e, b) (x.complete g v h rest r fits s);
  }

-- A token, and the part behind it.
pub exact_after : {T K A : Type 0} {kind : T → K} {n low : ℕ} {F : ℕ → Reader T A} {R : List T → A → ℕ → Type 0} {Q : A → K → Type 0} {p : K → Bool}
    → Sample kind p → Exact kind n low F R Q → Exact kind n low (λ d. after (λ t. p (kind t)) (F d)) (After (λ t. p (kind t)) R) Q
exact_after {kind = kind} {low = low} {F = F} {R = R} {Q = Q} {p = p} c x = record {
  sample = let o = x.sample in record { rest = c.token ∷ o.rest; value = o.value; nest = o.nest; reads = (c.token, o.rest, refl, c.holds, o.reads); fits = o.fits };
  least = λ f v h r. x.least r.1 v h r.4;
  at = λ d a b. after_at kind d (F d) R Q (x.at d a b) p c;
  keeps = λ d e a b l ts. keeps_then (expect (λ t. p (kind t)) ts) (expect (λ t. p (kind t)) ts) (λ z. F d z.2) (λ z. F e z.2) (keeps_same (expect (λ t. p (kind t)) ts)) (λ z. x.keeps d e a b l z.2);
}

-- A part, and a part behind it that depends on it. The second begins where the first may stop.
module _ {T K A B : Type 0} (kind : T → K) (d : ℕ) (F : Reader T A) (R : List T → A → ℕ → Type 0) (Q : A → K → Type 0) (x : ExactAt kind d F R Q)
    (G : A → Reader T B) (S : A → List T → B → ℕ → Type 0) (P : A → B → K → Type 0) (y : (a : A) → ExactAt kind d (G a) (S a) (P a))
    (joins : (u : A) (g : List T) (v : B) (h : ℕ) (rest : List T) → S u g v h → Stops kind (P u v) rest → Stops kind (Q u) (g ++ rest)) where
  abbrev follow : A × B → K → Type 0
  follow v = P v.0 v.1

  max_left : (i j : ℕ) → max i j ≤ d → i ≤ d
  max_left i j a = omega arith

  max_right : (i j : ℕ) → max i j ≤ d → j ≤ d
  max_right i j a = omega arith

  bind_opens : (k m : ℕ) (front : List T) → k ≤ m → d ≤ m → Opens R k front → Opens (Bound R S) m front
  bind_opens k m front km dm o =
      let b = (y o.value).sample in
      record {
        rest = o.rest ++ b.rest;
        value = (o.value, b.value);
        nest = max o.nest b.nest;
        reads = record { left = front ++ o.rest; right = b.rest; i = o.nest; j = b.nest; whole = sym (append_assoc front o.rest b.rest); nest = refl; first = o.reads; second = b.reads };
        fits = omega (arith, o.fits, b.fits);
      }

  second_opens : (k m : ℕ) (ts : List T) (z : A × ℕ × List T) (t : Took kind R Q d ts z) (g : List T) → k ≤ m → d ≤ m → Opens (S z.0) k g → Opens (Bound R S) m (t.front ++ g)
  second_opens k m ts z t g km dm o = record {
    rest = o.rest;
    value = (z.0, o.value);
    nest = max z.1 o.nest;
    reads = record { left = t.front; right = g ++ o.rest; i = z.1; j = o.nest; whole = append_assoc t.front g o.rest; nest = refl; first = t.reads; second = o.reads };
    fits = omega (arith, o.fits, t.fits);
  }

  bind_taken : (ts : List T) (z : A × ℕ × List T) → Took kind R Q d ts z → Good kind (bind F G) (Bound R S) follow d ts (G z.0 z.2 >>= λ w. Read ((z.0, w.0), max z.1 w.1, w.2))
  bind_taken ts z t = subst (λ u. Good kind (bind F G) (Bound R S) follow d u (G z.0 z.2 >>= λ w. Read ((z.0, w.0), max z.1 w.1, w.2))) (sym t.whole)
      (behind kind (bind F G) (Bound R S) follow d (G z.0) (S z.0) (P z.0) d (λ w. Read ((z.0, w.0), max z.1 w.1, w.2)) t.front z.2
      (λ other s. rw (taken_again x t other s) refl)
      (λ g l e o. second_opens d d ts z t g (omega arith) (omega arith) o)
      (λ m g l e o. (max m d, second_opens m (max m d) ts z t g (omega arith) (omega arith) o))
      (λ w b. record {
        front = t.front ++ b.front;
        whole = ap (λ u. t.front ++ u) b.whole ∙ sym (append_assoc t.front b.front w.2);
        reads = record { left = t.front; right = b.front; i = z.1; j = w.1; whole = refl; nest = refl; first = t.reads; second = b.reads };
        fits = omega (arith, t.fits, b.fits);
        stops = b.stops;
      })
      (G z.0 z.2) ((y z.0).good z.2))

  bind_complete : (f : List T) (v : A × B) (h : ℕ) (rest : List T) → Bound R S f v h → h ≤ d → Stops kind (follow v) rest → bind F G (f ++ rest) ≡ Read (v, h, rest)
  bind_complete f v h rest r fits s =
      let le : max r.i r.j ≤ d = subst (λ u. u ≤ d) r.nest fits in
      let e : f ++ rest ≡ r.left ++ (r.right ++ rest) = ap (λ u. u ++ rest) r.whole ∙ append_assoc r.left r.right rest in
      let one : F (f ++ rest) ≡ Read (v.0, r.i, r.right ++ rest) = rw e (x.complete r.left v.0 r.i (r.right ++ rest) r.first (max_left r.i r.j le) (joins v.0 r.right v.1 r.j rest r.second s)) in
      let two : G v.0 (r.right ++ rest) ≡ Read (v.1, r.j, rest) = (y v.0).complete r.right v.1 r.j rest r.second (max_right r.i r.j le) s in
      rw (one, two, r.nest) refl

  bind_at : ExactAt kind d (bind F G) (Bound R S) follow
  bind_at = record {
    sample = bind_opens d d [] (omega arith) (omega arith) x.sample;
    good = λ ts. behind kind (bind F G) (Bound R S) follow d F R Q d (λ z. G z.0 z.2 >>= λ w. Read ((z.0, w.0), max z.1 w.1, w.2)) [] ts (λ other s. refl)
        (λ g l e o. bind_opens d d g (omega arith) (omega arith) o) (λ m g l e o. (max m d, bind_opens m (max m d) g (omega arith) (omega arith) o)) (bind_taken ts) (F ts) (x.good ts);
    complete = bind_complete;
  }

-- A part, and one behind it for each of its values; each begins where the first may stop.
pub exact_bind : {T K A B : Type 0} {kind : T → K} {n low least : ℕ} {F : ℕ → Reader T A} {R : List T → A → ℕ → Type 0} {Q : A → K → Type 0}
    {G : A → ℕ → Reader T B} {S : A → List T → B → ℕ → Type 0} {P : A → B → K → Type 0}
    → Exact kind n low F R Q → ((a : A) → Exact kind n least (G a) (S a) (P a))
    → ((u : A) (g : List T) (v : B) (h : ℕ) (rest : List T) → S u g v h → Stops kind (P u v) rest → Stops kind (Q u) (g ++ rest))
    → Exact kind n (max low least) (λ d. bind (F d) (λ a. G a d)) (Bound R S) (λ v. P v.0 v.1)
exact_bind {kind = kind} {low = low} {least = least} {F = F} {R = R} {Q = Q} {G = G} {S = S} {P = P} x y joins = record {
  sample = let o = x.sample in let b = (y o.value).sample in record {
    rest = o.rest ++ b.rest;
    value = (o.value, b.value);
    nest = max o.nest b.nest;
    reads = record { left = o.rest; right = b.rest; i = o.nest; j = b.nest; whole = refl; nest = refl; first = o.reads; second = b.reads };
    fits = omega (arith, o.fits, b.fits);
  };
  least = λ f v h r. omega (arith, x.least r.left v.0 r.i r.first, (y v.0).least r.right v.1 r.j r.second, r.nest);
  at = λ d a b. bind_at kind d (F d) R Q (x.at d (omega arith) b) (λ u. G u d) S P (λ u. (y u).at d (omega arith) b) joins;
  keeps = λ d e a b l ts. keeps_then (F d ts) (F e ts) _ _ (x.keeps d e (omega arith) b l ts) (λ z. keeps_on (G z.0 d z.2) (G z.0 e z.2) _ ((y z.0).keeps d e (omega arith) b l z.2));
}

-- Two parts; the second begins where the first may stop.
pub exact_pair : {T K A B : Type 0} {kind : T → K} {n low least : ℕ} {F : ℕ → Reader T A} {R : List T → A → ℕ → Type 0} {Q : A → K → Type 0}
    {G : ℕ → Reader T B} {S : List T → B → ℕ → Type 0} {P : B → K → Type 0}
    → Exact kind n low F R Q → Exact kind n least G S P
    → ((u : A) (g : List T) (v : B) (h : ℕ) (rest : List T) → S g v h → Stops kind (P v) rest → Stops kind (Q u) (g ++ rest))
    → Exact kind n (max low least) (λ d. pair (F d) (G d)) (Both R S) (λ v. P v.1)
exact_pair {G = G} {S = S} {P = P} x y joins = exact_bind {G = λ a. G} {S = λ a. S} {P = λ a. P} x (λ a. y) joins
