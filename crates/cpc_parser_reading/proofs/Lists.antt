-- Exact readers of any number of parts, and of parts with separators between them.
use Rattle.std.proofs.Common.{◌≡◌, ℕ, ◌+◌, ◌≤◌, Bool, true, false, List, [], ◌∷◌, ◌++◌, Some, None, max, refl, subst, ◌∙◌, append_assoc, arith, nat_lt}
use Rattle.std.proofs.lemmas.List.{append-nil}
use Rattle.cpc_parser_reading.specs.Reading.{Read, Reader, ◌>>=◌, after}
use Rattle.cpc_parser_reading.specs.Phrase.{Mapped, After}
use Rattle.cpc_parser_reading.specs.Chain.{links, Chained, first, further, Joint}
use Rattle.cpc_parser_reading.specs.Lists.{if_so, several, many, separated, Many, no_more, one_more, Separated, alone, and_more, Last}
use Rattle.cpc_parser_reading.specs.Exact.{Stops, Exact, Branch, Sample}
use Rattle.cpc_parser_reading.proofs.Chains.{exact_chain, links_on}
use Rattle.cpc_parser_reading.proofs.Choice.{after_branch}
use Rattle.cpc_parser_reading.proofs.Values.{exact_as, exact_stop, exact_mapped}

-- the class is there where the test holds
pub so : (b : Bool) (c : Unit {0}) → if_so b ≡ Some c → b ≡ true
so true c e = refl
so false c e = absurd cc

-- and is not where it does not
pub not_so : (b : Bool) → if_so b ≡ None → b ≡ false
not_so false e = refl
not_so true e = absurd cc

room_for : (d low : ℕ) → nat_lt d low ≡ false → low + 0 ≤ d
room_for d low e = grind arith

not_crowded : (d low : ℕ) → low ≤ d → nat_lt d low ≡ false
not_crowded d low e = grind arith

-- no class without the test
pub never : (b : Bool) → b ≡ false → if_so b ≡ None
never b e = rw e refl

-- what stands behind the last value
pub last_to : {K A : Type 0} (Q : A → K → Type 0) (vs : List A) (v : A) (k : K) → Q v k → Last Q (vs ++ v ∷ []) k
last_to Q [] v k q = q
last_to Q (w ∷ []) v k q = q
last_to Q (w ∷ (u ∷ vs)) v k q = last_to Q (u ∷ vs) v k q

-- what may stand behind a list may stand behind its last value
pub last_of : {K A : Type 0} (Q : A → K → Type 0) (vs : List A) (v : A) (k : K) → Last Q (vs ++ v ∷ []) k → Q v k
last_of Q [] v k q = q
last_of Q (w ∷ []) v k q = q
last_of Q (w ∷ (u ∷ vs)) v k q = last_of Q (u ∷ vs) v k q

-- what may stand behind each value may behind a list
pub last_all : {K A : Type 0} (Q : A → K → Type 0) (vs : List A) (k : K) → ((v : A) → Q v k) → Last Q vs k
last_all Q [] k all = tt
last_all Q (v ∷ []) k all = all v
last_all Q (v ∷ (w ∷ vs)) k all = last_all Q (w ∷ vs) k all

-- The chain of several parts, in the words of lists.
module _ {T K A : Type 0} (kind : T → K) (p : K → Bool) (R : List T → A → ℕ → Type 0) (fine : List A → Unit {0} → Type 0) (ok : (vs : List A) → fine vs tt)
    (begins : (f : List T) (v : A) (h : ℕ) → R f v h → (t : T) × (g : List T) × (f ≡ t ∷ g) × (p (kind t) ≡ true)) where
  abbrev None' : List T → List A → ℕ → Type 0
  None' f vs h = (f ≡ []) × (vs ≡ []) × (h ≡ 0)

  abbrev Row : List T → List A → ℕ → Type 0
  Row = Chained kind (λ vs k. if_so (p k)) fine (λ c vs v. vs ++ v ∷ []) (λ c h j. max h j) None' (λ c. R)

  many_end : (g : List T) (vs : List A) (h : ℕ) → Many R g vs h → (f : List T) (v : A) (j : ℕ) → R f v j → Many R (g ++ f) (vs ++ v ∷ []) (max h j)
  many_end g vs h no_more f v j r =
      let e : max 0 j ≡ max j 0 = omega arith in
      rw e (subst (λ u. Many R u (v ∷ []) (max j 0)) (append-nil f) (one_more f [] v [] j 0 r no_more))
  many_end g vs h (one_more a b u us i k q m) f v j r =
      let e : max (max i k) j ≡ max i (max k j) = omega arith in
      rw (append_assoc a b f, e) (one_more a (b ++ f) u (us ++ v ∷ []) i (max k j) q (many_end b us k m f v j r))

  -- the chain as any number of parts
  pub to_many : (f : List T) (vs : List A) (h : ℕ) → Row f vs h → Many R f vs h
  to_many f vs h (first g us i r) = rw (r.0, r.1, r.2) no_more
  to_many f vs h (further g g' t c us w i j r e ok' q) = many_end g us i (to_many g us i r) (t ∷ g') w j q

  row_more : (f : List T) (us : List A) (h : ℕ) → Row f us h → (g : List T) (v : A) (j : ℕ) → R g v j → Row (f ++ g) (us ++ v ∷ []) (max h j)
  row_more f us h r g v j q =
      let b = begins g v j q in
      rw b.2 (further f b.1 b.0 tt us v h j r (rw b.3 refl) (ok us) (subst (λ u. R u v j) b.2 q))

  row_end : (g : List T) (vs : List A) (j : ℕ) → Many R g vs j → (f : List T) (us : List A) (h : ℕ) → Row f us h → Row (f ++ g) (us ++ vs) (max h j)
  row_end g vs j no_more f us h r = let e : max h 0 ≡ h = omega arith in rw (e, append-nil f, append-nil us) r
  row_end g vs j (one_more a b v ws i k q m) f us h r =
      let e : max h (max i k) ≡ max (max h i) k = omega arith in
      rw (e, ← append_assoc f a b, ← append_assoc us (v ∷ []) ws) (row_end b ws k m (f ++ a) (us ++ v ∷ []) (max h i) (row_more f us h r a v i q))

  -- and back
  pub of_many : (f : List T) (vs : List A) (h : ℕ) → Many R f vs h → Row f vs h
  of_many f vs h m =
      let e : max 0 h ≡ h = omega arith in
      subst (λ u. Row f vs u) e (row_end f vs h m [] [] 0 (first [] [] 0 (refl, refl, refl)))

module _ {T K A : Type 0} (kind : T → K) (p : K → Bool) (R : List T → A → ℕ → Type 0) (fine : List A → Unit {0} → Type 0) (ok : (vs : List A) → fine vs tt) where
  abbrev test : T → Bool
  test t = p (kind t)

  abbrev Column : List T → List A → ℕ → Type 0
  Column = Chained kind (λ vs k. if_so (p k)) fine (λ c vs v. vs ++ v ∷ []) (λ c h j. max h j) (Mapped (λ v. v ∷ []) R) (λ c. After test R)

  separated_end : (g : List T) (vs : List A) (h : ℕ) → Separated test R g vs h → (f : List T) (t : T) (v : A) (j : ℕ) → R f v j → test t ≡ true → Separated test R (g ++ t ∷ f) (vs ++ v ∷ []) (max h j)
  separated_end g vs h (alone a u i q) f t v j r e = and_more a f t u (v ∷ []) i j q e (alone f v j r)
  separated_end g vs h (and_more a b s u us i k q e' m) f t v j r e =
      let n : max (max i k) j ≡ max i (max k j) = omega arith in
      rw (append_assoc a (s ∷ b) (t ∷ f), n) (and_more a (b ++ t ∷ f) s u (us ++ v ∷ []) i (max k j) q e' (separated_end b us k m f t v j r e))

  -- the chain as parts with separators
  pub to_separated : (f : List T) (vs : List A) (h : ℕ) → Column f vs h → Separated test R f vs h
  to_separated f vs h (first g us i r) = rw r.1 (alone g r.0 i r.2)
  to_separated f vs h (further g g' t c us w i j r e ok' q) =
      rw q.2 (separated_end g us i (to_separated g us i r) q.1 q.0 w j q.4 q.3)

  column_end : (g : List T) (vs : List A) (j : ℕ) → Separated test R g vs j → (f : List T) (us : List A) (h : ℕ) → Column f us h → (t : T) → test t ≡ true → Column (f ++ t ∷ g) (us ++ vs) (max h j)
  column_end g vs j (alone _ v _ q) f us h r t e = further f g t tt us v h j r (rw e refl) (ok us) (t, g, refl, e, q)
  column_end g vs j (and_more a b s v ws i k q e' m) f us h r t e =
      let n : max h (max i k) ≡ max (max h i) k = omega arith in
      rw (n, ← append_assoc f (t ∷ a) (s ∷ b), ← append_assoc us (v ∷ []) ws)
      (column_end b ws k m (f ++ t ∷ a) (us ++ v ∷ []) (max h i) (further f a t tt us v h i r (rw e refl) (ok us) (t, a, refl, e, q)) s e')

  -- and back
  pub of_separated : (f : List T) (vs : List A) (h : ℕ) → Separated test R f vs h → Column f vs h
  of_separated f vs h (alone _ v _ q) = first f (v ∷ []) h (v, refl, q)
  of_separated f vs h (and_more a b t v ws i k q e m) = column_end b ws k m a (v ∷ []) i (first a (v ∷ []) i (v, refl, q)) t e

-- what may stand behind several parts: what may behind the last, and nothing that begins another
abbrev pub Over : {K A : Type 0} → (K → Bool) → (A → K → Type 0) → List A → K → Type 0
Over p Q vs k = Last Q vs k × (p k ≡ false)

-- no condition
abbrev Always : {A : Type 0} → A → Unit {0} → Type 0
Always v c = Unit {0}

end_at : {T K A : Type 0} (kind : T → K) (Q : A → K → Type 0) (ts : List T) → Stops kind (Last Q []) ts
end_at kind Q [] = tt
end_at kind Q (t ∷ ts) = tt

exact_empty : {T K A : Type 0} (kind : T → K) (n : ℕ) (Q : A → K → Type 0) → Exact kind n 0 (λ d ts. Read ([], 0, ts)) (λ f vs h. (f ≡ []) × (vs ≡ []) × (h ≡ 0)) (Last Q)
exact_empty kind n Q = record {
  sample = record { rest = []; value = []; nest = 0; reads = (refl, refl, refl); fits = omega arith };
  least = λ f v h r. omega arith;
  at = λ d a b. record {
    sample = record { rest = []; value = []; nest = 0; reads = (refl, refl, refl); fits = omega arith };
    good = λ ts. record { front = []; whole = refl; reads = (refl, refl, refl); fits = omega arith; stops = end_at kind Q ts };
    complete = λ f v h rest r fits s. rw (r.0, r.1, r.2) refl;
  };
  keeps = λ d e a b l ts. refl;
}

many_joint : {T K A : Type 0} (kind : T → K) (n low : ℕ) (p : K → Bool) (Q : A → K → Type 0) → ((v : A) (k : K) → p k ≡ true → Q v k)
    → Joint kind n 0 (λ vs k. if_so (p k)) (λ d c h. nat_lt d low) (λ c vs (v : A). vs ++ v ∷ []) (λ c h j. max h j) Always (λ c k. p k ≡ true) (Last Q) (λ c. Q) (λ c. 0) (λ c. 0) (λ c. low)
many_joint kind n low p Q next = record {
  begins = λ vs k c e. so (p k) c e;
  clear = λ vs k c e ok. last_all Q vs k (λ v. next v k (so (p k) c e));
  suits = λ vs k c e q. tt;
  to = λ c vs v k q. last_to Q vs v k q;
  of = λ c vs v k q. last_of Q vs v k q;
  grows = λ c h j. omega arith;
  fits = λ d c h lo hi le e. (omega arith, room_for d low e);
  free = λ d c h a b. not_crowded d low (omega arith);
}

separated_joint : {T K A : Type 0} (kind : T → K) (n low : ℕ) (p : K → Bool) (Q : A → K → Type 0) → ((v : A) (k : K) → p k ≡ true → Q v k)
    → Joint kind n low (λ vs k. if_so (p k)) (λ d c h. false) (λ c vs (v : A). vs ++ v ∷ []) (λ c h j. max h j) Always (λ c k. p k ≡ true) (Last Q) (λ c. Q) (λ c. 0) (λ c. 0) (λ c. low)
separated_joint kind n low p Q next = record {
  begins = λ vs k c e. so (p k) c e;
  clear = λ vs k c e ok. last_all Q vs k (λ v. next v k (so (p k) c e));
  suits = λ vs k c e q. tt;
  to = λ c vs v k q. last_to Q vs v k q;
  of = λ c vs v k q. last_of Q vs v k q;
  grows = λ c h j. omega arith;
  fits = λ d c h lo hi le e. (omega arith, omega arith);
  free = λ d c h a b. refl;
}

module _ {T K A : Type 0} {kind : T → K} {n low : ℕ} {p : K → Bool} {F : ℕ → Reader T A} {R : List T → A → ℕ → Type 0} {Q : A → K → Type 0}
    (x : Branch kind (λ k. p k ≡ true) n low F R Q) (next : (v : A) (k : K) → p k ≡ true → Q v k) where
  -- Any number of parts. What begins another may stand behind each.
  pub exact_many : Exact kind n 0 (λ d. many (λ t. p (kind t)) low d (F d)) (Many R) (Over p Q)
  exact_many = exact_stop (Over p Q)
      (exact_as (exact_chain (many_joint kind n low p Q next) (λ c. x) (λ c. omega arith) (λ d c. F d) (λ d c t rest fit le b. refl) (exact_empty kind n Q)) (λ d ts a b. refl)
      (to_many kind p R Always (λ vs. tt) x.starts.head) (of_many kind p R Always (λ vs. tt) x.starts.head))
      (λ vs k q. (q.0, not_so (p k) q.1)) (λ vs k q. (q.0, never (p k) q.1))

  -- one part more
  pub many_on : (d : ℕ) → low ≤ d → d ≤ n → (vs : List A) (h : ℕ) (t : T) (rest : List T) → h ≤ d → p (kind t) ≡ true
      → links (several (λ u. p (kind u)) (nat_lt d low) (F d)) vs h (t ∷ rest) ≡ (F d (t ∷ rest) >>= λ z. links (several (λ u. p (kind u)) (nat_lt d low) (F d)) (vs ++ z.0 ∷ []) (max h z.1) z.2)
  many_on d a b vs h t rest hi e =
      links_on (many_joint kind n low p Q next) (λ c. x) (λ c. omega arith) (λ d c. F d) (λ d c t rest fit le b. refl) d b tt vs h t rest (omega arith) hi (rw e refl) (not_crowded d low a)

module _ {T K A : Type 0} {kind : T → K} {n low : ℕ} {p : K → Bool} {F : ℕ → Reader T A} {R : List T → A → ℕ → Type 0} {Q : A → K → Type 0}
    (c : Sample kind p) (x : Exact kind n low F R Q) (next : (v : A) (k : K) → p k ≡ true → Q v k) where
  -- Parts with separators between them. A separator may stand behind each.
  pub exact_separated : Exact kind n low (λ d. separated (λ t. p (kind t)) (F d)) (Separated (λ t. p (kind t)) R) (Over p Q)
  exact_separated = exact_stop (Over p Q)
      (exact_as (exact_chain (separated_joint kind n low p Q next) (λ u. after_branch c x) (λ u. omega arith) (λ d u. after (λ t. p (kind t)) (F d)) (λ d u t rest fit le b. refl)
      (exact_mapped (λ v. v ∷ []) (Last Q) x (λ w k q. q) (λ w k q. q))) (λ d ts a b. refl)
      (to_separated kind p R Always (λ vs. tt)) (of_separated kind p R Always (λ vs. tt)))
      (λ vs k q. (q.0, not_so (p k) q.1)) (λ vs k q. (q.0, never (p k) q.1))

  -- one part more
  pub separated_on : (d : ℕ) → d ≤ n → (vs : List A) (h : ℕ) (t : T) (rest : List T) → low ≤ h → h ≤ d → p (kind t) ≡ true
      → links (several (λ u. p (kind u)) false (after (λ u. p (kind u)) (F d))) vs h (t ∷ rest)
      ≡ (F d rest >>= λ z. links (several (λ u. p (kind u)) false (after (λ u. p (kind u)) (F d))) (vs ++ z.0 ∷ []) (max h z.1) z.2)
  separated_on d b vs h t rest lo hi e =
      links_on (separated_joint kind n low p Q next) (λ u. after_branch c x) (λ u. omega arith) (λ d u. after (λ t. p (kind t)) (F d)) (λ d u t rest fit le b. refl) d b tt vs h t rest lo hi (rw e refl) refl
      ∙ rw e refl
