-- Exact readers of a part and what may follow it.
use Rattle.std.proofs.Common.{◌≡◌, ℕ, ◌+◌, ◌≤◌, ◌<◌, Bool, true, false, List, [], ◌∷◌, ◌++◌, Option, Some, None, max, refl, subst, ◌∙◌, arith, nat_lt, cond}
use Rattle.cpc_parser_reading.specs.Reading.{Reading, Read, Fault, Deep, Reader, ◌>>=◌, below}
use Rattle.cpc_parser_reading.specs.Phrase.{Mapped}
use Rattle.cpc_parser_reading.specs.Chain.{Linking, links, Chained, first, further, down, Joint}
use Rattle.cpc_parser_reading.specs.Lists.{if_so}
use Rattle.cpc_parser_reading.specs.Operators.{tail, tail_from, Tailed, bare, tailed, Trails}
use Rattle.cpc_parser_reading.specs.Exact.{Exact, Branch}
use Rattle.cpc_parser_reading.proofs.Chain.{links_end, links_stop, links_deep}
use Rattle.cpc_parser_reading.proofs.Chains.{exact_chain, links_on, read_nest}
use Rattle.cpc_parser_reading.proofs.Lists.{so, not_so, never}
use Rattle.cpc_parser_reading.proofs.Levels.{fits_below, free_below}
use Rattle.cpc_parser_reading.proofs.Values.{exact_as, exact_stop, exact_mapped}

-- at most one part follows
abbrev once : {K A B : Type 0} → (K → Bool) → A × Option B → K → Option (Unit {0})
once p (a, None) k = if_so (p k)
once p (a, Some b) k = None

-- the value with what follows
abbrev with_tail : {A B : Type 0} → Unit {0} → A × Option B → B → A × Option B
with_tail c v w = (v.0, Some w)

-- where something may follow
abbrev Suits : {A B : Type 0} → (A → Type 0) → A × Option B → Unit {0} → Type 0
Suits fine (a, None) c = fine a
Suits fine (a, Some b) c = ⊥

-- what may stand behind the value, or behind what follows
abbrev Behind : {K A B : Type 0} → (A → K → Type 0) → (B → K → Type 0) → A × Option B → K → Type 0
Behind Q P (a, None) k = Q a k
Behind Q P (a, Some b) k = P b k

-- nothing follows yet
abbrev alone : {A B : Type 0} → A → A × Option B
alone a = (a, None)

module _ {T K A B : Type 0} (kind : T → K) (n low : ℕ) (p : K → Bool) (fine : A → Type 0) (Q : A → K → Type 0) (P : B → K → Type 0)
    (clear : (a : A) (k : K) → p k ≡ true → fine a → Q a k) (suits : (a : A) (k : K) → p k ≡ true → Q a k → fine a)
    (full : ℕ → ℕ → Bool) (nest : ℕ → ℕ → ℕ) (left right least : ℕ) (grows : (h j : ℕ) → nest h j ≡ max (h + left) (j + right))
    (fits : (d h : ℕ) → low ≤ h → h ≤ d → d ≤ n → full d h ≡ false → (h + left ≤ d) × (least + right ≤ d))
    (free : (d h : ℕ) → h + left ≤ d → least + right ≤ d → full d h ≡ false) where
  once_begins : (v : A × Option B) (k : K) (c : Unit {0}) → once p v k ≡ Some c → p k ≡ true
  once_begins (a, None) k c e = so (p k) c e
  once_begins (a, Some b) k c e = absurd cc

  once_clear : (v : A × Option B) (k : K) (c : Unit {0}) → once p v k ≡ Some c → Suits fine v c → Behind Q P v k
  once_clear (a, None) k c e ok = clear a k (so (p k) c e) ok
  once_clear (a, Some b) k c e ok = absurd ok

  once_suits : (v : A × Option B) (k : K) (c : Unit {0}) → once p v k ≡ Some c → Behind Q P v k → Suits fine v c
  once_suits (a, None) k c e q = suits a k (so (p k) c e) q
  once_suits (a, Some b) k c e q = absurd cc

  joint : Joint kind n low (once p) (λ d c h. full d h) with_tail (λ c h j. nest h j) (Suits fine) (λ c k. p k ≡ true) (Behind Q P) (λ c. P) (λ c. left) (λ c. right) (λ c. least)
  joint = record {
    begins = once_begins;
    clear = once_clear;
    suits = once_suits;
    to = λ c v w k q. q;
    of = λ c v w k q. q;
    grows = λ c h j. grows h j;
    fits = λ d c h lo hi le e. fits d h lo hi le e;
    free = λ d c h a b. free d h a b;
  }

  module _ (F : ℕ → Reader T A) (R : List T → A → ℕ → Type 0) (x : Exact kind n low F R Q) (up : ℕ) (G : ℕ → Reader T B) (S : List T → B → ℕ → Type 0) (y : Branch kind (λ k. p k ≡ true) up least G S P) (high : n ≤ up + right)
      (part : ℕ → Reader T B) (same : (d : ℕ) (t : T) (rest : List T) → least + right ≤ d → d ≤ n → p (kind t) ≡ true → G (down right d) (t ∷ rest) ≡ part d (t ∷ rest)) where
    abbrev link : ℕ → Linking T (Unit {0}) (A × Option B) B
    link d = record { class = λ v t. once p v (kind t); full = λ c h. full d h; part = λ c. part d; make = with_tail; nest = λ c h j. nest h j }

    abbrev trail : ℕ → A → ℕ → Reader T (A × Option B)
    trail d = tail_from (λ t. p (kind t)) (full d) nest (part d)

    on : (d : ℕ) → d ≤ n → (v : A × Option B) (h : ℕ) (t : T) (rest : List T) → low ≤ h → h ≤ d → once p v (kind t) ≡ Some tt → full d h ≡ false
        → links (link d) v h (t ∷ rest) ≡ (part d (t ∷ rest) >>= λ z. links (link d) (with_tail tt v z.0) (nest h z.1) z.2)
    on d le v h t rest lo hi e f = links_on joint (λ c. y) (λ c. high) (λ e c. part e) (λ e c t rest a b i. same e t rest a b i) d le tt v h t rest lo hi e f

    over : (d : ℕ) (a : A) (b : B) (h : ℕ) (ts : List T) → links (link d) (a, Some b) h ts ≡ Read ((a, Some b), h, ts)
    over d a b h [] = links_end (link d) (a, Some b) h
    over d a b h (t ∷ rest) = links_stop (link d) (a, Some b) h t rest refl

    after_part : (d : ℕ) (a : A) (h : ℕ) (r : Reading T B) → (r >>= λ z. links (link d) (a, Some z.0) (nest h z.1) z.2) ≡ (r >>= λ z. Read ((a, Some z.0), nest h z.1, z.2))
    after_part d a h (Read z) = over d a z.0 (nest h z.1) z.2
    after_part d a h (Fault left) = refl
    after_part d a h (Deep left) = refl

    trail_full : (d : ℕ) → d ≤ n → (a : A) (h : ℕ) (t : T) (rest : List T) → low ≤ h → h ≤ d → p (kind t) ≡ true → (b : Bool) → full d h ≡ b
        → links (link d) (a, None) h (t ∷ rest) ≡ cond b (Deep (t ∷ rest)) (part d (t ∷ rest) >>= λ z. Read ((a, Some z.0), nest h z.1, z.2))
    trail_full d le a h t rest lo hi e true f = links_deep (link d) (a, None) h t rest tt (rw e refl) f
    trail_full d le a h t rest lo hi e false f = on d le (a, None) h t rest lo hi (rw e refl) f ∙ after_part d a h (part d (t ∷ rest))

    trail_so : (d : ℕ) → d ≤ n → (a : A) (h : ℕ) (t : T) (rest : List T) → low ≤ h → h ≤ d → (b : Bool) → p (kind t) ≡ b
        → links (link d) (a, None) h (t ∷ rest) ≡ cond b (cond (full d h) (Deep (t ∷ rest)) (part d (t ∷ rest) >>= λ z. Read ((a, Some z.0), nest h z.1, z.2))) (Read ((a, None), h, t ∷ rest))
    trail_so d le a h t rest lo hi false e = links_stop (link d) (a, None) h t rest (rw e refl)
    trail_so d le a h t rest lo hi true e = trail_full d le a h t rest lo hi e (full d h) refl

    trail_is : (d : ℕ) → d ≤ n → (a : A) (h : ℕ) (ts : List T) → low ≤ h → h ≤ d → links (link d) (a, None) h ts ≡ trail d a h ts
    trail_is d le a h [] lo hi = links_end (link d) (a, None) h
    trail_is d le a h (t ∷ rest) lo hi = trail_so d le a h t rest lo hi (p (kind t)) refl

    tail_by : (d : ℕ) → low ≤ d → d ≤ n → (ts : List T) (r : Reading T A) → F d ts ≡ r
        → ((r >>= λ z. Read (alone z.0, z.1, z.2)) >>= λ z. links (link d) z.0 z.1 z.2) ≡ (r >>= λ z. trail d z.0 z.1 z.2)
    tail_by d a b ts (Read z) e = let k = read_nest x d a b ts z e in trail_is d b z.0 z.1 z.2 k.0 k.1
    tail_by d a b ts (Fault left) e = refl
    tail_by d a b ts (Deep left) e = refl

    abbrev Linked : List T → A × Option B → ℕ → Type 0
    Linked = Chained kind (once p) (Suits fine) with_tail (λ c h j. nest h j) (Mapped alone R) (λ c. S)

    tailed_on : (g g' : List T) (t : T) (c : Unit {0}) (u : A × Option B) (w : B) (i j : ℕ) → Linked g u i → Suits fine u c → S (t ∷ g') w j → Tailed nest R fine S (g ++ t ∷ g') (u.0, Some w) (nest i j)
    tailed_on g g' t c u w i j (first _ _ _ (a, e, r)) ok q = rw e (tailed g (t ∷ g') a w i j r (subst (λ z. Suits fine z c) e ok) q)
    tailed_on g g' t c u w i j (further _ _ _ _ _ _ _ _ _ _ _ _) ok q = absurd ok

    to_tailed : (f : List T) (v : A × Option B) (h : ℕ) → Linked f v h → Tailed nest R fine S f v h
    to_tailed f v h (first g u i (w, e, r)) = rw e (bare g w i r)
    to_tailed f v h (further g g' t c u w i j r e ok q) = tailed_on g g' t c u w i j r ok q

    of_tailed : (f : List T) (v : A × Option B) (h : ℕ) → Tailed nest R fine S f v h → Linked f v h
    of_tailed f v h (bare _ a _ r) = first f (a, None) h (a, refl, r)
    of_tailed f v h (tailed g k a b i j r ok q) =
        let s = y.starts.head k b j q in
        rw s.2 (further g s.1 s.0 tt (a, None) b i j (first g (a, None) i (a, refl, r)) (rw s.3 refl) ok (subst (λ u. S u b j) s.2 q))

    to_trails : (v : A × Option B) (k : K) → Behind Q P v k × (once p v k ≡ None) → Trails p Q P v k
    to_trails (a, None) k q = (q.0, not_so (p k) q.1)
    to_trails (a, Some b) k q = q.0

    of_trails : (v : A × Option B) (k : K) → Trails p Q P v k → Behind Q P v k × (once p v k ≡ None)
    of_trails (a, None) k q = (q.0, never (p k) q.1)
    of_trails (a, Some b) k q = (q, refl)

    -- A part and what may follow it are read exactly, with any weights.
    pub exact_trail : Exact kind n low (λ d. tail (F d) (λ t. p (kind t)) (full d) nest (part d)) (Tailed nest R fine S) (Trails p Q P)
    exact_trail = exact_stop (Trails p Q P)
        (exact_as (exact_chain joint (λ c. y) (λ c. high) (λ e c. part e) (λ e c t rest a b i. same e t rest a b i) (exact_mapped alone (Behind Q P) x (λ w k q. q) (λ w k q. q)))
        (λ d ts a b. tail_by d a b ts (F d ts) refl) to_tailed of_tailed)
        to_trails of_trails

-- Behind the part, in the same room. There is room for what follows wherever the part was read.
pub exact_tail : {T K A B : Type 0} {kind : T → K} {n low least : ℕ} {p : K → Bool} {F : ℕ → Reader T A} {R : List T → A → ℕ → Type 0} {Q : A → K → Type 0} {G : ℕ → Reader T B} {S : List T → B → ℕ → Type 0} {P : B → K → Type 0}
    (fine : A → Type 0) → Exact kind n low F R Q → Branch kind (λ k. p k ≡ true) n least G S P → least ≤ low
    → ((a : A) (k : K) → p k ≡ true → fine a → Q a k) → ((a : A) (k : K) → p k ≡ true → Q a k → fine a)
    → Exact kind n low (λ d. tail (F d) (λ t. p (kind t)) (λ h. false) (λ h j. max h j) (G d)) (Tailed (λ h j. max h j) R fine S) (Trails p Q P)
exact_tail {kind = kind} {n = n} {low = low} {least = least} {p = p} {F = F} {R = R} {Q = Q} {G = G} {S = S} {P = P} fine x y le clear suits =
    exact_trail kind n low p fine Q P clear suits (λ d h. false) (λ h j. max h j) 0 0 least (λ h j. omega arith) (λ d h lo hi l e. (omega arith, omega arith)) (λ d h a b. refl)
    F R x n G S y (omega arith) G (λ d t rest a b i. refl)

-- Under a node above both, in the room inside it.
pub exact_node : {T K A B : Type 0} {kind : T → K} {n m low least : ℕ} {p : K → Bool} {F : ℕ → Reader T A} {R : List T → A → ℕ → Type 0} {Q : A → K → Type 0} {G : ℕ → Reader T B} {S : List T → B → ℕ → Type 0} {P : B → K → Type 0}
    (fine : A → Type 0) → Exact kind n low F R Q → Branch kind (λ k. p k ≡ true) m least G S P → n ≤ m + 1 → 0 < low → least ≤ low
    → ((a : A) (k : K) → p k ≡ true → fine a → Q a k) → ((a : A) (k : K) → p k ≡ true → Q a k → fine a)
    → Exact kind n low (λ d. tail (F d) (λ t. p (kind t)) (λ h. nat_lt (below d) h) (λ h j. max h j + 1) (G (below d))) (Tailed (λ h j. max h j + 1) R fine S) (Trails p Q P)
exact_node {kind = kind} {n = n} {m = m} {low = low} {least = least} {p = p} {F = F} {R = R} {Q = Q} {G = G} {S = S} {P = P} fine x y nm pos le clear suits =
    exact_trail kind n low p fine Q P clear suits (λ d h. nat_lt (below d) h) (λ h j. max h j + 1) 1 1 least (λ h j. omega arith)
    (λ d h lo hi l e. fits_below d h least (omega arith) (omega arith) e) (λ d h a b. free_below d h a)
    F R x m G S y nm (λ d. G (below d)) (λ d t rest a b i. refl)
