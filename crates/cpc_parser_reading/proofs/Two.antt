-- Exact readers of one of two parts that begin with the same token, which the next token tells apart.
use Rattle.std.proofs.Common.{◌≡◌, ℕ, ◌≤◌, Bool, true, false, List, [], ◌∷◌, ◌++◌, refl, sym, ap, subst, ◌∙◌, arith, nat_lt, cond, inl, inr}
use Rattle.std.proofs.lemmas.List.{append-nil}
use Rattle.cpc_parser_reading.specs.Reading.{Reading, Read, Fault, Deep, Reader, either, either_two, by_second}
use Rattle.cpc_parser_reading.specs.Phrase.{Either}
use Rattle.cpc_parser_reading.specs.Exact.{SameHead, Stops, Opens, Took, Faulty, TooDeep, Good, Keeps, ExactAt, Exact}
use Rattle.cpc_parser_reading.proofs.Heads.{stops_same, opens_as}
use Rattle.cpc_parser_reading.proofs.Behind.{along}
use Rattle.cpc_parser_reading.proofs.Choice.{either_at, not_less}
use Rattle.cpc_parser_reading.proofs.Values.{as_at}

-- what is left behind, or from the place on
abbrev left_of : {T A : Type 0} → Reading T A → List T
left_of (Read x) = x.2
left_of (Fault left) = left
left_of (Deep left) = left

no_more : {T : Type 0} (t : T) (ts : List T) → [] ≡ t ∷ ts → ⊥
no_more t ts e = cc

more_left : {T A : Type 0} (r : Reading T A) (v w : A) (h i : ℕ) (t : T) (ts : List T) → r ≡ Read (v, h, []) → r ≡ Read (w, i, t ∷ ts) → ⊥
more_left r v w h i t ts a b = no_more t ts (ap left_of (sym a ∙ b))

pub no_fault : {T A : Type 0} (r : Reading T A) (x : A × ℕ × List T) (left : List T) → r ≡ Read x → r ≡ Fault left → ⊥
no_fault r x left a b = cc

pub no_deep : {T A : Type 0} (r : Reading T A) (x : A × ℕ × List T) (left : List T) → r ≡ Read x → r ≡ Deep left → ⊥
no_deep r x left a b = cc

head_is : {T : Type 0} (t u : T) (rest g left : List T) → t ∷ rest ≡ (u ∷ g) ++ left → (t ≡ u) × (rest ≡ g ++ left)
head_is t u rest g left e = (cc, cc)

-- Behind a token that begins a list of R an exact reader is exact.
module _ {T K A : Type 0} (kind : T → K) (d : ℕ) (F : Reader T A) (R : List T → A → ℕ → Type 0) (Q : A → K → Type 0) (x : ExactAt kind d F R Q) (t : T) (o : Opens R d (t ∷ [])) where
  begun : F (t ∷ o.rest) ≡ Read (o.value, o.nest, [])
  begun = let k = x.complete (t ∷ o.rest) o.value o.nest [] o.reads o.fits tt in subst (λ u. F (t ∷ u) ≡ Read (o.value, o.nest, [])) (append-nil o.rest) k

  rest_opens : (m : ℕ) (g : List T) → Opens R m (t ∷ g) → Opens (λ f. R (t ∷ f)) m g
  rest_opens m g k = record { rest = k.rest; value = k.value; nest = k.nest; reads = k.reads; fits = k.fits }

  rest_took : (ts : List T) (z : A × ℕ × List T) (front : List T) → t ∷ ts ≡ front ++ z.2 → R front z.0 z.1 → z.1 ≤ d → Stops kind (Q z.0) z.2 → Took kind (λ f. R (t ∷ f)) Q d ts z
  rest_took ts z [] e r fits s =
      let s' : Stops kind (Q z.0) (t ∷ o.rest) = stops_same kind (Q z.0) (t ∷ ts) (t ∷ o.rest) refl (subst (λ u. Stops kind (Q z.0) u) (sym e) s) in
      absurd (more_left (F (t ∷ o.rest)) o.value z.0 o.nest z.1 t o.rest begun (x.complete [] z.0 z.1 (t ∷ o.rest) r fits s'))
  rest_took ts z (u ∷ g) e r fits s =
      let k = head_is t u ts g z.2 e in
      record { front = g; whole = k.1; reads = subst (λ w. R (w ∷ g) z.0 z.1) (sym k.0) r; fits = fits; stops = s }

  rest_faulty : (ts left front : List T) → t ∷ ts ≡ front ++ left → Opens R d front → ((other : List T) → SameHead kind left other → F (front ++ other) ≡ Fault other) → Faulty kind (λ us. F (t ∷ us)) (λ f. R (t ∷ f)) d ts left
  rest_faulty ts left [] e k local =
      absurd (no_fault (F (t ∷ o.rest)) (o.value, o.nest, []) (t ∷ o.rest) begun (local (t ∷ o.rest) (subst (λ u. SameHead kind u (t ∷ o.rest)) e refl)))
  rest_faulty ts left (u ∷ g) e k local =
      let i = head_is t u ts g left e in
      record { front = g; whole = i.1; opens = rest_opens d g (subst (λ w. Opens R d (w ∷ g)) (sym i.0) k); local = λ other s. subst (λ w. F (w ∷ g ++ other) ≡ Fault other) (sym i.0) (local other s) }

  rest_deep : (ts left front : List T) (next : T) (after : List T) → left ≡ next ∷ after → t ∷ ts ≡ front ++ left → Opens R d front → (m : ℕ) → Opens R m (front ++ next ∷ [])
      → ((other : List T) → SameHead kind left other → F (front ++ other) ≡ Deep other) → TooDeep kind (λ us. F (t ∷ us)) (λ f. R (t ∷ f)) d ts left
  rest_deep ts left [] next after is e k m deeper local =
      absurd (no_deep (F (t ∷ o.rest)) (o.value, o.nest, []) (t ∷ o.rest) begun (local (t ∷ o.rest) (subst (λ u. SameHead kind u (t ∷ o.rest)) e refl)))
  rest_deep ts left (u ∷ g) next after is e k m deeper local =
      let i = head_is t u ts g left e in
      record {
        front = g;
        next = next;
        after = after;
        is = is;
        whole = i.1;
        opens = rest_opens d g (subst (λ w. Opens R d (w ∷ g)) (sym i.0) k);
        most = m;
        deeper = rest_opens m (g ++ next ∷ []) (subst (λ w. Opens R m (w ∷ g ++ next ∷ [])) (sym i.0) deeper);
        local = λ other s. subst (λ w. F (w ∷ g ++ other) ≡ Deep other) (sym i.0) (local other s);
      }

  rest_good : (ts : List T) (r : Reading T A) → Good kind F R Q d (t ∷ ts) r → Good kind (λ us. F (t ∷ us)) (λ f. R (t ∷ f)) Q d ts r
  rest_good ts (Read z) g = rest_took ts z g.front g.whole g.reads g.fits g.stops
  rest_good ts (Fault left) g = rest_faulty ts left g.front g.whole g.opens g.local
  rest_good ts (Deep left) g = rest_deep ts left g.front g.next g.after g.is g.whole g.opens g.most g.deeper g.local

  -- what stands behind the token is read exactly
  pub rest_at : ExactAt kind d (λ us. F (t ∷ us)) (λ f. R (t ∷ f)) Q
  rest_at = record {
    sample = rest_opens d [] o;
    good = λ ts. rest_good ts (F (t ∷ ts)) (x.good (t ∷ ts));
    complete = λ f v h rest r fits s. x.complete (t ∷ f) v h rest r fits s;
  }

-- The first token has p, and with it the second one q or not.
abbrev pub Apart : {T K : Type 0} → (T → K) → (K → Bool) → (K → K → Bool) → List T → Type 0
Apart kind p q [] = Unit {0}
Apart kind p q (t ∷ []) = Unit {0}
Apart kind p q (t ∷ (u ∷ rest)) = p (kind t) ≡ true → q (kind t) (kind u) ≡ false

module _ {T K A : Type 0} (kind : T → K) (p : K → Bool) (q : K → K → Bool) (low d : ℕ) (F : Reader T A) (R : List T → A → ℕ → Type 0) (G : Reader T A) (S : List T → A → ℕ → Type 0) (Q : A → K → Type 0)
    (begins : (f : List T) (v : A) (h : ℕ) → R f v h → (t : T) × (u : T) × (g : List T) × (f ≡ t ∷ u ∷ g) × (p (kind t) ≡ true) × (q (kind t) (kind u) ≡ true))
    (apart : (f : List T) (v : A) (h : ℕ) (rest : List T) → S f v h → Stops kind (Q v) rest → Apart kind p q (f ++ rest))
    (first : (t : T) → p (kind t) ≡ true → Opens R low (t ∷ [])) (second : (t : T) → p (kind t) ≡ true → Opens S low (t ∷ []))
    (least : (f : List T) (v : A) (h : ℕ) → R f v h → low ≤ h) (solid : (f : List T) (v : A) (h : ℕ) → S f v h → (t : T) × (g : List T) × (f ≡ t ∷ g) × (p (kind t) ≡ true → low ≤ h))
    (x : low ≤ d → ExactAt kind d F R Q) (y : ExactAt kind d G S Q) where
  abbrev chosen : Reader T A
  chosen = either_two (λ t. p (kind t)) (λ t u. q (kind t) (kind u)) low d F G

  more_room : (B : List T → A → ℕ → Type 0) (front : List T) → low ≤ d → Opens B low front → Opens B d front
  more_room B front le o = record { rest = o.rest; value = o.value; nest = o.nest; reads = o.reads; fits = omega (arith, o.fits) }

  goes_other : (ts : List T) → Stops kind (λ k. p k ≡ false) ts → chosen ts ≡ G ts
  goes_other [] s = refl
  goes_other (t ∷ ts) s = rw s refl

  goes_deep : (t : T) (rest other : List T) → p (kind t) ≡ true → nat_lt d low ≡ true → SameHead kind (t ∷ rest) other → chosen other ≡ Deep other
  goes_deep t rest [] e b s = absurd s
  goes_deep t rest (u ∷ us) e b s = let e' : p (kind u) ≡ true = subst (λ k. p k ≡ true) s e in rw (e', b) refl

  -- what is read behind the first token
  abbrev then : T → Reader T A
  then t us = by_second (λ u w. q (kind u) (kind w)) F G t us

  goes_on : (t : T) (us : List T) → p (kind t) ≡ true → low ≤ d → chosen (t ∷ us) ≡ then t us
  goes_on t us e le = rw (e, not_less d low le) refl

  no_room : (t : T) (us : List T) → either (λ u. q (kind t) (kind u)) 0 d (λ ws. F (t ∷ ws)) (λ ws. G (t ∷ ws)) us ≡ then t us
  no_room t [] = refl
  no_room t (u ∷ us) = let z : nat_lt d 0 ≡ false = not_less d 0 (omega arith) in rw z refl

  second_is : (t u w : T) (f g : List T) → t ∷ f ≡ u ∷ w ∷ g → (t ≡ u) × (f ≡ w ∷ g)
  second_is t u w f g e = (cc, cc)

  second_head : (t : T) (f : List T) (v : A) (h : ℕ) → R (t ∷ f) v h → (u : T) × (g : List T) × (f ≡ u ∷ g) × (q (kind t) (kind u) ≡ true)
  second_head t f v h r = let b = begins (t ∷ f) v h r in let k = second_is t b.0 b.1 f b.2 b.3 in (b.1, b.2, k.1, subst (λ w. q (kind w) (kind b.1) ≡ true) (sym k.0) b.5)

  second_apart : (t : T) (ts : List T) → p (kind t) ≡ true → Apart kind p q (t ∷ ts) → Stops kind (λ k. q (kind t) k ≡ false) ts
  second_apart t [] e a = tt
  second_apart t (u ∷ us) e a = a e

  then_at : (t : T) → p (kind t) ≡ true → low ≤ d → ExactAt kind d (then t) (Either (λ f. R (t ∷ f)) (λ f. S (t ∷ f))) Q
  then_at t e le =
      let a = rest_at kind d F R Q (x le) t (more_room R (t ∷ []) le (first t e)) in
      let b = rest_at kind d G S Q y t (more_room S (t ∷ []) le (second t e)) in
      as_at kind d (either (λ u. q (kind t) (kind u)) 0 d (λ ws. F (t ∷ ws)) (λ ws. G (t ∷ ws))) (then t) (Either (λ f. R (t ∷ f)) (λ f. S (t ∷ f))) (Either (λ f. R (t ∷ f)) (λ f. S (t ∷ f))) Q
      (no_room t) (λ f v h r. r) (λ f v h r. r)
      (either_at kind (q (kind t)) 0 d (λ ws. F (t ∷ ws)) (λ f. R (t ∷ f)) (λ ws. G (t ∷ ws)) (λ f. S (t ∷ f)) Q (second_head t) (λ u i lt. absurd (omega arith)) (λ f v h r. omega arith)
      (λ z. record { good = λ u rest i. a.good (u ∷ rest); complete = λ u g v h rest i r fits s. a.complete (u ∷ g) v h rest r fits s })
      b.sample (λ ts i. b.good ts) b.complete (λ f v h rest r s. second_apart t (f ++ rest) e (apart (t ∷ f) v h rest r s)))

  first_good : (t : T) (rest : List T) (b : Bool) → p (kind t) ≡ b → (l : Bool) → nat_lt d low ≡ l → Good kind chosen (Either R S) Q d (t ∷ rest) (cond b (cond l (Deep (t ∷ rest)) (then t rest)) (G (t ∷ rest)))
  first_good t rest false e l i =
      along kind chosen (Either R S) Q d G S Q [] (t ∷ rest) (λ other s. goes_other other (stops_same kind (λ k. p k ≡ false) (t ∷ rest) other s e)) (λ m g o. opens_as (λ f v h r. inr r) o)
      (λ z k. record { front = k.front; whole = k.whole; reads = inr k.reads; fits = k.fits; stops = k.stops }) (G (t ∷ rest)) (y.good (t ∷ rest))
  first_good t rest true e true i =
      record { front = []; next = t; after = rest; is = refl; whole = refl; opens = opens_as (λ f v h r. inr r) y.sample; most = low; deeper = opens_as (λ f v h r. inl r) (first t e); local = λ other s. goes_deep t rest other e i s }
  first_good t rest true e false i =
      let le : low ≤ d = grind arith in
      along kind chosen (Either R S) Q d (then t) (Either (λ f. R (t ∷ f)) (λ f. S (t ∷ f))) Q (t ∷ []) rest (λ other s. goes_on t other e le)
      (λ m g o. record { rest = o.rest; value = o.value; nest = o.nest; reads = o.reads; fits = o.fits })
      (λ z k. record { front = t ∷ k.front; whole = ap (λ u. t ∷ u) k.whole; reads = k.reads; fits = k.fits; stops = k.stops }) (then t rest) ((then_at t e le).good rest)

  two_good : (ts : List T) → Good kind chosen (Either R S) Q d ts (chosen ts)
  two_good [] =
      along kind chosen (Either R S) Q d G S Q [] [] (λ other s. goes_other other (stops_same kind (λ k. p k ≡ false) [] other s tt)) (λ m g o. opens_as (λ f v h r. inr r) o)
      (λ z k. record { front = k.front; whole = k.whole; reads = inr k.reads; fits = k.fits; stops = k.stops }) (G []) (y.good [])
  two_good (t ∷ rest) = first_good t rest (p (kind t)) refl (nat_lt d low) refl

  then_left : (t u : T) (us : List T) → q (kind t) (kind u) ≡ true → then t (u ∷ us) ≡ F (t ∷ u ∷ us)
  then_left t u us e = rw e refl

  then_right : (t : T) (us : List T) → p (kind t) ≡ true → Apart kind p q (t ∷ us) → then t us ≡ G (t ∷ us)
  then_right t [] e a = refl
  then_right t (u ∷ us) e a = let e' : q (kind t) (kind u) ≡ false = a e in rw e' refl

  right_first : (t : T) (us : List T) (h : ℕ) → (p (kind t) ≡ true → low ≤ h) → h ≤ d → Apart kind p q (t ∷ us) → (b : Bool) → p (kind t) ≡ b → chosen (t ∷ us) ≡ G (t ∷ us)
  right_first t us h l fits a false e = goes_other (t ∷ us) e
  right_first t us h l fits a true e = let le = l e in goes_on t us e (omega arith) ∙ then_right t us e a

  two_complete : (f : List T) (v : A) (h : ℕ) (rest : List T) → Either R S f v h → h ≤ d → Stops kind (Q v) rest → chosen (f ++ rest) ≡ Read (v, h, rest)
  two_complete f v h rest (inl r) fits s =
      let b = begins f v h r in
      let le : low ≤ d = omega (arith, least f v h r) in
      let e : f ++ rest ≡ b.0 ∷ b.1 ∷ (b.2 ++ rest) = ap (λ k. k ++ rest) b.3 in
      let here : F (f ++ rest) ≡ Read (v, h, rest) = (x le).complete f v h rest r fits s in
      subst (λ u. chosen u ≡ Read (v, h, rest)) (sym e) (goes_on b.0 (b.1 ∷ (b.2 ++ rest)) b.4 le ∙ (then_left b.0 b.1 (b.2 ++ rest) b.5 ∙ subst (λ u. F u ≡ Read (v, h, rest)) e here))
  two_complete f v h rest (inr r) fits s =
      let b = solid f v h r in
      let e : f ++ rest ≡ b.0 ∷ (b.1 ++ rest) = ap (λ k. k ++ rest) b.2 in
      let a : Apart kind p q (b.0 ∷ (b.1 ++ rest)) = subst (λ u. Apart kind p q u) e (apart f v h rest r s) in
      subst (λ u. chosen u ≡ Read (v, h, rest)) (sym e) (right_first b.0 (b.1 ++ rest) h b.3 fits a (p (kind b.0)) refl ∙ subst (λ u. G u ≡ Read (v, h, rest)) e (y.complete f v h rest r fits s))

  -- the choice is read exactly in this room
  pub two_at : ExactAt kind d chosen (Either R S) Q
  two_at = record { sample = opens_as (λ f v h r. inr r) y.sample; good = two_good; complete = two_complete }

module _ {T A : Type 0} (p : T → Bool) (q : T → T → Bool) (low d e : ℕ) (F F' G G' : Reader T A) (le : d ≤ e) (f : low ≤ d → (ts : List T) → Keeps (F ts) (F' ts)) (g : (ts : List T) → Keeps (G ts) (G' ts)) where
  keeps_cond : (b : Bool) (r s r' s' : Reading T A) → Keeps r r' → Keeps s s' → Keeps (cond b r s) (cond b r' s')
  keeps_cond true r s r' s' a c = a
  keeps_cond false r s r' s' a c = c

  keeps_second : low ≤ d → (t : T) (us : List T) → Keeps (by_second q F G t us) (by_second q F' G' t us)
  keeps_second l t [] = g (t ∷ [])
  keeps_second l t (u ∷ us) = keeps_cond (q t u) (F (t ∷ u ∷ us)) (G (t ∷ u ∷ us)) (F' (t ∷ u ∷ us)) (G' (t ∷ u ∷ us)) (f l (t ∷ u ∷ us)) (g (t ∷ u ∷ us))

  keeps_first : (t : T) (us : List T) (b : Bool) → p t ≡ b → (l : Bool) → nat_lt d low ≡ l
      → Keeps (cond b (cond l (Deep (t ∷ us)) (by_second q F G t us)) (G (t ∷ us))) (cond b (cond (nat_lt e low) (Deep (t ∷ us)) (by_second q F' G' t us)) (G' (t ∷ us)))
  keeps_first t us false i l j = g (t ∷ us)
  keeps_first t us true i true j = tt
  keeps_first t us true i false j =
      let k : nat_lt e low ≡ false = grind arith in
      let m : low ≤ d = grind arith in
      rw k (keeps_second m t us)

  -- a choice by two tokens keeps with more room what its parts keep
  pub keeps_two : (ts : List T) → Keeps (either_two p q low d F G ts) (either_two p q low e F' G' ts)
  keeps_two [] = g []
  keeps_two (t ∷ us) = keeps_first t us (p t) refl (nat_lt d low) refl

-- One of two parts that begin with a token of the test, and with it take the same room at least.
pub exact_two : {T K A : Type 0} {kind : T → K} {n low least : ℕ} {F : ℕ → Reader T A} {R : List T → A → ℕ → Type 0} {G : ℕ → Reader T A} {S : List T → A → ℕ → Type 0} {Q : A → K → Type 0}
    (p : K → Bool) (q : K → K → Bool) → Exact kind n low F R Q → Exact kind n least G S Q → least ≤ low
    → ((f : List T) (v : A) (h : ℕ) → R f v h → (t : T) × (u : T) × (g : List T) × (f ≡ t ∷ u ∷ g) × (p (kind t) ≡ true) × (q (kind t) (kind u) ≡ true))
    → ((f : List T) (v : A) (h : ℕ) (rest : List T) → S f v h → Stops kind (Q v) rest → Apart kind p q (f ++ rest))
    → ((t : T) → p (kind t) ≡ true → Opens R low (t ∷ [])) → ((t : T) → p (kind t) ≡ true → Opens S low (t ∷ []))
    → ((f : List T) (v : A) (h : ℕ) → S f v h → (t : T) × (g : List T) × (f ≡ t ∷ g) × (p (kind t) ≡ true → low ≤ h))
    → Exact kind n least (λ d. either_two (λ t. p (kind t)) (λ t u. q (kind t) (kind u)) low d (F d) (G d)) (Either R S) Q
exact_two {kind = kind} {low = low} {F = F} {R = R} {G = G} {S = S} {Q = Q} p q x y lower begins apart first second solid = record {
  sample = let o = y.sample in record { rest = o.rest; value = o.value; nest = o.nest; reads = inr o.reads; fits = o.fits };
  least = λ f v h r. elim r [ inl a ↦ omega (arith, x.least f v h a) | inr b ↦ y.least f v h b ];
  at = λ d a b. two_at kind p q low d (F d) R (G d) S Q begins apart first second x.least solid (λ le. x.at d le b) (y.at d a b);
  keeps = λ d e a b l ts. keeps_two (λ t. p (kind t)) (λ t u. q (kind t) (kind u)) low d e (F d) (F e) (G d) (G e) b (λ le us. x.keeps d e le b l us) (y.keeps d e a b l) ts;
}
