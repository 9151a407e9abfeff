-- Exact readers of one of several parts, which the first token tells apart.
use Rattle.std.proofs.Common.{◌≡◌, ℕ, ◌≤◌, ◌<◌, Bool, true, false, List, [], ◌∷◌, ◌++◌, Option, Some, None, refl, ap, subst, ◌∙◌, arith, nat_lt, cond, inl, inr}
use Rattle.cpc_parser_reading.specs.Reading.{Read, Fault, Deep, Reader, headed, either, one_of, by_class, optional, after}
use Rattle.cpc_parser_reading.specs.Phrase.{Headed, Either, OneOf, Mapped, Optional, After}
use Rattle.cpc_parser_reading.specs.Exact.{SameHead, Stops, Opens, Good, Keeps, ExactAt, ExactOn, Exact, Starts, Branch, Absent, Sample}
use Rattle.cpc_parser_reading.proofs.Heads.{stops_same, opens_as}
use Rattle.cpc_parser_reading.proofs.Behind.{along}
use Rattle.cpc_parser_reading.proofs.Values.{exact_as, exact_mapped}
use Rattle.cpc_parser_reading.proofs.Starts.{starts_mapped, starts_after}
use Rattle.cpc_parser_reading.proofs.Sequence.{exact_after}

-- no test for room fails where there is room
pub not_less : (a b : ℕ) → b ≤ a → nat_lt a b ≡ false
not_less a b e = grind arith

-- An exact reader of lists that begin with P is a branch.
pub branch : {T K A : Type 0} {kind : T → K} {P : K → Type 0} {n low : ℕ} {F : ℕ → Reader T A} {R : List T → A → ℕ → Type 0} {Q : A → K → Type 0}
    → Starts kind P R → Exact kind n low F R Q → Branch kind P n low F R Q
branch s x = record {
  starts = s;
  least = x.least;
  on = λ d a b. let y = x.at d a b in record { good = λ t rest p. y.good (t ∷ rest); complete = λ t g v h rest p r fits q. y.complete (t ∷ g) v h rest r fits q };
  keeps = λ d e a b l t rest p. x.keeps d e a b l (t ∷ rest);
}

tail_is : {T : Type 0} (t u : T) (f g : List T) → t ∷ f ≡ u ∷ g → (t ≡ u) × (f ≡ g)
tail_is t u f g e = (cc, cc)

-- So is a token of P, and what is read behind it.
module _ {T K A : Type 0} (kind : T → K) (P : K → Type 0) (n low : ℕ) (F : T → ℕ → Reader T A) (S : T → List T → A → ℕ → Type 0) (Q : A → K → Type 0)
    (x : (t : T) → P (kind t) → Exact kind n low (F t) (S t) Q) where
  headed_good : (d : ℕ) → low ≤ d → d ≤ n → (t : T) (rest : List T) → P (kind t) → Good kind (headed (λ u. F u d)) (Headed kind P S) Q d (t ∷ rest) (F t d rest)
  headed_good d a b t rest p =
      along kind (headed (λ u. F u d)) (Headed kind P S) Q d (F t d) (S t) Q (t ∷ []) rest (λ other s. refl)
      (λ m g o. record { rest = o.rest; value = o.value; nest = o.nest; reads = (t, g ++ o.rest, refl, p, o.reads); fits = o.fits })
      (λ z k. record { front = t ∷ k.front; whole = ap (λ u. t ∷ u) k.whole; reads = (t, k.front, refl, p, k.reads); fits = k.fits; stops = k.stops })
      (F t d rest) (((x t p).at d a b).good rest)

  headed_complete : (d : ℕ) → low ≤ d → d ≤ n → (t : T) (g : List T) (v : A) (h : ℕ) (rest : List T) → Headed kind P S (t ∷ g) v h → h ≤ d → Stops kind (Q v) rest → F t d (g ++ rest) ≡ Read (v, h, rest)
  headed_complete d a b t g v h rest (u, f, e, p, r) fits s =
      let k = tail_is t u g f e in
      rw (k.0, k.1) (((x u p).at d a b).complete f v h rest r fits s)

-- the branch of a first token and what is read behind it
pub headed_branch : {T K A : Type 0} {kind : T → K} {P : K → Type 0} {n low : ℕ} {F : T → ℕ → Reader T A} {S : T → List T → A → ℕ → Type 0} {Q : A → K → Type 0}
    → ((t : T) → P (kind t) → Exact kind n low (F t) (S t) Q) → Branch kind P n low (λ d. headed (λ t. F t d)) (Headed kind P S) Q
headed_branch {kind = kind} {P = P} {n = n} {low = low} {F = F} {S = S} {Q = Q} x = record {
  starts = record {
    head = λ f v h r. (r.0, r.1, r.2, r.3);
    each = λ t p. let o = (x t p).sample in (low, record { rest = o.rest; value = o.value; nest = o.nest; reads = (t, o.rest, refl, p, o.reads); fits = o.fits });
  };
  least = λ f v h r. (x r.0 r.3).least r.1 v h r.4;
  on = λ d a b. record { good = headed_good kind P n low F S Q x d a b; complete = λ t g v h rest p r fits s. headed_complete kind P n low F S Q x d a b t g v h rest r fits s };
  keeps = λ d e a b l t rest p. (x t p).keeps d e a b l rest;
}

-- A token of a test, and a part behind it, as a branch.
pub after_branch : {T K A : Type 0} {kind : T → K} {n low : ℕ} {F : ℕ → Reader T A} {R : List T → A → ℕ → Type 0} {Q : A → K → Type 0} {p : K → Bool}
    → Sample kind p → Exact kind n low F R Q → Branch kind (λ k. p k ≡ true) n low (λ d. after (λ t. p (kind t)) (F d)) (After (λ t. p (kind t)) R) Q
after_branch c x = branch (starts_after x.sample) (exact_after c x)

-- One of many parts, told apart by the class of the first token.
module _ {T K C A : Type 0} (kind : T → K) (class : K → Option C) (low : C → ℕ) (d : ℕ) (F : C → Reader T A) (R : C → List T → A → ℕ → Type 0) (Q : A → K → Type 0)
    (starts : (c : C) → Starts kind (λ k. class k ≡ Some c) (R c)) (least : (c : C) (f : List T) (v : A) (h : ℕ) → R c f v h → low c ≤ h)
    (x : (c : C) → low c ≤ d → ExactOn kind (λ k. class k ≡ Some c) d (F c) (R c) Q) (sample : Opens (OneOf R) d []) where
  abbrev chosen : Reader T A
  chosen = one_of (λ t. class (kind t)) low d F

  one_opens : (c : C) (m : ℕ) (front : List T) → Opens (R c) m front → Opens (OneOf R) m front
  one_opens c m front o = record { rest = o.rest; value = o.value; nest = o.nest; reads = (c, o.reads); fits = o.fits }

  goes : (t : T) (rest other : List T) (c : C) → class (kind t) ≡ Some c → low c ≤ d → SameHead kind (t ∷ rest) other → chosen other ≡ F c other
  goes t rest [] c e le s = absurd s
  goes t rest (u ∷ us) c e le s = let e' : class (kind u) ≡ Some c = subst (λ k. class k ≡ Some c) s e in rw (e', not_less d (low c) le) refl

  stays : (t : T) (rest other : List T) → class (kind t) ≡ None → SameHead kind (t ∷ rest) other → chosen other ≡ Fault other
  stays t rest [] e s = absurd s
  stays t rest (u ∷ us) e s = let e' : class (kind u) ≡ None = subst (λ k. class k ≡ None) s e in rw e' refl

  waits : (t : T) (rest other : List T) (c : C) → class (kind t) ≡ Some c → nat_lt d (low c) ≡ true → SameHead kind (t ∷ rest) other → chosen other ≡ Deep other
  waits t rest [] c e b s = absurd s
  waits t rest (u ∷ us) c e b s = let e' : class (kind u) ≡ Some c = subst (λ k. class k ≡ Some c) s e in rw (e', b) refl

  ends : (other : List T) → SameHead kind [] other → chosen other ≡ Fault other
  ends [] s = refl
  ends (u ∷ us) s = absurd s

  room_good : (t : T) (rest : List T) (c : C) → class (kind t) ≡ Some c → (b : Bool) → nat_lt d (low c) ≡ b → Good kind chosen (OneOf R) Q d (t ∷ rest) (cond b (Deep (t ∷ rest)) (F c (t ∷ rest)))
  room_good t rest c e false b =
      let le : low c ≤ d = grind arith in
      along kind chosen (OneOf R) Q d (F c) (R c) Q [] (t ∷ rest) (λ other s. goes t rest other c e le s) (λ m g o. one_opens c m g o)
      (λ z k. record { front = k.front; whole = k.whole; reads = (c, k.reads); fits = k.fits; stops = k.stops }) (F c (t ∷ rest)) ((x c le).good t rest e)
  room_good t rest c e true b =
      let k = (starts c).each t e in
      record { front = []; next = t; after = rest; is = refl; whole = refl; opens = sample; most = k.0; deeper = one_opens c k.0 (t ∷ []) k.1; local = λ other s. waits t rest other c e b s }

  class_good : (t : T) (rest : List T) (o : Option C) → class (kind t) ≡ o → Good kind chosen (OneOf R) Q d (t ∷ rest) (by_class low d F t rest o)
  class_good t rest None e = record { front = []; whole = refl; opens = sample; local = λ other s. stays t rest other e s }
  class_good t rest (Some c) e = room_good t rest c e (nat_lt d (low c)) refl

  one_good : (ts : List T) → Good kind chosen (OneOf R) Q d ts (chosen ts)
  one_good [] = record { front = []; whole = refl; opens = sample; local = ends }
  one_good (t ∷ rest) = class_good t rest (class (kind t)) refl

  one_complete : (f : List T) (v : A) (h : ℕ) (rest : List T) → OneOf R f v h → h ≤ d → Stops kind (Q v) rest → chosen (f ++ rest) ≡ Read (v, h, rest)
  one_complete f v h rest (c, r) fits s =
      let b = (starts c).head f v h r in
      let le : low c ≤ d = omega (arith, least c f v h r) in
      let e : f ++ rest ≡ b.0 ∷ (b.1 ++ rest) = ap (λ u. u ++ rest) b.2 in
      rw e (goes b.0 (b.1 ++ rest) (b.0 ∷ (b.1 ++ rest)) c b.3 le refl ∙ (x c le).complete b.0 b.1 v h rest b.3 (subst (λ u. R c u v h) b.2 r) fits s)

  one_at : ExactAt kind d chosen (OneOf R) Q
  one_at = record { sample = sample; good = one_good; complete = one_complete }

module _ {T C A : Type 0} (class : T → Option C) (low : C → ℕ) (d e : ℕ) (F G : C → Reader T A) (le : d ≤ e) (keeps : (c : C) (t : T) (rest : List T) → class t ≡ Some c → low c ≤ d → Keeps (F c (t ∷ rest)) (G c (t ∷ rest))) where
  keeps_room : (t : T) (rest : List T) (c : C) → class t ≡ Some c → (b : Bool) → nat_lt d (low c) ≡ b
      → Keeps (cond b (Deep (t ∷ rest)) (F c (t ∷ rest))) (cond (nat_lt e (low c)) (Deep (t ∷ rest)) (G c (t ∷ rest)))
  keeps_room t rest c i true b = tt
  keeps_room t rest c i false b =
      let k : nat_lt e (low c) ≡ false = grind arith in
      let l : low c ≤ d = grind arith in
      rw k (keeps c t rest i l)

  keeps_class : (t : T) (rest : List T) (o : Option C) → class t ≡ o → Keeps (by_class low d F t rest o) (by_class low e G t rest o)
  keeps_class t rest None i = refl
  keeps_class t rest (Some c) i = keeps_room t rest c i (nat_lt d (low c)) refl

  -- a choice by class keeps with more room what its parts keep
  pub keeps_one_of : (ts : List T) → Keeps (one_of class low d F ts) (one_of class low e G ts)
  keeps_one_of [] = refl
  keeps_one_of (t ∷ rest) = keeps_class t rest (class t) refl

-- The sample is of a class with the least nesting.
pub exact_one_of : {T K C A : Type 0} {kind : T → K} {n least : ℕ} {low : C → ℕ} {F : C → ℕ → Reader T A} {R : C → List T → A → ℕ → Type 0} {Q : A → K → Type 0}
    (class : K → Option C) → ((c : C) → Branch kind (λ k. class k ≡ Some c) n (low c) (F c) (R c) Q) → ((c : C) → least ≤ low c) → Opens (OneOf R) least []
    → Exact kind n least (λ d. one_of (λ t. class (kind t)) low d (λ c. F c d)) (OneOf R) Q
exact_one_of {kind = kind} {low = low} {F = F} {R = R} {Q = Q} class x lowest o = record {
  sample = o;
  least = λ f v h r. omega (arith, (x r.0).least f v h r.1, lowest r.0);
  at = λ d a b. one_at kind class low d (λ u. F u d) R Q (λ u. (x u).starts) (λ u. (x u).least) (λ u le. (x u).on d le b)
      (record { rest = o.rest; value = o.value; nest = o.nest; reads = o.reads; fits = omega (arith, o.fits) });
  keeps = λ d e a b l ts. keeps_one_of (λ t. class (kind t)) low d e (λ u. F u d) (λ u. F u e) b (λ u t rest i le. (x u).keeps d e le b l t rest i) ts;
}

-- a choice by class begins with the tokens that have one
pub starts_one_of : {T K C A : Type 0} {kind : T → K} {R : C → List T → A → ℕ → Type 0} (class : K → Option C) → ((c : C) → Starts kind (λ k. class k ≡ Some c) (R c))
    → Starts kind (λ k. (c : C) × (class k ≡ Some c)) (OneOf R)
starts_one_of class s = record {
  head = λ f v h r. let b = (s r.0).head f v h r.1 in (b.0, b.1, b.2, (r.0, b.3));
  each = λ t e. let k = (s e.0).each t e.1 in let o = k.1 in (k.0, record { rest = o.rest; value = o.value; nest = o.nest; reads = (e.0, o.reads); fits = o.fits });
}

-- One of two parts. The first begins with tokens of the test. A list of the second that may stop never seems to.
module _ {T K A : Type 0} (kind : T → K) (p : K → Bool) (low d : ℕ) (F : Reader T A) (R : List T → A → ℕ → Type 0) (G : Reader T A) (S : List T → A → ℕ → Type 0) (Q : A → K → Type 0)
    (head : (f : List T) (v : A) (h : ℕ) → R f v h → (t : T) × (g : List T) × (f ≡ t ∷ g) × (p (kind t) ≡ true))
    (each : (t : T) → p (kind t) ≡ true → d < low → (m : ℕ) × Opens R m (t ∷ [])) (least : (f : List T) (v : A) (h : ℕ) → R f v h → low ≤ h)
    (x : low ≤ d → ExactOn kind (λ k. p k ≡ true) d F R Q) (sample : Opens S d []) (good : (ts : List T) → Stops kind (λ k. p k ≡ false) ts → Good kind G S Q d ts (G ts))
    (complete : (f : List T) (v : A) (h : ℕ) (rest : List T) → S f v h → h ≤ d → Stops kind (Q v) rest → G (f ++ rest) ≡ Read (v, h, rest))
    (apart : (f : List T) (v : A) (h : ℕ) (rest : List T) → S f v h → Stops kind (Q v) rest → Stops kind (λ k. p k ≡ false) (f ++ rest)) where
  abbrev picked : Reader T A
  picked = either (λ t. p (kind t)) low d F G

  goes_left : (t : T) (rest other : List T) → p (kind t) ≡ true → low ≤ d → SameHead kind (t ∷ rest) other → picked other ≡ F other
  goes_left t rest [] e le s = absurd s
  goes_left t rest (u ∷ us) e le s = let e' : p (kind u) ≡ true = subst (λ k. p k ≡ true) s e in rw (e', not_less d low le) refl

  goes_deep : (t : T) (rest other : List T) → p (kind t) ≡ true → nat_lt d low ≡ true → SameHead kind (t ∷ rest) other → picked other ≡ Deep other
  goes_deep t rest [] e b s = absurd s
  goes_deep t rest (u ∷ us) e b s = let e' : p (kind u) ≡ true = subst (λ k. p k ≡ true) s e in rw (e', b) refl

  goes_right : (ts : List T) → Stops kind (λ k. p k ≡ false) ts → picked ts ≡ G ts
  goes_right [] s = refl
  goes_right (t ∷ ts) s = rw s refl

  right_good : (ts : List T) → Stops kind (λ k. p k ≡ false) ts → Good kind picked (Either R S) Q d ts (G ts)
  right_good ts e = along kind picked (Either R S) Q d G S Q [] ts (λ other s. goes_right other (stops_same kind (λ k. p k ≡ false) ts other s e)) (λ m g o. opens_as (λ f v h r. inr r) o)
      (λ z k. record { front = k.front; whole = k.whole; reads = inr k.reads; fits = k.fits; stops = k.stops }) (G ts) (good ts e)

  first_good : (t : T) (rest : List T) (b : Bool) → p (kind t) ≡ b → (l : Bool) → nat_lt d low ≡ l
      → Good kind picked (Either R S) Q d (t ∷ rest) (cond b (cond l (Deep (t ∷ rest)) (F (t ∷ rest))) (G (t ∷ rest)))
  first_good t rest false e l i = right_good (t ∷ rest) e
  first_good t rest true e false i =
      let le : low ≤ d = grind arith in
      along kind picked (Either R S) Q d F R Q [] (t ∷ rest) (λ other s. goes_left t rest other e le s) (λ m g o. opens_as (λ f v h r. inl r) o)
      (λ z k. record { front = k.front; whole = k.whole; reads = inl k.reads; fits = k.fits; stops = k.stops }) (F (t ∷ rest)) ((x le).good t rest e)
  first_good t rest true e true i =
      let l : d < low = grind arith in
      let k = each t e l in
      record { front = []; next = t; after = rest; is = refl; whole = refl; opens = opens_as (λ f v h r. inr r) sample; most = k.0; deeper = opens_as (λ f v h r. inl r) k.1; local = λ other s. goes_deep t rest other e i s }

  either_good : (ts : List T) → Good kind picked (Either R S) Q d ts (picked ts)
  either_good [] = right_good [] tt
  either_good (t ∷ rest) = first_good t rest (p (kind t)) refl (nat_lt d low) refl

  either_complete : (f : List T) (v : A) (h : ℕ) (rest : List T) → Either R S f v h → h ≤ d → Stops kind (Q v) rest → picked (f ++ rest) ≡ Read (v, h, rest)
  either_complete f v h rest (inl r) fits s =
      let b = head f v h r in
      let le : low ≤ d = omega (arith, least f v h r) in
      let e : f ++ rest ≡ b.0 ∷ (b.1 ++ rest) = ap (λ u. u ++ rest) b.2 in
      rw e (goes_left b.0 (b.1 ++ rest) (b.0 ∷ (b.1 ++ rest)) b.3 le refl ∙ (x le).complete b.0 b.1 v h rest b.3 (subst (λ u. R u v h) b.2 r) fits s)
  either_complete f v h rest (inr r) fits s = goes_right (f ++ rest) (apart f v h rest r s) ∙ complete f v h rest r fits s

  -- the choice is read exactly in this room
  pub either_at : ExactAt kind d picked (Either R S) Q
  either_at = record { sample = opens_as (λ f v h r. inr r) sample; good = either_good; complete = either_complete }

module _ {T A : Type 0} (p : T → Bool) (low d e : ℕ) (F F' G G' : Reader T A) (le : d ≤ e)
    (f : (t : T) (rest : List T) → p t ≡ true → low ≤ d → Keeps (F (t ∷ rest)) (F' (t ∷ rest))) (g : (ts : List T) → Keeps (G ts) (G' ts)) where
  keeps_first : (t : T) (rest : List T) (b : Bool) → p t ≡ b → (l : Bool) → nat_lt d low ≡ l
      → Keeps (cond b (cond l (Deep (t ∷ rest)) (F (t ∷ rest))) (G (t ∷ rest))) (cond b (cond (nat_lt e low) (Deep (t ∷ rest)) (F' (t ∷ rest))) (G' (t ∷ rest)))
  keeps_first t rest false i l j = g (t ∷ rest)
  keeps_first t rest true i true j = tt
  keeps_first t rest true i false j =
      let k : nat_lt e low ≡ false = grind arith in
      let m : low ≤ d = grind arith in
      rw k (f t rest i m)

  -- a choice by a test keeps with more room what its parts keep
  pub keeps_either : (ts : List T) → Keeps (either p low d F G ts) (either p low e F' G' ts)
  keeps_either [] = g []
  keeps_either (t ∷ rest) = keeps_first t rest (p t) refl (nat_lt d low) refl

-- The first part is a branch, and the second is no deeper.
pub exact_either : {T K A : Type 0} {kind : T → K} {n low least : ℕ} {p : K → Bool} {F : ℕ → Reader T A} {R : List T → A → ℕ → Type 0} {G : ℕ → Reader T A} {S : List T → A → ℕ → Type 0} {Q : A → K → Type 0}
    → Branch kind (λ k. p k ≡ true) n low F R Q → Exact kind n least G S Q → least ≤ low
    → ((f : List T) (v : A) (h : ℕ) (rest : List T) → S f v h → Stops kind (Q v) rest → Stops kind (λ k. p k ≡ false) (f ++ rest))
    → Exact kind n least (λ d. either (λ t. p (kind t)) low d (F d) (G d)) (Either R S) Q
exact_either {kind = kind} {low = low} {p = p} {F = F} {R = R} {G = G} {S = S} {Q = Q} x y lower apart = record {
  sample = let o = y.sample in record { rest = o.rest; value = o.value; nest = o.nest; reads = inr o.reads; fits = o.fits };
  least = λ f v h r. elim r [ inl a ↦ omega (arith, x.least f v h a) | inr b ↦ y.least f v h b ];
  at = λ d a b. either_at kind p low d (F d) R (G d) S Q x.starts.head (λ t e l. x.starts.each t e) x.least (λ le. x.on d le b) (y.at d a b).sample (λ ts e. (y.at d a b).good ts) (y.at d a b).complete apart;
  keeps = λ d e a b l ts. keeps_either (λ t. p (kind t)) low d e (F d) (F e) (G d) (G e) b (λ t rest i le. x.keeps d e le b l t rest i) (y.keeps d e a b l) ts;
}

-- a part that is absent
abbrev Missing : {T A : Type 0} → List T → Option A → ℕ → Type 0
Missing f o h = (f ≡ []) × (o ≡ None) × (h ≡ 0)

missing : {T A : Type 0} (d : ℕ) → Opens {T = T} {A = Option A} Missing d []
missing d = record { rest = []; value = None; nest = 0; reads = (refl, refl, refl); fits = omega arith }

-- its reader
abbrev absent : {T A : Type 0} → Reader T (Option A)
absent ts = Read (None, 0, ts)

exact_perhaps : {T K A : Type 0} {kind : T → K} {n low : ℕ} {p : K → Bool} {F : ℕ → Reader T (Option A)} {R : List T → Option A → ℕ → Type 0} {Q : A → K → Type 0}
    → Branch kind (λ k. p k ≡ true) n low F R (Absent p Q) → Exact kind n 0 (λ d. either (λ t. p (kind t)) low d (F d) absent) (Either R Missing) (Absent p Q)
exact_perhaps {T = T} {kind = kind} {n = n} {low = low} {p = p} {F = F} {R = R} {Q = Q} x = record {
  sample = record { rest = []; value = None; nest = 0; reads = inr (refl, refl, refl); fits = omega arith };
  least = λ f v h r. omega arith;
  at = λ d a b. either_at kind p low d (F d) R absent Missing (Absent p Q) x.starts.head (λ t e l. x.starts.each t e) x.least (λ le. x.on d le b) (missing d)
      (λ ts e. record { front = []; whole = refl; reads = (refl, refl, refl); fits = omega arith; stops = e })
      (λ f v h rest r fits s. rw (r.0, r.1, r.2) refl)
      (λ f v h rest r s. rw r.0 (subst (λ o. Stops kind (Absent p Q o) rest) r.1 s));
  keeps = λ d e a b l ts. keeps_either (λ t. p (kind t)) low d e (F d) (F e) absent absent b (λ t rest i le. x.keeps d e le b l t rest i) (λ us. refl) ts;
}

to_optional : {T A : Type 0} (R : List T → A → ℕ → Type 0) (f : List T) (o : Option A) (h : ℕ) → Either (Mapped (λ v. Some v) R) Missing f o h → Optional R f o h
to_optional R f o h (inl (v, e, r)) = rw e r
to_optional R f o h (inr (e, i, z)) = rw i (e, z)

of_optional : {T A : Type 0} (R : List T → A → ℕ → Type 0) (f : List T) (o : Option A) (h : ℕ) → Optional R f o h → Either (Mapped (λ v. Some v) R) Missing f o h
of_optional R f None h r = inr (r.0, refl, r.1)
of_optional R f (Some v) h r = inl (v, refl, r)

-- A part that can be absent. Nothing that begins it may stand in its place.
pub exact_optional : {T K A : Type 0} {kind : T → K} {n low : ℕ} {p : K → Bool} {F : ℕ → Reader T A} {R : List T → A → ℕ → Type 0} {Q : A → K → Type 0}
    → Starts kind (λ k. p k ≡ true) R → Exact kind n low F R Q → Exact kind n 0 (λ d. optional (λ t. p (kind t)) low d (F d)) (Optional R) (Absent p Q)
exact_optional {T = T} {A = A} {kind = kind} {n = n} {p = p} {F = F} {R = R} {Q = Q} s x =
    exact_as (exact_perhaps (branch (starts_mapped s (λ v. Some v)) (exact_mapped (λ v. Some v) (Absent p Q) x (λ w k q. q) (λ w k q. q))))
    (λ d ts a b. refl) (to_optional R) (of_optional R)
