-- Exact readers of chains, with every room, and what code needs to go along one.
use Rattle.std.proofs.Common.{◌≡◌, ℕ, zero, suc, ◌+◌, ◌≤◌, ◌<◌, Bool, true, false, List, [], ◌∷◌, ◌++◌, length, Option, Some, None, max, refl, sym, subst, ◌∙◌, arith, nat_lt, cond}
use Rattle.cpc_parser_reading.specs.Reading.{Read, Deep, Reader, ◌>>=◌}
use Rattle.cpc_parser_reading.specs.Chain.{Linking, linked_by, linked, links, chain, Chained, first, further, down, Joint}
use Rattle.cpc_parser_reading.specs.Exact.{SameHead, Took, Good, Keeps, ExactOn, Exact, Starts, Branch}
use Rattle.cpc_parser_reading.proofs.Behind.{along}
use Rattle.cpc_parser_reading.proofs.Keeps.{keeps_by}
use Rattle.cpc_parser_reading.proofs.Chain.{chain_at, links_next, steps}

-- what less room lacks
pub down_fills : (b d : ℕ) → b ≤ d → down b d + b ≡ d
down_fills zero d le = omega arith
down_fills (suc b) zero le = absurd (omega arith)
down_fills (suc b) (suc d) le = let k = down_fills b d (omega arith) in omega (arith, k)

-- what was read is as nested as it may be
pub read_nest : {T K A : Type 0} {kind : T → K} {n low : ℕ} {F : ℕ → Reader T A} {R : List T → A → ℕ → Type 0} {Q : A → K → Type 0} → Exact kind n low F R Q
    → (d : ℕ) → low ≤ d → d ≤ n → (ts : List T) (z : A × ℕ × List T) → F d ts ≡ Read z → (low ≤ z.1) × (z.1 ≤ d)
read_nest {kind = kind} {F = F} {R = R} {Q = Q} x d a b ts z e =
    let k : Took kind R Q d ts z = subst (λ r. Good kind (F d) R Q d ts r) e ((x.at d a b).good ts) in
    (x.least k.front z.0 z.1 k.reads, k.fits)

-- A branch's reader in other words.
module _ {T K A : Type 0} (kind : T → K) (P : K → Type 0) (d : ℕ) (F F' : Reader T A) (R : List T → A → ℕ → Type 0) (Q : A → K → Type 0) (same : (t : T) (rest : List T) → P (kind t) → F (t ∷ rest) ≡ F' (t ∷ rest)) where
  same_on : (t : T) (rest other : List T) → P (kind t) → SameHead kind (t ∷ rest) other → F' other ≡ F other
  same_on t rest [] p s = absurd s
  same_on t rest (u ∷ us) p s = sym (same u us (subst P s p))

  -- such a reader is as exact as the other
  pub on_as : ExactOn kind P d F R Q → ExactOn kind P d F' R Q
  on_as x = record {
    good = λ t rest p. subst (λ r. Good kind F' R Q d (t ∷ rest) r) (same t rest p)
        (along kind F' R Q d F R Q [] (t ∷ rest) (λ other s. same_on t rest other p s) (λ m g o. o) (λ z k. record { front = k.front; whole = k.whole; reads = k.reads; fits = k.fits; stops = k.stops }) (F (t ∷ rest)) (x.good t rest p));
    complete = λ t g v h rest p r fits s. sym (same t (g ++ rest) p) ∙ x.complete t g v h rest p r fits s;
  }

module _ {T K C A B : Type 0} {kind : T → K} {n low : ℕ} {class : A → K → Option C} {full : ℕ → C → ℕ → Bool} {make : C → A → B → A} {nest : C → ℕ → ℕ → ℕ}
    {fine : A → C → Type 0} {begin : C → K → Type 0} {Q : A → K → Type 0} {P : C → B → K → Type 0} {left right least up : C → ℕ}
    {G : C → ℕ → Reader T B} {S : C → List T → B → ℕ → Type 0}
    (joint : Joint kind n low class full make nest fine begin Q P left right least)
    (y : (c : C) → Branch kind (begin c) (up c) (least c) (G c) (S c) (P c)) (high : (c : C) → n ≤ up c + right c)
    (part : ℕ → C → Reader T B)
    (same : (d : ℕ) (c : C) (t : T) (rest : List T) → least c + right c ≤ d → d ≤ n → begin c (kind t) → G c (down (right c) d) (t ∷ rest) ≡ part d c (t ∷ rest)) where
  part_on : (d : ℕ) → d ≤ n → (c : C) → least c + right c ≤ d → ExactOn kind (begin c) (down (right c) d) (part d c) (S c) (P c)
  part_on d le c fit =
      let k = down_fills (right c) d (omega arith) in
      let h = high c in
      on_as kind (begin c) (down (right c) d) (G c (down (right c) d)) (part d c) (S c) (P c) (λ t rest p. same d c t rest fit le p) ((y c).on (down (right c) d) (omega (arith, k)) (omega (arith, k, h)))

  fills : (d : ℕ) (c : C) → least c + right c ≤ d → down (right c) d + right c ≡ d
  fills d c fit = down_fills (right c) d (omega arith)

  -- the links with the room
  abbrev pub linking : ℕ → Linking T C A B
  linking d = record { class = λ v t. class v (kind t); full = full d; part = part d; make = make; nest = nest }

  starts : (c : C) → Starts kind (begin c) (S c)
  starts c = (y c).starts

  part_steps : (d : ℕ) (le : d ≤ n) (c : C) (v : A) (h : ℕ) (t : T) (rest : List T) (z : B × ℕ × List T) → low ≤ h → h ≤ d → class v (kind t) ≡ Some c → full d c h ≡ false → part d c (t ∷ rest) ≡ Read z
      → (length z.2 < length (t ∷ rest)) × (nest c h z.1 ≤ d) × (low ≤ nest c h z.1)
  part_steps d le c v h t rest z lo hi e f i =
      let s = steps kind n low d le class full (part d) make nest fine begin Q S P left right least (λ b. down (right b) d) joint starts (part_on d le) (fills d) c v h t rest z lo hi e f i in
      (s.shorter, s.high, s.above)

  keeps_part : (d e : ℕ) → d ≤ e → e ≤ n → (c : C) (t : T) (rest : List T) → least c + right c ≤ d → begin c (kind t) → Keeps (part d c (t ∷ rest)) (part e c (t ∷ rest))
  keeps_part d e le me c t rest fit p =
      let i = down_fills (right c) d (omega arith) in
      let j = down_fills (right c) e (omega arith) in
      let h = high c in
      subst (λ r. Keeps r (part e c (t ∷ rest))) (same d c t rest fit (omega arith) p)
      (subst (λ r. Keeps (G c (down (right c) d) (t ∷ rest)) r) (same e c t rest (omega arith) me p)
      ((y c).keeps (down (right c) d) (down (right c) e) (omega (arith, i)) (omega (arith, i, j)) (omega (arith, j, h)) t rest p))

  module _ (d e : ℕ) (le : d ≤ e) (me : e ≤ n) where
    KeepsFor : ℕ → Type 0
    KeepsFor m = (v : A) (h : ℕ) (ts : List T) → low ≤ h → h ≤ d → Keeps (linked (linking d) m v h ts) (linked (linking e) m v h ts)

    keeps_full : (m : ℕ) → KeepsFor m → (c : C) (v : A) (h : ℕ) (t : T) (rest : List T) → low ≤ h → h ≤ d → class v (kind t) ≡ Some c → (b : Bool) → full d c h ≡ b
        → Keeps (cond b (Deep (t ∷ rest)) (part d c (t ∷ rest) >>= λ x. linked (linking d) m (make c v x.0) (nest c h x.1) x.2))
        (cond (full e c h) (Deep (t ∷ rest)) (part e c (t ∷ rest) >>= λ x. linked (linking e) m (make c v x.0) (nest c h x.1) x.2))
    unfolding KeepsFor
    keeps_full m ih c v h t rest lo hi i true b = tt
    keeps_full m ih c v h t rest lo hi i false b =
        let f = joint.fits d c h lo hi (omega arith) b in
        let b' : full e c h ≡ false = joint.free e c h (omega (arith, f.0)) (omega (arith, f.1)) in
        rw b' (keeps_by (part d c (t ∷ rest)) (part e c (t ∷ rest)) (λ x. linked (linking d) m (make c v x.0) (nest c h x.1) x.2) (λ x. linked (linking e) m (make c v x.0) (nest c h x.1) x.2)
        (keeps_part d e le me c t rest f.1 (joint.begins v (kind t) c i))
        (λ z r. let s = part_steps d (omega arith) c v h t rest z lo hi i b r in ih (make c v z.0) (nest c h z.1) z.2 s.2 s.1))

    keeps_class : (m : ℕ) → KeepsFor m → (v : A) (h : ℕ) (t : T) (rest : List T) → low ≤ h → h ≤ d → (o : Option C) → class v (kind t) ≡ o
        → Keeps (linked_by (linking d) (λ w i us. linked (linking d) m w i us) v h t rest o) (linked_by (linking e) (λ w i us. linked (linking e) m w i us) v h t rest o)
    keeps_class m ih v h t rest lo hi None i = refl
    keeps_class m ih v h t rest lo hi (Some c) i = keeps_full m ih c v h t rest lo hi i (full d c h) refl

    keeps_linked : (m : ℕ) → KeepsFor m
    unfolding linked KeepsFor
    keeps_linked zero v h ts lo hi = tt
    keeps_linked (suc m) v h [] lo hi = refl
    keeps_linked (suc m) v h (t ∷ rest) lo hi = keeps_class m (keeps_linked m) v h t rest lo hi (class v (kind t)) refl

    keeps_links : (v : A) (h : ℕ) (ts : List T) → low ≤ h → h ≤ d → Keeps (links (linking d) v h ts) (links (linking e) v h ts)
    unfolding links KeepsFor
    keeps_links v h ts lo hi = keeps_linked (suc (length ts)) v h ts lo hi

  least_of : {F : ℕ → Reader T A} {R : List T → A → ℕ → Type 0} (x : Exact kind n low F R Q) (f : List T) (v : A) (h : ℕ) → Chained kind class fine make nest R S f v h → low ≤ h
  least_of x f v h (first g u i r) = x.least g u i r
  least_of x f v h (further g g' t c u w i j r e ok q) = let k = joint.grows c i j in omega (arith, k, least_of x g u i r)

  -- A chain is read exactly, if its first part and its branches are.
  pub exact_chain : {F : ℕ → Reader T A} {R : List T → A → ℕ → Type 0} → Exact kind n low F R Q
      → Exact kind n low (λ d. chain (F d) (linking d)) (Chained kind class fine make nest R S) (λ v k. Q v k × (class v k ≡ None))
  exact_chain {F = F} {R = R} x = record {
    sample = let o = x.sample in record { rest = o.rest; value = o.value; nest = o.nest; reads = first o.rest o.value o.nest o.reads; fits = o.fits };
    least = least_of x;
    at = λ d a b. chain_at kind n low d b class full (part d) make nest fine begin Q S P left right least (λ c. down (right c) d) joint starts (part_on d b) (fills d) (λ c. (y c).least) (F d) R (x.at d a b) x.least;
    keeps = λ d e a b l ts. keeps_by (F d ts) (F e ts) (λ z. links (linking d) z.0 z.1 z.2) (λ z. links (linking e) z.0 z.1 z.2) (x.keeps d e a b l ts)
        (λ z r. let k = read_nest x d a (omega arith) ts z r in keeps_links d e b l z.0 z.1 z.2 k.0 k.1);
  }

  -- one part more
  pub links_on : (d : ℕ) → d ≤ n → (c : C) (v : A) (h : ℕ) (t : T) (rest : List T) → low ≤ h → h ≤ d → class v (kind t) ≡ Some c → full d c h ≡ false
      → links (linking d) v h (t ∷ rest) ≡ (part d c (t ∷ rest) >>= λ z. links (linking d) (make c v z.0) (nest c h z.1) z.2)
  links_on d le = links_next kind n low d le class full (part d) make nest fine begin Q S P left right least (λ b. down (right b) d) joint starts (part_on d le) (fills d)

-- the test for room that is exact for any weights
pub fits_room : (d a b : ℕ) → nat_lt d (max a b) ≡ false → (a ≤ d) × (b ≤ d)
fits_room d a b e = let k : max a b ≤ d = grind arith in (omega arith, omega arith)

-- there is room for both
pub free_room : (d a b : ℕ) → a ≤ d → b ≤ d → nat_lt d (max a b) ≡ false
free_room d a b l m = let k : max a b ≤ d = omega arith in grind arith
