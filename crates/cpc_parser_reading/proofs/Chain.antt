-- Exact readers of a first part and of parts that carry it on. All repetition stands on the induction here.
use Rattle.std.proofs.Common.{◌≡◌, ℕ, zero, suc, ◌+◌, ◌≤◌, ◌<◌, Bool, true, false, List, [], ◌∷◌, ◌++◌, length, Option, Some, None, max, refl, sym, ap, subst, ◌∙◌, append_assoc, arith, cond, length-append}
use Rattle.std.proofs.lemmas.List.{append-nil}
use Rattle.cpc_parser_reading.specs.Reading.{Reading, Read, Fault, Deep, Reader, ◌>>=◌}
use Rattle.cpc_parser_reading.specs.Chain.{Linking, linked_by, linked, links, chain, Chained, first, further, Joint}
use Rattle.cpc_parser_reading.specs.Exact.{SameHead, Stops, Opens, Took, Good, ExactAt, ExactOn, Starts}
use Rattle.cpc_parser_reading.proofs.Heads.{stops_as}
use Rattle.cpc_parser_reading.proofs.Behind.{behind}

-- One step along a chain.
module _ {T C A B : Type 0} (l : Linking T C A B) (v : A) (h : ℕ) where
  -- at the end of the tokens
  pub links_end : links l v h [] ≡ Read (v, h, [])
  unfolding links linked
  links_end = refl

  -- before a token that carries nothing on
  pub links_stop : (t : T) (rest : List T) → l.class v t ≡ None → links l v h (t ∷ rest) ≡ Read (v, h, t ∷ rest)
  unfolding links linked
  links_stop t rest e = rw e refl

  -- before a token that carries on, without room
  pub links_deep : (t : T) (rest : List T) (c : C) → l.class v t ≡ Some c → l.full c h ≡ true → links l v h (t ∷ rest) ≡ Deep (t ∷ rest)
  unfolding links linked
  links_deep t rest c e f = rw (e, f) refl

  links_once : (t : T) (rest : List T) (c : C) → l.class v t ≡ Some c → l.full c h ≡ false
      → links l v h (t ∷ rest) ≡ (l.part c (t ∷ rest) >>= λ x. linked l (length (t ∷ rest)) (l.make c v x.0) (l.nest c h x.1) x.2)
  unfolding links linked
  links_once t rest c e f = rw (e, f) refl

  -- where the part is refused
  pub links_fault : (t : T) (rest : List T) (c : C) (left : List T) → l.class v t ≡ Some c → l.full c h ≡ false → l.part c (t ∷ rest) ≡ Fault left → links l v h (t ∷ rest) ≡ Fault left
  links_fault t rest c left e f r = links_once t rest c e f ∙ rw r refl

  -- where the part is too deep
  pub links_deeper : (t : T) (rest : List T) (c : C) (left : List T) → l.class v t ≡ Some c → l.full c h ≡ false → l.part c (t ∷ rest) ≡ Deep left → links l v h (t ∷ rest) ≡ Deep left
  links_deeper t rest c left e f r = links_once t rest c e f ∙ rw r refl

module _ {T K C A B : Type 0} (kind : T → K) (n low d : ℕ) (le : d ≤ n) (class : A → K → Option C) (full : ℕ → C → ℕ → Bool) (part : C → Reader T B) (make : C → A → B → A) (nest : C → ℕ → ℕ → ℕ)
    (fine : A → C → Type 0) (begin : C → K → Type 0) (Q : A → K → Type 0) (S : C → List T → B → ℕ → Type 0) (P : C → B → K → Type 0) (left right least room : C → ℕ)
    (joint : Joint kind n low class full make nest fine begin Q P left right least)
    (starts : (c : C) → Starts kind (begin c) (S c))
    (y : (c : C) → least c + right c ≤ d → ExactOn kind (begin c) (room c) (part c) (S c) (P c)) (fills : (c : C) → least c + right c ≤ d → room c + right c ≡ d) where
  abbrev link : Linking T C A B
  link = record { class = λ v t. class v (kind t); full = full d; part = part; make = make; nest = nest }

  -- what a part leaves: fewer tokens, and a nesting within the room
  pub record Steps (c : C) (h : ℕ) (ts : List T) (z : B × ℕ × List T) : Type 0 where
    pub shorter : length z.2 < length ts
    pub high : nest c h z.1 ≤ d
    pub above : low ≤ nest c h z.1

  -- behind a part fewer tokens are left, and the nesting is within the room
  pub steps : (c : C) (v : A) (h : ℕ) (t : T) (rest : List T) (z : B × ℕ × List T) → low ≤ h → h ≤ d → class v (kind t) ≡ Some c → full d c h ≡ false → part c (t ∷ rest) ≡ Read z → Steps c h (t ∷ rest) z
  steps c v h t rest z lo hi e free i =
      let f = joint.fits d c h lo hi le free in
      let g : Took kind (S c) (P c) (room c) (t ∷ rest) z = subst (λ r. Good kind (part c) (S c) (P c) (room c) (t ∷ rest) r) i ((y c f.1).good t rest (joint.begins v (kind t) c e)) in
      let b = (starts c).head g.front z.0 z.1 g.reads in
      let k : t ∷ rest ≡ b.0 ∷ (b.1 ++ z.2) = g.whole ∙ ap (λ u. u ++ z.2) b.2 in
      let m = joint.grows c h z.1 in
      let w = fills c f.1 in
      let gf = g.fits in
      record {
        shorter = omega (arith, ap length k, length-append b.1 z.2);
        high = omega (arith, m, w, gf, f.0);
        above = omega (arith, m, lo);
      }

  Same : ℕ → ℕ → A → ℕ → List T → Type 0
  Same m k v h ts = linked link m v h ts ≡ linked link k v h ts

  fuel_read : (m k : ℕ) (c : C) (v : A) (h : ℕ) (t : T) (rest : List T) → low ≤ h → h ≤ d → class v (kind t) ≡ Some c → full d c h ≡ false
      → ((w : A) (i : ℕ) (us : List T) → low ≤ i → i ≤ d → length us < length (t ∷ rest) → Same m k w i us) → (r : Reading T B) → part c (t ∷ rest) ≡ r
      → (r >>= λ x. linked link m (make c v x.0) (nest c h x.1) x.2) ≡ (r >>= λ x. linked link k (make c v x.0) (nest c h x.1) x.2)
  unfolding Same
  fuel_read m k c v h t rest lo hi e f ih (Read z) i = let s = steps c v h t rest z lo hi e f i in ih (make c v z.0) (nest c h z.1) z.2 s.above s.high s.shorter
  fuel_read m k c v h t rest lo hi e f ih (Fault left) i = refl
  fuel_read m k c v h t rest lo hi e f ih (Deep left) i = refl

  fuel_full : (m k : ℕ) (c : C) (v : A) (h : ℕ) (t : T) (rest : List T) → low ≤ h → h ≤ d → class v (kind t) ≡ Some c
      → ((w : A) (i : ℕ) (us : List T) → low ≤ i → i ≤ d → length us < length (t ∷ rest) → Same m k w i us) → (b : Bool) → full d c h ≡ b
      → cond b (Deep (t ∷ rest)) (part c (t ∷ rest) >>= λ x. linked link m (make c v x.0) (nest c h x.1) x.2)
      ≡ cond b (Deep (t ∷ rest)) (part c (t ∷ rest) >>= λ x. linked link k (make c v x.0) (nest c h x.1) x.2)
  fuel_full m k c v h t rest lo hi e ih true f = refl
  fuel_full m k c v h t rest lo hi e ih false f = fuel_read m k c v h t rest lo hi e f ih (part c (t ∷ rest)) refl

  fuel_by : (m k : ℕ) (v : A) (h : ℕ) (t : T) (rest : List T) → low ≤ h → h ≤ d
      → ((w : A) (i : ℕ) (us : List T) → low ≤ i → i ≤ d → length us < length (t ∷ rest) → Same m k w i us) → (o : Option C) → class v (kind t) ≡ o
      → linked_by link (λ w i us. linked link m w i us) v h t rest o ≡ linked_by link (λ w i us. linked link k w i us) v h t rest o
  fuel_by m k v h t rest lo hi ih None e = refl
  fuel_by m k v h t rest lo hi ih (Some c) e = fuel_full m k c v h t rest lo hi e ih (full d c h) refl

  -- how many parts there may be doesn't matter, if enough
  fuel : (m k : ℕ) (v : A) (h : ℕ) (ts : List T) → low ≤ h → h ≤ d → length ts < m → length ts < k → Same m k v h ts
  unfolding linked Same
  fuel zero k v h ts lo hi a b = absurd (omega arith)
  fuel (suc m) zero v h ts lo hi a b = absurd (omega arith)
  fuel (suc m) (suc k) v h [] lo hi a b = refl
  fuel (suc m) (suc k) v h (t ∷ rest) lo hi a b = fuel_by m k v h t rest lo hi (λ w i us l j lt. fuel m k w i us l j (omega arith) (omega arith)) (class v (kind t)) refl

  next_read : (c : C) (v : A) (h : ℕ) (t : T) (rest : List T) → low ≤ h → h ≤ d → class v (kind t) ≡ Some c → full d c h ≡ false → (r : Reading T B) → part c (t ∷ rest) ≡ r
      → (r >>= λ x. linked link (length (t ∷ rest)) (make c v x.0) (nest c h x.1) x.2) ≡ (r >>= λ x. links link (make c v x.0) (nest c h x.1) x.2)
  unfolding links Same
  next_read c v h t rest lo hi e f (Read z) i =
      let s = steps c v h t rest z lo hi e f i in
      fuel (length (t ∷ rest)) (suc (length z.2)) (make c v z.0) (nest c h z.1) z.2 s.above s.high s.shorter (omega arith)
  next_read c v h t rest lo hi e f (Fault left) i = refl
  next_read c v h t rest lo hi e f (Deep left) i = refl

  -- one part, and the chain from there
  pub links_next : (c : C) (v : A) (h : ℕ) (t : T) (rest : List T) → low ≤ h → h ≤ d → class v (kind t) ≡ Some c → full d c h ≡ false
      → links link v h (t ∷ rest) ≡ (part c (t ∷ rest) >>= λ x. links link (make c v x.0) (nest c h x.1) x.2)
  links_next c v h t rest lo hi e f = links_once link v h t rest c e f ∙ next_read c v h t rest lo hi e f (part c (t ∷ rest)) refl

-- With one room.
module _ {T K C A B : Type 0} (kind : T → K) (n low d : ℕ) (le : d ≤ n) (class : A → K → Option C) (full : ℕ → C → ℕ → Bool) (part : C → Reader T B) (make : C → A → B → A) (nest : C → ℕ → ℕ → ℕ)
    (fine : A → C → Type 0) (begin : C → K → Type 0) (Q : A → K → Type 0) (S : C → List T → B → ℕ → Type 0) (P : C → B → K → Type 0) (left right least room : C → ℕ)
    (joint : Joint kind n low class full make nest fine begin Q P left right least)
    (starts : (c : C) → Starts kind (begin c) (S c))
    (y : (c : C) → least c + right c ≤ d → ExactOn kind (begin c) (room c) (part c) (S c) (P c)) (fills : (c : C) → least c + right c ≤ d → room c + right c ≡ d)
    (floor : (c : C) (f : List T) (w : B) (j : ℕ) → S c f w j → least c ≤ j)
    (F : Reader T A) (R : List T → A → ℕ → Type 0) (x : ExactAt kind d F R Q) (base : (f : List T) (v : A) (h : ℕ) → R f v h → low ≤ h) where
  abbrev join : Linking T C A B
  join = link kind n low d le class full part make nest fine begin Q S P left right least room joint starts y fills

  abbrev Whole : List T → A → ℕ → Type 0
  Whole = Chained kind class fine make nest R S

  abbrev Ends : A → K → Type 0
  Ends v k = Q v k × (class v k ≡ None)

  next : (c : C) (v : A) (h : ℕ) (t : T) (rest : List T) → low ≤ h → h ≤ d → class v (kind t) ≡ Some c → full d c h ≡ false
      → links join v h (t ∷ rest) ≡ (part c (t ∷ rest) >>= λ z. links join (make c v z.0) (nest c h z.1) z.2)
  next = links_next kind n low d le class full part make nest fine begin Q S P left right least room joint starts y fills

  -- What has been read is a chain, and reading it again leads here.
  record Run (f : List T) (v : A) (h : ℕ) : Type 0 where
    whole : Whole f v h
    high : h ≤ d
    above : low ≤ h
    runs : (other : List T) → Stops kind (Q v) other → chain F join (f ++ other) ≡ links join v h other

  itself : (f : List T) (v : A) (h : ℕ) → Run f v h → Opens Whole d f
  itself f v h a = record { rest = []; value = v; nest = h; reads = rw append-nil a.whole; fits = a.high }

  with_part : (c : C) (f : List T) (v : A) (h : ℕ) (t : T) (g : List T) (m e : ℕ) → Run f v h → class v (kind t) ≡ Some c → fine v c → h + left c ≤ e → m + right c ≤ e → Opens (S c) m (t ∷ g) → Opens Whole e (f ++ t ∷ g)
  with_part c f v h t g m e a i ok l r o =
      let k = joint.grows c h o.nest in
      record {
        rest = o.rest;
        value = make c v o.value;
        nest = nest c h o.nest;
        reads = rw (append_assoc f (t ∷ g) o.rest) (further f (g ++ o.rest) t c v o.value h o.nest a.whole i ok o.reads);
        fits = omega (arith, k, l, r, o.fits);
      }

  head_is : (t u : T) (rest g left : List T) → t ∷ rest ≡ (u ∷ g) ++ left → t ≡ u
  head_is t u rest g left e = cc

  -- what the part leaves open is open behind what was read
  part_opens : (c : C) (f : List T) (v : A) (h : ℕ) (t : T) (rest : List T) (m e : ℕ) → Run f v h → class v (kind t) ≡ Some c → fine v c → h + left c ≤ e → m + right c ≤ e → d ≤ e
      → (g after : List T) → t ∷ rest ≡ g ++ after → Opens (S c) m g → Opens Whole e (f ++ g)
  part_opens c f v h t rest m e a i ok l r de [] after eq o =
      rw append-nil (record { rest = []; value = v; nest = h; reads = rw append-nil a.whole; fits = omega (arith, a.high) })
  part_opens c f v h t rest m e a i ok l r de (u ∷ g) after eq o =
      let k = head_is t u rest g after eq in
      with_part c f v h u g m e a (subst (λ w. class v (kind w) ≡ Some c) k i) ok l r o

  -- what the part took is read again
  taken_on : (c : C) (t : T) (rest : List T) (z : B × ℕ × List T) → least c + right c ≤ d → begin c (kind t) → (k : Took kind (S c) (P c) (room c) (t ∷ rest) z) → part c (k.front ++ z.2) ≡ Read z
  taken_on c t rest z fit bg k =
      let b = (starts c).head k.front z.0 z.1 k.reads in
      let e : t ∷ rest ≡ (b.0 ∷ b.1) ++ z.2 = k.whole ∙ ap (λ u. u ++ z.2) b.2 in
      let hd : t ≡ b.0 = head_is t b.0 rest b.1 z.2 e in
      rw b.2 ((y c fit).complete b.0 b.1 z.0 z.1 z.2 b.3 (subst (λ u. S c u z.0 z.1) b.2 k.reads) k.fits k.stops)

  Chains : ℕ → Type 0
  Chains m = (f : List T) (v : A) (h : ℕ) (ts : List T) → length ts < m → Run f v h → Stops kind (Q v) ts → Good kind (chain F join) Whole Ends d (f ++ ts) (links join v h ts)

  same_next : (c : C) (f : List T) (v : A) (h : ℕ) (t : T) (rest other : List T) → Run f v h → Q v (kind t) → class v (kind t) ≡ Some c → full d c h ≡ false → SameHead kind (t ∷ rest) other
      → chain F join (f ++ other) ≡ (part c other >>= λ z. links join (make c v z.0) (nest c h z.1) z.2)
  same_next c f v h t rest [] a q i free s = absurd s
  same_next c f v h t rest (u ∷ us) a q i free s =
      a.runs (u ∷ us) (subst (λ k. Q v k) s q) ∙ next c v h u us a.above a.high (subst (λ k. class v k ≡ Some c) s i) free

  same_full : (c : C) (f : List T) (v : A) (h : ℕ) (t : T) (rest other : List T) → Run f v h → Q v (kind t) → class v (kind t) ≡ Some c → full d c h ≡ true → SameHead kind (t ∷ rest) other → chain F join (f ++ other) ≡ Deep other
  same_full c f v h t rest [] a q i b s = absurd s
  same_full c f v h t rest (u ∷ us) a q i b s =
      a.runs (u ∷ us) (subst (λ k. Q v k) s q) ∙ links_deep join v h u us c (subst (λ k. class v k ≡ Some c) s i) b

  -- with one part more
  grown : (c : C) (f : List T) (v : A) (h : ℕ) (t : T) (rest : List T) (z : B × ℕ × List T) → Run f v h → Q v (kind t) → class v (kind t) ≡ Some c → full d c h ≡ false
      → (k : Took kind (S c) (P c) (room c) (t ∷ rest) z) → Steps kind n low d le class full part make nest fine begin Q S P left right least room joint starts y fills c h (t ∷ rest) z → Run (f ++ k.front) (make c v z.0) (nest c h z.1)
  grown c f v h t rest z a q i free k s =
      let b = (starts c).head k.front z.0 z.1 k.reads in
      let e : t ∷ rest ≡ (b.0 ∷ b.1) ++ z.2 = k.whole ∙ ap (λ u. u ++ z.2) b.2 in
      let hd : t ≡ b.0 = head_is t b.0 rest b.1 z.2 e in
      let ft : k.front ≡ t ∷ b.1 = b.2 ∙ ap (λ u. u ∷ b.1) (sym hd) in
      let ok = joint.suits v (kind t) c i q in
      let fits = joint.fits d c h a.above a.high le free in
      record {
        whole = rw ft (further f b.1 t c v z.0 h z.1 a.whole i ok (subst (λ u. S c u z.0 z.1) ft k.reads));
        high = s.high;
        above = s.above;
        runs = λ other st.
            let p : Stops kind (P c z.0) other = stops_as kind (Q (make c v z.0)) (P c z.0) (joint.of c v z.0) other st in
            let r : part c (t ∷ b.1 ++ other) ≡ Read (z.0, z.1, other) = (y c fits.1).complete t b.1 z.0 z.1 other (joint.begins v (kind t) c i) (subst (λ u. S c u z.0 z.1) ft k.reads) k.fits p in
            rw (ft, append_assoc f (t ∷ b.1) other, a.runs (t ∷ b.1 ++ other) q, next c v h t (b.1 ++ other) a.above a.high i free, r) refl;
      }

  next_good : (m : ℕ) → Chains m → (c : C) (f : List T) (v : A) (h : ℕ) (t : T) (rest : List T) → length (t ∷ rest) < suc m → Run f v h → Q v (kind t) → class v (kind t) ≡ Some c → full d c h ≡ false
      → Good kind (chain F join) Whole Ends d (f ++ t ∷ rest) (links join v h (t ∷ rest))
  unfolding Chains
  next_good m ih c f v h t rest lt a q i free =
      let fits = joint.fits d c h a.above a.high le free in
      let ok = joint.suits v (kind t) c i q in
      let fill = fills c fits.1 in
      rw (next c v h t rest a.above a.high i free)
      (behind kind (chain F join) Whole Ends d (part c) (S c) (P c) (room c) (λ z. links join (make c v z.0) (nest c h z.1) z.2) f (t ∷ rest)
      (λ other s. same_next c f v h t rest other a q i free s)
      (λ g after e o. part_opens c f v h t rest (room c) d a i ok fits.0 (omega (arith, fill)) (omega arith) g after e o)
      (λ k g after e o. (max d (max (h + left c) (k + right c)), part_opens c f v h t rest k (max d (max (h + left c) (k + right c))) a i ok (omega arith) (omega arith) (omega arith) g after e o))
      (λ z k.
      let r : part c (t ∷ rest) ≡ Read z = rw k.whole (taken_on c t rest z fits.1 (joint.begins v (kind t) c i) k) in
      let s = steps kind n low d le class full part make nest fine begin Q S P left right least room joint starts y fills c v h t rest z a.above a.high i free r in
      let e : f ++ t ∷ rest ≡ (f ++ k.front) ++ z.2 = ap (λ u. f ++ u) k.whole ∙ sym (append_assoc f k.front z.2) in
      subst (λ u. Good kind (chain F join) Whole Ends d u (links join (make c v z.0) (nest c h z.1) z.2)) (sym e)
      (ih (f ++ k.front) (make c v z.0) (nest c h z.1) z.2 (let j = s.shorter in omega arith) (grown c f v h t rest z a q i free k s)
      (stops_as kind (P c z.0) (Q (make c v z.0)) (joint.to c v z.0) z.2 k.stops)))
      (part c (t ∷ rest)) ((y c fits.1).good t rest (joint.begins v (kind t) c i)))

  full_good : (m : ℕ) → Chains m → (c : C) (f : List T) (v : A) (h : ℕ) (t : T) (rest : List T) → length (t ∷ rest) < suc m → Run f v h → Q v (kind t) → class v (kind t) ≡ Some c → (b : Bool) → full d c h ≡ b
      → Good kind (chain F join) Whole Ends d (f ++ t ∷ rest) (links join v h (t ∷ rest))
  full_good m ih c f v h t rest lt a q i false b = next_good m ih c f v h t rest lt a q i b
  full_good m ih c f v h t rest lt a q i true b =
      let k = (starts c).each t (joint.begins v (kind t) c i) in
      let e = max (h + left c) (k.0 + right c) in
      rw (links_deep join v h t rest c i b) (record {
        front = f;
        next = t;
        after = rest;
        is = refl;
        whole = refl;
        opens = itself f v h a;
        most = e;
        deeper = with_part c f v h t [] k.0 e a i (joint.suits v (kind t) c i q) (omega arith) (omega arith) k.1;
        local = λ other s. same_full c f v h t rest other a q i b s;
      })

  class_good : (m : ℕ) → Chains m → (f : List T) (v : A) (h : ℕ) (t : T) (rest : List T) → length (t ∷ rest) < suc m → Run f v h → Q v (kind t) → (o : Option C) → class v (kind t) ≡ o
      → Good kind (chain F join) Whole Ends d (f ++ t ∷ rest) (links join v h (t ∷ rest))
  class_good m ih f v h t rest lt a q None i =
      rw (links_stop join v h t rest i) (record { front = f; whole = refl; reads = a.whole; fits = a.high; stops = (q, i) })
  class_good m ih f v h t rest lt a q (Some c) i = full_good m ih c f v h t rest lt a q i (full d c h) refl

  chains : (m : ℕ) → Chains m
  unfolding Chains
  chains zero f v h ts lt a s = absurd (omega arith)
  chains (suc m) f v h [] lt a s = rw (links_end join v h) (record { front = f; whole = refl; reads = a.whole; fits = a.high; stops = tt })
  chains (suc m) f v h (t ∷ rest) lt a s = class_good m (chains m) f v h t rest lt a s (class v (kind t)) refl

  -- nothing is less nested than the first part
  above : (f : List T) (v : A) (h : ℕ) → Whole f v h → low ≤ h
  above f v h (first g u i r) = base g u i r
  above f v h (further g g' t c u w i j r e ok q) = let k = joint.grows c i j in omega (arith, k, above g u i r)

  -- a chain is read up to its end, and then on
  resumes : (f : List T) (v : A) (h : ℕ) (rest : List T) → Whole f v h → h ≤ d → Stops kind (Q v) rest → chain F join (f ++ rest) ≡ links join v h rest
  resumes f v h rest (first g u i r) hi s = rw (x.complete g u i rest r hi s) refl
  resumes f v h rest (further g g' t c u w i j r e ok q) hi s =
      let k = joint.grows c i j in
      let fl = floor c (t ∷ g') w j q in
      let free : full d c i ≡ false = joint.free d c i (omega (arith, k, hi)) (omega (arith, k, hi, fl)) in
      let fill = fills c (omega (arith, k, hi, fl)) in
      let one : chain F join (g ++ (t ∷ (g' ++ rest))) ≡ links join u i (t ∷ (g' ++ rest)) = resumes g u i (t ∷ (g' ++ rest)) r (omega (arith, k, hi)) (joint.clear u (kind t) c e ok) in
      let two : part c (t ∷ (g' ++ rest)) ≡ Read (w, j, rest) =
      (y c (omega (arith, k, hi, fl))).complete t g' w j rest (joint.begins u (kind t) c e) q (omega (arith, k, hi, fill)) (stops_as kind (Q (make c u w)) (P c w) (joint.of c u w) rest s) in
      rw (append_assoc g (t ∷ g') rest, one, next c u i t (g' ++ rest) (above g u i r) (omega (arith, k, hi)) e free, two) refl

  finished : (v : A) (h : ℕ) (rest : List T) → Stops kind (Ends v) rest → links join v h rest ≡ Read (v, h, rest)
  finished v h [] s = links_end join v h
  finished v h (t ∷ rest) s = links_stop join v h t rest s.1

  -- the chain is read exactly in this room
  pub chain_at : ExactAt kind d (chain F join) Whole Ends
  unfolding Chains
  chain_at = record {
    sample = let o = x.sample in record { rest = o.rest; value = o.value; nest = o.nest; reads = first o.rest o.value o.nest o.reads; fits = o.fits };
    good = λ ts. behind kind (chain F join) Whole Ends d F R Q d (λ z. links join z.0 z.1 z.2) [] ts (λ other s. refl)
        (λ g after e o. record { rest = o.rest; value = o.value; nest = o.nest; reads = first (g ++ o.rest) o.value o.nest o.reads; fits = o.fits })
        (λ m g after e o. (m, record { rest = o.rest; value = o.value; nest = o.nest; reads = first (g ++ o.rest) o.value o.nest o.reads; fits = o.fits }))
        (λ z t. subst (λ u. Good kind (chain F join) Whole Ends d u (links join z.0 z.1 z.2)) (sym t.whole)
        (chains (suc (length z.2)) t.front z.0 z.1 z.2 (omega arith)
        (record { whole = first t.front z.0 z.1 t.reads; high = t.fits; above = base t.front z.0 z.1 t.reads; runs = λ other s. rw (x.complete t.front z.0 z.1 other t.reads t.fits s) refl })
        t.stops))
        (F ts) (x.good ts);
    complete = λ f v h rest r hi s. resumes f v h rest r hi (stops_as kind (Ends v) (Q v) (λ k e. e.0) rest s) ∙ finished v h rest s;
  }
