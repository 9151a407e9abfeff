-- Exact readers of what is noted with its place, of lists that begin with tokens of a class, and in less room.
use Rattle.std.proofs.Common.{◌≡◌, ℕ, suc, ◌≤◌, List, [], ◌∷◌, ◌++◌, refl, ap, subst, ◌∙◌, arith}
use Rattle.cpc_base.specs.declared.stop.Place.{Place}
use Rattle.cpc_tree.specs.Tokens.{Lexeme, Placed}
use Rattle.cpc_tree.specs.StmtGrammar.{begin}
use Rattle.cpc_parser_reading.specs.Reading.{Reading, Read, Fault, Deep, Reader, ◌>>=◌}
use Rattle.cpc_parser_reading.specs.Exact.{Stops, Opens, Good, ExactAt, Exact, Starts, Branch}
use Rattle.cpc_parser_reading.proofs.Keeps.{keeps_on}
use Rattle.cpc_parser_types.specs.Views.{lexeme}
use Rattle.cpc_parser.specs.ItemReaders.{noted}

-- the first token is of a class
abbrev pub Led : (Lexeme → Type 0) → List Placed → Type 0
Led P f = (t : Placed) × (g : List Placed) × (f ≡ t ∷ g) × P t.lexeme

-- lists that begin with a token of a class
abbrev pub Narrow : {A : Type 0} → (Lexeme → Type 0) → (List Placed → A → ℕ → Type 0) → List Placed → A → ℕ → Type 0
Narrow P R f v h = R f v h × Led P f

-- a value with the place of its first token
abbrev pub Noted : {A : Type 0} → (List Placed → A → ℕ → Type 0) → List Placed → Place × A → ℕ → Type 0
Noted R f v h = (v.0 ≡ begin f) × R f v.1 h

-- any token
abbrev pub Some_token : Lexeme → Type 0
Some_token k = Unit {0}

heads : (t u : Placed) (rest g left : List Placed) → t ∷ rest ≡ (u ∷ g) ++ left → t ≡ u
heads t u rest g left e = cc

-- What is exact stays so on the lists that begin with a token of a class.
module _ {A : Type 0} (P : Lexeme → Type 0) (d : ℕ) (F : Reader Placed A) (R : List Placed → A → ℕ → Type 0) (Q : A → Lexeme → Type 0)
    (x : ExactAt lexeme d F R Q) (solid : (f : List Placed) (v : A) (h : ℕ) → R f v h → Led Some_token f) (sample : Opens (Narrow P R) d [])
    (t : Placed) (rest : List Placed) (p : P t.lexeme) where
  led : (f left : List Placed) → Led Some_token f → t ∷ rest ≡ f ++ left → Led P f
  led f left (u, g, e, k) w = (u, g, e, let i : t ≡ u = heads t u rest g left (w ∙ ap (λ z. z ++ left) e) in subst (λ z. P z.lexeme) i p)

  opened : (m : ℕ) (u : Placed) (g : List Placed) → t ≡ u → Opens R m (u ∷ g) → Opens (Narrow P R) m (u ∷ g)
  opened m u g i o = record { rest = o.rest; value = o.value; nest = o.nest; reads = (o.reads, (u, g ++ o.rest, refl, subst (λ z. P z.lexeme) i p)); fits = o.fits }

  opens : (front left : List Placed) → t ∷ rest ≡ front ++ left → Opens R d front → Opens (Narrow P R) d front
  opens [] left w o = sample
  opens (u ∷ g) left w o = opened d u g (heads t u rest g left w) o

  deeper : (m : ℕ) (front : List Placed) (next : Placed) (after : List Placed) → t ∷ rest ≡ front ++ next ∷ after → Opens R m (front ++ next ∷ []) → Opens (Narrow P R) m (front ++ next ∷ [])
  deeper m [] next after w o = opened m next [] (heads t next rest [] after w) o
  deeper m (u ∷ g) next after w o = opened m u (g ++ next ∷ []) (heads t u rest g (next ∷ after) w) o

  narrow_good : (r : Reading Placed A) → Good lexeme F R Q d (t ∷ rest) r → Good lexeme F (Narrow P R) Q d (t ∷ rest) r
  narrow_good (Read z) g = record { front = g.front; whole = g.whole; reads = (g.reads, led g.front z.2 (solid g.front z.0 z.1 g.reads) g.whole); fits = g.fits; stops = g.stops }
  narrow_good (Fault left) g = record { front = g.front; whole = g.whole; opens = opens g.front left g.whole g.opens; local = g.local }
  narrow_good (Deep left) g = record {
    front = g.front;
    next = g.next;
    after = g.after;
    is = g.is;
    whole = g.whole;
    opens = opens g.front left g.whole g.opens;
    most = g.most;
    deeper = deeper g.most g.front g.next g.after (g.whole ∙ ap (λ z. g.front ++ z) g.is) g.deeper;
    local = g.local;
  }

-- each list has a token
abbrev pub Solid : {A : Type 0} → (List Placed → A → ℕ → Type 0) → Type 0
Solid R = (f : List Placed) (v : _) (h : ℕ) → R f v h → Led Some_token f

-- An exact reader is a branch on those of its lists that begin with a token of the class.
pub narrow_branch : {A : Type 0} {n low : ℕ} {P : Lexeme → Type 0} {F : ℕ → Reader Placed A} {R : List Placed → A → ℕ → Type 0} {Q : A → Lexeme → Type 0}
    → Exact lexeme n low F R Q → Solid R → ((t : Placed) → P t.lexeme → (m : ℕ) × Opens R m (t ∷ [])) → Opens (Narrow P R) low [] → Branch lexeme P n low F (Narrow P R) Q
narrow_branch {P = P} {F = F} {R = R} {Q = Q} x solid each o = record {
  starts = record {
    head = λ f v h r. r.1;
    each = λ t p. let k = each t p in let q = k.1 in (k.0, record { rest = q.rest; value = q.value; nest = q.nest; reads = (q.reads, (t, q.rest, refl, p)); fits = q.fits });
  };
  least = λ f v h r. x.least f v h r.0;
  on = λ d a b. record {
    good = λ t rest p. narrow_good P d (F d) R Q (x.at d a b) solid (record { rest = o.rest; value = o.value; nest = o.nest; reads = o.reads; fits = omega (arith, o.fits) }) t rest p
        (F d (t ∷ rest)) ((x.at d a b).good (t ∷ rest));
    complete = λ t g v h rest p r fits s. (x.at d a b).complete (t ∷ g) v h rest r.0 fits s;
  };
  keeps = λ d e a b l t rest p. x.keeps d e a b l (t ∷ rest);
}

begin_front : (f left : List Placed) → Led Some_token f → begin (f ++ left) ≡ begin f
begin_front f left (t, g, e, p) = rw e refl

-- The place of the first token is noted exactly.
module _ {A : Type 0} (d : ℕ) (F : Reader Placed A) (R : List Placed → A → ℕ → Type 0) (Q : A → Lexeme → Type 0) (x : ExactAt lexeme d F R Q) (solid : Solid R) where
  noted_opens : (m : ℕ) (front : List Placed) → Opens R m front → Opens (Noted R) m front
  noted_opens m front o = record { rest = o.rest; value = (begin (front ++ o.rest), o.value); nest = o.nest; reads = (refl, o.reads); fits = o.fits }

  noted_good : (ts : List Placed) (r : Reading Placed A) → Good lexeme F R Q d ts r → Good lexeme (noted F) (Noted R) (λ v. Q v.1) d ts (r >>= λ z. Read ((begin ts, z.0), z.1, z.2))
  noted_good ts (Read z) g = record {
    front = g.front;
    whole = g.whole;
    reads = (ap begin g.whole ∙ begin_front g.front z.2 (solid g.front z.0 z.1 g.reads), g.reads);
    fits = g.fits;
    stops = g.stops;
  }
  noted_good ts (Fault left) g = record { front = g.front; whole = g.whole; opens = noted_opens d g.front g.opens; local = λ other s. rw (g.local other s) refl }
  noted_good ts (Deep left) g = record {
    front = g.front;
    next = g.next;
    after = g.after;
    is = g.is;
    whole = g.whole;
    opens = noted_opens d g.front g.opens;
    most = g.most;
    deeper = noted_opens g.most (g.front ++ g.next ∷ []) g.deeper;
    local = λ other s. rw (g.local other s) refl;
  }

  noted_complete : (f : List Placed) (v : Place × A) (h : ℕ) (rest : List Placed) → Noted R f v h → h ≤ d → Stops lexeme (Q v.1) rest → noted F (f ++ rest) ≡ Read (v, h, rest)
  noted_complete f v h rest r fits s = rw (x.complete f v.1 h rest r.1 fits s, begin_front f rest (solid f v.1 h r.1), ← (r.0)) refl

pub exact_noted : {A : Type 0} {n low : ℕ} {F : ℕ → Reader Placed A} {R : List Placed → A → ℕ → Type 0} {Q : A → Lexeme → Type 0}
    → Exact lexeme n low F R Q → Solid R → Exact lexeme n low (λ d. noted (F d)) (Noted R) (λ v. Q v.1)
exact_noted {low = low} {F = F} {R = R} {Q = Q} x solid = record {
  sample = let o = x.sample in record { rest = o.rest; value = (begin o.rest, o.value); nest = o.nest; reads = (refl, o.reads); fits = o.fits };
  least = λ f v h r. x.least f v.1 h r.1;
  at = λ d a b. let y = x.at d a b in record {
    sample = noted_opens d (F d) R Q y solid d [] y.sample;
    good = λ ts. noted_good d (F d) R Q y solid ts (F d ts) (y.good ts);
    complete = noted_complete d (F d) R Q y solid;
  };
  keeps = λ d e a b l ts. keeps_on (F d ts) (F e ts) _ (x.keeps d e a b l ts);
}

-- what is exact in more room is so in less
pub exact_less : {T K A : Type 0} {kind : T → K} {n low : ℕ} {F : ℕ → Reader T A} {R : List T → A → ℕ → Type 0} {Q : A → K → Type 0} → Exact kind (suc n) low F R Q → Exact kind n low F R Q
exact_less x = record { sample = x.sample; least = x.least; at = λ d a b. x.at d a (omega arith); keeps = λ d e a b l ts. x.keeps d e a b (omega arith) ts }

-- with its place it begins as it does
pub starts_noted : {A : Type 0} {P : Lexeme → Type 0} {R : List Placed → A → ℕ → Type 0} → Starts lexeme P R → Starts lexeme P (Noted R)
starts_noted s = record {
  head = λ f v h r. s.head f v.1 h r.1;
  each = λ t e. let k = s.each t e in let o = k.1 in (k.0, record { rest = o.rest; value = (t.place, o.value); nest = o.nest; reads = (refl, o.reads); fits = o.fits });
}
