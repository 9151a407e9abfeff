-- A part with the place of its first token is read exactly.
use Rattle.std.proofs.Common.{◌≡◌, ℕ, ◌≤◌, List, [], ◌∷◌, ◌++◌, refl, sym, ap, ◌∙◌}
use Rattle.cpc_base.specs.declared.stop.Place.{Place}
use Rattle.cpc_tree.specs.Tokens.{Lexeme, Placed}
use Rattle.cpc_tree.specs.StmtGrammar.{begin}
use Rattle.cpc_parser_reading.specs.Reading.{Reading, Read, Fault, Deep, Reader, ◌>>=◌}
use Rattle.cpc_parser_reading.specs.Exact.{Stops, Opens, Took, Good, ExactAt, Exact, Starts}
use Rattle.cpc_parser_reading.proofs.Keeps.{keeps_on}
use Rattle.cpc_parser_types.specs.Views.{lexeme}
use Rattle.cpc_parser_statements.specs.SimpleReaders.{standing}

-- the lists of a part, with the place of the first token
abbrev pub Standing : {A : Type 0} → (List Placed → A → ℕ → Type 0) → List Placed → Place × A → ℕ → Type 0
Standing R f v h = (v.0 ≡ begin f) × R f v.1 h

-- A list of the part has a first token.
abbrev pub Headed' : {A : Type 0} → (List Placed → A → ℕ → Type 0) → Type 0
Headed' R = (f : List Placed) (v : _) (h : ℕ) → R f v h → (t : Placed) × (g : List Placed) × (f ≡ t ∷ g)

-- what stands behind it doesn't change the place
begin_front : (f g rest : List Placed) (t : Placed) → f ≡ t ∷ g → begin (f ++ rest) ≡ begin f
begin_front f g rest t e = rw e refl

module _ {A : Type 0} (d : ℕ) (F : Reader Placed A) (R : List Placed → A → ℕ → Type 0) (Q : A → Lexeme → Type 0) (x : ExactAt lexeme d F R Q) (head : Headed' R) where
  standing_opens : (m : ℕ) (front : List Placed) → Opens R m front → Opens (Standing R) m front
  standing_opens m front o = record { rest = o.rest; value = (begin (front ++ o.rest), o.value); nest = o.nest; reads = (refl, o.reads); fits = o.fits }

  -- of all tokens, or of those that were read
  read_begin : (f rest : List Placed) (v : A) (h : ℕ) → R f v h → begin (f ++ rest) ≡ begin f
  read_begin f rest v h r = let k = head f v h r in begin_front f k.1 rest k.0 k.2

  standing_complete : (f : List Placed) (v : Place × A) (h : ℕ) (rest : List Placed) → Standing R f v h → h ≤ d → Stops lexeme (Q v.1) rest → standing F (f ++ rest) ≡ Read (v, h, rest)
  standing_complete f v h rest (e, r) fits s =
      let here : F (f ++ rest) ≡ Read (v.1, h, rest) = x.complete f v.1 h rest r fits s in
      let place : begin (f ++ rest) ≡ v.0 = read_begin f rest v.1 h r ∙ sym e in
      rw (here, place) refl

  standing_took : (ts : List Placed) (z : A × ℕ × List Placed) → Took lexeme R Q d ts z → Took lexeme (Standing R) (λ v. Q v.1) d ts ((begin ts, z.0), z.1, z.2)
  standing_took ts z t = record {
    front = t.front;
    whole = t.whole;
    reads = (ap begin t.whole ∙ read_begin t.front z.2 z.0 z.1 t.reads, t.reads);
    fits = t.fits;
    stops = t.stops;
  }

  standing_good : (ts : List Placed) (r : Reading Placed A) → Good lexeme F R Q d ts r
      → Good lexeme (standing F) (Standing R) (λ v. Q v.1) d ts (r >>= λ z. Read ((begin ts, z.0), z.1, z.2))
  standing_good ts (Read z) g = standing_took ts z g
  standing_good ts (Fault left) g = record { front = g.front; whole = g.whole; opens = standing_opens d g.front g.opens; local = λ other s. rw (g.local other s) refl }
  standing_good ts (Deep left) g = record {
    front = g.front;
    next = g.next;
    after = g.after;
    is = g.is;
    whole = g.whole;
    opens = standing_opens d g.front g.opens;
    most = g.most;
    deeper = standing_opens g.most (g.front ++ g.next ∷ []) g.deeper;
    local = λ other s. rw (g.local other s) refl;
  }

  standing_at : ExactAt lexeme d (standing F) (Standing R) (λ v. Q v.1)
  standing_at = record { sample = standing_opens d [] x.sample; good = λ ts. standing_good ts (F ts) (x.good ts); complete = standing_complete }

-- A part is read exactly with the place of its first token.
pub exact_standing : {A : Type 0} {n low : ℕ} {F : ℕ → Reader Placed A} {R : List Placed → A → ℕ → Type 0} {Q : A → Lexeme → Type 0}
    → Exact lexeme n low F R Q → Headed' R → Exact lexeme n low (λ d. standing (F d)) (Standing R) (λ v. Q v.1)
exact_standing {F = F} {R = R} {Q = Q} x head = record {
  sample = let o = x.sample in record { rest = o.rest; value = (begin o.rest, o.value); nest = o.nest; reads = (refl, o.reads); fits = o.fits };
  least = λ f v h r. x.least f v.1 h r.1;
  at = λ d a b. standing_at d (F d) R Q (x.at d a b) head;
  keeps = λ d e a b l ts. keeps_on (F d ts) (F e ts) _ (x.keeps d e a b l ts);
}

-- They begin as the part does.
pub starts_standing : {A : Type 0} {P : Lexeme → Type 0} {R : List Placed → A → ℕ → Type 0} → Starts lexeme P R → Starts lexeme P (Standing R)
starts_standing x = record {
  head = λ f v h r. x.head f v.1 h r.1;
  each = λ t e. let k = x.each t e in let o = k.1 in (k.0, record { rest = o.rest; value = (t.place, o.value); nest = o.nest; reads = (refl, o.reads); fits = o.fits });
}
