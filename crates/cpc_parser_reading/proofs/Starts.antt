-- How the lists of a part begin, from how those of its first part do.
use Rattle.std.proofs.Common.{◌≡◌, ℕ, ◌+◌, Bool, true, None, List, [], ◌∷◌, ◌++◌, Option, max, refl, ap, ◌∙◌, arith, inl, inr, ◌⊎◌}
use Rattle.cpc_parser_reading.specs.Phrase.{Before, After, Bound, Mapped, Made, Only, Either}
use Rattle.cpc_parser_reading.specs.Chain.{Chained, first, further}
use Rattle.cpc_parser_reading.specs.Lists.{Separated, alone, and_more}
use Rattle.cpc_parser_reading.specs.Operators.{Level, single, applied, Tailed, bare, tailed}
use Rattle.cpc_parser_reading.specs.Exact.{Opens, Starts, Sample}

-- with its token
pub starts_after : {T K A : Type 0} {kind : T → K} {p : K → Bool} {R : List T → A → ℕ → Type 0} {low : ℕ} → Opens R low [] → Starts kind (λ k. p k ≡ true) (After (λ t. p (kind t)) R)
starts_after {low = low} o = record {
  head = λ f v h r. (r.0, r.1, r.2, r.3);
  each = λ t e. (low, record { rest = o.rest; value = o.value; nest = o.nest; reads = (t, o.rest, refl, e, o.reads); fits = o.fits });
}

module _ {T K A : Type 0} {kind : T → K} {P : K → Type 0} {R : List T → A → ℕ → Type 0} (x : Starts kind P R) where
  -- with the part before the token
  pub starts_before : {p : K → Bool} → Sample kind p → Starts kind P (Before R (λ t. p (kind t)))
  starts_before c = record {
    head = λ f v h r. let b = x.head r.0 v h r.4 in (b.0, b.1 ++ r.1 ∷ [], r.2 ∙ ap (λ u. u ++ r.1 ∷ []) b.2, b.3);
    each = λ t e. let k = x.each t e in let o = k.1 in (k.0, record { rest = o.rest ++ c.token ∷ []; value = o.value; nest = o.nest; reads = (t ∷ o.rest, c.token, refl, c.holds, o.reads); fits = o.fits });
  }

  -- as another value
  pub starts_mapped : {B : Type 0} (make : A → B) → Starts kind P (Mapped make R)
  starts_mapped make = record {
    head = λ f v h r. x.head f r.0 h r.2;
    each = λ t e. let k = x.each t e in let o = k.1 in (k.0, record { rest = o.rest; value = make o.value; nest = o.nest; reads = (o.value, refl, o.reads); fits = o.fits });
  }

  -- under a node
  pub starts_made : {B : Type 0} (make : A → B) → Starts kind P (Made make R)
  starts_made make = record {
    head = λ f v h r. x.head f r.0 r.1 r.4;
    each = λ t e. let k = x.each t e in let o = k.1 in (k.0 + 1, record { rest = o.rest; value = make o.value; nest = o.nest + 1; reads = (o.value, o.nest, refl, refl, o.reads); fits = omega (arith, o.fits) });
  }

  -- each value has something that may stand behind it
  pub starts_bind : {B : Type 0} {S : A → List T → B → ℕ → Type 0} {low : ℕ} → ((a : A) → Opens (S a) low []) → Starts kind P (Bound R S)
  starts_bind {low = low} y = record {
    head = λ f v h b. let k = x.head b.left v.0 b.i b.first in (k.0, k.1 ++ b.right, b.whole ∙ ap (λ u. u ++ b.right) k.2, k.3);
    each = λ t e. let k = x.each t e in let o = k.1 in let q = y o.value in (
      max k.0 low,
      record {
        rest = o.rest ++ q.rest;
        value = (o.value, q.value);
        nest = max o.nest q.nest;
        reads = record { left = t ∷ o.rest; right = q.rest; i = o.nest; j = q.nest; whole = refl; nest = refl; first = o.reads; second = q.reads };
        fits = omega (arith, o.fits, q.fits);
      },
    );
  }

  -- with tokens of either
  pub starts_either : {P' : K → Type 0} {S : List T → A → ℕ → Type 0} → Starts kind P' S → Starts kind (λ k. P k ⊎ P' k) (Either R S)
  starts_either y = record {
    head = λ f v h r. elim r [ inl a ↦ (let b = x.head f v h a in (b.0, b.1, b.2, inl b.3)) | inr a ↦ (let b = y.head f v h a in (b.0, b.1, b.2, inr b.3)) ];
    each = λ t e. elim e [
      | inl a ↦ (let k = x.each t a in let o = k.1 in (k.0, record { rest = o.rest; value = o.value; nest = o.nest; reads = inl o.reads; fits = o.fits }))
      | inr a ↦ (let k = y.each t a in let o = k.1 in (k.0, record { rest = o.rest; value = o.value; nest = o.nest; reads = inr o.reads; fits = o.fits }))
    ];
  }

  chain_head : {C B : Type 0} (class : A → K → Option C) (fine : A → C → Type 0) (make : C → A → B → A) (nest : C → ℕ → ℕ → ℕ) (S : C → List T → B → ℕ → Type 0)
      (f : List T) (v : A) (h : ℕ) → Chained kind class fine make nest R S f v h → (t : T) × (g : List T) × (f ≡ t ∷ g) × P (kind t)
  chain_head class fine make nest S f v h (first g u i r) = x.head g u i r
  chain_head class fine make nest S f v h (further g g' t c u w i j r e ok q) =
      let b = chain_head class fine make nest S g u i r in
      (b.0, b.1 ++ t ∷ g', ap (λ z. z ++ t ∷ g') b.2, b.3)

  -- with its first part
  pub starts_chain : {C B : Type 0} {class : A → K → Option C} {fine : A → C → Type 0} {make : C → A → B → A} {nest : C → ℕ → ℕ → ℕ} {S : C → List T → B → ℕ → Type 0}
      → Starts kind P (Chained kind class fine make nest R S)
  starts_chain {class = class} {fine = fine} {make = make} {nest = nest} {S = S} = record {
    head = chain_head class fine make nest S;
    each = λ t e. let k = x.each t e in let o = k.1 in (k.0, record { rest = o.rest; value = o.value; nest = o.nest; reads = first (t ∷ o.rest) o.value o.nest o.reads; fits = o.fits });
  }

  -- the same lists, and the same tokens, in other words
  pub starts_as : {P' : K → Type 0} {R' : List T → A → ℕ → Type 0} → ((k : K) → P k → P' k) → ((k : K) → P' k → P k)
      → ((f : List T) (v : A) (h : ℕ) → R f v h → R' f v h) → ((f : List T) (v : A) (h : ℕ) → R' f v h → R f v h) → Starts kind P' R'
  starts_as to of up down = record {
    head = λ f v h r. let b = x.head f v h (down f v h r) in (b.0, b.1, b.2, to (kind b.0) b.3);
    each = λ t e. let k = x.each t (of (kind t) e) in let o = k.1 in (k.0, record { rest = o.rest; value = o.value; nest = o.nest; reads = up (t ∷ o.rest) o.value o.nest o.reads; fits = o.fits });
  }

  level_head : {O B : Type 0} (op : K → Option O) (node : O → T → A → B → A) (S : List T → B → ℕ → Type 0) (f : List T) (v : A) (h : ℕ) → Level kind op node R S f v h
      → (t : T) × (g : List T) × (f ≡ t ∷ g) × P (kind t)
  level_head op node S f v h (single g u i r) = x.head g u i r
  level_head op node S f v h (applied g k t o u w i j r e q) = let b = level_head op node S g u i r in (b.0, b.1 ++ t ∷ k, ap (λ z. z ++ t ∷ k) b.2, b.3)

  tail_head : {B : Type 0} (nest : ℕ → ℕ → ℕ) (fine : A → Type 0) (S : List T → B → ℕ → Type 0) (f : List T) (v : A × Option B) (h : ℕ) → Tailed nest R fine S f v h
      → (t : T) × (g : List T) × (f ≡ t ∷ g) × P (kind t)
  tail_head nest fine S f v h (bare _ a _ r) = x.head f a h r
  tail_head nest fine S f v h (tailed g k a b i j r ok q) = let e = x.head g a i r in (e.0, e.1 ++ k, ap (λ z. z ++ k) e.2, e.3)

  separated_head : (p : T → Bool) (f : List T) (vs : List A) (h : ℕ) → Separated p R f vs h → (t : T) × (g : List T) × (f ≡ t ∷ g) × P (kind t)
  separated_head p f vs h (alone _ v _ r) = x.head f v h r
  separated_head p f vs h (and_more g k t v us i j r e m) = let b = x.head g v i r in (b.0, b.1 ++ t ∷ k, ap (λ z. z ++ t ∷ k) b.2, b.3)

  -- of those values that stand alone, each token begins one
  pub starts_only : (ok : A → Bool) → ((t : T) → P (kind t) → (m : ℕ) × Opens (Only ok R) m (t ∷ [])) → Starts kind P (Only ok R)
  starts_only ok each = record { head = λ f v h r. x.head f v h r.1; each = each }

  -- with its first operand
  pub starts_level : {O B : Type 0} {op : K → Option O} {node : O → T → A → B → A} {S : List T → B → ℕ → Type 0} → Starts kind P (Level kind op node R S)
  starts_level {op = op} {node = node} {S = S} = record {
    head = level_head op node S;
    each = λ t e. let k = x.each t e in let o = k.1 in (k.0, record { rest = o.rest; value = o.value; nest = o.nest; reads = single (t ∷ o.rest) o.value o.nest o.reads; fits = o.fits });
  }

  -- with the part before what follows
  pub starts_tail : {B : Type 0} {nest : ℕ → ℕ → ℕ} {fine : A → Type 0} {S : List T → B → ℕ → Type 0} → Starts kind P (Tailed nest R fine S)
  starts_tail {nest = nest} {fine = fine} {S = S} = record {
    head = tail_head nest fine S;
    each = λ t e. let k = x.each t e in let o = k.1 in (k.0, record { rest = o.rest; value = (o.value, None); nest = o.nest; reads = bare (t ∷ o.rest) o.value o.nest o.reads; fits = o.fits });
  }

  -- with the first of several
  pub starts_separated : {p : T → Bool} → Starts kind P (Separated p R)
  starts_separated {p = p} = record {
    head = separated_head p;
    each = λ t e. let k = x.each t e in let o = k.1 in (k.0, record { rest = o.rest; value = o.value ∷ []; nest = o.nest; reads = alone (t ∷ o.rest) o.value o.nest o.reads; fits = o.fits });
  }
