-- A list of tokens has one answer.
use Rattle.std.proofs.Common.{◌≡◌, ℕ, ◌≤◌, List, [], ◌∷◌, ◌++◌, refl, sym, ap, subst, ◌∙◌, append_assoc, arith}
use Rattle.cpc_parser_reading.specs.Reading.{Reading, Read, Fault, Deep, Reader}
use Rattle.cpc_parser_reading.specs.Exact.{SameHead, Opens, Exact}
use Rattle.cpc_parser_reading.specs.Answers.{whole, SyntaxAt, DeepAt, Answers}
use Rattle.cpc_parser_reading.proofs.Heads.{same_self}
use Rattle.cpc_parser_reading.proofs.Whole.{answers, complete}

-- Of two fronts of a list one begins with the other.
data Fronts {T : Type 0} (f l g k : List T) : Type 0 where
  equal : f ≡ g → l ≡ k → Fronts f l g k
  left_longer : (t : T) (m : List T) → f ≡ g ++ t ∷ m → k ≡ t ∷ (m ++ l) → Fronts f l g k
  right_longer : (t : T) (m : List T) → g ≡ f ++ t ∷ m → l ≡ t ∷ (m ++ k) → Fronts f l g k

with_head : {T : Type 0} (t u : T) (f l g k : List T) → t ≡ u → Fronts f l g k → Fronts (t ∷ f) l (u ∷ g) k
with_head t u f l g k e (equal a b) = equal (rw (e, a) refl) b
with_head t u f l g k e (left_longer x m a b) = left_longer x m (rw (e, a) refl) b
with_head t u f l g k e (right_longer x m a b) = right_longer x m (rw (← e, a) refl) b

fronts : {T : Type 0} (f l g k : List T) → f ++ l ≡ g ++ k → Fronts f l g k
fronts [] l [] k e = equal refl e
fronts [] l (t ∷ g) k e = right_longer t g refl e
fronts (t ∷ f) l [] k e = left_longer t f refl (sym e)
fronts (t ∷ f) l (u ∷ g) k e = let a : t ≡ u = cc in let b : f ++ l ≡ g ++ k = cc in with_head t u f l g k a (fronts f l g k b)

module _ {T K A : Type 0} (kind : T → K) (R : List T → A → ℕ → Type 0) (d : ℕ) (ts : List T) where
  -- what is read stands nowhere refused
  not_syntax : (v : A) (h : ℕ) (left : List T) → R ts v h → SyntaxAt kind R d ts left → ⊥
  not_syntax v h left r s = s.closed left v h (same_self kind left) (subst (λ u. R u v h) s.whole r)

  not_deep : (v : A) (h : ℕ) (left : List T) → R ts v h → h ≤ d → DeepAt kind R d ts left → ⊥
  not_deep v h left r le s = let lt = s.shut left v h (same_self kind left) (subst (λ u. R u v h) s.whole r) in absurd (omega (arith, lt, le))

  -- what is open doesn't go past a refusal
  closed_beyond : (left : List T) (s : SyntaxAt kind R d ts left) (g : List T) (t : T) (m rest : List T) → Opens R d g → g ≡ s.front ++ t ∷ m → left ≡ t ∷ (m ++ rest) → ⊥
  closed_beyond left s g t m rest o e i =
      let r : R (s.front ++ (t ∷ (m ++ o.rest))) o.value o.nest = subst (λ u. R u o.value o.nest) (ap (λ u. u ++ o.rest) e ∙ append_assoc s.front (t ∷ m) o.rest) o.reads in
      s.closed (t ∷ (m ++ o.rest)) o.value o.nest (subst (λ u. SameHead kind u (t ∷ (m ++ o.rest))) (sym i) refl) r

  shut_beyond : (left : List T) (s : DeepAt kind R d ts left) (g : List T) (t : T) (m rest : List T) → Opens R d g → g ≡ s.front ++ t ∷ m → left ≡ t ∷ (m ++ rest) → ⊥
  shut_beyond left s g t m rest o e i =
      let r : R (s.front ++ (t ∷ (m ++ o.rest))) o.value o.nest = subst (λ u. R u o.value o.nest) (ap (λ u. u ++ o.rest) e ∙ append_assoc s.front (t ∷ m) o.rest) o.reads in
      let lt = s.shut (t ∷ (m ++ o.rest)) o.value o.nest (subst (λ u. SameHead kind u (t ∷ (m ++ o.rest))) (sym i) refl) r in
      let le = o.fits in
      absurd (omega (arith, lt, le))

  syntax_by : (left left' : List T) (a : SyntaxAt kind R d ts left) (b : SyntaxAt kind R d ts left') → Fronts a.front left b.front left' → left ≡ left'
  syntax_by left left' a b (equal e i) = i
  syntax_by left left' a b (left_longer t m e i) = absurd (closed_beyond left' b a.front t m left a.opens e i)
  syntax_by left left' a b (right_longer t m e i) = absurd (closed_beyond left a b.front t m left' b.opens e i)

  deep_by : (left left' : List T) (a : DeepAt kind R d ts left) (b : DeepAt kind R d ts left') → Fronts a.front left b.front left' → left ≡ left'
  deep_by left left' a b (equal e i) = i
  deep_by left left' a b (left_longer t m e i) = absurd (shut_beyond left' b a.front t m left a.opens e i)
  deep_by left left' a b (right_longer t m e i) = absurd (shut_beyond left a b.front t m left' b.opens e i)

  apart_by : (left left' : List T) (a : SyntaxAt kind R d ts left) (b : DeepAt kind R d ts left') → Fronts a.front left b.front left' → ⊥
  apart_by left left' a b (equal e i) =
      let o = b.deeper in
      let r : R (a.front ++ (b.next ∷ o.rest)) o.value o.nest = subst (λ u. R u o.value o.nest) (append_assoc b.front (b.next ∷ []) o.rest ∙ ap (λ u. u ++ b.next ∷ o.rest) (sym e)) o.reads in
      a.closed (b.next ∷ o.rest) o.value o.nest (subst (λ u. SameHead kind u (b.next ∷ o.rest)) (sym (i ∙ b.is)) refl) r
  apart_by left left' a b (left_longer t m e i) = shut_beyond left' b a.front t m left a.opens e i
  apart_by left left' a b (right_longer t m e i) = closed_beyond left a b.front t m left' b.opens e i

  both : (f l g k : List T) → ts ≡ f ++ l → ts ≡ g ++ k → Fronts f l g k
  both f l g k a b = fronts f l g k (sym a ∙ b)

module _ {T K A : Type 0} (kind : T → K) (low : ℕ) (F : ℕ → Reader T A) (R : List T → A → ℕ → Type 0) (Q : A → K → Type 0) (x : (n : ℕ) → Exact kind n low F R Q) (d : ℕ) (ts : List T) where
  syntax_is : (left : List T) → SyntaxAt kind R d ts left → (r : Reading T A) → Answers kind R d ts r → Fault left ≡ r
  syntax_is left a (Read z) b = absurd (not_syntax kind R d ts z.0 z.1 left b.2 a)
  syntax_is left a (Fault left') b = ap (λ l. Fault l) (syntax_by kind R d ts left left' a b (both kind R d ts a.front left b.front left' a.whole b.whole))
  syntax_is left a (Deep left') b = absurd (apart_by kind R d ts left left' a b (both kind R d ts a.front left b.front left' a.whole b.whole))

  deep_is : (left : List T) → DeepAt kind R d ts left → (r : Reading T A) → Answers kind R d ts r → Deep left ≡ r
  deep_is left a (Read z) b = absurd (not_deep kind R d ts z.0 z.1 left b.2 b.1 a)
  deep_is left a (Fault left') b = absurd (apart_by kind R d ts left' left b a (both kind R d ts b.front left' a.front left b.whole a.whole))
  deep_is left a (Deep left') b = ap (λ l. Deep l) (deep_by kind R d ts left left' a b (both kind R d ts a.front left b.front left' a.whole b.whole))

  answer_is : low ≤ d → (r : Reading T A) → Answers kind R d ts r → r ≡ whole (F d ts)
  answer_is le (Read z) b = ap (λ u. Read (z.0, z.1, u)) b.0 ∙ sym (complete x d ts z.0 z.1 b.2 b.1)
  answer_is le (Fault left) b = syntax_is left b (whole (F d ts)) (answers x d le ts)
  answer_is le (Deep left) b = deep_is left b (whole (F d ts)) (answers x d le ts)

-- No other answer is one.
pub once : {T K A : Type 0} {kind : T → K} {low : ℕ} {F : ℕ → Reader T A} {R : List T → A → ℕ → Type 0} {Q : A → K → Type 0}
    → ((n : ℕ) → Exact kind n low F R Q) → (d : ℕ) (ts : List T) → low ≤ d → (r : Reading T A) → Answers kind R d ts r → r ≡ whole (F d ts)
once {kind = kind} {low = low} {F = F} {R = R} {Q = Q} x d ts le r a = answer_is kind low F R Q x d ts le r a
