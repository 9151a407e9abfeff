-- Operators by their operands.
use Rattle.std.proofs.Common.{◌≡◌, ℕ, ℤ, ◌⊎◌, inl, inr, Option, Result, refl}
use Rattle.cpc_num.specs.declared.kinds.Kind.{Kind}
use Rattle.cpc_num.specs.declared.kinds.Op.{Op}
use Rattle.cpc_num.specs.declared.kinds.Op.TheVariants as O
use Rattle.cpc_tree.specs.Erase.{Names}
use Rattle.cpc_tree.specs.Syntax.{Ty, Program}
use Rattle.cpc_store.specs.declared.values.Value as V
use Rattle.cpc_store.specs.declared.values.Value.TheVariants as G
use Rattle.cpc_store.specs.Store.{Store, Value, Whole}
use Rattle.cpc_store.specs.Seen.{seen}
use Rattle.cpc_meaning.specs.Answer.{NoAnswer}
use Rattle.cpc_meaning.specs.Eval.{operate, on_pointers, on_mixed, distance, ordered}
use Rattle.cpc_num.specs.declared.kinds.Fault.{Fault}
use Rattle.cpc_eval_values.specs.Meets.{Meets}
use Rattle.cpc_eval_values.specs.Ordered.{order_of}
use Rattle.cpc_eval_values.specs.Shown.{value_of}
use Rattle.cpc_eval_values.specs.Counted.{counted, cells_counted, cells_left, cells_right}

-- a value that is no unset one
abbrev pub IsSet : V.Value → Type 0
IsSet v = v ≡ G.Unset → ⊥

-- a value that is no integer
abbrev pub IsOther : V.Value → Type 0
IsOther v = (kind : Kind) (z : ℤ) → v ≡ G.Int kind z → ⊥

-- the seen value of a set reference
data Reference : V.Value → Type 0 where
  null : Reference G.Null
  at : (b : _) (k : ℕ) → Reference (G.At b k)
  code : (f : _) → Reference (G.Code f)
  cond : (n : ℕ) → Reference (G.Cond n)

reference : (v : V.Value) → IsSet v → IsOther v → Reference v
reference G.Unset s o = absurd (s refl)
reference (G.Int kind z) s o = absurd (o kind z refl)
reference G.Null s o = null
reference (G.At b k) s o = at b k
reference (G.Code f) s o = code f
reference (G.Cond n) s o = cond n

module _ (names : Names) (p : Program) (s : Store) (t u : Option Ty) where
  -- an operator whose left operand is a reference
  pub operate_reference : (op : Op) (l r : V.Value) → IsSet l → IsOther l → IsSet r → operate p s op t u (value_of names l) (value_of names r) ≡ on_pointers p s op t (value_of names l) (value_of names r)
  operate_reference op l r a b c = go l r (reference l a b) c
    where
      go : (l r : V.Value) → Reference l → IsSet r → operate p s op t u (value_of names l) (value_of names r) ≡ on_pointers p s op t (value_of names l) (value_of names r)
      go l G.Unset k c = absurd (c refl)
      go l (G.Int kind z) null c = refl
      go l (G.Int kind z) (at b k) c = refl
      go l (G.Int kind z) (code f) c = refl
      go l (G.Int kind z) (cond n) c = refl
      go l G.Null null c = refl
      go l G.Null (at b k) c = refl
      go l G.Null (code f) c = refl
      go l G.Null (cond n) c = refl
      go l (G.At d j) null c = refl
      go l (G.At d j) (at b k) c = refl
      go l (G.At d j) (code f) c = refl
      go l (G.At d j) (cond n) c = refl
      go l (G.Code g) null c = refl
      go l (G.Code g) (at b k) c = refl
      go l (G.Code g) (code f) c = refl
      go l (G.Code g) (cond n) c = refl
      go l (G.Cond m) null c = refl
      go l (G.Cond m) (at b k) c = refl
      go l (G.Cond m) (code f) c = refl
      go l (G.Cond m) (cond n) c = refl

  -- an operator on an integer and a reference
  pub operate_mixed : (op : Op) (kind : Kind) (z : ℤ) (r : V.Value) → IsSet r → IsOther r → operate p s op t u (Whole kind z) (value_of names r) ≡ on_mixed p s op u z (value_of names r)
  operate_mixed op kind z r a b = go r (reference r a b)
    where
      go : (r : V.Value) → Reference r → operate p s op t u (Whole kind z) (value_of names r) ≡ on_mixed p s op u z (value_of names r)
      go r null = refl
      go r (at d j) = refl
      go r (code f) = refl
      go r (cond n) = refl

  -- the operand whose elements are counted
  pub counted_reference : (op : Op) (l r : V.Value) → IsSet l → IsOther l → cells_counted p (counted op (seen l) (seen r)) t u ≡ cells_left p op t
  counted_reference op l r a b = go op l (reference l a b)
    where
      go : (op : Op) (l : V.Value) → Reference l → cells_counted p (counted op (seen l) (seen r)) t u ≡ cells_left p op t
      go O.Add l null = refl
      go O.Add l (at d j) = refl
      go O.Add l (code f) = refl
      go O.Add l (cond n) = refl
      go O.Sub l null = refl
      go O.Sub l (at d j) = refl
      go O.Sub l (code f) = refl
      go O.Sub l (cond n) = refl
      go _ l k = refl

  pub counted_mixed : (op : Op) (kind : Kind) (z : ℤ) (r : V.Value) → IsSet r → IsOther r → cells_counted p (counted op (Whole kind z) (seen r)) t u ≡ cells_right p op u
  counted_mixed op kind z r a b = go op r (reference r a b)
    where
      go : (op : Op) (r : V.Value) → Reference r → cells_counted p (counted op (Whole kind z) (seen r)) t u ≡ cells_right p op u
      go O.Add r null = refl
      go O.Add r (at d j) = refl
      go O.Add r (code f) = refl
      go O.Add r (cond n) = refl
      go _ r k = refl

-- ---- operators on references

module _ (p : Program) (s : Store) (t : Option Ty) where
  -- the difference of two of them
  pub distance_meets : (names : Names) (v : Value) (w : V.Value) (r : Result Value Fault) → IsOther w → Meets r (distance p s t v (value_of names w)) → Meets r (on_pointers p s O.Sub t v (value_of names w))
  distance_meets names v G.Unset r o h = h
  distance_meets names v (G.Int kind z) r o h = absurd (o kind z refl)
  distance_meets names v G.Null r o h = h
  distance_meets names v (G.At b k) r o h = h
  distance_meets names v (G.Code f) r o h = h
  distance_meets names v (G.Cond n) r o h = h

  one_of : (is : Op) (op : Op) (v w : Value) (r : Result Value Fault) → op ≡ is → Meets r (ordered s (order_of op) v w) → (Meets r (ordered s (order_of is) v w) → Meets r (on_pointers p s is t v w)) → Meets r (on_pointers p s op t v w)
  one_of is op v w r e h g = rw e (g (rw e at h))

  -- a comparison
  pub ordered_meets : (op : Op) (v w : Value) (r : Result Value Fault) → (op ≡ O.Lt) ⊎ ((op ≡ O.Le) ⊎ ((op ≡ O.Gt) ⊎ (op ≡ O.Ge))) → Meets r (ordered s (order_of op) v w) → Meets r (on_pointers p s op t v w)
  ordered_meets op v w r i h = elim i [
    | inl e ↦ one_of O.Lt op v w r e h (λ g. g)
    | inr i ↦ elim i [
      | inl e ↦ one_of O.Le op v w r e h (λ g. g)
      | inr i ↦ elim i [ inl e ↦ one_of O.Gt op v w r e h (λ g. g) | inr e ↦ one_of O.Ge op v w r e h (λ g. g) ]
    ]
  ]

  -- the others have no rule
  pub unruled : (op : Op) (v w : Value) → (op ≡ O.Add → ⊥) → (op ≡ O.Sub → ⊥) → (op ≡ O.Lt → ⊥) → (op ≡ O.Le → ⊥) → (op ≡ O.Gt → ⊥) → (op ≡ O.Ge → ⊥) → (op ≡ O.Eq → ⊥) → (op ≡ O.Ne → ⊥) → on_pointers p s op t v w ≡ NoAnswer
  unruled O.Add v w a b c d e f g h = absurd (a refl)
  unruled O.Sub v w a b c d e f g h = absurd (b refl)
  unruled O.Lt v w a b c d e f g h = absurd (c refl)
  unruled O.Le v w a b c d e f g h = absurd (d refl)
  unruled O.Gt v w a b c d e f g h = absurd (e refl)
  unruled O.Ge v w a b c d e f g h = absurd (f refl)
  unruled O.Eq v w a b c d e f g h = absurd (g refl)
  unruled O.Ne v w a b c d e f g h = absurd (h refl)
  unruled _ v w a b c d e f g h = refl
