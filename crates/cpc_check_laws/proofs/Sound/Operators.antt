-- What operators, tests and conversions come to, on values that suit their operands' types.
use Rattle.std.proofs.Common.{◌≡◌, ℕ, Bool, true, false, ◌&&◌, cond, ℤ, pos, ◌+ℤ◌, ◌-ℤ◌, ◌*ℤ◌, int_div, List, length, Option, Some, None, Result, Ok, Err, refl, sym, ◌∙◌, ap, subst}
use Rattle.std.specs.Prelude.{is_some, int_le}
use Rattle.cpc_base.proofs.Truth.{by_false_true}
use Rattle.cpc_base.proofs.Lists.{some_is}
use Rattle.cpc_num.specs.declared.kinds.Fault.{Fault}
use Rattle.cpc_num.specs.declared.kinds.Kind.{Kind}
use Rattle.cpc_num.specs.declared.kinds.Kind.TheVariants.{Int, Long}
use Rattle.cpc_num.specs.declared.kinds.Op.{Op}
use Rattle.cpc_num.specs.declared.kinds.Op.TheVariants.{Sub}
use Rattle.cpc_tree.specs.Syntax.{Ty, TyInt, TyPointer, Program}
use Rattle.cpc_tree.specs.Typing.{size, movable}
use Rattle.cpc_store.specs.declared.values.Class.{Class}
use Rattle.cpc_store.specs.Store.{Value, Unset, Whole, Null, At, Code, Cond, Store, cells_of}
use Rattle.cpc_meaning.specs.Answer.{Answer, Gives, ◌>>=◌, needed}
use Rattle.cpc_meaning.specs.Eval.{number, result_kind, moved_within, moved, offsets_in, offsets, moved_by, distance, ordered, operate}
use Rattle.cpc_check_laws.specs.Sound.Suits.{Comes, Suits}
use Rattle.cpc_check_laws.proofs.Sound.Answers.{no_some, comes_then, comes_if}

-- ---- integers

number_comes : (kind : Kind) (r : Result ℤ Fault) → Comes (Suits (TyInt kind)) (number kind r)
number_comes kind (Ok z) = refl
number_comes kind (Err fault) = tt

numbers_come : (op : Op) (j k j' k' : Kind) (r : Result ℤ Fault) → j' ≡ j → k' ≡ k → Comes (Suits (TyInt (result_kind op j k))) (number (result_kind op j' k') r)
numbers_come op j k j' k' (Ok z) e f = ap (λ i. result_kind op i k') e ∙ ap (λ i. result_kind op j i) f
numbers_come op j k j' k' (Err fault) e f = tt

pub ints_come : (p : Program) (s : Store) (op : Op) (j k : Kind) (v w : Value) → Suits (TyInt j) v → Suits (TyInt k) w → Comes (Suits (TyInt (result_kind op j k))) (operate p s op (Some (TyInt j)) (Some (TyInt k)) v w)
ints_come p s op j k Unset w a b = tt
ints_come p s op j k (Whole i x) Unset a b = tt
ints_come p s op j k (Whole i x) (Whole l y) a b = numbers_come op j k i l _ a b
ints_come p s op j k (Whole i x) Null a b = absurd b
ints_come p s op j k (Whole i x) (At c m n) a b = absurd b
ints_come p s op j k (Whole i x) (Code f) a b = absurd b
ints_come p s op j k (Whole i x) (Cond n) a b = absurd b
ints_come p s op j k Null w a b = absurd a
ints_come p s op j k (At c m n) w a b = absurd a
ints_come p s op j k (Code f) w a b = absurd a
ints_come p s op j k (Cond n) w a b = absurd a

-- ---- pointers

within_comes : (t : Ty) (cells : Option (List Value)) (c : Class) (n : ℕ) (k : ℤ) → Comes (Suits (TyPointer t)) (moved_within cells c n k)
within_comes t None c n k = tt
within_comes t (Some cells) c n k = comes_if (Suits (TyPointer t)) (int_le (pos 0) k && int_le k (pos (length cells))) _ _ tt tt

pub moved_comes : (t : Ty) (s : Store) (v : Value) (d : ℤ) → Suits (TyPointer t) v → Comes (Suits (TyPointer t)) (moved s v d)
moved_comes t s Unset d h = tt
moved_comes t s Null d h = tt
moved_comes t s (At c n k) d h = within_comes t (cells_of c n s) c n (pos k +ℤ d)
moved_comes t s (Whole kind z) d h = absurd h
moved_comes t s (Code f) d h = absurd h
moved_comes t s (Cond n) d h = absurd h

pub moves_come : (p : Program) (s : Store) (t r : Ty) (v : Value) (z : ℤ) → movable p t ≡ Some r → Suits (TyPointer t) v → Comes (Suits r) (moved_by p s (Some (TyPointer t)) v z)
moves_come p s t r v z e h = go (size p t) e
  where
    go : (o : Option ℕ) → cond (is_some o) (Some (TyPointer t)) None ≡ Some r → Comes (Suits r) (needed o >>= (λ n. moved s v (z *ℤ pos n)))
    go None e = no_some r e
    go (Some n) e = subst (λ r. Comes (Suits r) (moved s v (z *ℤ pos n))) (some_is (TyPointer t) r e) (moved_comes t s v (z *ℤ pos n) h)

offsets_in_come : (a b : Option (List Value)) (same : Bool) (j k : ℕ) → Comes (λ jk. Unit {0}) (offsets_in a b same j k)
offsets_in_come None b same j k = tt
offsets_in_come (Some a) None same j k = tt
offsets_in_come (Some a) (Some b) true j k = tt
offsets_in_come (Some a) (Some b) false j k = tt

-- a set pointer
abbrev pub IsAddress : Value → Type 0
IsAddress Null = Unit {0}
IsAddress (At c n k) = Unit {0}
IsAddress _ = ⊥

offsets_come : (s : Store) (v w : Value) → IsAddress v → IsAddress w → Comes (λ jk. Unit {0}) (offsets s v w)
offsets_come s Null w a b = tt
offsets_come s (At c m j) Null a b = tt
offsets_come s (At c m j) (At d n k) a b = offsets_in_come (cells_of c m s) (cells_of d n s) _ j k
offsets_come s (At c m j) _ a b = absurd b
offsets_come s _ w a b = absurd a

pub distance_comes : (p : Program) (s : Store) (t : Ty) (v w : Value) → is_some (size p t) ≡ true → IsAddress v → IsAddress w → Comes (Suits (TyInt Long)) (distance p s (Some (TyPointer t)) v w)
distance_comes p s t v w e a b =
    comes_then (λ jk. Unit {0}) (Suits (TyInt Long)) (offsets s v w) _ (offsets_come s v w a b) (λ jk h. go (size p t) e jk)
  where
    go : (o : Option ℕ) → is_some o ≡ true → (jk : ℕ × ℕ) → Comes (Suits (TyInt Long)) (needed o >>= (λ n. Gives (Whole Long (int_div (pos jk.0 -ℤ pos jk.1) (pos n)))))
    go None e jk = by_false_true e
    go (Some n) e jk = refl

ordered_comes : (s : Store) (test : ℤ → ℤ → Bool) (v w : Value) → IsAddress v → IsAddress w → Comes (Suits (TyInt Int)) (ordered s test v w)
ordered_comes s test v w a b = comes_then (λ jk. Unit {0}) (Suits (TyInt Int)) (offsets s v w) _ (offsets_come s v w a b) (λ jk h. refl)

-- two pointers: one is unset, or both are set
module _ (t u : Ty) (P : Value → Value → Type 0) (first : (w : Value) → P Unset w) (second : (v : Value) → IsAddress v → P v Unset) (set : (v w : Value) → IsAddress v → IsAddress w → P v w) where
  pointers : (v w : Value) → Suits (TyPointer t) v → Suits (TyPointer u) w → P v w
  pointers Unset w a b = first w
  pointers Null Unset a b = second Null tt
  pointers Null Null a b = set Null Null tt tt
  pointers Null (At d n k) a b = set Null (At d n k) tt tt
  pointers Null _ a b = absurd b
  pointers (At c m j) Unset a b = second (At c m j) tt
  pointers (At c m j) Null a b = set (At c m j) Null tt tt
  pointers (At c m j) (At d n k) a b = set (At c m j) (At d n k) tt tt
  pointers (At c m j) _ a b = absurd b
  pointers _ w a b = absurd a

module _ (p : Program) (s : Store) (op : Op) (t u : Ty) where
  abbrev pub on_two : Value → Value → Answer Value
  on_two v w = operate p s op (Some (TyPointer t)) (Some (TyPointer u)) v w

  second_unset : (r : Ty) (v : Value) → IsAddress v → Comes (Suits r) (on_two v Unset)
  second_unset r Null a = tt
  second_unset r (At c n k) a = tt
  second_unset r _ a = absurd a

  -- an operator that is this function of two set pointers
  pub two_come : (r : Ty) (f : Value → Value → Answer Value) → ((v w : Value) → IsAddress v → IsAddress w → on_two v w ≡ f v w) → ((v w : Value) → IsAddress v → IsAddress w → Comes (Suits r) (f v w))
      → (v w : Value) → Suits (TyPointer t) v → Suits (TyPointer u) w → Comes (Suits r) (on_two v w)
  two_come r f same h = pointers t u (λ v w. Comes (Suits r) (on_two v w)) (λ w. tt) (second_unset r) (λ v w a b. subst (Comes (Suits r)) (sym (same v w a b)) (h v w a b))

module _ (p : Program) (s : Store) (t u : Ty) where
  pub is_distance : (v w : Value) → IsAddress v → IsAddress w → on_two p s Sub t u v w ≡ distance p s (Some (TyPointer t)) v w
  is_distance Null Null a b = refl
  is_distance Null (At d n k) a b = refl
  is_distance (At c m j) Null a b = refl
  is_distance (At c m j) (At d n k) a b = refl
  is_distance Null _ a b = absurd b
  is_distance (At c m j) _ a b = absurd b
  is_distance _ w a b = absurd a

  -- an operator that compares two set pointers
  pub is_ordered : (op : Op) (test : ℤ → ℤ → Bool) → on_two p s op t u Null Null ≡ ordered s test Null Null → ((d : Class) (n k : ℕ) → on_two p s op t u Null (At d n k) ≡ ordered s test Null (At d n k))
      → ((c : Class) (m j : ℕ) → on_two p s op t u (At c m j) Null ≡ ordered s test (At c m j) Null)
      → ((c d : Class) (m j n k : ℕ) → on_two p s op t u (At c m j) (At d n k) ≡ ordered s test (At c m j) (At d n k))
      → (v w : Value) → IsAddress v → IsAddress w → on_two p s op t u v w ≡ ordered s test v w
  is_ordered op test e f g h Null Null a b = e
  is_ordered op test e f g h Null (At d n k) a b = f d n k
  is_ordered op test e f g h (At c m j) Null a b = g c m j
  is_ordered op test e f g h (At c m j) (At d n k) a b = h c d m j n k
  is_ordered op test e f g h Null _ a b = absurd b
  is_ordered op test e f g h (At c m j) _ a b = absurd b
  is_ordered op test e f g h _ w a b = absurd a

  pub order_comes : (op : Op) (test : ℤ → ℤ → Bool) → ((v w : Value) → IsAddress v → IsAddress w → on_two p s op t u v w ≡ ordered s test v w)
      → (v w : Value) → Suits (TyPointer t) v → Suits (TyPointer u) w → Comes (Suits (TyInt Int)) (on_two p s op t u v w)
  order_comes op test same = two_come p s op t u (TyInt Int) (ordered s test) same (λ v w a b. ordered_comes s test v w a b)
