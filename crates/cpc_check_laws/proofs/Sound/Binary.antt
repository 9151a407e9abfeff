-- What binary operators and `?:` come to, by the rules of their types.
use Rattle.std.proofs.Common.{◌≡◌, ◌&&◌, ◌||◌, pos, ◌-ℤ◌, Bool, cond, Option, Some, None, refl, ◌∙◌, ap, subst}
use Rattle.std.specs.Prelude.{is_some, int_lt, int_le}
use Rattle.cpc_base.proofs.Truth.{and_both}
use Rattle.cpc_base.proofs.Lists.{some_is}
use Rattle.cpc_num.specs.declared.kinds.Kind.{Kind}
use Rattle.cpc_num.specs.declared.kinds.Kind.TheVariants.{Int, Long}
use Rattle.cpc_num.specs.declared.kinds.Op.{Op}
use Rattle.cpc_num.specs.declared.kinds.Op.TheVariants.{Mul, Div, Rem, Add, Sub, Shl, Shr, Lt, Le, Gt, Ge, Eq, Ne, BitAnd, BitXor, BitOr}
use Rattle.cpc_num.specs.Number.{promoted, common}
use Rattle.cpc_tree.specs.Syntax.{Ty, TyInt, TyPointer, Program}
use Rattle.cpc_tree.specs.Typing.{size, binary_type, common_type, sum_type, difference_type, shift_type, order_type, movable, same_type, is_reference, are_comparable}
use Rattle.cpc_store.specs.Store.{Value, Unset, Whole, Null, At, Code, Cond, Store}
use Rattle.cpc_meaning.specs.Eval.{result_kind, operate}
use Rattle.cpc_check_laws.specs.Sound.Suits.{Comes, Suits}
use Rattle.cpc_check_laws.proofs.Sound.Answers.{no_some, if_some}
use Rattle.cpc_check_laws.proofs.Sound.Operators.{ints_come, moves_come, distance_comes, two_come, is_distance, is_ordered, order_comes, on_two}

-- ---- results

module _ (p : Program) (s : Store) where
  -- an operator on two integers, whose type is told
  ints_as : (op : Op) (j k : Kind) (r : Ty) (v w : Value) → Some (TyInt (result_kind op j k)) ≡ Some r → Suits (TyInt j) v → Suits (TyInt k) w → Comes (Suits r) (operate p s op (Some (TyInt j)) (Some (TyInt k)) v w)
  ints_as op j k r v w e a b = subst (λ r. Comes (Suits r) (operate p s op (Some (TyInt j)) (Some (TyInt k)) v w)) (some_is (TyInt (result_kind op j k)) r e) (ints_come p s op j k v w a b)

  common_comes : (op : Op) (t u r : Ty) (v w : Value) → ((j k : Kind) → result_kind op j k ≡ common j k) → common_type t u ≡ Some r → Suits t v → Suits u w → Comes (Suits r) (operate p s op (Some t) (Some u) v w)
  common_comes op (TyInt j) (TyInt k) r v w same e a b = ints_as op j k r v w (ap (λ i. Some (TyInt i)) (same j k) ∙ e) a b
  common_comes op _ _ r v w same e a b = no_some r e

  shift_comes : (op : Op) (t u r : Ty) (v w : Value) → ((j k : Kind) → result_kind op j k ≡ promoted j) → shift_type t u ≡ Some r → Suits t v → Suits u w → Comes (Suits r) (operate p s op (Some t) (Some u) v w)
  shift_comes op (TyInt j) (TyInt k) r v w same e a b = ints_as op j k r v w (ap (λ i. Some (TyInt i)) (same j k) ∙ e) a b
  shift_comes op _ _ r v w same e a b = no_some r e

  -- ---- sums

  right_sum : (t r : Ty) (k : Kind) (v w : Value) → movable p t ≡ Some r → Suits (TyPointer t) v → Suits (TyInt k) w → Comes (Suits r) (operate p s Add (Some (TyPointer t)) (Some (TyInt k)) v w)
  right_sum t r k Unset w e a b = tt
  right_sum t r k Null Unset e a b = tt
  right_sum t r k (At c n m) Unset e a b = tt
  right_sum t r k Null (Whole i z) e a b = moves_come p s t r Null z e a
  right_sum t r k (At c n m) (Whole i z) e a b = moves_come p s t r (At c n m) z e a
  right_sum t r k Null _ e a b = absurd b
  right_sum t r k (At c n m) _ e a b = absurd b
  right_sum t r k _ w e a b = absurd a

  right_difference : (t r : Ty) (k : Kind) (v w : Value) → movable p t ≡ Some r → Suits (TyPointer t) v → Suits (TyInt k) w → Comes (Suits r) (operate p s Sub (Some (TyPointer t)) (Some (TyInt k)) v w)
  right_difference t r k Unset w e a b = tt
  right_difference t r k Null Unset e a b = tt
  right_difference t r k (At c n m) Unset e a b = tt
  right_difference t r k Null (Whole i z) e a b = moves_come p s t r Null (pos 0 -ℤ z) e a
  right_difference t r k (At c n m) (Whole i z) e a b = moves_come p s t r (At c n m) (pos 0 -ℤ z) e a
  right_difference t r k Null _ e a b = absurd b
  right_difference t r k (At c n m) _ e a b = absurd b
  right_difference t r k _ w e a b = absurd a

  left_sum : (t r : Ty) (j : Kind) (v w : Value) → movable p t ≡ Some r → Suits (TyInt j) v → Suits (TyPointer t) w → Comes (Suits r) (operate p s Add (Some (TyInt j)) (Some (TyPointer t)) v w)
  left_sum t r j Unset w e a b = tt
  left_sum t r j (Whole i z) Unset e a b = tt
  left_sum t r j (Whole i z) Null e a b = moves_come p s t r Null z e b
  left_sum t r j (Whole i z) (At c n m) e a b = moves_come p s t r (At c n m) z e b
  left_sum t r j (Whole i z) _ e a b = absurd b
  left_sum t r j _ w e a b = absurd a

  pub sum_comes : (t u r : Ty) (v w : Value) → sum_type p t u ≡ Some r → Suits t v → Suits u w → Comes (Suits r) (operate p s Add (Some t) (Some u) v w)
  sum_comes (TyPointer t) (TyInt k) r v w e a b = right_sum t r k v w e a b
  sum_comes (TyInt j) (TyPointer t) r v w e a b = left_sum t r j v w e a b
  sum_comes (TyInt j) (TyInt k) r v w e a b = ints_as Add j k r v w e a b
  sum_comes _ _ r v w e a b = no_some r e

  apart_comes : (t u r : Ty) (v w : Value) → cond (same_type t u && is_some (size p t)) (Some (TyInt Long)) None ≡ Some r → Suits (TyPointer t) v → Suits (TyPointer u) w
      → Comes (Suits r) (operate p s Sub (Some (TyPointer t)) (Some (TyPointer u)) v w)
  apart_comes t u r v w e a b =
      let f = if_some (same_type t u && is_some (size p t)) (TyInt Long) r e in
      let g = and_both (same_type t u) (is_some (size p t)) f.0 in
      subst (λ r. Comes (Suits r) (on_two p s Sub t u v w)) f.1
      (two_come p s Sub t u (TyInt Long) _ (is_distance p s t u) (λ x y i j. distance_comes p s t x y g.1 i j) v w a b)

  difference_comes : (t u r : Ty) (v w : Value) → difference_type p t u ≡ Some r → Suits t v → Suits u w → Comes (Suits r) (operate p s Sub (Some t) (Some u) v w)
  difference_comes (TyPointer t) (TyInt k) r v w e a b = right_difference t r k v w e a b
  difference_comes (TyPointer t) (TyPointer u) r v w e a b = apart_comes t u r v w e a b
  difference_comes (TyInt j) (TyInt k) r v w e a b = ints_as Sub j k r v w e a b
  difference_comes _ _ r v w e a b = no_some r e

  -- ---- comparisons

  order_as : (op : Op) (t u r : Ty) (v w : Value) → ((j k : Kind) → result_kind op j k ≡ Int)
      → ((t u : Ty) (v w : Value) → Suits (TyPointer t) v → Suits (TyPointer u) w → Comes (Suits (TyInt Int)) (on_two p s op t u v w))
      → order_type t u ≡ Some r → Suits t v → Suits u w → Comes (Suits r) (operate p s op (Some t) (Some u) v w)
  order_as op (TyInt j) (TyInt k) r v w same f e a b = ints_as op j k r v w (ap (λ i. Some (TyInt i)) (same j k) ∙ e) a b
  order_as op (TyPointer t) (TyPointer u) r v w same f e a b =
      subst (λ r. Comes (Suits r) (on_two p s op t u v w)) ((if_some (same_type t u) (TyInt Int) r e).1) (f t u v w a b)
  order_as op _ _ r v w same f e a b = no_some r e

  pub eq_comes : (t u : Option Ty) (v w : Value) → Comes (Suits (TyInt Int)) (operate p s Eq t u v w)
  eq_comes t u Unset w = tt
  eq_comes t u (Whole j x) Unset = tt
  eq_comes t u (Whole j x) _ = refl
  eq_comes t u Null Unset = tt
  eq_comes t u Null _ = refl
  eq_comes t u (At c n k) Unset = tt
  eq_comes t u (At c n k) _ = refl
  eq_comes t u (Code f) Unset = tt
  eq_comes t u (Code f) _ = refl
  eq_comes t u (Cond n) Unset = tt
  eq_comes t u (Cond n) _ = refl

  pub ne_comes : (t u : Option Ty) (v w : Value) → Comes (Suits (TyInt Int)) (operate p s Ne t u v w)
  ne_comes t u Unset w = tt
  ne_comes t u (Whole j x) Unset = tt
  ne_comes t u (Whole j x) _ = refl
  ne_comes t u Null Unset = tt
  ne_comes t u Null _ = refl
  ne_comes t u (At c n k) Unset = tt
  ne_comes t u (At c n k) _ = refl
  ne_comes t u (Code f) Unset = tt
  ne_comes t u (Code f) _ = refl
  ne_comes t u (Cond n) Unset = tt
  ne_comes t u (Cond n) _ = refl

  pub binary_comes : (op : Op) (m n : Bool) (t u r : Ty) (v w : Value) → binary_type p op m n t u ≡ Some r → Suits t v → Suits u w → Comes (Suits r) (operate p s op (Some t) (Some u) v w)
  binary_comes Add m n t u r v w e a b = sum_comes t u r v w e a b
  binary_comes Sub m n t u r v w e a b = difference_comes t u r v w e a b
  binary_comes Shl m n t u r v w e a b = shift_comes Shl t u r v w (λ j k. refl) e a b
  binary_comes Shr m n t u r v w e a b = shift_comes Shr t u r v w (λ j k. refl) e a b
  binary_comes Lt m n t u r v w e a b =
      order_as Lt t u r v w (λ j k. refl) (λ t u. order_comes p s t u Lt int_lt (is_ordered p s t u Lt int_lt refl (λ d n k. refl) (λ c m j. refl) (λ c d m j n k. refl))) e a b
  binary_comes Le m n t u r v w e a b =
      order_as Le t u r v w (λ j k. refl) (λ t u. order_comes p s t u Le int_le (is_ordered p s t u Le int_le refl (λ d n k. refl) (λ c m j. refl) (λ c d m j n k. refl))) e a b
  binary_comes Gt m n t u r v w e a b =
      order_as Gt t u r v w (λ j k. refl) (λ t u. order_comes p s t u Gt (λ j k. int_lt k j) (is_ordered p s t u Gt (λ j k. int_lt k j) refl (λ d n k. refl) (λ c m j. refl) (λ c d m j n k. refl))) e a b
  binary_comes Ge m n t u r v w e a b =
      order_as Ge t u r v w (λ j k. refl) (λ t u. order_comes p s t u Ge (λ j k. int_le k j) (is_ordered p s t u Ge (λ j k. int_le k j) refl (λ d n k. refl) (λ c m j. refl) (λ c d m j n k. refl))) e a b
  binary_comes Eq m n t u r v w e a b =
      subst (λ r. Comes (Suits r) (operate p s Eq (Some t) (Some u) v w)) ((if_some (are_comparable t u || (m && is_reference u) || (n && is_reference t)) (TyInt Int) r e).1) (eq_comes (Some t) (Some u) v w)
  binary_comes Ne m n t u r v w e a b =
      subst (λ r. Comes (Suits r) (operate p s Ne (Some t) (Some u) v w)) ((if_some (are_comparable t u || (m && is_reference u) || (n && is_reference t)) (TyInt Int) r e).1) (ne_comes (Some t) (Some u) v w)
  binary_comes Mul m n t u r v w e a b = common_comes Mul t u r v w (λ j k. refl) e a b
  binary_comes Div m n t u r v w e a b = common_comes Div t u r v w (λ j k. refl) e a b
  binary_comes Rem m n t u r v w e a b = common_comes Rem t u r v w (λ j k. refl) e a b
  binary_comes BitAnd m n t u r v w e a b = common_comes BitAnd t u r v w (λ j k. refl) e a b
  binary_comes BitXor m n t u r v w e a b = common_comes BitXor t u r v w (λ j k. refl) e a b
  binary_comes BitOr m n t u r v w e a b = common_comes BitOr t u r v w (λ j k. refl) e a b
