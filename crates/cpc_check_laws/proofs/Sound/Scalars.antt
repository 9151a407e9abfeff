-- Operands are scalars, and what `?:` and casts make of them can be assigned.
use Rattle.std.proofs.Common.{◌≡◌, ◌⊎◌, inl, inr, ◌&&◌, ◌||◌, Bool, true, false, cond, Some, None, refl, sym, ◌∙◌, ap, subst}
use Rattle.cpc_base.proofs.Truth.{by_false_true, or_either, and_both}
use Rattle.cpc_base.proofs.Lists.{some_is}
use Rattle.cpc_num.specs.declared.kinds.Kind.{Kind}
use Rattle.cpc_num.specs.declared.kinds.Kind.TheVariants.{Int}
use Rattle.cpc_num.specs.declared.kinds.Op.{Op}
use Rattle.cpc_num.specs.declared.kinds.Op.TheVariants.{Add, Sub, Shl, Shr, Lt, Le, Gt, Ge, Eq, Ne}
use Rattle.cpc_tree.specs.Syntax.{Ty, TyVoid, TyInt, TyCondvar, TyPointer, TyCode, TyStruct, TyArray, Expr, EInteger, Program}
use Rattle.cpc_tree.specs.Typing.{Scope, Typed, typing, used, integer, target, is_scalar, is_testable, is_null, binary_type, common_type, sum_type, difference_type, shift_type, order_type, equality_type, choice_type, cast_type, same_type, is_reference, are_comparable}
use Rattle.cpc_meaning.specs.Eval.{and_then}
use Rattle.cpc_check_laws.specs.Sound.Suits.{converts}
use Rattle.cpc_check_laws.proofs.Sound.Answers.{no_some, if_some}

-- both types are scalars
abbrev pub Scalars : Ty → Ty → Type 0
Scalars t u = (is_scalar t ≡ true) × (is_scalar u ≡ true)

pub testable_scalar : (t : Ty) → is_testable t ≡ true → is_scalar t ≡ true
testable_scalar (TyInt k) e = refl
testable_scalar (TyPointer t) e = refl
testable_scalar (TyCode r ps) e = refl
testable_scalar _ e = by_false_true e

pub integer_is : (t : Ty) (k : Kind) → integer t ≡ Some k → t ≡ TyInt k
integer_is (TyInt j) k e = ap (λ i. TyInt i) (some_is j k e)
integer_is _ k e = no_some k e

pub target_is : (t u : Ty) → target t ≡ Some u → t ≡ TyPointer u
target_is (TyPointer t) u e = ap (λ t. TyPointer t) (some_is t u e)
target_is _ u e = no_some u e

reference_scalar : (t : Ty) → is_reference t ≡ true → is_scalar t ≡ true
reference_scalar (TyPointer t) e = refl
reference_scalar (TyCode r ps) e = refl
reference_scalar _ e = by_false_true e

int_scalar : (t : Ty) → t ≡ TyInt Int → is_scalar t ≡ true
int_scalar t e = ap is_scalar e

-- the literal 0 is an int
pub null_int : (p : Program) (scope : Scope) (e : Expr) (d : Typed) (t : Ty) → typing p scope e ≡ Some d → used d ≡ Some t → is_null e ≡ true → t ≡ TyInt Int
null_int p scope (EInteger Int z) d t h u e = sym (some_is (TyInt Int) t (ap (λ o. and_then o used) h ∙ u))
null_int p scope (EInteger _ z) d t h u e = by_false_true e
null_int p scope _ d t h u e = by_false_true e

-- ---- operators on two operands

comparable_pointers : (t u : Ty) → are_comparable (TyPointer t) u ≡ true → is_scalar u ≡ true
comparable_pointers t (TyPointer u) e = refl
comparable_pointers TyVoid _ e = by_false_true e
comparable_pointers (TyInt k) _ e = by_false_true e
comparable_pointers TyCondvar _ e = by_false_true e
comparable_pointers (TyPointer t) _ e = by_false_true e
comparable_pointers (TyCode r ps) _ e = by_false_true e
comparable_pointers (TyStruct tag) _ e = by_false_true e
comparable_pointers (TyArray t n) _ e = by_false_true e

comparable_scalars : (t u : Ty) → are_comparable t u ≡ true → Scalars t u
comparable_scalars (TyInt j) (TyInt k) e = (refl, refl)
comparable_scalars (TyPointer t) u e = (refl, comparable_pointers t u e)
comparable_scalars (TyCode r ps) (TyCode q qs) e = (refl, refl)
comparable_scalars TyCondvar TyCondvar e = (refl, refl)
comparable_scalars _ _ e = by_false_true e

equality_scalars : (m n : Bool) (t u r : Ty) → equality_type m n t u ≡ Some r → (m ≡ true → t ≡ TyInt Int) → (n ≡ true → u ≡ TyInt Int) → Scalars t u
equality_scalars m n t u r e f g =
    go (or_either (are_comparable t u || (m && is_reference u)) (n && is_reference t) (if_some (are_comparable t u || (m && is_reference u) || (n && is_reference t)) (TyInt Int) r e).0)
  where
    first : ((are_comparable t u ≡ true) ⊎ ((m && is_reference u) ≡ true)) → Scalars t u
    first (inl h) = comparable_scalars t u h
    first (inr h) = let k = and_both m (is_reference u) h in (int_scalar t (f k.0), reference_scalar u k.1)

    go : (((are_comparable t u || (m && is_reference u)) ≡ true) ⊎ ((n && is_reference t) ≡ true)) → Scalars t u
    go (inl h) = first (or_either (are_comparable t u) (m && is_reference u) h)
    go (inr h) = let k = and_both n (is_reference t) h in (reference_scalar t k.1, int_scalar u (g k.0))

common_scalars : (t u r : Ty) → common_type t u ≡ Some r → Scalars t u
common_scalars (TyInt j) (TyInt k) r e = (refl, refl)
common_scalars _ _ r e = no_some r e

pub sum_scalars : (p : Program) (t u r : Ty) → sum_type p t u ≡ Some r → Scalars t u
sum_scalars p (TyPointer t) (TyInt k) r e = (refl, refl)
sum_scalars p (TyInt j) (TyPointer t) r e = (refl, refl)
sum_scalars p (TyInt j) (TyInt k) r e = (refl, refl)
sum_scalars p _ _ r e = no_some r e

difference_scalars : (p : Program) (t u r : Ty) → difference_type p t u ≡ Some r → Scalars t u
difference_scalars p (TyPointer t) (TyInt k) r e = (refl, refl)
difference_scalars p (TyPointer t) (TyPointer u) r e = (refl, refl)
difference_scalars p (TyInt j) (TyInt k) r e = (refl, refl)
difference_scalars p _ _ r e = no_some r e

shift_scalars : (t u r : Ty) → shift_type t u ≡ Some r → Scalars t u
shift_scalars (TyInt j) (TyInt k) r e = (refl, refl)
shift_scalars _ _ r e = no_some r e

order_scalars : (t u r : Ty) → order_type t u ≡ Some r → Scalars t u
order_scalars (TyInt j) (TyInt k) r e = (refl, refl)
order_scalars (TyPointer t) (TyPointer u) r e = (refl, refl)
order_scalars _ _ r e = no_some r e

pub binary_scalars : (p : Program) (op : Op) (m n : Bool) (t u r : Ty) → binary_type p op m n t u ≡ Some r → (m ≡ true → t ≡ TyInt Int) → (n ≡ true → u ≡ TyInt Int) → Scalars t u
binary_scalars p Add m n t u r e f g = sum_scalars p t u r e
binary_scalars p Sub m n t u r e f g = difference_scalars p t u r e
binary_scalars p Shl m n t u r e f g = shift_scalars t u r e
binary_scalars p Shr m n t u r e f g = shift_scalars t u r e
binary_scalars p Lt m n t u r e f g = order_scalars t u r e
binary_scalars p Le m n t u r e f g = order_scalars t u r e
binary_scalars p Gt m n t u r e f g = order_scalars t u r e
binary_scalars p Ge m n t u r e f g = order_scalars t u r e
binary_scalars p Eq m n t u r e f g = equality_scalars m n t u r e f g
binary_scalars p Ne m n t u r e f g = equality_scalars m n t u r e f g
binary_scalars p _ m n t u r e f g = common_scalars t u r e

-- ---- `?:` and casts

same_converts : (t u : Ty) → is_reference t ≡ true → same_type t u ≡ true → (is_scalar u ≡ true) × (converts t u ≡ true)
same_converts (TyPointer t) (TyPointer u) e h = (refl, refl)
same_converts (TyCode r ps) (TyCode q qs) e h = (refl, refl)
same_converts (TyPointer t) _ e h = by_false_true h
same_converts (TyCode r ps) _ e h = by_false_true h
same_converts _ u e h = by_false_true e

reference_itself : (t : Ty) → is_reference t ≡ true → converts t t ≡ true
reference_itself (TyPointer t) e = refl
reference_itself (TyCode r ps) e = refl
reference_itself _ e = by_false_true e

reference_null : (t u : Ty) → is_reference t ≡ true → u ≡ TyInt Int → converts t u ≡ true
reference_null t u e h = subst (λ u. converts t u ≡ true) (sym h) (go t e)
  where
    go : (t : Ty) → is_reference t ≡ true → converts t (TyInt Int) ≡ true
    go (TyPointer t) e = refl
    go (TyCode r ps) e = refl
    go _ e = by_false_true e

-- the two arms are scalars that can become the whole
pub record Arms (r t u : Ty) : Type 0 where
  pub scalars : Scalars t u
  pub first : converts r t ≡ true
  pub second : converts r u ≡ true

module _ (m n : Bool) where
  no_choice : (t u r : Ty) → cond (is_reference t && (same_type t u || n)) (Some t) (cond (m && is_reference u) (Some u) None) ≡ Some r
      → (m ≡ true → t ≡ TyInt Int) → (n ≡ true → u ≡ TyInt Int) → Arms r t u
  no_choice t u r e f g = go (is_reference t && (same_type t u || n)) refl e
    where
      same : ((same_type t u ≡ true) ⊎ (n ≡ true)) → is_reference t ≡ true → Arms t t u
      same (inl h) i = let k = same_converts t u i h in record { scalars = (reference_scalar t i, k.0); first = reference_itself t i; second = k.1 }
      same (inr h) i = record { scalars = (reference_scalar t i, int_scalar u (g h)); first = reference_itself t i; second = reference_null t u i (g h) }

      go : (b : Bool) → (is_reference t && (same_type t u || n)) ≡ b → cond b (Some t) (cond (m && is_reference u) (Some u) None) ≡ Some r → Arms r t u
      go true h e =
          let k = and_both (is_reference t) (same_type t u || n) h in
          subst (λ r. Arms r t u) (some_is t r e) (same (or_either (same_type t u) n k.1) k.0)
      go false h e =
          let i = if_some (m && is_reference u) u r e in
          let k = and_both m (is_reference u) i.0 in
          subst (λ r. Arms r t u) i.1 (record { scalars = (int_scalar t (f k.0), reference_scalar u k.1); first = reference_null u t k.1 (f k.0); second = reference_itself u k.1 })

  pub choice_arms : (t u r : Ty) → choice_type m n t u ≡ Some r → (m ≡ true → t ≡ TyInt Int) → (n ≡ true → u ≡ TyInt Int) → Arms r t u
  choice_arms (TyInt j) (TyInt k) r e f g = subst (λ r. Arms r (TyInt j) (TyInt k)) (some_is _ r e) (record { scalars = (refl, refl); first = refl; second = refl })
  choice_arms TyVoid u r e f g = no_choice TyVoid u r e f g
  choice_arms TyCondvar u r e f g = no_choice TyCondvar u r e f g
  choice_arms (TyPointer t) u r e f g = no_choice (TyPointer t) u r e f g
  choice_arms (TyCode q ps) u r e f g = no_choice (TyCode q ps) u r e f g
  choice_arms (TyStruct tag) u r e f g = no_choice (TyStruct tag) u r e f g
  choice_arms (TyArray t l) u r e f g = no_choice (TyArray t l) u r e f g
  choice_arms (TyInt j) u r e f g = no_choice (TyInt j) u r e f g

-- what is cast can become the type
pub record Cast (r t u : Ty) : Type 0 where
  pub same : t ≡ r
  pub scalar : is_scalar u ≡ true
  pub into : converts t u ≡ true

module _ (m : Bool) where
  no_cast : (t u r : Ty) → cond (m && is_reference t) (Some t) None ≡ Some r → (m ≡ true → u ≡ TyInt Int) → Cast r t u
  no_cast t u r e f =
      let i = if_some (m && is_reference t) t r e in
      let k = and_both m (is_reference t) i.0 in
      record { same = i.1; scalar = int_scalar u (f k.0); into = reference_null t u k.1 (f k.0) }

  pub cast_is : (t u r : Ty) → cast_type m t u ≡ Some r → (m ≡ true → u ≡ TyInt Int) → Cast r t u
  cast_is (TyInt j) (TyInt k) r e f = record { same = some_is _ r e; scalar = refl; into = refl }
  cast_is (TyPointer t) (TyPointer u) r e f = record { same = some_is _ r e; scalar = refl; into = refl }
  cast_is t u r e f = no_cast t u r e f
