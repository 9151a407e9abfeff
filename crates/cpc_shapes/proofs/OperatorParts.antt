-- The types of operators by the parts of their operands.
use Rattle.std.proofs.Common.{◌≡◌, Bool, false, ◌&&◌, ◌||◌, if◌then◌else◌, Some, None, is_some, refl, ap, sym}
use Rattle.cpc_num.specs.declared.kinds.Kind.{Kind}
use Rattle.cpc_num.specs.declared.kinds.Kind.TheVariants.{Int, Long}
use Rattle.cpc_num.specs.Number as N
use Rattle.cpc_tree.specs.Syntax.{Ty, TyVoid, TyInt, TyCondvar, TyPointer, TyCode, Tys, Program}
use Rattle.cpc_tree.specs.Typing as T
use Rattle.cpc_shapes.specs.Shapes.{is_void, is_condvar}
use Rattle.cpc_shapes.specs.Found.{pointed}

-- ---- integers

pub common_some : (a b : Ty) (j k : Kind) → Some j ≡ T.integer a → Some k ≡ T.integer b → T.common_type a b ≡ Some (TyInt (N.common j k))
common_some (TyInt i) (TyInt l) j k e f = cc
common_some a b j k e f = cc

pub common_left : (a b : Ty) → None ≡ T.integer a → T.common_type a b ≡ None
common_left (TyInt i) b e = cc
common_left a b e = refl

pub common_right : (a b : Ty) → None ≡ T.integer b → T.common_type a b ≡ None
common_right (TyInt i) (TyInt l) e = cc
common_right (TyInt i) b e = refl
common_right a b e = refl

pub shift_some : (a b : Ty) (j k : Kind) → Some j ≡ T.integer a → Some k ≡ T.integer b → T.shift_type a b ≡ Some (TyInt (N.promoted j))
shift_some (TyInt i) (TyInt l) j k e f = cc
shift_some a b j k e f = cc

pub shift_left : (a b : Ty) → None ≡ T.integer a → T.shift_type a b ≡ None
shift_left (TyInt i) b e = cc
shift_left a b e = refl

pub shift_right : (a b : Ty) → None ≡ T.integer b → T.shift_type a b ≡ None
shift_right (TyInt i) (TyInt l) e = cc
shift_right (TyInt i) b e = refl
shift_right a b e = refl

-- ---- pointers that are moved

pub pointed_left : (a b t : Ty) → Some t ≡ T.target a → pointed a b ≡ Some t
pointed_left (TyPointer u) b t e = cc
pointed_left a b t e = cc

pub pointed_right : (a b : Ty) → None ≡ T.target a → pointed a b ≡ T.target b
pointed_right (TyPointer u) b e = cc
pointed_right a b e = refl

pub sum_left : (p : Program) (a b t : Ty) (k : Kind) → Some t ≡ T.target a → Some k ≡ T.integer b → T.sum_type p a b ≡ T.movable p t
sum_left p (TyPointer u) (TyInt l) t k e f = let d : u ≡ t = cc in ap (T.movable p) d
sum_left p a b t k e f = cc

pub sum_left_other : (p : Program) (a b t : Ty) → Some t ≡ T.target a → None ≡ T.integer b → T.sum_type p a b ≡ None
sum_left_other p (TyPointer u) (TyInt l) t e f = cc
sum_left_other p (TyPointer u) b t e f = refl
sum_left_other p a b t e f = cc

pub sum_right : (p : Program) (a b t : Ty) (j : Kind) → Some j ≡ T.integer a → Some t ≡ T.target b → T.sum_type p a b ≡ T.movable p t
sum_right p (TyInt i) (TyPointer u) t j e f = let d : u ≡ t = cc in ap (T.movable p) d
sum_right p a b t j e f = cc

pub sum_right_other : (p : Program) (a b : Ty) → None ≡ T.target a → None ≡ T.integer a → T.sum_type p a b ≡ None
sum_right_other p (TyPointer u) b e f = cc
sum_right_other p (TyInt i) b e f = cc
sum_right_other p a b e f = refl

pub sum_common : (p : Program) (a b : Ty) → None ≡ T.target a → None ≡ T.target b → T.sum_type p a b ≡ T.common_type a b
sum_common p (TyPointer u) b e f = cc
sum_common p (TyInt i) (TyPointer u) e f = cc
sum_common p (TyInt i) b e f = refl
sum_common p a b e f = refl

pub difference_common : (p : Program) (a b : Ty) → None ≡ T.target a → T.difference_type p a b ≡ T.common_type a b
difference_common p (TyPointer u) b e = cc
difference_common p a b e = refl

pub difference_far : (p : Program) (a b t u : Ty) → Some t ≡ T.target a → Some u ≡ T.target b
    → T.difference_type p a b ≡ (if T.same_type t u && is_some (T.size p t) then Some (TyInt Long) else None)
difference_far p (TyPointer v) (TyPointer w) t u e f = let d : v ≡ t = cc in let g : w ≡ u = cc in rw (d, g) refl
difference_far p a b t u e f = cc

pub difference_moved : (p : Program) (a b t : Ty) (k : Kind) → Some t ≡ T.target a → Some k ≡ T.integer b → T.difference_type p a b ≡ T.movable p t
difference_moved p (TyPointer u) (TyInt l) t k e f = let d : u ≡ t = cc in ap (T.movable p) d
difference_moved p a b t k e f = cc

pub difference_other : (p : Program) (a b t : Ty) → Some t ≡ T.target a → None ≡ T.target b → None ≡ T.integer b → T.difference_type p a b ≡ None
difference_other p (TyPointer u) (TyInt l) t e f g = cc
difference_other p (TyPointer u) (TyPointer v) t e f g = cc
difference_other p (TyPointer u) b t e f g = refl
difference_other p a b t e f g = cc

-- ---- comparisons

pub order_far : (a b t u : Ty) → Some t ≡ T.target a → Some u ≡ T.target b → T.order_type a b ≡ (if T.same_type t u then Some (TyInt Int) else None)
order_far (TyPointer v) (TyPointer w) t u e f = let d : v ≡ t = cc in let g : w ≡ u = cc in rw (d, g) refl
order_far a b t u e f = cc

pub order_near : (a b : Ty) (j k : Kind) → Some j ≡ T.integer a → Some k ≡ T.integer b → T.order_type a b ≡ Some (TyInt Int)
order_near (TyInt i) (TyInt l) j k e f = refl
order_near a b j k e f = cc

pub order_one_pointer : (a b t : Ty) → Some t ≡ T.target a → None ≡ T.target b → T.order_type a b ≡ None
order_one_pointer (TyPointer u) (TyPointer v) t e f = cc
order_one_pointer (TyPointer u) b t e f = refl
order_one_pointer a b t e f = cc

pub order_none : (a b : Ty) → None ≡ T.target a → None ≡ T.integer a → T.order_type a b ≡ None
order_none (TyPointer u) b e f = cc
order_none (TyInt i) b e f = cc
order_none a b e f = refl

pub order_one_integer : (a b : Ty) (j : Kind) → Some j ≡ T.integer a → None ≡ T.integer b → T.order_type a b ≡ None
order_one_integer (TyInt i) (TyInt l) j e f = cc
order_one_integer (TyInt i) b j e f = refl
order_one_integer a b j e f = cc

pub comparable_integer : (j : Kind) (b : Ty) → T.are_comparable (TyInt j) b ≡ is_some (T.integer b)
comparable_integer j (TyInt k) = refl
comparable_integer j b = refl

pointers_alike : (t u : Ty) → T.are_comparable (TyPointer t) (TyPointer u) ≡ ((is_void t || is_void u) || T.same_type t u)
pointers_alike TyVoid u = refl
pointers_alike t TyVoid = refl
pointers_alike t u = refl

pub comparable_pointers : (t b u : Ty) → Some u ≡ T.target b → T.are_comparable (TyPointer t) b ≡ ((is_void t || is_void u) || T.same_type t u)
comparable_pointers t (TyPointer v) u e = let d : v ≡ u = cc in rw d (pointers_alike t u)
comparable_pointers t b u e = cc

pub comparable_pointer : (t b : Ty) → None ≡ T.target b → T.are_comparable (TyPointer t) b ≡ false
comparable_pointer t (TyPointer v) e = cc
comparable_pointer TyVoid b e = refl
comparable_pointer t b e = refl

pub comparable_code : (r : Ty) (ps : Tys) (b : Ty) → T.are_comparable (TyCode r ps) b ≡ T.same_type (TyCode r ps) b
comparable_code r ps (TyCode q qs) = refl
comparable_code r ps b = refl

pub comparable_condvar : (b : Ty) → T.are_comparable TyCondvar b ≡ is_condvar b
comparable_condvar TyCondvar = refl
comparable_condvar b = refl

-- ---- choices and casts

pub choice_same : (m n : Bool) (a b c : Ty) → Some c ≡ T.common_type a b → T.choice_type m n a b ≡ Some c
choice_same m n (TyInt j) (TyInt k) c e = sym e
choice_same m n a b c e = cc

pub choice_other : (m n : Bool) (a b : Ty) → None ≡ T.common_type a b
    → T.choice_type m n a b ≡ (if T.is_reference a && (T.same_type a b || n) then Some a else (if m && T.is_reference b then Some b else None))
choice_other m n (TyInt j) (TyInt k) e = cc
choice_other m n (TyInt j) b e = refl
choice_other m n a b e = refl
