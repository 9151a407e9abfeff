-- What values may be written to a type, by its parts.
use Rattle.std.proofs.Common.{◌≡◌, Bool, true, false, ◌&&◌, ◌||◌, Some, None, is_some, refl, sym}
use Rattle.cpc_base.proofs.Truth.{or_with_true}
use Rattle.cpc_num.specs.declared.kinds.Kind.{Kind}
use Rattle.cpc_tree.specs.Syntax.{Ty, TyVoid, TyInt, TyCondvar, TyPointer, TyCode, Tys}
use Rattle.cpc_tree.specs.Typing as T
use Rattle.cpc_check_rules.specs.Scopes as R
use Rattle.cpc_shapes.specs.Shapes.{is_void, is_condvar}

or_false : (b : Bool) → (false || (b && false)) ≡ false
or_false true = refl
or_false false = refl

either : (b c : Bool) → (b || (c && true)) ≡ (c || b)
either true true = refl
either true false = refl
either false true = refl
either false false = refl

null_alone : (c : Bool) → (false || (c && true)) ≡ c
null_alone true = refl
null_alone false = refl

pub integer_takes : (j : Kind) (null : Bool) (u : Ty) → R.takes_value (TyInt j) null u ≡ is_some (T.integer u)
integer_takes j null (TyInt k) = refl
integer_takes j null u = or_false null

pointers : (t u : Ty) (null : Bool) → R.takes_value (TyPointer t) null (TyPointer u) ≡ (null || ((is_void t || is_void u) || T.same_type t u))
pointers TyVoid u null = sym (or_with_true null)
pointers t TyVoid null = sym (or_with_true null)
pointers t u null = either (T.same_type t u) null

pub pointer_takes : (t b u : Ty) (null : Bool) → Some u ≡ T.target b → R.takes_value (TyPointer t) null b ≡ (null || ((is_void t || is_void u) || T.same_type t u))
pointer_takes t (TyPointer v) u null e = let d : v ≡ u = cc in rw d (pointers t u null)
pointer_takes t b u null e = cc

pub pointer_takes_other : (t b : Ty) (null : Bool) → None ≡ T.target b → R.takes_value (TyPointer t) null b ≡ null
pointer_takes_other t (TyPointer v) null e = cc
pointer_takes_other TyVoid b null e = null_alone null
pointer_takes_other t b null e = null_alone null

pub code_takes : (r : Ty) (ps : Tys) (b : Ty) (null : Bool) → R.takes_value (TyCode r ps) null b ≡ (null || T.same_type (TyCode r ps) b)
code_takes r ps b null = either (T.same_type (TyCode r ps) b) null

pub condvar_takes : (b : Ty) (null : Bool) → R.takes_value TyCondvar null b ≡ is_condvar b
condvar_takes TyCondvar null = refl
condvar_takes b null = or_false null
