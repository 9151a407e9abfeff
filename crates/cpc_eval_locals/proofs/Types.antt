-- What a name stands for is a set: any two proofs of one equation are equal.
use Rattle.std.proofs.Common.{◌≡◌, ℕ, Bool, List, refl, ap}
use Rattle.std.proofs.Math.Nat.{ℕ_set}
use Rattle.std.proofs.Props.{props}
use Rattle.cpc_base.specs.Bytes.{Text}
use Rattle.cpc_base.proofs.Sets.{retract_set}
use Rattle.cpc_num.specs.declared.kinds.Kind.{Kind}
use Rattle.cpc_num.proofs.KindSets.{kind_set}
use Rattle.cpc_tree.specs.Syntax.{Ty, TyVoid, TyInt, TyCondvar, TyPointer, TyCode, TyStruct, TyArray, Tys, NoTy, AndTy}
use Rattle.cpc_eval_locals.specs.Held.{Held}

text_set : IsSet Text
text_set = hlevel props

-- a copy of types, of which this is derived
data TyCopy : Type 0 where
  CVoid : TyCopy
  CInt : Kind → TyCopy
  CCondvar : TyCopy
  CPointer : TyCopy → TyCopy
  CCode : TyCopy → TyCopy → TyCopy
  CStruct : Text → TyCopy
  CArray : TyCopy → ℕ → TyCopy
  CNoTy : TyCopy
  CAndTy : TyCopy → TyCopy → TyCopy
  deriving IsSet as ty_copy_set

abbrev mutual
  copy_ty : Ty → TyCopy
  copy_ty TyVoid = CVoid
  copy_ty (TyInt k) = CInt k
  copy_ty TyCondvar = CCondvar
  copy_ty (TyPointer t) = CPointer (copy_ty t)
  copy_ty (TyCode t ts) = CCode (copy_ty t) (copy_tys ts)
  copy_ty (TyStruct x) = CStruct x
  copy_ty (TyArray t n) = CArray (copy_ty t) n

  copy_tys : Tys → TyCopy
  copy_tys NoTy = CNoTy
  copy_tys (AndTy t ts) = CAndTy (copy_ty t) (copy_tys ts)

-- the type and the types of which this is a copy
abbrev ty_back : TyCopy → Ty × Tys
ty_back CVoid = (TyVoid, NoTy)
ty_back (CInt k) = (TyInt k, NoTy)
ty_back CCondvar = (TyCondvar, NoTy)
ty_back (CPointer c) = (TyPointer (ty_back c).0, NoTy)
ty_back (CCode c d) = (TyCode (ty_back c).0 (ty_back d).1, NoTy)
ty_back (CStruct x) = (TyStruct x, NoTy)
ty_back (CArray c n) = (TyArray (ty_back c).0 n, NoTy)
ty_back CNoTy = (TyVoid, NoTy)
ty_back (CAndTy c d) = (TyVoid, AndTy (ty_back c).0 (ty_back d).1)

mutual
  ty_again : (t : Ty) → (ty_back (copy_ty t)).0 ≡ t
  ty_again TyVoid = refl
  ty_again (TyInt k) = refl
  ty_again TyCondvar = refl
  ty_again (TyPointer t) = ap TyPointer (ty_again t)
  ty_again (TyCode t ts) = let one = ty_again t in let more = tys_again ts in λ i. TyCode (one i) (more i)
  ty_again (TyStruct x) = refl
  ty_again (TyArray t n) = ap (λ u. TyArray u n) (ty_again t)

  tys_again : (ts : Tys) → (ty_back (copy_tys ts)).1 ≡ ts
  tys_again NoTy = refl
  tys_again (AndTy t ts) = let one = ty_again t in let more = tys_again ts in λ i. AndTy (one i) (more i)

ty_set : IsSet Ty
ty_set = retract_set copy_ty (λ c. (ty_back c).0) ty_again (ty_copy_set kind_set text_set ℕ_set)

pub held_set : IsSet Held
held_set = hlevel (props, ty_set, ℕ_set)

pub kept_set : IsSet (List (Ty × Bool))
kept_set = hlevel (props, ty_set)

pub types_set : IsSet (List Ty)
types_set = hlevel (props, ty_set)
