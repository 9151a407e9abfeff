-- A printed type is read as the type.
use Rattle.std.proofs.Common.{◌≡◌, ◌+◌, Bool, true, false, List, [], ◌∷◌, ◌++◌, Option, None, refl, sym, subst}
use Rattle.std.proofs.lemmas.List.{append-nil}
use Rattle.cpc_base.specs.Bytes.{Text}
use Rattle.cpc_num.specs.declared.kinds.Kind.{Kind}
use Rattle.cpc_num.specs.declared.kinds.Kind.TheVariants as N
use Rattle.cpc_tree.specs.Syntax.{Ty, TyVoid, TyInt, TyCondvar, TyPointer, TyCode, TyStruct, TyArray, Tys, NoTy, AndTy, Parameter}
use Rattle.cpc_printer_laws.proofs.TypeRows.{ReadsKind, char, unsigned_char, int, unsigned, long, unsigned_long, ReadsBase, void_base, kind_base, condvar_base, struct_base, ReadsStars, no_star, a_star, types, without_void, ReadsParam, plain_param, array_param, code_param, ReadsParamRow, last_param, more_params, ReadsParams, some_params, ReadsTypeName, plain_type, code_type}
use Rattle.cpc_tree.specs.TypePrint.{kind_row, base_of, base_row, stars, star_count, param_row, rest_row, list_row, lone_name, param_depth, types_depth, declarator_row, declarator_depth, type_row, IsStarred, PrintableType, PrintableTypes}

kind_reads : (kind : Kind) → ReadsKind (kind_row kind) kind
kind_reads N.Char = char
kind_reads N.UChar = unsigned_char
kind_reads N.Int = int
kind_reads N.UInt = unsigned
kind_reads N.Long = long
kind_reads N.ULong = unsigned_long

-- the base under pointers
pub base_reads : (t : Ty) → ReadsBase (base_row t) (base_of t) 0
base_reads TyVoid = void_base
base_reads (TyInt kind) = kind_base _ kind (kind_reads kind)
base_reads TyCondvar = condvar_base
base_reads (TyPointer t) = base_reads t
base_reads (TyCode t ts) = base_reads t
base_reads (TyStruct tag) = struct_base tag
base_reads (TyArray t n) = base_reads t

pub stars_read : (t : Ty) → IsStarred t → ReadsStars (base_of t) (stars t) t (star_count t)
stars_read TyVoid s = no_star
stars_read (TyInt kind) s = no_star
stars_read TyCondvar s = no_star
stars_read (TyPointer t) s = a_star _ t _ (stars_read t s)
stars_read (TyCode t ts) s = absurd s
stars_read (TyStruct tag) s = no_star
stars_read (TyArray t n) s = absurd s

-- parameters without names
pub unnamed : Tys → List Parameter
unnamed NoTy = []
unnamed (AndTy t ts) = record { called = None; type = t } ∷ unnamed ts

-- the parameters of a type as they are printed
pub printed : Tys → List Parameter
printed NoTy = record { called = None; type = TyVoid } ∷ []
printed (AndTy t ts) = record { called = lone_name t ts; type = t } ∷ unnamed ts

types_unnamed : (ts : Tys) → types (unnamed ts) ≡ ts
unfolding unnamed
types_unnamed NoTy = refl
types_unnamed (AndTy t ts) = rw (types_unnamed ts) refl

-- the printed parameters of a type stand for all of them
kept : (t : Ty) (ts : Tys) → without_void (printed (AndTy t ts)) ≡ printed (AndTy t ts)
unfolding printed unnamed
kept TyVoid NoTy = refl
kept (TyInt kind) NoTy = refl
kept TyCondvar NoTy = refl
kept (TyPointer t) NoTy = refl
kept (TyCode t us) NoTy = refl
kept (TyStruct tag) NoTy = refl
kept (TyArray t n) NoTy = refl
kept t (AndTy u us) = refl

-- the parameters that they are read as
pub as_read : Tys → List Parameter
as_read NoTy = []
as_read (AndTy t ts) = printed (AndTy t ts)

pub types_printed : (ts : Tys) → types (as_read ts) ≡ ts
unfolding as_read printed unnamed
types_printed NoTy = refl
types_printed (AndTy t ts) = rw (types_unnamed ts) refl

mutual
  unfolding param_row param_depth PrintableType rest_row types_depth PrintableTypes list_row as_read unnamed printed

  pub param_reads : (tight : Bool) (o : Option Text) (t : Ty) → PrintableType t → ReadsParam (param_row tight o t) (record { called = o; type = t }) (param_depth tight t)
  param_reads tight o TyVoid s = plain_param _ [] TyVoid TyVoid o _ _ void_base no_star
  param_reads tight o (TyInt kind) s = plain_param _ [] (TyInt kind) (TyInt kind) o _ _ (kind_base _ kind (kind_reads kind)) no_star
  param_reads tight o TyCondvar s = plain_param _ [] TyCondvar TyCondvar o _ _ condvar_base no_star
  param_reads false o (TyPointer t) s = plain_param _ _ (base_of t) (TyPointer t) o _ _ (base_reads t) (stars_read (TyPointer t) s)
  param_reads true o (TyPointer t) s = array_param _ _ (base_of t) t o _ _ (base_reads t) (stars_read t s)
  param_reads tight o (TyCode t ts) (s, a) =
      subst (λ us. ReadsParam (param_row tight o (TyCode t ts)) (record { called = o; type = TyCode t us }) (param_depth tight (TyCode t ts))) (types_printed ts)
      (code_param _ _ _ (base_of t) t o (as_read ts) _ _ _ (base_reads t) (stars_read t s) (list_reads tight ts a))
  param_reads tight o (TyStruct tag) s = plain_param _ [] (TyStruct tag) (TyStruct tag) o _ _ (struct_base tag) no_star
  param_reads tight o (TyArray t n) s = absurd s

  row_reads : (tight : Bool) (o : Option Text) (t : Ty) (ts : Tys) → ReadsParam (param_row tight o t) (record { called = o; type = t }) (param_depth tight t) → PrintableTypes ts
      → ReadsParamRow (param_row tight o t ++ rest_row tight ts) (record { called = o; type = t } ∷ unnamed ts) (types_depth tight (AndTy t ts))
  row_reads tight o t NoTy r a = subst (λ f. ReadsParamRow f (record { called = o; type = t } ∷ []) (param_depth tight t)) (sym (append-nil (param_row tight o t))) (last_param _ _ _ r)
  row_reads tight o t (AndTy u us) r (b, c) = more_params _ _ _ _ _ _ r (row_reads tight None u us (param_reads tight None u b) c)

  pub list_reads : (tight : Bool) (ts : Tys) → PrintableTypes ts → ReadsParams (list_row tight ts) (as_read ts) (types_depth tight ts)
  list_reads tight NoTy a = some_params _ (printed NoTy) _ (last_param _ _ _ (plain_param _ [] TyVoid TyVoid None _ _ void_base no_star))
  list_reads tight (AndTy t ts) (a, b) = subst (λ ps. ReadsParams (list_row tight (AndTy t ts)) ps (types_depth tight (AndTy t ts))) (kept t ts) (some_params _ _ _ (row_reads tight (lone_name t ts) t ts (param_reads tight (lone_name t ts) t a) b))

-- a type name
pub type_reads : (tight : Bool) (t : Ty) → PrintableType t → ReadsTypeName (type_row tight t) t (declarator_depth tight t)
unfolding declarator_row declarator_depth PrintableType
type_reads tight TyVoid s = plain_type _ [] TyVoid TyVoid _ _ void_base no_star
type_reads tight (TyInt kind) s = plain_type _ [] (TyInt kind) (TyInt kind) _ _ (kind_base _ kind (kind_reads kind)) no_star
type_reads tight TyCondvar s = plain_type _ [] TyCondvar TyCondvar _ _ condvar_base no_star
type_reads tight (TyPointer t) s = subst (λ f. ReadsTypeName (base_row t ++ f) (TyPointer t) (star_count t + 1)) (sym (append-nil (stars (TyPointer t)))) (plain_type _ _ (base_of t) (TyPointer t) _ _ (base_reads t) (stars_read (TyPointer t) s))
type_reads tight (TyCode t ts) (s, a) =
    subst (λ us. ReadsTypeName (type_row tight (TyCode t ts)) (TyCode t us) (declarator_depth tight (TyCode t ts))) (types_printed ts)
    (code_type _ _ _ (base_of t) t (as_read ts) _ _ _ (base_reads t) (stars_read t s) (list_reads tight ts a))
type_reads tight (TyStruct tag) s = plain_type _ [] (TyStruct tag) (TyStruct tag) _ _ (struct_base tag) no_star
type_reads tight (TyArray t n) s = absurd s
