-- Kinds, types, lists of types and modes that are told to be one are one, and each type is told to be itself.
use Rattle.std.proofs.Common.{◌≡◌, ◌==◌, true, List, [], ◌∷◌, refl, ap, ◌∙◌}
use Rattle.std.proofs.lemmas.Slice.Eq.{bytes_eq-Decides}
use Rattle.cpc_base.proofs.Truth.{by_false_true, and_holds, and_both, eq_means, eq_reflexive}
use Rattle.cpc_tree.specs.KindVariants.{Char, UChar, Int, UInt, Long, ULong}
use Rattle.cpc_tree.specs.declared.program.Mode.{Mode}
use Rattle.cpc_tree.specs.declared.program.Mode.TheVariants.{Extern, Native, Cps, Detached}
use Rattle.cpc_tree.specs.Syntax.{Ty, TyVoid, TyInt, TyCondvar, TyPointer, TyCode, TyStruct, TyArray, Tys, NoTy, AndTy}
use Rattle.cpc_tree.specs.Typing.{same_type, same_types}
use Rattle.cpc_check_rules.specs.ItemRules.{same_mode, same_list}

pub kind_is : (j k : _) → same_type (TyInt j) (TyInt k) ≡ true → j ≡ k
kind_is Char Char e = refl
kind_is UChar UChar e = refl
kind_is Int Int e = refl
kind_is UInt UInt e = refl
kind_is Long Long e = refl
kind_is ULong ULong e = refl
kind_is _ _ e = by_false_true e

mutual
  pub type_is : (t u : Ty) → same_type t u ≡ true → t ≡ u
  type_is TyVoid TyVoid e = refl
  type_is (TyInt j) (TyInt k) e = ap (λ k. TyInt k) (kind_is j k e)
  type_is TyCondvar TyCondvar e = refl
  type_is (TyPointer t) (TyPointer u) e = ap (λ t. TyPointer t) (type_is t u e)
  type_is (TyCode r ps) (TyCode q qs) e =
      let h = and_both (same_type r q) (same_types ps qs) e in
      ap (λ r. TyCode r ps) (type_is r q h.0) ∙ ap (λ ps. TyCode q ps) (types_are ps qs h.1)
  type_is (TyStruct s) (TyStruct t) e = ap (λ t. TyStruct t) ((bytes_eq-Decides s t).0 e)
  type_is (TyArray t m) (TyArray u n) e =
      let h = and_both (same_type t u) (m == n) e in
      ap (λ t. TyArray t m) (type_is t u h.0) ∙ ap (λ n. TyArray u n) (eq_means m n h.1)
  type_is _ _ e = by_false_true e

  types_are : (ts us : Tys) → same_types ts us ≡ true → ts ≡ us
  types_are NoTy NoTy e = refl
  types_are (AndTy t ts) (AndTy u us) e =
      let h = and_both (same_type t u) (same_types ts us) e in
      ap (λ t. AndTy t ts) (type_is t u h.0) ∙ ap (λ ts. AndTy u ts) (types_are ts us h.1)
  types_are _ _ e = by_false_true e

pub list_is : (ts us : List Ty) → same_list ts us ≡ true → ts ≡ us
list_is [] [] e = refl
list_is (t ∷ ts) (u ∷ us) e = let h = and_both (same_type t u) (same_list ts us) e in ap (λ t. t ∷ ts) (type_is t u h.0) ∙ ap (λ ts. u ∷ ts) (list_is ts us h.1)
list_is _ _ e = by_false_true e

pub mode_is : (m n : Mode) → same_mode m n ≡ true → m ≡ n
mode_is Extern Extern e = refl
mode_is Native Native e = refl
mode_is Cps Cps e = refl
mode_is Detached Detached e = refl
mode_is _ _ e = by_false_true e

-- ---- each is itself

kind_itself : (k : _) → same_type (TyInt k) (TyInt k) ≡ true
kind_itself Char = refl
kind_itself UChar = refl
kind_itself Int = refl
kind_itself UInt = refl
kind_itself Long = refl
kind_itself ULong = refl

mutual
  pub type_itself : (t : Ty) → same_type t t ≡ true
  type_itself TyVoid = refl
  type_itself (TyInt k) = kind_itself k
  type_itself TyCondvar = refl
  type_itself (TyPointer t) = type_itself t
  type_itself (TyCode r ps) = and_holds (same_type r r) (same_types ps ps) (type_itself r) (types_itself ps)
  type_itself (TyStruct tag) = (bytes_eq-Decides tag tag).1 refl
  type_itself (TyArray t n) = and_holds (same_type t t) (n == n) (type_itself t) (eq_reflexive n)

  types_itself : (ts : Tys) → same_types ts ts ≡ true
  types_itself NoTy = refl
  types_itself (AndTy t ts) = and_holds (same_type t t) (same_types ts ts) (type_itself t) (types_itself ts)

pub list_itself : (ts : List Ty) → same_list ts ts ≡ true
list_itself [] = refl
list_itself (t ∷ ts) = and_holds (same_type t t) (same_list ts ts) (type_itself t) (list_itself ts)
