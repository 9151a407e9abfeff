-- The types of codes by their parts, and types that the code finds.
use Rattle.std.proofs.Common.{◌≡◌, ◌&&◌, List, map, Option, Some, None, Result, Vec, Box, Global, refl, sym, ap, subst, ◌∙◌}
use Rattle.cpc_base.specs.declared.stop.Stop.{Stop}
use Rattle.cpc_num.specs.declared.kinds.Fault.{Fault}
use Rattle.cpc_tree.specs.Erase.{Names, type_of}
use Rattle.cpc_tree.specs.Syntax.{Ty, TyVoid, TyInt, TyCondvar, TyPointer, TyCode, TyStruct, TyArray, Tys, NoTy, AndTy}
use Rattle.cpc_tree.specs.declared.program.CType.{CType}
use Rattle.cpc_tree.specs.declared.program.CType.TheVariants as C
use Rattle.cpc_tree.specs.Typing as T
use Rattle.cpc_tree.specs.Typing.{same_type, same_types, tys_of, list_of_tys, code_parameters}
use Rattle.cpc_tree.proofs.TypeRows.{list_back}
use Rattle.cpc_shapes.specs.Found.{used_of}
use Rattle.cpc_shapes.proofs.CodeParts.{code_at}
use Rattle.cpc_meaning.specs.Answer.{Answer, ◌>>=◌, needed}
use Rattle.cpc_meaning.specs.Eval as E
use Rattle.cpc_eval.specs.Shapes.{Agrees}
use Rattle.cpc_native_plans.specs.Stops.{MeetsOr}
use Rattle.cpc_native_plans.specs.Rows.{signature_in}
use Rattle.cpc_native_plans.proofs.Stopping.{or_none}

tys_list : (ts : Tys) → tys_of (list_of_tys ts) ≡ ts
tys_list NoTy = refl
tys_list (AndTy t ts) = ap (AndTy t) (tys_list ts)

-- the parts of a code type that stands in a tree
pub signature_found : (names : Names) (t r : CType) (us : List CType) (b : Box CType Global) (ts : Vec CType Global) → t ≡ C.Code b ts → r ≡ b.value → us ≡ ts.items
    → Some (type_of names r, map (type_of names) us) ≡ signature_in (type_of names t)
signature_found names t r us b ts e f g =
    ap (λ x. Some (type_of names x, map (type_of names) us)) f
    ∙ (ap (λ l. Some (type_of names b.value, map (type_of names) l)) g
    ∙ (ap (λ l. Some (type_of names b.value, l)) (sym (list_back (map (type_of names) ts.items)))
    ∙ sym (ap signature_in (code_at names t b ts e))))

-- the parts of the type of a function
pub signature_made : (r : Ty) (ts : List Ty) → Some (r, ts) ≡ signature_in (T.function_type r ts)
signature_made r ts = ap (λ l. Some (r, l)) (sym (list_back ts))

parts_are : (r q : Ty) (ts us : List Ty) → ◌≡◌ {A = Option (Ty × List Ty)} (Some (r, ts)) (Some (q, us)) → (r ≡ q) × (ts ≡ us)
parts_are r q ts us e = let p : ◌≡◌ {A = Ty × List Ty} (r, ts) (q, us) = cc in (ap (λ x. x.0) p, ap (λ x. x.1) p)

-- a type that has these parts
pub same_as : (t r q : Ty) (ts us : List Ty) → Some (r, ts) ≡ signature_in t → same_type t (TyCode q (tys_of us)) ≡ (same_type r q && same_types (tys_of ts) (tys_of us))
same_as (TyCode r' ps) r q ts us e =
    let is = parts_are r r' ts (list_of_tys ps) e in
    ap (λ x. same_type x q && same_types ps (tys_of us)) (sym is.0)
    ∙ ap (λ l. same_type r q && same_types l (tys_of us)) (sym (ap tys_of is.1 ∙ tys_list ps))
same_as TyVoid r q ts us e = absurd cc
same_as (TyInt k) r q ts us e = absurd cc
same_as TyCondvar r q ts us e = absurd cc
same_as (TyPointer t) r q ts us e = absurd cc
same_as (TyStruct x) r q ts us e = absurd cc
same_as (TyArray t n) r q ts us e = absurd cc

-- what follows from a type that was found
pub used_by : {B : Type 0} (d o : Option T.Typed) (s : Option Ty) (f : Ty → Answer B) (r : Result B (Stop Fault)) → Agrees d o → s ≡ used_of d → MeetsOr r (needed s >>= f) → MeetsOr r (needed (E.and_then o T.used) >>= f)
used_by {B = B} d None s f r a e h = or_none r
used_by {B = B} d (Some x) s f r a e h =
    let P : Option Ty → Type 0 = λ q. MeetsOr r (needed q >>= f) in
    subst P (e ∙ ap used_of a) h
