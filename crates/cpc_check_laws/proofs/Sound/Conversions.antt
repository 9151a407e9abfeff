-- Tests and conversions, on values that suit a type.
use Rattle.std.proofs.Common.{◌≡◌, ℕ, Bool, true, false, cond, Option, Some, None, Ok, Err, refl, sym, ◌∙◌}
use Rattle.cpc_base.proofs.Truth.{by_false_true}
use Rattle.cpc_num.specs.declared.kinds.Kind.{Kind}
use Rattle.cpc_num.specs.declared.kinds.Kind.TheVariants.{Int}
use Rattle.cpc_num.specs.declared.kinds.Fault.TheVariants as F
use Rattle.cpc_tree.specs.Syntax.{Ty, TyInt, TyCondvar, TyPointer, TyCode}
use Rattle.cpc_tree.specs.Typing.{is_testable}
use Rattle.cpc_store.specs.declared.values.Class.{Class}
use Rattle.cpc_store.specs.declared.values.Scalar.{Scalar}
use Rattle.cpc_store.specs.declared.values.Scalar.TheVariants as S
use Rattle.cpc_store.specs.Store.{Value, Unset, Whole, Null, At, Code, Cond, Store, suits, load, load_cell, load_block, cells_of}
use Rattle.cpc_meaning.specs.Layout.{scalar_of}
use Rattle.cpc_meaning.specs.Answer.{of_result}
use Rattle.cpc_meaning.specs.Eval.{holds, assigned, at_type}
use Rattle.cpc_check_rules.proofs.Sameness.{kind_is}
use Rattle.cpc_check_laws.specs.Sound.Suits.{Comes, Suits, converts}

pub holds_comes : (t : Ty) (v : Value) → is_testable t ≡ true → Suits t v → Comes (λ b. Unit {0}) (holds v)
holds_comes t Unset e h = tt
holds_comes t (Whole kind z) e h = tt
holds_comes t Null e h = tt
holds_comes t (At c n k) e h = tt
holds_comes t (Code f) e h = tt
holds_comes TyCondvar (Cond n) e h = by_false_true e
holds_comes _ (Cond n) e h = absurd h

-- a value of one type, assigned to another
pub assigned_comes : (t u : Ty) (v : Value) → converts t u ≡ true → Suits u v → Comes (Suits t) (assigned t v)
assigned_comes (TyInt j) (TyInt k) Unset e h = tt
assigned_comes (TyInt j) (TyInt k) (Whole i z) e h = refl
assigned_comes (TyInt j) (TyInt k) _ e h = absurd h
assigned_comes (TyPointer t) (TyPointer u) Unset e h = tt
assigned_comes (TyPointer t) (TyPointer u) Null e h = tt
assigned_comes (TyPointer t) (TyPointer u) (At c n k) e h = tt
assigned_comes (TyPointer t) (TyPointer u) _ e h = absurd h
assigned_comes (TyPointer t) (TyInt k) Unset e h = tt
assigned_comes (TyPointer t) (TyInt k) (Whole i z) e h = tt
assigned_comes (TyPointer t) (TyInt k) _ e h = absurd h
assigned_comes (TyCode r ps) (TyCode q qs) Unset e h = tt
assigned_comes (TyCode r ps) (TyCode q qs) Null e h = tt
assigned_comes (TyCode r ps) (TyCode q qs) (Code f) e h = tt
assigned_comes (TyCode r ps) (TyCode q qs) _ e h = absurd h
assigned_comes (TyCode r ps) (TyInt k) Unset e h = tt
assigned_comes (TyCode r ps) (TyInt k) (Whole i z) e h = tt
assigned_comes (TyCode r ps) (TyInt k) _ e h = absurd h
assigned_comes TyCondvar TyCondvar Unset e h = tt
assigned_comes TyCondvar TyCondvar (Cond n) e h = tt
assigned_comes TyCondvar TyCondvar _ e h = absurd h
assigned_comes _ _ v e h = by_false_true e

-- the same, where an unset value faults
pub cast_comes : (t u : Ty) (v : Value) → converts t u ≡ true → Suits u v → Comes (Suits t) (at_type t v)
cast_comes t u Unset e h = tt
cast_comes t u (Whole i z) e h = assigned_comes t u (Whole i z) e h
cast_comes t u Null e h = assigned_comes t u Null e h
cast_comes t u (At c n k) e h = assigned_comes t u (At c n k) e h
cast_comes t u (Code f) e h = assigned_comes t u (Code f) e h
cast_comes t u (Cond n) e h = assigned_comes t u (Cond n) e h

-- ---- loads

suits_is : (t : Ty) (wanted : Scalar) (v : Value) → scalar_of t ≡ Some wanted → suits wanted v ≡ true → Suits t v
suits_is t wanted Unset e h = tt
suits_is (TyInt j) (S.Int i) (Whole k z) e h = sym (kind_is i k h) ∙ cc
suits_is (TyPointer t) S.Pointer Null e h = tt
suits_is (TyPointer t) S.Pointer (At c n k) e h = tt
suits_is (TyCode r ps) S.Code Null e h = tt
suits_is (TyCode r ps) S.Code (Code f) e h = tt
suits_is TyCondvar S.Cond (Cond n) e h = tt
suits_is _ _ _ e h = absurd (cc)

cell_comes : (t : Ty) (wanted : Scalar) (o : Option Value) → scalar_of t ≡ Some wanted → Comes (Suits t) (of_result (load_cell wanted o))
cell_comes t wanted None e = tt
cell_comes t wanted (Some v) e = go (suits wanted v) refl
  where
    go : (b : Bool) → suits wanted v ≡ b → Comes (Suits t) (of_result (cond b (Ok v) (Err F.Kind)))
    go true h = suits_is t wanted v e h
    go false h = tt

pub load_comes : (t : Ty) (wanted : Scalar) (c : Class) (n k : ℕ) (s : Store) → scalar_of t ≡ Some wanted → Comes (Suits t) (of_result (load wanted c n k s))
load_comes t wanted c n k s e = go (cells_of c n s)
  where
    go : (o : _) → Comes (Suits t) (of_result (load_block wanted o k))
    go None = tt
    go (Some cells) = cell_comes t wanted _ e
