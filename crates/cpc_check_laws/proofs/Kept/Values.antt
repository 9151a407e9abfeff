-- A value that was assigned to a type fits it, and arguments that were taken fit their types.
use Rattle.std.proofs.Common.{◌≡◌, ℕ, zero, suc, List, [], ◌∷◌, slice_get, slice_set, true, cond, Option, Some, None, Ok, Err, refl, sym, ◌∙◌, ap, subst}
use Rattle.cpc_base.proofs.Lists.{some_is}
use Rattle.cpc_num.specs.declared.kinds.Kind.{Kind}
use Rattle.cpc_num.specs.declared.kinds.Kind.TheVariants.{Int}
use Rattle.cpc_num.specs.declared.kinds.Fault.TheVariants as F
use Rattle.cpc_num.proofs.KindLemmas.{convert-convert, same_kind-refl}
use Rattle.cpc_tree.specs.Syntax.{Ty, TyVoid, TyInt, TyCondvar, TyPointer, TyCode, TyStruct, TyArray}
use Rattle.cpc_store.specs.declared.values.Scalar.{Scalar}
use Rattle.cpc_store.specs.Store.{Value, Unset, Whole, Null, At, Code, Cond, Store, suits}
use Rattle.cpc_meaning.specs.Answer.{Gives}
use Rattle.cpc_meaning.specs.Layout.{scalar_of}
use Rattle.cpc_meaning.specs.Eval.{Slot, assigned}
use Rattle.cpc_meaning.specs.Requests.{arguments}
use Rattle.cpc_meaning.proofs.Stores.{load_saved}
use Rattle.cpc_meaning_laws.specs.Pointer.Made.{IsMade}
use Rattle.cpc_meaning_laws.proofs.Pointer.Blocks.{Only, only_then}
use Rattle.cpc_check_laws.specs.Kept.Fits.{Fits, FitAll, FitsSlot, FitSlots, IsInt}
use Rattle.cpc_check_laws.specs.Kept.Laws.{CopiesComeBack}

-- assigned twice is assigned once
pub assigned_fits : (t : Ty) (v : Value) → Only (Fits t) (assigned t v)
assigned_fits t Unset = refl
assigned_fits (TyInt kind) (Whole j z) = ap (λ y. Gives (Whole kind y)) (convert-convert kind z)
assigned_fits (TyPointer t) (Whole j z) = refl
assigned_fits (TyPointer t) Null = refl
assigned_fits (TyPointer t) (At c n k) = refl
assigned_fits (TyCode r ps) (Whole j z) = refl
assigned_fits (TyCode r ps) Null = refl
assigned_fits (TyCode r ps) (Code f) = refl
assigned_fits TyCondvar (Cond n) = refl
assigned_fits _ _ = tt

-- an integer, or unset
abbrev pub IsNumber : Value → Type 0
IsNumber Unset = Unit {0}
IsNumber (Whole kind z) = Unit {0}
IsNumber _ = ⊥

-- it points nowhere
pub number_made : (s : Store) (v : Value) → IsNumber v → IsMade s v
number_made s Unset h = tt
number_made s (Whole kind z) h = tt
number_made s Null h = absurd h
number_made s (At c n k) h = absurd h
number_made s (Code f) h = absurd h
number_made s (Cond n) h = absurd h

-- a value that fits a kind of integer is one
fits_number : (kind : Kind) (v : Value) → Fits (TyInt kind) v → IsNumber v
fits_number kind Unset e = tt
fits_number kind (Whole j z) e = tt
fits_number kind Null e = absurd (cc)
fits_number kind (At c n k) e = absurd (cc)
fits_number kind (Code f) e = absurd (cc)
fits_number kind (Cond n) e = absurd (cc)

pub int_made : (s : Store) (v : Value) → IsInt v → IsMade s v
int_made s v e = number_made s v (fits_number Int v e)

pub arguments_fit : (ts : List Ty) (vs : List Value) → Only (FitAll ts) (arguments ts vs)
arguments_fit [] [] = tt
arguments_fit (t ∷ ts) (v ∷ vs) =
    only_then (Fits t) (FitAll (t ∷ ts)) (assigned t v) _ (assigned_fits t v) λ w h.
    only_then (FitAll ts) (FitAll (t ∷ ts)) (arguments ts vs) _ (arguments_fit ts vs) λ ws k. (h, k)
arguments_fit [] (v ∷ vs) = tt
arguments_fit (t ∷ ts) [] = tt

-- ---- slots by number

-- another value in a register
pub set_fits : (ts : List Ty) (slots : List Slot) (k : ℕ) (t : Ty) (slot : Slot) → FitSlots ts slots → slice_get ts k ≡ Some t → FitsSlot t slot → FitSlots ts (slice_set slots k slot)
set_fits [] [] k t slot h e g = tt
set_fits [] (x ∷ slots) k t slot h e g = absurd h
set_fits (u ∷ ts) [] k t slot h e g = absurd h
set_fits (u ∷ ts) (x ∷ slots) zero t slot h e g = (subst (λ t. FitsSlot t slot) (sym (some_is u t e)) g, h.1)
set_fits (u ∷ ts) (x ∷ slots) (suc k) t slot h e g = (h.0, set_fits ts slots k t slot h.1 e g)

-- ---- copies

-- a value of a cell, where there is one
abbrev SuitsIf : Option Scalar → Value → Type 0
SuitsIf None v = Unit {0}
SuitsIf (Some wanted) v = suits wanted v ≡ true

-- what is assigned to a type suits its cell
assigned_suits : (t : Ty) (v : Value) → Only (SuitsIf (scalar_of t)) (assigned t v)
assigned_suits TyVoid Unset = tt
assigned_suits (TyInt kind) Unset = refl
assigned_suits TyCondvar Unset = refl
assigned_suits (TyPointer t) Unset = refl
assigned_suits (TyCode r ps) Unset = refl
assigned_suits (TyStruct tag) Unset = tt
assigned_suits (TyArray t n) Unset = tt
assigned_suits (TyInt kind) (Whole j z) = same_kind-refl kind
assigned_suits (TyPointer t) (Whole j z) = refl
assigned_suits (TyPointer t) Null = refl
assigned_suits (TyPointer t) (At c n k) = refl
assigned_suits (TyCode r ps) (Whole j z) = refl
assigned_suits (TyCode r ps) Null = refl
assigned_suits (TyCode r ps) (Code f) = refl
assigned_suits TyCondvar (Cond n) = refl
assigned_suits _ _ = tt

-- so does a value that fits
pub fits_suits : (t : Ty) (v : Value) (wanted : Scalar) → Fits t v → scalar_of t ≡ Some wanted → suits wanted v ≡ true
fits_suits t v wanted h e = subst (λ o. SuitsIf o v) e (subst (λ a. Only (SuitsIf (scalar_of t)) a) h (assigned_suits t v))

pub copies_come_back : CopiesComeBack
copies_come_back t v wanted h e = let suited = fits_suits t v wanted h e in record {
  assigned = h;
  suits = suited;
  loaded = λ c n k s u i. load_saved wanted c n k v s u i ∙ ap (λ b. cond b (Ok v) (Err F.Kind)) suited;
}
