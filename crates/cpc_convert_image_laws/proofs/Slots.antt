-- The variables after an act stand in the same locals as before it.
use Rattle.std.proofs.Common.{◌≡◌, ◌⊎◌, inl, inr, ℕ, true, List, Option, Some, None, is_some, slice_get, slice_set, refl, sym, ◌∙◌, ap, subst}
use Rattle.std.proofs.lemmas.Bool.{cases_eq}
use Rattle.cpc_base.specs.Bytes.{Text}
use Rattle.cpc_num.specs.Number.{convert}
use Rattle.cpc_num.proofs.KindLemmas.{convert-convert}
use Rattle.cpc_tree.specs.Syntax.{Ty, TyInt, TyCondvar, TyPointer, TyCode, Program}
use Rattle.cpc_tree.specs.Typing.{Scope, Meant}
use Rattle.cpc_store.specs.Store.{Value, Unset, Whole, Null, At, Code, Cond}
use Rattle.cpc_meaning.specs.Answer.{Gives}
use Rattle.cpc_meaning.specs.Eval.{Slot, Register, Boxed, assigned}
use Rattle.cpc_meaning.proofs.Stores.{get_set, get_other}
use Rattle.cpc_convert_image_laws.specs.Images.{Reading}
use Rattle.cpc_convert_image_laws.specs.Relations.{Means, InLocal, InBox, StaysRegister, StaysBox, StaysNowhere, StaysGlobal, StaysFunction, IsCps, StaysNothing, Changed, NoneChanged, BothChanged, OneToOne}

-- ---- values that fit a type

-- a value that was assigned to a type is assigned to it as it is
pub assigned_fits : (t : Ty) (v w : Value) → assigned t v ≡ Gives w → assigned t w ≡ Gives w
assigned_fits t Unset w e = let i : Unset ≡ w = cc in subst (λ x. assigned t x ≡ Gives x) i refl
assigned_fits (TyInt kind) (Whole j z) w e =
    let i : Whole kind (convert kind z) ≡ w = cc in
    subst (λ x. assigned (TyInt kind) x ≡ Gives x) i (ap (λ y. Gives (Whole kind y)) (convert-convert kind z))
assigned_fits (TyPointer t) (Whole j z) w e = let i : Null ≡ w = cc in subst (λ x. assigned (TyPointer t) x ≡ Gives x) i refl
assigned_fits (TyPointer t) Null w e = let i : Null ≡ w = cc in subst (λ x. assigned (TyPointer t) x ≡ Gives x) i refl
assigned_fits (TyPointer t) (At c n k) w e = let i : At c n k ≡ w = cc in subst (λ x. assigned (TyPointer t) x ≡ Gives x) i refl
assigned_fits (TyCode r ps) (Whole j z) w e = let i : Null ≡ w = cc in subst (λ x. assigned (TyCode r ps) x ≡ Gives x) i refl
assigned_fits (TyCode r ps) Null w e = let i : Null ≡ w = cc in subst (λ x. assigned (TyCode r ps) x ≡ Gives x) i refl
assigned_fits (TyCode r ps) (Code f) w e = let i : Code f ≡ w = cc in subst (λ x. assigned (TyCode r ps) x ≡ Gives x) i refl
assigned_fits TyCondvar (Cond n) w e = let i : Cond n ≡ w = cc in subst (λ x. assigned TyCondvar x ≡ Gives x) i refl
assigned_fits _ _ w e = absurd (cc)

-- ---- lists

there_is : {X : Type 0} (xs : List X) (n : ℕ) (x : X) → slice_get xs n ≡ Some x → is_some (slice_get xs n) ≡ true
there_is xs n x e = ap (λ o. is_some o) e

pub got_set : {X : Type 0} (xs : List X) (n m : ℕ) (x y : X) → n ≡ m → slice_get xs n ≡ Some x → slice_get (slice_set xs n y) m ≡ Some y
got_set xs n m x y e h = ap (λ k. slice_get (slice_set xs n y) k) (sym e) ∙ get_set xs n y (there_is xs n x h)

pub got_other : {X : Type 0} (xs : List X) (n m : ℕ) (o : Option X) (y : X) → ¬ (n ≡ m) → slice_get xs m ≡ o → slice_get (slice_set xs n y) m ≡ o
got_other xs n m o y d h = get_other xs n m y d ∙ h

-- a register is no box
apart : (slots : List Slot) (j k n : ℕ) (v : Value) → slice_get slots j ≡ Some (Register v) → slice_get slots k ≡ Some (Boxed n) → ¬ (j ≡ k)
apart slots j k n v e f i = let g : Some (Register v) ≡ Some (Boxed n) = sym e ∙ (ap (λ x. slice_get slots x) i ∙ f) in absurd (cc)

missing : (slots : List Slot) (j k : ℕ) (v : Value) → slice_get slots j ≡ Some (Register v) → slice_get slots k ≡ None → ¬ (j ≡ k)
missing slots j k v e f i = let g : Some (Register v) ≡ None = sym e ∙ (ap (λ x. slice_get slots x) i ∙ f) in absurd (cc)

-- ---- variables

module _ (P : ℕ → Ty → ℕ → Type 0) (one : OneToOne P) (slots slots' : List Slot) where
  -- a register and its local hold one value again
  pub register_kept : (a b : List Slot) (k k' : ℕ) (t : Ty) (v : Value) → Changed P slots slots' a b → P k t k' → slice_get slots k ≡ Some (Register v) → slice_get slots' k' ≡ Some (Register v)
      → (w : Value) × (slice_get a k ≡ Some (Register w)) × (slice_get b k' ≡ Some (Register w))
  register_kept _ _ k k' t v NoneChanged i e f = (v, e, f)
  register_kept _ _ k k' t v (BothChanged j j' u x y w h g g' fits) i e f = by (cases_eq j k)
    where
      by : (j ≡ k) ⊎ ¬ (j ≡ k) → (z : Value) × (slice_get (slice_set slots j (Register w)) k ≡ Some (Register z)) × (slice_get (slice_set slots' j' (Register w)) k' ≡ Some (Register z))
      by (inl same) = (w, got_set slots j k (Register x) (Register w) same g, got_set slots' j' k' (Register x) (Register w) (one.forth j j' k k' u t h i same) g')
      by (inr other) = (v, got_other slots j k _ (Register w) other e, got_other slots' j' k' _ (Register w) (λ same. other (one.back j j' k k' u t h i same)) f)

  -- a box stays where it is, and so does what stands for it
  pub box_kept : (a b : List Slot) (k k' n : ℕ) (t : Ty) (x : Slot) → Changed P slots slots' a b → P k t k' → slice_get slots k ≡ Some (Boxed n) → slice_get slots' k' ≡ Some x
      → (slice_get a k ≡ Some (Boxed n)) × (slice_get b k' ≡ Some x)
  box_kept _ _ k k' n t x NoneChanged i e f = (e, f)
  box_kept _ _ k k' n t x (BothChanged j j' u y z w h g g' fits) i e f =
      let other : ¬ (j ≡ k) = apart slots j k n y g e in
      (got_other slots j k _ (Register w) other e, got_other slots' j' k' _ (Register w) (λ same. other (one.back j j' k k' u t h i same)) f)

  pub nothing_kept : (a b : List Slot) (k : ℕ) → Changed P slots slots' a b → slice_get slots k ≡ None → slice_get a k ≡ None
  nothing_kept _ _ k NoneChanged e = e
  nothing_kept _ _ k (BothChanged j j' u y z w h g g' fits) e = got_other slots j k _ (Register w) (missing slots j k y g e) e

  -- each name means what it meant
  pub means_kept : (C : Text → Type 0) (q : Program) (scope : Scope) (a b : List Slot) (x : Text) (o : Option Reading) (m : Meant) → Changed P slots slots' a b → Means C P q scope slots slots' x o m → Means C P q scope a b x o m
  means_kept C q scope a b x _ _ c (InLocal y k k' t v i e n f) = let z = register_kept a b k k' t v c i e f in InLocal y k k' t z.0 i z.1 n z.2
  means_kept C q scope a b x _ _ c (InBox y g tag k k' t d i e n j f) = let z = box_kept a b k k' d t _ c i e f in InBox y g tag k k' t d i z.0 n j z.1
  means_kept C q scope a b x _ _ c (StaysRegister k k' t v i e n f) = let z = register_kept a b k k' t v c i e f in StaysRegister k k' t z.0 i z.1 n z.2
  means_kept C q scope a b x _ _ c (StaysBox k k' t d i e n f) = let z = box_kept a b k k' d t _ c i e f in StaysBox k k' t d i z.0 n z.1
  means_kept C q scope a b x _ _ c (StaysNowhere k k' t e n) = StaysNowhere k k' t (nothing_kept a b k c e) n
  means_kept C q scope a b x _ _ c (StaysGlobal d t n) = StaysGlobal d t n
  means_kept C q scope a b x _ _ c (StaysFunction mode t ts n i) = StaysFunction mode t ts n i
  means_kept C q scope a b x _ _ c (IsCps t ts) = IsCps t ts
  means_kept C q scope a b x _ _ c (StaysNothing n) = StaysNothing n
