-- The slots of a call fit the variables of its function: when they are made, and when a register changes.
use Rattle.std.proofs.Common.{◌≡◌, ◌⊎◌, inl, inr, ℕ, zero, suc, ◌+◌, Bool, true, false, List, [], ◌∷◌, ◌++◌, map, slice_get, slice_set, Some, refl, sym, ◌∙◌, ap, subst, arith}
use Rattle.std.specs.List.{All}
use Rattle.std.proofs.lemmas.List.Elements.{All-cons, All-head, All-tail}
use Rattle.cpc_base.proofs.Truth.{and_first}
use Rattle.cpc_base.proofs.Lists.{some_is}
use Rattle.cpc_tree.specs.Syntax.{Ty, Variable, Parameter, Function, Program}
use Rattle.cpc_tree.specs.Lists.{first_or, rest_of}
use Rattle.cpc_tree.specs.Points.{locals}
use Rattle.cpc_tree.specs.Registers.{as_variable, variables, is_register}
use Rattle.cpc_tree.specs.Typing.{size, parameter_type, parameter_types, is_scalar}
use Rattle.cpc_store.specs.declared.values.Class.TheVariants.{Auto}
use Rattle.cpc_store.specs.Store.{Value, Unset, Store, alloc}
use Rattle.cpc_meaning.specs.Answer.{Gives, ◌>>=◌, needed}
use Rattle.cpc_meaning.specs.Eval.{Slot, Register, Boxed}
use Rattle.cpc_meaning.specs.Slots.{first_cells, make_slot, make_slots}
use Rattle.cpc_meaning.proofs.Scalars.{scalar_there}
use Rattle.cpc_meaning_laws.specs.Pointer.Made.{IsMadeSlot}
use Rattle.cpc_meaning_laws.proofs.Pointer.Blocks.{Only, only_then, any_then, element}
use Rattle.cpc_check_laws.specs.Kept.Codes.{IsCodeSlot}
use Rattle.cpc_check_laws.specs.Kept.Fits.{Fits, FitAll, types_of, FitsSlot, FitSlots, is_held, AreShaped, FitsCall}
use Rattle.cpc_check_laws.specs.Kept.Laws.{CallFits, CallsFit, Cleared, ClearedFit, Slotted, IsRegister, IsBox, SlotsAreKnown}
use Rattle.cpc_check_laws.proofs.Kept.Values.{set_fits, fits_suits}
use Rattle.cpc_check_laws.proofs.Kept.Stores.{Stays}

-- ---- slots that are made

-- the first values fit these variables; past them all are unset
abbrev pub Given : List Variable → List Value → Type 0
Given [] vs = Unit {0}
Given (x ∷ xs) vs = Fits x.type (first_or Unset vs) × Given xs (rest_of vs)

pub given_none : (xs : List Variable) → Given xs []
given_none [] = tt
given_none (x ∷ xs) = (refl, given_none xs)

given_behind : (ps : List Parameter) (xs : List Variable) (vs : List Value) → FitAll (map parameter_type ps) vs → Given (map as_variable ps ++ xs) vs
given_behind [] xs [] h = given_none xs
given_behind [] xs (v ∷ vs) h = absurd h
given_behind (p ∷ ps) xs [] h = absurd h
given_behind (p ∷ ps) xs (v ∷ vs) h = (h.0, given_behind ps xs vs h.1)

-- arguments that fit the parameters
pub given : (f : Function) (vs : List Value) → FitAll (parameter_types f) vs → Given (variables f) vs
given f vs h = given_behind f.parameters (locals f.body) vs h

-- what is made of the variables of f from the n-th on
pub record MadeSo (f : Function) (n : ℕ) (xs : List Variable) (s : Store) (r : List Slot × Store) : Type 0 where
  pub fits : FitSlots (map (λ (x : Variable). x.type) xs) r.0
  pub shaped : AreShaped f n xs r.0
  pub stays : Stays s r.1

pub slots_made : (p : Program) (f : Function) (n : ℕ) (xs : List Variable) (vs : List Value) (s : Store) → Given xs vs → Only (MadeSo f n xs s) (make_slots p f n xs vs s)
slots_made p f n [] vs s h = record { fits = tt; shaped = tt; stays = λ e. e }
slots_made p f n (x ∷ xs) vs s h =
    any_then (MadeSo f n (x ∷ xs) s) (needed (size p x.type)) _ (λ cells. go cells (is_register f n x) refl (λ t. slots_made p f (suc n) xs (rest_of vs) t h.1))
  where
    go : (cells : ℕ) (b : Bool) → is_register f n x ≡ b → ((t : Store) → Only (MadeSo f (suc n) xs t) (make_slots p f (suc n) xs (rest_of vs) t))
        → Only (MadeSo f n (x ∷ xs) s) (Gives (make_slot b cells (first_or Unset vs) s) >>= (λ a. make_slots p f (suc n) xs (rest_of vs) a.1 >>= (λ r. Gives (a.0 ∷ r.0, r.1))))
    go cells true e rest =
        only_then (MadeSo f (suc n) xs s) (MadeSo f n (x ∷ xs) s) (make_slots p f (suc n) xs (rest_of vs) s) _ (rest s)
        (λ r k. record { fits = (h.0, k.fits); shaped = (sym e, k.shaped); stays = k.stays })
    go cells false e rest =
        let t = alloc Auto (first_cells cells (first_or Unset vs)) s in
        only_then (MadeSo f (suc n) xs t) (MadeSo f n (x ∷ xs) s) (make_slots p f (suc n) xs (rest_of vs) t) _ (rest t)
        (λ r k. record { fits = (tt, k.fits); shaped = (sym e, k.shaped); stays = k.stays })

-- ---- slots that change

-- another value in a register
set_shaped : (f : Function) (n : ℕ) (xs : List Variable) (slots : List Slot) (k : ℕ) (v w : Value) → slice_get slots k ≡ Some (Register v) → AreShaped f n xs slots → AreShaped f n xs (slice_set slots k (Register w))
set_shaped f n [] [] k v w e h = tt
set_shaped f n [] (y ∷ slots) k v w e h = absurd h
set_shaped f n (x ∷ xs) [] k v w e h = absurd h
set_shaped f n (x ∷ xs) (y ∷ slots) zero v w e h = (ap is_held (sym (some_is y (Register v) e)) ∙ h.0, h.1)
set_shaped f n (x ∷ xs) (y ∷ slots) (suc k) v w e h = (h.0, set_shaped f (suc n) xs slots k v w e h.1)

pub set_call : (f : Function) (slots : List Slot) (k : ℕ) (t : Ty) (v w : Value) → slice_get (types_of f) k ≡ Some t → slice_get slots k ≡ Some (Register v) → Fits t w → FitsCall f slots → FitsCall f (slice_set slots k (Register w))
set_call f slots k t v w e g i h = record { fits = set_fits (types_of f) slots k t (Register w) h.fits e i; shaped = set_shaped f 0 (variables f) slots k v w g h.shaped }

-- ---- slots by number

module _ (f : Function) where
  there : (n : ℕ) (xs : List Variable) (slots : List Slot) (k : ℕ) (x : Variable) → AreShaped f n xs slots → slice_get xs k ≡ Some x → (slot : Slot) × (slice_get slots k ≡ Some slot)
  there n [] slots k x h e = absurd (cc)
  there n (y ∷ xs) [] k x h e = absurd h
  there n (y ∷ xs) (slot ∷ slots) zero x h e = (slot, refl)
  there n (y ∷ xs) (slot ∷ slots) (suc k) x h e = there (suc n) xs slots k x h.1 e

  no_more : (n : ℕ) (xs : List Variable) (slots : List Slot) (k : ℕ) (slot : Slot) → AreShaped f n xs slots → slice_get slots k ≡ Some slot → (x : Variable) × (slice_get xs k ≡ Some x)
  no_more n xs [] k slot h e = absurd (cc)
  no_more n [] (y ∷ slots) k slot h e = absurd h
  no_more n (x ∷ xs) (y ∷ slots) zero slot h e = (x, refl)
  no_more n (x ∷ xs) (y ∷ slots) (suc k) slot h e = no_more (suc n) xs slots k slot h.1 e

  held : (n : ℕ) (xs : List Variable) (slots : List Slot) (k : ℕ) (x : Variable) (slot : Slot) → AreShaped f n xs slots → slice_get xs k ≡ Some x → slice_get slots k ≡ Some slot → is_held slot ≡ is_register f (n + k) x
  held n [] slots k x slot h e g = absurd (cc)
  held n (y ∷ xs) [] k x slot h e g = absurd h
  held n (y ∷ xs) (z ∷ slots) zero x slot h e g =
      ap is_held (sym (some_is z slot g)) ∙ h.0 ∙ ap (is_register f n) (some_is y x e) ∙ ap (λ m. is_register f m x) (let i : n ≡ n + 0 = omega arith in i)
  held n (y ∷ xs) (z ∷ slots) (suc k) x slot h e g = held (suc n) xs slots k x slot h.1 e g ∙ ap (λ m. is_register f m x) (let i : suc n + k ≡ n + suc k = omega arith in i)

  fits_at : (xs : List Variable) (slots : List Slot) (k : ℕ) (x : Variable) (v : Value) → FitSlots (map (λ (x : Variable). x.type) xs) slots → slice_get xs k ≡ Some x → slice_get slots k ≡ Some (Register v) → Fits x.type v
  fits_at [] slots k x v h e g = absurd (cc)
  fits_at (y ∷ xs) [] k x v h e g = absurd h
  fits_at (y ∷ xs) (z ∷ slots) zero x v h e g = subst (λ y. Fits y.type v) (some_is y x e) (subst (FitsSlot y.type) (some_is z (Register v) g) h.0)
  fits_at (y ∷ xs) (z ∷ slots) (suc k) x v h e g = fits_at xs slots k x v h.1 e g

  module _ (slots : List Slot) (h : FitsCall f slots) where
    held_here : (k : ℕ) (x : Variable) (slot : Slot) → slice_get (variables f) k ≡ Some x → slice_get slots k ≡ Some slot → is_held slot ≡ is_register f k x
    held_here k x slot e g = held 0 (variables f) slots k x slot h.shaped e g ∙ ap (λ m. is_register f m x) (let i : 0 + k ≡ k = omega arith in i)

    register_there : (k : ℕ) (x : Variable) → slice_get (variables f) k ≡ Some x → is_register f k x ≡ true → (slot : Slot) → slice_get slots k ≡ Some slot → (v : Value) × (slice_get slots k ≡ Some (Register v))
    register_there k x e r (Register v) g = (v, g)
    register_there k x e r (Boxed n) g = let i : false ≡ true = held_here k x (Boxed n) e g ∙ r in absurd (cc)

    box_there : (k : ℕ) (x : Variable) (v : Value) → slice_get (variables f) k ≡ Some x → is_register f k x ≡ false → ¬ (slice_get slots k ≡ Some (Register v))
    box_there k x v e r g = let i : true ≡ false = held_here k x (Register v) e g ∙ r in absurd (cc)

    call_fits : CallFits f slots
    call_fits = record {
      there = λ k x e. there 0 (variables f) slots k x h.shaped e;
      no_more = λ k slot e. no_more 0 (variables f) slots k slot h.shaped e;
      fits = λ k x v e g. fits_at (variables f) slots k x v h.fits e g;
      register = λ k x e r. let a = there 0 (variables f) slots k x h.shaped e in register_there k x e r a.0 a.1;
      box = box_there;
    }

pub calls_fit : CallsFit
calls_fit f slots h = call_fits f slots h

-- ---- slots that are cleared

cleared_fits : (ts : List Ty) (slots new : List Slot) → Cleared slots new → FitSlots ts slots → FitSlots ts new
cleared_fits [] [] [] c h = tt
cleared_fits [] [] (y ∷ ys) c h = absurd c
cleared_fits [] (x ∷ xs) ys c h = absurd h
cleared_fits (t ∷ ts) [] ys c h = absurd h
cleared_fits (t ∷ ts) (x ∷ xs) [] c h = absurd c
cleared_fits (t ∷ ts) (x ∷ xs) (y ∷ ys) c h = (go c.0, cleared_fits ts xs ys c.1 h.1)
  where
    go : (y ≡ x) ⊎ (y ≡ Register Unset) → FitsSlot t y
    go (inl e) = subst (FitsSlot t) (sym e) h.0
    go (inr e) = subst (FitsSlot t) (sym e) refl

-- what holds of each slot and of an unset register
cleared_all : (So : Slot → Type 0) → So (Register Unset) → (slots new : List Slot) → Cleared slots new → All So slots → All So new
cleared_all So unset [] [] c h = h
cleared_all So unset [] (y ∷ ys) c h = absurd c
cleared_all So unset (x ∷ xs) [] c h = absurd c
cleared_all So unset (x ∷ xs) (y ∷ ys) c h = All-cons So y ys (go c.0) (cleared_all So unset xs ys c.1 (All-tail So x xs h))
  where
    go : (y ≡ x) ⊎ (y ≡ Register Unset) → So y
    go (inl e) = subst So (sym e) (All-head So x xs h)
    go (inr e) = subst So (sym e) unset

pub cleared_fit : ClearedFit
cleared_fit ts s slots new c = record {
  fits = cleared_fits ts slots new c;
  made = cleared_all (IsMadeSlot s) tt slots new c;
  codes = λ p. cleared_all (IsCodeSlot p) tt slots new c;
}

-- ---- what is known of a slot

pub slots_are_known : SlotsAreKnown
slots_are_known s f slots h made k x e = let a = there f 0 (variables f) slots k x h.shaped e in (a.0, a.1, known a.0 a.1)
  where
    known : (slot : Slot) → slice_get slots k ≡ Some slot → Slotted s f k x slot
    known (Register v) g =
        let register = sym (held_here f slots h k x (Register v) e g) in
        let cell = scalar_there x.type (and_first (is_scalar x.type) _ register) in
        let fit = fits_at f (variables f) slots k x v h.fits e g in
        IsRegister v cell.0 register cell.1 fit (fits_suits x.type v cell.0 fit cell.1) (element (IsMadeSlot s) slots k (Register v) made g)
    known (Boxed n) g = IsBox n (sym (held_here f slots h k x (Boxed n) e g)) (element (IsMadeSlot s) slots k (Boxed n) made g)
