-- The locals of a piece stand for the slots of the source where each variable that is kept is in its slot, and its local has its value.
use Rattle.std.proofs.Common.{◌≡◌, ℕ, zero, suc, ◌+◌, Bool, true, false, ◌||◌, ◌==◌, List, [], ◌∷◌, ◌++◌, map, length, slice_get, Some, refl, sym, ◌∙◌, ap, subst, arith}
use Rattle.cpc_base.specs.Bytes.{Text}
use Rattle.cpc_base.proofs.Truth.{eq_reflexive, eq_means, or_by_second}
use Rattle.cpc_tree.specs.Lists.{holds_number}
use Rattle.cpc_tree.specs.Syntax.{Ty, TyPointer, TyStruct, Variable, Function, Program}
use Rattle.cpc_tree.specs.Typing.{ALocal}
use Rattle.cpc_store.specs.Store.{Value, Unset}
use Rattle.cpc_meaning.specs.Eval.{Slot, Register}
use Rattle.cpc_forms.specs.Flow.{Place}
use Rattle.cpc_convert_image_laws.specs.Locals.{Stands, AsValue, AsBlock, FitsAt, local_type}
use Rattle.cpc_convert_flat_laws.specs.Boxes.{AllRegisters, NoSlot, AndSlot}
use Rattle.cpc_chains_store_laws.specs.Driver.{any_pointer}
use Rattle.cpc_meaning.specs.Eval.{Fits}
use Rattle.cpc_convert_flat_laws.specs.Locals.{Load, Loading, NoLoading, AndLoading, blank}
use Rattle.cpc_convert_routines.specs.Given.{AllFit, NoneFit, OneFits, value_before}
use Rattle.cpc_chains_event.specs.LocalLaws.{piece_locals}
use Rattle.cpc_convert_routines.specs.Named.{IsOwner}
use Rattle.cpc_convert_routines.specs.Routines.{Routine, routine_of, closure_of, is_plain, variable_of, local_of, locals_of, variable_if}
use Rattle.cpc_lifted_laws.specs.Related.Cut.{value_in, copied}
use Rattle.cpc_lifted_laws.specs.Piece.Known.{CpsKnown}
use Rattle.cpc_chains_laws.specs.Piece.Stood.{LocalsStand}
use Rattle.cpc_chains_laws.proofs.Piece.Scopes.{q, meant}
use Rattle.cpc_chains_laws.specs.Entry.Taken.{KeptIn, IsValue, IsBlock}

-- ---- lists

pub got_register : (vs : List Value) (more : List Slot) (i : ℕ) (v : Value) → slice_get vs i ≡ Some v → slice_get (map Register vs ++ more) i ≡ Some (Register v)
got_register [] more i v e = absurd (cc)
got_register (u ∷ vs) more zero v e = let same : u ≡ v = cc in ap (λ w. Some (Register w)) same
got_register (u ∷ vs) more (suc i) v e = got_register vs more i v e

-- behind a value that may be there
pub got_behind : (b : Bool) (x : Variable) (xs : List Variable) (v : Value) (vs : List Value) (more : List Slot) (i : ℕ) (y : Variable) (u : Value) → slice_get xs i ≡ Some y → slice_get (map Register vs ++ more) i ≡ Some (Register u)
    → (j : ℕ) × (slice_get (variable_if b x xs) j ≡ Some y) × (slice_get (map Register (value_before b v vs) ++ more) j ≡ Some (Register u))
got_behind true x xs v vs more i y u e g = (suc i, e, g)
got_behind false x xs v vs more i y u e g = (i, e, g)

blank_registers : (n : ℕ) (more : List Slot) → AllRegisters more → AllRegisters (blank n more)
blank_registers zero more h = h
blank_registers (suc n) more h = AndSlot Unset (blank n more) (blank_registers n more h)

pub all_registers : (vs : List Value) (n : ℕ) → AllRegisters (map Register vs ++ blank n [])
all_registers [] n = blank_registers n [] NoSlot
all_registers (v ∷ vs) n = AndSlot v _ (all_registers vs n)

pub registers_number : (vs : List Value) (n : ℕ) → length (map Register vs ++ blank n []) ≡ length vs + n
registers_number [] zero = refl
registers_number [] (suc n) = let e = registers_number [] n in let z : suc (length (blank n [])) ≡ 0 + suc n = omega (arith, e) in z
registers_number (v ∷ vs) n = let e = registers_number vs n in let z : suc (length (map Register vs ++ blank n [])) ≡ suc (length vs) + n = omega (arith, e) in z

-- as many values are loaded as there are loads
pub loading_number : (q : Program) (tag e : Text) (cells : List Value) (ls : List Load) (vs : List Value) → Loading q tag e cells ls vs → length vs ≡ length ls
loading_number q tag e cells _ _ NoLoading = refl
loading_number q tag e cells _ _ (AndLoading l t i v ls vs a b c d g h more) = ap suc (loading_number q tag e cells ls vs more)

-- ---- variables in their slots

module _ (slots : List Slot) (t : Ty) (k : ℕ) where
  pub kept_fits : (tag : Text) (mark : Bool) → KeptIn slots t k mark → Fits (local_type mark t tag) (value_in (slice_get slots k))
  kept_fits tag _ (IsValue v e fits) = subst (Fits t) (sym (ap value_in e)) fits
  kept_fits tag _ (IsBlock n e) = subst (Fits (TyPointer (TyStruct tag))) (sym (ap value_in e)) refl

  pub kept_stands : (slots' : List Slot) (i : ℕ) (mark : Bool) → KeptIn slots t k mark → slice_get slots' i ≡ Some (Register (value_in (slice_get slots k))) → Stands slots slots' mark k i
  kept_stands slots' i _ (IsValue v e fits) g = AsValue k i v e (g ∙ ap (λ o. Some (Register (value_in o))) e)
  kept_stands slots' i _ (IsBlock n e) g = AsBlock k i n e (g ∙ ap (λ o. Some (Register (value_in o))) e)

  pub kept_value : (mark : Bool) → KeptIn slots t k mark → FitsAt slots t k
  kept_value _ (IsValue u e fits) v g = let same : u ≡ v = cc in subst (Fits t) same fits
  kept_value _ (IsBlock n e) v g = absurd (cc)

-- and back
pub stands_kept : (slots slots' : List Slot) (t : Ty) (k i : ℕ) (mark : Bool) → Stands slots slots' mark k i → FitsAt slots t k → KeptIn slots t k mark
stands_kept slots slots' t k i _ (AsValue _ _ v a b) fits = IsValue v a (fits v a)
stands_kept slots slots' t k i _ (AsBlock _ _ n a b) fits = IsBlock n a

module _ (r : Routine) (slots : List Slot) where
  abbrev pub KeptOf : ℕ → Type 0
  KeptOf k = KeptIn slots (variable_of r k).type k (is_plain r k)

  -- the values that are saved of them fit their locals
  pub copies_fit : (ks : List ℕ) → ((k : ℕ) → holds_number ks k ≡ true → KeptOf k) → AllFit (locals_of r ks) (copied slots ks)
  copies_fit [] h = NoneFit
  copies_fit (k ∷ ks) h =
      OneFits (local_of r k) (value_in (slice_get slots k)) (locals_of r ks) (copied slots ks) (kept_fits slots (variable_of r k).type k _ (is_plain r k) (h k (ap (λ b. b || holds_number ks k) (eq_reflexive k))))
      (copies_fit ks (λ j i. h j (or_by_second (k == j) (holds_number ks j) i)))

-- ---- where variables stand among others

module _ (r : Routine) (F : ℕ → Value) where
  abbrev pub ValueAt : List ℕ → ℕ → Type 0
  ValueAt ks k = (i : ℕ) × (slice_get (locals_of r ks) i ≡ Some (local_of r k)) × (slice_get (map F ks) i ≡ Some (F k))

  -- a variable among these, and its value among theirs
  pub value_at : (ks : List ℕ) (k : ℕ) → holds_number ks k ≡ true → ValueAt ks k
  value_at [] k h = absurd (cc)
  value_at (j ∷ ks) k h = go (j == k) refl h (λ i. value_at ks k i)
    where
      go : (b : Bool) → (j == k) ≡ b → (b || holds_number ks k) ≡ true → (holds_number ks k ≡ true → ValueAt ks k) → ValueAt (j ∷ ks) k
      go true e i deeper = let same = eq_means j k e in (0, ap (λ m. Some (local_of r m)) same, ap (λ m. Some (F m)) same)
      go false e i deeper = let d = deeper i in (suc d.0, d.1, d.2)

-- ---- locals

module _ (p : Program) (f : Function) (known : CpsKnown p f) (l : Place) (owner : IsOwner (routine_of p f) l) where
  abbrev r : Routine
  r = routine_of p f

  -- a local stands in one place
  pub same_index : (i j : ℕ) (x : Variable) → slice_get (piece_locals p r l) i ≡ Some x → slice_get (piece_locals p r l) j ≡ Some x → i ≡ j
  same_index i j x e g = let z : ALocal i x.type ≡ ALocal j x.type = sym ((meant p f known l owner).meant (q p f known) i x e) ∙ (meant p f known l owner).meant (q p f known) j x g in cc

  -- where the local of a variable has its value
  abbrev pub HasValue : List Slot → List Slot → ℕ → Type 0
  HasValue slots slots' k = (i : ℕ) × (slice_get (piece_locals p r l) i ≡ Some (local_of r k)) × (slice_get slots' i ≡ Some (Register (value_in (slice_get slots k))))

  pub locals_stand : (slots slots' : List Slot) (lower : Value) → length slots' ≡ length (piece_locals p r l) → AllRegisters slots' → slice_get slots' 2 ≡ Some (Register lower) → Fits any_pointer lower
      → ((k : ℕ) → holds_number (closure_of r l) k ≡ true → KeptOf r slots k) → ((k : ℕ) → holds_number (closure_of r l) k ≡ true → HasValue slots slots' k) → LocalsStand p r l slots slots' lower
  locals_stand slots slots' lower number registers next pointer kept values = record {
    number = number;
    registers = registers;
    next = next;
    pointer = pointer;
    kept = λ k i h e.
        let there = values k h in
        let same = same_index there.0 i (local_of r k) there.1 e in
        kept_stands slots (variable_of r k).type k slots' i (is_plain r k) (kept k h) (subst (λ j. slice_get slots' j ≡ Some (Register (value_in (slice_get slots k)))) same there.2);
    fits = λ k h. kept_value slots (variable_of r k).type k (is_plain r k) (kept k h);
  }
