-- What operators, loads and fields give in the store of a source, and beside frames.
use Rattle.std.proofs.Common.{◌≡◌, ℕ, ℤ, ◌+ℤ◌, pos, Bool, true, false, ◌&&◌, ◌==◌, not, cond, List, Option, Some, None, Result, Ok, Err, slice_get, length, refl, sym, subst}
use Rattle.std.specs.Prelude.{int_lt, int_le, unsigned_abs}
use Rattle.cpc_base.specs.Bytes.{Text}
use Rattle.cpc_num.specs.declared.kinds.Kind.{Kind}
use Rattle.cpc_num.specs.declared.kinds.Fault.{Fault}
use Rattle.cpc_num.specs.declared.kinds.Fault.TheVariants as F
use Rattle.cpc_num.specs.declared.kinds.Op.{Op}
use Rattle.cpc_num.specs.declared.kinds.Op.TheVariants.{Add, Sub, Lt, Le, Gt, Ge}
use Rattle.cpc_tree.specs.Syntax.{Ty, TyInt, TyCondvar, TyPointer, TyCode, TyArray, Program}
use Rattle.cpc_tree.specs.declared.program.UnaryOp.{UnaryOp}
use Rattle.cpc_tree.specs.declared.program.UnaryOp.TheVariants.{Minus, Plus, Not, Complement, Dereference, AddressOf}
use Rattle.cpc_tree.specs.Typing.{field, struct_tag, size}
use Rattle.cpc_store.specs.declared.values.Class.{Class}
use Rattle.cpc_store.specs.declared.values.Class.TheVariants.{Static, Auto, Heap, Frame}
use Rattle.cpc_store.specs.declared.values.Scalar.{Scalar}
use Rattle.cpc_store.specs.Store.{Value, Unset, Whole, Null, At, Code, Cond, Store, Blocks, cells_of, load, load_cell, load_block, suits, same_class}
use Rattle.cpc_meaning.specs.Answer.{Answer, Gives, Faults, NoAnswer, ◌>>=◌, of_result, needed}
use Rattle.cpc_meaning.specs.Eval.{Slot, Spot, InSlot, InCell, and_then, number, read, field_spot, moved, moved_within, moved_by, offsets, offsets_in, distance, ordered, on_pointers, on_mixed, apply, operate, truth_value, element_size, pointed, holds, assigned, at_type}
use Rattle.cpc_meaning.specs.Layout.{scalar_of}
use Rattle.cpc_meaning_laws.proofs.Pointer.Blocks.{Only, Any, only_any, any_then, only_if}
use Rattle.cpc_convert_image_laws.specs.Held.{IsShared, IsHeld, IsHeldStore, beside}
use Rattle.cpc_convert_image_laws.specs.Relations.{Less, AsIs, Untold, Extends, Meets, BothGive, BothFault, Stuck, Same, It}
use Rattle.cpc_convert_image_laws.proofs.Answers.{same_then, itself, as_is, self_then, needed_then}
use Rattle.cpc_convert_image_laws.proofs.Types.{size_less}

-- a place in memory, not in a frame
abbrev pub IsCell : Spot → Type 0
IsCell (InSlot k) = true ≡ false
IsCell (InCell c n k) = IsShared c

-- ---- values that hold for any store

module _ (C : Text → Type 0) where
  number_held : (kind : Kind) (r : Result ℤ Fault) → Only (IsHeld C) (number kind r)
  number_held kind (Ok z) = tt
  number_held kind (Err fault) = tt

  within_held : (o : Option (List Value)) (c : Class) (n : ℕ) (z : ℤ) → IsShared c → Only (IsHeld C) (moved_within o c n z)
  within_held None c n z h = tt
  within_held (Some cells) c n z h = only_if (IsHeld C) (int_le (pos 0) z && int_le z (pos (length cells))) (Gives (At c n (unsigned_abs z))) (Faults F.Bounds) h tt

  -- a value that is converted is the same pointer or code, or none
  pub assigned_held : (t : Ty) (v : Value) → IsHeld C v → Only (IsHeld C) (assigned t v)
  assigned_held t Unset h = tt
  assigned_held (TyInt kind) (Whole j z) h = tt
  assigned_held (TyPointer t) (Whole j z) h = tt
  assigned_held (TyPointer t) Null h = tt
  assigned_held (TyPointer t) (At c n k) h = h
  assigned_held (TyCode r ps) (Whole j z) h = tt
  assigned_held (TyCode r ps) Null h = tt
  assigned_held (TyCode r ps) (Code f) h = h
  assigned_held TyCondvar (Cond n) h = tt
  assigned_held _ _ h = tt

  pub at_type_held : (t : Ty) (v : Value) → IsHeld C v → Only (IsHeld C) (at_type t v)
  at_type_held t Unset h = tt
  at_type_held t v h = assigned_held t v h

  pub applied_held : (op : UnaryOp) (v : Value) → Only (IsHeld C) (apply op v)
  applied_held Minus (Whole kind z) = number_held _ _
  applied_held Plus (Whole kind z) = tt
  applied_held Complement (Whole kind z) = tt
  applied_held Minus _ = tt
  applied_held Plus _ = tt
  applied_held Complement _ = tt
  applied_held Not v = any_then (IsHeld C) (holds v) (λ b. Gives (truth_value (not b))) (λ b. tt)
  applied_held Dereference v = tt
  applied_held AddressOf v = tt

  pub points : (v : Value) → IsHeld C v → Meets (Same IsCell) (pointed v) (pointed v)
  points Unset h = BothFault F.Unset
  points (Whole kind z) h = Stuck NoAnswer
  points Null h = BothFault F.Null
  points (At c n k) h = BothGive _ _ (It (InCell c n k) h)
  points (Code f) h = Stuck NoAnswer
  points (Cond n) h = Stuck NoAnswer

-- ---- beside frames

module _ (C : Text → Type 0) (s : Store) (source : IsHeldStore C s) (frames : Blocks) where
  abbrev there : Store
  there = beside frames s

  -- an answer that is the same in both, and is held
  abbrev Both : Answer Value → Answer Value → Type 0
  Both a b = Meets (Same (IsHeld C)) a b

  -- what is loaded stands in a live block
  loaded_held : (wanted : Scalar) (c : Class) (n k : ℕ) → Only (IsHeld C) (of_result (load wanted c n k s))
  loaded_held wanted c n k = go (cells_of c n s) refl
    where
      cell : (cells : List Value) → cells_of c n s ≡ Some cells → (o : Option Value) → slice_get cells k ≡ o → Only (IsHeld C) (of_result (load_cell wanted o))
      cell cells e None g = tt
      cell cells e (Some v) g = suited (suits wanted v)
        where
          suited : (b : Bool) → Only (IsHeld C) (of_result (cond b (Ok v) (Err F.Kind)))
          suited true = source c n k cells v e g
          suited false = tt

      go : (o : Option (List Value)) → cells_of c n s ≡ o → Only (IsHeld C) (of_result (load_block wanted o k))
      go None e = tt
      go (Some cells) e = cell cells e (slice_get cells k) refl

  same_cells : (c : Class) (n : ℕ) → IsShared c → cells_of c n there ≡ cells_of c n s
  same_cells Static n h = refl
  same_cells Auto n h = refl
  same_cells Heap n h = refl
  same_cells Frame n h = absurd (cc)

  -- what depends on the cells of one block
  by_cells : {A : Type 0} (Good : A → Type 0) (f : Option (List Value) → Answer A) (c : Class) (n : ℕ) → IsShared c → Only Good (f (cells_of c n s)) → Meets (Same Good) (f (cells_of c n s)) (f (cells_of c n there))
  by_cells Good f c n h g = subst (λ o. Meets (Same Good) (f (cells_of c n s)) (f o)) (sym (same_cells c n h)) (itself Good _ g)

  -- a cell is loaded
  pub loads : (wanted : Scalar) (c : Class) (n k : ℕ) → IsShared c → Both (of_result (load wanted c n k s)) (of_result (load wanted c n k there))
  loads wanted c n k h = by_cells (IsHeld C) (λ o. of_result (load_block wanted o k)) c n h (loaded_held wanted c n k)

  moves : (v : Value) (d : ℤ) → IsHeld C v → Both (moved s v d) (moved there v d)
  moves (At c n k) d h = by_cells (IsHeld C) (λ o. moved_within o c n (pos k +ℤ d)) c n h (within_held C (cells_of c n s) c n (pos k +ℤ d) h)
  moves Unset d h = BothFault F.Unset
  moves (Whole kind z) d h = Stuck NoAnswer
  moves Null d h = BothFault F.Null
  moves (Code f) d h = Stuck NoAnswer
  moves (Cond n) d h = Stuck NoAnswer

  both_offsets : (v w : Value) → IsHeld C v → IsHeld C w → Meets (Same Any) (offsets s v w) (offsets there v w)
  both_offsets (At c m j) (At d n k) h i =
      let same : Bool = same_class c d && (m == n) in
      subst (λ o. Meets (Same Any) (offsets s (At c m j) (At d n k)) (offsets_in o (cells_of d n there) same j k)) (sym (same_cells c m h))
      (by_cells Any (λ o. offsets_in (cells_of c m s) o same j k) d n i (only_any (offsets_in (cells_of c m s) (cells_of d n s) same j k)))
  both_offsets v w h i = as_is _

  orders : (test : ℤ → ℤ → Bool) (v w : Value) → IsHeld C v → IsHeld C w → Both (ordered s test v w) (ordered there test v w)
  orders test v w h i = same_then Any (Same (IsHeld C)) _ _ _ _ (both_offsets v w h i) λ x j. itself (IsHeld C) _ tt

  module _ (p q : Program) (types : Extends p q) where
    element_then : (t u : Option Ty) (f g : ℕ → Answer Value) → Less t u → ((n : ℕ) → Both (f n) (g n)) → Both (element_size p t >>= f) (element_size q u >>= g)
    element_then _ _ f g (AsIs (Some (TyPointer t))) h = needed_then (Same (IsHeld C)) (size p t) (size q t) f g (size_less p q types t) h
    element_then _ _ f g (AsIs (Some t)) h = Stuck _
    element_then _ _ f g (AsIs None) h = Stuck _
    element_then _ _ f g (Untold o) h = Stuck _

    moves_by : (t u : Option Ty) (v : Value) (z : ℤ) → Less t u → IsHeld C v → Both (moved_by p s t v z) (moved_by q there u v z)
    moves_by t u v z l h = element_then t u _ _ l λ n. moves v _ h

    distances : (t u : Option Ty) (v w : Value) → Less t u → IsHeld C v → IsHeld C w → Both (distance p s t v w) (distance q there u v w)
    distances t u v w l h i = same_then Any (Same (IsHeld C)) _ _ _ _ (both_offsets v w h i) λ x j. element_then t u _ _ l λ n. itself (IsHeld C) _ tt

    pointers : (op : Op) (t u : Option Ty) (v w : Value) → Less t u → IsHeld C v → IsHeld C w → Both (on_pointers p s op t v w) (on_pointers q there op u v w)
    pointers Add t u v (Whole k z) l h i = moves_by t u v z l h
    pointers Sub t u v (Whole k z) l h i = moves_by t u v _ l h
    pointers Sub t u v w l h i = distances t u v w l h i
    pointers Lt t u v w l h i = orders int_lt v w h i
    pointers Le t u v w l h i = orders int_le v w h i
    pointers Gt t u v w l h i = orders (λ j k. int_lt k j) v w h i
    pointers Ge t u v w l h i = orders (λ j k. int_le k j) v w h i
    pointers op t u v w l h i = itself (IsHeld C) _ tt

    mixed : (op : Op) (t u : Option Ty) (z : ℤ) (w : Value) → Less t u → IsHeld C w → Both (on_mixed p s op t z w) (on_mixed q there op u z w)
    mixed Add t u z w l h = moves_by t u w z l h
    mixed op t u z w l h = itself (IsHeld C) _ tt

    pub operates : (op : Op) (t t' u u' : Option Ty) (v w : Value) → Less t t' → Less u u' → IsHeld C v → IsHeld C w → Both (operate p s op t u v w) (operate q there op t' u' v w)
    operates op t t' u u' Unset w l m h i = BothFault F.Unset
    operates op t t' u u' v Unset l m h i = itself (IsHeld C) _ tt
    operates op t t' u u' (Whole j x) (Whole k y) l m h i = itself (IsHeld C) _ (number_held C _ _)
    operates op t t' u u' (Whole j x) w l m h i = mixed op u u' x w m i
    operates op t t' u u' v w l m h i = pointers op t t' v w l h i

    -- ---- cells and fields

    cell_read : (slots slots' : List Slot) (t : Ty) (c : Class) (n k : ℕ) → IsShared c → Both (read slots s (Some t) (InCell c n k)) (read slots' there (Some t) (InCell c n k))
    cell_read slots slots' (TyArray t m) c n k h = BothGive _ _ (It (At c n k) h)
    cell_read slots slots' t c n k h =
        self_then (Same (IsHeld C)) (needed (scalar_of t)) _ _ λ wanted.
        loads wanted c n k h

    pub reads : (slots slots' : List Slot) (t u : Option Ty) (spot : Spot) → Less t u → IsCell spot → Both (read slots s t spot) (read slots' there u spot)
    reads slots slots' t u (InSlot k) l h = absurd (cc)
    reads slots slots' _ _ (InCell c n k) (AsIs None) h = Stuck _
    reads slots slots' _ _ (InCell c n k) (AsIs (Some t)) h = cell_read slots slots' t c n k h
    reads slots slots' _ _ (InCell c n k) (Untold o) h = Stuck _

    -- a field, by the tag of its struct
    field_by : (p : Program) (s : Store) (o : Option Ty) (x : Text) (v : Value) → field_spot p s o x v ≡ (needed (and_then o struct_tag) >>= λ tag. needed (field p tag x) >>= λ f. moved s v (pos f.0) >>= λ w. pointed w)
    field_by p s None x v = refl
    field_by p s (Some t) x v = refl

    pub fields : (t u : Option Ty) (x : Text) (v : Value) → Less (and_then t struct_tag) (and_then u struct_tag) → IsHeld C v → Meets (Same IsCell) (field_spot p s t x v) (field_spot q there u x v)
    fields t u x v l h =
        rw (field_by p s t x v, field_by q there u x v)
        (needed_then (Same IsCell) _ _ _ _ l λ tag.
        needed_then (Same IsCell) _ _ _ _ (types.fields tag x) λ f.
        same_then (IsHeld C) (Same IsCell) _ _ _ _ (moves v (pos f.0) h) λ w i. points C w i)
