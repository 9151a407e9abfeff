-- The fields of a frame block through a pointer to it: where they are, what they give, and what is written to them.
use Rattle.std.proofs.Common.{◌≡◌, ℕ, zero, suc, ◌+◌, ◌<◌, true, List, [], ◌∷◌, length, slice_get, slice_set, Some, is_some, pos, ◌+ℤ◌, refl, ◌∙◌, ap, arith}
use Rattle.std.proofs.lemmas.Option.{slice_get_within}
use Rattle.cpc_base.specs.Bytes.{Text}
use Rattle.cpc_base.proofs.Truth.{le_holds}
use Rattle.cpc_tree.specs.Syntax.{Ty, TyPointer, TyStruct, Expr, ENamed, ECast, EArrow, Program}
use Rattle.cpc_tree.specs.Typing.{Scope, typing, APlace, AValue, field, is_scalar}
use Rattle.cpc_store.specs.declared.values.Class.{Class}
use Rattle.cpc_store.specs.declared.values.Class.TheVariants.{Frame}
use Rattle.cpc_store.specs.Store.{Value, At, Store, blocks, with_blocks, cells_of}
use Rattle.cpc_meaning.specs.Answer.{Gives}
use Rattle.cpc_meaning.specs.Eval.{Slot, InCell, place, place_type, value, assigned, moved_within}
use Rattle.cpc_meaning.specs.Act.{assign}
use Rattle.cpc_meaning.proofs.Stores.{save_there}
use Rattle.cpc_meaning.specs.Eval.{Fits}
use Rattle.cpc_convert_flat_laws.specs.Locals.{Holds, PointsTo, at}
use Rattle.cpc_convert_flat_laws.proofs.Fits.{read_fits}

-- ---- pointers to frames

module _ (q : Program) (scope : Scope) (slots : List Slot) (s : Store) where
  -- the value of a register
  pub held : (x : Text) (t : Ty) (v : Value) → Holds q scope slots x t v → value (at q scope slots s) (ENamed x) ≡ Gives v
  held x t v h = simp (h.is_local, h.is_slot) refl

  pub held_type : (x : Text) (t : Ty) (v : Value) → Holds q scope slots x t v → typing q scope (ENamed x) ≡ Some (APlace t)
  held_type x t v h = simp (h.is_local) refl

  -- a variable of the struct's pointer type
  pub named_pointer : (x tag : Text) (b : ℕ) → Holds q scope slots x (TyPointer (TyStruct tag)) (At Frame b 0) → PointsTo q scope slots s (ENamed x) tag b
  named_pointer x tag b h = record {
    typed = APlace (TyPointer (TyStruct tag));
    is_typed = held_type x (TyPointer (TyStruct tag)) (At Frame b 0) h;
    is_used = refl;
    is_value = held x (TyPointer (TyStruct tag)) (At Frame b 0) h;
  }

  -- a variable of another pointer type, with a cast
  pub cast_pointer : (x tag : Text) (t : Ty) (b : ℕ) → Holds q scope slots x (TyPointer t) (At Frame b 0) → PointsTo q scope slots s (ECast (TyPointer (TyStruct tag)) (ENamed x)) tag b
  cast_pointer x tag t b h = record {
    typed = AValue (TyPointer (TyStruct tag));
    is_typed = simp (held_type x (TyPointer t) (At Frame b 0) h) refl;
    is_used = refl;
    is_value = simp (held x (TyPointer t) (At Frame b 0) h) refl;
  }

-- ---- fields

-- a cell of a block by its offset
pub within : (cells : List Value) (c : Class) (n k : ℕ) → k < length cells → moved_within (Some cells) c n (pos 0 +ℤ pos k) ≡ Gives (At c n k)
within cells c n k h =
    let e : 0 + k ≡ k = omega arith in
    ap (λ j. moved_within (Some cells) c n (pos j)) e
    ∙ simp (le_holds 0 k (omega arith), le_holds k (length cells) (omega arith)) refl

get_there : (cells : List Value) (k : ℕ) → k < length cells → is_some (slice_get cells k) ≡ true
get_there [] k h = absurd (omega arith)
get_there (v ∷ cells) zero h = refl
get_there (v ∷ cells) (suc k) h = get_there cells k (omega arith)

module _ (q : Program) (scope : Scope) (slots : List Slot) (s : Store) (e : Expr) (tag : Text) (b : ℕ) (p : PointsTo q scope slots s e tag b) (cells : List Value) (live : cells_of Frame b s ≡ Some cells) (x : Text) (i : ℕ) (t : Ty) (is_field : field q tag x ≡ Some (i, t)) where
  -- where a field is
  pub field_place : i < length cells → place (at q scope slots s) (EArrow e x) ≡ Gives (InCell Frame b i)
  field_place h = simp (p.is_value, p.is_typed, p.is_used, is_field, live, within cells Frame b i h) refl

  -- its type
  pub field_typed : typing q scope (EArrow e x) ≡ Some (APlace t)
  field_typed = simp (p.is_typed, p.is_used, is_field) refl

  pub field_type : place_type (at q scope slots s) (EArrow e x) ≡ Some t
  field_type = simp (field_typed) refl

  -- the value of a field of a scalar type, which fits it
  pub field_value : (v : Value) → is_scalar t ≡ true → slice_get cells i ≡ Some v → Fits t v → value (at q scope slots s) (EArrow e x) ≡ Gives v
  field_value v sc is_cell fits =
      let inside = within cells Frame b i (slice_get_within cells i v is_cell) in
      let reads = read_fits t slots s Frame b i cells v sc live is_cell fits in
      simp (p.is_value, p.is_typed, p.is_used, is_field, live, inside, reads) refl

  -- a value is assigned to a field
  pub field_assign : (v w : Value) → i < length cells → assigned t v ≡ Gives w
      → assign (at q scope slots s) (EArrow e x) v ≡ Gives (slots, with_blocks Frame (slice_set (blocks Frame s) b (Some (slice_set cells i w))) s)
  field_assign v w h fits =
      let is_place = field_place h in
      let is_type = field_type in
      let saves = save_there Frame b i w s cells live (get_there cells i h) in
      simp (is_place, is_type, fits, saves) refl
