-- What expressions give leads into blocks that were made, and is the same in a store where these have the same cells, as with one more block.
use Rattle.std.proofs.Common.{◌≡◌, ℕ, ℤ, ◌+ℤ◌, pos, Bool, true, false, ◌&&◌, ◌==◌, not, List, Option, Some, None, Result, Ok, Err, slice_get, length, cond, refl, sym, subst}
use Rattle.std.specs.Prelude.{int_lt, int_le, unsigned_abs}
use Rattle.std.specs.List.{All}
use Rattle.cpc_base.specs.Bytes.{Text}
use Rattle.cpc_num.specs.declared.kinds.Kind.{Kind}
use Rattle.cpc_num.specs.declared.kinds.Fault.{Fault}
use Rattle.cpc_num.specs.declared.kinds.Fault.TheVariants as F
use Rattle.cpc_num.specs.declared.kinds.Op.{Op}
use Rattle.cpc_num.specs.declared.kinds.Op.TheVariants.{Add, Sub, Lt, Le, Gt, Ge}
use Rattle.cpc_tree.specs.Syntax.{Ty, TyInt, TyCondvar, TyPointer, TyCode, TyArray, Expr, ENamed, EInteger, ECharacter, EText, EUnary, EBinary, EAnd, EOr, EChoose, ECast, ESizeOf, EIndex, EMember, EArrow, ECall, Program}
use Rattle.cpc_tree.specs.declared.program.Mode.TheVariants.{Native, Detached}
use Rattle.cpc_tree.specs.declared.program.UnaryOp.{UnaryOp}
use Rattle.cpc_tree.specs.declared.program.UnaryOp.TheVariants.{Minus, Plus, Not, Complement, Dereference, AddressOf}
use Rattle.cpc_tree.specs.Typing.{Scope, Meant, ALocal, AGlobal, AFunction, named, field, struct_tag, size}
use Rattle.cpc_store.specs.declared.values.Class.{Class}
use Rattle.cpc_store.specs.declared.values.Class.TheVariants.{Static}
use Rattle.cpc_store.specs.declared.values.Scalar.{Scalar}
use Rattle.cpc_store.specs.Store.{Value, Unset, Whole, Null, At, Code, Cond, Store, alloc, cells_of, load, load_cell, load_block, suits, same_class}
use Rattle.cpc_meaning.specs.Answer.{Answer, Gives, Faults, ◌>>=◌, of_result, needed}
use Rattle.cpc_meaning.specs.Eval.{Slot, Register, Boxed, Context, Spot, InSlot, InCell, number, place, value, place_type, used_type, read, field_spot, value_named, address_named, slot_spot, slot_value, moved, moved_within, moved_by, offsets, offsets_in, distance, ordered, on_pointers, on_mixed, apply, operate, and_also, or_else, chosen, tested, truth_value, spot_named, element_size, pointer_to, address, pointed_type, pointed, holds, assigned, at_type}
use Rattle.cpc_meaning.specs.Layout.{scalar_of}
use Rattle.cpc_meaning.proofs.SameValues.{at}
use Rattle.cpc_meaning_laws.specs.Pointer.Made.{IsBlock, IsMade, IsMadeSlot, IsMadeStore}
use Rattle.cpc_meaning_laws.proofs.Pointer.Blocks.{Only, Any, only_any, only_then, any_then, only_if, Given, Broken, Neither, Keeps, itself, as_is, then_keeps, same_then, element, kept}

-- a place in memory is in a block that was made
abbrev pub IsMadeSpot : Store → Spot → Type 0
IsMadeSpot s (InSlot k) = Unit {0}
IsMadeSpot s (InCell c n k) = IsBlock s c n

-- ---- values that hold for any store

module _ (s : Store) where
  pub number_made : (kind : Kind) (r : Result ℤ Fault) → Only (IsMade s) (number kind r)
  number_made kind (Ok z) = tt
  number_made kind (Err fault) = tt

  within_made : (o : Option (List Value)) (c : Class) (n : ℕ) (z : ℤ) → IsBlock s c n → Only (IsMade s) (moved_within o c n z)
  within_made None c n z h = tt
  within_made (Some cells) c n z h = only_if (IsMade s) (int_le (pos 0) z && int_le z (pos (length cells))) (Gives (At c n (unsigned_abs z))) (Faults F.Bounds) h tt

  -- a value that is converted is the same pointer, or none
  pub assigned_made : (t : Ty) (v : Value) → IsMade s v → Only (IsMade s) (assigned t v)
  assigned_made t Unset h = tt
  assigned_made (TyInt kind) (Whole j z) h = tt
  assigned_made (TyPointer t) (Whole j z) h = tt
  assigned_made (TyPointer t) Null h = tt
  assigned_made (TyPointer t) (At c n k) h = h
  assigned_made (TyCode r ps) (Whole j z) h = tt
  assigned_made (TyCode r ps) Null h = tt
  assigned_made (TyCode r ps) (Code f) h = tt
  assigned_made TyCondvar (Cond n) h = tt
  assigned_made _ _ h = tt

  pub at_type_made : (t : Ty) (v : Value) → IsMade s v → Only (IsMade s) (at_type t v)
  at_type_made t Unset h = tt
  at_type_made t v h = assigned_made t v h

  pub applied_made : (op : UnaryOp) (v : Value) → Only (IsMade s) (apply op v)
  applied_made Minus (Whole kind z) = number_made _ _
  applied_made Plus (Whole kind z) = tt
  applied_made Complement (Whole kind z) = tt
  applied_made Minus _ = tt
  applied_made Plus _ = tt
  applied_made Complement _ = tt
  applied_made Not v = any_then (IsMade s) (holds v) (λ b. Gives (truth_value (not b))) (λ b. tt)
  applied_made Dereference v = tt
  applied_made AddressOf v = tt

  pub pointed_made : (v : Value) → IsMade s v → Only (IsMadeSpot s) (pointed v)
  pointed_made (At c n k) h = h
  pointed_made Unset h = tt
  pointed_made (Whole kind z) h = tt
  pointed_made Null h = tt
  pointed_made (Code f) h = tt
  pointed_made (Cond n) h = tt

  pub pointer_made : (spot : Spot) → IsMadeSpot s spot → Only (IsMade s) (pointer_to spot)
  pointer_made (InSlot k) h = tt
  pointer_made (InCell c n k) h = h

  -- what is loaded stands in a live block
  pub loaded_made : (wanted : Scalar) (c : Class) (n k : ℕ) → IsMadeStore s → Only (IsMade s) (of_result (load wanted c n k s))
  loaded_made wanted c n k made = go (cells_of c n s) refl
    where
      cell : (cells : List Value) → cells_of c n s ≡ Some cells → (o : Option Value) → slice_get cells k ≡ o → Only (IsMade s) (of_result (load_cell wanted o))
      cell cells e None g = tt
      cell cells e (Some v) g = suited (suits wanted v)
        where
          suited : (b : Bool) → Only (IsMade s) (of_result (cond b (Ok v) (Err F.Kind)))
          suited true = made c n k cells v e g
          suited false = tt

      go : (o : Option (List Value)) → cells_of c n s ≡ o → Only (IsMade s) (of_result (load_block wanted o k))
      go None e = tt
      go (Some cells) e = cell cells e (slice_get cells k) refl

-- ---- the same in another store, where the blocks that were made have the same cells

-- what was made in s has the same cells in t
abbrev pub SameCells : Store → Store → Type 0
SameCells s t = (c : Class) (n : ℕ) → IsBlock s c n → cells_of c n t ≡ cells_of c n s

-- the store itself, and the store with one more block
pub same_itself : (s : Store) → SameCells s s
same_itself s c n h = refl

pub same_grown : (class : Class) (more : List Value) (s : Store) → ¬ (class ≡ Static) → SameCells s (alloc class more s)
same_grown class more s apart c n h = kept class more s c n apart h

module _ (s grown : Store) (same_cells : SameCells s grown) (made : IsMadeStore s) where
  -- what depends on the cells of one block that was made
  by_cells : {A : Type 0} (Good : A → Type 0) (f : Option (List Value) → Answer A) (c : Class) (n : ℕ) → IsBlock s c n → Only Good (f (cells_of c n s)) → Keeps Good (f (cells_of c n s)) (f (cells_of c n grown))
  by_cells Good f c n h g = subst (λ o. Keeps Good (f (cells_of c n s)) (f o)) (sym (same_cells c n h)) (itself Good _ g)

  -- ---- operators

  pub moves : (v : Value) (d : ℤ) → IsMade s v → Keeps (IsMade s) (moved s v d) (moved grown v d)
  moves (At c n k) d h = by_cells (IsMade s) (λ o. moved_within o c n (pos k +ℤ d)) c n h (within_made s (cells_of c n s) c n (pos k +ℤ d) h)
  moves Unset d h = Broken F.Unset
  moves (Whole kind z) d h = Neither
  moves Null d h = Broken F.Null
  moves (Code f) d h = Neither
  moves (Cond n) d h = Neither

  moves_by : (p : Program) (t : Option Ty) (v : Value) (z : ℤ) → IsMade s v → Keeps (IsMade s) (moved_by p s t v z) (moved_by p grown t v z)
  moves_by p t v z h = same_then (IsMade s) (λ x. x) (element_size p t) _ _ λ n. moves v _ h

  both_offsets : (v w : Value) → IsMade s v → IsMade s w → Keeps Any (offsets s v w) (offsets grown v w)
  both_offsets (At c m j) (At d n k) h i =
      let same : Bool = same_class c d && (m == n) in
      subst (λ o. Keeps Any (offsets s (At c m j) (At d n k)) (offsets_in o (cells_of d n grown) same j k)) (sym (same_cells c m h))
      (by_cells Any (λ o. offsets_in (cells_of c m s) o same j k) d n i (only_any (offsets_in (cells_of c m s) (cells_of d n s) same j k)))
  both_offsets v w h i = as_is _

  orders : (test : ℤ → ℤ → Bool) (v w : Value) → IsMade s v → IsMade s w → Keeps (IsMade s) (ordered s test v w) (ordered grown test v w)
  orders test v w h i = then_keeps Any (IsMade s) (λ x. x) _ _ _ _ (both_offsets v w h i) λ x j. itself (IsMade s) _ tt

  distances : (p : Program) (t : Option Ty) (v w : Value) → IsMade s v → IsMade s w → Keeps (IsMade s) (distance p s t v w) (distance p grown t v w)
  distances p t v w h i = then_keeps Any (IsMade s) (λ x. x) _ _ _ _ (both_offsets v w h i) λ x j. same_then (IsMade s) (λ x. x) (element_size p t) _ _ λ n. itself (IsMade s) _ tt

  pointers : (p : Program) (op : Op) (t : Option Ty) (v w : Value) → IsMade s v → IsMade s w → Keeps (IsMade s) (on_pointers p s op t v w) (on_pointers p grown op t v w)
  pointers p Add t v (Whole k z) h i = moves_by p t v z h
  pointers p Sub t v (Whole k z) h i = moves_by p t v _ h
  pointers p Sub t v w h i = distances p t v w h i
  pointers p Lt t v w h i = orders int_lt v w h i
  pointers p Le t v w h i = orders int_le v w h i
  pointers p Gt t v w h i = orders (λ j k. int_lt k j) v w h i
  pointers p Ge t v w h i = orders (λ j k. int_le k j) v w h i
  pointers p _ t v w h i = itself (IsMade s) _ tt

  mixed : (p : Program) (op : Op) (t : Option Ty) (z : ℤ) (w : Value) → IsMade s w → Keeps (IsMade s) (on_mixed p s op t z w) (on_mixed p grown op t z w)
  mixed p Add t z w h = moves_by p t w z h
  mixed p _ t z w h = itself (IsMade s) _ tt

  pub operates : (p : Program) (op : Op) (t u : Option Ty) (v w : Value) → IsMade s v → IsMade s w → Keeps (IsMade s) (operate p s op t u v w) (operate p grown op t u v w)
  operates p op t u Unset w h i = Broken F.Unset
  operates p op t u v Unset h i = itself (IsMade s) _ tt
  operates p op t u (Whole j x) (Whole k y) h i = itself (IsMade s) _ (number_made s _ _)
  operates p op t u (Whole j x) w h i = mixed p op u x w i
  operates p op t u v w h i = pointers p op t v w h i

  -- ---- places and values

  module _ (p : Program) (scope : Scope) (slots : List Slot) (slots_made : All (IsMadeSlot s) slots) where
    -- what an expression is evaluated in, in either store
    abbrev pub here : Context
    here = at p scope slots s

    abbrev pub there : Context
    there = at p scope slots grown

    -- an expression gives the same, which was made
    abbrev pub Same : Answer Value → Answer Value → Type 0
    Same a b = Keeps (IsMade s) a b

    abbrev pub SamePlace : Answer Spot → Answer Spot → Type 0
    SamePlace a b = Keeps (IsMadeSpot s) a b

    slot_held : (k : ℕ) (o : Option Slot) → slice_get slots k ≡ o → Only (IsMade s) (slot_value o)
    slot_held k None e = tt
    slot_held k (Some (Register v)) e = element (IsMadeSlot s) slots k (Register v) slots_made e
    slot_held k (Some (Boxed n)) e = tt

    slot_there : (k : ℕ) (o : Option Slot) → slice_get slots k ≡ o → Only (IsMadeSpot s) (slot_spot k o)
    slot_there k None e = tt
    slot_there k (Some (Register v)) e = tt
    slot_there k (Some (Boxed n)) e = element (IsMadeSlot s) slots k (Boxed n) slots_made e

    pub spot_made : (m : Meant) → Only (IsMadeSpot s) (spot_named slots m)
    spot_made (ALocal k t) = slot_there k (slice_get slots k) refl
    spot_made (AGlobal n t) = tt
    spot_made _ = tt

    pub reads : (t : Option Ty) (spot : Spot) → IsMadeSpot s spot → Same (read slots s t spot) (read slots grown t spot)
    reads None spot h = Neither
    reads (Some t) (InSlot k) h = itself (IsMade s) _ (slot_held k (slice_get slots k) refl)
    reads (Some (TyArray t m)) (InCell c n k) h = Given (At c n k) h
    reads (Some t) (InCell c n k) h =
        same_then (IsMade s) (λ x. x) (needed (scalar_of t)) _ _ λ wanted.
        by_cells (IsMade s) (λ o. of_result (load_block wanted o k)) c n h (loaded_made s wanted c n k made)

    pub fields : (t : Option Ty) (x : Text) (v : Value) → IsMade s v → SamePlace (field_spot p s t x v) (field_spot p grown t x v)
    fields t x v h =
        same_then (IsMadeSpot s) (λ x. x) (needed t) _ _ λ u.
        same_then (IsMadeSpot s) (λ x. x) (needed (struct_tag u)) _ _ λ tag.
        same_then (IsMadeSpot s) (λ x. x) (needed (field p tag x)) _ _ λ f.
        then_keeps (IsMade s) (IsMadeSpot s) (λ x. x) _ _ _ _ (moves v (pos f.0) h) λ w i. itself (IsMadeSpot s) _ (pointed_made s w i)

    names_values : (x : Text) (m : Meant) → Same (value_named slots s x m) (value_named slots grown x m)
    names_values x (ALocal k t) = then_keeps (IsMadeSpot s) (IsMade s) (λ x. x) _ _ _ _ (itself (IsMadeSpot s) _ (spot_made (ALocal k t))) λ spot h. reads (Some t) spot h
    names_values x (AGlobal n t) = reads (Some t) (InCell Static n 0) tt
    names_values x (AFunction Native r ps) = Given (Code x) tt
    names_values x (AFunction Detached r ps) = Given (Code x) tt
    names_values x _ = Neither

    addresses : (a b : Answer Spot) → SamePlace a b → Same (address a) (address b)
    addresses a b h = then_keeps (IsMadeSpot s) (IsMade s) (λ x. x) a b pointer_to pointer_to h λ spot i. itself (IsMade s) (pointer_to spot) (pointer_made s spot i)

    pub address_made : (x : Text) (m : Meant) → Only (IsMade s) (address_named slots x m)
    address_made x (AFunction Native r ps) = tt
    address_made x (AFunction Detached r ps) = tt
    address_made x m = only_then (IsMadeSpot s) (IsMade s) (spot_named slots m) pointer_to (spot_made m) (pointer_made s)

    tests : (a b : Answer Value) → Same a b → Same (tested a) (tested b)
    tests a b h = then_keeps (IsMade s) (IsMade s) (λ x. x) _ _ _ _ h λ v i. same_then (IsMade s) (λ x. x) (holds v) _ _ λ b. Given (truth_value b) tt

    also : (x : Bool) (a b : Answer Value) → Same a b → Same (and_also x a) (and_also x b)
    also true a b h = tests a b h
    also false a b h = Given (truth_value false) tt

    otherwise : (x : Bool) (a b : Answer Value) → Same a b → Same (or_else x a) (or_else x b)
    otherwise true a b h = Given (truth_value true) tt
    otherwise false a b h = tests a b h

    either : (x : Bool) (a b c d : Answer Value) → Same a c → Same b d → Same (chosen x a b) (chosen x c d)
    either true a b c d h k = h
    either false a b c d h k = k

    -- at what a value points, and what is read there
    points : (v : Value) → IsMade s v → SamePlace (pointed v) (pointed v)
    points v h = itself (IsMadeSpot s) (pointed v) (pointed_made s v h)

    reads_pointed : (t : Option Ty) (v : Value) → IsMade s v → Same (pointed v >>= read slots s t) (pointed v >>= read slots grown t)
    reads_pointed t v h = then_keeps (IsMadeSpot s) (IsMade s) (λ x. x) _ _ _ _ (points v h) (reads t)

    reads_field : (t u : Option Ty) (x : Text) (v : Value) → IsMade s v → Same (field_spot p s t x v >>= read slots s u) (field_spot p grown t x v >>= read slots grown u)
    reads_field t u x v h = then_keeps (IsMadeSpot s) (IsMade s) (λ x. x) _ _ _ _ (fields t x v h) (reads u)

    -- what is made of a value, and of two
    value_then : {B : Type 0} (Fine : B → Type 0) (a b : Answer Value) (h k : Value → Answer B) → Same a b → ((v : Value) → IsMade s v → Keeps Fine (h v) (k v)) → Keeps Fine (a >>= h) (b >>= k)
    value_then Fine a b h k i e = then_keeps (IsMade s) Fine (λ x. x) a b h k i e

    mutual
      -- a place stays where it is, in a block that was made
      pub places : (e : Expr) → SamePlace (place here e) (place there e)
      places (ENamed x) = itself (IsMadeSpot s) _ (spot_made (named p scope x))
      places (EUnary Dereference e) = value_then (IsMadeSpot s) _ _ _ _ (same_values e) λ v h. points v h
      places (EIndex a i) =
          value_then (IsMadeSpot s) _ _ _ _ (same_values a) λ v h.
          value_then (IsMadeSpot s) _ _ _ _ (same_values i) λ w j.
          value_then (IsMadeSpot s) _ _ _ _ (operates p Add (used_type here a) (used_type here i) v w h j) λ x l. points x l
      places (EMember e x) =
          then_keeps (IsMadeSpot s) (IsMadeSpot s) (λ x. x) _ _ _ _ (places e) λ spot h.
          value_then (IsMadeSpot s) _ _ _ _ (itself (IsMade s) _ (pointer_made s spot h)) λ v i. fields (place_type here e) x v i
      places (EArrow e x) = value_then (IsMadeSpot s) _ _ _ _ (same_values e) λ v h. fields (pointed_type (used_type here e)) x v h
      places _ = Neither

      -- an expression keeps its value, which was made
      pub same_values : (e : Expr) → Same (value here e) (value there e)
      same_values (ENamed x) = names_values x (named p scope x)
      same_values (EInteger kind z) = Given (Whole kind z) tt
      same_values (ECharacter z) = itself (IsMade s) _ tt
      same_values (EText bytes) = Neither
      same_values (EUnary Dereference e) = value_then (IsMade s) _ _ _ _ (same_values e) λ v h. reads_pointed (place_type here (EUnary Dereference e)) v h
      same_values (EUnary AddressOf (ENamed x)) = itself (IsMade s) _ (address_made x (named p scope x))
      same_values (EUnary AddressOf e) = addresses _ _ (places e)
      same_values (EUnary sign e) = value_then (IsMade s) _ _ _ _ (same_values e) λ v h. itself (IsMade s) _ (applied_made s sign v)
      same_values (EBinary op a b) =
          value_then (IsMade s) _ _ _ _ (same_values a) λ v h.
          value_then (IsMade s) _ _ _ _ (same_values b) λ w i. operates p op (used_type here a) (used_type here b) v w h i
      same_values (EAnd a b) =
          value_then (IsMade s) _ _ _ _ (same_values a) λ v h.
          same_then (IsMade s) (λ x. x) (holds v) _ _ λ x. also x _ _ (same_values b)
      same_values (EOr a b) =
          value_then (IsMade s) _ _ _ _ (same_values a) λ v h.
          same_then (IsMade s) (λ x. x) (holds v) _ _ λ x. otherwise x _ _ (same_values b)
      same_values (EChoose e a b) =
          value_then (IsMade s) _ _ _ _ (same_values e) λ v h.
          same_then (IsMade s) (λ x. x) (holds v) _ _ λ x.
          same_then (IsMade s) (λ x. x) (needed (used_type here (EChoose e a b))) _ _ λ t.
          value_then (IsMade s) _ _ _ _ (either x _ _ _ _ (same_values a) (same_values b)) λ w i. itself (IsMade s) _ (at_type_made s t w i)
      same_values (ECast t e) = value_then (IsMade s) _ _ _ _ (same_values e) λ v h. itself (IsMade s) _ (at_type_made s t v h)
      same_values (ESizeOf t) = same_then (IsMade s) (λ x. x) (needed (size p t)) _ _ λ n. itself (IsMade s) _ tt
      same_values (EIndex a i) =
          value_then (IsMade s) _ _ _ _ (same_values a) λ v h.
          value_then (IsMade s) _ _ _ _ (same_values i) λ w j.
          value_then (IsMade s) _ _ _ _ (operates p Add (used_type here a) (used_type here i) v w h j) λ x l. reads_pointed (place_type here (EIndex a i)) x l
      same_values (EMember e x) =
          then_keeps (IsMadeSpot s) (IsMade s) (λ x. x) _ _ _ _ (places e) λ spot h.
          value_then (IsMade s) _ _ _ _ (itself (IsMade s) _ (pointer_made s spot h)) λ v i. reads_field (place_type here e) (place_type here (EMember e x)) x v i
      same_values (EArrow e x) = value_then (IsMade s) _ _ _ _ (same_values e) λ v h. reads_field (pointed_type (used_type here e)) (place_type here (EArrow e x)) x v h
      same_values (ECall f es) = Neither
