-- The boxes of a call: how they are made, and given back.
use Rattle.std.specs.Prelude.{◌≡◌, ℕ, suc, ◌<◌, ◌^◌, true, false, List, [], ◌∷◌, slice_get, slice_set, pos, Option, Some, None, codes}
use Rattle.cpc_base.specs.Bytes.{Text}
use Rattle.cpc_num.specs.declared.kinds.Kind.TheVariants.{ULong}
use Rattle.cpc_tree.specs.Syntax.{Ty, TyPointer, TyStruct, Expr, ENamed, EArrow, NoExpr, AndExpr, Stmt, Assign, Call, Variable, Function, Program}
use Rattle.cpc_tree.specs.Lists.{first_or, rest_of}
use Rattle.cpc_tree.specs.Typing.{Scope, ALocal, named, field, size, is_scalar}
use Rattle.cpc_tree.specs.Registers.{is_register}
use Rattle.cpc_store.specs.declared.values.Class.TheVariants.{Auto}
use Rattle.cpc_store.specs.Store.{Value, Unset, Whole, At, Store}
use Rattle.cpc_meaning.specs.Answer.{Gives}
use Rattle.cpc_meaning.specs.Eval.{Slot, Register, Boxed, value}
use Rattle.cpc_meaning.specs.Slots.{make_slots}
use Rattle.cpc_meaning.specs.Eval.{Fits}
use Rattle.cpc_convert_flat_laws.specs.Locals.{Holds, at}

-- `x = rt_box(size);`
abbrev pub boxes_one : (variable : Text) → (size : Expr) → Stmt
boxes_one x size = Call (Some (ENamed x)) (ENamed (codes "rt_box")) (AndExpr size NoExpr)

-- `x->y = frame->z;`
abbrev pub fills_box : (variable field frame argument : Text) → Stmt
fills_box x y e z = Assign (EArrow (ENamed x) y) None (EArrow (ENamed e) z)

-- `rt_unbox(x);`
abbrev pub unboxes_one : (variable : Text) → Stmt
unboxes_one x = Call None (ENamed (codes "rt_unbox")) (AndExpr (ENamed x) NoExpr)

-- all of these are registers
pub data AllRegisters : List Slot → Type 0 where
  NoSlot : AllRegisters []
  AndSlot : (v : Value) (slots : List Slot) → AllRegisters slots → AllRegisters (Register v ∷ slots)

-- slots with pointers to the blocks of these variables: those at a place are boxes, the others are registers
abbrev pub with_boxes : List (Option ℕ) → List Slot → List Slot → List Slot
with_boxes (Some i ∷ places) (Boxed b ∷ variables) slots = with_boxes places variables (slice_set slots i (Register (At Auto b 0)))
with_boxes (o ∷ places) (x ∷ variables) slots = with_boxes places variables slots
with_boxes _ _ slots = slots

-- the statements that make the boxes of these variables, the first of which is the n-th: each box has a pointer in a register of the piece,
-- of which there are so many; the frame with the arguments is in another. The box of a parameter is a struct that begins with a field of its type
pub data Boxing (p : Program) (f : Function) (q : Program) (scope : Scope) (count frame : ℕ) (tag e : Text) (cells : List Value) : ℕ → List Variable → List Value → List (Option ℕ) → List Stmt → Type 0 where
  NoBoxing : (n : ℕ) (vs : List Value) → Boxing p f q scope count frame tag e cells n [] vs [] []
  PassRegister : (n m : ℕ) (x : Variable) (xs : List Variable) (vs : List Value) (places : List (Option ℕ)) (ss : List Stmt) → is_register f n x ≡ true → size p x.type ≡ Some m
      → Boxing p f q scope count frame tag e cells (suc n) xs (rest_of vs) places ss → Boxing p f q scope count frame tag e cells n (x ∷ xs) vs (None ∷ places) ss
  BoxLocal : (n m i : ℕ) (x : Variable) (xs : List Variable) (vs : List Value) (places : List (Option ℕ)) (ss : List Stmt) (y : Text) (t : Ty) (amount : Expr) → is_register f n x ≡ false → size p x.type ≡ Some m → m < 2 ^ 63
      → named q scope y ≡ ALocal i (TyPointer t) → i < count → ¬ (i ≡ frame) → ((slots : List Slot) (s : Store) → value (at q scope slots s) amount ≡ Gives (Whole ULong (pos m))) → first_or Unset vs ≡ Unset
      → Boxing p f q scope count frame tag e cells (suc n) xs (rest_of vs) places ss → Boxing p f q scope count frame tag e cells n (x ∷ xs) vs (Some i ∷ places) (boxes_one y amount ∷ ss)
  BoxParameter : (n m i j : ℕ) (x : Variable) (xs : List Variable) (v : Value) (vs : List Value) (places : List (Option ℕ)) (ss : List Stmt) (y a box z : Text) (t : Ty) (amount : Expr) → is_register f n x ≡ false → size p x.type ≡ Some (suc m) → suc m < 2 ^ 63
      → named q scope y ≡ ALocal i (TyPointer (TyStruct box)) → field q box a ≡ Some (0, t) → i < count → ¬ (i ≡ frame) → ((slots : List Slot) (s : Store) → value (at q scope slots s) amount ≡ Gives (Whole ULong (pos (suc m))))
      → field q tag z ≡ Some (j, t) → is_scalar t ≡ true → slice_get cells j ≡ Some v → Fits t v
      → Boxing p f q scope count frame tag e cells (suc n) xs vs places ss → Boxing p f q scope count frame tag e cells n (x ∷ xs) (v ∷ vs) (Some i ∷ places) (boxes_one y amount ∷ fills_box y a e z ∷ ss)

-- the slots of the call, and a walk that leads to its store and to pointers to its boxes
pub record Made (p : Program) (f : Function) (n : ℕ) (xs : List Variable) (vs : List Value) (places : List (Option ℕ)) (slots : List Slot) (s : Store) (Leads : List Slot → Store → Type 0) : Type 0 where
  pub made : List Slot
  pub store : Store
  pub is_made : make_slots p f n xs vs s ≡ Gives (made, store)
  pub leads : Leads (with_boxes places made slots) store

-- variables with pointers to the boxes among these slots, in order
pub data Unboxing (q : Program) (scope : Scope) (slots : List Slot) : List Slot → List Text → Type 0 where
  NoUnboxing : Unboxing q scope slots [] []
  PassSlot : (v : Value) (xs : List Slot) (ys : List Text) → Unboxing q scope slots xs ys → Unboxing q scope slots (Register v ∷ xs) ys
  AndUnbox : (b : ℕ) (xs : List Slot) (y : Text) (t : Ty) (ys : List Text) → Holds q scope slots y t (At Auto b 0) → Unboxing q scope slots xs ys → Unboxing q scope slots (Boxed b ∷ xs) (y ∷ ys)
