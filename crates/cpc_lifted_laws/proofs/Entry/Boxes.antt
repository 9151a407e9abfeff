-- The boxes of a call: which slots they are, and what the locals of the start hold when they are made.
use Rattle.std.proofs.Common.{◌≡◌, ℕ, zero, suc, ◌+◌, ◌≤◌, Bool, true, false, List, [], ◌∷◌, length, slice_get, slice_set, get_or, is_some, Option, Some, None, refl, sym, ◌∙◌, ap, subst, arith}
use Rattle.cpc_base.specs.Bytes.{Text}
use Rattle.cpc_tree.specs.Lists.{first_or, rest_of}
use Rattle.cpc_tree.specs.Registers.{is_register}
use Rattle.cpc_tree.specs.Syntax.{Stmt, Variable, Function, Program}
use Rattle.cpc_tree.specs.Typing.{Scope, size}
use Rattle.cpc_store.specs.declared.values.Class.TheVariants.{Auto}
use Rattle.cpc_store.specs.Store.{Value, Unset, At, Store, next_block}
use Rattle.cpc_meaning.specs.Answer.{Answer, Gives, Faults, NoAnswer, ◌>>=◌}
use Rattle.cpc_meaning.specs.Eval.{Slot, Register, Boxed}
use Rattle.cpc_meaning.specs.Slots.{make_slot, make_slots}
use Rattle.cpc_meaning.proofs.Stores.{get_set, get_other}
use Rattle.cpc_convert_flat_laws.specs.Boxes.{AllRegisters, with_boxes, Boxing, NoBoxing, PassRegister, BoxLocal, BoxParameter}
use Rattle.cpc_convert_flat_laws.specs.Blocks.{put}
use Rattle.cpc_convert_flat_laws.proofs.Boxes.{registers_set, slots_length}

-- ---- arguments

first_get : (vs : List Value) → first_or Unset vs ≡ get_or vs 0 Unset
first_get [] = refl
first_get (v ∷ vs) = refl

rest_get : (vs : List Value) (k : ℕ) → get_or (rest_of vs) k Unset ≡ get_or vs (suc k) Unset
rest_get [] k = refl
rest_get (v ∷ vs) k = refl

-- there is none beyond them
pub none_beyond : (vs : List Value) (k : ℕ) → length vs ≤ k → get_or vs k Unset ≡ Unset
none_beyond [] k h = refl
none_beyond (v ∷ vs) zero h = absurd (omega (arith, h))
none_beyond (v ∷ vs) (suc k) h = none_beyond vs k (omega (arith, h))

-- ---- the slots of a call

module _ (p : Program) (f : Function) where
  one_made : (n m : ℕ) (x : Variable) (xs : List Variable) (vs : List Value) (s : Store) (b : Bool) → size p x.type ≡ Some m → is_register f n x ≡ b
      → make_slots p f n (x ∷ xs) vs s ≡ (make_slots p f (suc n) xs (rest_of vs) (make_slot b m (first_or Unset vs) s).1 >>= λ r. Gives (put (make_slot b m (first_or Unset vs) s).0 r))
  one_made n m x xs vs s b is_size is_reg = simp (is_size, is_reg) refl

  -- a slot before others
  pub record Before (slot : Slot) (a : Answer (List Slot × Store)) (made : List Slot) (t : Store) : Type 0 where
    pub rest : List Slot
    pub gives : a ≡ Gives (rest, t)
    pub joined : made ≡ slot ∷ rest

  before : (slot : Slot) (a : Answer (List Slot × Store)) (made : List Slot) (t : Store) → (a >>= λ r. Gives (put slot r)) ≡ Gives (made, t) → Before slot a made t
  before slot (Gives r) made t e =
      let z : put slot r ≡ (made, t) = cc in
      record { rest = r.0; gives = ap (λ u. Gives (r.0, u)) (ap (λ (w : List Slot × Store). w.1) z); joined = sym (ap (λ (w : List Slot × Store). w.0) z) }
  before slot (Faults fault) made t e = absurd (cc)
  before slot NoAnswer made t e = absurd (cc)

  -- a register holds its argument and has no place; a box is a block, and has one
  pub data AtPlace (made : List Slot) (places : List (Option ℕ)) (vs : List Value) (k : ℕ) : (is_register : Bool) → Type 0 where
    PassedAt : slice_get places k ≡ Some None → slice_get made k ≡ Some (Register (get_or vs k Unset)) → AtPlace made places vs k true
    BoxedAt : (i b : ℕ) → slice_get places k ≡ Some (Some i) → slice_get made k ≡ Some (Boxed b) → AtPlace made places vs k false

  later_place : (slot : Slot) (o : Option ℕ) (rest made : List Slot) (places : List (Option ℕ)) (vs : List Value) (k : ℕ) (b : Bool) → made ≡ slot ∷ rest → AtPlace rest places (rest_of vs) k b → AtPlace made (o ∷ places) vs (suc k) b
  later_place slot o rest made places vs k _ e (PassedAt a c) = PassedAt a (ap (λ (xs : List Slot). slice_get xs (suc k)) e ∙ (c ∙ ap (λ v. Some (Register v)) (rest_get vs k)))
  later_place slot o rest made places vs k _ e (BoxedAt i b a c) = BoxedAt i b a (ap (λ (xs : List Slot). slice_get xs (suc k)) e ∙ c)

  -- what is known of the slots behind one
  abbrev Behind : (n : ℕ) (xs : List Variable) (vs : List Value) (places : List (Option ℕ)) (t : Store) → Answer (List Slot × Store) → Type 0
  Behind n xs vs places t a = (rest : List Slot) → a ≡ Gives (rest, t) → (k : ℕ) (x : Variable) → slice_get xs k ≡ Some x → (m : ℕ) → m ≡ n + k → AtPlace rest places vs k (is_register f m x)

  same_mark : (n : ℕ) (x y : Variable) (b : Bool) → is_register f n x ≡ b → Some x ≡ Some y → (m : ℕ) → m ≡ n + 0 → is_register f m y ≡ b
  same_mark n x y b e g m i = let same : x ≡ y = cc in ap (λ j. is_register f j y) (let z : m ≡ n = omega (arith, i) in z) ∙ (ap (is_register f n) (sym same) ∙ e)

  with_register : (n : ℕ) (x : Variable) (xs : List Variable) (vs : List Value) (places : List (Option ℕ)) (made : List Slot) (t : Store) (a : Answer (List Slot × Store)) → is_register f n x ≡ true → Before (Register (first_or Unset vs)) a made t
      → Behind (suc n) xs (rest_of vs) places t a → (k : ℕ) (y : Variable) → slice_get (x ∷ xs) k ≡ Some y → (m : ℕ) → m ≡ n + k → AtPlace made (None ∷ places) vs k (is_register f m y)
  with_register n x xs vs places made t a is b deeper zero y e m i =
      subst (AtPlace made (None ∷ places) vs 0) (sym (same_mark n x y true is e m i)) (PassedAt refl (ap (λ (us : List Slot). slice_get us 0) b.joined ∙ ap (λ v. Some (Register v)) (first_get vs)))
  with_register n x xs vs places made t a is b deeper (suc k) y e m i = later_place _ None b.rest made places vs k _ b.joined (deeper b.rest b.gives k y e m (let z : m ≡ suc n + k = omega (arith, i) in z))

  with_box : (n : ℕ) (x : Variable) (xs : List Variable) (vs : List Value) (places : List (Option ℕ)) (made : List Slot) (t : Store) (a : Answer (List Slot × Store)) (j c : ℕ) → is_register f n x ≡ false → Before (Boxed c) a made t
      → Behind (suc n) xs (rest_of vs) places t a → (k : ℕ) (y : Variable) → slice_get (x ∷ xs) k ≡ Some y → (m : ℕ) → m ≡ n + k → AtPlace made (Some j ∷ places) vs k (is_register f m y)
  with_box n x xs vs places made t a j c is b deeper zero y e m i = subst (AtPlace made (Some j ∷ places) vs 0) (sym (same_mark n x y false is e m i)) (BoxedAt j c refl (ap (λ (us : List Slot). slice_get us 0) b.joined))
  with_box n x xs vs places made t a j c is b deeper (suc k) y e m i = later_place _ (Some j) b.rest made places vs k _ b.joined (deeper b.rest b.gives k y e m (let z : m ≡ suc n + k = omega (arith, i) in z))

  module _ (q : Program) (scope : Scope) (count frame : ℕ) (tag e : Text) (cells : List Value) where
    pub places_number : (n : ℕ) (xs : List Variable) (vs : List Value) (places : List (Option ℕ)) (ss : List Stmt) → Boxing p f q scope count frame tag e cells n xs vs places ss → length places ≡ length xs
    places_number _ _ _ _ _ (NoBoxing n vs) = refl
    places_number _ _ _ _ _ (PassRegister n m x xs vs places ss a b more) = ap suc (places_number (suc n) xs (rest_of vs) places ss more)
    places_number _ _ _ _ _ (BoxLocal n m i x xs vs places ss y t amount a b c d g h j k more) = ap suc (places_number (suc n) xs (rest_of vs) places ss more)
    places_number _ _ _ _ _ (BoxParameter n m i j x xs v vs places ss y a box z t amount b c d g h k l o r u w aa more) = ap suc (places_number (suc n) xs vs places ss more)

    pub places_at : (n : ℕ) (xs : List Variable) (vs : List Value) (places : List (Option ℕ)) (ss : List Stmt) → Boxing p f q scope count frame tag e cells n xs vs places ss → (s : Store) (made : List Slot) (t : Store) → make_slots p f n xs vs s ≡ Gives (made, t)
        → (k : ℕ) (x : Variable) → slice_get xs k ≡ Some x → (m : ℕ) → m ≡ n + k → AtPlace made places vs k (is_register f m x)
    places_at _ _ _ _ _ (NoBoxing n vs) s made t is = λ k x g m i. absurd (cc)
    places_at _ _ _ _ _ (PassRegister n c x xs vs places ss is_reg is_size more) s made t is =
        with_register n x xs vs places made t _ is_reg (before (Register (first_or Unset vs)) (make_slots p f (suc n) xs (rest_of vs) s) made t (sym (one_made n c x xs vs s true is_size is_reg) ∙ is))
        (λ rest g. places_at (suc n) xs (rest_of vs) places ss more s rest t g)
    places_at _ _ _ _ _ (BoxLocal n c i x xs vs places ss y u amount no_reg is_size is_small is_y inside other is_amount unset more) s made t is =
        with_box n x xs vs places made t _ i (next_block Auto s) no_reg (before (Boxed (next_block Auto s)) (make_slots p f (suc n) xs (rest_of vs) (make_slot false c (first_or Unset vs) s).1) made t (sym (one_made n c x xs vs s false is_size no_reg) ∙ is))
        (λ rest g. places_at (suc n) xs (rest_of vs) places ss more (make_slot false c (first_or Unset vs) s).1 rest t g)
    places_at _ _ _ _ _ (BoxParameter n c i j x xs v vs places ss y a box z u amount no_reg is_size is_small is_y is_first inside other is_amount is_field sc is_cell fits more) s made t is =
        with_box n x xs (v ∷ vs) places made t _ i (next_block Auto s) no_reg (before (Boxed (next_block Auto s)) (make_slots p f (suc n) xs vs (make_slot false (suc c) v s).1) made t (sym (one_made n (suc c) x xs (v ∷ vs) s false is_size no_reg) ∙ is))
        (λ rest g. places_at (suc n) xs vs places ss more (make_slot false (suc c) v s).1 rest t g)

-- ---- locals

-- a local that is no box's stays
pub boxes_other : (places : List (Option ℕ)) (made slots : List Slot) (j : ℕ) → ((k : ℕ) → slice_get places k ≡ Some (Some j) → ⊥) → slice_get (with_boxes places made slots) j ≡ slice_get slots j
boxes_other [] made slots j h = refl
boxes_other (None ∷ places) [] slots j h = refl
boxes_other (None ∷ places) (x ∷ made) slots j h = boxes_other places made slots j (λ k. h (suc k))
boxes_other (Some i ∷ places) [] slots j h = refl
boxes_other (Some i ∷ places) (Register v ∷ made) slots j h = boxes_other places made slots j (λ k. h (suc k))
boxes_other (Some i ∷ places) (Boxed b ∷ made) slots j h =
    boxes_other places made (slice_set slots i (Register (At Auto b 0))) j (λ k. h (suc k)) ∙ get_other slots i j (Register (At Auto b 0)) (λ e. h 0 (ap (λ m. Some (Some m)) e))

set_some : (slots : List Slot) (n i : ℕ) (x : Slot) → is_some (slice_get slots i) ≡ true → is_some (slice_get (slice_set slots n x) i) ≡ true
set_some [] n i x e = e
set_some (y ∷ slots) zero zero x e = refl
set_some (y ∷ slots) zero (suc i) x e = e
set_some (y ∷ slots) (suc n) zero x e = refl
set_some (y ∷ slots) (suc n) (suc i) x e = set_some slots n i x e

no_zero : (k : ℕ) → suc k ≡ 0 → ⊥
no_zero k e = absurd (omega (arith, e))

-- that of a box, which is in its place alone, has the pointer to it
pub boxes_at : (places : List (Option ℕ)) (made slots : List Slot) (k i b : ℕ) → slice_get places k ≡ Some (Some i) → slice_get made k ≡ Some (Boxed b) → ((j : ℕ) → slice_get places j ≡ Some (Some i) → j ≡ k) → is_some (slice_get slots i) ≡ true
    → slice_get (with_boxes places made slots) i ≡ Some (Register (At Auto b 0))
boxes_at [] made slots k i b e g one inside = absurd (cc)
boxes_at (o ∷ places) [] slots k i b e g one inside = absurd (cc)
boxes_at (None ∷ places) (x ∷ made) slots zero i b e g one inside = absurd (cc)
boxes_at (None ∷ places) (x ∷ made) slots (suc k) i b e g one inside = boxes_at places made slots k i b e g (λ j h. let z = one (suc j) h in omega (arith, z)) inside
boxes_at (Some n ∷ places) (Register v ∷ made) slots zero i b e g one inside = absurd (cc)
boxes_at (Some n ∷ places) (Register v ∷ made) slots (suc k) i b e g one inside = boxes_at places made slots k i b e g (λ j h. let z = one (suc j) h in omega (arith, z)) inside
boxes_at (Some n ∷ places) (Boxed c ∷ made) slots zero i b e g one inside =
    let same : n ≡ i = cc in
    let block : c ≡ b = cc in
    boxes_other places made (slice_set slots n (Register (At Auto c 0))) i (λ k h. no_zero k (one (suc k) h))
    ∙ (ap (λ m. slice_get (slice_set slots m (Register (At Auto c 0))) i) same ∙ (get_set slots i (Register (At Auto c 0)) inside ∙ ap (λ m. Some (Register (At Auto m 0))) block))
boxes_at (Some n ∷ places) (Boxed c ∷ made) slots (suc k) i b e g one inside =
    boxes_at places made (slice_set slots n (Register (At Auto c 0))) k i b e g (λ j h. let z = one (suc j) h in omega (arith, z)) (set_some slots n i (Register (At Auto c 0)) inside)

pub boxes_registers : (places : List (Option ℕ)) (made slots : List Slot) → AllRegisters slots → AllRegisters (with_boxes places made slots)
boxes_registers [] made slots h = h
boxes_registers (None ∷ places) [] slots h = h
boxes_registers (None ∷ places) (x ∷ made) slots h = boxes_registers places made slots h
boxes_registers (Some i ∷ places) [] slots h = h
boxes_registers (Some i ∷ places) (Register v ∷ made) slots h = boxes_registers places made slots h
boxes_registers (Some i ∷ places) (Boxed b ∷ made) slots h = boxes_registers places made (slice_set slots i (Register (At Auto b 0))) (registers_set slots i (At Auto b 0) h)

pub boxes_number : (places : List (Option ℕ)) (made slots : List Slot) → length (with_boxes places made slots) ≡ length slots
boxes_number [] made slots = refl
boxes_number (None ∷ places) [] slots = refl
boxes_number (None ∷ places) (x ∷ made) slots = boxes_number places made slots
boxes_number (Some i ∷ places) [] slots = refl
boxes_number (Some i ∷ places) (Register v ∷ made) slots = boxes_number places made slots
boxes_number (Some i ∷ places) (Boxed b ∷ made) slots = boxes_number places made (slice_set slots i (Register (At Auto b 0))) ∙ slots_length slots i (Register (At Auto b 0))
