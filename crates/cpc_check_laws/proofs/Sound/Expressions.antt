-- An expression that has a type has a value that suits it, or a fault.
use Rattle.std.proofs.Common.{◌≡◌, ℕ, ℤ, pos, Bool, true, false, List, ◌++◌, slice_get, Option, Some, None, Result, Ok, Err, refl, sym, ◌∙◌, ap, subst}
use Rattle.cpc_base.specs.Bytes.{Text}
use Rattle.cpc_base.proofs.Truth.{by_false_true}
use Rattle.cpc_base.proofs.Lists.{some_is}
use Rattle.cpc_num.specs.declared.kinds.Kind.{Kind}
use Rattle.cpc_num.specs.declared.kinds.Kind.TheVariants.{Int, ULong}
use Rattle.cpc_num.specs.declared.kinds.Fault.{Fault}
use Rattle.cpc_num.specs.Number.{promoted, convert, negate}
use Rattle.cpc_num.specs.declared.kinds.Op.{Op}
use Rattle.cpc_num.specs.declared.kinds.Op.TheVariants.{Add}
use Rattle.cpc_tree.specs.Syntax.{Ty, TyVoid, TyInt, TyCondvar, TyPointer, TyCode, TyStruct, TyArray, Expr, ENamed, EInteger, ECharacter, EText, EUnary, EBinary, EAnd, EOr, EChoose, ECast, ESizeOf, EIndex, EMember, EArrow, ECall, Program}
use Rattle.cpc_tree.specs.declared.program.Mode.TheVariants.{Extern, Native, Cps, Detached}
use Rattle.cpc_tree.specs.declared.program.UnaryOp.{UnaryOp}
use Rattle.cpc_tree.specs.declared.program.UnaryOp.TheVariants.{Minus, Plus, Not, Complement, Dereference, AddressOf}
use Rattle.cpc_tree.specs.Typing.{Meant, ALocal, AGlobal, AFunction, NotMeant, named, field, size, typing, type_named, Typed, AValue, APlace, used, typed_place, integer, target, struct_tag, field_type, is_scalar, is_testable, is_null, choice_type, cast_type, pointer_type, address_type, unary_type, sign_type, tested_type, binary_type, sum_type}
use Rattle.cpc_tree.specs.Registers.{addresses, slot_of}
use Rattle.cpc_tree.proofs.Options.{then_some}
use Rattle.cpc_store.specs.declared.values.Class.{Class}
use Rattle.cpc_store.specs.declared.values.Class.TheVariants.{Static, Auto}
use Rattle.cpc_store.specs.declared.values.Scalar.TheVariants as S
use Rattle.cpc_store.specs.Store.{Value, Unset, Whole, Null, At, Code, Store}
use Rattle.cpc_meaning.specs.Answer.{Answer, Gives, ◌>>=◌}
use Rattle.cpc_meaning.specs.Eval.{Slot, Register, Boxed, Context, Spot, InSlot, InCell, and_then, place, value, address, place_type, used_type, field_spot, value_named, address_named, spot_named, slot_spot, slot_value, read, pointed, pointer_to, pointed_type, moved, operate, apply, number, holds, tested, and_also, or_else, chosen, at_type}
use Rattle.cpc_check_laws.specs.Sound.Promises.{ExpressionsAnswer}
use Rattle.cpc_check_laws.specs.Sound.Suits.{Comes, Suits, converts, SuitsSome, SuitSlots, ScopeOf, IsBoxed, AllBoxed, SuitsSpot}
use Rattle.cpc_check_laws.proofs.Sound.Answers.{no_some, comes_then, comes_as, comes_needed, if_some}
use Rattle.cpc_check_laws.proofs.Sound.Operators.{moved_comes}
use Rattle.cpc_check_laws.proofs.Sound.Conversions.{holds_comes, cast_comes, load_comes}
use Rattle.cpc_check_laws.proofs.Sound.Binary.{binary_comes, sum_comes}
use Rattle.cpc_check_laws.proofs.Sound.Scalars.{testable_scalar, integer_is, target_is, null_int, binary_scalars, sum_scalars, choice_arms, cast_is}
use Rattle.cpc_check_laws.proofs.Sound.Lookups.{local_is, slot_suits, boxed_left, boxed_right}

-- ---- types

-- what is used, where the type is told
used_as : (x d : Typed) (t : Ty) → Some x ≡ Some d → used d ≡ Some t → used x ≡ Some t
used_as x d t h e = ap (λ o. and_then o used) h ∙ e

-- an answer at the type of an expression
as_value : (r : Ty) (d : Typed) (t : Ty) (a : Answer Value) → Some (AValue r) ≡ Some d → used d ≡ Some t → Comes (Suits r) a → Comes (Suits t) a
as_value r d t a h e k = subst (λ t. Comes (Suits t) a) (some_is r t (used_as (AValue r) d t h e)) k

place_is : (d : Typed) (t : Ty) → typed_place d ≡ Some t → d ≡ APlace t
place_is (APlace u) t e = ap (λ t. APlace t) (some_is u t e)
place_is (AValue u) t e = no_some t e

pub sign_some : (sign : UnaryOp) (o : Option Typed) (d : Typed) → sign_type sign o ≡ Some d → (x : Typed) × (o ≡ Some x) × (unary_type sign x ≡ Some d)
sign_some sign None d e = no_some d e
sign_some sign (Some x) d e = (x, refl, e)

-- the operand of a sign is an integer
integer_sign : (x d : Typed) → unary_type Minus x ≡ Some d → (k : Kind) × (used x ≡ Some (TyInt k)) × (Some (AValue (TyInt (promoted k))) ≡ Some d)
integer_sign x d h =
    let a = then_some (used x) _ d h in
    let b = then_some (integer a.0) _ d a.2 in
    (b.0, a.1 ∙ ap (λ t. Some t) (integer_is a.0 b.0 b.1), b.2)

address_no_place : {A : Type 0} (d : Typed) (t : Ty) → Some (address_type d) ≡ Some (APlace t) → A
address_no_place (APlace u) t e = absurd (cc)
address_no_place (AValue u) t e = absurd (cc)

no_place : {A : Type 0} (r t : Ty) → Some (AValue r) ≡ Some (APlace t) → A
no_place r t e = absurd (cc)

-- ---- places

abbrev IsCell : Spot → Type 0
IsCell (InCell c n k) = Unit {0}
IsCell (InSlot k) = ⊥

pointed_comes : (t : Ty) (v : Value) → Suits (TyPointer t) v → Comes IsCell (pointed v)
pointed_comes t Unset h = tt
pointed_comes t Null h = tt
pointed_comes t (At c n k) h = tt
pointed_comes t _ h = absurd h

pointer_suits : (t : Ty) (c : Class) (n k : ℕ) → Suits (pointer_type t) (At c n k)
pointer_suits (TyArray t m) c n k = tt
pointer_suits TyVoid c n k = tt
pointer_suits (TyInt kind) c n k = tt
pointer_suits TyCondvar c n k = tt
pointer_suits (TyPointer t) c n k = tt
pointer_suits (TyCode r ps) c n k = tt
pointer_suits (TyStruct tag) c n k = tt

cell_pointer : (t : Ty) (spot : Spot) → IsCell spot → Comes (Suits (pointer_type t)) (pointer_to spot)
cell_pointer t (InCell c n k) h = pointer_suits t c n k
cell_pointer t (InSlot k) h = absurd h

cell_at : (t : Ty) (spot : Spot) → IsCell spot → Comes (Suits (TyPointer t)) (pointer_to spot)
cell_at t (InCell c n k) h = tt
cell_at t (InSlot k) h = absurd h

-- a field of a struct at a pointer
field_comes : (p : Program) (s : Store) (o : Option Ty) (t : Ty) (tag x : Text) (f : ℕ × Ty) (v : Value) → o ≡ Some t → struct_tag t ≡ Some tag → field p tag x ≡ Some f → Suits (TyPointer t) v → Comes IsCell (field_spot p s o x v)
field_comes p s o t tag x f v e g h k =
    comes_needed IsCell o t _ e
    (comes_needed IsCell (struct_tag t) tag _ g
    (comes_needed IsCell (field p tag x) f _ h
    (comes_then (Suits (TyPointer t)) IsCell (moved s v (pos f.0)) pointed (moved_comes t s v (pos f.0) k) (pointed_comes t))))

struct_spot : (ts : List Ty) (slots : List Slot) (t : Ty) (tag : Text) (spot : Spot) → struct_tag t ≡ Some tag → SuitsSpot ts slots t spot → IsCell spot
struct_spot ts slots t tag (InCell c n k) e h = tt
struct_spot ts slots (TyStruct tag) u (InSlot k) e h = by_false_true h.2
struct_spot ts slots _ u (InSlot k) e h = no_some u e

-- the value of a place that is used as a value
read_comes : (ts : List Ty) (slots : List Slot) (s : Store) (t u : Ty) (spot : Spot) → used (APlace t) ≡ Some u → is_scalar u ≡ true → SuitsSpot ts slots t spot → Comes (Suits u) (read slots s (Some t) spot)
read_comes ts slots s (TyArray t m) u (InCell c n k) e sc h = subst (λ u. Suits u (At c n k)) (some_is (TyPointer t) u e) tt
read_comes ts slots s (TyArray t m) u (InSlot k) e sc h = by_false_true h.2
read_comes ts slots s (TyStruct tag) u spot e sc h = no_some u e
read_comes ts slots s TyVoid u spot e sc h = by_false_true (ap is_scalar (some_is TyVoid u e) ∙ sc)
read_comes ts slots s (TyInt kind) u (InCell c n k) e sc h = subst (λ u. Comes (Suits u) (read slots s (Some (TyInt kind)) (InCell c n k))) (some_is (TyInt kind) u e) (load_comes (TyInt kind) (S.Int kind) c n k s refl)
read_comes ts slots s TyCondvar u (InCell c n k) e sc h = subst (λ u. Comes (Suits u) (read slots s (Some TyCondvar) (InCell c n k))) (some_is TyCondvar u e) (load_comes TyCondvar S.Cond c n k s refl)
read_comes ts slots s (TyPointer t) u (InCell c n k) e sc h = subst (λ u. Comes (Suits u) (read slots s (Some (TyPointer t)) (InCell c n k))) (some_is (TyPointer t) u e) (load_comes (TyPointer t) S.Pointer c n k s refl)
read_comes ts slots s (TyCode r ps) u (InCell c n k) e sc h = subst (λ u. Comes (Suits u) (read slots s (Some (TyCode r ps)) (InCell c n k))) (some_is (TyCode r ps) u e) (load_comes (TyCode r ps) S.Code c n k s refl)
read_comes ts slots s (TyInt kind) u (InSlot k) e sc h = subst (λ o. Comes (Suits u) (slot_value o)) (sym h.1) (subst (λ u. Suits u h.0) (some_is (TyInt kind) u e) h.3)
read_comes ts slots s TyCondvar u (InSlot k) e sc h = subst (λ o. Comes (Suits u) (slot_value o)) (sym h.1) (subst (λ u. Suits u h.0) (some_is TyCondvar u e) h.3)
read_comes ts slots s (TyPointer t) u (InSlot k) e sc h = subst (λ o. Comes (Suits u) (slot_value o)) (sym h.1) (subst (λ u. Suits u h.0) (some_is (TyPointer t) u e) h.3)
read_comes ts slots s (TyCode r ps) u (InSlot k) e sc h = subst (λ o. Comes (Suits u) (slot_value o)) (sym h.1) (subst (λ u. Suits u h.0) (some_is (TyCode r ps) u e) h.3)

-- the same, where the type is told
read_as : (ts : List Ty) (slots : List Slot) (s : Store) (o : Option Ty) (t u : Ty) (spot : Spot) → o ≡ Some t → used (APlace t) ≡ Some u → is_scalar u ≡ true → SuitsSpot ts slots t spot → Comes (Suits u) (read slots s o spot)
read_as ts slots s o t u spot e f sc h = subst (λ o. Comes (Suits u) (read slots s o spot)) (sym e) (read_comes ts slots s t u spot f sc h)

cell_suits : (ts : List Ty) (slots : List Slot) (t : Ty) (spot : Spot) → IsCell spot → SuitsSpot ts slots t spot
cell_suits ts slots t (InCell c n k) h = tt
cell_suits ts slots t (InSlot k) h = absurd h

-- ---- signs

minus_comes : (k : Kind) (v : Value) → Suits (TyInt k) v → Comes (Suits (TyInt (promoted k))) (apply Minus v)
minus_comes k Unset h = tt
minus_comes k (Whole j z) h = go (negate (promoted j) (convert (promoted j) z))
  where
    go : (r : Result ℤ Fault) → Comes (Suits (TyInt (promoted k))) (number (promoted j) r)
    go (Ok y) = ap promoted h
    go (Err fault) = tt
minus_comes k _ h = absurd h

plus_comes : (k : Kind) (v : Value) → Suits (TyInt k) v → Comes (Suits (TyInt (promoted k))) (apply Plus v)
plus_comes k Unset h = tt
plus_comes k (Whole j z) h = ap promoted h
plus_comes k _ h = absurd h

complement_comes : (k : Kind) (v : Value) → Suits (TyInt k) v → Comes (Suits (TyInt (promoted k))) (apply Complement v)
complement_comes k Unset h = tt
complement_comes k (Whole j z) h = ap promoted h
complement_comes k _ h = absurd h

-- a test, as an int
tested_comes : (t : Ty) (a : Answer Value) → is_testable t ≡ true → Comes (Suits t) a → Comes (Suits (TyInt Int)) (tested a)
tested_comes t a e h = comes_then (Suits t) (Suits (TyInt Int)) a _ h λ v k. comes_then (λ b. Unit {0}) (Suits (TyInt Int)) (holds v) _ (holds_comes t v e k) (λ x l. refl)

also_comes : (b : Bool) (t : Ty) (a : Answer Value) → is_testable t ≡ true → Comes (Suits t) a → Comes (Suits (TyInt Int)) (and_also b a)
also_comes true t a e h = tested_comes t a e h
also_comes false t a e h = refl

else_comes : (b : Bool) (t : Ty) (a : Answer Value) → is_testable t ≡ true → Comes (Suits t) a → Comes (Suits (TyInt Int)) (or_else b a)
else_comes true t a e h = refl
else_comes false t a e h = tested_comes t a e h

-- one of two arms, at the type of the whole
arms_come : (b : Bool) (r t u : Ty) (x y : Answer Value) → converts r t ≡ true → converts r u ≡ true → Comes (Suits t) x → Comes (Suits u) y → Comes (Suits r) (chosen b x y >>= at_type r)
arms_come true r t u x y e f h k = comes_then (Suits t) (Suits r) x (at_type r) h (λ w i. cast_comes r t w e i)
arms_come false r t u x y e f h k = comes_then (Suits u) (Suits r) y (at_type r) k (λ w i. cast_comes r u w f i)

-- what is told of a test
pub tested_is : (o : Option Typed) (t : Ty) → tested_type o ≡ Some t → (d : Typed) × (o ≡ Some d) × (used d ≡ Some t) × (is_testable t ≡ true)
tested_is o t e =
    let a = then_some o _ t e in
    let b = then_some (used a.0) _ t a.2 in
    let c = if_some (is_testable b.0) b.0 t b.2 in
    (a.0, a.1, b.1 ∙ ap (λ t. Some t) c.1, subst (λ t. is_testable t ≡ true) c.1 c.0)

-- ---- expressions in a frame

module _ (c : Context) (ts : List Ty) (in_scope : ScopeOf ts c.scope) (in_slots : SuitSlots ts c.slots) where
  abbrev typed_as : Expr → Typed → Type 0
  typed_as e d = typing c.program c.scope e ≡ Some d

  abbrev boxes : Expr → Type 0
  boxes e = AllBoxed c.slots (addresses c.scope e)

  place_type_is : (e : Expr) (t : Ty) → typed_as e (APlace t) → place_type c e ≡ Some t
  place_type_is e t h = ap (λ o. and_then o typed_place) h

  used_type_is : (e : Expr) (d : Typed) (t : Ty) → typed_as e d → used d ≡ Some t → used_type c e ≡ Some t
  used_type_is e d t h k = ap (λ o. and_then o used) h ∙ k

  -- ---- names

  slot_comes : (k : ℕ) (t : Ty) → slice_get ts k ≡ Some t → Comes (SuitsSpot ts c.slots t) (slot_spot k (slice_get c.slots k))
  slot_comes k t e = go (slice_get c.slots k) refl (slot_suits ts c.slots k t in_slots e)
    where
      go : (o : Option Slot) → slice_get c.slots k ≡ o → SuitsSome t o → Comes (SuitsSpot ts c.slots t) (slot_spot k o)
      go None f h = absurd h
      go (Some (Register v)) f h = (v, f, h.0, h.1, e)
      go (Some (Boxed n)) f h = tt

  boxed_comes : (k : ℕ) (t : Ty) (o : Option Slot) → SuitsSome t o → IsBoxed o → Comes (Suits (pointer_type t)) (address (slot_spot k o))
  boxed_comes k t None g h = absurd g
  boxed_comes k t (Some (Register v)) g h = absurd h
  boxed_comes k t (Some (Boxed n)) g h = pointer_suits t Auto n 0

  -- where a variable is
  spot_comes : (x : Text) (t : Ty) (m : Meant) → named c.program c.scope x ≡ m → type_named m ≡ Some (APlace t) → Comes (SuitsSpot ts c.slots t) (spot_named c.slots m)
  spot_comes x t (ALocal k u) e h =
      let f : u ≡ t = cc in
      subst (λ t. Comes (SuitsSpot ts c.slots t) (slot_spot k (slice_get c.slots k))) f (slot_comes k u (local_is ts c.program c.scope x k u in_scope e).0)
  spot_comes x t (AGlobal n u) e h = tt
  spot_comes x t (AFunction Native r ps) e h = absurd (cc)
  spot_comes x t (AFunction Detached r ps) e h = absurd (cc)
  spot_comes x t (AFunction Extern r ps) e h = absurd (cc)
  spot_comes x t (AFunction Cps r ps) e h = absurd (cc)
  spot_comes x t NotMeant e h = absurd (cc)

  -- the value of a name
  name_comes : (x : Text) (d : Typed) (t : Ty) (m : Meant) → named c.program c.scope x ≡ m → type_named m ≡ Some d → used d ≡ Some t → is_scalar t ≡ true → Comes (Suits t) (value_named c.slots c.store x m)
  name_comes x d t (ALocal k u) e h f sc =
      comes_then (SuitsSpot ts c.slots u) (Suits t) (spot_named c.slots (ALocal k u)) _ (spot_comes x u (ALocal k u) e refl) λ spot g. read_comes ts c.slots c.store u t spot (used_as (APlace u) d t h f) sc g
  name_comes x d t (AGlobal n u) e h f sc = read_comes ts c.slots c.store u t (InCell Static n 0) (used_as (APlace u) d t h f) sc tt
  name_comes x d t (AFunction Native r ps) e h f sc = as_value _ d t (Gives (Code x)) h f tt
  name_comes x d t (AFunction Detached r ps) e h f sc = as_value _ d t (Gives (Code x)) h f tt
  name_comes x d t (AFunction Extern r ps) e h f sc = no_some d h
  name_comes x d t (AFunction Cps r ps) e h f sc = no_some d h
  name_comes x d t NotMeant e h f sc = no_some d h

  -- the address of a name
  address_comes : (x : Text) (d : Typed) (t : Ty) (m : Meant) → AllBoxed c.slots (slot_of c.scope x) → named c.program c.scope x ≡ m → type_named m ≡ Some d → used (address_type d) ≡ Some t
      → Comes (Suits t) (address_named c.slots x m)
  address_comes x d t (ALocal k u) b e h f =
      let i = subst (AllBoxed c.slots) (local_is ts c.program c.scope x k u in_scope e).1 b in
      as_value (pointer_type u) (address_type d) t _ (ap (λ o. and_then o (λ d. Some (address_type d))) h) f (boxed_comes k u (slice_get c.slots k) (slot_suits ts c.slots k u in_slots (local_is ts c.program c.scope x k u in_scope e).0) i.0)
  address_comes x d t (AGlobal n u) b e h f = as_value (pointer_type u) (address_type d) t (Gives (At Static n 0)) (ap (λ o. and_then o (λ d. Some (address_type d))) h) f (pointer_suits u Static n 0)
  address_comes x d t (AFunction Native r ps) b e h f = as_value _ (address_type d) t (Gives (Code x)) (ap (λ o. and_then o (λ d. Some (address_type d))) h) f tt
  address_comes x d t (AFunction Detached r ps) b e h f = as_value _ (address_type d) t (Gives (Code x)) (ap (λ o. and_then o (λ d. Some (address_type d))) h) f tt
  address_comes x d t (AFunction Extern r ps) b e h f = no_some d h
  address_comes x d t (AFunction Cps r ps) b e h f = no_some d h
  address_comes x d t NotMeant b e h f = no_some d h

  -- ---- places

  -- the places that are no names
  abbrev SpotOf : Expr → Ty → Spot → Type 0
  SpotOf (ENamed x) t spot = SuitsSpot ts c.slots t spot
  SpotOf _ t spot = IsCell spot

  of_place : (e : Expr) (t : Ty) (spot : Spot) → SpotOf e t spot → SuitsSpot ts c.slots t spot
  of_place (ENamed x) t spot h = h
  of_place _ t spot h = cell_suits ts c.slots t spot h

  -- the address of a cell
  address_of : (t : Ty) (a : Answer Spot) → Comes IsCell a → Comes (Suits (pointer_type t)) (address a)
  address_of t a h = comes_then IsCell (Suits (pointer_type t)) a pointer_to h (cell_pointer t)

  -- an element of an array
  sum_pointer : (a i : Expr) (t u r w : Ty) (x y : Value) → used_type c a ≡ Some t → used_type c i ≡ Some u → sum_type c.program t u ≡ Some r → target r ≡ Some w → Suits t x → Suits u y
      → Comes (Suits (TyPointer w)) (operate c.program c.store Add (used_type c a) (used_type c i) x y)
  sum_pointer a i t u r w x y is_a is_i e g h k =
      subst (λ o. Comes (Suits (TyPointer w)) (operate c.program c.store Add o (used_type c i) x y)) (sym is_a)
      (subst (λ o. Comes (Suits (TyPointer w)) (operate c.program c.store Add (Some t) o x y)) (sym is_i)
      (subst (λ r. Comes (Suits r) (operate c.program c.store Add (Some t) (Some u) x y)) (target_is r w g) (sum_comes c.program c.store t u r x y e h k)))

  -- what is known of an element
  pub record Element (a i : Expr) (d : Typed) : Type 0 where
    pub operand : Typed
    pub operand_type : Ty
    pub index : Typed
    pub index_type : Ty
    pub sum : Ty
    pub element : Ty
    pub is_operand : typed_as a operand
    pub is_operand_type : used operand ≡ Some operand_type
    pub is_index : typed_as i index
    pub is_index_type : used index ≡ Some index_type
    pub is_sum : sum_type c.program operand_type index_type ≡ Some sum
    pub is_element : target sum ≡ Some element
    pub is_place : Some (APlace element) ≡ Some d

  element_of : (a i : Expr) (d : Typed) → typed_as (EIndex a i) d → Element a i d
  element_of a i d h =
      let k = then_some (typing c.program c.scope a) _ d h in
      let l = then_some (used k.0) _ d k.2 in
      let m = then_some (typing c.program c.scope i) _ d l.2 in
      let n = then_some (used m.0) _ d m.2 in
      let r = then_some (sum_type c.program l.0 n.0) _ d n.2 in
      let w = then_some (target r.0) _ d r.2 in
      record {
        operand = k.0;
        operand_type = l.0;
        index = m.0;
        index_type = n.0;
        sum = r.0;
        element = w.0;
        is_operand = k.1;
        is_operand_type = l.1;
        is_index = m.1;
        is_index_type = n.1;
        is_sum = r.1;
        is_element = w.1;
        is_place = w.2;
      }

  -- what is known of a field
  pub record FieldOf (o : Option Ty) (x : Text) (d : Typed) : Type 0 where
    pub struct : Ty
    pub tag : Text
    pub found : ℕ × Ty
    pub is_struct : o ≡ Some struct
    pub is_tag : struct_tag struct ≡ Some tag
    pub is_found : field c.program tag x ≡ Some found
    pub is_place : Some (APlace found.1) ≡ Some d

  field_of : (o : Option Ty) (x : Text) (d : Typed) → field_type c.program o x ≡ Some d → FieldOf o x d
  field_of o x d h =
      let k = then_some o _ d h in
      let l = then_some (struct_tag k.0) _ d k.2 in
      let m = then_some (field c.program l.0 x) _ d l.2 in
      record { struct = k.0; tag = l.0; found = m.0; is_struct = k.1; is_tag = l.1; is_found = m.1; is_place = m.2 }

  -- an operator on two operands, whose types are told
  binary_at : (op : Op) (m n : Bool) (x y : Expr) (t u r : Ty) (v w : Value) → used_type c x ≡ Some t → used_type c y ≡ Some u → binary_type c.program op m n t u ≡ Some r → Suits t v → Suits u w
      → Comes (Suits r) (operate c.program c.store op (used_type c x) (used_type c y) v w)
  binary_at op m n x y t u r v w is_x is_y e g h =
      subst (λ o. Comes (Suits r) (operate c.program c.store op o (used_type c y) v w)) (sym is_x)
      (subst (λ o. Comes (Suits r) (operate c.program c.store op (Some t) o v w)) (sym is_y) (binary_comes c.program c.store op m n t u r v w e g h))

  -- ---- values and places

  -- a pointer that is used is a scalar
  pointer_scalar : (t u : Ty) → target t ≡ Some u → is_scalar t ≡ true
  pointer_scalar t u e = ap is_scalar (target_is t u e)

  mutual
    value_of : (e : Expr) (d : Typed) (t : Ty) → boxes e → typed_as e d → used d ≡ Some t → is_scalar t ≡ true → Comes (Suits t) (value c e)
    value_of (ENamed x) d t b h f sc = name_comes x d t (named c.program c.scope x) refl h f sc
    value_of (EInteger kind z) d t b h f sc = as_value (TyInt kind) d t (Gives (Whole kind z)) h f refl
    value_of (ECharacter z) d t b h f sc = as_value (TyInt Int) d t (Gives (Whole Int z)) h f refl
    value_of (EText bytes) d t b h f sc = no_some d h
    value_of (EUnary AddressOf (ENamed x)) d t b h f sc =
        let k = then_some (type_named (named c.program c.scope x)) _ d h in
        address_comes x k.0 t (named c.program c.scope x) b refl k.1 (used_as (address_type k.0) d t k.2 f)
    value_of (EUnary AddressOf e) d t b h f sc =
        let k = sign_some AddressOf (typing c.program c.scope e) d h in
        let l = then_some (typed_place k.0) _ d k.2 in
        as_value (pointer_type l.0) d t (address (place c e)) l.2 f (address_of l.0 (place c e) (place_of e l.0 b (k.1 ∙ ap (λ d. Some d) (place_is k.0 l.0 l.1))))
    value_of (EUnary Dereference e) d t b h f sc =
        let k = sign_some Dereference (typing c.program c.scope e) d h in
        let l = then_some (used k.0) _ d k.2 in
        let m = then_some (target l.0) _ d l.2 in
        comes_then (Suits l.0) (Suits t) (value c e) _ (value_of e k.0 l.0 b k.1 l.1 (pointer_scalar l.0 m.0 m.1)) λ v g.
        comes_then IsCell (Suits t) (pointed v) _ (pointed_comes m.0 v (subst (λ t. Suits t v) (target_is l.0 m.0 m.1) g)) λ spot i.
        read_as ts c.slots c.store _ m.0 t spot (place_type_is (EUnary Dereference e) m.0 (h ∙ sym m.2)) (used_as (APlace m.0) d t m.2 f) sc (cell_suits ts c.slots m.0 spot i)
    value_of (EUnary Minus e) d t b h f sc =
        let k = sign_some Minus (typing c.program c.scope e) d h in
        let l = integer_sign k.0 d k.2 in
        as_value (TyInt (promoted l.0)) d t _ l.2 f (comes_then (Suits (TyInt l.0)) (Suits (TyInt (promoted l.0))) (value c e) (apply Minus) (value_of e k.0 (TyInt l.0) b k.1 l.1 refl) (minus_comes l.0))
    value_of (EUnary Plus e) d t b h f sc =
        let k = sign_some Plus (typing c.program c.scope e) d h in
        let l = integer_sign k.0 d k.2 in
        as_value (TyInt (promoted l.0)) d t _ l.2 f (comes_then (Suits (TyInt l.0)) (Suits (TyInt (promoted l.0))) (value c e) (apply Plus) (value_of e k.0 (TyInt l.0) b k.1 l.1 refl) (plus_comes l.0))
    value_of (EUnary Complement e) d t b h f sc =
        let k = sign_some Complement (typing c.program c.scope e) d h in
        let l = integer_sign k.0 d k.2 in
        as_value (TyInt (promoted l.0)) d t _ l.2 f (comes_then (Suits (TyInt l.0)) (Suits (TyInt (promoted l.0))) (value c e) (apply Complement) (value_of e k.0 (TyInt l.0) b k.1 l.1 refl) (complement_comes l.0))
    value_of (EUnary Not e) d t b h f sc =
        let k = sign_some Not (typing c.program c.scope e) d h in
        let l = then_some (tested_type (Some k.0)) _ d k.2 in
        let m = tested_is (Some k.0) l.0 l.1 in
        as_value (TyInt Int) d t _ l.2 f
        (comes_then (Suits l.0) (Suits (TyInt Int)) (value c e) (apply Not) (value_of e k.0 l.0 b k.1 (used_as k.0 m.0 l.0 m.1 m.2) (testable_scalar l.0 m.3)) λ v g.
        comes_then (λ b. Unit {0}) (Suits (TyInt Int)) (holds v) _ (holds_comes l.0 v m.3 g) (λ x i. refl))
    value_of (EBinary op x y) d t b h f sc =
        let k = then_some (typing c.program c.scope x) _ d h in
        let l = then_some (used k.0) _ d k.2 in
        let m = then_some (typing c.program c.scope y) _ d l.2 in
        let n = then_some (used m.0) _ d m.2 in
        let r = then_some (binary_type c.program op (is_null x) (is_null y) l.0 n.0) _ d n.2 in
        let i = binary_scalars c.program op (is_null x) (is_null y) l.0 n.0 r.0 r.1 (null_int c.program c.scope x k.0 l.0 k.1 l.1) (null_int c.program c.scope y m.0 n.0 m.1 n.1) in
        as_value r.0 d t _ r.2 f
        (comes_then (Suits l.0) (Suits r.0) (value c x) _ (value_of x k.0 l.0 (boxed_left c.slots (addresses c.scope x) (addresses c.scope y) b) k.1 l.1 i.0) λ v g.
        comes_then (Suits n.0) (Suits r.0) (value c y) _ (value_of y m.0 n.0 (boxed_right c.slots (addresses c.scope x) (addresses c.scope y) b) m.1 n.1 i.1) λ w j.
        binary_at op (is_null x) (is_null y) x y l.0 n.0 r.0 v w (used_type_is x k.0 l.0 k.1 l.1) (used_type_is y m.0 n.0 m.1 n.1) r.1 g j)
    value_of (EAnd x y) d t b h f sc =
        let k = then_some (tested_type (typing c.program c.scope x)) _ d h in
        let l = then_some (tested_type (typing c.program c.scope y)) _ d k.2 in
        let m = tested_is (typing c.program c.scope x) k.0 k.1 in
        let n = tested_is (typing c.program c.scope y) l.0 l.1 in
        as_value (TyInt Int) d t _ l.2 f
        (comes_then (Suits k.0) (Suits (TyInt Int)) (value c x) _ (value_of x m.0 k.0 (boxed_left c.slots (addresses c.scope x) (addresses c.scope y) b) m.1 m.2 (testable_scalar k.0 m.3)) λ v g.
        comes_then (λ b. Unit {0}) (Suits (TyInt Int)) (holds v) _ (holds_comes k.0 v m.3 g) λ z i.
        also_comes z l.0 (value c y) n.3 (value_of y n.0 l.0 (boxed_right c.slots (addresses c.scope x) (addresses c.scope y) b) n.1 n.2 (testable_scalar l.0 n.3)))
    value_of (EOr x y) d t b h f sc =
        let k = then_some (tested_type (typing c.program c.scope x)) _ d h in
        let l = then_some (tested_type (typing c.program c.scope y)) _ d k.2 in
        let m = tested_is (typing c.program c.scope x) k.0 k.1 in
        let n = tested_is (typing c.program c.scope y) l.0 l.1 in
        as_value (TyInt Int) d t _ l.2 f
        (comes_then (Suits k.0) (Suits (TyInt Int)) (value c x) _ (value_of x m.0 k.0 (boxed_left c.slots (addresses c.scope x) (addresses c.scope y) b) m.1 m.2 (testable_scalar k.0 m.3)) λ v g.
        comes_then (λ b. Unit {0}) (Suits (TyInt Int)) (holds v) _ (holds_comes k.0 v m.3 g) λ z i.
        else_comes z l.0 (value c y) n.3 (value_of y n.0 l.0 (boxed_right c.slots (addresses c.scope x) (addresses c.scope y) b) n.1 n.2 (testable_scalar l.0 n.3)))
    value_of (EChoose q x y) d t b h f sc =
        let o = then_some (tested_type (typing c.program c.scope q)) _ d h in
        let k = then_some (typing c.program c.scope x) _ d o.2 in
        let l = then_some (used k.0) _ d k.2 in
        let m = then_some (typing c.program c.scope y) _ d l.2 in
        let n = then_some (used m.0) _ d m.2 in
        let r = then_some (choice_type (is_null x) (is_null y) l.0 n.0) _ d n.2 in
        let i = choice_arms (is_null x) (is_null y) l.0 n.0 r.0 r.1 (null_int c.program c.scope x k.0 l.0 k.1 l.1) (null_int c.program c.scope y m.0 n.0 m.1 n.1) in
        let z = tested_is (typing c.program c.scope q) o.0 o.1 in
        let bs = boxed_left c.slots (addresses c.scope q ++ addresses c.scope x) (addresses c.scope y) b in
        as_value r.0 d t _ r.2 f
        (comes_then (Suits o.0) (Suits r.0) (value c q) _ (value_of q z.0 o.0 (boxed_left c.slots (addresses c.scope q) (addresses c.scope x) bs) z.1 z.2 (testable_scalar o.0 z.3)) λ v g.
        comes_then (λ b. Unit {0}) (Suits r.0) (holds v) _ (holds_comes o.0 v z.3 g) λ test j.
        comes_needed (Suits r.0) (used_type c (EChoose q x y)) r.0 _ (used_type_is (EChoose q x y) d r.0 h (used_as d (AValue r.0) r.0 (sym r.2) refl))
        (arms_come test r.0 l.0 n.0 (value c x) (value c y) i.first i.second
        (value_of x k.0 l.0 (boxed_right c.slots (addresses c.scope q) (addresses c.scope x) bs) k.1 l.1 i.scalars.0)
        (value_of y m.0 n.0 (boxed_right c.slots (addresses c.scope q ++ addresses c.scope x) (addresses c.scope y) b) m.1 n.1 i.scalars.1)))
    value_of (ECast u e) d t b h f sc =
        let k = then_some (typing c.program c.scope e) _ d h in
        let l = then_some (used k.0) _ d k.2 in
        let r = then_some (cast_type (is_null e) u l.0) _ d l.2 in
        let i = cast_is (is_null e) u l.0 r.0 r.1 (null_int c.program c.scope e k.0 l.0 k.1 l.1) in
        as_value u d t _ (ap (λ t. Some (AValue t)) i.same ∙ r.2) f
        (comes_then (Suits l.0) (Suits u) (value c e) (at_type u) (value_of e k.0 l.0 b k.1 l.1 i.scalar) (λ v g. cast_comes u l.0 v i.into g))
    value_of (ESizeOf u) d t b h f sc =
        let k = then_some (size c.program u) _ d h in
        as_value (TyInt ULong) d t _ k.2 f (comes_needed (Suits (TyInt ULong)) (size c.program u) k.0 _ k.1 refl)
    value_of (EIndex a i) d t b h f sc =
        let g = element_of a i d h in
        comes_then (Suits g.operand_type) (Suits t) (value c a) _
        (value_of a g.operand g.operand_type (boxed_left c.slots (addresses c.scope a) (addresses c.scope i) b) g.is_operand g.is_operand_type (sum_scalars c.program g.operand_type g.index_type g.sum g.is_sum).0) λ v j.
        comes_then (Suits g.index_type) (Suits t) (value c i) _
        (value_of i g.index g.index_type (boxed_right c.slots (addresses c.scope a) (addresses c.scope i) b) g.is_index g.is_index_type (sum_scalars c.program g.operand_type g.index_type g.sum g.is_sum).1) λ w k.
        comes_then (Suits (TyPointer g.element)) (Suits t) (operate c.program c.store Add (used_type c a) (used_type c i) v w) _
        (sum_pointer a i g.operand_type g.index_type g.sum g.element v w (used_type_is a g.operand g.operand_type g.is_operand g.is_operand_type) (used_type_is i g.index g.index_type g.is_index g.is_index_type) g.is_sum g.is_element j k) λ x l.
        comes_then IsCell (Suits t) (pointed x) _ (pointed_comes g.element x l) λ spot m.
        read_as ts c.slots c.store _ g.element t spot (place_type_is (EIndex a i) g.element (h ∙ sym g.is_place)) (used_as (APlace g.element) d t g.is_place f) sc (cell_suits ts c.slots g.element spot m)
    value_of (EMember e x) d t b h f sc =
        let k = then_some (typing c.program c.scope e) _ d h in
        let g = field_of (typed_place k.0) x d k.2 in
        let is_e = k.1 ∙ ap (λ d. Some d) (place_is k.0 g.struct g.is_struct) in
        comes_then (SuitsSpot ts c.slots g.struct) (Suits t) (place c e) _ (comes_as (SpotOf e g.struct) (SuitsSpot ts c.slots g.struct) (place c e) (place_of e g.struct b is_e) (of_place e g.struct)) λ spot i.
        comes_then (Suits (TyPointer g.struct)) (Suits t) (pointer_to spot) _ (cell_at g.struct spot (struct_spot ts c.slots g.struct g.tag spot g.is_tag i)) λ v j.
        comes_then IsCell (Suits t) (field_spot c.program c.store (place_type c e) x v) _ (field_comes c.program c.store (place_type c e) g.struct g.tag x g.found v (place_type_is e g.struct is_e) g.is_tag g.is_found j) λ there l.
        read_as ts c.slots c.store _ g.found.1 t there (place_type_is (EMember e x) g.found.1 (h ∙ sym g.is_place)) (used_as (APlace g.found.1) d t g.is_place f) sc (cell_suits ts c.slots g.found.1 there l)
    value_of (EArrow e x) d t b h f sc =
        let k = then_some (typing c.program c.scope e) _ d h in
        let m = then_some (used k.0) _ d k.2 in
        let g = field_of (target m.0) x d m.2 in
        comes_then (Suits m.0) (Suits t) (value c e) _ (value_of e k.0 m.0 b k.1 m.1 (pointer_scalar m.0 g.struct g.is_struct)) λ v j.
        comes_then IsCell (Suits t) (field_spot c.program c.store (pointed_type (used_type c e)) x v) _
        (field_comes c.program c.store (pointed_type (used_type c e)) g.struct g.tag x g.found v (ap pointed_type (used_type_is e k.0 m.0 k.1 m.1) ∙ g.is_struct) g.is_tag g.is_found (subst (λ t. Suits t v) (target_is m.0 g.struct g.is_struct) j)) λ there l.
        read_as ts c.slots c.store _ g.found.1 t there (place_type_is (EArrow e x) g.found.1 (h ∙ sym g.is_place)) (used_as (APlace g.found.1) d t g.is_place f) sc (cell_suits ts c.slots g.found.1 there l)
    value_of (ECall g es) d t b h f sc = no_some d h

    place_of : (e : Expr) (t : Ty) → boxes e → typed_as e (APlace t) → Comes (SpotOf e t) (place c e)
    place_of (ENamed x) t b h = spot_comes x t (named c.program c.scope x) refl h
    place_of (EUnary Dereference e) t b h =
        let k = sign_some Dereference (typing c.program c.scope e) (APlace t) h in
        let l = then_some (used k.0) _ (APlace t) k.2 in
        let m = then_some (target l.0) _ (APlace t) l.2 in
        comes_then (Suits l.0) IsCell (value c e) pointed (value_of e k.0 l.0 b k.1 l.1 (pointer_scalar l.0 m.0 m.1)) λ v g. pointed_comes m.0 v (subst (λ t. Suits t v) (target_is l.0 m.0 m.1) g)
    place_of (EUnary Minus e) t b h = let k = sign_some Minus (typing c.program c.scope e) _ h in no_place _ t (integer_sign k.0 _ k.2).2
    place_of (EUnary Plus e) t b h = let k = sign_some Plus (typing c.program c.scope e) _ h in no_place _ t (integer_sign k.0 _ k.2).2
    place_of (EUnary Complement e) t b h = let k = sign_some Complement (typing c.program c.scope e) _ h in no_place _ t (integer_sign k.0 _ k.2).2
    place_of (EUnary Not e) t b h =
        let k = sign_some Not (typing c.program c.scope e) (APlace t) h in
        no_place (TyInt Int) t (then_some (tested_type (Some k.0)) _ (APlace t) k.2).2
    place_of (EUnary AddressOf (ENamed x)) t b h =
        let k = then_some (type_named (named c.program c.scope x)) _ (APlace t) h in
        address_no_place k.0 t k.2
    place_of (EUnary AddressOf e) t b h =
        let k = sign_some AddressOf (typing c.program c.scope e) (APlace t) h in
        no_place _ t (then_some (typed_place k.0) _ (APlace t) k.2).2
    place_of (EIndex a i) t b h =
        let g = element_of a i (APlace t) h in
        comes_then (Suits g.operand_type) IsCell (value c a) _
        (value_of a g.operand g.operand_type (boxed_left c.slots (addresses c.scope a) (addresses c.scope i) b) g.is_operand g.is_operand_type (sum_scalars c.program g.operand_type g.index_type g.sum g.is_sum).0) λ v j.
        comes_then (Suits g.index_type) IsCell (value c i) _
        (value_of i g.index g.index_type (boxed_right c.slots (addresses c.scope a) (addresses c.scope i) b) g.is_index g.is_index_type (sum_scalars c.program g.operand_type g.index_type g.sum g.is_sum).1) λ w k.
        comes_then (Suits (TyPointer g.element)) IsCell (operate c.program c.store Add (used_type c a) (used_type c i) v w) _
        (sum_pointer a i g.operand_type g.index_type g.sum g.element v w (used_type_is a g.operand g.operand_type g.is_operand g.is_operand_type) (used_type_is i g.index g.index_type g.is_index g.is_index_type) g.is_sum g.is_element j k)
        (pointed_comes g.element)
    place_of (EMember e x) t b h =
        let k = then_some (typing c.program c.scope e) _ (APlace t) h in
        let g = field_of (typed_place k.0) x (APlace t) k.2 in
        let is_e = k.1 ∙ ap (λ d. Some d) (place_is k.0 g.struct g.is_struct) in
        comes_then (SuitsSpot ts c.slots g.struct) IsCell (place c e) _ (comes_as (SpotOf e g.struct) (SuitsSpot ts c.slots g.struct) (place c e) (place_of e g.struct b is_e) (of_place e g.struct)) λ spot i.
        comes_then (Suits (TyPointer g.struct)) IsCell (pointer_to spot) _ (cell_at g.struct spot (struct_spot ts c.slots g.struct g.tag spot g.is_tag i)) λ v j.
        field_comes c.program c.store (place_type c e) g.struct g.tag x g.found v (place_type_is e g.struct is_e) g.is_tag g.is_found j
    place_of (EArrow e x) t b h =
        let k = then_some (typing c.program c.scope e) _ (APlace t) h in
        let m = then_some (used k.0) _ (APlace t) k.2 in
        let g = field_of (target m.0) x (APlace t) m.2 in
        comes_then (Suits m.0) IsCell (value c e) _ (value_of e k.0 m.0 b k.1 m.1 (pointer_scalar m.0 g.struct g.is_struct)) λ v j.
        field_comes c.program c.store (pointed_type (used_type c e)) g.struct g.tag x g.found v (ap pointed_type (used_type_is e k.0 m.0 k.1 m.1) ∙ g.is_struct) g.is_tag g.is_found (subst (λ t. Suits t v) (target_is m.0 g.struct g.is_struct) j)
    place_of (EInteger kind z) t b h = no_place _ t h
    place_of (ECharacter z) t b h = no_place _ t h
    place_of (EText bytes) t b h = no_some _ h
    place_of (EBinary op x y) t b h =
        let k = then_some (typing c.program c.scope x) _ (APlace t) h in
        let l = then_some (used k.0) _ (APlace t) k.2 in
        let m = then_some (typing c.program c.scope y) _ (APlace t) l.2 in
        let n = then_some (used m.0) _ (APlace t) m.2 in
        no_place _ t (then_some (binary_type c.program op (is_null x) (is_null y) l.0 n.0) _ (APlace t) n.2).2
    place_of (EAnd x y) t b h =
        let k = then_some (tested_type (typing c.program c.scope x)) _ (APlace t) h in
        no_place _ t (then_some (tested_type (typing c.program c.scope y)) _ (APlace t) k.2).2
    place_of (EOr x y) t b h =
        let k = then_some (tested_type (typing c.program c.scope x)) _ (APlace t) h in
        no_place _ t (then_some (tested_type (typing c.program c.scope y)) _ (APlace t) k.2).2
    place_of (EChoose q x y) t b h =
        let o = then_some (tested_type (typing c.program c.scope q)) _ (APlace t) h in
        let k = then_some (typing c.program c.scope x) _ (APlace t) o.2 in
        let l = then_some (used k.0) _ (APlace t) k.2 in
        let m = then_some (typing c.program c.scope y) _ (APlace t) l.2 in
        let n = then_some (used m.0) _ (APlace t) m.2 in
        no_place _ t (then_some (choice_type (is_null x) (is_null y) l.0 n.0) _ (APlace t) n.2).2
    place_of (ECast u e) t b h =
        let k = then_some (typing c.program c.scope e) _ (APlace t) h in
        let l = then_some (used k.0) _ (APlace t) k.2 in
        no_place _ t (then_some (cast_type (is_null e) u l.0) _ (APlace t) l.2).2
    place_of (ESizeOf u) t b h = no_place _ t (then_some (size c.program u) _ (APlace t) h).2
    place_of (ECall g es) t b h = no_some _ h

pub expressions_answer : ExpressionsAnswer
expressions_answer c ts e d in_scope in_slots b h = (
  λ t f sc. value_of c ts in_scope in_slots e d t b h f sc,
  λ t f. comes_as (SpotOf c ts in_scope in_slots e t) (SuitsSpot ts c.slots t) (place c e)
      (place_of c ts in_scope in_slots e t b (h ∙ ap (λ d. Some d) (place_is d t f))) (of_place c ts in_scope in_slots e t),
)
