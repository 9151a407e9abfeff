-- A step in which control goes on leaves as many cells in blocks, and as many registers.
use Rattle.std.proofs.Common.{◌≡◌, ℕ, zero, suc, ◌+◌, List, [], ◌∷◌, Option, Some, None, Result, Ok, Err, refl, sym, ap, subst}
use Rattle.std.specs.Prelude.{pos, slice_get, slice_set}
use Rattle.cpc_base.specs.Bytes.{Text}
use Rattle.cpc_num.specs.declared.kinds.Fault.{Fault}
use Rattle.cpc_num.specs.declared.kinds.Op.TheVariants.{Add}
use Rattle.cpc_tree.specs.declared.program.UnaryOp.TheVariants.{Dereference}
use Rattle.cpc_tree.specs.declared.program.Mode.TheVariants.{Extern}
use Rattle.cpc_tree.specs.Syntax.{Ty, Expr, ENamed, EUnary, EIndex, EMember, EArrow, Exprs, Stmt, Declare, Assign, Call, Detach, Spawn, Return, Function, Program}
use Rattle.cpc_tree.specs.Typing.{Meant, ALocal, AGlobal, AFunction, NotMeant, named, function_named, parameter_types, code_parameters, field, struct_tag}
use Rattle.cpc_tree.specs.Points.{Found, Simple, Test, Nothing}
use Rattle.cpc_store.specs.Store.{Value, Unset, At, Store, save, store_cells}
use Rattle.cpc_store.proofs.CellLemmas.{store_cells-save}
use Rattle.cpc_meaning.specs.Answer.{Answer, Gives, Faults, NoAnswer, ◌>>=◌, of_result, needed}
use Rattle.cpc_meaning.specs.Eval.{Slot, Register, Boxed, Context, Spot, InSlot, InCell, place, place_type, used_type, value, values, holds, assigned, operate, pointed, pointer_to, pointed_type, slot_spot, spot_named, field_spot, moved}
use Rattle.cpc_meaning.specs.Slots.{free_slots}
use Rattle.cpc_meaning.specs.Requests.{Primitive, primitive_named, takes, section_takes, all_taken, all_long, arguments}
use Rattle.cpc_meaning.specs.Act.{Stood, AtStatement, AtArrival, AtEnd, Act, GoesOn, write, assign, deliver, right_side, assigns, calls, callee, calls_value, puts_text, asks_with, calls_named, calls_expr, detaches, spawns, leaves, returns, simple_act, test_act, found_act, target_of, arrives, act}
use Rattle.cpc_meaning.specs.Runs.{slot_registers, slots_registers}
use Rattle.cpc_meaning_laws.specs.Cell.Laws.{GoingOnKeeps}

-- ---- what an answer gives, if it gives anything

abbrev pub If : {A : Type 0} → (A → Type 0) → Answer A → Type 0
If Q (Gives x) = Q x
If Q _ = Unit {0}

-- what is given first, and then what is made of it
pub if_then : {A B : Type 0} (P : A → Type 0) (Q : B → Type 0) (a : Answer A) (f : A → Answer B) → If P a → ((x : A) → P x → If Q (f x)) → If Q (a >>= f)
if_then P Q (Gives x) f h k = k x h
if_then P Q (Faults fault) f h k = tt
if_then P Q NoAnswer f h k = tt

-- whatever is given first
pub if_any : {A B : Type 0} (Q : B → Type 0) (a : Answer A) (f : A → Answer B) → ((x : A) → If Q (f x)) → If Q (a >>= f)
if_any Q (Gives x) f h = h x
if_any Q (Faults fault) f h = tt
if_any Q NoAnswer f h = tt

-- ---- places

-- a place that is no cell is a register
abbrev IsThere : List Slot → Spot → Type 0
IsThere slots (InSlot k) = (v : Value) × (slice_get slots k ≡ Some (Register v))
IsThere slots (InCell cl n k) = Unit {0}

slot_there : (slots : List Slot) (k : ℕ) (o : Option Slot) → slice_get slots k ≡ o → If (IsThere slots) (slot_spot k o)
slot_there slots k None e = tt
slot_there slots k (Some (Register v)) e = (v, e)
slot_there slots k (Some (Boxed n)) e = tt

named_there : (slots : List Slot) (m : Meant) → If (IsThere slots) (spot_named slots m)
named_there slots (ALocal k t) = slot_there slots k (slice_get slots k) refl
named_there slots (AGlobal n t) = tt
named_there slots _ = tt

pointed_there : (slots : List Slot) (v : Value) → If (IsThere slots) (pointed v)
pointed_there slots (At cl n k) = tt
pointed_there slots _ = tt

field_there : (slots : List Slot) (p : Program) (s : Store) (o : Option Ty) (x : Text) (v : Value) → If (IsThere slots) (field_spot p s o x v)
field_there slots p s o x v =
    if_any (IsThere slots) (needed o) _ λ t. if_any (IsThere slots) (needed (struct_tag t)) _ λ tag. if_any (IsThere slots) (needed (field p tag x)) _ λ f.
    if_any (IsThere slots) (moved s v (pos f.0)) _ (λ w. pointed_there slots w)

place_there : (c : Context) (e : Expr) → If (IsThere c.slots) (place c e)
place_there c (ENamed x) = named_there c.slots (named c.program c.scope x)
place_there c (EUnary Dereference e) = if_any (IsThere c.slots) (value c e) _ (λ v. pointed_there c.slots v)
place_there c (EIndex a i) =
    if_any (IsThere c.slots) (value c a) _ λ v. if_any (IsThere c.slots) (value c i) _ λ w.
    if_any (IsThere c.slots) (operate c.program c.store Add (used_type c a) (used_type c i) v w) _ (λ x. pointed_there c.slots x)
place_there c (EMember e x) =
    if_any (IsThere c.slots) (place c e) _ λ spot. if_any (IsThere c.slots) (pointer_to spot) _ (λ v. field_there c.slots c.program c.store (place_type c e) x v)
place_there c (EArrow e x) = if_any (IsThere c.slots) (value c e) _ (λ v. field_there c.slots c.program c.store (pointed_type (used_type c e)) x v)
place_there c _ = tt

-- ---- writes

-- the slots and the store afterwards
abbrev pub Keeps : Context → List Slot × Store → Type 0
Keeps c r = (store_cells r.1 ≡ store_cells c.store) × (slots_registers r.0 ≡ slots_registers c.slots)

-- a register stays one
register_set : (slots : List Slot) (k : ℕ) (v w : Value) → slice_get slots k ≡ Some (Register v) → slots_registers (slice_set slots k (Register w)) ≡ slots_registers slots
register_set [] k v w e = refl
register_set (slot ∷ slots) zero v w e = let h : slot ≡ Register v = cc in ap (λ x. slot_registers x + slots_registers slots) (sym h)
register_set (slot ∷ slots) (suc k) v w e = ap (λ n. slot_registers slot + n) (register_set slots k v w e)

module _ (c : Context) where
  write_keeps : (spot : Spot) (v : Value) → IsThere c.slots spot → If (Keeps c) (write c spot v)
  write_keeps (InSlot k) v h = (refl, register_set c.slots k h.0 v h.1)
  write_keeps (InCell cl n k) v h = go (save cl n k v c.store) refl
    where
      go : (r : Result Store Fault) → save cl n k v c.store ≡ r → If (Keeps c) (of_result r >>= (λ s. Gives (c.slots, s)))
      go (Ok s) e = (store_cells-save cl n k v c.store s e, refl)
      go (Err fault) e = tt

  assign_keeps : (e : Expr) (v : Value) → If (Keeps c) (assign c e v)
  assign_keeps e v =
      if_then (IsThere c.slots) (Keeps c) (place c e) _ (place_there c e) λ spot h.
      if_any (Keeps c) (needed (place_type c e)) _ λ t. if_any (Keeps c) (assigned t v) _ (λ w. write_keeps spot w h)

  deliver_keeps : (x : Option Expr) (v : Value) → If (Keeps c) (deliver c x v)
  deliver_keeps None v = (refl, refl)
  deliver_keeps (Some e) v = assign_keeps e v

  -- ---- acts

  -- where control goes on
  abbrev KeepsOn : Act → Type 0
  KeepsOn (GoesOn h t slots) = Keeps c (slots, t)
  KeepsOn _ = Unit {0}

  -- control goes on, and what was is kept
  abbrev pub Arrived : Act → Type 0
  Arrived (GoesOn h t slots) = Keeps c (slots, t)
  Arrived _ = ⊥

  pub arrives_keeps : (f : Found) (o : Option Value) → If Arrived (arrives c f o)
  arrives_keeps f o =
      if_any Arrived (needed o) _ λ v. if_any Arrived (needed (target_of f)) _ λ x.
      if_then (Keeps c) Arrived (deliver c x v) _ (deliver_keeps x v) (λ r h. h)

  assigns_keeps : (x v : Expr) → If KeepsOn (assigns c x v)
  assigns_keeps x v = if_any KeepsOn (value c v) _ λ w. if_then (Keeps c) KeepsOn (assign c x w) _ (assign_keeps x w) (λ r h. h)

  calls_keeps : (f : Function) (es : Exprs) → If KeepsOn (calls c f es)
  calls_keeps f es = if_any KeepsOn (values c es) _ λ vs. if_any KeepsOn (arguments (parameter_types f) vs) _ (λ ws. tt)

  value_keeps : (f : Expr) (es : Exprs) → If KeepsOn (calls_value c f es)
  value_keeps f es =
      if_any KeepsOn (value c f) _ λ v. if_any KeepsOn (needed (used_type c f)) _ λ t. if_any KeepsOn (values c es) _ λ vs.
      if_any KeepsOn (arguments (code_parameters t) vs) _ λ ws. if_any KeepsOn (callee c.program t v) _ (λ g. tt)

  primitive_keeps : (prim : Primitive) (es : Exprs) (o : Option Text) → If KeepsOn (asks_with c prim es o)
  primitive_keeps prim es (Some bytes) = tt
  primitive_keeps prim es None = if_any KeepsOn (values c es) _ λ vs. if_any KeepsOn (all_taken (takes c.program prim vs) vs) _ (λ ws. tt)

  named_keeps : (x : Text) (es : Exprs) (m : Meant) (o : Option Primitive) (g : Option Function) → If KeepsOn (calls_named c x es m o g)
  named_keeps x es (AFunction Extern r ps) o g = if_any KeepsOn (values c es) _ λ vs. if_any KeepsOn (all_long vs) _ (λ ws. tt)
  named_keeps x es (AFunction mode r ps) o (Some f) = calls_keeps f es
  named_keeps x es NotMeant (Some prim) g = primitive_keeps prim es (puts_text prim es)
  named_keeps x es m o g = value_keeps (ENamed x) es

  call_keeps : (f : Expr) (es : Exprs) → If KeepsOn (calls_expr c f es)
  call_keeps (ENamed x) es = named_keeps x es (named c.program c.scope x) (primitive_named x) (function_named c.program x)
  call_keeps f es = value_keeps f es

  detaches_keeps : (f : Text) (es : Exprs) → If KeepsOn (detaches c f es)
  detaches_keeps f es =
      if_any KeepsOn (needed (function_named c.program f)) _ λ g. if_any KeepsOn (values c es) _ λ vs. if_any KeepsOn (all_taken (section_takes (parameter_types g)) vs) _ (λ ws. tt)

  spawns_keeps : (f : Text) (es : Exprs) → If KeepsOn (spawns c f es)
  spawns_keeps f es =
      if_any KeepsOn (needed (function_named c.program f)) _ λ g. if_any KeepsOn (values c es) _ λ vs. if_any KeepsOn (arguments (parameter_types g) vs) _ (λ ws. tt)

  leaves_keeps : (v : Value) → If KeepsOn (leaves c v)
  leaves_keeps v = if_any KeepsOn (free_slots c.slots c.store) _ (λ s. tt)

  returns_keeps : (result : Ty) (o : Option Expr) → If KeepsOn (returns c result o)
  returns_keeps result None = leaves_keeps Unset
  returns_keeps result (Some x) = if_any KeepsOn (value c x) _ λ v. if_any KeepsOn (assigned result v) _ (λ w. leaves_keeps w)

  simple_keeps : (result : Ty) (s : Stmt) → If KeepsOn (simple_act c result s)
  simple_keeps result (Declare x t (Some v)) = assigns_keeps (ENamed x) v
  simple_keeps result (Assign x op v) = assigns_keeps x (right_side op x v)
  simple_keeps result (Call x f es) = call_keeps f es
  simple_keeps result (Detach x f es) = detaches_keeps f es
  simple_keeps result (Spawn f es) = spawns_keeps f es
  simple_keeps result (Return v) = returns_keeps result v
  simple_keeps result s = (refl, refl)

  test_keeps : (o : Option Expr) → If KeepsOn (test_act c o)
  test_keeps None = (refl, refl)
  test_keeps (Some t) = if_any KeepsOn (value c t) _ λ v. if_any KeepsOn (holds v) _ (λ h. (refl, refl))

  found_keeps : (result : Ty) (f : Found) → If KeepsOn (found_act c result f)
  found_keeps result (Simple s) = simple_keeps result s
  found_keeps result (Test t) = test_keeps t
  found_keeps result Nothing = tt

  -- an act by which control goes on is one
  arrived_on : (a : Answer Act) → If Arrived a → If KeepsOn a
  arrived_on (Gives (GoesOn h t slots)) k = k
  arrived_on _ k = tt

  act_keeps : (result : Ty) (o : Option Value) (stood : Stood) → If KeepsOn (act c result o stood)
  act_keeps result o (AtStatement f) = found_keeps result f
  act_keeps result o (AtArrival f) = arrived_on (arrives c f o) (arrives_keeps f o)
  act_keeps result o AtEnd = leaves_keeps Unset

pub going_on_keeps : GoingOnKeeps
going_on_keeps c result o stood h t slots e = subst (If (KeepsOn c)) e (act_keeps c result o stood)
