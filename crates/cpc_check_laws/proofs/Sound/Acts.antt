-- What typed statements and tests do, in a frame whose variables have their slots: they fault, or what they do is well formed.
use Rattle.std.proofs.Common.{◌≡◌, ℕ, zero, suc, Bool, true, false, cond, List, [], ◌∷◌, ◌++◌, slice_get, slice_set, Option, Some, None, refl, sym, ◌∙◌, ap, subst}
use Rattle.cpc_base.specs.Bytes.{Text}
use Rattle.cpc_base.specs.declared.stop.Dialect.{Dialect}
use Rattle.cpc_base.proofs.Truth.{by_false_true}
use Rattle.cpc_base.proofs.Lists.{some_is}
use Rattle.cpc_num.specs.declared.kinds.Kind.TheVariants.{Int, Long}
use Rattle.cpc_num.specs.declared.kinds.Op.{Op}
use Rattle.cpc_num.specs.declared.kinds.Fault.TheVariants as F
use Rattle.cpc_tree.specs.declared.program.Mode.{Mode}
use Rattle.cpc_tree.specs.declared.program.Mode.TheVariants.{Extern, Native, Cps, Detached}
use Rattle.cpc_tree.specs.Syntax.{Ty, TyVoid, TyInt, TyPointer, TyCode, Tys, Expr, ENamed, EInteger, ECharacter, EText, EUnary, EBinary, EAnd, EOr, EChoose, ECast, ESizeOf, EIndex, EMember, EArrow, ECall, Exprs, NoExpr, AndExpr, Stmt, Block, Empty, Declare, Assign, Call, Detach, Spawn, If, While, DoWhile, For, Goto, Label, Break, Continue, Return, Function, Program}
use Rattle.cpc_tree.specs.Typing.{Scope, Meant, ALocal, AGlobal, AFunction, NotMeant, Typed, APlace, typed_place, named, typing, used, function_named, function_type, parameter_types, code_parameters, same_type, list_of_tys}
use Rattle.cpc_tree.specs.Points.{Found, Simple, Test, Nothing}
use Rattle.cpc_tree.specs.Registers.{addresses, addresses_all, addresses_if}
use Rattle.cpc_tree.specs.Primitives.{Primitive, Puts, RtDetach, primitive_named, SetOf, takes_first, callback_and_pointer}
use Rattle.cpc_tree.proofs.TypeRows.{list_back}
use Rattle.cpc_store.specs.declared.values.Class.TheVariants.{Auto}
use Rattle.cpc_store.specs.Store.{Value, Unset, Null, At, Code, Store, save, free}
use Rattle.cpc_meaning.specs.Answer.{Gives, Faults, ◌>>=◌}
use Rattle.cpc_meaning.specs.Eval.{Slot, Register, Boxed, Context, Spot, InSlot, InCell, and_then, place, place_type, used_type, value, values, holds, assigned}
use Rattle.cpc_meaning.specs.Slots.{free_slots}
use Rattle.cpc_meaning.specs.Requests.{Builtin, takes, section_takes, all_taken, all_long, arguments, byte_values, detach_takes}
use Rattle.cpc_meaning.specs.Act.{Act, GoesOn, Enters, Leaves, AsksFor, write, assign, right_side, assigns, calls, function_of_type, callee, calls_value, asks_with, puts_text, calls_named, calls_expr, detaches, spawns, leaves, simple_act, found_act, target_of, deliver, arrives}
use Rattle.cpc_check_rules.specs.Operators.{is_detached}
use Rattle.cpc_check_rules.specs.Calls.{gives, is_closed}
use Rattle.cpc_check_rules.proofs.Sameness.{type_is}
use Rattle.cpc_check_laws.specs.Sound.Suits.{Comes, Suits, SuitsSlot, SuitSlots, ScopeOf, IsBoxed, AllBoxed, SuitsSpot}
use Rattle.cpc_check_laws.specs.Sound.Control.{Stands, GoesOnward}
use Rattle.cpc_check_laws.specs.Sound.Typed.{Gets, Assigns, Delivers, AllGet, EachGets, AllGetTaken, GetsTaken, IsSection, Detaches, TakesArguments, is_for, is_own, is_variable, is_pointer_call, Calls, CallsHost, CallsFunction, CallsPrimitive, CallsPointer, IsOpen, IsTyped, FoundTyped}
use Rattle.cpc_meaning.proofs.Functions.{found_again}
use Rattle.cpc_check_laws.proofs.Sound.Answers.{no_some, comes_then, comes_as, comes_needed, comes_result}
use Rattle.cpc_check_laws.proofs.Sound.Conversions.{holds_comes}
use Rattle.cpc_check_laws.proofs.Sound.Scalars.{testable_scalar}
use Rattle.cpc_check_laws.proofs.Sound.Expressions.{expressions_answer}
use Rattle.cpc_check_laws.proofs.Sound.Lookups.{boxed_left, boxed_right}
use Rattle.cpc_check_laws.proofs.Sound.Copies.{CopyStays, save_stays, free_stays}
use Rattle.cpc_check_laws.proofs.Sound.Paths.{found_addresses, simple_addresses}
use Rattle.cpc_check_laws.proofs.Sound.Requests.{Becomes, AllSuit, AllBecome, EachBecomes, AllWhole, AllReady, AllTaken, callback_type, PrimitiveGiven, IsRequest, AsksPrimitive, AsksHost, AsksSpawn, AsksSection, IsCallback, becomes_comes, arguments_come, longs_come, all_taken_come, value_suits, got_comes, all_get_come, each_gets_come, code_comes, all_ready_come}

abbrev result_of : Ty → Ty
result_of (TyCode r ps) = r
result_of t = t

-- ---- slots

set_suits : (ts : List Ty) (slots : List Slot) (k : ℕ) (t : Ty) (slot : Slot) → SuitSlots ts slots → slice_get ts k ≡ Some t → SuitsSlot t slot → SuitSlots ts (slice_set slots k slot)
set_suits [] slots k t slot h e g = no_some t e
set_suits (u ∷ ts) [] k t slot h e g = absurd h
set_suits (u ∷ ts) (x ∷ slots) zero t slot h e g = (subst (λ t. SuitsSlot t slot) (sym (some_is u t e)) g, h.1)
set_suits (u ∷ ts) (x ∷ slots) (suc k) t slot h e g = (h.0, set_suits ts slots k t slot h.1 e g)

one_boxed : (slots : List Slot) (j k : ℕ) (v w : Value) → slice_get slots k ≡ Some (Register v) → IsBoxed (slice_get slots j) → IsBoxed (slice_get (slice_set slots k (Register w)) j)
one_boxed [] j k v w e h = tt
one_boxed (Register u ∷ slots) zero zero v w e h = absurd h
one_boxed (Boxed n ∷ slots) zero zero v w e h = absurd (cc)
one_boxed (x ∷ slots) zero (suc k) v w e h = h
one_boxed (x ∷ slots) (suc j) zero v w e h = h
one_boxed (x ∷ slots) (suc j) (suc k) v w e h = one_boxed slots j k v w e h

all_boxed : (slots : List Slot) (k : ℕ) (v w : Value) → slice_get slots k ≡ Some (Register v) → (js : List ℕ) → AllBoxed slots js → AllBoxed (slice_set slots k (Register w)) js
all_boxed slots k v w e [] h = tt
all_boxed slots k v w e (j ∷ js) h = (one_boxed slots j k v w e h.0, all_boxed slots k v w e js h.1)

free_comes : (slots : List Slot) (s : Store) → Comes (CopyStays s) (free_slots slots s)
free_comes [] s = λ h. h
free_comes (Register v ∷ slots) s = free_comes slots s
free_comes (Boxed n ∷ slots) s =
    comes_result (CopyStays s) (free Auto (At Auto n 0) s) (free_slots slots)
    (λ t e. comes_as (CopyStays t) (CopyStays s) (free_slots slots t) (free_comes slots t) (λ u k h. k (free_stays Auto (At Auto n 0) s t refl e h)))

-- the slots afterwards
abbrev pub Keeps : List Ty → List Slot → List Slot → Type 0
Keeps ts slots after = SuitSlots ts after × ((ks : List ℕ) → AllBoxed slots ks → AllBoxed after ks)

-- the slots and the store afterwards
abbrev pub Wrote : List Ty → List Slot → Store → List Slot × Store → Type 0
Wrote ts slots s r = Keeps ts slots r.0 × CopyStays s r.1

-- what stands there takes a value of the type
abbrev pub Awaits : Program → Scope → Found → Ty → Type 0
Awaits p scope found r = (x : Option Expr) × (target_of found ≡ Some x) × Delivers p scope r x

-- what is done at a statement or a test
abbrev pub ActOk : Dialect → Program → Function → Scope → List Ty → List Slot → Store → Found → Act → Type 0
ActOk d p f scope ts slots s found (GoesOn h t after) = GoesOnward found × Wrote ts slots s (after, t)
ActOk d p f scope ts slots s found (Enters g vs) =
    (function_named p g.called ≡ Some g) × AllSuit (parameter_types g) vs × (is_detached f.mode ≡ true → is_detached g.mode ≡ true) × Awaits p scope found g.result
ActOk d p f scope ts slots s found (Leaves v t) = Suits f.result v × CopyStays s t
ActOk d p f scope ts slots s found (AsksFor r) = (t : Ty) × IsRequest d p f.mode r.asked r.arguments t × Awaits p scope found t

-- what is done where a value arrives
abbrev pub ArrivedOk : List Ty → List Slot → Store → Found → Act → Type 0
ArrivedOk ts slots s found (GoesOn h t after) = GoesOnward found × Wrote ts slots s (after, t)
ArrivedOk ts slots s found _ = ⊥

-- what is done at the end
abbrev pub LeftOk : Ty → Store → Act → Type 0
LeftOk r s (Leaves v t) = Suits r v × CopyStays s t
LeftOk r s _ = ⊥

module _ (d : Dialect) (p : Program) (f : Function) (scope : Scope) (ts : List Ty) (slots : List Slot) (s : Store) (in_scope : ScopeOf ts scope) (in_slots : SuitSlots ts slots) where
  abbrev c : Context
  c = record { program = p; scope = scope; slots = slots; store = s }

  abbrev boxes : Expr → Type 0
  boxes e = AllBoxed slots (addresses scope e)

  unchanged : Wrote ts slots s (slots, s)
  unchanged = ((in_slots, λ ks h. h), λ h. h)

  -- ---- assignments

  write_comes : (t : Ty) (spot : Spot) (w : Value) → SuitsSpot ts slots t spot → Suits t w → Comes (Wrote ts slots s) (write c spot w)
  write_comes t (InCell cl n k) w h g = comes_result (Wrote ts slots s) (save cl n k w s) _ (λ s1 e. (unchanged.0, save_stays cl n k w s s1 e))
  write_comes t (InSlot k) w h g = ((set_suits ts slots k t (Register w) in_slots h.4 (h.2, g), all_boxed slots k h.0 w h.1), λ h. h)

  assign_comes : (e : Expr) (t : Ty) (v : Value) → typing p scope e ≡ Some (APlace t) → boxes e → Becomes t v → Comes (Wrote ts slots s) (assign c e v)
  assign_comes e t v h b g =
      comes_then (SuitsSpot ts slots t) (Wrote ts slots s) (place c e) _ ((expressions_answer c ts e (APlace t) in_scope in_slots b h).1 t refl) λ spot i.
      comes_needed (Wrote ts slots s) (place_type c e) t _ (ap (λ o. and_then o typed_place) h)
      (comes_then (Suits t) (Wrote ts slots s) (assigned t v) (write c spot) (becomes_comes t v g) (λ w j. write_comes t spot w i j))

  assigns_come : (found : Found) (x e : Expr) → GoesOnward found → Assigns p scope x e → boxes x → boxes e → Comes (ActOk d p f scope ts slots s found) (assigns c x e)
  assigns_come found x e o g bx be =
      comes_then (Becomes g.type) (ActOk d p f scope ts slots s found) (value c e) _ (got_comes c ts in_scope in_slots g.type e g.gets be) λ w h.
      comes_then (Wrote ts slots s) (ActOk d p f scope ts slots s found) (assign c x w) _ (assign_comes x g.type w g.is_place bx h) (λ r k. (o, k))

  right_boxed : (x e : Expr) (op : Option Op) → AllBoxed slots (addresses scope x ++ addresses scope e) → boxes (right_side op x e)
  right_boxed x e None b = boxed_right slots (addresses scope x) (addresses scope e) b
  right_boxed x e (Some op) b = b

  deliver_comes : (x : Option Expr) (r : Ty) (v : Value) → Delivers p scope r x → AllBoxed slots (addresses_if scope x) → Suits r v → Comes (Wrote ts slots s) (deliver c x v)
  deliver_comes None r v g b h = unchanged
  deliver_comes (Some e) r v g b h = assign_comes e g.0 v g.1 b (r, g.2, h)

  -- ---- calls

  calls_come : (found : Found) (g : Function) (es : Exprs) → function_named p g.called ≡ Some g → (is_detached f.mode ≡ true → is_detached g.mode ≡ true) → AllGet p scope (parameter_types g) es
      → AllBoxed slots (addresses_all scope es) → Awaits p scope found g.result → Comes (ActOk d p f scope ts slots s found) (calls c g es)
  calls_come found g es is_g closed gets b awaits =
      comes_then (AllBecome (parameter_types g)) (ActOk d p f scope ts slots s found) (values c es) _ (all_get_come c ts in_scope in_slots (parameter_types g) es gets b) λ vs h.
      comes_then (AllSuit (parameter_types g)) (ActOk d p f scope ts slots s found) (arguments (parameter_types g) vs) _ (arguments_come (parameter_types g) vs h) (λ ws k. (is_g, k, closed, awaits))

  host_comes : (found : Found) (x : Text) (es : Exprs) → is_detached f.mode ≡ false → EachGets p scope (TyInt Long) es → AllBoxed slots (addresses_all scope es) → Awaits p scope found (TyInt Long)
      → (r : Ty) (ps : List Ty) (o : Option Primitive) (u : Option Function) → Comes (ActOk d p f scope ts slots s found) (calls_named c x es (AFunction Extern r ps) o u)
  host_comes found x es apart gets b awaits r ps o u =
      comes_then (EachBecomes (TyInt Long)) (ActOk d p f scope ts slots s found) (values c es) _ (each_gets_come c ts in_scope in_slots (TyInt Long) es gets b) λ vs h.
      comes_then AllWhole (ActOk d p f scope ts slots s found) (all_long vs) _ (longs_come vs h) (λ ws k. (TyInt Long, AsksHost x ws apart k, awaits))

  named_comes : (found : Found) (x : Text) (es : Exprs) (mode : Mode) (r : Ty) (ps : List Ty) (o : Option Primitive) (g : Function) → is_own mode ≡ true → Comes (ActOk d p f scope ts slots s found) (calls c g es)
      → Comes (ActOk d p f scope ts slots s found) (calls_named c x es (AFunction mode r ps) o (Some g))
  named_comes found x es Extern r ps o g e h = by_false_true e
  named_comes found x es Native r ps o g e h = h
  named_comes found x es Cps r ps o g e h = h
  named_comes found x es Detached r ps o g e h = h

  -- ---- primitives

  -- one that takes what its table says
  taken_comes : (found : Found) (prim : Primitive) (es : Exprs) → puts_text prim es ≡ None → ((vs : List Value) → takes p prim vs ≡ takes_first prim)
      → ((vs : List Value) → AllTaken p (takes_first prim) vs → PrimitiveGiven p prim vs) → is_for d prim ≡ true → (is_detached f.mode ≡ true → is_closed prim ≡ true)
      → AllGetTaken p scope (takes_first prim) es → AllBoxed slots (addresses_all scope es) → Awaits p scope found (gives prim) → Comes (ActOk d p f scope ts slots s found) (asks_with c prim es (puts_text prim es))
  taken_comes found prim es no_text table given is_d closed gets b awaits =
      subst (λ o. Comes (ActOk d p f scope ts slots s found) (asks_with c prim es o)) (sym no_text)
      (comes_then (AllReady p (takes_first prim)) (ActOk d p f scope ts slots s found) (values c es) _ (all_ready_come c ts in_scope in_slots (takes_first prim) es gets b) λ vs h.
      subst (λ us. Comes (ActOk d p f scope ts slots s found) (all_taken us vs >>= (λ ws. Gives (AsksFor (record { asked = Builtin prim; arguments = ws }))))) (sym (table vs))
      (comes_then (AllTaken p (takes_first prim)) (ActOk d p f scope ts slots s found) (all_taken (takes_first prim) vs) _ (all_taken_come p (takes_first prim) vs h) (λ ws k. (gives prim, AsksPrimitive prim ws is_d closed (given ws k), awaits))))

  -- `rt_detach`: a callback and its pointer, and a section with its arguments
  abbrev DetachReady : Text → Function → List Value → Type 0
  DetachReady x h (v ∷ w ∷ Code y ∷ vs) = IsCallback p callback_type v × Becomes (TyPointer TyVoid) w × (y ≡ x) × AllReady p (section_takes (parameter_types h)) vs
  DetachReady x h _ = ⊥

  detach_values : (x : Text) (h : Function) (a b : Expr) (es : Exprs) (r : Ty) (ps : List Ty) → GetsTaken p scope (SetOf callback_type) a → Gets p scope (TyPointer TyVoid) b
      → named p scope x ≡ AFunction Detached r ps → AllGetTaken p scope (section_takes (parameter_types h)) es
      → boxes a → boxes b → AllBoxed slots (addresses_all scope es) → Comes (DetachReady x h) (values c (AndExpr a (AndExpr b (AndExpr (ENamed x) es))))
  detach_values x h a b es r ps ga gb is_x gets ba bb bs =
      comes_then (IsCallback p callback_type) (DetachReady x h) (value c a) _ (callback_value a ga) λ v i.
      comes_then (λ l. DetachReady x h (v ∷ l)) (DetachReady x h) (values c (AndExpr b (AndExpr (ENamed x) es))) _
      (comes_then (Becomes (TyPointer TyVoid)) (λ l. DetachReady x h (v ∷ l)) (value c b) _ (got_comes c ts in_scope in_slots (TyPointer TyVoid) b gb bb) λ w j.
      comes_then (λ l. DetachReady x h (v ∷ w ∷ l)) (λ l. DetachReady x h (v ∷ l)) (values c (AndExpr (ENamed x) es)) _
      (subst (λ o. Comes (λ l. DetachReady x h (v ∷ w ∷ l)) (o >>= (λ v. values c es >>= (λ vs. Gives (v ∷ vs))))) (sym code)
      (comes_then (AllReady p (section_takes (parameter_types h))) (λ l. DetachReady x h (v ∷ w ∷ l)) (values c es) _ (all_ready_come c ts in_scope in_slots (section_takes (parameter_types h)) es gets bs) (λ vs k. (i, j, refl, k))))
      (λ l k. k))
      (λ l k. k)
    where
      code : value c (ENamed x) ≡ Gives (Code x)
      code = simp (is_x) refl

      callback_value : (a : Expr) → GetsTaken p scope (SetOf callback_type) a → Comes (IsCallback p callback_type) (value c a)
      callback_value (ENamed y) g = subst (Comes (IsCallback p callback_type)) (sym (code_comes c ts in_scope in_slots callback_type y g)) (g.function, g.is_function, g.is_type)
      callback_value _ g = absurd g

  detach_code : (x : Text) (h : Function) → IsSection p x h → (v w : Value) (z : Text) (vs : List Value) → DetachReady x h (v ∷ w ∷ Code z ∷ vs) → Comes (PrimitiveGiven p RtDetach) (all_taken (takes p RtDetach (v ∷ w ∷ Code z ∷ vs)) (v ∷ w ∷ Code z ∷ vs))
  detach_code x h section (Code y) w z vs (i, j, e, k) =
      let is_h : function_named p z ≡ Some h = ap (function_named p) e ∙ section.is_function in
      let section_z : IsSection p z h = subst (λ z. IsSection p z h) (sym e) section in
      subst (λ o. Comes (PrimitiveGiven p RtDetach) (all_taken (callback_and_pointer ++ detach_takes o) (Code y ∷ w ∷ Code z ∷ vs))) (sym is_h)
      (comes_then (λ l. PrimitiveGiven p RtDetach (Code y ∷ l)) (PrimitiveGiven p RtDetach) (assigned (TyPointer TyVoid) w >>= (λ w2. (all_taken (section_takes (parameter_types h)) vs >>= (λ ws. Gives (Code z ∷ ws))) >>= (λ l. Gives (w2 ∷ l)))) (λ l. Gives (Code y ∷ l))
      (comes_then (Suits (TyPointer TyVoid)) (λ l. PrimitiveGiven p RtDetach (Code y ∷ l)) (assigned (TyPointer TyVoid) w) _ (becomes_comes (TyPointer TyVoid) w j) λ w2 m.
      comes_then (λ l. PrimitiveGiven p RtDetach (Code y ∷ w2 ∷ l)) (λ l. PrimitiveGiven p RtDetach (Code y ∷ l)) (all_taken (section_takes (parameter_types h)) vs >>= (λ ws. Gives (Code z ∷ ws))) (λ l. Gives (w2 ∷ l))
      (comes_then (AllTaken p (section_takes (parameter_types h))) (λ l. PrimitiveGiven p RtDetach (Code y ∷ w2 ∷ l)) (all_taken (section_takes (parameter_types h)) vs) _ (all_taken_come p (section_takes (parameter_types h)) vs k) (λ ws n. (i, m, (h, section_z, n))))
      (λ l n. n))
      (λ l n. n))
  detach_code x h section _ w z vs g = absurd g.0

  detach_taken : (x : Text) (h : Function) → IsSection p x h → (vs : List Value) → DetachReady x h vs → Comes (PrimitiveGiven p RtDetach) (all_taken (takes p RtDetach vs) vs)
  detach_taken x h section (v ∷ w ∷ Code z ∷ vs) g = detach_code x h section v w z vs g
  detach_taken x h section _ g = absurd g

  asks_come : (found : Found) (prim : Primitive) (es : Exprs) → TakesArguments p scope prim es → is_for d prim ≡ true → (is_detached f.mode ≡ true → is_closed prim ≡ true)
      → AllBoxed slots (addresses_all scope es) → Awaits p scope found (gives prim) → Comes (ActOk d p f scope ts slots s found) (asks_with c prim es (puts_text prim es))
  asks_come found Puts (AndExpr (EText bytes) NoExpr) g is_d closed b awaits = (TyVoid, AsksPrimitive Puts (byte_values bytes) is_d closed tt, awaits)
  asks_come found Puts _ g is_d closed b awaits = absurd g
  asks_come found RtDetach (AndExpr a (AndExpr e (AndExpr (ENamed x) es))) g is_d closed b awaits =
      let bb = boxed_right slots (addresses scope a) (addresses_all scope (AndExpr e (AndExpr (ENamed x) es))) b in
      comes_then (DetachReady x g.3.function) (ActOk d p f scope ts slots s found) (values c (AndExpr a (AndExpr e (AndExpr (ENamed x) es)))) _
      (detach_values x g.3.function a e es g.2.0 g.2.1 g.0 g.1 g.2.2 g.3.arguments (boxed_left slots (addresses scope a) (addresses_all scope (AndExpr e (AndExpr (ENamed x) es))) b)
      (boxed_left slots (addresses scope e) (addresses_all scope es) bb) (boxed_right slots (addresses scope e) (addresses_all scope es) bb)) λ vs h.
      comes_then (PrimitiveGiven p RtDetach) (ActOk d p f scope ts slots s found) (all_taken (takes p RtDetach vs) vs) _ (detach_taken x g.3.function g.3.section vs h)
      (λ ws k. (TyVoid, AsksPrimitive RtDetach ws is_d closed k, awaits))
  asks_come found RtDetach _ g is_d closed b awaits = absurd g
  asks_come found prim es g is_d closed b awaits = taken_comes found prim es refl (λ vs. refl) (λ vs h. h) is_d closed g b awaits

  -- ---- calls by a pointer

  variable_call : (x : Text) (es : Exprs) (m : Meant) (o : Option Primitive) (u : Option Function) → is_variable m ≡ true → calls_named c x es m o u ≡ calls_value c (ENamed x) es
  variable_call x es (ALocal k t) o u e = refl
  variable_call x es (AGlobal n t) o u e = refl
  variable_call x es _ o u e = by_false_true e

  pointer_call : (g : Expr) (es : Exprs) → is_pointer_call p scope g ≡ true → calls_expr c g es ≡ calls_value c g es
  pointer_call (ENamed x) es e = variable_call x es (named p scope x) (primitive_named x) (function_named p x) e
  pointer_call (EInteger kind z) es e = refl
  pointer_call (ECharacter z) es e = refl
  pointer_call (EText bytes) es e = refl
  pointer_call (EUnary sign e1) es e = refl
  pointer_call (EBinary op a b) es e = refl
  pointer_call (EAnd a b) es e = refl
  pointer_call (EOr a b) es e = refl
  pointer_call (EChoose q a b) es e = refl
  pointer_call (ECast t e1) es e = refl
  pointer_call (ESizeOf t) es e = refl
  pointer_call (EIndex a i) es e = refl
  pointer_call (EMember e1 x) es e = refl
  pointer_call (EArrow e1 x) es e = refl
  pointer_call (ECall g gs) es e = refl

  -- a function that the program defines, with this result and these parameters
  abbrev IsCallee : Ty → List Ty → Function → Type 0
  IsCallee r us g = (function_named p g.called ≡ Some g) × (g.result ≡ r) × (parameter_types g ≡ us)

  typed_callee : (r : Ty) (ps : Tys) (x : Text) (o : Option Function) → function_named p x ≡ o → Comes (IsCallee r (list_of_tys ps)) (function_of_type (TyCode r ps) o)
  typed_callee r ps x None e = tt
  typed_callee r ps x (Some g) e = go (same_type (TyCode r ps) (function_type g.result (parameter_types g))) refl
    where
      go : (b : Bool) → same_type (TyCode r ps) (function_type g.result (parameter_types g)) ≡ b → Comes (IsCallee r (list_of_tys ps)) (cond b (Gives g) (Faults F.Code))
      go true h =
          let i = type_is (TyCode r ps) (function_type g.result (parameter_types g)) h in
          (found_again p x g e, sym (ap result_of i), sym (ap code_parameters i ∙ list_back (parameter_types g)))
      go false h = tt

  callee_comes : (r : Ty) (ps : Tys) (v : Value) → Suits (TyCode r ps) v → Comes (IsCallee r (list_of_tys ps)) (callee p (TyCode r ps) v)
  callee_comes r ps Unset h = tt
  callee_comes r ps Null h = tt
  callee_comes r ps (Code x) h = typed_callee r ps x (function_named p x) refl
  callee_comes r ps _ h = absurd h

  pointer_comes : (found : Found) (g : Expr) (t : Typed) (r : Ty) (ps : Tys) (es : Exprs) → is_detached f.mode ≡ false → typing p scope g ≡ Some t → used t ≡ Some (TyCode r ps) → AllGet p scope (list_of_tys ps) es
      → boxes g → AllBoxed slots (addresses_all scope es) → Awaits p scope found r → Comes (ActOk d p f scope ts slots s found) (calls_value c g es)
  pointer_comes found g t r ps es apart is_t is_u gets bg b awaits =
      comes_then (Suits (TyCode r ps)) (ActOk d p f scope ts slots s found) (value c g) _ (value_suits c ts in_scope in_slots g t (TyCode r ps) bg is_t is_u refl) λ v h.
      comes_needed (ActOk d p f scope ts slots s found) (used_type c g) (TyCode r ps) _ (ap (λ o. and_then o used) is_t ∙ is_u)
      (comes_then (AllBecome (list_of_tys ps)) (ActOk d p f scope ts slots s found) (values c es) _ (all_get_come c ts in_scope in_slots (list_of_tys ps) es gets b) λ vs i.
      comes_then (AllSuit (list_of_tys ps)) (ActOk d p f scope ts slots s found) (arguments (list_of_tys ps) vs) _ (arguments_come (list_of_tys ps) vs i) λ ws j.
      comes_then (IsCallee r (list_of_tys ps)) (ActOk d p f scope ts slots s found) (callee p (TyCode r ps) v) _ (callee_comes r ps v h) λ u k.
      (k.0, subst (λ us. AllSuit us ws) (sym k.2) j, (λ e. by_false_true (sym apart ∙ e)), subst (Awaits p scope found) (sym k.1) awaits))

  call_comes : (found : Found) (g : Expr) (es : Exprs) (r : Ty) → Calls d p f.mode scope g es r → boxes g → AllBoxed slots (addresses_all scope es) → Awaits p scope found r → Comes (ActOk d p f scope ts slots s found) (calls_expr c g es)
  call_comes found _ _ _ (CallsHost x r ps es apart is_x gets many) bg b awaits =
      subst (λ m. Comes (ActOk d p f scope ts slots s found) (calls_named c x es m (primitive_named x) (function_named p x))) (sym is_x) (host_comes found x es apart gets b awaits r ps (primitive_named x) (function_named p x))
  call_comes found _ _ _ (CallsFunction x mode r ps g es own is_x is_g closed cps gets) bg b awaits =
      subst (λ m. Comes (ActOk d p f scope ts slots s found) (calls_named c x es m (primitive_named x) (function_named p x))) (sym is_x)
      (subst (λ o. Comes (ActOk d p f scope ts slots s found) (calls_named c x es (AFunction mode r ps) (primitive_named x) o)) (sym is_g)
      (named_comes found x es mode r ps (primitive_named x) g own (calls_come found g es (found_again p x g is_g) closed gets b awaits)))
  call_comes found _ _ _ (CallsPrimitive x prim es is_x is_prim is_d closed cps gets) bg b awaits =
      subst (λ m. Comes (ActOk d p f scope ts slots s found) (calls_named c x es m (primitive_named x) (function_named p x))) (sym is_x)
      (subst (λ o. Comes (ActOk d p f scope ts slots s found) (calls_named c x es NotMeant o (function_named p x))) (sym is_prim) (asks_come found prim es gets is_d closed b awaits))
  call_comes found _ _ _ (CallsPointer g t r ps es apart is_pointer is_t is_u gets) bg b awaits =
      subst (Comes (ActOk d p f scope ts slots s found)) (sym (pointer_call g es is_pointer)) (pointer_comes found g t r ps es apart is_t is_u gets bg b awaits)

  -- ---- statements

  leaves_come : (found : Found) (v : Value) → Suits f.result v → Comes (ActOk d p f scope ts slots s found) (leaves c v)
  leaves_come found v h = comes_then (CopyStays s) (ActOk d p f scope ts slots s found) (free_slots slots s) _ (free_comes slots s) (λ t k. (h, k))

  detach_comes : (found : Found) (x : Text) (es : Exprs) → IsOpen d f.mode → Detaches p scope x es → AllBoxed slots (addresses_all scope es) → Awaits p scope found (TyInt Int) → Comes (ActOk d p f scope ts slots s found) (detaches c x es)
  detach_comes found x es is_open g b awaits =
      comes_needed (ActOk d p f scope ts slots s found) (function_named p x) g.function _ g.section.is_function
      (comes_then (AllReady p (section_takes (parameter_types g.function))) (ActOk d p f scope ts slots s found) (values c es) _ (all_ready_come c ts in_scope in_slots (section_takes (parameter_types g.function)) es g.arguments b) λ vs h.
      comes_then (AllTaken p (section_takes (parameter_types g.function))) (ActOk d p f scope ts slots s found) (all_taken (section_takes (parameter_types g.function)) vs) _ (all_taken_come p (section_takes (parameter_types g.function)) vs h)
      (λ ws k. (TyInt Int, AsksSection x ws is_open (g.function, g.section, k), awaits)))

  spawn_comes : (found : Found) (x : Text) (es : Exprs) (g : Function) → IsOpen d f.mode → function_named p x ≡ Some g → AllGet p scope (parameter_types g) es → AllBoxed slots (addresses_all scope es) → Awaits p scope found TyVoid
      → Comes (ActOk d p f scope ts slots s found) (spawns c x es)
  spawn_comes found x es g is_open is_g gets b awaits =
      comes_needed (ActOk d p f scope ts slots s found) (function_named p x) g _ is_g
      (comes_then (AllBecome (parameter_types g)) (ActOk d p f scope ts slots s found) (values c es) _ (all_get_come c ts in_scope in_slots (parameter_types g) es gets b) λ vs h.
      comes_then (AllSuit (parameter_types g)) (ActOk d p f scope ts slots s found) (arguments (parameter_types g) vs) _ (arguments_come (parameter_types g) vs h)
      (λ ws k. (TyVoid, AsksSpawn x ws g is_open is_g k, awaits)))

  passes_on : (found : Found) (h : Bool) → GoesOnward found → ActOk d p f scope ts slots s found (GoesOn h s slots)
  passes_on found h o = (o, unchanged)

  simple_comes : (t : Stmt) → IsTyped d p f scope t → Stands (Simple t) → AllBoxed slots (simple_addresses scope t) → Comes (ActOk d p f scope ts slots s (Simple t)) (simple_act c f.result t)
  simple_comes (Declare x u (Some e)) g st b = assigns_come (Simple (Declare x u (Some e))) (ENamed x) e tt g tt b
  simple_comes (Declare x u None) g st b = passes_on (Simple (Declare x u None)) true tt
  simple_comes (Assign x op e) g st b = assigns_come (Simple (Assign x op e)) x (right_side op x e) tt g (boxed_left slots (addresses scope x) (addresses scope e) b) (right_boxed x e op b)
  simple_comes (Call x g es) h st b =
      let b2 = boxed_left slots (addresses_if scope x ++ addresses scope g) (addresses_all scope es) b in
      call_comes (Simple (Call x g es)) g es h.0 h.1 (boxed_right slots (addresses_if scope x) (addresses scope g) b2) (boxed_right slots (addresses_if scope x ++ addresses scope g) (addresses_all scope es) b) (x, refl, h.2)
  simple_comes (Detach x g es) h st b = detach_comes (Simple (Detach x g es)) g es h.0 h.1 (boxed_right slots (addresses_if scope x) (addresses_all scope es) b) (x, refl, h.2)
  simple_comes (Spawn g es) h st b = spawn_comes (Simple (Spawn g es)) g es h.1.0 h.0 h.1.1 h.1.2 b (None, refl, tt)
  simple_comes (Return None) h st b = leaves_come (Simple (Return None)) Unset tt
  simple_comes (Return (Some e)) h st b =
      comes_then (Becomes f.result) (ActOk d p f scope ts slots s (Simple (Return (Some e)))) (value c e) _ (got_comes c ts in_scope in_slots f.result e h b) λ v i.
      comes_then (Suits f.result) (ActOk d p f scope ts slots s (Simple (Return (Some e)))) (assigned f.result v) (leaves c) (becomes_comes f.result v i) (λ w j. leaves_come (Simple (Return (Some e))) w j)
  simple_comes (Block ss) g st b = passes_on (Simple (Block ss)) true tt
  simple_comes Empty g st b = passes_on (Simple Empty) true tt
  simple_comes (If q x y) g st b = passes_on (Simple (If q x y)) true tt
  simple_comes (While q x) g st b = passes_on (Simple (While q x)) true tt
  simple_comes (DoWhile x q) g st b = passes_on (Simple (DoWhile x q)) true tt
  simple_comes (For x q y z) g st b = passes_on (Simple (For x q y z)) true tt
  simple_comes (Goto l) g st b = passes_on (Simple (Goto l)) true tt
  simple_comes (Label l x) g st b = passes_on (Simple (Label l x)) true tt
  simple_comes Break g st b = passes_on (Simple Break) true tt
  simple_comes Continue g st b = passes_on (Simple Continue) true tt

  -- what a typed statement or test does
  pub act_comes : (found : Found) → FoundTyped d p f scope found → Stands found → AllBoxed slots (found_addresses scope found) → Comes (ActOk d p f scope ts slots s found) (found_act c f.result found)
  act_comes (Simple t) g st b = simple_comes t g st b
  act_comes (Test None) g st b = passes_on (Test None) true tt
  act_comes (Test (Some e)) g st b =
      comes_then (Suits g.type) (ActOk d p f scope ts slots s (Test (Some e))) (value c e) _ (value_suits c ts in_scope in_slots e g.typed g.type b g.is_typed g.is_type (testable_scalar g.type g.testable)) λ v h.
      comes_then (λ (b : Bool). Unit {0}) (ActOk d p f scope ts slots s (Test (Some e))) (holds v) _ (holds_comes g.type v g.testable h) (λ t k. (tt, unchanged))
  act_comes Nothing g st b = absurd st

  -- what a function does at its end
  pub end_comes : Comes (LeftOk f.result s) (leaves c Unset)
  end_comes = comes_then (CopyStays s) (LeftOk f.result s) (free_slots slots s) _ (free_comes slots s) (λ t k. (tt, k))

  -- ---- values that arrive

  target_onward : (found : Found) (x : Option Expr) → target_of found ≡ Some x → AllBoxed slots (found_addresses scope found) → GoesOnward found × AllBoxed slots (addresses_if scope x)
  target_onward (Simple (Call y g es)) x e b = (
    tt,
    subst (λ y. AllBoxed slots (addresses_if scope y)) (some_is y x e)
        (boxed_left slots (addresses_if scope y) (addresses scope g) (boxed_left slots (addresses_if scope y ++ addresses scope g) (addresses_all scope es) b)),
  )
  target_onward (Simple (Detach y g es)) x e b = (tt, subst (λ y. AllBoxed slots (addresses_if scope y)) (some_is y x e) (boxed_left slots (addresses_if scope y) (addresses_all scope es) b))
  target_onward (Simple (Spawn g es)) x e b = (tt, subst (λ y. AllBoxed slots (addresses_if scope y)) (some_is None x e) tt)
  target_onward _ x e b = no_some x e

  -- a value arrives
  pub arrival_comes : (found : Found) (r : Ty) (v : Value) → Awaits p scope found r → Suits r v → AllBoxed slots (found_addresses scope found) → Comes (ArrivedOk ts slots s found) (arrives c found (Some v))
  arrival_comes found r v awaits h b =
      let o = target_onward found awaits.0 awaits.1 b in
      comes_needed (ArrivedOk ts slots s found) (target_of found) awaits.0 _ awaits.1
      (comes_then (Wrote ts slots s) (ArrivedOk ts slots s found) (deliver c awaits.0 v) _ (deliver_comes awaits.0 r v awaits.2 o.1 h) (λ r k. (o.0, k)))
