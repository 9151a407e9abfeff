-- `&` is applied to boxes, globals and functions alone, in each function of an accepted program.
use Rattle.std.proofs.Common.{◌≡◌, ◌⊎◌, inl, inr, ◌&&◌, not, ℕ, zero, suc, ◌==◌, Bool, true, false, cond, List, [], ◌∷◌, ◌++◌, length, slice_get, Option, Some, None, bytes_eq, refl, sym, ◌∙◌, ap, subst}
use Rattle.cpc_base.specs.Bytes.{Text}
use Rattle.cpc_base.specs.declared.stop.Dialect.TheVariants as D
use Rattle.cpc_base.proofs.Truth.{eq_reflexive, or_neither, and_holds}
use Rattle.cpc_num.specs.declared.kinds.Op.{Op}
use Rattle.cpc_store.specs.Store.{Unset}
use Rattle.cpc_tree.specs.declared.program.Mode.{Mode}
use Rattle.cpc_tree.specs.declared.program.UnaryOp.TheVariants.{AddressOf}
use Rattle.cpc_tree.specs.Lists.{holds_number}
use Rattle.cpc_tree.specs.Points.{Path, Found, Simple, Test, Nothing, found}
use Rattle.cpc_tree.specs.Primitives.{Primitive, Puts, RtDetach, takes_first, Taken, AnyInteger, SetOf, FreeOf}
use Rattle.cpc_tree.specs.Registers.{slot_of, addresses, addresses_all, addresses_if, addressed, variables, scope_in_function, outer_scope}
use Rattle.cpc_tree.specs.Syntax.{Ty, TyVoid, TyInt, TyCondvar, TyPointer, TyCode, TyStruct, TyArray, Expr, ENamed, EInteger, ECharacter, EText, EUnary, EBinary, EAnd, EOr, EChoose, ECast, ESizeOf, EIndex, EMember, EArrow, ECall, Exprs, NoExpr, AndExpr, Stmt, Declare, Assign, Call, Detach, Spawn, Return, Variable, Function, Program}
use Rattle.cpc_tree.specs.Typing.{Scope, ALocal, named, item_named, function_named, is_scalar, Typed, typing, tested_type, AValue, APlace, binary_type, choice_type, sum_type, target, is_null, parameter_types, list_of_tys, ◌>>=◌}
use Rattle.cpc_tree.proofs.Named.{no_local}
use Rattle.cpc_tree.proofs.Options.{then_some}
use Rattle.cpc_meaning.specs.Act.{right_side}
use Rattle.cpc_meaning.specs.Eval.{Slot, Register, Boxed}
use Rattle.cpc_meaning.specs.Requests.{section_takes}
use Rattle.cpc_check_laws.specs.Sound.Suits.{IsBoxed, AllBoxed}
use Rattle.cpc_check_laws.specs.Sound.Typed.{is_for, Gets, AllGet, EachGets, GetsTaken, AllGetTaken, TakesArguments, Delivers, Calls, CallsHost, CallsFunction, CallsPrimitive, CallsPointer, IsTyped, FoundTyped, BodyTyped}
use Rattle.cpc_check_laws.proofs.Sound.Answers.{no_some}
use Rattle.cpc_check_laws.proofs.Sound.Expressions.{sign_some, tested_is}
use Rattle.cpc_check_laws.proofs.Sound.Paths.{simple_addresses, found_addresses, function_boxed}
use Rattle.cpc_convert_flat_laws.specs.Addresses.{avoids, avoids_all, avoids_if}
use Rattle.cpc_convert_image_laws.specs.Locals.{reading_of}
use Rattle.cpc_convert_routines.specs.Addressed.{bars, avoids_simple, avoids_found}
use Rattle.cpc_convert_routines.specs.Names.{variable_name}
use Rattle.cpc_convert_routines.specs.Routines.{routine_of, readings_of, is_plain}
use Rattle.cpc_lift_laws.specs.Boxes.{has_block, is_box_in}
use Rattle.cpc_lift_laws.proofs.Lift.{boxes_exact}
use Rattle.cpc_lifted_laws.specs.Accepted.Names.{HasNames}
use Rattle.cpc_lifted_laws.specs.Accepted.Points.{UsedName, IsVariable, IsItem}
use Rattle.cpc_lifted_laws.proofs.Accepted.Used.{typed_names, two_parts}

-- ---- which slots are registers

-- slots of which the k-th alone is a register
abbrev unboxed : ℕ → List Slot
unboxed zero = Register Unset ∷ []
unboxed (suc k) = Boxed 0 ∷ unboxed k

only_register : (k : ℕ) → IsBoxed (slice_get (unboxed k) k) → ⊥
only_register zero h = h
only_register (suc k) h = only_register k h

others_boxed : (k j : ℕ) → (j ≡ k → ⊥) → IsBoxed (slice_get (unboxed k) j)
others_boxed zero zero h = absurd (h refl)
others_boxed zero (suc j) h = tt
others_boxed (suc k) zero h = tt
others_boxed (suc k) (suc j) h = others_boxed k j (λ e. h (ap suc e))

apart : (j k : ℕ) → (j == k) ≡ false → j ≡ k → ⊥
apart j k e i = let z : true ≡ false = sym (eq_reflexive k) ∙ ap (λ n. n == k) (sym i) ∙ e in cc

all_boxed : (k : ℕ) (ks : List ℕ) → holds_number ks k ≡ false → AllBoxed (unboxed k) ks
all_boxed k [] e = tt
all_boxed k (j ∷ ks) e = let h = or_neither (j == k) (holds_number ks k) e in (others_boxed k j (apart j k h.0), all_boxed k ks h.1)

module _ (f : Function) where
  -- these are variables that have an address
  abbrev pub AllHeld : List ℕ → Type 0
  AllHeld [] = Unit {0}
  AllHeld (k ∷ ks) = (holds_number (addressed f) k ≡ true) × AllHeld ks

  held_left : (xs ys : List ℕ) → AllHeld (xs ++ ys) → AllHeld xs
  held_left [] ys h = tt
  held_left (x ∷ xs) ys h = (h.0, held_left xs ys h.1)

  held_right : (xs ys : List ℕ) → AllHeld (xs ++ ys) → AllHeld ys
  held_right [] ys h = h
  held_right (x ∷ xs) ys h = held_right xs ys h.1

  all_held : (ks : List ℕ) → ((k : ℕ) → holds_number (addressed f) k ≡ false → AllBoxed (unboxed k) ks) → AllHeld ks
  all_held [] h = tt
  all_held (k ∷ ks) h = (go (holds_number (addressed f) k) refl, all_held ks (λ j e. (h j e).1))
    where
      go : (b : Bool) → holds_number (addressed f) k ≡ b → b ≡ true
      go true e = refl
      go false e = absurd (only_register k (h k e).0)

  -- what stands at a path takes the addresses of such variables alone
  pub path_held : (p : Program) (path : Path) → BodyTyped D.Cpc p f (outer_scope f) (length f.parameters) f.body → AllHeld (found_addresses (scope_in_function f path) (found f.body path))
  path_held p path t = all_held _ (λ k e. function_boxed (unboxed k) D.Cpc p f path t (all_boxed k (addressed f) e))

-- ---- names

box_is : (a b : Bool) → b ≡ true → not (a && not b) ≡ true
box_is true b e = ap (λ x. not (not x)) e
box_is false b e = refl

module _ (p : Program) (names : HasNames p) (f : Function) (is : function_named p f.called ≡ Some f) (scope : Scope)
    (variables_are : (y : Text) (k : ℕ) (t : Ty) → named p scope y ≡ ALocal k t → slice_get (variables f) k ≡ Some (record { called = y; type = t })) where
  -- a name to which `&` may not be applied
  abbrev Bars : Text → Bool
  Bars x = bars (readings_of (routine_of p f) scope x) x

  -- a name is that of no variable in scope, or of one that is read so
  abbrev Looked : Scope → Text → Type 0
  Looked scope x =
      ((readings_of (routine_of p f) scope x ≡ None) × (named p scope x ≡ item_named 0 p x))
      ⊎ ((k : ℕ) × (t : Ty) × (readings_of (routine_of p f) scope x ≡ Some (reading_of (is_plain (routine_of p f) k) (variable_name k x) x)) × (named p scope x ≡ ALocal k t) × (slot_of scope x ≡ k ∷ []))

  looked : (scope : Scope) (x : Text) → Looked scope x
  looked [] x = inl (refl, refl)
  looked (l ∷ scope) x = go (bytes_eq l.called x) (looked scope x)
    where
      go : (b : Bool) → Looked scope x
          → ((cond b (Some (reading_of (is_plain (routine_of p f) l.slot) (variable_name l.slot x) x)) (readings_of (routine_of p f) scope x) ≡ None) × (cond b (ALocal l.slot l.type) (named p scope x) ≡ item_named 0 p x))
          ⊎ ((k : ℕ) × (t : Ty) × (cond b (Some (reading_of (is_plain (routine_of p f) l.slot) (variable_name l.slot x) x)) (readings_of (routine_of p f) scope x) ≡ Some (reading_of (is_plain (routine_of p f) k) (variable_name k x) x))
          × (cond b (ALocal l.slot l.type) (named p scope x) ≡ ALocal k t) × (cond b (l.slot ∷ []) (slot_of scope x) ≡ k ∷ []))
      go true h = inr (l.slot, l.type, refl, refl, refl)
      go false h = h

  -- a variable that has an address is a box
  addressed_box : (k : ℕ) (x : Variable) → slice_get (variables f) k ≡ Some x → holds_number (addressed f) k ≡ true → is_plain (routine_of p f) k ≡ false
  addressed_box k x e h =
      let marked = ap (λ o. is_box_in o k) is ∙ ap (has_block f k) e ∙ box_is (is_scalar x.type) (holds_number (addressed f) k) h in
      ap not ((boxes_exact p f.called k).1 marked)

  name_free : (x : Text) → UsedName p scope x → AllHeld f (slot_of scope x) → Bars x ≡ false
  name_free x u h = go (looked scope x) u
    where
      go : Looked scope x → UsedName p scope x → Bars x ≡ false
      go (inl (none, item)) (IsVariable k t i) = absurd (no_local 0 p x k t (sym item ∙ i))
      go (inl (none, item)) (IsItem i s) = ap (λ o. bars o x) none ∙ s.unmarked
      go (inr w) u =
          let held = (subst (AllHeld f) w.4 h).0 in
          ap (λ o. bars o x) w.2 ∙ ap (λ b. bars (Some (reading_of b (variable_name w.0 x) x)) x) (addressed_box w.0 _ (variables_are x w.0 w.1 w.3) held)

  -- ---- expressions

  abbrev Avoids : Expr → Type 0
  Avoids e = avoids Bars e ≡ true

  tested_avoids : (e : Expr) (t : Ty) → ((d : Typed) → typing p scope e ≡ Some d → Avoids e) → tested_type (typing p scope e) ≡ Some t → Avoids e
  tested_avoids e t h k = let m = tested_is (typing p scope e) t k in h m.0 m.1

  typed_avoids : (e : Expr) (d : Typed) → typing p scope e ≡ Some d → AllHeld f (addresses scope e) → Avoids e
  typed_avoids (ENamed x) d h w = refl
  typed_avoids (EInteger kind z) d h w = refl
  typed_avoids (ECharacter z) d h w = refl
  typed_avoids (EText bytes) d h w = refl
  typed_avoids (EUnary AddressOf (ENamed x)) d h w = ap not (name_free x (typed_names p names scope (EUnary AddressOf (ENamed x)) d h) w)
  typed_avoids (EUnary sign (ENamed x)) d h w = refl
  typed_avoids (EUnary sign e) d h w = let k = sign_some sign (typing p scope e) d h in typed_avoids e k.0 k.1 w
  typed_avoids (EBinary op a b) d h w =
      let k = two_parts p names scope (typing p scope a) (typing p scope b) (λ t u. binary_type p op (is_null a) (is_null b) t u >>= λ r. Some (AValue r)) d h in
      and_holds _ _ (typed_avoids a k.0.0 k.0.1 (held_left f (addresses scope a) (addresses scope b) w)) (typed_avoids b k.1.0 k.1.1 (held_right f (addresses scope a) (addresses scope b) w))
  typed_avoids (EAnd a b) d h w =
      let k = then_some (tested_type (typing p scope a)) _ d h in
      let l = then_some (tested_type (typing p scope b)) _ d k.2 in
      and_holds _ _ (tested_avoids a k.0 (λ d h. typed_avoids a d h (held_left f (addresses scope a) (addresses scope b) w)) k.1) (tested_avoids b l.0 (λ d h. typed_avoids b d h (held_right f (addresses scope a) (addresses scope b) w)) l.1)
  typed_avoids (EOr a b) d h w =
      let k = then_some (tested_type (typing p scope a)) _ d h in
      let l = then_some (tested_type (typing p scope b)) _ d k.2 in
      and_holds _ _ (tested_avoids a k.0 (λ d h. typed_avoids a d h (held_left f (addresses scope a) (addresses scope b) w)) k.1) (tested_avoids b l.0 (λ d h. typed_avoids b d h (held_right f (addresses scope a) (addresses scope b) w)) l.1)
  typed_avoids (EChoose c a b) d h w =
      let o = then_some (tested_type (typing p scope c)) _ d h in
      let k = two_parts p names scope (typing p scope a) (typing p scope b) (λ t u. choice_type (is_null a) (is_null b) t u >>= λ r. Some (AValue r)) d o.2 in
      let front = held_left f (addresses scope c ++ addresses scope a) (addresses scope b) w in
      and_holds _ _ (tested_avoids c o.0 (λ d h. typed_avoids c d h (held_left f (addresses scope c) (addresses scope a) front)) o.1)
      (and_holds _ _ (typed_avoids a k.0.0 k.0.1 (held_right f (addresses scope c) (addresses scope a) front)) (typed_avoids b k.1.0 k.1.1 (held_right f (addresses scope c ++ addresses scope a) (addresses scope b) w)))
  typed_avoids (ECast t e) d h w = let k = then_some (typing p scope e) _ d h in typed_avoids e k.0 k.1 w
  typed_avoids (ESizeOf t) d h w = refl
  typed_avoids (EIndex a i) d h w =
      let k = two_parts p names scope (typing p scope a) (typing p scope i) (λ t u. sum_type p t u >>= λ r. target r >>= λ v. Some (APlace v)) d h in
      and_holds _ _ (typed_avoids a k.0.0 k.0.1 (held_left f (addresses scope a) (addresses scope i) w)) (typed_avoids i k.1.0 k.1.1 (held_right f (addresses scope a) (addresses scope i) w))
  typed_avoids (EMember e x) d h w = let k = then_some (typing p scope e) _ d h in typed_avoids e k.0 k.1 w
  typed_avoids (EArrow e x) d h w = let k = then_some (typing p scope e) _ d h in typed_avoids e k.0 k.1 w
  typed_avoids (ECall g es) d h w = no_some d h

  -- ---- arguments

  abbrev AllAvoid : Exprs → Type 0
  AllAvoid es = avoids_all Bars es ≡ true

  gets_avoids : (t : Ty) (e : Expr) → Gets p scope t e → AllHeld f (addresses scope e) → Avoids e
  gets_avoids t e h w = typed_avoids e h.typed h.is_typed w

  row_avoids : (e : Expr) (es : Exprs) → AllHeld f (addresses_all scope (AndExpr e es)) → (AllHeld f (addresses scope e) → Avoids e) → (AllHeld f (addresses_all scope es) → AllAvoid es) → AllAvoid (AndExpr e es)
  row_avoids e es w h k = and_holds _ _ (h (held_left f (addresses scope e) (addresses_all scope es) w)) (k (held_right f (addresses scope e) (addresses_all scope es) w))

  all_get_avoid : (ts : List Ty) (es : Exprs) → AllGet p scope ts es → AllHeld f (addresses_all scope es) → AllAvoid es
  all_get_avoid [] NoExpr h w = refl
  all_get_avoid (t ∷ ts) (AndExpr e es) h w = row_avoids e es w (gets_avoids t e h.0) (all_get_avoid ts es h.1)
  all_get_avoid [] (AndExpr e es) h w = absurd h
  all_get_avoid (t ∷ ts) NoExpr h w = absurd h

  each_gets_avoid : (t : Ty) (es : Exprs) → EachGets p scope t es → AllHeld f (addresses_all scope es) → AllAvoid es
  each_gets_avoid t NoExpr h w = refl
  each_gets_avoid t (AndExpr e es) h w = row_avoids e es w (gets_avoids t e h.0) (each_gets_avoid t es h.1)

  code_avoids : (r : Ty) (ps : _) (e : Expr) → GetsTaken p scope (SetOf (TyCode r ps)) e → Avoids e
  code_avoids r ps (ENamed x) h = refl
  code_avoids r ps _ h = absurd h

  taken_avoids : (t : Taken) (e : Expr) → GetsTaken p scope t e → AllHeld f (addresses scope e) → Avoids e
  taken_avoids AnyInteger e h w = gets_avoids _ e h w
  taken_avoids (SetOf (TyCode r ps)) e h w = code_avoids r ps e h
  taken_avoids (SetOf TyVoid) e h w = gets_avoids _ e h w
  taken_avoids (SetOf (TyInt k)) e h w = gets_avoids _ e h w
  taken_avoids (SetOf TyCondvar) e h w = gets_avoids _ e h w
  taken_avoids (SetOf (TyPointer t)) e h w = gets_avoids _ e h w
  taken_avoids (SetOf (TyStruct tag)) e h w = gets_avoids _ e h w
  taken_avoids (SetOf (TyArray t n)) e h w = gets_avoids _ e h w
  taken_avoids (FreeOf t) e h w = gets_avoids _ e h w

  all_taken_avoid : (ts : List Taken) (es : Exprs) → AllGetTaken p scope ts es → AllHeld f (addresses_all scope es) → AllAvoid es
  all_taken_avoid [] NoExpr h w = refl
  all_taken_avoid (t ∷ ts) (AndExpr e es) h w = row_avoids e es w (taken_avoids t e h.0) (all_taken_avoid ts es h.1)
  all_taken_avoid [] (AndExpr e es) h w = absurd h
  all_taken_avoid (t ∷ ts) NoExpr h w = absurd h

  primitive_avoids : (prim : Primitive) (es : Exprs) → is_for D.Cpc prim ≡ true → TakesArguments p scope prim es → AllHeld f (addresses_all scope es) → AllAvoid es
  primitive_avoids Puts (AndExpr (EText bytes) NoExpr) c h w = refl
  primitive_avoids Puts _ c h w = absurd h
  primitive_avoids RtDetach es c h w = absurd (cc)
  primitive_avoids prim es c h w = all_taken_avoid (takes_first prim) es h w

  -- ---- calls

  callee_avoids : (around : Mode) (g : Expr) (es : Exprs) (t : Ty) → Calls D.Cpc p around scope g es t → AllHeld f (addresses scope g) → Avoids g
  callee_avoids around _ _ _ (CallsHost x r ps es apart is_x gets many) w = refl
  callee_avoids around _ _ _ (CallsFunction x mode r ps g es own is_x is_g closed may gets) w = refl
  callee_avoids around _ _ _ (CallsPrimitive x prim es is_x is_prim is_d closed may gets) w = refl
  callee_avoids around _ _ _ (CallsPointer g typed r ps es apart is_pointer is_t is_u gets) w = typed_avoids g typed is_t w

  call_avoids : (around : Mode) (g : Expr) (es : Exprs) (t : Ty) → Calls D.Cpc p around scope g es t → AllHeld f (addresses_all scope es) → AllAvoid es
  call_avoids around _ _ _ (CallsHost x r ps es apart is_x gets many) w = each_gets_avoid _ es gets w
  call_avoids around _ _ _ (CallsFunction x mode r ps g es own is_x is_g closed may gets) w = all_get_avoid (parameter_types g) es gets w
  call_avoids around _ _ _ (CallsPrimitive x prim es is_x is_prim is_d closed may gets) w = primitive_avoids prim es is_d gets w
  call_avoids around _ _ _ (CallsPointer g typed r ps es apart is_pointer is_t is_u gets) w = all_get_avoid (list_of_tys ps) es gets w

  delivers_avoids : (r : Ty) (o : Option Expr) → Delivers p scope r o → AllHeld f (addresses_if scope o) → avoids_if Bars o ≡ true
  delivers_avoids r None h w = refl
  delivers_avoids r (Some e) h w = typed_avoids e (APlace h.0) h.1 w

  -- what is assigned has a type
  right_typed : (op : Option Op) (x e : Expr) (t : Ty) → Gets p scope t (right_side op x e) → (d : Typed) × (typing p scope e ≡ Some d)
  right_typed None x e t h = (h.typed, h.is_typed)
  right_typed (Some op) x e t h =
      (two_parts p names scope (typing p scope x) (typing p scope e) (λ t u. binary_type p op (is_null x) (is_null e) t u >>= λ r. Some (AValue r)) h.typed h.is_typed).1

  -- ---- statements

  simple_avoids : (s : Stmt) → IsTyped D.Cpc p f scope s → AllHeld f (simple_addresses scope s) → avoids_simple Bars s ≡ true
  simple_avoids (Declare x t (Some e)) h w = gets_avoids h.type e h.gets w
  simple_avoids (Assign x op e) h w =
      let k = right_typed op x e h.type h.gets in
      and_holds _ _ (typed_avoids x (APlace h.type) h.is_place (held_left f (addresses scope x) (addresses scope e) w)) (typed_avoids e k.0 k.1 (held_right f (addresses scope x) (addresses scope e) w))
  simple_avoids (Call to g es) h w =
      let front = held_left f (addresses_if scope to ++ addresses scope g) (addresses_all scope es) w in
      and_holds _ _ (delivers_avoids h.0 to h.2 (held_left f (addresses_if scope to) (addresses scope g) front))
      (and_holds _ _ (callee_avoids f.mode g es h.0 h.1 (held_right f (addresses_if scope to) (addresses scope g) front)) (call_avoids f.mode g es h.0 h.1 (held_right f (addresses_if scope to ++ addresses scope g) (addresses_all scope es) w)))
  simple_avoids (Detach to g es) h w =
      and_holds _ _ (delivers_avoids _ to h.2 (held_left f (addresses_if scope to) (addresses_all scope es) w))
      (all_taken_avoid (section_takes (parameter_types h.1.function)) es h.1.arguments (held_right f (addresses_if scope to) (addresses_all scope es) w))
  simple_avoids (Spawn g es) h w = all_get_avoid (parameter_types h.1.0) es h.1.2 w
  simple_avoids (Return (Some e)) h w = gets_avoids f.result e h w
  simple_avoids _ h w = refl

  pub found_avoids : (s : Found) → FoundTyped D.Cpc p f scope s → AllHeld f (found_addresses scope s) → avoids_found Bars s ≡ true
  found_avoids (Simple s) h w = simple_avoids s h w
  found_avoids (Test None) h w = refl
  found_avoids (Test (Some t)) h w = typed_avoids t h.typed h.is_typed w
  found_avoids Nothing h w = refl
