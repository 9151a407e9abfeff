-- A step does the same in two frames whose slots agree where they are kept: an assignment changes one slot in both.
use Rattle.std.proofs.Common.{◌≡◌, ℕ, Bool, true, false, List, ◌++◌, length, Option, Some, None, cond, refl, subst}
use Rattle.cpc_base.specs.Bytes.{Text}
use Rattle.cpc_num.specs.declared.kinds.Fault.TheVariants as F
use Rattle.cpc_num.specs.declared.kinds.Op.{Op}
use Rattle.cpc_tree.specs.Syntax.{Ty, Expr, ENamed, EInteger, ECharacter, EText, EUnary, EBinary, EAnd, EOr, EChoose, ECast, ESizeOf, EIndex, EMember, EArrow, ECall, Exprs, NoExpr, AndExpr, Stmt, Declare, Assign, Call, Detach, Spawn, Return, Function, Program}
use Rattle.cpc_tree.specs.declared.program.Mode.TheVariants.{Extern, Native, Cps, Detached}
use Rattle.cpc_tree.specs.Typing.{Scope, Meant, ALocal, AGlobal, AFunction, NotMeant, named, function_named, same_type, function_type, parameter_types, code_parameters}
use Rattle.cpc_tree.specs.Registers.{slot_of}
use Rattle.cpc_tree.specs.Points.{Found, Simple, Test, Nothing}
use Rattle.cpc_store.specs.Store.{Value, Unset, Whole, Null, At, Code, Cond, Store, save}
use Rattle.cpc_meaning.specs.Answer.{Answer, Gives, Faults, ◌>>=◌, of_result, needed}
use Rattle.cpc_meaning.specs.Eval.{Slot, Register, Context, Spot, value, values, holds, place_type, used_type, assigned}
use Rattle.cpc_meaning.specs.Slots.{free_slots}
use Rattle.cpc_meaning.specs.Requests.{Primitive, Request, all_long, arguments, primitive_named, takes, all_taken, section_takes}
use Rattle.cpc_meaning.specs.Act.{Stood, AtStatement, AtArrival, AtEnd, Act, GoesOn, Enters, Leaves, AsksFor, write, assign, deliver, right_side, assigns, calls, function_of_type, callee, calls_value, puts_text, asks_with, calls_named, calls_expr, leaves, returns, simple_act, test_act, target_of, arrives, act}
use Rattle.cpc_meaning.proofs.SameValues.{at}
use Rattle.cpc_meaning.proofs.Functions.{found_again}
use Rattle.cpc_meaning.proofs.Stores.{set_length}
use Rattle.cpc_meaning.proofs.Meeting.{BothAnswer, BothGive, BothStick, both_then, same_then, same_known}
use Rattle.cpc_lift_laws.specs.Used.{used_in, used_among, used_if, used_by, used_found, used_place, used_at, is_return, is_left}
use Rattle.cpc_lift_laws.proofs.Slots.{SlotsMeet, set_meets, frees_meet}
use Rattle.cpc_lift_laws.proofs.Kept.{Kept, kept_front, kept_back, kept_both, kept_names}
use Rattle.cpc_lift_laws.proofs.Values.{SpotsMeet, TheSlot, TheCell, same_place, same_value}

-- the same is done, over so many slots that agree
pub data ActsMeet (p : Program) (keep box : ℕ → Bool) (n : ℕ) : Act → Act → Type 0 where
  GoesOnBoth : (h : Bool) (t : Store) (new new' : List Slot) → SlotsMeet keep box new new' → length new ≡ n → ActsMeet p keep box n (GoesOn h t new) (GoesOn h t new')
  EntersBoth : (f : Function) (vs : List Value) → function_named p f.called ≡ Some f → ActsMeet p keep box n (Enters f vs) (Enters f vs)
  LeavesBoth : (v : Value) (t : Store) → ActsMeet p keep box n (Leaves v t) (Leaves v t)
  AsksBoth : (r : Request) → ActsMeet p keep box n (AsksFor r) (AsksFor r)

-- so many slots that agree, with one store
pub data WrittenBoth (keep box : ℕ → Bool) (n : ℕ) : List Slot × Store → List Slot × Store → Type 0 where
  Written : (new new' : List Slot) (t : Store) → SlotsMeet keep box new new' → length new ≡ n → WrittenBoth keep box n (new, t) (new', t)

module _ (p : Program) (keep box : ℕ → Bool) (scope : Scope) (xs ys : List Slot) (m : SlotsMeet keep box xs ys) (s : Store) where
  abbrev c : Context
  c = at p scope xs s

  abbrev d : Context
  d = at p scope ys s

  abbrev Acts : Answer Act → Answer Act → Type 0
  Acts = BothAnswer (ActsMeet p keep box (length xs))

  abbrev Writes : Answer (List Slot × Store) → Answer (List Slot × Store) → Type 0
  Writes = BothAnswer (WrittenBoth keep box (length xs))

  -- ---- values

  value_kept : (e : Expr) → Kept keep (used_in scope e) → value c e ≡ value d e
  value_kept e h = same_value p keep box scope xs ys m s e (kept_names p keep scope e h)

  among : (es : Exprs) → Kept keep (used_among scope es) → values c es ≡ values d es
  among NoExpr h = refl
  among (AndExpr e es) h =
      let a = value_kept e (kept_front keep (used_in scope e) (used_among scope es) h) in
      let b = among es (kept_back keep (used_in scope e) (used_among scope es) h) in
      simp (a, b) refl

  -- what is made of one value
  value_then : {A : Type 0} (a b : Answer A) (f g : A → Answer Act) → a ≡ b → ((x : A) → Acts (f x) (g x)) → Acts (a >>= f) (b >>= g)
  value_then a b f g e h = subst (λ z. Acts (a >>= f) (z >>= g)) e (same_then f g a h)

  value_writes : {A : Type 0} (a b : Answer A) (f g : A → Answer (List Slot × Store)) → a ≡ b → ((x : A) → Writes (f x) (g x)) → Writes (a >>= f) (b >>= g)
  value_writes a b f g e h = subst (λ z. Writes (a >>= f) (z >>= g)) e (same_then f g a h)

  -- ---- assignments

  writes : (a b : Spot) (v : Value) → SpotsMeet xs ys a b → Writes (write c a v) (write d b v)
  writes _ _ v (TheSlot k u e f) = BothGive _ _ (Written _ _ s (set_meets keep box xs ys m k u e v) (set_length xs k (Register v)))
  writes _ _ v (TheCell cl n k) = same_then _ _ (of_result (save cl n k v s)) (λ t. BothGive _ _ (Written xs ys t m refl))

  assign_kept : (e : Expr) (v : Value) → Kept keep (used_in scope e) → Writes (assign c e v) (assign d e v)
  assign_kept e v h =
      both_then _ _ _ _ (same_place p keep box scope xs ys m s e (kept_names p keep scope e h)) λ a b r.
      same_then _ _ (needed (place_type c e)) λ t.
      same_then _ _ (assigned t v) λ w. writes a b w r

  deliver_kept : (to : Option Expr) (v : Value) → Kept keep (used_if scope to) → Writes (deliver c to v) (deliver d to v)
  deliver_kept None v h = BothGive _ _ (Written xs ys s m refl)
  deliver_kept (Some e) v h = assign_kept e v h

  goes_on : (u w : List Slot × Store) → WrittenBoth keep box (length xs) u w → Acts (Gives (GoesOn true u.1 u.0)) (Gives (GoesOn true w.1 w.0))
  goes_on _ _ (Written new new' t r e) = BothGive _ _ (GoesOnBoth true t new new' r e)

  assigns_kept : (x e : Expr) → Kept keep (used_in scope x) → Kept keep (used_in scope e) → Acts (assigns c x e) (assigns d x e)
  assigns_kept x e h g =
      value_then _ _ _ _ (value_kept e g) λ v.
      both_then _ _ _ _ (assign_kept x v h) goes_on

  -- ---- calls

  calls_kept : (f : Function) (es : Exprs) → function_named p f.called ≡ Some f → Kept keep (used_among scope es) → Acts (calls c f es) (calls d f es)
  calls_kept f es there h =
      value_then _ _ _ _ (among es h) λ vs.
      same_then _ _ (arguments (parameter_types f) vs) λ ws. BothGive _ _ (EntersBoth f ws there)

  -- a function that is found by a code is one of the program
  typed_there : (t : Ty) (x : Text) (o : Option Function) (f : Function) → function_named p x ≡ o → function_of_type t o ≡ Gives f → function_named p f.called ≡ Some f
  typed_there t x None f e g = absurd (cc)
  typed_there t x (Some u) f e g = go (same_type t (function_type u.result (parameter_types u))) g
    where
      go : (b : Bool) → cond b (Gives u) (Faults F.Code) ≡ Gives f → function_named p f.called ≡ Some f
      go true g = let i : u ≡ f = cc in subst (λ z. function_named p z.called ≡ Some z) i (found_again p x u e)
      go false g = absurd (cc)

  callee_there : (t : Ty) (v : Value) (f : Function) → callee p t v ≡ Gives f → function_named p f.called ≡ Some f
  callee_there t Unset f e = absurd (cc)
  callee_there t Null f e = absurd (cc)
  callee_there t (Code x) f e = typed_there t x (function_named p x) f refl e
  callee_there t (Whole kind z) f e = absurd (cc)
  callee_there t (At cl n k) f e = absurd (cc)
  callee_there t (Cond n) f e = absurd (cc)

  calls_value_kept : (f : Expr) (es : Exprs) → Kept keep (used_in scope f) → Kept keep (used_among scope es) → Acts (calls_value c f es) (calls_value d f es)
  calls_value_kept f es h g =
      value_then _ _ _ _ (value_kept f h) λ v.
      same_then _ _ (needed (used_type c f)) λ t.
      value_then _ _ _ _ (among es g) λ vs.
      same_then _ _ (arguments (code_parameters t) vs) λ ws.
      same_known _ _ (callee p t v) λ u e. BothGive _ _ (EntersBoth u ws (callee_there t v u e))

  asks_kept : (prim : Primitive) (es : Exprs) (o : Option Text) → Kept keep (used_among scope es) → Acts (asks_with c prim es o) (asks_with d prim es o)
  asks_kept prim es (Some bytes) h = BothGive _ _ (AsksBoth _)
  asks_kept prim es None h =
      value_then _ _ _ _ (among es h) λ vs.
      same_then _ _ (all_taken (takes p prim vs) vs) λ ws. BothGive _ _ (AsksBoth _)

  module _ (x : Text) (es : Exprs) (h : Kept keep (used_in scope (ENamed x))) (g : Kept keep (used_among scope es)) where
    named_kept : (u : Meant) (prim : Option Primitive) (f : Option Function) → function_named p x ≡ f → Acts (calls_named c x es u prim f) (calls_named d x es u prim f)
    named_kept (AFunction Extern r ps) prim f e =
        value_then _ _ _ _ (among es g) λ vs.
        same_then _ _ (all_long vs) λ ws. BothGive _ _ (AsksBoth _)
    named_kept (AFunction Native r ps) prim (Some f) e = calls_kept f es (found_again p x f e) g
    named_kept (AFunction Cps r ps) prim (Some f) e = calls_kept f es (found_again p x f e) g
    named_kept (AFunction Detached r ps) prim (Some f) e = calls_kept f es (found_again p x f e) g
    named_kept (AFunction Native r ps) prim None e = calls_value_kept (ENamed x) es h g
    named_kept (AFunction Cps r ps) prim None e = calls_value_kept (ENamed x) es h g
    named_kept (AFunction Detached r ps) prim None e = calls_value_kept (ENamed x) es h g
    named_kept NotMeant (Some prim) f e = asks_kept prim es (puts_text prim es) g
    named_kept NotMeant None f e = calls_value_kept (ENamed x) es h g
    named_kept (ALocal k t) prim f e = calls_value_kept (ENamed x) es h g
    named_kept (AGlobal n t) prim f e = calls_value_kept (ENamed x) es h g

  calls_expr_kept : (f : Expr) (es : Exprs) → Kept keep (used_in scope f) → Kept keep (used_among scope es) → Acts (calls_expr c f es) (calls_expr d f es)
  calls_expr_kept (ENamed x) es h g = named_kept x es h g (named p scope x) (primitive_named x) (function_named p x) refl
  calls_expr_kept (EInteger kind z) es h g = calls_value_kept (EInteger kind z) es h g
  calls_expr_kept (ECharacter z) es h g = calls_value_kept (ECharacter z) es h g
  calls_expr_kept (EText bytes) es h g = calls_value_kept (EText bytes) es h g
  calls_expr_kept (EUnary sign e) es h g = calls_value_kept (EUnary sign e) es h g
  calls_expr_kept (EBinary op a b) es h g = calls_value_kept (EBinary op a b) es h g
  calls_expr_kept (EAnd a b) es h g = calls_value_kept (EAnd a b) es h g
  calls_expr_kept (EOr a b) es h g = calls_value_kept (EOr a b) es h g
  calls_expr_kept (EChoose t a b) es h g = calls_value_kept (EChoose t a b) es h g
  calls_expr_kept (ECast t e) es h g = calls_value_kept (ECast t e) es h g
  calls_expr_kept (ESizeOf t) es h g = calls_value_kept (ESizeOf t) es h g
  calls_expr_kept (EIndex a i) es h g = calls_value_kept (EIndex a i) es h g
  calls_expr_kept (EMember e x) es h g = calls_value_kept (EMember e x) es h g
  calls_expr_kept (EArrow e x) es h g = calls_value_kept (EArrow e x) es h g
  calls_expr_kept (ECall f fs) es h g = calls_value_kept (ECall f fs) es h g

  -- ---- statements

  passes_both : (h : Bool) → Acts (Gives (GoesOn h s xs)) (Gives (GoesOn h s ys))
  passes_both h = BothGive _ _ (GoesOnBoth h s xs ys m refl)

  leaves_kept : (v : Value) → ((k : ℕ) → box k ≡ true → keep k ≡ true) → Acts (leaves c v) (leaves d v)
  leaves_kept v b = value_then (free_slots xs s) (free_slots ys s) _ _ (frees_meet keep box xs ys m b s) λ t. BothGive _ _ (LeavesBoth v t)

  returns_kept : (result : Ty) (o : Option Expr) → Kept keep (used_if scope o) → ((k : ℕ) → box k ≡ true → keep k ≡ true) → Acts (returns c result o) (returns d result o)
  returns_kept result None h b = leaves_kept Unset b
  returns_kept result (Some e) h b =
      value_then _ _ _ _ (value_kept e h) λ v.
      same_then _ _ (assigned result v) λ w. leaves_kept w b

  right_kept : (op : Option Op) (e v : Expr) → Kept keep (used_in scope e) → Kept keep (used_in scope v) → Kept keep (used_in scope (right_side op e v))
  right_kept None e v h g = g
  right_kept (Some op) e v h g = kept_both keep (used_in scope e) (used_in scope v) h g

  simple_kept : (result : Ty) (st : Stmt) → Kept keep (used_by scope st) → (is_return st ≡ true → (k : ℕ) → box k ≡ true → keep k ≡ true) → Acts (simple_act c result st) (simple_act d result st)
  simple_kept result (Declare x t (Some v)) h b = assigns_kept (ENamed x) v (kept_front keep _ _ h) (kept_back keep (slot_of scope x) _ h)
  simple_kept result (Declare x t None) h b = passes_both true
  simple_kept result (Assign e op v) h b =
      let l = kept_front keep (used_in scope e) (used_in scope v) h in
      assigns_kept e (right_side op e v) l (right_kept op e v l (kept_back keep (used_in scope e) (used_in scope v) h))
  simple_kept result (Call to f es) h b =
      let rest = kept_back keep (used_if scope to) (used_in scope f ++ used_among scope es) h in
      calls_expr_kept f es (kept_front keep (used_in scope f) (used_among scope es) rest) (kept_back keep (used_in scope f) (used_among scope es) rest)
  simple_kept result (Detach to f es) h b =
      same_then _ _ (needed (function_named p f)) λ g.
      value_then _ _ _ _ (among es (kept_back keep (used_if scope to) (used_among scope es) h)) λ vs.
      same_then _ _ (all_taken (section_takes (parameter_types g)) vs) λ ws. BothGive _ _ (AsksBoth _)
  simple_kept result (Spawn f es) h b =
      same_then _ _ (needed (function_named p f)) λ g.
      value_then _ _ _ _ (among es h) λ vs.
      same_then _ _ (arguments (parameter_types g) vs) λ ws. BothGive _ _ (AsksBoth _)
  simple_kept result (Return o) h b = returns_kept result o h (b refl)
  simple_kept result _ h b = passes_both true

  test_kept : (o : Option Expr) → Kept keep (used_if scope o) → Acts (test_act c o) (test_act d o)
  test_kept None h = passes_both true
  test_kept (Some e) h =
      value_then _ _ _ _ (value_kept e h) λ v.
      same_then _ _ (holds v) λ b. passes_both b

  -- ---- arrivals

  place_kept : (to : Option (Option Expr)) (v : Value) → Kept keep (used_place scope to)
      → Acts (needed to >>= λ x. deliver c x v >>= λ w. Gives (GoesOn true w.1 w.0)) (needed to >>= λ x. deliver d x v >>= λ w. Gives (GoesOn true w.1 w.0))
  place_kept None v h = BothStick
  place_kept (Some x) v h = both_then _ _ _ _ (deliver_kept x v h) goes_on

  pub arrives_kept : (f : Found) (o : Option Value) → Kept keep (used_place scope (target_of f)) → Acts (arrives c f o) (arrives d f o)
  arrives_kept f None h = BothStick
  arrives_kept f (Some v) h = place_kept (target_of f) v h

  -- a step does the same, where the variables that occur are kept, and the boxes where the function is left
  pub act_kept : (result : Ty) (o : Option Value) (st : Stood) → Kept keep (used_at scope st) → (is_left st ≡ true → (k : ℕ) → box k ≡ true → keep k ≡ true)
      → Acts (act c result o st) (act d result o st)
  act_kept result o (AtStatement (Simple st)) h b = simple_kept result st h b
  act_kept result o (AtStatement (Test t)) h b = test_kept t h
  act_kept result o (AtStatement Nothing) h b = BothStick
  act_kept result o (AtArrival f) h b = arrives_kept f o h
  act_kept result o AtEnd h b = leaves_kept Unset (b refl)

-- the place of a call is one of what stands there
pub place_there : (keep : ℕ → Bool) (scope : Scope) (f : Found) → Kept keep (used_found scope f) → Kept keep (used_place scope (target_of f))
place_there keep scope (Simple (Call to f es)) h = kept_front keep (used_if scope to) (used_in scope f ++ used_among scope es) h
place_there keep scope (Simple (Detach to f es)) h = kept_front keep (used_if scope to) (used_among scope es) h
place_there keep scope (Simple (Spawn f es)) h = λ k e. absurd (cc)
place_there keep scope _ h = λ k e. absurd (cc)
