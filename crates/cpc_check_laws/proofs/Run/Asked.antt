-- What the code of a plain program asks for: shared primitives and the host's functions.
use Rattle.std.proofs.Common.{◌≡◌, Bool, true, false, [], ◌∷◌, List, Option, Some, None, refl, subst}
use Rattle.cpc_base.specs.Bytes.{Text}
use Rattle.cpc_tree.specs.Syntax.{Ty, Expr, ENamed, EInteger, ECharacter, EText, EUnary, EBinary, EAnd, EOr, EChoose, ECast, ESizeOf, EIndex, EMember, EArrow, ECall, Exprs, Stmt, Declare, Assign, Call, Detach, Spawn, Return, Function, Program}
use Rattle.cpc_tree.specs.declared.program.Mode.TheVariants.{Extern, Native, Cps, Detached}
use Rattle.cpc_tree.specs.Typing.{Meant, ALocal, AGlobal, AFunction, NotMeant, named, function_named, parameter_types, code_parameters}
use Rattle.cpc_tree.specs.Points.{Point, Found, Simple, Test, Nothing}
use Rattle.cpc_store.specs.Store.{Value, Unset, Store}
use Rattle.cpc_meaning.specs.Answer.{Answer, Gives, ◌>>=◌, needed}
use Rattle.cpc_meaning.specs.Eval.{Context, used_type, value, values, holds, assigned}
use Rattle.cpc_meaning.specs.Slots.{free_slots}
use Rattle.cpc_meaning.specs.Requests.{Primitive, Request, Asked, Builtin, Host, ToSpawn, Section, primitive_named, takes, all_taken, all_long, arguments, byte_values}
use Rattle.cpc_meaning.specs.Act.{Stood, AtStatement, AtArrival, AtEnd, assign, deliver, right_side, callee, Act, GoesOn, Enters, Leaves, AsksFor, assigns, calls, calls_value, puts_text, asks_with, calls_named, calls_expr, leaves, returns, simple_act, test_act, target_of, arrives, act}
use Rattle.cpc_meaning.specs.Plain.{Frame, Stack, Done, Asks, make_frame, returned_to, perform, context, frames_step, plain}
use Rattle.cpc_meaning.specs.Trees.{trees}
use Rattle.cpc_meaning.proofs.Functions.{gives_then}
use Rattle.cpc_check_laws.specs.Run.Plain.{is_shared, shares, calls_shared, is_plain_stmt, is_plain}
use Rattle.cpc_check_laws.proofs.Run.Stands.{IsPlainStood, plain_stood}

-- ---- answers

-- an answer that gives only such values
abbrev Only : {A : Type 0} → (A → Type 0) → Answer A → Type 0
Only {A = A} K a = (x : A) → a ≡ Gives x → K x

only_this : {A : Type 0} (K : A → Type 0) (x : A) → K x → Only K (Gives x)
only_this K x k y e = let i : x ≡ y = cc in subst K i k

only_then : {A B : Type 0} (K : B → Type 0) (a : Answer A) (f : A → Answer B) → ((x : A) → a ≡ Gives x → Only K (f x)) → Only K (a >>= f)
only_then K a f h y e = let g = gives_then a f y e in h g.0 g.1 y g.2

only_made : {A B : Type 0} (K : B → Type 0) (a : Answer A) (f : A → B) → ((x : A) → K (f x)) → Only K (a >>= λ x. Gives (f x))
only_made K a f h = only_then K a (λ x. Gives (f x)) (λ x e. only_this K (f x) (h x))

-- ---- acts

-- what both machines answer alike
abbrev pub is_answered : Asked → Bool
is_answered (Builtin prim) = is_shared prim
is_answered (Host x) = true
is_answered (ToSpawn f) = false
is_answered (Section f) = false

abbrev PlainAct : Act → Type 0
PlainAct (AsksFor r) = is_answered r.asked ≡ true
PlainAct _ = Unit {0}

module _ (c : Context) where
  assigns_plain : (x v : Expr) → Only PlainAct (assigns c x v)
  assigns_plain x v =
      only_then PlainAct (value c v) (λ w. assign c x w >>= λ t. Gives (GoesOn true t.1 t.0))
      (λ w e. only_made PlainAct (assign c x w) (λ t. GoesOn true t.1 t.0) (λ t. tt))

  test_plain : (t : Option Expr) → Only PlainAct (test_act c t)
  test_plain None = only_this PlainAct (GoesOn true c.store c.slots) tt
  test_plain (Some t) =
      only_then PlainAct (value c t) (λ v. holds v >>= λ h. Gives (GoesOn h c.store c.slots))
      (λ v e. only_made PlainAct (holds v) (λ h. GoesOn h c.store c.slots) (λ h. tt))

  calls_plain : (f : Function) (es : Exprs) → Only PlainAct (calls c f es)
  calls_plain f es =
      only_then PlainAct (values c es) (λ vs. arguments (parameter_types f) vs >>= λ ws. Gives (Enters f ws))
      (λ vs e. only_made PlainAct (arguments (parameter_types f) vs) (λ ws. Enters f ws) (λ ws. tt))

  value_plain : (f : Expr) (es : Exprs) → Only PlainAct (calls_value c f es)
  value_plain f es =
      only_then PlainAct (value c f) (λ v. needed (used_type c f) >>= λ t. values c es >>= λ vs. arguments (code_parameters t) vs >>= λ ws. callee c.program t v >>= λ g. Gives (Enters g ws))
      (λ v e. only_then PlainAct (needed (used_type c f)) (λ t. values c es >>= λ vs. arguments (code_parameters t) vs >>= λ ws. callee c.program t v >>= λ g. Gives (Enters g ws))
      (λ t e. only_then PlainAct (values c es) (λ vs. arguments (code_parameters t) vs >>= λ ws. callee c.program t v >>= λ g. Gives (Enters g ws))
      (λ vs e. only_then PlainAct (arguments (code_parameters t) vs) (λ ws. callee c.program t v >>= λ g. Gives (Enters g ws))
      (λ ws e. only_made PlainAct (callee c.program t v) (λ g. Enters g ws) (λ g. tt)))))

  abbrev asking_for : Asked → List Value → Act
  asking_for asked ws = AsksFor (record { asked = asked; arguments = ws })

  primitive_plain : (prim : Primitive) → is_shared prim ≡ true → (es : Exprs) (o : Option Text) → Only PlainAct (asks_with c prim es o)
  primitive_plain prim h es (Some bytes) = only_this PlainAct (asking_for (Builtin prim) (byte_values bytes)) h
  primitive_plain prim h es None =
      only_then PlainAct (values c es) (λ vs. all_taken (takes c.program prim vs) vs >>= λ ws. Gives (asking_for (Builtin prim) ws))
      (λ vs e. only_made PlainAct (all_taken (takes c.program prim vs) vs) (asking_for (Builtin prim)) (λ ws. h))

  host_plain : (x : Text) (es : Exprs) → Only PlainAct (values c es >>= λ vs. all_long vs >>= λ ws. Gives (asking_for (Host x) ws))
  host_plain x es =
      only_then PlainAct (values c es) (λ vs. all_long vs >>= λ ws. Gives (asking_for (Host x) ws))
      (λ vs e. only_made PlainAct (all_long vs) (asking_for (Host x)) (λ ws. refl))

  named_plain : (x : Text) (es : Exprs) (meant : Meant) (prim : Option Primitive) (f : Option Function) → shares prim ≡ true → Only PlainAct (calls_named c x es meant prim f)
  named_plain x es (AFunction Extern r ps) prim f h = host_plain x es
  named_plain x es (AFunction Native r ps) prim (Some f) h = calls_plain f es
  named_plain x es (AFunction Cps r ps) prim (Some f) h = calls_plain f es
  named_plain x es (AFunction Detached r ps) prim (Some f) h = calls_plain f es
  named_plain x es (AFunction Native r ps) prim None h = value_plain (ENamed x) es
  named_plain x es (AFunction Cps r ps) prim None h = value_plain (ENamed x) es
  named_plain x es (AFunction Detached r ps) prim None h = value_plain (ENamed x) es
  named_plain x es NotMeant (Some prim) f h = primitive_plain prim h es (puts_text prim es)
  named_plain x es NotMeant None f h = value_plain (ENamed x) es
  named_plain x es (ALocal k t) prim f h = value_plain (ENamed x) es
  named_plain x es (AGlobal n t) prim f h = value_plain (ENamed x) es

  call_plain : (f : Expr) (es : Exprs) → calls_shared f ≡ true → Only PlainAct (calls_expr c f es)
  call_plain (ENamed x) es h = named_plain x es (named c.program c.scope x) (primitive_named x) (function_named c.program x) h
  call_plain (EInteger kind z) es h = value_plain (EInteger kind z) es
  call_plain (ECharacter z) es h = value_plain (ECharacter z) es
  call_plain (EText bytes) es h = value_plain (EText bytes) es
  call_plain (EUnary sign e) es h = value_plain (EUnary sign e) es
  call_plain (EBinary op a b) es h = value_plain (EBinary op a b) es
  call_plain (EAnd a b) es h = value_plain (EAnd a b) es
  call_plain (EOr a b) es h = value_plain (EOr a b) es
  call_plain (EChoose t a b) es h = value_plain (EChoose t a b) es
  call_plain (ECast t e) es h = value_plain (ECast t e) es
  call_plain (ESizeOf t) es h = value_plain (ESizeOf t) es
  call_plain (EIndex a i) es h = value_plain (EIndex a i) es
  call_plain (EMember e x) es h = value_plain (EMember e x) es
  call_plain (EArrow e x) es h = value_plain (EArrow e x) es
  call_plain (ECall f fs) es h = value_plain (ECall f fs) es

  leaves_plain : (v : Value) → Only PlainAct (leaves c v)
  leaves_plain v = only_made PlainAct (free_slots c.slots c.store) (λ s. Leaves v s) (λ s. tt)

  returns_plain : (result : Ty) (o : Option Expr) → Only PlainAct (returns c result o)
  returns_plain result None = leaves_plain Unset
  returns_plain result (Some x) =
      only_then PlainAct (value c x) (λ v. assigned result v >>= λ w. leaves c w)
      (λ v e. only_then PlainAct (assigned result v) (λ w. leaves c w) (λ w e. leaves_plain w))

  simple_plain : (result : Ty) (s : Stmt) → is_plain_stmt s ≡ true → Only PlainAct (simple_act c result s)
  simple_plain result (Call to f es) h = call_plain f es h
  simple_plain result (Detach to f es) h = absurd cc
  simple_plain result (Spawn f es) h = absurd cc
  simple_plain result (Return v) h = returns_plain result v
  simple_plain result (Assign e op v) h = assigns_plain e (right_side op e v)
  simple_plain result (Declare x t (Some v)) h = assigns_plain (ENamed x) v
  simple_plain result (Declare x t None) h = only_this PlainAct (GoesOn true c.store c.slots) tt
  simple_plain result s h = only_this PlainAct (GoesOn true c.store c.slots) tt

  arrives_plain : (f : Found) (o : Option Value) → Only PlainAct (arrives c f o)
  arrives_plain f o =
      only_then PlainAct (needed o) (λ v. needed (target_of f) >>= λ x. deliver c x v >>= λ t. Gives (GoesOn true t.1 t.0))
      (λ v e. only_then PlainAct (needed (target_of f)) (λ x. deliver c x v >>= λ t. Gives (GoesOn true t.1 t.0))
      (λ x e. only_made PlainAct (deliver c x v) (λ t. GoesOn true t.1 t.0) (λ t. tt)))

  act_plain : (result : Ty) (o : Option Value) (stood : Stood) → IsPlainStood stood → Only PlainAct (act c result o stood)
  act_plain result o (AtStatement (Simple s)) h = simple_plain result s h
  act_plain result o (AtStatement (Test t)) h = test_plain t
  act_plain result o (AtStatement Nothing) h = λ a e. absurd cc
  act_plain result o (AtArrival f) h = arrives_plain f o
  act_plain result o AtEnd h = leaves_plain Unset

-- ---- steps

abbrev PlainDone : Done Point → Type 0
PlainDone (Asks r) = is_answered r.asked ≡ true
PlainDone _ = Unit {0}

module _ (p : Program) (plain_program : is_plain p ≡ true) (s : Store) where
  returned_plain : (below : List (Frame Point)) (v : Value) (t : Store) → PlainDone (returned_to below v t)
  returned_plain [] v t = tt
  returned_plain (frame ∷ below) v t = tt

  perform_plain : (frame : Frame Point) (below : List (Frame Point)) (a : Act) → PlainAct a → Only PlainDone (perform (trees p) s frame below a)
  perform_plain frame below (GoesOn h t slots) k = only_made PlainDone (needed ((trees p).code.goes frame.function frame.point h)) _ (λ next. tt)
  perform_plain frame below (Enters f vs) k =
      only_then PlainDone (make_frame (trees p) f vs s) _ (λ made e. only_made PlainDone (needed ((trees p).code.arrival frame.function frame.point)) _ (λ back. tt))
  perform_plain frame below (Leaves v t) k = only_this PlainDone (returned_to below v t) (returned_plain below v t)
  perform_plain frame below (AsksFor r) k = only_this PlainDone (Asks r) k

  frames_plain : (o : Option Value) (frames : List (Frame Point)) → Only PlainDone (frames_step (trees p) s o frames)
  frames_plain o [] = λ d e. absurd cc
  frames_plain o (frame ∷ below) =
      only_then PlainDone (needed (function_named p frame.function)) _ (λ f e.
      only_then PlainDone (act (context (trees p) s frame) f.result o ((trees p).code.stood frame.function frame.point)) _ (λ a i.
      perform_plain frame below a (act_plain (context (trees p) s frame) f.result o _ (plain_stood p plain_program frame.function frame.point) a i)))

  -- what the running code of a plain program asks for both machines answer alike
  pub asks_answered : (k : Stack Point) (r : Request) → plain (trees p) s k ≡ Gives (Asks r) → is_answered r.asked ≡ true
  asks_answered k r e = frames_plain k.arriving k.frames (Asks r) e
