-- A program that breaks no rule wants no value where it frees a block.
use Rattle.std.proofs.Common.{◌≡◌, true, false, List, [], ◌∷◌, Option, Some, None, refl, sym, ◌∙◌, subst}
use Rattle.cpc_base.specs.Bytes.{Text}
use Rattle.cpc_base.specs.declared.stop.Dialect.{Dialect}
use Rattle.cpc_base.proofs.Truth.{by_false_true}
use Rattle.cpc_tree.specs.declared.program.Mode.{Mode}
use Rattle.cpc_tree.specs.declared.program.Mode.TheVariants.{Extern, Native, Cps, Detached}
use Rattle.cpc_tree.specs.Located.{bare}
use Rattle.cpc_tree.specs.Syntax.{Ty, TyVoid, TyInt, TyCondvar, TyPointer, TyCode, Expr, ENamed, Exprs, Stmt, Declare, Assign, Call, Detach, Spawn, Return, Function, Program}
use Rattle.cpc_tree.specs.Typing.{Scope, Meant, ALocal, AGlobal, AFunction, NotMeant, named, code_parameters, function_named, parameter_types}
use Rattle.cpc_tree.specs.Points.{Found, Simple, Test, Nothing, Point, Here, Arrival, End, found}
use Rattle.cpc_tree.specs.Registers.{scope_in_function}
use Rattle.cpc_tree.specs.Primitives.{Primitive, Free, RtFrameFree, RtUnbox, primitive_named}
use Rattle.cpc_store.specs.Store.{Value, Unset, Store}
use Rattle.cpc_meaning.specs.Answer.{Answer, Gives, Faults, NoAnswer, ◌>>=◌, needed}
use Rattle.cpc_meaning.specs.Eval.{Slot, Context, value, values, used_type, assigned, holds}
use Rattle.cpc_meaning.specs.Slots.{free_slots}
use Rattle.cpc_meaning.specs.Requests.{Builtin, Request, all_long, all_taken, arguments, section_takes, takes}
use Rattle.cpc_meaning.specs.Act.{Stood, AtStatement, AtArrival, AtEnd, Act, GoesOn, Enters, Leaves, AsksFor, act, arrives, asks_with, assign, assigns, callee, calls, calls_expr, calls_named, calls_value, deliver, detaches, found_act, leaves, puts_text, right_side, simple_act, spawns, target_of}
use Rattle.cpc_meaning.specs.Plain.{Frame, Done, Asks, asking, frames_step, make_frame, perform, returned_to}
use Rattle.cpc_meaning.specs.Trees.{arrival_at, point_after, scope_from, stood_at, trees}
use Rattle.cpc_meaning_laws.proofs.Pointer.Blocks.{Only, any_then, only_as, only_then}
use Rattle.cpc_check_rules.specs.Calls.{gives}
use Rattle.cpc_check_laws.specs.Sound.Suits.{converts}
use Rattle.cpc_check_laws.specs.Sound.Typed.{Calls, CallsHost, CallsFunction, CallsPrimitive, CallsPointer, FoundTyped, IsTyped, TypedProgram, is_own, is_pointer_call, is_variable}
use Rattle.cpc_check_laws.proofs.Sound.Accepted.{accepted_is_typed}
use Rattle.cpc_check_laws.proofs.Sound.Paths.{function_typed}
use Rattle.cpc_native.specs.Next.{GoesNowhere, frees}
use Rattle.cpc_native_free_laws.specs.Laws.{AcceptedFreeAlone}

-- what holds of all values holds of what an answer gives
only_all : {A : Type 0} (Good : A → Type 0) (a : Answer A) → ((x : A) → Good x) → Only Good a
only_all Good (Gives x) h = h x
only_all Good (Faults fault) h = tt
only_all Good NoAnswer h = tt

-- ---- what is asked

-- it frees nothing
abbrev FreesNothing : Act → Type 0
FreesNothing (AsksFor r) = frees r.asked ≡ false
FreesNothing _ = Unit {0}

-- where it frees a block, no place waits for a value at what stands there
abbrev IsAlone : Stood → Act → Type 0
IsAlone stood (AsksFor r) = frees r.asked ≡ true → (f : Found) → asking stood ≡ Some f → target_of f ≡ Some None
IsAlone stood _ = Unit {0}

abbrev IsDoneAlone : Stood → Done Point → Type 0
IsDoneAlone stood (Asks r) = frees r.asked ≡ true → (f : Found) → asking stood ≡ Some f → target_of f ≡ Some None
IsDoneAlone stood _ = Unit {0}

nothing_alone : (stood : Stood) (a : Act) → FreesNothing a → IsAlone stood a
nothing_alone stood (AsksFor r) h = λ e. by_false_true (sym h ∙ e)
nothing_alone stood (GoesOn b s slots) h = tt
nothing_alone stood (Enters f vs) h = tt
nothing_alone stood (Leaves v s) h = tt

by_nothing : (stood : Stood) (a : Answer Act) → Only FreesNothing a → Only (IsAlone stood) a
by_nothing stood a h = only_as FreesNothing (IsAlone stood) a (nothing_alone stood) h

-- a call without a place
placeless : (g : Expr) (es : Exprs) (a : Act) → IsAlone (AtStatement (Simple (Call None g es))) a
placeless g es (AsksFor r) = λ e f is. (let same : Simple (Call None g es) ≡ f = cc in subst (λ q. target_of q ≡ Some None) same refl)
placeless g es (GoesOn b s slots) = tt
placeless g es (Enters f vs) = tt
placeless g es (Leaves v s) = tt

-- a primitive whose value a place gets frees nothing
nothing_of_void : (t : Ty) → converts t TyVoid ≡ false
nothing_of_void TyVoid = refl
nothing_of_void (TyInt k) = refl
nothing_of_void TyCondvar = refl
nothing_of_void (TyPointer t) = refl
nothing_of_void (TyCode r ps) = refl
nothing_of_void _ = refl

giving_frees_nothing : (prim : Primitive) (t : Ty) → converts t (gives prim) ≡ true → frees (Builtin prim) ≡ false
giving_frees_nothing Free t h = by_false_true (sym (nothing_of_void t) ∙ h)
giving_frees_nothing RtFrameFree t h = by_false_true (sym (nothing_of_void t) ∙ h)
giving_frees_nothing RtUnbox t h = by_false_true (sym (nothing_of_void t) ∙ h)
giving_frees_nothing _ t h = refl

module _ (d : Dialect) (p : Program) (f : Function) (scope : Scope) (slots : List Slot) (s : Store) where
  abbrev c : Context
  c = record { program = p; scope = scope; slots = slots; store = s }

  -- ---- calls

  host_alone : (x : Text) (r : Ty) (ps : List Ty) (es : Exprs) (o : Option Primitive) (u : Option Function) → Only FreesNothing (calls_named c x es (AFunction Extern r ps) o u)
  host_alone x r ps es o u = any_then FreesNothing (values c es) _ λ vs. any_then FreesNothing (all_long vs) _ (λ ws. refl)

  enters_alone : (g : Function) (es : Exprs) → Only FreesNothing (calls c g es)
  enters_alone g es = any_then FreesNothing (values c es) _ λ vs. any_then FreesNothing (arguments (parameter_types g) vs) _ (λ ws. tt)

  value_alone : (g : Expr) (es : Exprs) → Only FreesNothing (calls_value c g es)
  value_alone g es =
      any_then FreesNothing (value c g) _ λ v.
      any_then FreesNothing (needed (used_type c g)) _ λ t.
      any_then FreesNothing (values c es) _ λ vs.
      any_then FreesNothing (arguments (code_parameters t) vs) _ λ ws.
      any_then FreesNothing (callee p t v) _ (λ u. tt)

  own_alone : (x : Text) (mode : Mode) (r : Ty) (ps : List Ty) (es : Exprs) (o : Option Primitive) (g : Function) → is_own mode ≡ true → Only FreesNothing (calls_named c x es (AFunction mode r ps) o (Some g))
  own_alone x Extern r ps es o g own = by_false_true own
  own_alone x Native r ps es o g own = enters_alone g es
  own_alone x Cps r ps es o g own = enters_alone g es
  own_alone x Detached r ps es o g own = enters_alone g es

  primitive_alone : (prim : Primitive) (es : Exprs) (o : Option Text) → frees (Builtin prim) ≡ false → Only FreesNothing (asks_with c prim es o)
  primitive_alone prim es (Some bytes) h = h
  primitive_alone prim es None h = any_then FreesNothing (values c es) _ λ vs. any_then FreesNothing (all_taken (takes p prim vs) vs) _ (λ ws. h)

  variable_alone : (x : Text) (es : Exprs) (m : Meant) (o : Option Primitive) (u : Option Function) → is_variable m ≡ true → Only FreesNothing (calls_named c x es m o u)
  variable_alone x es (ALocal k t) o u e = value_alone (ENamed x) es
  variable_alone x es (AGlobal n t) o u e = value_alone (ENamed x) es
  variable_alone x es _ o u e = by_false_true e

  pointer_alone : (g : Expr) (es : Exprs) → is_pointer_call p scope g ≡ true → Only FreesNothing (calls_expr c g es)
  pointer_alone (ENamed x) es e = variable_alone x es (named p scope x) (primitive_named x) (function_named p x) e
  pointer_alone g es e = value_alone g es

  -- a call whose value a place of this type gets
  call_alone : (g : Expr) (es : Exprs) (r : Ty) → Calls d p f.mode scope g es r → (t : Ty) → converts t r ≡ true → Only FreesNothing (calls_expr c g es)
  call_alone _ _ _ (CallsHost x r ps es apart is_x gets many) t h =
      subst (λ m. Only FreesNothing (calls_named c x es m (primitive_named x) (function_named p x))) (sym is_x) (host_alone x r ps es (primitive_named x) (function_named p x))
  call_alone _ _ _ (CallsFunction x mode r ps g es own is_x is_g closed cps gets) t h =
      subst (λ m. Only FreesNothing (calls_named c x es m (primitive_named x) (function_named p x))) (sym is_x)
      (subst (λ o. Only FreesNothing (calls_named c x es (AFunction mode r ps) (primitive_named x) o)) (sym is_g) (own_alone x mode r ps es (primitive_named x) g own))
  call_alone _ _ _ (CallsPrimitive x prim es is_x is_prim is_d closed cps gets) t h =
      subst (λ m. Only FreesNothing (calls_named c x es m (primitive_named x) (function_named p x))) (sym is_x)
      (subst (λ o. Only FreesNothing (calls_named c x es NotMeant o (function_named p x))) (sym is_prim) (primitive_alone prim es (puts_text prim es) (giving_frees_nothing prim t h)))
  call_alone _ _ _ (CallsPointer g u r ps es apart is_pointer is_t is_u gets) t h = pointer_alone g es is_pointer

  -- ---- statements

  assigns_alone : (x e : Expr) → Only FreesNothing (assigns c x e)
  assigns_alone x e = any_then FreesNothing (value c e) _ λ w. any_then FreesNothing (assign c x w) _ (λ r. tt)

  leaves_alone : (v : Value) → Only FreesNothing (leaves c v)
  leaves_alone v = any_then FreesNothing (free_slots slots s) _ (λ t. tt)

  section_alone : (x : Text) (es : Exprs) → Only FreesNothing (detaches c x es)
  section_alone x es =
      any_then FreesNothing (needed (function_named p x)) _ λ g.
      any_then FreesNothing (values c es) _ λ vs.
      any_then FreesNothing (all_taken (section_takes (parameter_types g)) vs) _ (λ ws. refl)

  spawn_alone : (x : Text) (es : Exprs) → Only FreesNothing (spawns c x es)
  spawn_alone x es =
      any_then FreesNothing (needed (function_named p x)) _ λ g.
      any_then FreesNothing (values c es) _ λ vs.
      any_then FreesNothing (arguments (parameter_types g) vs) _ (λ ws. refl)

  return_alone : (o : Option Expr) → Only FreesNothing (simple_act c f.result (Return o))
  return_alone None = leaves_alone Unset
  return_alone (Some e) = any_then FreesNothing (value c e) _ λ v. any_then FreesNothing (assigned f.result v) _ (λ w. leaves_alone w)

  simple_alone : (t : Stmt) → IsTyped d p f scope t → Only (IsAlone (AtStatement (Simple t))) (simple_act c f.result t)
  simple_alone (Declare x u (Some e)) h = by_nothing (AtStatement (Simple (Declare x u (Some e)))) _ (assigns_alone (ENamed x) e)
  simple_alone (Declare x u None) h = tt
  simple_alone (Assign x op e) h = by_nothing (AtStatement (Simple (Assign x op e))) _ (assigns_alone x (right_side op x e))
  simple_alone (Call None g es) h = only_all (IsAlone (AtStatement (Simple (Call None g es)))) (calls_expr c g es) (placeless g es)
  simple_alone (Call (Some x) g es) h = by_nothing (AtStatement (Simple (Call (Some x) g es))) _ (call_alone g es h.0 h.1 h.2.0 h.2.2)
  simple_alone (Detach x g es) h = by_nothing (AtStatement (Simple (Detach x g es))) _ (section_alone g es)
  simple_alone (Spawn g es) h = by_nothing (AtStatement (Simple (Spawn g es))) _ (spawn_alone g es)
  simple_alone (Return o) h = by_nothing (AtStatement (Simple (Return o))) _ (return_alone o)
  simple_alone _ h = tt

  found_alone : (found : Found) → FoundTyped d p f scope found → Only (IsAlone (AtStatement found)) (found_act c f.result found)
  found_alone (Simple t) h = simple_alone t h
  found_alone (Test None) h = tt
  found_alone (Test (Some e)) h = any_then (IsAlone (AtStatement (Test (Some e)))) (value c e) _ λ v. any_then (IsAlone (AtStatement (Test (Some e)))) (holds v) _ (λ b. tt)
  found_alone Nothing h = tt

  arrival_alone : (found : Found) (o : Option Value) → Only FreesNothing (arrives c found o)
  arrival_alone found o =
      any_then FreesNothing (needed o) _ λ v.
      any_then FreesNothing (needed (target_of found)) _ λ x.
      any_then FreesNothing (deliver c x v) _ (λ r. tt)

-- ---- steps

module _ (d : Dialect) (p : Program) (typed : TypedProgram d p) (s : Store) where
  returns_alone : (stood : Stood) (below : List (Frame Point)) (v : Value) (t : Store) → IsDoneAlone stood (returned_to below v t)
  returns_alone stood [] v t = tt
  returns_alone stood (frame ∷ below) v t = tt

  performs_alone : (stood : Stood) (frame : Frame Point) (below : List (Frame Point)) (a : Act) → IsAlone stood a → Only (IsDoneAlone stood) (perform (trees p) s frame below a)
  performs_alone stood frame below (GoesOn h t slots) k = any_then (IsDoneAlone stood) (needed (point_after (function_named p frame.function) frame.point h)) _ (λ next. tt)
  performs_alone stood frame below (Enters g vs) k =
      any_then (IsDoneAlone stood) (make_frame (trees p) g vs s) _ λ r. any_then (IsDoneAlone stood) (needed (arrival_at frame.point)) _ (λ back. tt)
  performs_alone stood frame below (Leaves v t) k = returns_alone stood below v t
  performs_alone stood frame below (AsksFor r) k = k

  -- what stands at a point of a function
  act_alone : (f : Function) (x : Text) (slots : List Slot) (point : Point) (o : Option Value) → function_named p x ≡ Some f
      → Only (IsAlone (stood_at (Some f) point)) (act (record { program = p; scope = scope_from (Some f) point; slots = slots; store = s }) f.result o (stood_at (Some f) point))
  act_alone f x slots (Here q) o is_f =
      found_alone d p f (scope_in_function f q) slots s (found f.body q) (function_typed d p f q (typed.functions x f is_f).body)
  act_alone f x slots (Arrival q) o is_f = by_nothing (AtArrival (found f.body q)) _ (arrival_alone d p f (scope_in_function f q) slots s (found f.body q) o)
  act_alone f x slots End o is_f = by_nothing AtEnd _ (leaves_alone d p f [] slots s Unset)

  frames_alone : (frame : Frame Point) (below : List (Frame Point)) (o : Option Value) → Only (IsDoneAlone (stood_at (function_named p frame.function) frame.point)) (frames_step (trees p) s o (frame ∷ below))
  frames_alone frame below o = go (function_named p frame.function) refl
    where
      go : (u : Option Function) → function_named p frame.function ≡ u
          → Only (IsDoneAlone (stood_at u frame.point)) (needed u >>= λ f. act (record { program = p; scope = scope_from u frame.point; slots = frame.slots; store = s }) f.result o (stood_at u frame.point) >>= perform (trees p) s frame below)
      go None e = tt
      go (Some f) e =
          let stood = stood_at (Some f) frame.point in
          only_then (IsAlone stood) (IsDoneAlone stood) _ _ (act_alone f frame.function frame.slots frame.point o e) (performs_alone stood frame below)

-- of these frames the first
abbrev AreAlone : Program → Store → Option Value → List (Frame Point) → Type 0
AreAlone p s o frames = (r : Request) → frames_step (trees p) s o frames ≡ Gives (Asks r) → frees r.asked ≡ true → GoesNowhere (trees p) frames

steps_alone : (d : Dialect) (p : Program) → TypedProgram d p → (s : Store) (o : Option Value) (frames : List (Frame Point)) → AreAlone p s o frames
steps_alone d p typed s o [] = λ r e. absurd cc
steps_alone d p typed s o (frame ∷ below) = λ r e h. subst (Only (IsDoneAlone (stood_at (function_named p frame.function) frame.point))) e (frames_alone d p typed s frame below o) h

pub accepted_alone : AcceptedFreeAlone
accepted_alone dialect list end p read h s k = steps_alone dialect (bare p) (accepted_is_typed dialect list end p read h) s k.arriving k.frames
