-- A program that breaks no rule asks for functions of the host as it declares them.
use Rattle.std.proofs.Common.{◌≡◌, inl, inr, ℕ, suc, Bool, true, false, cond, List, [], ◌∷◌, length, map, Option, Some, None, bytes_eq, refl, sym, ◌∙◌, ap, subst}
use Rattle.cpc_base.specs.Bytes.{Text}
use Rattle.cpc_base.specs.declared.stop.Dialect.{Dialect}
use Rattle.cpc_base.proofs.Lists.{length_of_map}
use Rattle.cpc_base.proofs.Truth.{by_false_true}
use Rattle.cpc_num.specs.declared.kinds.Kind.TheVariants.{Long}
use Rattle.cpc_tree.specs.declared.program.Mode.{Mode}
use Rattle.cpc_tree.specs.declared.program.Mode.TheVariants.{Extern, Native, Cps, Detached}
use Rattle.cpc_tree.specs.Syntax.{Ty, TyInt, Expr, ENamed, Exprs, NoExpr, AndExpr, Stmt, Declare, Assign, Call, Detach, Spawn, Parameter, PrototypeItem, Return, Function, Program}
use Rattle.cpc_tree.specs.Located.{LItem, LStruct, LGlobal, LPrototype, LFunctionItem, bare, bare_item, bare_parameter}
use Rattle.cpc_tree.specs.Typing.{Scope, Meant, ALocal, AGlobal, AFunction, NotMeant, item_named, named, code_parameters, function_named, parameter_type, parameter_types}
use Rattle.cpc_tree.specs.Points.{Found, Simple, Test, Nothing, Point, Here, Arrival, End, found}
use Rattle.cpc_tree.specs.Registers.{scope_in_function}
use Rattle.cpc_tree.specs.Primitives.{Primitive, primitive_named}
use Rattle.cpc_store.specs.Store.{Value, Unset, Store}
use Rattle.cpc_meaning.specs.Answer.{◌>>=◌, needed}
use Rattle.cpc_meaning.specs.Eval.{Slot, Context, value, values, used_type, assigned, at_type, holds}
use Rattle.cpc_meaning.specs.Slots.{free_slots}
use Rattle.cpc_meaning.specs.Requests.{Asked, Host, all_long, all_taken, arguments, section_takes, takes}
use Rattle.cpc_meaning.specs.Act.{Act, GoesOn, Enters, Leaves, AsksFor, act, arrives, asks_with, assign, assigns, callee, calls, calls_expr, calls_named, calls_value, deliver, detaches, found_act, leaves, puts_text, right_side, simple_act, spawns, target_of}
use Rattle.cpc_meaning.specs.Plain.{Frame, Done, Asks, frames_step, make_frame, perform, returned_to}
use Rattle.cpc_meaning.specs.Trees.{arrival_at, point_after, scope_from, stood_at, trees}
use Rattle.cpc_meaning.proofs.Functions.{same_text}
use Rattle.cpc_meaning_laws.proofs.Pointer.Blocks.{Only, any_then, only_then}
use Rattle.cpc_check_laws.specs.Sound.Typed.{AllGet, Calls, CallsHost, CallsFunction, CallsPrimitive, CallsPointer, FoundTyped, IsTyped, TypedProgram, is_own, is_pointer_call, is_variable}
use Rattle.cpc_check_laws.proofs.Sound.Accepted.{accepted_is_typed}
use Rattle.cpc_check_laws.proofs.Sound.Agendas.{Each}
use Rattle.cpc_check_laws.proofs.Sound.Agreement.{item_of}
use Rattle.cpc_check_laws.proofs.Sound.Grammar.{items_shape}
use Rattle.cpc_check_laws.proofs.Sound.Paths.{function_typed}
use Rattle.cpc_check_laws.proofs.Sound.Programs.{ItemShape}
use Rattle.cpc_check_served_laws.specs.Laws.{AcceptedAskDeclared, DeclaresHost, IsHost}

-- ---- as many values as arguments

abbrev IsAsLong : {A B : Type 0} → List A → List B → Type 0
IsAsLong xs ys = length ys ≡ length xs

values_many : (c : Context) (ps : List Ty) (es : Exprs) → AllGet c.program c.scope ps es → Only (IsAsLong ps) (values c es)
values_many c [] NoExpr g = refl
values_many c (t ∷ ps) (AndExpr e es) g =
    any_then (IsAsLong (t ∷ ps)) (value c e) _ λ v.
    only_then (IsAsLong ps) (IsAsLong (t ∷ ps)) (values c es) _ (values_many c ps es g.1) (λ vs h. ap suc h)
values_many c [] (AndExpr e es) g = absurd g
values_many c (t ∷ ps) NoExpr g = absurd g

longs_many : (vs : List Value) → Only (IsAsLong vs) (all_long vs)
longs_many [] = refl
longs_many (v ∷ vs) =
    any_then (IsAsLong (v ∷ vs)) (at_type (TyInt Long) v) _ λ w.
    only_then (IsAsLong vs) (IsAsLong (v ∷ vs)) (all_long vs) _ (longs_many vs) (λ ws h. ap suc h)

-- ---- what is asked

module _ (p : Program) where
  -- by its items the name of a function of the host that is asked for has as many parameters as there are arguments
  abbrev Declared : Asked → List Value → Type 0
  Declared (Host x) vs = (r : Ty) × (ps : List Ty) × (item_named 0 p x ≡ AFunction Extern r ps) × (length vs ≡ length ps)
  Declared _ vs = Unit {0}

  abbrev ActDeclared : Act → Type 0
  ActDeclared (AsksFor r) = Declared r.asked r.arguments
  ActDeclared _ = Unit {0}

  abbrev DoneDeclared : Done Point → Type 0
  DoneDeclared (Asks r) = Declared r.asked r.arguments
  DoneDeclared _ = Unit {0}

module _ (d : Dialect) (p : Program) (f : Function) (scope : Scope) (slots : List Slot) (s : Store) where
  abbrev c : Context
  c = record { program = p; scope = scope; slots = slots; store = s }

  -- ---- calls

  host_declared : (x : Text) (r : Ty) (ps : List Ty) (es : Exprs) (o : Option Primitive) (u : Option Function) → named p scope x ≡ AFunction Extern r ps → AllGet p scope ps es
      → Only (ActDeclared p) (calls_named c x es (AFunction Extern r ps) o u)
  host_declared x r ps es o u is_x gets =
      only_then (IsAsLong ps) (ActDeclared p) (values c es) _ (values_many c ps es gets) λ vs h.
      only_then (IsAsLong vs) (ActDeclared p) (all_long vs) _ (longs_many vs) (λ ws k. (r, ps, item_of p scope x Extern r ps is_x, k ∙ h))

  enters_declared : (g : Function) (es : Exprs) → Only (ActDeclared p) (calls c g es)
  enters_declared g es = any_then (ActDeclared p) (values c es) _ λ vs. any_then (ActDeclared p) (arguments (parameter_types g) vs) _ (λ ws. tt)

  value_declared : (g : Expr) (es : Exprs) → Only (ActDeclared p) (calls_value c g es)
  value_declared g es =
      any_then (ActDeclared p) (value c g) _ λ v.
      any_then (ActDeclared p) (needed (used_type c g)) _ λ t.
      any_then (ActDeclared p) (values c es) _ λ vs.
      any_then (ActDeclared p) (arguments (code_parameters t) vs) _ λ ws.
      any_then (ActDeclared p) (callee p t v) _ (λ u. tt)

  own_declared : (x : Text) (mode : Mode) (r : Ty) (ps : List Ty) (es : Exprs) (o : Option Primitive) (g : Function) → is_own mode ≡ true → Only (ActDeclared p) (calls_named c x es (AFunction mode r ps) o (Some g))
  own_declared x Extern r ps es o g own = by_false_true own
  own_declared x Native r ps es o g own = enters_declared g es
  own_declared x Cps r ps es o g own = enters_declared g es
  own_declared x Detached r ps es o g own = enters_declared g es

  asks_declared_with : (prim : Primitive) (es : Exprs) (o : Option Text) → Only (ActDeclared p) (asks_with c prim es o)
  asks_declared_with prim es (Some bytes) = tt
  asks_declared_with prim es None = any_then (ActDeclared p) (values c es) _ λ vs. any_then (ActDeclared p) (all_taken (takes p prim vs) vs) _ (λ ws. tt)

  variable_declared : (x : Text) (es : Exprs) (m : Meant) (o : Option Primitive) (u : Option Function) → is_variable m ≡ true → Only (ActDeclared p) (calls_named c x es m o u)
  variable_declared x es (ALocal k t) o u e = value_declared (ENamed x) es
  variable_declared x es (AGlobal n t) o u e = value_declared (ENamed x) es
  variable_declared x es _ o u e = by_false_true e

  pointer_declared : (g : Expr) (es : Exprs) → is_pointer_call p scope g ≡ true → Only (ActDeclared p) (calls_expr c g es)
  pointer_declared (ENamed x) es e = variable_declared x es (named p scope x) (primitive_named x) (function_named p x) e
  pointer_declared g es e = value_declared g es

  call_declared : (g : Expr) (es : Exprs) (r : Ty) → Calls d p f.mode scope g es r → Only (ActDeclared p) (calls_expr c g es)
  call_declared _ _ _ (CallsHost x r ps es apart is_x gets many) =
      subst (λ m. Only (ActDeclared p) (calls_named c x es m (primitive_named x) (function_named p x))) (sym is_x) (host_declared x r ps es (primitive_named x) (function_named p x) is_x many)
  call_declared _ _ _ (CallsFunction x mode r ps g es own is_x is_g closed cps gets) =
      subst (λ m. Only (ActDeclared p) (calls_named c x es m (primitive_named x) (function_named p x))) (sym is_x)
      (subst (λ o. Only (ActDeclared p) (calls_named c x es (AFunction mode r ps) (primitive_named x) o)) (sym is_g) (own_declared x mode r ps es (primitive_named x) g own))
  call_declared _ _ _ (CallsPrimitive x prim es is_x is_prim is_d closed cps gets) =
      subst (λ m. Only (ActDeclared p) (calls_named c x es m (primitive_named x) (function_named p x))) (sym is_x)
      (subst (λ o. Only (ActDeclared p) (calls_named c x es NotMeant o (function_named p x))) (sym is_prim) (asks_declared_with prim es (puts_text prim es)))
  call_declared _ _ _ (CallsPointer g t r ps es apart is_pointer is_t is_u gets) = pointer_declared g es is_pointer

  -- ---- statements

  assigns_declared : (x e : Expr) → Only (ActDeclared p) (assigns c x e)
  assigns_declared x e = any_then (ActDeclared p) (value c e) _ λ w. any_then (ActDeclared p) (assign c x w) _ (λ r. tt)

  leaves_declared : (v : Value) → Only (ActDeclared p) (leaves c v)
  leaves_declared v = any_then (ActDeclared p) (free_slots slots s) _ (λ t. tt)

  section_declared : (x : Text) (es : Exprs) → Only (ActDeclared p) (detaches c x es)
  section_declared x es =
      any_then (ActDeclared p) (needed (function_named p x)) _ λ g.
      any_then (ActDeclared p) (values c es) _ λ vs.
      any_then (ActDeclared p) (all_taken (section_takes (parameter_types g)) vs) _ (λ ws. tt)

  spawn_declared : (x : Text) (es : Exprs) → Only (ActDeclared p) (spawns c x es)
  spawn_declared x es =
      any_then (ActDeclared p) (needed (function_named p x)) _ λ g.
      any_then (ActDeclared p) (values c es) _ λ vs.
      any_then (ActDeclared p) (arguments (parameter_types g) vs) _ (λ ws. tt)

  simple_declared : (t : Stmt) → IsTyped d p f scope t → Only (ActDeclared p) (simple_act c f.result t)
  simple_declared (Declare x u (Some e)) h = assigns_declared (ENamed x) e
  simple_declared (Declare x u None) h = tt
  simple_declared (Assign x op e) h = assigns_declared x (right_side op x e)
  simple_declared (Call x g es) h = call_declared g es h.0 h.1
  simple_declared (Detach x g es) h = section_declared g es
  simple_declared (Spawn g es) h = spawn_declared g es
  simple_declared (Return None) h = leaves_declared Unset
  simple_declared (Return (Some e)) h = any_then (ActDeclared p) (value c e) _ λ v. any_then (ActDeclared p) (assigned f.result v) _ (λ w. leaves_declared w)
  simple_declared _ h = tt

  found_declared : (found : Found) → FoundTyped d p f scope found → Only (ActDeclared p) (found_act c f.result found)
  found_declared (Simple t) h = simple_declared t h
  found_declared (Test None) h = tt
  found_declared (Test (Some e)) h = any_then (ActDeclared p) (value c e) _ λ v. any_then (ActDeclared p) (holds v) _ (λ b. tt)
  found_declared Nothing h = tt

  arrival_declared : (found : Found) (o : Option Value) → Only (ActDeclared p) (arrives c found o)
  arrival_declared found o =
      any_then (ActDeclared p) (needed o) _ λ v.
      any_then (ActDeclared p) (needed (target_of found)) _ λ x.
      any_then (ActDeclared p) (deliver c x v) _ (λ r. tt)

-- ---- steps

module _ (d : Dialect) (p : Program) (typed : TypedProgram d p) (s : Store) where
  returns_declared : (below : List (Frame Point)) (v : Value) (t : Store) → DoneDeclared p (returned_to below v t)
  returns_declared [] v t = tt
  returns_declared (frame ∷ below) v t = tt

  performs_declared : (frame : Frame Point) (below : List (Frame Point)) (a : Act) → ActDeclared p a → Only (DoneDeclared p) (perform (trees p) s frame below a)
  performs_declared frame below (GoesOn h t slots) k = any_then (DoneDeclared p) (needed (point_after (function_named p frame.function) frame.point h)) _ (λ next. tt)
  performs_declared frame below (Enters g vs) k =
      any_then (DoneDeclared p) (make_frame (trees p) g vs s) _ λ r. any_then (DoneDeclared p) (needed (arrival_at frame.point)) _ (λ back. tt)
  performs_declared frame below (Leaves v t) k = returns_declared below v t
  performs_declared frame below (AsksFor r) k = k

  -- what stands at a point of a function
  act_declared : (f : Function) (x : Text) (slots : List Slot) (point : Point) (o : Option Value) → function_named p x ≡ Some f
      → Only (ActDeclared p) (act (record { program = p; scope = scope_from (Some f) point; slots = slots; store = s }) f.result o (stood_at (Some f) point))
  act_declared f x slots (Here q) o is_f =
      found_declared d p f (scope_in_function f q) slots s (found f.body q) (function_typed d p f q (typed.functions x f is_f).body)
  act_declared f x slots (Arrival q) o is_f = arrival_declared d p f (scope_in_function f q) slots s (found f.body q) o
  act_declared f x slots End o is_f = leaves_declared d p f [] slots s Unset

  frames_declared : (frames : List (Frame Point)) (o : Option Value) → Only (DoneDeclared p) (frames_step (trees p) s o frames)
  frames_declared [] o = tt
  frames_declared (frame ∷ below) o = go (function_named p frame.function) refl
    where
      go : (u : Option Function) → function_named p frame.function ≡ u
          → Only (DoneDeclared p) (needed u >>= λ f. act (record { program = p; scope = scope_from u frame.point; slots = frame.slots; store = s }) f.result o (stood_at u frame.point) >>= perform (trees p) s frame below)
      go None e = tt
      go (Some f) e = only_then (ActDeclared p) (DoneDeclared p) _ _ (act_declared f frame.function frame.slots frame.point o e) (performs_declared frame below)

-- ---- items

-- by its items the name is a function of the host where a prototype declares it, since those that are defined are no host's
module _ (x : Text) (r : Ty) (ps : List Ty) where
  abbrev Means : Meant → Type 0
  Means m = m ≡ AFunction Extern r ps

  prototype_declares : (mode : Mode) (y : Text) (t : Ty) (qs : List Parameter) → y ≡ x → Means (AFunction mode t (map parameter_type qs)) → IsHost x (length ps) (PrototypeItem mode y t qs)
  prototype_declares mode y t qs same e =
      let host : mode ≡ Extern = cc in
      let types : map parameter_type qs ≡ ps = cc in
      subst (λ m. IsHost x (length ps) (PrototypeItem m y t qs)) (sym host) (same, ap length (sym types) ∙ length_of_map parameter_type qs)

  items_declare : (n : ℕ) (xs : List LItem) → Each ItemShape xs → Means (item_named n (map bare_item xs) x) → DeclaresHost (map bare_item xs) x (length ps)
  items_declare n [] s e = absurd (cc)
  items_declare n (LStruct tag fs ∷ xs) s e = inr (items_declare n xs s.1 e)
  items_declare n (LGlobal y t start ∷ xs) s e = go (bytes_eq y.text x) e (items_declare (suc n) xs s.1)
    where
      go : (b : Bool) → Means (cond b (AGlobal n t) (item_named (suc n) (map bare_item xs) x)) → (Means (item_named (suc n) (map bare_item xs) x) → DeclaresHost (map bare_item xs) x (length ps))
          → DeclaresHost (bare_item (LGlobal y t start) ∷ map bare_item xs) x (length ps)
      go true h rest = absurd (cc)
      go false h rest = inr (rest h)
  items_declare n (LPrototype q mode y t qs ∷ xs) s e = go (bytes_eq y.text x) refl e (items_declare n xs s.1)
    where
      go : (b : Bool) → bytes_eq y.text x ≡ b → Means (cond b (AFunction mode t (map parameter_type (map bare_parameter qs))) (item_named n (map bare_item xs) x))
          → (Means (item_named n (map bare_item xs) x) → DeclaresHost (map bare_item xs) x (length ps)) → DeclaresHost (bare_item (LPrototype q mode y t qs) ∷ map bare_item xs) x (length ps)
      go true i h rest = inl (prototype_declares mode y.text t (map bare_parameter qs) (same_text y.text x i) h)
      go false i h rest = inr (rest h)
  items_declare n (LFunctionItem f ∷ xs) s e = go (bytes_eq f.called.text x) e (items_declare n xs s.1)
    where
      go : (b : Bool) → Means (cond b (AFunction f.mode f.result (map parameter_type (map bare_parameter f.parameters))) (item_named n (map bare_item xs) x))
          → (Means (item_named n (map bare_item xs) x) → DeclaresHost (map bare_item xs) x (length ps)) → DeclaresHost (bare_item (LFunctionItem f) ∷ map bare_item xs) x (length ps)
      go true h rest =
          let host : f.mode ≡ Extern = cc in
          by_false_true (sym (ap is_own host) ∙ s.0.0)
      go false h rest = inr (rest h)

pub accepted_declared : AcceptedAskDeclared
accepted_declared dialect list end p read h s k x vs e =
    let asked = subst (Only (DoneDeclared (bare p))) e (frames_declared dialect (bare p) (accepted_is_typed dialect list end p read h) s k.frames k.arriving) in
    subst (DeclaresHost (bare p) x) (sym asked.3) (items_declare x asked.0 asked.1 0 p.items (items_shape list p.items read.1 read.3) asked.2)
