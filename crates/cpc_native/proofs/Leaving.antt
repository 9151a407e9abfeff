-- A function that is left frees the blocks of its variables.
use Rattle.std.proofs.Common.{◌≡◌, Option, Some, None, refl, subst}
use Rattle.cpc_base.specs.Bytes.{Text}
use Rattle.cpc_tree.specs.declared.program.Mode.TheVariants.{Extern}
use Rattle.cpc_tree.specs.Syntax.{Ty, Expr, ENamed, Exprs, Stmt, Declare, Assign, Call, Detach, Spawn, Return, Function}
use Rattle.cpc_tree.specs.Typing.{Meant, AFunction, NotMeant, named, function_named, parameter_types, code_parameters}
use Rattle.cpc_tree.specs.Points.{Found, Simple, Test, Nothing}
use Rattle.cpc_store.specs.Store.{Value, Unset, Store}
use Rattle.cpc_meaning.specs.Answer.{Answer, Gives, Faults, NoAnswer, ◌>>=◌, needed}
use Rattle.cpc_meaning.specs.Eval.{Context, used_type, value, values, holds, assigned}
use Rattle.cpc_meaning.specs.Slots.{free_slots}
use Rattle.cpc_meaning.specs.Requests.{Primitive, primitive_named, takes, section_takes, all_taken, all_long, arguments}
use Rattle.cpc_meaning.specs.Act.{Stood, AtStatement, AtArrival, AtEnd, Act, Leaves, assign, deliver, right_side, assigns, calls, callee, calls_value, puts_text, asks_with, calls_named, calls_expr, detaches, spawns, leaves, returns, simple_act, test_act, found_act, target_of, arrives, act}
use Rattle.cpc_meaning_laws.proofs.Cell.Going.{If, if_any}

module _ (c : Context) where
  -- where a function is left
  abbrev FreesOn : Act → Type 0
  FreesOn (Leaves v t) = free_slots c.slots c.store ≡ Gives t
  FreesOn _ = Unit {0}

  assigns_frees : (x v : Expr) → If FreesOn (assigns c x v)
  assigns_frees x v = if_any FreesOn (value c v) _ λ w. if_any FreesOn (assign c x w) _ (λ r. tt)

  calls_frees : (f : Function) (es : Exprs) → If FreesOn (calls c f es)
  calls_frees f es = if_any FreesOn (values c es) _ λ vs. if_any FreesOn (arguments (parameter_types f) vs) _ (λ ws. tt)

  value_frees : (f : Expr) (es : Exprs) → If FreesOn (calls_value c f es)
  value_frees f es =
      if_any FreesOn (value c f) _ λ v. if_any FreesOn (needed (used_type c f)) _ λ t. if_any FreesOn (values c es) _ λ vs.
      if_any FreesOn (arguments (code_parameters t) vs) _ λ ws. if_any FreesOn (callee c.program t v) _ (λ g. tt)

  primitive_frees : (prim : Primitive) (es : Exprs) (o : Option Text) → If FreesOn (asks_with c prim es o)
  primitive_frees prim es (Some bytes) = tt
  primitive_frees prim es None = if_any FreesOn (values c es) _ λ vs. if_any FreesOn (all_taken (takes c.program prim vs) vs) _ (λ ws. tt)

  named_frees : (x : Text) (es : Exprs) (m : Meant) (o : Option Primitive) (g : Option Function) → If FreesOn (calls_named c x es m o g)
  named_frees x es (AFunction Extern r ps) o g = if_any FreesOn (values c es) _ λ vs. if_any FreesOn (all_long vs) _ (λ ws. tt)
  named_frees x es (AFunction mode r ps) o (Some f) = calls_frees f es
  named_frees x es NotMeant (Some prim) g = primitive_frees prim es (puts_text prim es)
  named_frees x es m o g = value_frees (ENamed x) es

  call_frees : (f : Expr) (es : Exprs) → If FreesOn (calls_expr c f es)
  call_frees (ENamed x) es = named_frees x es (named c.program c.scope x) (primitive_named x) (function_named c.program x)
  call_frees f es = value_frees f es

  detaches_frees : (f : Text) (es : Exprs) → If FreesOn (detaches c f es)
  detaches_frees f es =
      if_any FreesOn (needed (function_named c.program f)) _ λ g. if_any FreesOn (values c es) _ λ vs. if_any FreesOn (all_taken (section_takes (parameter_types g)) vs) _ (λ ws. tt)

  spawns_frees : (f : Text) (es : Exprs) → If FreesOn (spawns c f es)
  spawns_frees f es =
      if_any FreesOn (needed (function_named c.program f)) _ λ g. if_any FreesOn (values c es) _ λ vs. if_any FreesOn (arguments (parameter_types g) vs) _ (λ ws. tt)

  leaves_frees : (v : Value) → If FreesOn (leaves c v)
  leaves_frees v = go (free_slots c.slots c.store) refl
    where
      go : (a : Answer Store) → free_slots c.slots c.store ≡ a → If FreesOn (a >>= λ s. Gives (Leaves v s))
      go (Gives s) e = e
      go (Faults fault) e = tt
      go NoAnswer e = tt

  returns_frees : (result : Ty) (o : Option Expr) → If FreesOn (returns c result o)
  returns_frees result None = leaves_frees Unset
  returns_frees result (Some x) = if_any FreesOn (value c x) _ λ v. if_any FreesOn (assigned result v) _ (λ w. leaves_frees w)

  simple_frees : (result : Ty) (s : Stmt) → If FreesOn (simple_act c result s)
  simple_frees result (Declare x t (Some v)) = assigns_frees (ENamed x) v
  simple_frees result (Assign x op v) = assigns_frees x (right_side op x v)
  simple_frees result (Call x f es) = call_frees f es
  simple_frees result (Detach x f es) = detaches_frees f es
  simple_frees result (Spawn f es) = spawns_frees f es
  simple_frees result (Return v) = returns_frees result v
  simple_frees result s = tt

  test_frees : (o : Option Expr) → If FreesOn (test_act c o)
  test_frees None = tt
  test_frees (Some t) = if_any FreesOn (value c t) _ λ v. if_any FreesOn (holds v) _ (λ h. tt)

  found_frees : (result : Ty) (f : Found) → If FreesOn (found_act c result f)
  found_frees result (Simple s) = simple_frees result s
  found_frees result (Test t) = test_frees t
  found_frees result Nothing = tt

  -- a value that arrives leaves nothing
  arrives_frees : (f : Found) (o : Option Value) → If FreesOn (arrives c f o)
  arrives_frees f o =
      if_any FreesOn (needed o) _ λ v. if_any FreesOn (needed (target_of f)) _ λ x. if_any FreesOn (deliver c x v) _ (λ r. tt)

  act_frees : (result : Ty) (o : Option Value) (stood : Stood) → If FreesOn (act c result o stood)
  act_frees result o (AtStatement f) = found_frees result f
  act_frees result o (AtArrival f) = arrives_frees f o
  act_frees result o AtEnd = leaves_frees Unset

-- what a function is left with is the store without its blocks
pub left_free : (c : Context) (result : Ty) (o : Option Value) (stood : Stood) (v : Value) (t : Store) → act c result o stood ≡ Gives (Leaves v t) → free_slots c.slots c.store ≡ Gives t
left_free c result o stood v t e = subst (If (FreesOn c)) e (act_frees c result o stood)
