-- Where a thread is spawned, a spawn stands.
use Rattle.std.proofs.Common.{◌≡◌, List, [], ◌∷◌, Option, Some, None, refl, subst}
use Rattle.cpc_base.specs.Bytes.{Text}
use Rattle.cpc_store.specs.Store.{Value, Unset, Store}
use Rattle.cpc_tree.specs.declared.program.Mode.TheVariants.{Extern}
use Rattle.cpc_tree.specs.Points.{Found, Simple, Test, Nothing}
use Rattle.cpc_tree.specs.Primitives.{Primitive, primitive_named}
use Rattle.cpc_tree.specs.Syntax.{Ty, Expr, ENamed, Exprs, Stmt, Declare, Assign, Call, Detach, Spawn, Return, Function}
use Rattle.cpc_tree.specs.Typing.{Meant, AFunction, NotMeant, named, function_named, parameter_types, code_parameters}
use Rattle.cpc_meaning.specs.Act.{Stood, AtStatement, AtArrival, AtEnd, Act, AsksFor, assign, assigns, calls, callee, calls_value, puts_text, asks_with, calls_named, calls_expr, detaches, spawns, leaves, returns, right_side, simple_act, found_act, act, deliver, target_of}
use Rattle.cpc_meaning.specs.Answer.{Answer, Gives, needed}
use Rattle.cpc_meaning.specs.Eval.{Context, used_type, value, values, holds, assigned}
use Rattle.cpc_meaning.specs.Plain.{Form, Frame, Asks, context, frames_step}
use Rattle.cpc_meaning.specs.Requests.{Asked, Builtin, Host, ToSpawn, Section, Request, takes, all_taken, all_long, arguments, section_takes}
use Rattle.cpc_meaning.specs.Slots.{free_slots}
use Rattle.cpc_meaning.proofs.Functions.{gives_then}
use Rattle.cpc_meaning.proofs.Machines.{needed_is}
use Rattle.cpc_meaning_laws.proofs.Pointer.Blocks.{Only, any_then}
use Rattle.cpc_lifted_laws.proofs.Accepted.Asks.{step_asks}

-- a spawn of the function stands there
abbrev IsSpawned : Stood → Asked → Type 0
IsSpawned stood (ToSpawn f) = (es : Exprs) × (stood ≡ AtStatement (Simple (Spawn f es)))
IsSpawned stood (Builtin prim) = Unit {0}
IsSpawned stood (Host x) = Unit {0}
IsSpawned stood (Section f) = Unit {0}

abbrev SpawnSo : Stood → Act → Type 0
SpawnSo stood (AsksFor r) = IsSpawned stood r.asked
SpawnSo stood a = Unit {0}

module _ (c : Context) (result : Ty) where
  module _ (stood : Stood) where
    abbrev So : Answer Act → Type 0
    So a = Only (SpawnSo stood) a

    assigns_so : (x v : Expr) → So (assigns c x v)
    assigns_so x v = any_then (SpawnSo stood) (value c v) _ λ w. any_then (SpawnSo stood) (assign c x w) _ λ r. tt

    calls_so : (g : Function) (es : Exprs) → So (calls c g es)
    calls_so g es = any_then (SpawnSo stood) (values c es) _ λ vs. any_then (SpawnSo stood) (arguments (parameter_types g) vs) _ λ ws. tt

    calls_value_so : (e : Expr) (es : Exprs) → So (calls_value c e es)
    calls_value_so e es =
        any_then (SpawnSo stood) (value c e) _ λ v.
        any_then (SpawnSo stood) (needed (used_type c e)) _ λ t.
        any_then (SpawnSo stood) (values c es) _ λ vs.
        any_then (SpawnSo stood) (arguments (code_parameters t) vs) _ λ ws.
        any_then (SpawnSo stood) (callee c.program t v) _ λ g. tt

    asks_so : (prim : Primitive) (es : Exprs) (o : Option Text) → So (asks_with c prim es o)
    asks_so prim es (Some bytes) = tt
    asks_so prim es None = any_then (SpawnSo stood) (values c es) _ λ vs. any_then (SpawnSo stood) (all_taken (takes c.program prim vs) vs) _ λ ws. tt

    named_so : (x : Text) (es : Exprs) (m : Meant) (prim : Option Primitive) (o : Option Function) → So (calls_named c x es m prim o)
    named_so x es (AFunction Extern r ps) prim o = any_then (SpawnSo stood) (values c es) _ λ vs. any_then (SpawnSo stood) (all_long vs) _ λ ws. tt
    named_so x es (AFunction mode r ps) prim (Some g) = calls_so g es
    named_so x es NotMeant (Some prim) o = asks_so prim es (puts_text prim es)
    named_so x es m prim o = calls_value_so (ENamed x) es

    call_so : (g : Expr) (es : Exprs) → So (calls_expr c g es)
    call_so (ENamed x) es = named_so x es (named c.program c.scope x) (primitive_named x) (function_named c.program x)
    call_so g es = calls_value_so g es

    detaches_so : (x : Text) (es : Exprs) → So (detaches c x es)
    detaches_so x es =
        any_then (SpawnSo stood) (needed (function_named c.program x)) _ λ g.
        any_then (SpawnSo stood) (values c es) _ λ vs.
        any_then (SpawnSo stood) (all_taken (section_takes (parameter_types g)) vs) _ λ ws. tt

    leaves_so : (v : Value) → So (leaves c v)
    leaves_so v = any_then (SpawnSo stood) (free_slots c.slots c.store) _ λ t. tt

    returns_so : (o : Option Expr) → So (returns c result o)
    returns_so None = leaves_so Unset
    returns_so (Some x) = any_then (SpawnSo stood) (value c x) _ λ v. any_then (SpawnSo stood) (assigned result v) _ λ w. leaves_so w

  spawns_so : (x : Text) (es : Exprs) → So (AtStatement (Simple (Spawn x es))) (spawns c x es)
  spawns_so x es =
      let stood = AtStatement (Simple (Spawn x es)) in
      any_then (SpawnSo stood) (needed (function_named c.program x)) _ λ g.
      any_then (SpawnSo stood) (values c es) _ λ vs.
      any_then (SpawnSo stood) (arguments (parameter_types g) vs) _ λ ws. (es, refl)

  simple_so : (t : Stmt) → So (AtStatement (Simple t)) (simple_act c result t)
  simple_so (Declare x t (Some v)) = assigns_so _ (ENamed x) v
  simple_so (Assign x op v) = assigns_so _ x (right_side op x v)
  simple_so (Call x g es) = call_so _ g es
  simple_so (Detach x y es) = detaches_so _ y es
  simple_so (Spawn g es) = spawns_so g es
  simple_so (Return v) = returns_so _ v
  simple_so t = tt

  found_so : (found : Found) → So (AtStatement found) (found_act c result found)
  found_so (Simple t) = simple_so t
  found_so (Test None) = tt
  found_so (Test (Some t)) = any_then (SpawnSo (AtStatement (Test (Some t)))) (value c t) _ λ v. any_then (SpawnSo (AtStatement (Test (Some t)))) (holds v) _ λ b. tt
  found_so Nothing = tt

  act_so : (o : Option Value) (stood : Stood) → So stood (act c result o stood)
  act_so o (AtStatement found) = found_so found
  act_so o (AtArrival found) =
      any_then (SpawnSo (AtArrival found)) (needed o) _ λ v.
      any_then (SpawnSo (AtArrival found)) (needed (target_of found)) _ λ x.
      any_then (SpawnSo (AtArrival found)) (deliver c x v) _ λ r. tt
  act_so o AtEnd = leaves_so AtEnd Unset

-- where a step spawns, the first frame is one of a function that is there, and the spawn stands there
pub record Spawning {P : Type 0} (p : Form P) (f : Text) : Type 0 where
  pub name : Text
  pub function : Function
  pub at : P
  pub arguments : Exprs
  pub named : function_named p.program name ≡ Some function
  pub stood : p.code.stood name at ≡ AtStatement (Simple (Spawn f arguments))

pub step_spawns : {P : Type 0} (p : Form P) (s : Store) (o : Option Value) (frames : List (Frame P)) (f : Text) (vs : List Value) → frames_step p s o frames ≡ Gives (Asks (record { asked = ToSpawn f; arguments = vs })) → Spawning p f
step_spawns p s o [] f vs e = absurd (cc)
step_spawns p s o (frame ∷ below) f vs e =
    let r : Request = record { asked = ToSpawn f; arguments = vs } in
    let g = gives_then (needed (function_named p.program frame.function)) _ (Asks r) e in
    let is = needed_is (function_named p.program frame.function) g.0 g.1 in
    let i = step_asks p s frame below r o g.0 is e in
    let w : IsSpawned (p.code.stood frame.function frame.point) (ToSpawn f) = subst (Only (SpawnSo (p.code.stood frame.function frame.point))) i (act_so (context p s frame) g.0.result o (p.code.stood frame.function frame.point)) in
    record { name = frame.function; function = g.0; at = frame.point; arguments = w.0; named = is; stood = w.1 }
