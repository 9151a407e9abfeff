-- What native code of an accepted program asks for.
use Rattle.std.proofs.Common.{◌≡◌, Bool, true, false, List, [], ◌∷◌, Option, Some, None, refl, sym, ◌∙◌, ap, subst}
use Rattle.cpc_base.specs.Bytes.{Text}
use Rattle.cpc_base.specs.declared.stop.Dialect.TheVariants as D
use Rattle.cpc_base.proofs.Truth.{by_false_and_true}
use Rattle.cpc_store.specs.Store.{Value, Unset, Store}
use Rattle.cpc_tree.specs.declared.program.Mode.TheVariants.{Extern}
use Rattle.cpc_tree.specs.Points.{Found, Simple, Test, Nothing}
use Rattle.cpc_tree.specs.Primitives.{Primitive, primitive_named}
use Rattle.cpc_tree.specs.Syntax.{Expr, ENamed, Exprs, Stmt, Declare, Assign, Call, Detach, Spawn, Return, Function, Program}
use Rattle.cpc_tree.specs.Typing.{Scope, Meant, AFunction, NotMeant, named, function_named, parameter_types, code_parameters}
use Rattle.cpc_meaning.specs.Act.{Stood, AtStatement, AtArrival, AtEnd, Act, GoesOn, Enters, Leaves, AsksFor, assign, assigns, calls, callee, calls_value, puts_text, asks_with, calls_named, calls_expr, spawns, leaves, returns, right_side, simple_act, found_act, act, deliver, target_of}
use Rattle.cpc_meaning.specs.Answer.{Answer, Gives, needed}
use Rattle.cpc_meaning.specs.Eval.{Slot, Context, used_type, value, values, holds, assigned}
use Rattle.cpc_meaning.specs.Plain.{Form, Frame, Asks, make_frame, returned_to, perform, context, frames_step}
use Rattle.cpc_meaning.specs.Requests.{Request, takes, all_taken, all_long, arguments}
use Rattle.cpc_meaning.specs.Slots.{free_slots}
use Rattle.cpc_meaning.proofs.Functions.{gives_then}
use Rattle.cpc_meaning_laws.proofs.Pointer.Blocks.{Only, any_then}
use Rattle.cpc_check_rules.specs.Calls.{gives_up}
use Rattle.cpc_check_rules.specs.Operators as O
use Rattle.cpc_check_laws.specs.Sound.Typed.{is_for, IsTyped, FoundTyped}
use Rattle.cpc_lifted_laws.specs.Accepted.Names.{HasNames}
use Rattle.cpc_lifted_laws.specs.Accepted.Points.{in_scope, IsAskedByNative}
use Rattle.cpc_lifted_laws.proofs.Accepted.Statements.{called_primitive}

-- ---- acts

-- what an act asks for, where this stands
abbrev AsksSo : Stood → Act → Type 0
AsksSo stood (AsksFor r) = IsAskedByNative stood r.asked
AsksSo stood a = Unit {0}

module _ (p : Program) (names : HasNames p) (f : Function) (native : O.is_cps f.mode ≡ false) (scope : Scope) (slots : List Slot) (s : Store) where
  abbrev c : Context
  c = in_scope p scope slots s

  module _ (stood : Stood) where
    abbrev So : Answer Act → Type 0
    So a = Only (AsksSo stood) a

    assigns_so : (x v : Expr) → So (assigns c x v)
    assigns_so x v = any_then (AsksSo stood) (value c v) _ λ w. any_then (AsksSo stood) (assign c x w) _ λ r. tt

    calls_so : (g : Function) (es : Exprs) → So (calls c g es)
    calls_so g es = any_then (AsksSo stood) (values c es) _ λ vs. any_then (AsksSo stood) (arguments (parameter_types g) vs) _ λ ws. tt

    calls_value_so : (e : Expr) (es : Exprs) → So (calls_value c e es)
    calls_value_so e es =
        any_then (AsksSo stood) (value c e) _ λ v.
        any_then (AsksSo stood) (needed (used_type c e)) _ λ t.
        any_then (AsksSo stood) (values c es) _ λ vs.
        any_then (AsksSo stood) (arguments (code_parameters t) vs) _ λ ws.
        any_then (AsksSo stood) (callee p t v) _ λ g. tt

    asks_so : (prim : Primitive) (es : Exprs) (o : Option Text) → (is_for D.Cpc prim ≡ true) × (gives_up prim ≡ false) → So (asks_with c prim es o)
    asks_so prim es (Some bytes) h = h
    asks_so prim es None h = any_then (AsksSo stood) (values c es) _ λ vs. any_then (AsksSo stood) (all_taken (takes p prim vs) vs) _ λ ws. h

    named_so : (x : Text) (es : Exprs) (m : Meant) (prim : Option Primitive) (o : Option Function) → ((q : Primitive) → m ≡ NotMeant → prim ≡ Some q → (is_for D.Cpc q ≡ true) × (gives_up q ≡ false)) → So (calls_named c x es m prim o)
    named_so x es (AFunction Extern r ps) prim o h = any_then (AsksSo stood) (values c es) _ λ vs. any_then (AsksSo stood) (all_long vs) _ λ ws. tt
    named_so x es (AFunction mode r ps) prim (Some g) h = calls_so g es
    named_so x es NotMeant (Some prim) o h = asks_so prim es (puts_text prim es) (h prim refl refl)
    named_so x es m prim o h = calls_value_so (ENamed x) es

    leaves_so : (v : Value) → So (leaves c v)
    leaves_so v = any_then (AsksSo stood) (free_slots slots s) _ λ t. tt

    returns_so : (o : Option Expr) → So (returns c f.result o)
    returns_so None = leaves_so Unset
    returns_so (Some x) = any_then (AsksSo stood) (value c x) _ λ v. any_then (AsksSo stood) (assigned f.result v) _ λ w. leaves_so w

    -- only cps functions call primitives that wait
    waits_not : (prim : Primitive) → (is_for D.Cpc prim ≡ true) × (gives_up prim ≡ true → O.is_cps f.mode ≡ true) → (is_for D.Cpc prim ≡ true) × (gives_up prim ≡ false)
    waits_not prim h = (h.0, go (gives_up prim) refl)
      where
        go : (b : Bool) → gives_up prim ≡ b → b ≡ false
        go true e = by_false_and_true (O.is_cps f.mode) native (h.1 e)
        go false e = refl

    call_so : (to : Option Expr) (g : Expr) (es : Exprs) → IsTyped D.Cpc p f scope (Call to g es) → So (calls_expr c g es)
    call_so to (ENamed x) es h =
        named_so x es (named p scope x) (primitive_named x) (function_named p x) (λ q none i. waits_not q (called_primitive p names f.mode scope (ENamed x) es h.0 h.1 x refl none q i))
    call_so to g es h = calls_value_so g es

  spawns_so : (x : Text) (es : Exprs) → So (AtStatement (Simple (Spawn x es))) (spawns c x es)
  spawns_so x es =
      let stood = AtStatement (Simple (Spawn x es)) in
      any_then (AsksSo stood) (needed (function_named p x)) _ λ g.
      any_then (AsksSo stood) (values c es) _ λ vs.
      any_then (AsksSo stood) (arguments (parameter_types g) vs) _ λ ws. (es, refl)

  simple_so : (t : Stmt) → IsTyped D.Cpc p f scope t → So (AtStatement (Simple t)) (simple_act c f.result t)
  simple_so (Declare x t (Some v)) h = assigns_so _ (ENamed x) v
  simple_so (Assign x op v) h = assigns_so _ x (right_side op x v)
  simple_so (Call x g es) h = call_so _ x g es h
  simple_so (Detach x y es) h = by_false_and_true (O.is_cps f.mode) native h.3
  simple_so (Spawn g es) h = spawns_so g es
  simple_so (Return v) h = returns_so _ v
  simple_so t h = tt

  found_so : (found : Found) → FoundTyped D.Cpc p f scope found → So (AtStatement found) (found_act c f.result found)
  found_so (Simple t) h = simple_so t h
  found_so (Test None) h = tt
  found_so (Test (Some t)) h = any_then (AsksSo (AtStatement (Test (Some t)))) (value c t) _ λ v. any_then (AsksSo (AtStatement (Test (Some t)))) (holds v) _ λ b. tt
  found_so Nothing h = tt

  -- what a step asks for
  pub act_so : (o : Option Value) (stood : Stood) → ((found : Found) → stood ≡ AtStatement found → FoundTyped D.Cpc p f scope found) → (r : Request) → act c f.result o stood ≡ Gives (AsksFor r) → IsAskedByNative stood r.asked
  act_so o stood typed r e = subst (So stood) e (go stood typed)
    where
      go : (stood : Stood) → ((found : Found) → stood ≡ AtStatement found → FoundTyped D.Cpc p f scope found) → So stood (act c f.result o stood)
      go (AtStatement found) typed = found_so found (typed found refl)
      go (AtArrival found) typed =
          any_then (AsksSo (AtArrival found)) (needed o) _ λ v.
          any_then (AsksSo (AtArrival found)) (needed (target_of found)) _ λ x.
          any_then (AsksSo (AtArrival found)) (deliver c x v) _ λ r. tt
      go AtEnd typed = leaves_so AtEnd Unset

-- ---- steps

module _ {P : Type 0} (p : Form P) (s : Store) (frame : Frame P) (below : List (Frame P)) (r : Request) where
  asked_back : (v : Value) (t : Store) (xs : List (Frame P)) → Gives (returned_to xs v t) ≡ Gives (Asks r) → ⊥
  asked_back v t [] e = cc
  asked_back v t (x ∷ xs) e = cc

  -- an act that asks is a request
  performed_asks : (a : Act) → perform p s frame below a ≡ Gives (Asks r) → a ≡ AsksFor r
  performed_asks (GoesOn h t slots) e = let g = gives_then (needed (p.code.goes frame.function frame.point h)) _ (Asks r) e in let i = g.2 in absurd (cc)
  performed_asks (Enters g vs) e =
      let k = gives_then (make_frame p g vs s) _ (Asks r) e in
      let h = gives_then (needed (p.code.arrival frame.function frame.point)) _ (Asks r) k.2 in
      let i = h.2 in absurd (cc)
  performed_asks (Leaves v t) e = absurd (asked_back v t below e)
  performed_asks (AsksFor q) e = let i : q ≡ r = cc in ap (λ q. AsksFor q) i

  -- so a step that asks is an act that does
  pub step_asks : (o : Option Value) (f : Function) → function_named p.program frame.function ≡ Some f → frames_step p s o (frame ∷ below) ≡ Gives (Asks r)
      → act (context p s frame) f.result o (p.code.stood frame.function frame.point) ≡ Gives (AsksFor r)
  step_asks o f is e =
      let g = gives_then (needed (function_named p.program frame.function)) _ (Asks r) e in
      let same : g.0 ≡ f = let i : needed (Some f) ≡ Gives g.0 = sym (ap needed is) ∙ g.1 in cc in
      let h = gives_then (act (context p s frame) g.0.result o (p.code.stood frame.function frame.point)) _ (Asks r) g.2 in
      let i = performed_asks h.0 h.2 in
      subst (λ (k : Function). act (context p s frame) k.result o (p.code.stood frame.function frame.point) ≡ Gives (AsksFor r)) same (h.1 ∙ ap (λ a. Gives a) i)
