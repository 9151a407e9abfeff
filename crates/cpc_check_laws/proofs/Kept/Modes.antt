-- The code of an accepted program keeps modes: cps functions are called by cps functions alone.
use Rattle.std.proofs.Common.{◌≡◌, ◌⊎◌, inl, inr, true, false, List, Option, Some, refl, sym, ◌∙◌, ap, subst}
use Rattle.cpc_base.specs.Bytes.{Text}
use Rattle.cpc_base.specs.declared.stop.Dialect.{Dialect}
use Rattle.cpc_base.specs.declared.stop.Dialect.TheVariants as D
use Rattle.cpc_tree.specs.declared.program.Mode.{Mode}
use Rattle.cpc_tree.specs.declared.program.Mode.TheVariants.{Extern, Native, Detached}
use Rattle.cpc_tree.specs.Syntax.{Ty, Expr, ENamed, Exprs, Stmt, Call, Detach, Spawn, Function, Program}
use Rattle.cpc_tree.specs.Located.{bare}
use Rattle.cpc_tree.specs.Points.{Point, Here, Arrival, End, Simple}
use Rattle.cpc_tree.specs.Primitives.{Primitive, primitive_named}
use Rattle.cpc_tree.specs.Registers.{scope_in_function}
use Rattle.cpc_tree.specs.Typing.{Scope, Meant, AFunction, NotMeant, named, item_named, function_named}
use Rattle.cpc_meaning.specs.Act.{AtStatement}
use Rattle.cpc_meaning.specs.Trees.{stood_at, scope_from, trees}
use Rattle.cpc_meaning.specs.Ways.{ways}
use Rattle.cpc_check_rules.specs.Operators.{is_cps}
use Rattle.cpc_check_rules.specs.Calls.{gives_up}
use Rattle.cpc_check_laws.specs.Sound.Typed.{is_own, is_variable, is_pointer_call, Calls, CallsHost, CallsFunction, CallsPrimitive, CallsPointer, IsTyped, FoundTyped, TypedProgram}
use Rattle.cpc_check_laws.proofs.Sound.Paths.{function_typed}
use Rattle.cpc_check_laws.proofs.Sound.Agreement.{Facts}
use Rattle.cpc_check_laws.proofs.Sound.Accepted.{accepted_is_typed, accepted_facts}
use Rattle.cpc_check_laws.specs.Kept.Codes.{IsNative}
use Rattle.cpc_check_laws.specs.Kept.Layers.{KeepsModes}
use Rattle.cpc_check_laws.specs.Kept.Laws.{AcceptedKeepsModes, AcceptedHold}
use Rattle.cpc_check_laws.proofs.Kept.Trees.{statement_is, native_there, accepted_is_steady}
use Rattle.cpc_check_laws.proofs.Kept.LayerRuns.{threads_hold}

-- names that are one expression are one text
pub same_name : (x y : Text) → ENamed x ≡ ENamed y → x ≡ y
same_name x y e = cc

no_function : {A : Type 0} (m : Meant) (mode : Mode) (r : Ty) (ps : List Ty) → m ≡ NotMeant → m ≡ AFunction mode r ps → A
no_function m mode r ps e g = absurd (cc)

own_is_no_host : {A : Type 0} (m : Meant) (mode : Mode) (r q : Ty) (ps qs : List Ty) → m ≡ AFunction Extern q qs → m ≡ AFunction mode r ps → is_own mode ≡ true → A
own_is_no_host m mode r q ps qs e g o =
    let same : Extern ≡ mode = let i : AFunction Extern q qs ≡ AFunction mode r ps = sym e ∙ g in cc in
    let k : false ≡ true = ap is_own same ∙ o in
    absurd (cc)

no_variable : {A : Type 0} (m n : Meant) → is_variable m ≡ true → m ≡ n → is_variable n ≡ false → A
no_variable m n e g h = let k : true ≡ false = sym e ∙ ap is_variable g ∙ h in absurd (cc)

same_function : (p : Program) (x y : Text) (f g : Function) → x ≡ y → function_named p x ≡ Some f → function_named p y ≡ Some g → f ≡ g
same_function p x y f g e i j = let k : Some f ≡ Some g = sym i ∙ ap (function_named p) e ∙ j in cc

module _ (d : Dialect) (p : Program) (around : Mode) (scope : Scope) where
  -- a function that is called by its name
  call_modes : (e : Expr) (es : Exprs) (t : Ty) → Calls d p around scope e es t → (y : Text) → e ≡ ENamed y → (mode : Mode) (r : Ty) (ps : List Ty) (g : Function)
      → named p scope y ≡ AFunction mode r ps → is_own mode ≡ true → function_named p y ≡ Some g → is_cps g.mode ≡ true → is_cps around ≡ true
  call_modes _ _ _ (CallsHost x q qs es apart is_x gets many) y e mode r ps g m o is cps = own_is_no_host (named p scope y) mode r q ps qs (ap (named p scope) (sym (same_name x y e)) ∙ is_x) m o
  call_modes _ _ _ (CallsFunction x k q qs h es own is_x is_h closed may gets) y e mode r ps g m o is cps = may (ap (λ g. is_cps g.mode) (same_function p x y h g (same_name x y e) is_h is) ∙ cps)
  call_modes _ _ _ (CallsPrimitive x prim es is_x is_prim is_d closed may gets) y e mode r ps g m o is cps = no_function (named p scope y) mode r ps (ap (named p scope) (sym (same_name x y e)) ∙ is_x) m
  call_modes _ _ _ (CallsPointer f typed q qs es apart is_pointer is_t is_u gets) y e mode r ps g m o is cps = no_variable (named p scope y) (AFunction mode r ps) (ap (is_pointer_call p scope) (sym e) ∙ is_pointer) m refl

  -- a primitive that is called
  wait_modes : (e : Expr) (es : Exprs) (t : Ty) → Calls d p around scope e es t → (y : Text) → e ≡ ENamed y → (prim : Primitive)
      → named p scope y ≡ NotMeant → primitive_named y ≡ Some prim → gives_up prim ≡ true → is_cps around ≡ true
  wait_modes _ _ _ (CallsHost x q qs es apart is_x gets many) y e prim m is up = no_function (named p scope y) Extern q qs m (ap (named p scope) (sym (same_name x y e)) ∙ is_x)
  wait_modes _ _ _ (CallsFunction x k q qs h es own is_x is_h closed may gets) y e prim m is up = no_function (named p scope y) k q qs m (ap (named p scope) (sym (same_name x y e)) ∙ is_x)
  wait_modes _ _ _ (CallsPrimitive x q es is_x is_q is_d closed may gets) y e prim m is up =
      may (ap gives_up (let same : q ≡ prim = let i : Some q ≡ Some prim = sym is_q ∙ ap primitive_named (same_name x y e) ∙ is in cc in same) ∙ up)
  wait_modes _ _ _ (CallsPointer f typed q qs es apart is_pointer is_t is_u gets) y e prim m is up = no_variable (named p scope y) NotMeant (ap (is_pointer_call p scope) (sym e) ∙ is_pointer) m refl

-- ---- programs

no_cps_there : (g : Function) → ((g.mode ≡ Native) ⊎ (g.mode ≡ Detached)) → is_cps g.mode ≡ false
no_cps_there g (inl e) = ap is_cps e
no_cps_there g (inr e) = ap is_cps e

module _ (p : Program) (typed : TypedProgram D.Cpc p) (facts : Facts p) where
  -- what stands at a point of a function is typed
  typed_at : (x : Text) (f : Function) (point : Point) (t : Stmt) → function_named p x ≡ Some f → stood_at (function_named p x) point ≡ AtStatement (Simple t) → IsTyped D.Cpc p f (scope_from (function_named p x) point) t
  typed_at x f point t e i =
      subst (λ o. IsTyped D.Cpc p f (scope_from o point) t) (sym e) (at_point point (ap (λ o. stood_at o point) (sym e) ∙ i))
    where
      at_point : (point : Point) → stood_at (Some f) point ≡ AtStatement (Simple t) → IsTyped D.Cpc p f (scope_from (Some f) point) t
      at_point (Here path) i = subst (FoundTyped D.Cpc p f (scope_in_function f path)) (statement_is _ _ i) (function_typed D.Cpc p f path (typed.functions x f e).body)
      at_point (Arrival path) i = absurd (cc)
      at_point End i = absurd (cc)

  calls_modes : (x : Text) (f : Function) (point : Point) (to : Option Expr) (y : Text) (es : Exprs) (mode : Mode) (r : Ty) (ps : List Ty) (g : Function)
      → function_named p x ≡ Some f → stood_at (function_named p x) point ≡ AtStatement (Simple (Call to (ENamed y) es))
      → named p (scope_from (function_named p x) point) y ≡ AFunction mode r ps → is_own mode ≡ true → function_named p y ≡ Some g → is_cps g.mode ≡ true → is_cps f.mode ≡ true
  calls_modes x f point to y es mode r ps g e i m o is cps =
      let h = typed_at x f point (Call to (ENamed y) es) e i in
      call_modes D.Cpc p f.mode (scope_from (function_named p x) point) (ENamed y) es h.0 h.1 y refl mode r ps g m o is cps

  waits_modes : (x : Text) (f : Function) (point : Point) (to : Option Expr) (y : Text) (es : Exprs) (prim : Primitive)
      → function_named p x ≡ Some f → stood_at (function_named p x) point ≡ AtStatement (Simple (Call to (ENamed y) es))
      → named p (scope_from (function_named p x) point) y ≡ NotMeant → primitive_named y ≡ Some prim → gives_up prim ≡ true → is_cps f.mode ≡ true
  waits_modes x f point to y es prim e i m is up =
      let h = typed_at x f point (Call to (ENamed y) es) e i in
      wait_modes D.Cpc p f.mode (scope_from (function_named p x) point) (ENamed y) es h.0 h.1 y refl prim m is up

  spawns_modes : (x : Text) (f : Function) (point : Point) (y : Text) (es : Exprs) (g : Function)
      → function_named p x ≡ Some f → stood_at (function_named p x) point ≡ AtStatement (Simple (Spawn y es)) → function_named p y ≡ Some g → is_cps g.mode ≡ true
  spawns_modes x f point y es g e i is =
      let h = typed_at x f point (Spawn y es) e i in
      ap (λ g. is_cps g.mode) (sym (same_function p y y h.1.0 g refl h.1.1 is)) ∙ h.1.3

  codes_modes : (x : Text) (g : Function) → IsNative (item_named 0 p x) → function_named p x ≡ Some g → is_cps g.mode ≡ false
  codes_modes x g h is =
      let k = native_there p facts x h in
      ap (λ g. is_cps g.mode) (sym (same_function p x x k.0 g refl k.1 is)) ∙ no_cps_there k.0 k.2

  tree_modes : KeepsModes (trees p)
  tree_modes = record {
    calls = calls_modes;
    waits = waits_modes;
    sections = λ x f point to y es e i. (typed_at x f point (Detach to y es) e i).3;
    spawns = spawns_modes;
    codes = codes_modes;
  }

  way_modes : KeepsModes (ways p)
  way_modes = record {
    calls = calls_modes;
    waits = waits_modes;
    sections = λ x f point to y es e i. (typed_at x f point (Detach to y es) e i).3;
    spawns = spawns_modes;
    codes = codes_modes;
  }

pub accepted_keeps_modes : AcceptedKeepsModes
accepted_keeps_modes list end p h e =
    let typed = accepted_is_typed D.Cpc list end p h e in
    let facts = accepted_facts D.Cpc list end p h e in
    (tree_modes (bare p) typed facts, way_modes (bare p) typed facts)

pub accepted_hold : AcceptedHold
accepted_hold list end p h e history =
    let steady = accepted_is_steady list end p h e in
    let modes = accepted_keeps_modes list end p h e in
    (threads_hold (trees (bare p)) steady.0 modes.0 history, threads_hold (ways (bare p)) steady.1 modes.1 history)
