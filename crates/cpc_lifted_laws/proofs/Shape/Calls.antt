-- What is known of the statements of a cps function of an accepted program: a cps statement that calls a function has an argument for each parameter.
use Rattle.std.proofs.Common.{◌≡◌, true, List, map, Option, Some, refl, sym, ◌∙◌, ap, subst}
use Rattle.cpc_base.specs.Bytes.{Text}
use Rattle.cpc_base.specs.declared.stop.Dialect.TheVariants as D
use Rattle.cpc_tree.specs.Points.{Path, Simple, found}
use Rattle.cpc_tree.specs.Primitives.{Primitive, primitive_named}
use Rattle.cpc_tree.specs.Registers.{scope_in_function}
use Rattle.cpc_tree.specs.Syntax.{Ty, Expr, ENamed, Exprs, Call, Function, Program}
use Rattle.cpc_tree.specs.declared.program.Mode.TheVariants.{Extern}
use Rattle.cpc_tree.specs.Typing.{Scope, Meant, AFunction, NotMeant, ALocal, AGlobal, named, item_named, function_named, parameter_type, parameter_types}
use Rattle.cpc_meaning.specs.Ways.{AsCps, meant_manner, manner_of}
use Rattle.cpc_check_laws.specs.Sound.Control.{StaysIn}
use Rattle.cpc_check_laws.specs.Sound.Typed.{AllGet, Calls, CallsHost, CallsFunction, CallsPrimitive, CallsPointer, is_variable, is_pointer_call, FoundTyped}
use Rattle.cpc_check_laws.proofs.Kept.Modes.{same_name}
use Rattle.cpc_convert_routines.specs.Named.{IsNamed, IsCps}
use Rattle.cpc_lifted_laws.specs.Accepted.Names.{HasNames}

-- a cps function: what stands in it is typed, and control stays in it
pub record CpsTyped (p : Program) (f : Function) : Type 0 where
  pub named : IsNamed p
  pub names : HasNames p
  pub cps : IsCps p f
  pub typed : (path : Path) → FoundTyped D.Cpc p f (scope_in_function f path) (found f.body path)
  pub stays : StaysIn f.body

no_host : (m : Meant) (prim : Option Primitive) (r : Ty) (ps : List Ty) → m ≡ AFunction Extern r ps → meant_manner m prim ≡ AsCps → ⊥
no_host m prim r ps e c = let z = sym c ∙ ap (λ x. meant_manner x prim) e in absurd (cc)

no_variable : (m : Meant) (prim : Option Primitive) → is_variable m ≡ true → meant_manner m prim ≡ AsCps → ⊥
no_variable (ALocal k t) prim e c = absurd (cc)
no_variable (AGlobal n t) prim e c = absurd (cc)
no_variable (AFunction m r ps) prim e c = absurd (cc)
no_variable NotMeant prim e c = absurd (cc)

module _ (p : Program) (f : Function) (known : CpsTyped p f) where
  -- a primitive is no function
  no_primitive : (x : Text) (prim : Primitive) (g : Function) → primitive_named x ≡ Some prim → function_named p x ≡ Some g → ⊥
  no_primitive x prim g i e =
      let there = known.names.there x g e in
      let meant = (known.names.functions g there.0).meant in
      let z : NotMeant ≡ AFunction g.mode g.result (map parameter_type g.parameters) = sym (known.names.primitives x prim i) ∙ (ap (item_named 0 p) (sym there.1) ∙ meant) in
      absurd (cc)

  called : (scope : Scope) (e : Expr) (es : Exprs) (t : Ty) (y : Text) (g : Function) → Calls D.Cpc p f.mode scope e es t → e ≡ ENamed y → meant_manner (named p scope y) (primitive_named y) ≡ AsCps → function_named p y ≡ Some g
      → AllGet p scope (parameter_types g) es
  called scope _ es _ y g (CallsHost x r ps _ apart is_x gets many) e c i = absurd (no_host (named p scope y) (primitive_named y) r ps (ap (named p scope) (sym (same_name x y e)) ∙ is_x) c)
  called scope _ es _ y g (CallsFunction x mode r ps h _ own is_x is_h closed may gets) e c i =
      let z : Some h ≡ Some g = sym is_h ∙ (ap (function_named p) (same_name x y e) ∙ i) in
      let same : h ≡ g = cc in
      subst (λ k. AllGet p scope (parameter_types k) es) same gets
  called scope _ es _ y g (CallsPrimitive x prim _ is_x is_prim is_d closed may takes) e c i = absurd (no_primitive y prim g (ap primitive_named (sym (same_name x y e)) ∙ is_prim) i)
  called scope h es t y g (CallsPointer _ typed r ps _ apart is_pointer is_t is_u gets) e c i = absurd (no_variable (named p scope y) (primitive_named y) (ap (is_pointer_call p scope) (sym e) ∙ is_pointer) c)

  pub cps_called : (path : Path) (place : Option Expr) (y : Text) (es : Exprs) (g : Function) → manner_of p (scope_in_function f path) (found f.body path) ≡ AsCps → found f.body path ≡ Simple (Call place (ENamed y) es) → function_named p y ≡ Some g
      → AllGet p (scope_in_function f path) (parameter_types g) es
  cps_called path place y es g m e i =
      let scope = scope_in_function f path in
      let typed = subst (FoundTyped D.Cpc p f scope) e (known.typed path) in
      called scope (ENamed y) es typed.0 y g typed.1 refl (ap (manner_of p scope) (sym e) ∙ m) i
