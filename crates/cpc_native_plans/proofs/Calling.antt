-- Calls by their parts.
use Rattle.std.proofs.Common.{◌≡◌, ℕ, Bool, true, false, List, Option, Some, None, refl, sym, ap, ◌∙◌, if◌then◌else◌}
use Rattle.cpc_base.specs.Bytes.{Text}
use Rattle.cpc_num.specs.declared.kinds.Fault.TheVariants as F
use Rattle.cpc_tree.specs.declared.program.Mode.{Mode}
use Rattle.cpc_tree.specs.declared.program.Mode.TheVariants as G
use Rattle.cpc_tree.specs.Syntax.{Ty, Expr, ENamed, Exprs, Function, Program}
use Rattle.cpc_tree.specs.Typing.{Meant, ALocal, AGlobal, AFunction, item_named, function_named, function_type, parameter_types, code_parameters, same_type}
use Rattle.cpc_tree.specs.Primitives.{Primitive, primitive_named}
use Rattle.cpc_store.specs.Store as S
use Rattle.cpc_store.specs.Store.{Value}
use Rattle.cpc_meaning.specs.Answer.{Answer, Gives, Faults, NoAnswer, ◌>>=◌, needed}
use Rattle.cpc_meaning.specs.Eval as E
use Rattle.cpc_meaning.specs.Requests.{Host, arguments, all_long}
use Rattle.cpc_meaning.specs.Act as M
use Rattle.cpc_eval_locals.specs.Held.{Held, local_in, capped_held}
use Rattle.cpc_eval.specs.Around.{meant_or, meant_in}
use Rattle.cpc_eval.proofs.TypedParts.{named_or}
use Rattle.cpc_eval.proofs.Evaluating.{chain_one}
use Rattle.cpc_native_plans.specs.Rows.{passed}
use Rattle.cpc_native_plans.specs.Calls.{is_of_type, code_called, called_with, entering, calls_if, calls_known, calls_moded}

-- ---- one part after another

-- the same after each value
pub then_same : {A B : Type 0} (a : Answer A) (f g : A → Answer B) → ((x : A) → f x ≡ g x) → (a >>= f) ≡ (a >>= g)
then_same (Gives x) f g h = h x
then_same (Faults e) f g h = refl
then_same NoAnswer f g h = refl

-- ---- what a value calls

found_of_type : (t : Ty) (x : Text) (p : Program) (o : Option Function) → function_named p x ≡ o → M.function_of_type t o ≡ ((if is_of_type t o then Gives x else Faults F.Code) >>= (λ y. needed (function_named p y)))
found_of_type t x p None e = refl
found_of_type t x p (Some f) e = go (same_type t (function_type f.result (parameter_types f)))
  where
    go : (b : Bool) → (if b then Gives f else Faults F.Code) ≡ ((if b then Gives x else Faults F.Code) >>= (λ y. needed (function_named p y)))
    go true = sym (ap needed e)
    go false = refl

pub callee_named : (p : Program) (t : Ty) (v : Value) → M.callee p t v ≡ (code_called p t v >>= (λ x. needed (function_named p x)))
callee_named p t S.Unset = refl
callee_named p t S.Null = refl
callee_named p t (S.Code x) = found_of_type t x p (function_named p x) refl
callee_named p t (S.Whole k z) = refl
callee_named p t (S.At c n k) = refl
callee_named p t (S.Cond n) = refl

-- the function of a value, and the arguments
abbrev naming : E.Context → Value → Ty → List Value → Answer (Text × List Value)
naming c v t ws = code_called c.program t v >>= (λ x. Gives (x, ws))

pub value_calls : (c : E.Context) (f : Expr) (es : Exprs) → M.calls_value c f es ≡ (E.value c f >>= (λ v. needed (E.used_type c f) >>= (λ t. called_with c t v es >>= entering c)))
value_calls c f es = then_same (E.value c f) _ _ (λ v. then_same (needed (E.used_type c f)) _ _ (λ t. tail v t))
  where
    ending : (v : Value) (t : Ty) (ws : List Value) → (M.callee c.program t v >>= (λ g. Gives (M.Enters g ws))) ≡ (naming c v t ws >>= entering c)
    ending v t ws =
        ap (λ a. a >>= (λ g. Gives (M.Enters g ws))) (callee_named c.program t v)
        ∙ (sym (chain_one (code_called c.program t v) (λ x. needed (function_named c.program x)) (λ g. Gives (M.Enters g ws)))
        ∙ chain_one (code_called c.program t v) (λ x. Gives (x, ws)) (entering c))

    tail : (v : Value) (t : Ty) → (E.values c es >>= (λ vs. arguments (code_parameters t) vs >>= (λ ws. M.callee c.program t v >>= (λ g. Gives (M.Enters g ws)))))
        ≡ ((passed c (code_parameters t) es >>= naming c v t) >>= entering c)
    tail v t =
        chain_one (E.values c es) (arguments (code_parameters t)) _
        ∙ (then_same (passed c (code_parameters t) es) _ _ (ending v t)
        ∙ chain_one (passed c (code_parameters t) es) (naming c v t) (entering c))

-- a call of a function
pub function_calls : (c : E.Context) (f : Function) (es : Exprs) → M.calls c f es ≡ (passed c (parameter_types f) es >>= (λ ws. Gives (M.Enters f ws)))
function_calls c f es = chain_one (E.values c es) (arguments (parameter_types f)) _

-- ---- what a name calls

module _ (c : E.Context) (x : Text) (es : Exprs) where
  -- a call of a name by what it means, the number of a local capped
  abbrev calls_meaning : Meant → Answer M.Act
  calls_meaning m = M.calls_named c x es m (primitive_named x) (function_named c.program x)

  named_as : M.calls_expr c (ENamed x) es ≡ calls_meaning (meant_in c x)
  named_as = ap calls_meaning (named_or c.program c.scope x) ∙ go (local_in c.scope x)
    where
      go : (o : Held) → M.calls_named c x es (meant_or o (item_named 0 c.program x)) (primitive_named x) (function_named c.program x) ≡ M.calls_named c x es (meant_or (capped_held o) (item_named 0 c.program x)) (primitive_named x) (function_named c.program x)
      go None = refl
      go (Some l) = refl

  pub meaning_calls : (m : Meant) → m ≡ meant_in c x → M.calls_expr c (ENamed x) es ≡ M.calls_named c x es m (primitive_named x) (function_named c.program x)
  meaning_calls m e = named_as ∙ sym (ap calls_meaning e)

  pub local_calls : (k : ℕ) (t : Ty) → ALocal k t ≡ meant_in c x → M.calls_value c (ENamed x) es ≡ M.calls_expr c (ENamed x) es
  local_calls k t e = sym (meaning_calls (ALocal k t) e)

  pub global_calls : (n : ℕ) (t : Ty) → AGlobal n t ≡ meant_in c x → M.calls_value c (ENamed x) es ≡ M.calls_expr c (ENamed x) es
  global_calls n t e = sym (meaning_calls (AGlobal n t) e)

  -- a call of a function in a mode
  moded_calls : (mode : Mode) (r : Ty) (ps : List Ty) (prim : Option Primitive) (o : Option Function) → function_named c.program x ≡ o → M.calls_named c x es (AFunction mode r ps) prim o ≡ calls_moded c x es mode
  moded_calls G.Extern r ps prim o e = chain_one (E.values c es) all_long (M.asks (Host x))
  moded_calls G.Native r ps prim None e = sym (ap (calls_if c x es) e)
  moded_calls G.Native r ps prim (Some f) e = sym (ap (calls_if c x es) e)
  moded_calls G.Cps r ps prim None e = sym (ap (calls_if c x es) e)
  moded_calls G.Cps r ps prim (Some f) e = sym (ap (calls_if c x es) e)
  moded_calls G.Detached r ps prim None e = sym (ap (calls_if c x es) e)
  moded_calls G.Detached r ps prim (Some f) e = sym (ap (calls_if c x es) e)

  -- no function of the host
  pub moded_known : (mode : Mode) → (mode ≡ G.Extern → ⊥) → calls_known c x es ≡ calls_moded c x es mode
  moded_known G.Extern h = absurd (h refl)
  moded_known G.Native h = refl
  moded_known G.Cps h = refl
  moded_known G.Detached h = refl

  pub functions_call : (mode : Mode) (r : Ty) (ps : List Ty) → AFunction mode r ps ≡ meant_in c x → calls_moded c x es mode ≡ M.calls_expr c (ENamed x) es
  functions_call mode r ps e = sym (meaning_calls (AFunction mode r ps) e ∙ moded_calls mode r ps (primitive_named x) (function_named c.program x) refl)
