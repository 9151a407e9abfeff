-- Plans by the parts that are evaluated.
use Rattle.std.proofs.Common.{◌≡◌, ℕ, List, map, Option, Some, None, Result, Ok, Err, refl, sym, ap, subst, ◌∙◌}
use Rattle.std.specs.Borrow.{Bor}
use Rattle.std.specs.Result.{IsErrAnd}
use Rattle.cpc_base.specs.Bytes.{Text}
use Rattle.cpc_num.specs.declared.kinds.Fault.{Fault}
use Rattle.cpc_tree.specs.Erase.{Names, type_of, parameter_of}
use Rattle.cpc_tree.specs.declared.program.CType.{CType}
use Rattle.cpc_tree.specs.declared.program.Mode.{Mode}
use Rattle.cpc_tree.specs.declared.program.Parameter.{Parameter}
use Rattle.cpc_tree.specs.Syntax.{Ty, Expr, ENamed, Exprs, Declare, Function, Program}
use Rattle.cpc_tree.specs.Typing.{function_named, parameter_type}
use Rattle.cpc_store.specs.Store.{Value}
use Rattle.cpc_meaning.specs.Answer.{Answer, ◌>>=◌}
use Rattle.cpc_meaning.specs.Eval as E
use Rattle.cpc_meaning.specs.Act as M
use Rattle.cpc_eval_values.specs.Meets.{Meets}
use Rattle.cpc_eval_index.specs.declared.meant.Meant.{Meant}
use Rattle.cpc_eval_index.specs.declared.meant.Meant.TheVariants as V
use Rattle.cpc_eval_index.specs.Meanings.{meant_of}
use Rattle.cpc_eval.specs.Around.{meant_in}
use Rattle.cpc_eval.specs.Numbers.{MaybeNumbers, HasNumbers}
use Rattle.cpc_native_plans.specs.Calls.{calls_if, calls_moded}
use Rattle.cpc_native_plans.specs.Parts.{Stands, aimed, goes_on}
use Rattle.cpc_native_plans.specs.Plans.{Lays}
use Rattle.cpc_native_plans.specs.declared.plan.Plan.{Plan}
use Rattle.cpc_native_plans.proofs.Stopping.{stands_same, stands_then}
use Rattle.cpc_native_plans.proofs.Laying.{lays_by, lays_after, lays_through}
use Rattle.cpc_native_plans.proofs.Calling.{local_calls, global_calls, functions_call}
use Rattle.cpc_native_plans.proofs.Doing.{wrote, aim_goes, assigns_parts}

-- an answer stands for what is the same as another for which it stands
pub stands_by : {A : Type 0} (a b d : Answer A) → b ≡ d → Stands a b → Stands a d
stands_by {A = A} a b d e h = let Q : Answer A → Type 0 = Stands a in subst Q e h

module _ (k : E.Context) where
  -- an assignment, both of its parts evaluated
  pub assigned_stands : (x e : Expr) (v : Value) (q : E.Spot × Value) → Meets (Ok v) (E.value k e) → Meets (Ok q) (aimed k x v) → Stands (wrote k q) (M.assigns k x e)
  assigned_stands x e v q h g =
      stands_by (wrote k q) (E.value k e >>= (λ w. aimed k x w >>= wrote k)) (M.assigns k x e) (sym (assigns_parts k x e))
      (stands_then v (E.value k e) (λ w. aimed k x w >>= wrote k) (wrote k q) h
      (stands_then q (aimed k x v) (wrote k) (wrote k q) g (stands_same (wrote k q) (wrote k q) refl)))

  pub declared_stands : (x : Text) (rt t : Ty) (o : Option Expr) (e : Expr) (v : Value) (q : E.Spot × Value) → o ≡ Some e → Meets (Ok v) (E.value k e) → Meets (Ok q) (aimed k (ENamed x) v)
      → Stands (wrote k q) (M.simple_act k rt (Declare x t o))
  declared_stands x rt t o e v q i h g =
      stands_by (wrote k q) (M.assigns k (ENamed x) e) (M.simple_act k rt (Declare x t o)) (ap (λ y. M.simple_act k rt (Declare x t y)) (sym i)) (assigned_stands (ENamed x) e v q h g)

  declared : (x : Text) (rt t : Ty) (o : Option Expr) (e : Expr) → o ≡ Some e → (E.value k e >>= (λ w. aimed k (ENamed x) w >>= wrote k)) ≡ M.simple_act k rt (Declare x t o)
  declared x rt t o e i = sym (assigns_parts k (ENamed x) e) ∙ ap (λ y. M.simple_act k rt (Declare x t y)) (sym i)

  -- what a local starts with is a fault
  pub declares_not : (names : Names) (x : Text) (rt t : Ty) (o : Option Expr) (e : Expr) (r : Result Plan Fault) (s : Fault) → o ≡ Some e → IsErrAnd r (λ y. y ≡ s) → Meets {A = Value} (Err s) (E.value k e)
      → Lays names k r (M.simple_act k rt (Declare x t o))
  declares_not names x rt t o e r s i j h =
      lays_by names k r (E.value k e >>= (λ w. aimed k (ENamed x) w >>= wrote k)) (M.simple_act k rt (Declare x t o)) (declared x rt t o e i)
      (lays_through names k r s (E.value k e) (λ w. aimed k (ENamed x) w >>= wrote k) j h)

  -- it is none, and cannot be put there
  pub declares_nowhere : (names : Names) (x : Text) (rt t : Ty) (o : Option Expr) (e : Expr) (v : Value) (r : Result Plan Fault) (s : Fault) → o ≡ Some e → IsErrAnd r (λ y. y ≡ s) → Meets (Ok v) (E.value k e)
      → Meets {A = E.Spot × Value} (Err s) (aimed k (ENamed x) v) → Lays names k r (M.simple_act k rt (Declare x t o))
  declares_nowhere names x rt t o e v r s i j g h =
      lays_by names k r (E.value k e >>= (λ w. aimed k (ENamed x) w >>= wrote k)) (M.simple_act k rt (Declare x t o)) (declared x rt t o e i)
      (lays_after names k v (E.value k e) (λ w. aimed k (ENamed x) w >>= wrote k) r g (lays_through names k r s (aimed k (ENamed x) v) (wrote k) j h))

  delivered : (o : Option Expr) (e : Expr) (v : Value) → o ≡ Some e → (aimed k e v >>= wrote k) ≡ goes_on (M.deliver k o v)
  delivered o e v i = sym (aim_goes k e v) ∙ ap (λ y. goes_on (M.deliver k y v)) (sym i)

  pub delivers_stands : (o : Option Expr) (e : Expr) (v : Value) (q : E.Spot × Value) → o ≡ Some e → Meets (Ok q) (aimed k e v) → Stands (wrote k q) (goes_on (M.deliver k o v))
  delivers_stands o e v q i g =
      stands_by (wrote k q) (aimed k e v >>= wrote k) (goes_on (M.deliver k o v)) (delivered o e v i)
      (stands_then q (aimed k e v) (wrote k) (wrote k q) g (stands_same (wrote k q) (wrote k q) refl))

  pub delivers_not : (names : Names) (o : Option Expr) (e : Expr) (v : Value) (r : Result Plan Fault) (s : Fault) → o ≡ Some e → IsErrAnd r (λ y. y ≡ s) → Meets {A = E.Spot × Value} (Err s) (aimed k e v)
      → Lays names k r (goes_on (M.deliver k o v))
  delivers_not names o e v r s i j h =
      lays_by names k r (aimed k e v >>= wrote k) (goes_on (M.deliver k o v)) (delivered o e v i) (lays_through names k r s (aimed k e v) (wrote k) j h)

-- ---- a call of a name, by what it stands for

module _ (P : Answer M.Act → Type 0) (k : E.Context) where
  -- a call of the value of a name
  pub value_of_name : (p : Program) (f : Expr) (x : Text) (es : Exprs) → f ≡ ENamed x → (HasNumbers p f → P (M.calls_value k f es)) → P (M.calls_value k (ENamed x) es)
  value_of_name p f x es e h =
      let Q : Expr → Type 0 = λ g. P (M.calls_value k g es) in
      let N : Expr → Type 0 = HasNumbers p in
      subst Q e (h (subst N (sym e) tt))

  pub unknown_calls : (x : Text) (es : Exprs) → None ≡ function_named k.program x → P (M.calls_value k (ENamed x) es) → P (calls_if k x es (function_named k.program x))
  unknown_calls x es e h = let Q : Option Function → Type 0 = λ o. P (calls_if k x es o) in subst Q e h

  module _ (x : Text) (es : Exprs) (names : Names) (m : Meant) where
    pub local_called : (n : ℕ) (t : Bor CType) → m ≡ V.Local n t → meant_of names m ≡ meant_in k x → P (M.calls_value k (ENamed x) es) → P (M.calls_expr k (ENamed x) es)
    local_called n t i e h = subst P (local_calls k x es n (type_of names t.now) (ap (meant_of names) (sym i) ∙ e)) h

    pub global_called : (n : ℕ) (t : Bor CType) → m ≡ V.Global n t → meant_of names m ≡ meant_in k x → P (M.calls_value k (ENamed x) es) → P (M.calls_expr k (ENamed x) es)
    global_called n t i e h = subst P (global_calls k x es n (type_of names t.now) (ap (meant_of names) (sym i) ∙ e)) h

    pub function_called : (mode : Mode) (t : Bor CType) (ps : Bor (List Parameter)) → m ≡ V.Function mode t ps → meant_of names m ≡ meant_in k x → P (calls_moded k x es mode) → P (M.calls_expr k (ENamed x) es)
    function_called mode t ps i e h =
        subst P (functions_call k x es mode (type_of names t.now) (map parameter_type (map (parameter_of names) ps.now)) (ap (meant_of names) (sym i) ∙ e)) h

-- what may have numbers has them where it is there
pub numbers_there : (p : Program) (o : Option Expr) (e : Expr) → o ≡ Some e → MaybeNumbers p o → HasNumbers p e
numbers_there p o e i h = let Q : Option Expr → Type 0 = MaybeNumbers p in subst Q i h
