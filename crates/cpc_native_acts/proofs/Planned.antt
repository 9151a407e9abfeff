-- Deeds that stand for answers, and the deed of a step where a frame stands.
use Rattle.std.proofs.Common.{◌≡◌, Result, Ok, Err, subst, Option, Some, List, [], sym}
use Rattle.std.specs.Result.{IsErrAnd}
use Rattle.std.proofs.lemmas.Result.{err_from_is_err_and}
use Rattle.cpc_base.specs.declared.stop.Stop.{Stop}
use Rattle.cpc_base.specs.declared.stop.Stop.TheVariants.{Memory, Fault as Faulted}
use Rattle.cpc_num.specs.declared.kinds.Fault.{Fault}
use Rattle.cpc_tree.specs.Erase.{Names}
use Rattle.cpc_meaning.specs.Answer.{Answer, NoAnswer, ◌>>=◌}
use Rattle.cpc_meaning.specs.Eval as E
use Rattle.cpc_meaning.specs.Act as M
use Rattle.cpc_eval_values.specs.Meets.{Meets}
use Rattle.cpc_native_plans.specs.Stops.{MeetsOr}
use Rattle.cpc_native_plans.specs.Parts.{Stands}
use Rattle.cpc_native_acts.specs.Deeds.{Plans, did}
use Rattle.cpc_native_acts.specs.declared.deeds.Deed.{Deed}
use Rattle.cpc_tree.specs.Syntax.{Ty, Function, Program}
use Rattle.cpc_native_plans.specs.Plans.{planned}
use Rattle.cpc_base.specs.Bytes.{Text}
use Rattle.cpc_tree.specs.Typing.{function_named, Scope}
use Rattle.cpc_tree.specs.Points as P
use Rattle.cpc_tree.specs.Registers.{scope_in_function}
use Rattle.cpc_store.specs.Store as S
use Rattle.cpc_store.specs.Store.{Value}
use Rattle.cpc_meaning.specs.Trees.{scope_from, stood_at}
use Rattle.cpc_native_points.specs.declared.parts.Phase.{Phase}
use Rattle.cpc_native_points.specs.declared.parts.Phase.TheVariants as F
use Rattle.cpc_native_points.specs.Seen.{point_at}
use Rattle.cpc_native_plans.proofs.Stopping.{or_fault, stands_same, stands_then}

module _ (names : Names) (c : E.Context) where
  -- a deed after a part
  pub plans_then : {A : Type 0} (x : A) (a : Answer A) (f : A → Answer M.Act) (d : Deed) → Meets (Ok x) a → did names c d ≡ f x → Plans names c (Ok d) (a >>= f)
  plans_then x a f d h e = stands_then x a f (did names c d) h (stands_same _ _ e)

  pub plans_err : (x : Result Deed (Stop Fault)) (s : Stop Fault) (a : Answer M.Act) → IsErrAnd x (λ e. e ≡ s) → MeetsOr {A = M.Act} (Err s) a → Plans names c x a
  plans_err x s a i h = let p = err_from_is_err_and x i in rw (p.1, p.2) (go s h)
    where
      go : (s : Stop Fault) → MeetsOr {A = M.Act} (Err s) a → Plans names c (Err s) a
      go Memory h = tt
      go (Faulted fault) h = h

  pub plans_through : {A : Type 0} (x : Result Deed (Stop Fault)) (s : Stop Fault) (a : Answer A) (f : A → Answer M.Act) → IsErrAnd x (λ e. e ≡ s) → MeetsOr {A = A} (Err s) a → Plans names c x (a >>= f)
  plans_through x s a f i h = plans_err x s (a >>= f) i (or_fault s a f h)

  pub plans_none : (x : Result Deed (Stop Fault)) → Plans names c x NoAnswer
  plans_none (Ok d) = λ r h. tt
  plans_none (Err Memory) = tt
  plans_none (Err (Faulted fault)) = tt

  pub plans_by : (x : Result Deed (Stop Fault)) (a b : Answer M.Act) → a ≡ b → Plans names c x a → Plans names c x b
  plans_by x a b e h = let P : Answer M.Act → Type 0 = Plans names c x in subst P e h

  -- a deed that does just this
  pub plans_same : (d : Deed) (a : Answer M.Act) → did names c d ≡ a → Plans names c (Ok d) a
  plans_same d a e = stands_same _ _ e

  -- the deed that stands for a plan stands for what the plan stands for
  pub plans_stands : (r : Result Deed (Stop Fault)) (p a : Answer M.Act) → Stands p a → Plans names c r p → Plans names c r a
  plans_stands (Ok d) p a s h = λ r m. s r (h r m)
  plans_stands (Err Memory) p a s h = tt
  plans_stands (Err (Faulted fault)) p a s h = s (Err fault) h

-- ---- where a frame stands

module _ (names : Names) (p : Program) (x : Text) (f : Function) (path : P.Path) (slots : List E.Slot) (s : S.Store) (result : Ty) (o : Option Value) (r : Result Deed (Stop Fault)) where
  abbrev pub within : Scope → E.Context
  within scope = record { program = p; scope = scope; slots = slots; store = s }

  -- what is planned at a point
  abbrev pub PlansAt : Option Function → Phase → Type 0
  PlansAt g ph = Plans names (within (scope_from g (point_at ph path))) r (M.act (within (scope_from g (point_at ph path))) result o (stood_at (Some f) (point_at ph path)))

  at_phase : (ph is : Phase) → ph ≡ is → function_named p x ≡ Some f → PlansAt (Some f) is → PlansAt (function_named p x) ph
  at_phase ph is e own h =
      let A : Option Function → Type 0 = λ g. PlansAt g is in
      let B : Phase → Type 0 = λ q. PlansAt (function_named p x) q in
      subst B (sym e) (subst A (sym own) h)

  pub at_statement : (ph : Phase) → ph ≡ F.Here → function_named p x ≡ Some f → Plans names (within (scope_in_function f path)) r (M.found_act (within (scope_in_function f path)) result (P.found f.body path)) → PlansAt (function_named p x) ph
  at_statement ph e own h = at_phase ph F.Here e own h

  pub at_arrival : (ph : Phase) → ph ≡ F.Arrival → function_named p x ≡ Some f → Plans names (within (scope_in_function f path)) r (M.arrives (within (scope_in_function f path)) (P.found f.body path) o) → PlansAt (function_named p x) ph
  at_arrival ph e own h = at_phase ph F.Arrival e own h

pub at_end : (names : Names) (p : Program) (x : Text) (f : Function) (path : P.Path) (slots : List E.Slot) (s : S.Store) (result : Ty) (o : Option Value) (r : Result Deed (Stop Fault)) (ph : Phase) → ph ≡ F.End → function_named p x ≡ Some f
    → Plans names (within names p x f path slots s result o r []) r (M.leaves (within names p x f path slots s result o r []) S.Unset) → PlansAt names p x f path slots s result o r (function_named p x) ph
at_end names p x f path slots s result o r ph e own h = at_phase names p x f path slots s result o r ph F.End e own h
