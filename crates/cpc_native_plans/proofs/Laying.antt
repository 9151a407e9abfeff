-- Plans that stand for answers: through early returns, and after parts that are evaluated.
use Rattle.std.proofs.Common.{◌≡◌, true, false, Option, Some, None, Result, Ok, Err, refl, ap, subst, ◌∙◌}
use Rattle.std.specs.Result.{IsErrAnd}
use Rattle.std.proofs.lemmas.Result.{err_from_is_err_and}
use Rattle.cpc_num.specs.declared.kinds.Fault.{Fault}
use Rattle.cpc_tree.specs.Erase.{Names}
use Rattle.cpc_tree.specs.Syntax.{Ty}
use Rattle.cpc_tree.specs.Typing as T
use Rattle.cpc_shapes.specs.Found.{used_of}
use Rattle.cpc_meaning.specs.Answer.{Answer, NoAnswer, ◌>>=◌, needed}
use Rattle.cpc_meaning.specs.Eval as E
use Rattle.cpc_meaning.specs.Act as M
use Rattle.cpc_eval_values.specs.Meets.{Meets}
use Rattle.cpc_eval_values.proofs.Meeting.{meets_fault, meets_then}
use Rattle.cpc_eval.specs.Shapes.{Agrees}
use Rattle.cpc_native_plans.specs.Plans.{planned, IsSound, Lays, is_plain, is_call_plan}
use Rattle.cpc_native_plans.specs.declared.plan.Plan.{Plan}
use Rattle.cpc_native_plans.specs.declared.plan.Plan.TheVariants as L
use Rattle.cpc_native_plans.proofs.Stopping.{stands_same, stands_then}

module _ (names : Names) (c : E.Context) where
  pub lays_by : (r : Result Plan Fault) (a b : Answer M.Act) → a ≡ b → Lays names c r a → Lays names c r b
  lays_by r a b e h = let P : Answer M.Act → Type 0 = Lays names c r in subst P e h

  -- a plan that comes to just this
  pub lays_same : (plan : Plan) (a : Answer M.Act) → IsSound names c plan → planned names c plan ≡ a → Lays names c (Ok plan) a
  lays_same plan a s e = (s, stands_same (planned names c plan) a e)

  -- what is planned after a part
  pub lays_after : {A : Type 0} (x : A) (a : Answer A) (f : A → Answer M.Act) (r : Result Plan Fault) → Meets (Ok x) a → Lays names c r (f x) → Lays names c r (a >>= f)
  lays_after x a f (Ok plan) h g = (g.0, stands_then x a f (planned names c plan) h g.1)
  lays_after x a f (Err fault) h g = meets_then x a f (Err fault) h g

  pub lays_then : {A : Type 0} (x : A) (a : Answer A) (f : A → Answer M.Act) (plan : Plan) → IsSound names c plan → Meets (Ok x) a → planned names c plan ≡ f x → Lays names c (Ok plan) (a >>= f)
  lays_then x a f plan s h e = lays_after x a f (Ok plan) h (lays_same plan (f x) s e)

  -- a fault of the first part
  pub lays_through : {A : Type 0} (x : Result Plan Fault) (fault : Fault) (a : Answer A) (f : A → Answer M.Act) → IsErrAnd x (λ e. e ≡ fault) → Meets {A = A} (Err fault) a → Lays names c x (a >>= f)
  lays_through x fault a f i h = let p = err_from_is_err_and x i in rw (p.1, p.2) (meets_fault fault a f h)

  -- a plan is sound, if there is one
  abbrev pub SoundIf : Result Plan Fault → Type 0
  SoundIf (Ok plan) = IsSound names c plan
  SoundIf (Err fault) = Unit {0}

  lays_none : (r : Result Plan Fault) → SoundIf r → Lays names c r NoAnswer
  lays_none (Ok plan) s = (s, λ r h. tt)
  lays_none (Err fault) s = tt

  -- what is planned after a type that was found
  pub lays_used : (d o : Option T.Typed) (s : Option Ty) (f : Ty → Answer M.Act) (r : Result Plan Fault) → SoundIf r → Agrees d o → s ≡ used_of d → Lays names c r (needed s >>= f)
      → Lays names c r (needed (E.and_then o T.used) >>= f)
  lays_used d None s f r n a e h = lays_none r n
  lays_used d (Some x) s f r n a e h = let P : Option Ty → Type 0 = λ q. Lays names c r (needed q >>= f) in subst P (e ∙ ap used_of a) h

-- what control goes on after takes no arguments
pub plain_calls : (plan : Plan) → is_plain plan ≡ true → is_call_plan plan ≡ false
plain_calls (L.Passes h) e = refl
plain_calls (L.Writes spot v) e = refl
plain_calls _ e = absurd cc
