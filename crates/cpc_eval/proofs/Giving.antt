-- What expressions give, through early returns and where one type stands for another.
use Rattle.std.proofs.Common.{◌≡◌, Option, Result, Ok, Err, IfOk, sym, subst}
use Rattle.std.specs.Result.{IsErrAnd}
use Rattle.cpc_num.specs.declared.kinds.Fault.{Fault}
use Rattle.cpc_tree.specs.Erase.{Names}
use Rattle.cpc_tree.specs.Syntax as S
use Rattle.cpc_tree.specs.Typing as T
use Rattle.cpc_store.specs.Store.{Value}
use Rattle.cpc_meaning.specs.Answer.{Answer}
use Rattle.cpc_meaning.specs.Eval as E
use Rattle.cpc_eval_values.specs.Meets.{Meets}
use Rattle.cpc_eval_values.specs.Shown.{value_of}
use Rattle.cpc_eval_values.proofs.Meeting.{meets_err}
use Rattle.cpc_eval.specs.Around.{type_in}
use Rattle.cpc_eval.specs.Results.{given_shown, located_shown}
use Rattle.cpc_eval.specs.Shapes.{types_of, Agrees}
use Rattle.cpc_eval.specs.Spots.{spot_of}
use Rattle.cpc_eval.specs.declared.results.Given.{Given}
use Rattle.cpc_eval.specs.declared.results.Located.{Located}

pub located_err : (x : Result Located Fault) (fault : Fault) (a : Answer E.Spot) → IsErrAnd x (λ e. e ≡ fault) → Meets {A = E.Spot} (Err fault) a → Meets (located_shown x) a
located_err x fault a i h = meets_err (λ (l : Located). spot_of l.spot) x fault a i h

module _ (names : Names) where
  pub given_err : (x : Result Given Fault) (fault : Fault) (a : Answer Value) → IsErrAnd x (λ e. e ≡ fault) → Meets {A = Value} (Err fault) a → Meets (given_shown names x) a
  given_err x fault a i h = meets_err (λ (g : Given). value_of names g.value) x fault a i h

  -- the type of the same expression
  pub given_as : (c : E.Context) (e x : S.Expr) (r : Result Given Fault) → e ≡ x → IfOk r (λ g. Agrees (types_of names g.typed) (type_in c x)) → IfOk r (λ g. Agrees (types_of names g.typed) (type_in c e))
  given_as c e x r is h = let P : S.Expr → Type 0 = λ y. IfOk r (λ g. Agrees (types_of names g.typed) (type_in c y)) in subst P (sym is) h

  -- what agrees with the one agrees with the other
  pub located_by : (o q : Option T.Typed) (r : Result Located Fault) → ((t : Option T.Typed) → Agrees t o → Agrees t q) → IfOk r (λ l. Agrees (types_of names l.typed) o) → IfOk r (λ l. Agrees (types_of names l.typed) q)
  located_by o q (Ok l) h g = h (types_of names l.typed) g
  located_by o q (Err fault) h g = tt
