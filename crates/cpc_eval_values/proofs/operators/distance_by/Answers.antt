use Rattle.std.proofs.Common.{◌≡◌, ℕ, Option, Some, ap, ◌∙◌}
use Rattle.std.specs.Option.{unwrap_or}
use Rattle.cpc_meaning.specs.Eval.{element_size}
use Rattle.cpc_eval_values.proofs.Sized.{size_or}
use Rattle.cpc_eval_values.proofs.operators.distance_by.Goals as goal

known_is : (o : Option ℕ) (n : ℕ) → o ≡ Some n → unwrap_or o 0 ≡ n
known_is o n e = ap (λ x. unwrap_or x 0) e

pub returns-clause-value : goal.returns-clause-value
returns-clause-value c = λ names p t known.
    c.distance.ensures.value names p t (size_or c.args.size c.unwrap_or.result (element_size p t) (λ n e. c.unwrap_or.ensures ∙ known_is c.args.size n e) known)
