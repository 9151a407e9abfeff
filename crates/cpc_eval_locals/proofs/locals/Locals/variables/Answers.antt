use Rattle.std.proofs.Common.{◌∙◌, ap}
use Rattle.std.proofs.Math.Logic.{∥∥₁_elim}
use Rattle.cpc_eval_variables.specs.Kept.{types_kept}
use Rattle.cpc_eval_locals.specs.Kept.{kept_by}
use Rattle.cpc_eval_locals.proofs.Types.{kept_set, types_set}
use Rattle.cpc_eval_locals.proofs.locals.Locals.variables.Goals as goal

pub returns-clause-kept : goal.returns-clause-kept
returns-clause-kept c = λ names told. ∥∥₁_elim c.args.self.now.tabled (kept_set _ _) (λ tabled. ap (kept_by names) c.deref.ensures.value ∙ tabled.kept names told)

pub returns-clause-types : goal.returns-clause-types
returns-clause-types c = λ names. ∥∥₁_elim c.args.self.now.tabled (types_set _ _) (λ tabled. ap (λ vs. types_kept (kept_by names vs)) c.deref.ensures.value ∙ tabled.typed names)
