use Rattle.cpc_eval_values.proofs.Assigning.{at_set}
use Rattle.cpc_eval_values.proofs.assignment.at_scalar.Goals as goal

pub returns-in_default : goal.returns-in_default
returns-in_default c = record {
  value = λ names t e. at_set names t c.args.value _ c.in_default.not-Unset (c.assigned_scalar.ensures.value names t e);
  lawful = c.assigned_scalar.ensures.lawful;
}
