use Rattle.cpc_native_plans.proofs.Evaluated.{text_not}
use Rattle.cpc_native_acts.proofs.taken.text_in.Goals as goal

pub returns-else-arguments-eq1 : goal.returns-else-arguments-eq1
returns-else-arguments-eq1 c = λ names. text_not names c.args.arguments.now c.if-arguments-eq1.false
