use Rattle.std.proofs.Common.{Some, None}
use Rattle.cpc_native_plans.proofs.Alike.{parameter_found}
use Rattle.cpc_native_plans.proofs.rows.parameter_at.Goals as goal

pub returns-in-Some : goal.returns-in-Some
returns-in-Some c = λ names. parameter_found names c.args.parameters.now c.args.i (Some c.in-Some.parameter.now) c.in-Some.ensures

pub returns-in-None : goal.returns-in-None
returns-in-None c = λ names. parameter_found names c.args.parameters.now c.args.i None c.in-None.ensures
