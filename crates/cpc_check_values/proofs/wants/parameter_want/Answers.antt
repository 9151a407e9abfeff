use Rattle.cpc_check_values.proofs.Wanting.{parameter_wanted, parameter_past}
use Rattle.cpc_check_values.proofs.wants.parameter_want.Goals as goal

pub returns-in-Some : goal.returns-in-Some
returns-in-Some c = λ names. parameter_wanted names c.args.parameters.now c.args.place c.in-Some.parameter.now c.in-Some.ensures.lookup.3.0 c.in-Some.ensures.lookup.1

pub returns-in-None : goal.returns-in-None
returns-in-None c = λ names. parameter_past names c.args.parameters.now c.args.place c.in-None.ensures.lookup.3
