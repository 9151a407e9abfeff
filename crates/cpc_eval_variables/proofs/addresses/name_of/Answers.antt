use Rattle.cpc_eval_variables.proofs.Addressing.{no_name}
use Rattle.cpc_eval_variables.proofs.addresses.name_of.Goals as goal

pub returns-in_default : goal.returns-in_default
returns-in_default c = λ names scope. no_name names scope c.args.e.now c.in_default.not-Name
