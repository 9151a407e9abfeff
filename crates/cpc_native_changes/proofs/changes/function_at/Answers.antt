use Rattle.cpc_native_changes.proofs.Foretold.{own_found}
use Rattle.cpc_native_changes.proofs.changes.function_at.Goals as goal

pub returns-clause-own : goal.returns-clause-own
returns-clause-own c = own_found c.args.index.now c.args.name c.function.result c.function.ensures
