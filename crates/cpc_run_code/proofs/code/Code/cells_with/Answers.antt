use Rattle.cpc_run_code.specs.Code.{items_in, store_in, stack_in, Runs}
use Rattle.cpc_run_code.proofs.code.Code.cells_with.Goals as goal

pub returns-clause-some : goal.returns-clause-some
unfolding items_in store_in stack_in Runs
returns-clause-some c = λ names runs g e. c.cells_with.ensures.some names runs.spells.apart g e

pub returns-clause-none : goal.returns-clause-none
unfolding items_in store_in stack_in Runs
returns-clause-none c = λ names runs none. c.cells_with.ensures.none names runs.spells.apart none
