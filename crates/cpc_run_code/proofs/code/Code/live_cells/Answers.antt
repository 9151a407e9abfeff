use Rattle.cpc_run_code.specs.Code.{store_in, stack_in}
use Rattle.cpc_run_code.proofs.code.Code.live_cells.Goals as goal

pub returns : goal.returns
unfolding store_in stack_in
returns c = c.live_cells.ensures
