use Rattle.std.proofs.Common.{ap}
use Rattle.cpc_eval_values.specs.Shown.{store_of}
use Rattle.cpc_run_code.specs.Code.{store_in}
use Rattle.cpc_run_code.proofs.code.Code.store.Goals as goal

pub returns : goal.returns
unfolding store_in
returns c = λ names. ap (store_of names) c.store.ensures
