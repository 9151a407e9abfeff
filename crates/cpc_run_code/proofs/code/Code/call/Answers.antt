use Rattle.std.proofs.Common.{ap}
use Rattle.std.proofs.lemmas.Result.{on_err_weaker}
use Rattle.cpc_base.proofs.Results.{on_ok}
use Rattle.cpc_eval_index.specs.Indexed.{items_of}
use Rattle.cpc_native.proofs.Same.{runs_same}
use Rattle.cpc_run_code.specs.Code.{items_in, store_in, stack_in, IsIdle, IsWell, Runs}
use Rattle.cpc_run_code.proofs.code.Code.call.Goals as goal

pub returns-clause-items : goal.returns-clause-items
unfolding items_in
returns-clause-items c = λ names. ap (items_of names) c.call.ensures.index

pub returns-clause-runs : goal.returns-clause-runs
unfolding Runs
returns-clause-runs c = λ names h. runs_same names _ _ _ _ (ap (λ t. t.now) c.call.ensures.texts) (ap (items_of names) c.call.ensures.index) h

pub returns-clause-well : goal.returns-clause-well
unfolding IsWell
returns-clause-well c = c.call.ensures.well

pub returns-clause-entered : goal.returns-clause-entered
unfolding items_in store_in stack_in Runs
returns-clause-entered c = on_ok c.call.result (λ h names runs g frame t e m. h names runs g (frame, t) e m) c.call.ensures.runs

pub returns-clause-idle : goal.returns-clause-idle
unfolding IsIdle
returns-clause-idle c = on_err_weaker c.call.result (λ h. h.calls) c.call.ensures.err

pub returns-clause-store : goal.returns-clause-store
unfolding store_in
returns-clause-store c = on_err_weaker c.call.result (λ h names. h names) c.call.ensures.store
