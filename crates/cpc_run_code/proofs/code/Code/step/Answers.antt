use Rattle.std.proofs.Common.{ap}
use Rattle.std.proofs.lemmas.Result.{on_err_weaker}
use Rattle.cpc_eval_index.specs.Indexed.{items_of}
use Rattle.cpc_meaning.specs.Plain as P
use Rattle.cpc_meaning.specs.Trees.{trees}
use Rattle.cpc_eval_values.specs.Meets.{Meets}
use Rattle.cpc_native.specs.Stacks.{done_of as native_done}
use Rattle.cpc_native.proofs.Same.{runs_same}
use Rattle.cpc_run_code.specs.Code.{items_in, store_in, stack_in, IsWell, Runs, StandsAtCall}
use Rattle.cpc_run_code.proofs.Coded.{if_ok, ok_names, ends_idle, asked_in, faults_in, step_is}
use Rattle.cpc_run_code.proofs.code.Code.step.Goals as goal

pub returns-clause-items : goal.returns-clause-items
unfolding items_in
returns-clause-items c = λ names. ap (items_of names) c.step.ensures.index

pub returns-clause-runs : goal.returns-clause-runs
unfolding Runs
returns-clause-runs c = λ names h. runs_same names _ _ _ _ (ap (λ t. t.now) c.step.ensures.texts) (ap (items_of names) c.step.ensures.index) h

pub returns-clause-well : goal.returns-clause-well
unfolding IsWell
returns-clause-well c = c.step.ensures.well

pub returns-clause-idle : goal.returns-clause-idle
returns-clause-idle c = if_ok _ _ _ c.step.result (λ x h k. ends_idle (record { machine = c.step.new.self }) x h) c.step.ensures.empty c.step.ensures.empty

pub returns-clause-asked : goal.returns-clause-asked
returns-clause-asked c = if_ok _ _ _ c.step.result (λ x h k. asked_in c.args.self.now (record { machine = c.step.new.self }) x h k) c.step.ensures.told c.step.ensures.kept

pub returns-clause-did : goal.returns-clause-did
unfolding items_in store_in stack_in Runs
returns-clause-did c = λ names runs. step_is names (record { machine = c.step.new.self }) c.step.result (P.plain (trees (items_in names c.args.self.now)) (store_in names c.args.self.now) (stack_in names c.args.self.now)) (ok_names (λ n. Runs n c.args.self.now) (λ n x. Meets (native_done n c.step.new.self x) (P.plain (trees (items_in n c.args.self.now)) (store_in n c.args.self.now) (stack_in n c.args.self.now))) c.step.result c.step.ensures.meets names runs)

pub returns-clause-faulted : goal.returns-clause-faulted
returns-clause-faulted c = if_ok _ _ _ c.step.result (λ x h k. faults_in c.args.self.now (record { machine = c.step.new.self }) x h) c.step.ensures.kept c.step.ensures.kept

pub returns-clause-refused : goal.returns-clause-refused
unfolding StandsAtCall
returns-clause-refused c = c.step.ensures.refused

pub returns-clause-stack : goal.returns-clause-stack
unfolding stack_in
returns-clause-stack c = on_err_weaker c.step.result (λ h names. h names) c.step.ensures.stack

pub returns-clause-store : goal.returns-clause-store
unfolding store_in
returns-clause-store c = on_err_weaker c.step.result (λ h names. h names) c.step.ensures.store

pub returns-clause-served : goal.returns-clause-served
unfolding Runs
returns-clause-served c = c.step.ensures.served

pub step-requires : goal.step-requires
unfolding IsWell
step-requires c = c.requires.well
