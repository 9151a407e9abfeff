use Rattle.std.proofs.Common.{ap, ◌∙◌}
use Rattle.cpc_eval_index.specs.Indexed.{items_of}
use Rattle.cpc_eval_values.specs.Shown.{store_of}
use Rattle.cpc_native.proofs.Same.{runs_same, same_stack}
use Rattle.cpc_run_code.specs.Code.{items_in, store_in, stack_in, IsIdle, IsWell, Runs}
use Rattle.cpc_run_code.proofs.code.Code.replace_store.Goals as goal

pub replace_store-requires : goal.replace_store-requires
unfolding IsWell
replace_store-requires c = record { well = c.requires.well }

pub returns-clause-value : goal.returns-clause-value
unfolding store_in
returns-clause-value c = λ names. ap (store_of names) c.replace_store.ensures.value

pub returns-clause-store : goal.returns-clause-store
unfolding store_in
returns-clause-store c = λ names. ap (store_of names) c.replace_store.ensures.store

pub returns-clause-items : goal.returns-clause-items
unfolding items_in
returns-clause-items c = λ names. ap (items_of names) c.replace_store.ensures.same.index

pub returns-clause-runs : goal.returns-clause-runs
unfolding Runs
returns-clause-runs c = λ names h. runs_same names _ _ _ _ (ap (λ t. t.now) c.replace_store.ensures.same.texts) (ap (items_of names) c.replace_store.ensures.same.index) h

pub returns-clause-stack : goal.returns-clause-stack
unfolding stack_in
returns-clause-stack c = λ names. same_stack names c.args.self.now.machine c.replace_store.new.self c.replace_store.ensures.same

pub returns-clause-idle : goal.returns-clause-idle
unfolding IsIdle
returns-clause-idle c = λ h. c.replace_store.ensures.same.calls ∙ h

pub returns-clause-well : goal.returns-clause-well
unfolding IsWell
returns-clause-well c = c.replace_store.ensures.well
