use Rattle.std.proofs.Common.{ap, ◌∙◌, map}
use Rattle.cpc_tree.specs.Erase.{item_of}
use Rattle.cpc_eval_index.specs.Indexed.{items_of}
use Rattle.cpc_eval_values.specs.Shown.{store_of}
use Rattle.cpc_run_code.specs.Code.{items_in, store_in, IsIdle, IsWell, Runs}
use Rattle.cpc_run_code.proofs.Coded.{runs_given}
use Rattle.cpc_run_code.proofs.code.Code.new.Goals as goal

pub returns-clause-store : goal.returns-clause-store
unfolding store_in
returns-clause-store c = λ names. ap (store_of names) c.new-machine.ensures.store

pub returns-clause-items : goal.returns-clause-items
unfolding items_in
returns-clause-items c = λ names. ap (items_of names) c.new-machine.ensures.index ∙ ap (map (item_of names)) c.requires.index

pub returns-clause-runs : goal.returns-clause-runs
unfolding Runs
returns-clause-runs c = λ names given. runs_given names c.args.program.now _ _ (ap (λ t. t.now) c.new-machine.ensures.texts) (ap (items_of names) c.new-machine.ensures.index ∙ ap (map (item_of names)) c.requires.index) given

pub returns-clause-idle : goal.returns-clause-idle
unfolding IsIdle
returns-clause-idle c = c.new-machine.ensures.calls

pub returns-clause-well : goal.returns-clause-well
unfolding IsWell
returns-clause-well c = c.new-machine.ensures.well
