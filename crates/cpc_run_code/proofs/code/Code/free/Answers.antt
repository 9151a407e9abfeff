use Rattle.std.proofs.Common.{sym, ap, ◌∙◌}
use Rattle.std.proofs.lemmas.Result.{on_err_weaker}
use Rattle.cpc_eval_index.specs.Indexed.{items_of}
use Rattle.cpc_eval_values.specs.Shown.{store_of}
use Rattle.cpc_store.specs.Seen.{seen}
use Rattle.cpc_store.proofs.CodeLemmas.{free-map}
use Rattle.cpc_native.proofs.Same.{runs_same, same_stack}
use Rattle.cpc_run_code.specs.Code.{items_in, store_in, stack_in, IsWell, Runs}
use Rattle.cpc_run_code.proofs.Coded.{result_shown}
use Rattle.cpc_run_code.proofs.code.Code.free.Goals as goal

pub free-requires-clause-well : goal.free-requires-clause-well
unfolding IsWell
free-requires-clause-well c = c.requires.well

pub returns-clause-items : goal.returns-clause-items
unfolding items_in
returns-clause-items c = λ names. ap (items_of names) c.free.ensures.same.index

pub returns-clause-runs : goal.returns-clause-runs
unfolding Runs
returns-clause-runs c = λ names h. runs_same names _ _ _ _ (ap (λ t. t.now) c.free.ensures.same.texts) (ap (items_of names) c.free.ensures.same.index) h

pub returns-clause-stack : goal.returns-clause-stack
unfolding stack_in
returns-clause-stack c = λ names. same_stack names c.args.self.now.machine c.free.new.self c.free.ensures.same

pub returns-clause-well : goal.returns-clause-well
unfolding IsWell
returns-clause-well c = c.free.ensures.well

pub returns-clause-value : goal.returns-clause-value
unfolding store_in
returns-clause-value c = λ names. result_shown names c.free.new.self.store c.free.result _ c.free.ensures.value ∙ sym (free-map names c.args.class (seen c.args.what) c.args.self.now.machine.store)

pub returns-clause-err : goal.returns-clause-err
unfolding store_in
returns-clause-err c = on_err_weaker c.free.result (λ h names. ap (store_of names) h) c.free.ensures.err
