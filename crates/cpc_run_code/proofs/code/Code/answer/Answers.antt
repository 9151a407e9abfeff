use Rattle.std.proofs.Common.{ap}
use Rattle.std.proofs.lemmas.Result.{on_err_weaker}
use Rattle.cpc_eval_index.specs.Indexed.{items_of}
use Rattle.cpc_meaning.specs.Plain as P
use Rattle.cpc_meaning.specs.Trees.{trees}
use Rattle.cpc_eval_values.specs.Shown.{value_of, store_of}
use Rattle.cpc_native.proofs.Same.{runs_same}
use Rattle.cpc_run_code.specs.Code.{items_in, store_in, stack_in, IsWell, Runs}
use Rattle.cpc_run_code.proofs.Coded.{answer_is}
use Rattle.cpc_run_code.proofs.code.Code.answer.Goals as goal

pub returns-clause-items : goal.returns-clause-items
unfolding items_in
returns-clause-items c = λ names. ap (items_of names) c.answer.ensures.index

pub returns-clause-runs : goal.returns-clause-runs
unfolding Runs
returns-clause-runs c = λ names h. runs_same names _ _ _ _ (ap (λ t. t.now) c.answer.ensures.texts) (ap (items_of names) c.answer.ensures.index) h

pub returns-clause-well : goal.returns-clause-well
unfolding IsWell
returns-clause-well c = c.answer.ensures.well

pub returns-clause-answered : goal.returns-clause-answered
unfolding items_in store_in stack_in Runs
returns-clause-answered c = λ names runs. answer_is names (record { machine = c.answer.new.self }) c.answer.result (P.answered (trees (items_in names c.args.self.now)) (store_in names c.args.self.now) (stack_in names c.args.self.now) (value_of names c.args.value)) (c.answer.ensures.meets names runs)

pub answer-requires-clause-well : goal.answer-requires-clause-well
unfolding IsWell
answer-requires-clause-well c = c.requires.well

pub returns-clause-store : goal.returns-clause-store
unfolding store_in
returns-clause-store c = on_err_weaker c.answer.result (λ h names. ap (store_of names) h) c.answer.ensures.store
