use Rattle.std.proofs.Common.{[], sym, ap, ◌∙◌, arith}
use Rattle.std.proofs.lemmas.Result.{on_err_weaker}
use Rattle.cpc_base.proofs.Results.{on_ok}
use Rattle.cpc_tree.specs.Erase.{Names}
use Rattle.cpc_eval_index.specs.Indexed.{items_of}
use Rattle.cpc_eval_values.specs.Shown.{store_of}
use Rattle.cpc_store.specs.Codes.{map_store}
use Rattle.cpc_store.specs.Store as S
use Rattle.cpc_store.proofs.CodeLemmas.{store_cells-map, next_block-map, alloc-map, unset_cells-map}
use Rattle.cpc_native.proofs.Same.{runs_same, same_stack}
use Rattle.cpc_run_code.specs.Code.{items_in, store_in, stack_in, IsWell, Runs}
use Rattle.cpc_run_code.proofs.Coded.{if_ok}
use Rattle.cpc_run_code.proofs.code.Code.alloc.Goals as goal

pub alloc-requires-clause-well : goal.alloc-requires-clause-well
unfolding IsWell
alloc-requires-clause-well c = c.requires.well

pub alloc-requires-clause-live : goal.alloc-requires-clause-live
unfolding store_in
alloc-requires-clause-live c = let none : Names = λ n. [] in let e = store_cells-map none c.args.self.now.machine.store in let h = c.requires.live none in omega (arith, e, h)

pub alloc-requires-clause-made : goal.alloc-requires-clause-made
unfolding store_in
alloc-requires-clause-made c = let none : Names = λ n. [] in let e = next_block-map none c.args.class c.args.self.now.machine.store in let h = c.requires.made none in omega (arith, e, h)

pub returns-clause-items : goal.returns-clause-items
unfolding items_in
returns-clause-items c = λ names. ap (items_of names) c.alloc.ensures.same.index

pub returns-clause-runs : goal.returns-clause-runs
unfolding Runs
returns-clause-runs c = λ names h. runs_same names _ _ _ _ (ap (λ t. t.now) c.alloc.ensures.same.texts) (ap (items_of names) c.alloc.ensures.same.index) h

pub returns-clause-stack : goal.returns-clause-stack
unfolding stack_in
returns-clause-stack c = λ names. same_stack names c.args.self.now.machine c.alloc.new.self c.alloc.ensures.same

pub returns-clause-well : goal.returns-clause-well
unfolding IsWell
returns-clause-well c = c.alloc.ensures.well

pub returns-clause-block : goal.returns-clause-block
unfolding store_in
returns-clause-block c = if_ok _ _ _ c.alloc.result (λ b h k names. h ∙ ap (λ n. record { class = c.args.class; number = n }) (sym (next_block-map names c.args.class c.args.self.now.machine.store))) c.alloc.ensures.block c.alloc.ensures.block

pub returns-clause-ok : goal.returns-clause-ok
unfolding store_in
returns-clause-ok c = on_ok c.alloc.result (λ h names. ap (map_store names) h ∙ sym (alloc-map names c.args.class (S.unset_cells c.args.cells) c.args.self.now.machine.store) ∙ ap (λ cells. S.alloc c.args.class cells (map_store names c.args.self.now.machine.store)) (unset_cells-map names c.args.cells)) c.alloc.ensures.ok

pub returns-clause-err : goal.returns-clause-err
unfolding store_in
returns-clause-err c = on_err_weaker c.alloc.result (λ h names. ap (store_of names) h) c.alloc.ensures.err
