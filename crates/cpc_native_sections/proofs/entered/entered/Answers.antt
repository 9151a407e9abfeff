use Rattle.std.proofs.Common.{ap, map, subst, ◌∙◌}
use Rattle.cpc_tree.specs.Erase.{item_of}
use Rattle.cpc_tree.specs.Lists.{is_empty}
use Rattle.cpc_meaning.specs.Section.{section_run, copy_store}
use Rattle.cpc_meaning.specs.Trees.{trees}
use Rattle.cpc_eval_values.specs.Shown.{values_of, store_of}
use Rattle.cpc_eval_index.specs.Indexed.{items_of}
use Rattle.cpc_native.specs.Stacks.{stack_of}
use Rattle.cpc_native.proofs.Same.{runs_same}
use Rattle.cpc_sections.specs.Jobs.{EndsAs, job_of}
use Rattle.cpc_native_sections.proofs.Running.{begun_in}
use Rattle.cpc_native_sections.proofs.entered.entered.Goals as goal

pub returns-clause-entered : goal.returns-clause-entered
returns-clause-entered c = λ names runs bound end h.
    let program = c.args.program.now in
    let p = map (item_of names) program.items.items in
    let job = job_of names c.args.job.now in
    let old = c.new-machine.result in
    let new = c.call.new.self in
    let q = items_of names old.index in
    let same = ap (items_of names) c.new-machine.ensures.index ∙ ap (map (item_of names)) c.requires.index in
    let row = ap (values_of names) c.deref-2.ensures.value ∙ c.in_ok-args.ensures.row names in
    let store = ap (store_of names) c.new-machine.ensures.store ∙ c.in_ok-store.ensures names ∙ ap (λ xs. copy_store (values_of names xs)) c.deref.ensures.value in
    begun_in names p q job bound end (values_of names c.deref-2.result.now) (store_of names old.store) (store_of names new.store) (stack_of names new) same row store
    (c.in_ok-call.ensures.runs names (runs_same names program.names old.texts.now p q (ap (λ t. t.now) c.new-machine.ensures.texts) same runs))
    (subst (λ i. EndsAs names end (section_run (trees (items_of names i)) job.function (is_empty job.cells) bound (store_of names new.store) (stack_of names new))) c.in_ok-call.ensures.index h)
