use Rattle.std.proofs.Common.{subst}
use Rattle.std.proofs.lemmas.Result.{IfOk-weaker}
use Rattle.cpc_meaning.specs.Plain.{plain}
use Rattle.cpc_meaning.specs.Section.{section_gave, copy_left}
use Rattle.cpc_meaning.specs.Trees.{trees}
use Rattle.cpc_eval_values.specs.Meets.{Meets}
use Rattle.cpc_eval_values.specs.Shown.{value_of, store_of}
use Rattle.cpc_eval_index.specs.Indexed.{items_of}
use Rattle.cpc_native.specs.Stacks.{stack_of, done_of, TellsRunning}
use Rattle.cpc_native.specs.Well.{Unchanged}
use Rattle.cpc_sections.specs.Jobs.{EndsAs}
use Rattle.cpc_native_sections.proofs.Leading.{step_returned, step_faulted, step_asked}
use Rattle.cpc_native_sections.proofs.Running.{still_running}
use Rattle.cpc_native_sections.proofs.run.goes.Goals as goal

pub returns-in_ok-end-in-Returned-clause-led : goal.returns-in_ok-end-in-Returned-clause-led
returns-in_ok-end-in-Returned-clause-led c = λ names runs.
    let old = c.args.machine.now in
    let new = c.step.new.self in
    let end = c.in_ok-end-in-Returned.end in
    let meets = subst (λ x. Meets (done_of names new x) (plain (trees (items_of names old.index)) (store_of names old.store) (stack_of names old))) c.in-Returned.is (c.in_ok-step.ensures.meets names runs) in
    step_returned names old new (names c.args.function) c.args.no_copy (value_of names c.in-Returned.value) end meets
    (subst (λ t. EndsAs names end (section_gave (names c.args.function) (value_of names c.in-Returned.value) (copy_left c.args.no_copy (store_of names t)))) c.store.ensures (c.in_ok-end-in-Returned.ensures.end names))

pub returns-in-Asked-clause-led : goal.returns-in-Asked-clause-led
returns-in-Asked-clause-led c =
    let old = c.args.machine.now in
    let mid = c.step.new.self in
    let r = c.in-Asked.request in
    let same = subst (λ x. Unchanged x old mid) c.in-Asked.is c.in_ok-step.ensures.kept in
    IfOk-weaker c.asked.result _ _
    (λ o led names runs.
    let meets = subst (λ x. Meets (done_of names mid x) (plain (trees (items_of names old.index)) (store_of names old.store) (stack_of names old))) c.in-Asked.is (c.in_ok-step.ensures.meets names runs) in
    let told = subst (TellsRunning names old) c.in-Asked.is (c.in_ok-step.ensures.told names) in
    step_asked names old c.asked.new.machine (names c.args.function) c.args.no_copy r mid o meets told same c.in_ok-step.ensures.index
    (led names (still_running names old mid c.in_ok-step.ensures.index c.in_ok-step.ensures.texts runs) (names c.args.function) c.args.no_copy))
    c.asked.ensures.led

pub returns-in-Faulted-clause-led : goal.returns-in-Faulted-clause-led
returns-in-Faulted-clause-led c = λ names runs.
    let old = c.args.machine.now in
    let new = c.step.new.self in
    let meets = subst (λ x. Meets (done_of names new x) (plain (trees (items_of names old.index)) (store_of names old.store) (stack_of names old))) c.in-Faulted.is (c.in_ok-step.ensures.meets names runs) in
    let told = subst (TellsRunning names old) c.in-Faulted.is (c.in_ok-step.ensures.told names) in
    step_faulted names old new (names c.args.function) c.args.no_copy c.in-Faulted.fault c.in-Faulted.running meets told
