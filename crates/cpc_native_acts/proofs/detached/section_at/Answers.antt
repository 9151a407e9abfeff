use Rattle.std.proofs.Common.{◌-◌, ap, ◌∙◌}
use Rattle.std.specs.Prelude.{slice_get}
use Rattle.cpc_tree.specs.Erase.{function_of, type_of}
use Rattle.cpc_eval_values.specs.Shown.{value_of, shown}
use Rattle.cpc_native_plans.specs.Rows.{parameter_list}
use Rattle.cpc_native_acts.proofs.Detaching.{function_taken, value_taken, not_taken}
use Rattle.cpc_native_acts.proofs.detached.section_at.Goals as goal

pub returns-then-i-eq0-clause-value : goal.returns-then-i-eq0-clause-value
returns-then-i-eq0-clause-value c = λ names.
    function_taken (function_of names c.args.function.now) (value_of names c.args.value) (shown names c.taken_as.result) c.args.i c.if-i-eq0.true (λ t e. c.taken_as.ensures.value names t e)

pub returns-else-i-eq1-clause-value : goal.returns-else-i-eq1-clause-value
returns-else-i-eq1-clause-value c = λ names.
    let e = c.in-Some.ensures names ∙ ap (λ ps. slice_get (parameter_list names ps) (c.args.i - 1)) c.deref.ensures.value in
    value_taken (function_of names c.args.function.now) (value_of names c.args.value) (shown names c.assigned.result) c.args.i (type_of names c.in-Some.of.now) c.if-i-eq0.false c.if-i-eq1.false e (c.assigned.ensures.value names)

pub returns-in-None-clause-value : goal.returns-in-None-clause-value
returns-in-None-clause-value c = λ names.
    let e = c.in-None.ensures names ∙ ap (λ ps. slice_get (parameter_list names ps) (c.args.i - 1)) c.deref.ensures.value in
    not_taken (function_of names c.args.function.now) (value_of names c.args.value) _ c.args.i c.if-i-eq0.false e
