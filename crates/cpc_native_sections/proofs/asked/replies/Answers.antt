use Rattle.cpc_eval_values.specs.Shown.{value_of}
use Rattle.cpc_native_sections.proofs.Leading.{answer_went, answer_faulted}
use Rattle.cpc_native_sections.proofs.asked.replies.Goals as goal

pub returns-in-Ok-clause-led : goal.returns-in-Ok-clause-led
returns-in-Ok-clause-led c = λ names runs f no_copy.
    answer_went names c.args.machine.now c.answer.new.self f no_copy c.args.function (value_of names c.args.value) (c.in-Ok.ensures.meets names runs)

pub returns-in-Err-clause-led : goal.returns-in-Err-clause-led
returns-in-Err-clause-led c = λ names runs f no_copy.
    answer_faulted names c.args.machine.now c.answer.new.self f no_copy c.args.function (value_of names c.args.value) c.in-Err.fault (c.in-Err.ensures.meets names runs)
