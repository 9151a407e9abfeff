use Rattle.cpc_native_sections.proofs.Asking.{led_freed, led_not_freed}
use Rattle.cpc_native_sections.proofs.Running.{still_running}
use Rattle.cpc_native_sections.proofs.asked.frees.Goals as goal

pub returns-in-Ok-clause-led : goal.returns-in-Ok-clause-led
returns-in-Ok-clause-led c = λ names runs f no_copy.
    let old = c.args.machine.now in
    let mid = c.free.new.self in
    let same = c.free.ensures.same in
    led_freed names old mid c.replies.new.machine f no_copy c.args.function c.replies.result same c.args.what c.in-Ok.ensures.value (c.replies.ensures.led names (still_running names old mid same.index same.texts runs) f no_copy)

pub returns-in-Err-clause-led : goal.returns-in-Err-clause-led
returns-in-Err-clause-led c = λ names runs f no_copy.
    led_not_freed names c.args.machine.now c.free.new.self f no_copy c.args.function c.args.what c.in-Err.fault c.in-Err.ensures.value
