use Rattle.std.proofs.Common.{ap, subst, sym, Err}
use Rattle.cpc_tree.specs.Locate.{located}
use Rattle.cpc_check.specs.Accepted.{Accepts}
use Rattle.cpc_translate.specs.Refusals.{IsTextFault, unruly}
use Rattle.cpc_translate.proofs.Within.{fault_is}
use Rattle.cpc_translate.proofs.reading.read.Goals as goal

pub returns-in-Ok-clause-accepted : goal.returns-in-Ok-clause-accepted
returns-in-Ok-clause-accepted c =
    let h = c.in-Ok.ensures.accepted in
    subst (λ p. Accepts c.args.dialect c.args.text.now (located p)) (sym h.0) (record { parses = c.in_ok-program.ensures.program; unbroken = h.2 })

pub returns-clause-refused : goal.returns-clause-refused
returns-clause-refused c = λ fault e.
    let b = c.in-Err-default-Fault.breach in
    subst (IsTextFault c.args.dialect c.args.text.now) (fault_is _ _ e)
    (unruly b (located c.in_ok-program.program) c.in_ok-program.ensures.program (c.in-Err-default-Fault.ensures.refused c.in-Err-default-Fault.field-0-0 b (ap (λ s. Err (c.in-Err-default-Fault.field-0-0, s)) c.in-Err-default-Fault.field-0-1-is)))
