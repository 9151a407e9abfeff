use Rattle.cpc_native_plans.proofs.Signing.{signature_found}
use Rattle.cpc_native_plans.proofs.calls.signature_given.Goals as goal

pub returns-in-Code : goal.returns-in-Code
returns-in-Code c = λ names. signature_found names c.args.of.now c.deref.result.now c.deref-in-Code.result.now c.in-Code.given c.in-Code.parameters c.in-Code.is c.deref.ensures c.deref-in-Code.ensures.value
