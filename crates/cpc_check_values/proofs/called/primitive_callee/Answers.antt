use Rattle.cpc_types.specs.Scoped.{scope_of}
use Rattle.cpc_check_values.proofs.Callees.{detach_callee}
use Rattle.cpc_check_values.proofs.called.primitive_callee.Goals as goal

pub returns-in-RtDetach-clause-callee : goal.returns-in-RtDetach-clause-callee
returns-in-RtDetach-clause-callee c = λ names apart. detach_callee names (scope_of names c.args.scope.now) c.args.primitive c.args.arguments.now c.third.result _ c.in-RtDetach.is c.third.ensures (c.section_named.ensures names apart)
