use Rattle.std.proofs.Common.{ap, sym, ◌∙◌}
use Rattle.cpc_tree.specs.Erase.{type_of}
use Rattle.cpc_eval.specs.Shapes.{shape_of}
use Rattle.cpc_native_plans.specs.Rows.{parameter_list, signature_in}
use Rattle.cpc_native_plans.proofs.Signing.{signature_made}
use Rattle.cpc_native_plans.proofs.calls.signature_of.Goals as goal

pub returns-in-CodeOf : goal.returns-in-CodeOf
returns-in-CodeOf c = λ names.
    signature_made (type_of names c.in-CodeOf.given.now) (parameter_list names c.in-CodeOf.parameters.now) ∙ sym (ap (λ s. signature_in (shape_of names s)) c.in-CodeOf.is)
