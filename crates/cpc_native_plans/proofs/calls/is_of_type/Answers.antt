use Rattle.std.proofs.Common.{◌&&◌, ap, sym, ◌∙◌}
use Rattle.cpc_tree.specs.Erase.{type_of}
use Rattle.cpc_tree.specs.Typing.{same_types, tys_of}
use Rattle.cpc_eval.specs.Shapes.{shape_of}
use Rattle.cpc_native_plans.specs.Rows.{row_types, parameter_list}
use Rattle.cpc_native_plans.proofs.Signing.{same_as}
use Rattle.cpc_native_plans.proofs.calls.is_of_type.Goals as goal

pub returns-then-same_type : goal.returns-then-same_type
returns-then-same_type c = λ names apart.
    let t = shape_of names c.args.shape in
    let ts = row_types names c.in-Some.row in
    let us = parameter_list names c.args.function.now.parameters.items in
    let rows = ap (λ l. same_types (tys_of ts) (tys_of (parameter_list names l))) c.deref.ensures.value in
    c.same_row.ensures names apart ∙ (rows
    ∙ (ap (λ b. b && same_types (tys_of ts) (tys_of us)) (c.if-same_type.ensures names apart)
    ∙ sym (same_as t (type_of names c.in-Some.given.now) (type_of names c.args.function.now.result) ts us (c.in-Some.ensures names))))
