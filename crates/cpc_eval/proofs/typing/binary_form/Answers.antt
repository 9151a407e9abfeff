use Rattle.cpc_eval.specs.Shapes.{types_of, shape_of}
use Rattle.cpc_shapes.proofs.FormParts.{binary_some, binary_left, binary_right}
use Rattle.cpc_eval.proofs.Types.{agrees_absent, agrees_by}
use Rattle.cpc_eval.proofs.typing.binary_form.Goals as goal

pub returns-in-None : goal.returns-in-None
returns-in-None c = λ names p m n. agrees_absent _ _ (binary_left p c.args.op m n (types_of names c.args.left) (types_of names c.args.right) (c.in-None.ensures names))

pub returns-in-None-used_if : goal.returns-in-None-used_if
returns-in-None-used_if c = λ names p m n. agrees_absent _ _ (binary_right p c.args.op m n (types_of names c.args.left) (types_of names c.args.right) (c.in-None-used_if.ensures names))

pub returns-in-Some-used_if : goal.returns-in-Some-used_if
returns-in-Some-used_if c = λ names p m n. agrees_by _ _ _
    (binary_some p c.args.op m n (types_of names c.args.left) (types_of names c.args.right) (shape_of names c.in-Some.t) (shape_of names c.in-Some-used_if.u) (c.in-Some.ensures names) (c.in-Some-used_if.ensures names))
    (c.operator_form.ensures names p m n)
