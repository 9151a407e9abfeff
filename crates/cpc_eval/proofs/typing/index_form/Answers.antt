use Rattle.std.proofs.Common.{refl, ◌∙◌}
use Rattle.cpc_tree.specs.Typing as T
use Rattle.cpc_shapes.proofs.FormParts.{index_left, index_right}
use Rattle.cpc_eval.specs.Shapes.{types_of, shape_of}
use Rattle.cpc_eval.proofs.Types.{agrees_absent, index_pointer, index_other, dereferenced}
use Rattle.cpc_eval.proofs.typing.index_form.Goals as goal

pub returns-in-None : goal.returns-in-None
returns-in-None c = λ names p. agrees_absent _ _ (index_left p (types_of names c.args.left) (types_of names c.args.right) (c.in-None.ensures names))

pub returns-in-Some-pointee : goal.returns-in-Some-pointee
returns-in-Some-pointee c = λ names p. index_pointer p (types_of names c.args.left) (types_of names c.args.right) (shape_of names c.in-Some.t) _ (c.in-Some.ensures names) (c.in-Some-pointee.ensures names)

pub returns-in-None-used_if : goal.returns-in-None-used_if
returns-in-None-used_if c = λ names p. agrees_absent _ _ (index_right p (types_of names c.args.left) (types_of names c.args.right) (c.in-None-used_if.ensures names))

pub returns-in-Some-used_if : goal.returns-in-Some-used_if
returns-in-Some-used_if c = λ names p.
    let u = shape_of names c.in-Some-used_if.u in
    index_other p (types_of names c.args.left) (types_of names c.args.right) _ (shape_of names c.in-Some.t) u (c.in-Some.ensures names) (c.in-None-pointee.ensures names) (c.in-Some-used_if.ensures names)
    (c.target_form.ensures names (T.AValue u) refl ∙ dereferenced u)
