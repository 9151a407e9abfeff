use Rattle.cpc_eval.specs.Shapes.{shape_of}
use Rattle.cpc_eval.proofs.Types.{difference_far, difference_moved, difference_plain}
use Rattle.cpc_eval.proofs.typing.difference_form.Goals as goal

pub returns-in-Some-pointee : goal.returns-in-Some-pointee
returns-in-Some-pointee c = λ names p. difference_far p (shape_of names c.args.left) (shape_of names c.args.right) _ _ _ (c.in-Some.ensures names) (c.in-Some-pointee.ensures names) (c.int_value.ensures names)

pub returns-in-None-pointee : goal.returns-in-None-pointee
returns-in-None-pointee c = λ names p. difference_moved p (shape_of names c.args.left) (shape_of names c.args.right) _ (c.in-Some.ensures names) (c.in-None-pointee.ensures names)

pub returns-in-None : goal.returns-in-None
returns-in-None c = λ names p. difference_plain p (shape_of names c.args.left) (shape_of names c.args.right) _ (c.in-None.ensures names) (c.common_form.ensures names)
