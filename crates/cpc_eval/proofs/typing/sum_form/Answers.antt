use Rattle.cpc_eval.specs.Shapes.{shape_of}
use Rattle.cpc_eval.proofs.Types.{sum_left, sum_right, sum_plain}
use Rattle.cpc_eval.proofs.typing.sum_form.Goals as goal

pub returns-in-Some : goal.returns-in-Some
returns-in-Some c = λ names p. sum_left p (shape_of names c.args.left) (shape_of names c.args.right) _ (c.in-Some.ensures names)

pub returns-in-Some-pointee : goal.returns-in-Some-pointee
returns-in-Some-pointee c = λ names p. sum_right p (shape_of names c.args.left) (shape_of names c.args.right) _ (c.in-None.ensures names) (c.in-Some-pointee.ensures names)

pub returns-in-None-pointee : goal.returns-in-None-pointee
returns-in-None-pointee c = λ names p. sum_plain p (shape_of names c.args.left) (shape_of names c.args.right) _ (c.in-None.ensures names) (c.in-None-pointee.ensures names) (c.common_form.ensures names)
