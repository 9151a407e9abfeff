use Rattle.cpc_eval.specs.Shapes.{shape_of}
use Rattle.cpc_eval.proofs.Types.{compared}
use Rattle.cpc_eval.proofs.typing.operator_form.Goals as goal

pub returns-in-Lt : goal.returns-in-Lt
returns-in-Lt c = λ names p m n. compared p c.args.op m n (shape_of names c.args.left) (shape_of names c.args.right) _ (c.int_value.ensures names) c.in-Lt.is
