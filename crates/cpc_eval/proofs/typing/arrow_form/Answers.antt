use Rattle.cpc_eval_index.specs.Indexed.{items_of}
use Rattle.cpc_shapes.proofs.FormParts.{arrow_none}
use Rattle.cpc_eval.specs.Shapes.{types_of}
use Rattle.cpc_eval.proofs.Types.{agrees_absent}
use Rattle.cpc_eval.proofs.typing.arrow_form.Goals as goal

pub returns-in-None : goal.returns-in-None
returns-in-None c = λ names apart. agrees_absent _ _ (arrow_none (items_of names c.args.index.now) (types_of names c.args.operand) (names c.args.name) (c.in-None.ensures names))
