use Rattle.std.proofs.Common.{true, ap}
use Rattle.cpc_eval_locals.specs.Marks.{by_order, Down, Past, Off}
use Rattle.cpc_eval_locals.proofs.looking.row_way.Goals as goal

pub returns-in-Less : goal.returns-in-Less
returns-in-Less c = λ p. ap (λ r. by_order r (Past true) (Down p) Off) c.in-Less.ensures

pub returns-in-Equal : goal.returns-in-Equal
returns-in-Equal c = λ p. ap (λ r. by_order r (Past true) (Down p) Off) c.in-Equal.ensures

pub returns-in-Greater : goal.returns-in-Greater
returns-in-Greater c = λ p. ap (λ r. by_order r (Past true) (Down p) Off) c.in-Greater.ensures
