use Rattle.std.proofs.Common.{sym}
use Rattle.cpc_native_points.proofs.Nodes.{nth_there, nth_past}
use Rattle.cpc_native_points.proofs.moves.nth.Goals as goal

pub returns-then-n-row : goal.returns-then-n-row
returns-then-n-row c = λ names. sym (nth_there names c.args.row.now c.args.n c.index-row-n.result c.if-n-row.true c.index-row-n.is)

pub returns-else-n-row : goal.returns-else-n-row
returns-else-n-row c = λ names. sym (nth_past names c.args.row.now c.args.n c.if-n-row.false)
