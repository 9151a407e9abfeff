use Rattle.std.proofs.Common.{ap, ◌∙◌}
use Rattle.cpc_tree.specs.Points.{Simple}
use Rattle.cpc_tree.specs.Syntax as S
use Rattle.cpc_forms_code.specs.Seen.{stood_seen}
use Rattle.cpc_meaning.specs.Act.{AtArrival}
use Rattle.cpc_chains_lines.proofs.Arrival.{loads_arrived}
use Rattle.cpc_chains_lines.proofs.arriving.load_arriving.Goals as goal

pub returns-in_ok-load_at-in-AsCps-Arrival : goal.returns-in_ok-load_at-in-AsCps-Arrival
returns-in_ok-load_at-in-AsCps-Arrival c = λ source from to p r st knows.
    let n = c.args.node in
    let arm = c.in-AsCps-Arrival in
    loads_arrived from p n.manner n.stood arm.s _ _ arm.is-0 arm.is-1
    (c.in_ok-load_at-in-AsCps-Arrival.ensures source from to p r st (λ o f es is. (knows.waits arm.is-0).arrival o f es (ap (stood_seen from) arm.is-1 ∙ ap (λ (x : S.Stmt). AtArrival (Simple x)) is)))
