use Rattle.std.proofs.Common.{Some, None, refl}
use Rattle.cpc_forms_code.specs.Graphs.{node_seen}
use Rattle.cpc_convert_names.specs.Called.{nodes_in, variables_in}
use Rattle.cpc_chains_lines.proofs.Arrival.{arrives_at}
use Rattle.cpc_chains_lines.proofs.Standing.{read}
use Rattle.cpc_chains_lines.proofs.Within.{knows_at, node_at, no_node_at}
use Rattle.cpc_chains_lines.proofs.arriving.arriving_at.Goals as goal

pub returns-in_ok-of-in-Some : goal.returns-in_ok-of-in-Some
returns-in_ok-of-in-Some c = λ source from to p r st.
    let a = c.args.around in
    let k = c.args.leader in
    let n = c.in-Some.node.now in
    let at = read (nodes_in a.called.now.lifted.now) _ k n c.nodes.ensures c.in-Some.ensures.lookup.0 c.in-Some.ensures.lookup.1 in
    arrives_at p r k (Some (node_seen from (variables_in a.called.now.lifted.now) n)) _ (node_at source from to p r a st k n at)
    (c.in_ok-of-in-Some.ensures source from to p r st (knows_at source from to p r a st k n at))

pub returns-in-None : goal.returns-in-None
returns-in-None c = λ source from to p r st.
    let a = c.args.around in
    arrives_at p r c.args.leader None _ (no_node_at source from to p r a st c.args.leader _ c.nodes.ensures c.in-None.ensures.lookup.0) refl
