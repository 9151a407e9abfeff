use Rattle.std.proofs.Common.{◌∙◌}
use Rattle.cpc_chains_event.specs.Pieces.{is_entry}
use Rattle.cpc_convert_names.specs.Called.{nodes_in, variables_in}
use Rattle.cpc_chains_opening.proofs.Found.{node_there, node_past}
use Rattle.cpc_chains_opening.proofs.calls.calls_at.Goals as goal

pub returns-in-Some : goal.returns-in-Some
returns-in-Some c = λ source from to p r st entries.
    let l = c.args.around.called.now.lifted.now in
    c.calls.ensures source from to p r st entries
    ∙ node_there from (variables_in l) (nodes_in l) _ r.split.graph.nodes c.args.number c.in-Some.node.now (λ node. is_entry p node.stood) st.routine.nodes c.nodes.ensures c.in-Some.ensures.lookup.0 c.in-Some.ensures.lookup.1

pub returns-in-None : goal.returns-in-None
returns-in-None c = λ source from to p r st entries.
    let l = c.args.around.called.now.lifted.now in
    node_past from (variables_in l) (nodes_in l) _ r.split.graph.nodes c.args.number (λ node. is_entry p node.stood) st.routine.nodes c.nodes.ensures c.in-None.ensures.lookup.0
