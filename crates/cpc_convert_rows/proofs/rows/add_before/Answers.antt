use Rattle.std.proofs.Common.{ap, ◌&&◌, ◌∙◌, ◌++◌, nat_lt, get_or, arith}
use Rattle.cpc_convert_routines.specs.Nodes.{has_row}
use Rattle.cpc_chains_event.specs.Rows.{number_where}
use Rattle.cpc_convert_rows.proofs.Turned.{chosen_left}
use Rattle.cpc_convert_rows.proofs.rows.add_before.Goals as goal

pub loop-node-preserved : goal.loop-node-preserved
loop-node-preserved c = λ r is.
    let node = get_or c.args.owned.now c.loop-node.node-index 0 in
    chosen_left (λ n. nat_lt n c.args.first && has_row r.split n) c.args.owned.now c.loop-node.node-index c.loop-node.all.items c.add_if.new.all.items (omega arith)
    (c.in_ok-add_if.ensures ∙ ap (λ b. c.loop-node.all.items ++ number_where b node) (c.is_before.ensures r is))
    ∙ c.loop-node.invariant r is
