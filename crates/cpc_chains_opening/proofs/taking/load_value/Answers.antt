use Rattle.std.proofs.Common.{map, sym, ap, ◌∙◌}
use Rattle.cpc_forms_code.specs.Graphs.{node_seen}
use Rattle.cpc_forms_code.specs.Splits.{place_of}
use Rattle.cpc_forms_code.specs.declared.split.Owner.{Owner}
use Rattle.cpc_convert_flat_laws.specs.Locals.{loads_one}
use Rattle.cpc_convert_routines.specs.Names.{frame_name}
use Rattle.cpc_chains_event.specs.Pieces.{value_load}
use Rattle.cpc_convert_names.specs.Called.{nodes_in, variables_in}
use Rattle.cpc_chains_lines.specs.Written.{written, puts}
use Rattle.cpc_chains_lines.proofs.Arrival.{value_loads, no_loads}
use Rattle.cpc_chains_lines.proofs.Standing.{read}
use Rattle.cpc_chains_lines.proofs.Within.{knows_at, node_at, no_node_at}
use Rattle.cpc_chains_opening.proofs.taking.load_value.Goals as goal

pub returns-in_ok-load_arriving-in-Some : goal.returns-in_ok-load_arriving-in-Some
returns-in_ok-load_arriving-in-Some c = λ source from to p r st.
    let a = c.args.around in
    let k = c.in-Leader.number in
    let n = c.in-Some.node.now in
    let u = written to c.args.out.now in
    let at = read (nodes_in a.called.now.lifted.now) _ k n c.nodes.ensures c.in-Some.ensures.lookup.0 c.in-Some.ensures.lookup.1 in
    c.in_ok-load_arriving-in-Some.ensures source from to p r st (knows_at source from to p r a st k n at)
    ∙ (ap (puts u) (value_loads p r k (node_seen from (variables_in a.called.now.lifted.now) n) (node_at source from to p r a st k n at))
    ∙ ap (λ (o : Owner). puts u (map (loads_one frame_name) (value_load p r (place_of o)))) (sym c.in-Leader.is))

pub returns-in-None : goal.returns-in-None
returns-in-None c = λ source from to p r st.
    let a = c.args.around in
    let k = c.in-Leader.number in
    let u = written to c.args.out.now in
    ap (puts u) (no_loads p r k (no_node_at source from to p r a st k _ c.nodes.ensures c.in-None.ensures.lookup.0))
    ∙ ap (λ (o : Owner). puts u (map (loads_one frame_name) (value_load p r (place_of o)))) (sym c.in-Leader.is)
