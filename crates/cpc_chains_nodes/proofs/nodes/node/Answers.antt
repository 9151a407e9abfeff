use Rattle.std.proofs.Common.{◌∙◌, sym, ap, [], Option}
use Rattle.cpc_forms.specs.Graph as G
use Rattle.cpc_chains_event.specs.Lines as L
use Rattle.cpc_convert_names.specs.Called.{nodes_in}
use Rattle.cpc_chains_lines.specs.Written.{written, puts}
use Rattle.cpc_chains_lines.specs.Puts.{statements_before}
use Rattle.cpc_chains_lines.proofs.Standing.{read}
use Rattle.cpc_chains_lines.proofs.Within.{knows_at, node_at, no_node_at}
use Rattle.cpc_chains_nodes.proofs.nodes.node.Goals as goal

pub returns-in_ok-stood-in-Some : goal.returns-in_ok-stood-in-Some
returns-in_ok-stood-in-Some c = λ source from to p r st.
    let a = c.args.around in
    let n = c.in-Some.node.now in
    let at = read (nodes_in a.called.now.lifted.now) _ c.args.number n c.nodes.ensures c.in-Some.ensures.lookup.0 c.in-Some.ensures.lookup.1 in
    c.in_ok-stood-in-Some.ensures source from to p r st (knows_at source from to p r a st c.args.number n at)
    ∙ ap (λ (o : Option G.Node). puts (written to c.args.out.now) (statements_before c.args.following (G.at_node [] (L.node_lines p r) o))) (sym (node_at source from to p r a st c.args.number n at))

pub returns-in-None : goal.returns-in-None
returns-in-None c = λ source from to p r st.
    ap (λ (o : Option G.Node). puts (written to c.args.out.now) (statements_before c.args.following (G.at_node [] (L.node_lines p r) o)))
    (sym (no_node_at source from to p r c.args.around st c.args.number _ c.nodes.ensures c.in-None.ensures.lookup.0))
