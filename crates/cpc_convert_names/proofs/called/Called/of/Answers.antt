use Rattle.std.proofs.Common.{◌≡◌, ◌∙◌, map, length, sym, ap, arith}
use Rattle.cpc_tree.specs.Erase.{in_table}
use Rattle.cpc_convert_routines.specs.Names.{leader_name, box_tag, node_label}
use Rattle.cpc_convert_names.proofs.Growing.{grown_more, spells_before}
use Rattle.cpc_convert_names.specs.Counted.{counted, called_of, locals_from}
use Rattle.cpc_convert_names.specs.Called.{name_in}
use Rattle.cpc_convert_names.proofs.called.Called.of.Goals as goal

pub returns-clause-grown : goal.returns-clause-grown
returns-clause-grown c = grown_more _ _ _ (grown_more _ _ _ (grown_more _ _ _ (grown_more _ _ _ (grown_more _ _ _ (grown_more _ _ _ c.in_ok-spawner.ensures.grown c.in_ok-start.ensures.grown) c.in_ok-value.ensures.grown) c.in_ok-pieces.ensures.grown) c.in_ok-labels.ensures.grown) c.in_ok-locals.ensures.grown) c.in_ok-tags.ensures.grown

pub returns-clause-are : goal.returns-clause-are
returns-clause-are c = λ source to g s named.
    let s6 = spells_before _ _ to c.in_ok-tags.ensures.grown s in
    let s5 = spells_before _ _ to c.in_ok-locals.ensures.grown s6 in
    let s4 = spells_before _ _ to c.in_ok-labels.ensures.grown s5 in
    let s3 = spells_before _ _ to c.in_ok-pieces.ensures.grown s4 in
    let s2 = spells_before _ _ to c.in_ok-value.ensures.grown s3 in
    let s1 = spells_before _ _ to c.in_ok-start.ensures.grown s2 in
    let g1 = grown_more _ _ _ g c.in_ok-spawner.ensures.grown in
    let g2 = grown_more _ _ _ g1 c.in_ok-start.ensures.grown in
    let g3 = grown_more _ _ _ g2 c.in_ok-value.ensures.grown in
    let g4 = grown_more _ _ _ g3 c.in_ok-pieces.ensures.grown in
    let g5 = grown_more _ _ _ g4 c.in_ok-labels.ensures.grown in
    let g6 = grown_more _ _ _ g5 c.in_ok-locals.ensures.grown in
    let e = named.function in
    let name = name_in to c.args.lifted.now in
    let split = c.args.lifted.now.split.now in
    let boxed = split.graph.now.boxed.now in
    let nodes : c.len-nodes.result ≡ length split.graph.now.nodes.items = omega (arith, c.len-nodes.ensures, split.graph.now.nodes.ok.0) in
    let variables : c.len-count.result ≡ length boxed.variables.items = omega (arith, c.len-count.ensures, boxed.variables.ok.0) in
    let seen = c.deref.ensures.value in
    let there = ap (map (called_of (in_table source))) seen ∙ (named.variables ∙ ap (map (called_of to)) (sym seen)) in
    record {
      spawner = c.in_ok-spawner.ensures.is source to g s1 e;
      start = c.in_ok-start.ensures.is source to g1 s2 e;
      value = c.in_ok-value.ensures.is source to g2 s3 e;
      pieces = c.in_ok-pieces.ensures.are source to g3 s4 e ∙ ap (counted (leader_name name) 0) nodes;
      labels = c.in_ok-labels.ensures.are to s5 ∙ ap (counted node_label 0) nodes;
      locals = c.in_ok-locals.ensures.are source to g5 s6 there ∙ ap (locals_from to 0) seen;
      tags = c.in_ok-tags.ensures.are source to g6 s e ∙ ap (counted (box_tag name) 0) variables;
    }
