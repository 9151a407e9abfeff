use Rattle.std.proofs.Common.{map, ap, ◌∙◌}
use Rattle.cpc_forms_code.specs.Graphs.{node_seen}
use Rattle.cpc_split.specs.Steps.{step_of}
use Rattle.cpc_split.proofs.Parted.{stays_inside, is_split}
use Rattle.cpc_split.proofs.splitting.split_function.Goals as goal

pub split_steps-requires : goal.split_steps-requires
split_steps-requires c =
    stays_inside c.args.graph.now c.deref-2.result.now
    (λ names vs. c.deref-2.ensures.value ∙ (c.in_ok-steps.ensures names vs ∙ ap (λ l. map step_of (map (node_seen names vs) l)) c.deref.ensures.value))
    c.args.graph.now.boxed.now.formed c.args.graph.now.formed

pub invariant_of-result : goal.invariant_of-result
invariant_of-result c = record {
  formed =
      is_split c.args.graph.now c.deref-2.result.now
      (λ names vs. c.deref-2.ensures.value ∙ (c.in_ok-steps.ensures names vs ∙ ap (λ l. map step_of (map (node_seen names vs) l)) c.deref.ensures.value))
      c.in_ok-found.found.owners.items c.in_ok-found.found.leaders.items c.in_ok-found.ensures.owners c.in_ok-found.ensures.leaders c.args.graph.now.formed;
}
