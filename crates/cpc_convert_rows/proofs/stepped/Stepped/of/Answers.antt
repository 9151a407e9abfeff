use Rattle.std.proofs.Common.{◌≡◌, ◌<◌, ◌∙◌, ap, sym, subst, length, All, arith}
use Rattle.std.proofs.lemmas.List.{length-map}
use Rattle.cpc_forms.specs.Pieces.{owned_from}
use Rattle.cpc_forms_code.specs.Graphs.{node_seen}
use Rattle.cpc_forms_code.specs.Splits.{places_of}
use Rattle.cpc_convert_rows.specs.Steps.{step_of}
use Rattle.cpc_convert_rows.proofs.stepped.Stepped.of.Goals as goal

pub returns-clause-is : goal.returns-clause-is
returns-clause-is c = λ names r is.
    let nodes = c.args.split.now.graph.now.nodes.items in
    let seen = node_seen names c.args.split.now.graph.now.boxed.now.variables.items in
    let steps = c.in_ok-steps.ensures names r is in
    let long : length c.in_ok-steps.steps.items ≡ length nodes = ap (λ l. length l) steps ∙ (length-map r.split.graph.nodes (step_of r) ∙ (ap (λ l. length l) (sym is.nodes) ∙ length-map nodes seen)) in
    record {
      entry = is.entry;
      steps = steps;
      owners = is.owners;
      leaders = is.leaders;
      led = subst (λ k. All (λ n. n < k) c.args.split.now.leaders.items) (sym long) is.led;
      long = grind arith;
      owned = λ l below. c.in_ok-owned.ensures.rows l below ∙ ap (λ os. owned_from l 0 os) (ap places_of c.deref.ensures.value ∙ is.owners);
    }
