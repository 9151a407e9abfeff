use Rattle.std.proofs.Common.{◌∙◌, ap, sym, ◌||◌, nat_le, get_or}
use Rattle.cpc_graph_laws.proofs.Marked.{leaders_are_counted}
use Rattle.cpc_split.specs.Steps.{flow_by, resumes_of}
use Rattle.cpc_split.proofs.leading.is_leader.Goals as goal

pub returns : goal.returns
returns c =
    let flow = flow_by c.args.entry c.args.steps.now in
    c.leads.ensures
    ∙ ap (λ r. r || nat_le 2 (get_or c.args.counts.now c.args.node 0)) (sym (ap resumes_of c.step_at-step.ensures.value))
    ∙ ap (λ k. flow.resumes c.args.node || nat_le 2 k) (c.requires.counts c.args.node)
    ∙ sym (leaders_are_counted flow c.args.node)
