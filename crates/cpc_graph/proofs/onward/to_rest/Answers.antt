use Rattle.std.proofs.Common.{ap, sym, ◌∙◌, if◌then◌else◌}
use Rattle.cpc_forms.specs.Table as T
use Rattle.cpc_graph.specs.Ways.{onward_seen}
use Rattle.cpc_graph.proofs.onward.to_rest.Goals as goal

pub returns-else-is_last-clause-onward : goal.returns-else-is_last-clause-onward
returns-else-is_last-clause-onward c = λ label.
    c.going_to.ensures.onward label ∙ ap (λ b. if b then onward_seen label c.args.w else T.going_to c.args.n (onward_seen label c.args.w)) (sym c.if-is_last.false)
