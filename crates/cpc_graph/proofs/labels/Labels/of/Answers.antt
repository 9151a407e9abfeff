use Rattle.std.proofs.Common.{ap, ◌∙◌}
use Rattle.cpc_graph.specs.Labels.{labels_seen, marked_or, number_at}
use Rattle.cpc_graph.proofs.Labelled.{none_or, label_put}
use Rattle.cpc_graph.proofs.labels.Labels.of.Goals as goal

pub loop-mark-init : goal.loop-mark-init
loop-mark-init c = λ names apart x. ap (marked_or (labels_seen names _) (names x)) (c.new-labels.ensures x) ∙ none_or (labels_seen names _) (names x)

pub loop-mark-preserved : goal.loop-mark-preserved
loop-mark-preserved c = λ names apart x.
    label_put names apart c.loop-mark.marks.items c.pop.new.self.items c.in-Some.mark x (number_at c.loop-mark.labels x) (number_at c.put.new.self x) c.in-Some.ensures.items (c.in_ok-put.ensures x) ∙ c.loop-mark.invariant names apart x
