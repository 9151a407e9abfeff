use Rattle.std.proofs.Common.{◌∙◌, ap}
use Rattle.std.proofs.Common.{ℕ, [], ◌∷◌, Option}
use Rattle.cpc_chains_event.specs.Lines as L
use Rattle.cpc_chains_lines.specs.Written.{written, puts}
use Rattle.cpc_chains_lines.specs.Puts.{statements_before}
use Rattle.cpc_chains_nodes.proofs.nodes.empty.Goals as goal

pub returns-in_ok-pass-in-InPlace : goal.returns-in_ok-pass-in-InPlace
returns-in_ok-pass-in-InPlace c = λ source from to p r st known. rw c.in-InPlace.is (c.in_ok-pass-in-InPlace.ensures source from to p r st known.yes)

pub returns-in_ok-pass-in-ByFrame : goal.returns-in_ok-pass-in-ByFrame
returns-in_ok-pass-in-ByFrame c = λ source from to p r st known.
    rw c.in-ByFrame.is (
    c.in_ok-pass-in-ByFrame.ensures source from to p r st (c.behind.ensures.leads source from to p r st)
    ∙ ap (λ (o : Option ℕ). puts (written to c.args.out.now) (statements_before c.args.following (L.passes o ∷ []))) (c.behind.ensures.is source from to p r st))
