use Rattle.std.proofs.Common.{ap, ◌∙◌}
use Rattle.cpc_tree.specs.Syntax as S
use Rattle.cpc_chains_store_laws.specs.Frames as F
use Rattle.cpc_chains_lines.proofs.Single.{assigned_so}
use Rattle.cpc_chains_lines.proofs.frames.save.Goals as goal

pub returns : goal.returns
returns c = λ source from to p r st is.
    let name = c.local-name.ensures source from to p r st is in
    let frame = F.frame_through (to c.args.pointer) (to c.args.tag) in
    let target = c.in_ok-target.ensures to ∙ (ap (λ e. S.EArrow e (to c.local-name.result)) (c.in_ok-frame.ensures to) ∙ ap (λ x. S.EArrow frame x) name) in
    let value = c.named-value.ensures to ∙ ap (λ x. S.ENamed x) name in
    assigned_so _ _ _ _ _ _ target value (c.in_ok-assign.ensures to)
