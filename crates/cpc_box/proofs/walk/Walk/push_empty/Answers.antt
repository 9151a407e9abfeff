use Rattle.std.proofs.Common.{refl}
use Rattle.std.proofs.lemmas.Result.{on_ok_weaker}
use Rattle.cpc_tree.specs.Points as P
use Rattle.cpc_tree.specs.Syntax as S
use Rattle.cpc_box.specs.Outline.{here}
use Rattle.cpc_box.proofs.walk.Walk.push_empty.Goals as goal

pub returns : goal.returns
returns c = on_ok_weaker c.push.result (λ h names ms p sc chain. h names ms (here p sc (P.Simple S.Empty)) (record { stood = refl; scope = chain; manner = refl })) c.push.ensures
