use Rattle.std.proofs.Common.{refl}
use Rattle.std.proofs.lemmas.Result.{on_ok_weaker}
use Rattle.cpc_box.proofs.walk.Walk.push_test.Goals as goal

pub returns : goal.returns
returns c = on_ok_weaker c.push.result (λ h names ms p sc chain. h names ms _ (record { stood = refl; scope = chain; manner = refl })) c.push.ensures
