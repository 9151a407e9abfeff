use Rattle.std.proofs.Common.{refl}
use Rattle.std.proofs.lemmas.Result.{on_ok_weaker}
use Rattle.cpc_box.specs.Outline.{the_end}
use Rattle.cpc_box.specs.Walked.{NoLocal}
use Rattle.cpc_box.proofs.walk.Walk.push_end.Goals as goal

pub returns : goal.returns
returns c = on_ok_weaker c.push.result (λ h names ms. h names ms the_end (record { stood = refl; scope = NoLocal; manner = refl })) c.push.ensures
