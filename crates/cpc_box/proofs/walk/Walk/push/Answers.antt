use Rattle.std.proofs.Common.{refl}
use Rattle.cpc_box.proofs.Going.{pushed}
use Rattle.cpc_box.proofs.walk.Walk.push.Goals as goal

pub returns : goal.returns
returns c = λ names ms p i. pushed names ms c.args.self.now _ (record { stood = c.args.stood; scope = c.args.scope; manner = c.args.manner }) p refl c.in_ok-push.ensures.items i
