use Rattle.cpc_convert_names.specs.Called.{variables_in}
use Rattle.cpc_convert_names.proofs.Rows.{local_at, locals_ended}
use Rattle.cpc_convert_names.proofs.called.Called.local.Goals as goal

pub returns-in-Some : goal.returns-in-Some
returns-in-Some c = λ to v are at. local_at to (variables_in c.args.self.now.lifted.now) _ _ c.args.number _ v are.locals c.deref.ensures.value c.in-Some.ensures.lookup.0 c.in-Some.ensures.lookup.1 at

pub returns-in-None : goal.returns-in-None
returns-in-None c = λ to v are at. absurd (locals_ended to (variables_in c.args.self.now.lifted.now) _ _ c.args.number v are.locals c.deref.ensures.value c.in-None.ensures.lookup.0 at)
