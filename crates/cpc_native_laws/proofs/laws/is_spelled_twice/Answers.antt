use Rattle.cpc_native_laws.proofs.Accepted.{spelled_twice}
use Rattle.cpc_native_laws.proofs.laws.is_spelled_twice.Goals as goal

pub returns : goal.returns
returns c = let p = c.args.program.now in spelled_twice p.program p.dialect p.read p.within c.text.ensures.distinct
