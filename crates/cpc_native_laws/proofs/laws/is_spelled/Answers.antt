use Rattle.cpc_native_laws.proofs.Accepted.{spelled}
use Rattle.cpc_native_laws.proofs.laws.is_spelled.Goals as goal

pub returns : goal.returns
returns c = let p = c.args.program.now in spelled p.program p.dialect p.read p.within c.text.ensures.distinct
