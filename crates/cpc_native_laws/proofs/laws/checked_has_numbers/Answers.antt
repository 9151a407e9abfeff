use Rattle.cpc_native_laws.proofs.Accepted.{read_has_numbers}
use Rattle.cpc_native_laws.proofs.laws.checked_has_numbers.Goals as goal

pub returns : goal.returns
returns c = let p = c.args.program.now in read_has_numbers p.dialect p.program p.read p.unbroken
