use Rattle.std.proofs.Common.{refl, inr}
use Rattle.cpc_cli.specs.declared.answer.End.TheVariants.{Memory}
use Rattle.cpc_cli.proofs.answer.conclude.Goals as goal

pub returns-in-Err : goal.returns-in-Err
returns-in-Err g c = let wrote = c.say-in-Err.ensures.said in record { said = (wrote.0, wrote.1, (Memory, inr refl, wrote.2)) }
