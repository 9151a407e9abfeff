use Rattle.std.proofs.Common.{refl, inr, take}
use Rattle.cpc_cli.proofs.TopLemmas.{is_cut}
use Rattle.cpc_cli.proofs.answer.say.Goals as goal

pub returns-in-Err : goal.returns-in-Err
returns-in-Err g c =
    let wrote = c.in-Err.ensures.prefix in
    record { said = (take wrote.0 c.args.line.now, wrote.2, inr (refl, is_cut wrote.0 c.args.line.now wrote.1, c.in-Err.ensures.cause)) }
