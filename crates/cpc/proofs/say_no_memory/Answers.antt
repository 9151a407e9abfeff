use Rattle.std.proofs.Common.{codes, inr, refl, take}
use Rattle.cpc_standard.proofs.TopLemmas.{is_cut}
use Rattle.cpc.proofs.say_no_memory.Goals as goal

pub returns-in-Err : goal.returns-in-Err
returns-in-Err g c =
    let wrote = c.in-Err.ensures.prefix in
    let line = codes "no memory\n" in
    record { said = (take wrote.0 line, wrote.2, inr (refl, is_cut wrote.0 line wrote.1, c.in-Err.ensures.cause)) }
