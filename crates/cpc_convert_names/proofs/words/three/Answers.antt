use Rattle.cpc_convert_names.proofs.Growing.{grown_more, spells_before}
use Rattle.cpc_convert_names.proofs.words.three.Goals as goal

pub returns-clause-grown : goal.returns-clause-grown
returns-clause-grown c = grown_more _ _ _ (grown_more _ _ _ c.in_ok-first.ensures.grown c.in_ok-second.ensures.grown) c.in_ok-third.ensures.grown

pub returns-clause-first : goal.returns-clause-first
returns-clause-first c = λ to s. c.in_ok-first.ensures.is to (spells_before _ _ to c.in_ok-second.ensures.grown (spells_before _ _ to c.in_ok-third.ensures.grown s))

pub returns-clause-second : goal.returns-clause-second
returns-clause-second c = λ to s. c.in_ok-second.ensures.is to (spells_before _ _ to c.in_ok-third.ensures.grown s)
