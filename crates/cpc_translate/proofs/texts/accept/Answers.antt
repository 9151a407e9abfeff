use Rattle.cpc_translate.proofs.texts.accept.Goals as goal

pub returns-clause-accepted : goal.returns-clause-accepted
returns-clause-accepted c = (c.in_ok-checked.checked.program, c.in_ok-checked.ensures.accepted)
