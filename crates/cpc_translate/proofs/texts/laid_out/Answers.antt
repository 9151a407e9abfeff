use Rattle.cpc_translate.proofs.texts.laid_out.Goals as goal

pub returns-in-Ok-clause-printed : goal.returns-in-Ok-clause-printed
returns-in-Ok-clause-printed c = (c.in_ok-program.program, (c.in_ok-program.ensures.program, c.in-Ok.ensures.row))
