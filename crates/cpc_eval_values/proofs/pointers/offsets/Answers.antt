use Rattle.cpc_eval_values.proofs.pointers.offsets.Goals as goal

pub returns-in-At-right-clause-value : goal.returns-in-At-right-clause-value
returns-in-At-right-clause-value c = λ names. rw (c.in-At.is, c.in-At-right.is) (c.offsets_within.ensures.value names)
