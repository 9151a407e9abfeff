use Rattle.cpc_eval_values.specs.Shown.{value_of, shown}
use Rattle.cpc_native_plans.proofs.Evaluated.{taken_nth, none_taken}
use Rattle.cpc_native_acts.proofs.taken.taken_at.Goals as goal

pub returns-in-Some-clause-value : goal.returns-in-Some-clause-value
returns-in-Some-clause-value c = λ names ts h.
    taken_nth c.args.takes.now ts c.args.i c.in-Some.taken (value_of names c.args.value) (shown names c.taken_as.result) c.in-Some.ensures h (λ t e. c.taken_as.ensures.value names t e)

pub returns-in-None-clause-value : goal.returns-in-None-clause-value
returns-in-None-clause-value c = λ names ts h. none_taken c.args.takes.now ts c.args.i (value_of names c.args.value) _ c.in-None.ensures h
