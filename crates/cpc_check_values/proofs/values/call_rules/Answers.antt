use Rattle.cpc_check_values.specs.Stands.{where_of}
use Rattle.cpc_check_values.proofs.Arguments.{call_told, holds_on_ok}
use Rattle.cpc_check_values.proofs.values.call_rules.Goals as goal

pub returns-clause-noted : goal.returns-clause-noted
returns-clause-noted c = holds_on_ok c.result.result
    (λ names s. call_told names (where_of names c.args.w.now) c.args.function.now c.args.arguments.now _ _ _ _ _ _ (c.in_ok-callee.ensures.callee names s) (c.first_place.ensures names)
    (c.in_ok-callee.ensures.noted names s) (c.note_count.ensures names) (c.in_ok-argument_rules.ensures names s))
