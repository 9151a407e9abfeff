use Rattle.cpc_check_rules.specs.Noted.{first_of}
use Rattle.cpc_types.specs.Scoped.{scope_of}
use Rattle.cpc_check_statements.proofs.Parts.{found_result}
use Rattle.cpc_check_statements.proofs.assigned.update_rules.Goals as goal

pub returns : goal.returns
returns c = λ names apart.
    found_result (scope_of names c.args.scope.now) c.args.op c.args.nulls.0 c.args.nulls.1 c.args.place (first_of c.args.first.now) _ _ _ _ _ _ _
    (c.in_ok-left.ensures names) (c.in_ok-whole.ensures.typed names apart) (c.in_ok-whole.ensures.noted names apart) (c.value_type.ensures names) (c.note_given.ensures names apart)
