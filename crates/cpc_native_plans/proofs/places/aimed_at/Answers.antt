use Rattle.cpc_tree.specs.Syntax.{ENamed}
use Rattle.cpc_eval.specs.Around.{context_of}
use Rattle.cpc_native_plans.proofs.places.aimed_at.Goals as goal

pub returns-clause-value : goal.returns-clause-value
returns-clause-value c = λ names told.
    c.at_place.ensures.value names (context_of names c.args.around.now) (ENamed (names c.args.name)) (c.in_ok-there.ensures.value names told) (c.in_ok-there.ensures.typed names told)
