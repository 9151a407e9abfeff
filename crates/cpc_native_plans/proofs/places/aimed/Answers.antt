use Rattle.cpc_tree.specs.Erase.{expr_of}
use Rattle.cpc_eval.specs.Around.{context_of}
use Rattle.cpc_native_plans.proofs.places.aimed.Goals as goal

pub returns-clause-value : goal.returns-clause-value
returns-clause-value c = λ names told n.
    c.at_place.ensures.value names (context_of names c.args.around.now) (expr_of names c.args.target.now) (c.in_ok-there.ensures.value names told n) (c.in_ok-there.ensures.typed names told)
