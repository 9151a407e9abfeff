use Rattle.cpc_tree.specs.Typing as T
use Rattle.cpc_meaning.specs.Eval as E
use Rattle.cpc_eval_index.specs.Indexed.{items_of}
use Rattle.cpc_eval.proofs.operands.operate_on.Goals as goal

pub returns-clause-value : goal.returns-clause-value
returns-clause-value c = λ names t u apart h i.
    c.operate.ensures.value names (items_of names c.args.around.now.index.now) (E.and_then t T.used) (E.and_then u T.used) apart (c.counted_size-size.ensures names t u apart h i)
