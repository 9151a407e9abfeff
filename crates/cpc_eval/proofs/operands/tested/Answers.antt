use Rattle.cpc_eval.proofs.Types.{agrees_of}
use Rattle.cpc_eval.proofs.operands.tested.Goals as goal

pub returns-clause-typed : goal.returns-clause-typed
returns-clause-typed c = λ names o h. agrees_of _ _ o (c.truth.ensures.typed names) h
