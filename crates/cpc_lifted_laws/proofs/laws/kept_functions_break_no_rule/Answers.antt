use Rattle.cpc_lifted_laws.proofs.Complete.KeptFunctions as K
use Rattle.cpc_lifted_laws.proofs.laws.kept_functions_break_no_rule.Goals as goal

pub returns : goal.returns
returns c = record { law = λ source items f native keeps steps sizes declared row. K.function_kept source items f native keeps steps sizes declared row }
