use Rattle.cpc_check_values.proofs.Callees.{code_taken_at}
use Rattle.cpc_check_values.proofs.called.code_callee.Goals as goal

pub returns-in-Some-into_code : goal.returns-in-Some-into_code
returns-in-Some-into_code c = λ names. code_taken_at names c.args.of c.in-Some.of c.in-Some-into_code.result c.in-Some-into_code.parameters c.in-Some.is (c.in-Some-into_code.ensures names)
