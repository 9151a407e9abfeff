use Rattle.cpc_parser_types.proofs.CodeTypes.{built}
use Rattle.cpc_parser_types.proofs.code.code_type.Goals as goal

pub returns-clause-made : goal.returns-clause-made
returns-clause-made c = λ names. built names c.in_ok-new.field-0 c.in_ok-parameters.parameters c.args.of c.args.list.items c.in_ok-new.ensures.ok c.in_ok-parameters.ensures.types
