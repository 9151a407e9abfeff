use Rattle.cpc_parser_statements.proofs.Trees.{for_is}
use Rattle.cpc_parser_statements.proofs.making.counted.Goals as goal

pub returns : goal.returns
returns c = λ names. for_is names c.args.place c.args.first c.args.test c.args.step c.args.body
