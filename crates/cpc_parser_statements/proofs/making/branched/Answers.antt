use Rattle.cpc_parser_statements.proofs.Trees.{if_is}
use Rattle.cpc_parser_statements.proofs.making.branched.Goals as goal

pub returns : goal.returns
returns c = λ names. if_is names c.args.place c.args.test c.args.yes c.args.no
