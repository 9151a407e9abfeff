use Rattle.cpc_parser_statements.proofs.Trees.{block_is}
use Rattle.cpc_parser_statements.proofs.making.block.Goals as goal

pub returns : goal.returns
returns c = λ names. block_is names c.args.place c.args.inner
