-- The ranks of src/ as those of the definitions.
use Rattle.cpc_tree.specs.ExprGrammar as G
use Rattle.cpc_printer.specs.declared.rank.Rank.{Rank}
use Rattle.cpc_printer.specs.declared.rank.Rank.TheVariants as R

abbrev pub rank_of : Rank → G.Rank
rank_of R.Primary = G.Primary
rank_of R.Postfix = G.Postfix
rank_of R.Unary = G.Unary
rank_of (R.Tier n) = G.Tier n
rank_of R.Whole = G.Whole
