-- What contracts see of what stands behind =.
use Rattle.cpc_tree.specs.Erase.{Names}
use Rattle.cpc_tree.specs.Locate.{located_expr, located_exprs, ident}
use Rattle.cpc_tree.specs.StmtGrammar as S
use Rattle.cpc_parser_statements.specs.declared.right.Right as GRight
use Rattle.cpc_parser_statements.specs.declared.right.Right.TheVariants as R

-- what stands behind =, by a table of names
abbrev pub right_seen : Names → GRight.Right → S.Right
right_seen names (R.Value v) = S.Value (located_expr names v)
right_seen names (R.Call f vs) = S.Calls (located_expr names f) (located_exprs names vs.items)
right_seen names (R.Section keyword x vs) = S.Section keyword (ident names x) (located_exprs names vs.items)
