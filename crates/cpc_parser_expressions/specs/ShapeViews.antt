-- What contracts see of shapes, and of the classes of tokens.
use Rattle.cpc_tree.specs.Erase.{Names}
use Rattle.cpc_tree.specs.Locate.{located_expr, located_exprs}
use Rattle.cpc_parser_expressions.specs.Shapes as S
use Rattle.cpc_parser_expressions.specs.ExprReaders as R
use Rattle.cpc_parser_expressions.specs.declared.shape.Shape as GShape
use Rattle.cpc_parser_expressions.specs.declared.shape.Shape.TheVariants as H
use Rattle.cpc_parser_expressions.specs.declared.shape.Apart as GApart
use Rattle.cpc_parser_expressions.specs.declared.shape.Apart.TheVariants as A
use Rattle.cpc_parser_expressions.specs.declared.tokens.Prefix as GPrefix
use Rattle.cpc_parser_expressions.specs.declared.tokens.Prefix.TheVariants as F
use Rattle.cpc_parser_expressions.specs.declared.tokens.Behind as GBehind
use Rattle.cpc_parser_expressions.specs.declared.tokens.Behind.TheVariants as B

-- what has been read, by a table of names
abbrev pub shape_of : Names → GShape.Shape → S.Shape
shape_of names (H.Call place f vs) = S.Calling place (located_expr names f) (located_exprs names vs.items)
shape_of names (H.Postfix e) = S.Postfixed (located_expr names e)
shape_of names (H.Other e) = S.Other (located_expr names e)

-- which calls are taken apart
abbrev pub apart_of : GApart.Apart → S.Apart
apart_of A.Never = S.Never
apart_of A.Bare = S.Bare
apart_of A.Bracketed = S.Bracketed

-- how an expression begins, and goes on
abbrev pub prefix_of : GPrefix.Prefix → R.Prefix
prefix_of (F.Sign op) = R.Sign op
prefix_of F.Size = R.Size
prefix_of F.Plain = R.Plain

abbrev pub behind_of : GBehind.Behind → R.Behind
behind_of B.Args = R.Args
behind_of B.Index = R.Index
behind_of B.Field = R.Field
behind_of B.Through = R.Through
