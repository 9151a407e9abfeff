-- What a statement is where it holds others in a Vec, a Box or an Option.
use Rattle.std.proofs.Common.{◌≡◌, refl, Vec, Global, ap, rules, Option, Some, None, Box, option_map}
use Rattle.cpc_base.specs.declared.stop.Place.{Place}
use Rattle.cpc_tree.specs.declared.program.Expr.{Expr}
use Rattle.cpc_tree.specs.declared.program.Statement.{Statement, Row_of-Statement, end_of-Statement, more_of-Statement}
use Rattle.cpc_tree.specs.declared.program.Statement.TheVariants as T
use Rattle.cpc_tree.specs.declared.program.Statement.TheBlock.{items-the_row-Statement}
use Rattle.cpc_tree.specs.declared.program.Statement.TheViews.{the_lemmas}
use Rattle.cpc_tree.specs.Located.{AndLStmt}
use Rattle.cpc_tree.specs.Erase.{Names}
use Rattle.cpc_tree.specs.Locate.{located_expr, located_stmt, located_stmts}
use Rattle.cpc_tree.specs.StmtGrammar.{stmts}
use Rattle.cpc_parser_statements.specs.StmtReaders.{block_of, if_of, for_of}
use Rattle.cpc_parser_statements.specs.CodeViews.{held, seen}

row_is : (names : Names) (n : _) (k : Row_of-Statement n) → located_stmts names k ≡ stmts (seen names (items-the_row-Statement n k))
row_is names n end_of-Statement = refl
row_is names n (more_of-Statement s rest) = ap (AndLStmt (located_stmt names s)) (row_is names _ rest)

pub block_is : (names : Names) (place : Place) (inner : Vec Statement Global) → located_stmt names (T.Block place inner) ≡ block_of place (seen names inner.items)
block_is names place inner = search (rules, the_lemmas, row_is)

pub if_is : (names : Names) (place : Place) (test : Expr) (body : Box Statement Global) (no : Option (Box Statement Global))
    → located_stmt names (T.If place test body no) ≡ if_of place (located_expr names test, (located_stmt names body.value, held names no))
if_is names place test body None = search (rules, the_lemmas)
if_is names place test body (Some b) = search (rules, the_lemmas)

pub for_is : (names : Names) (place : Place) (first : Vec Statement Global) (test : Option Expr) (step : Option (Box Statement Global)) (body : Box Statement Global)
    → located_stmt names (T.For place first test step body) ≡ for_of place (seen names first.items, (option_map (located_expr names) test, (held names step, located_stmt names body.value)))
for_is names place first test None body = search (rules, the_lemmas, row_is)
for_is names place first test (Some b) body = search (rules, the_lemmas, row_is)
