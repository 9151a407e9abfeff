-- What erasure gives at a statement that holds others in a Vec or an Option.
use Rattle.std.proofs.Common.{◌≡◌, refl, Vec, Global, ap, rules, Option, Some, None, Box, option_map}
use Rattle.cpc_base.specs.declared.stop.Place.{Place}
use Rattle.cpc_tree.specs.declared.program.Statement.{Statement, Row_of-Statement, end_of-Statement, more_of-Statement}
use Rattle.cpc_tree.specs.declared.program.Statement.TheVariants as T
use Rattle.cpc_tree.specs.declared.program.Statement.TheBlock.{items-the_row-Statement}
use Rattle.cpc_tree.specs.declared.program.Statement.TheViews.{the_lemmas}
use Rattle.cpc_tree.specs.Syntax as S
use Rattle.cpc_tree.specs.Erase.{Names, expr_of, stmt_of, stmts_of, list_of, maybe_at}
use Rattle.cpc_tree.specs.declared.program.Expr as GExpr

pub row_is : (names : Names) (n : _) (k : Row_of-Statement n) → stmts_of names k ≡ list_of names (items-the_row-Statement n k)
row_is names n end_of-Statement = refl
row_is names n (more_of-Statement s rest) = ap (S.AndStmt (stmt_of names s)) (row_is names _ rest)

pub block_is : (names : Names) (place : Place) (inner : Vec Statement Global) → stmt_of names (T.Block place inner) ≡ S.Block (list_of names inner.items)
block_is names place inner = search (rules, the_lemmas, row_is)

pub for_is : (names : Names) (place : Place) (first : Vec Statement Global) (test : Option GExpr.Expr) (step : Option (Box Statement Global)) (body : Box Statement Global)
    → S.For (list_of names first.items) (option_map (expr_of names) test) (maybe_at names step) (stmt_of names body.value) ≡ stmt_of names (T.For place first test step body)
for_is names place first test None body = search (rules, the_lemmas, row_is)
for_is names place first test (Some b) body = search (rules, the_lemmas, row_is)
