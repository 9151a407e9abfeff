-- What a tree with places is where a node holds others in a Vec, a Box or an Option.
use Rattle.std.proofs.Common.{◌≡◌, refl, Vec, Global, ap, rules, Option, Some, None, Box, option_map}
use Rattle.cpc_base.specs.declared.stop.Place.{Place}
use Rattle.cpc_tree.specs.declared.program.Expr.{Expr, Row_of-Expr, end_of-Expr, more_of-Expr}
use Rattle.cpc_tree.specs.declared.program.Expr.TheVariants as E
use Rattle.cpc_tree.specs.declared.program.Expr.TheBlock.{items-the_row-Expr}
use Rattle.cpc_tree.specs.declared.program.Expr.TheViews as X
use Rattle.cpc_tree.specs.declared.program.Statement.{Statement, Row_of-Statement, end_of-Statement, more_of-Statement}
use Rattle.cpc_tree.specs.declared.program.Statement.TheVariants as T
use Rattle.cpc_tree.specs.declared.program.Statement.TheBlock.{items-the_row-Statement}
use Rattle.cpc_tree.specs.declared.program.Statement.TheViews.{the_lemmas}
use Rattle.cpc_tree.specs.Located as L
use Rattle.cpc_tree.specs.Located.{AndLExpr, AndLStmt}
use Rattle.cpc_tree.specs.Erase.{Names}
use Rattle.cpc_tree.specs.Locate.{located_expr, located_row, located_exprs, located_stmt, located_stmts, located_list, located_at}

pub located_row_is : (names : Names) (n : _) (k : Row_of-Statement n) → located_stmts names k ≡ located_list names (items-the_row-Statement n k)
located_row_is names n end_of-Statement = refl
located_row_is names n (more_of-Statement s rest) = ap (AndLStmt (located_stmt names s)) (located_row_is names _ rest)

pub located_block_is : (names : Names) (place : Place) (inner : Vec Statement Global) → located_stmt names (T.Block place inner) ≡ L.Block place (located_list names inner.items)
located_block_is names place inner = search (rules, the_lemmas, located_row_is)

pub located_for_is : (names : Names) (place : Place) (first : Vec Statement Global) (test : Option Expr) (step : Option (Box Statement Global)) (body : Box Statement Global)
    → L.For place (located_list names first.items) (option_map (located_expr names) test) (located_at names step) (located_stmt names body.value) ≡ located_stmt names (T.For place first test step body)
located_for_is names place first test None body = search (rules, the_lemmas, located_row_is)
located_for_is names place first test (Some b) body = search (rules, the_lemmas, located_row_is)

pub located_if_is : (names : Names) (place : Place) (test : Expr) (body : Box Statement Global) (no : Option (Box Statement Global))
    → L.If place (located_expr names test) (located_stmt names body.value) (located_at names no) ≡ located_stmt names (T.If place test body no)
located_if_is names place test body None = search (rules, the_lemmas, located_row_is)
located_if_is names place test body (Some b) = search (rules, the_lemmas, located_row_is)

pub located_args_is : (names : Names) (n : _) (k : Row_of-Expr n) → located_row names k ≡ located_exprs names (items-the_row-Expr n k)
located_args_is names n end_of-Expr = refl
located_args_is names n (more_of-Expr e rest) = ap (AndLExpr (located_expr names e)) (located_args_is names _ rest)

pub located_call_is : (names : Names) (place : Place) (function : Box Expr Global) (arguments : Vec Expr Global)
    → located_expr names (E.CallIn place function arguments) ≡ L.LCall place (located_expr names function.value) (located_exprs names arguments.items)
located_call_is names place function arguments = search (rules, X.the_lemmas, located_args_is)
