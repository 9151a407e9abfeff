-- What expressions and statements of the tree are, by the form that code finds, and rows of them one by one.
use Rattle.std.proofs.Common.{◌≡◌, ℕ, ◌+◌, ◌<◌, ◌≤◌, List, length, get_or, drop, refl, sym, ap, ◌∙◌, Vec, Box, Global, Option, Some, None, option_map, rules}
use Rattle.std.proofs.lemmas.List.{drop_all}
use Rattle.cpc_base.specs.declared.stop.Place.{Place}
use Rattle.cpc_base.proofs.Lists.{drop_to_item}
use Rattle.cpc_tree.specs.declared.program.Expr as GExpr
use Rattle.cpc_tree.specs.declared.program.Expr.{Row_of-Expr, end_of-Expr, more_of-Expr}
use Rattle.cpc_tree.specs.declared.program.Expr.TheVariants as E
use Rattle.cpc_tree.specs.declared.program.Expr.TheBlock.{items-the_row-Expr}
use Rattle.cpc_tree.specs.declared.program.Expr.TheViews as X
use Rattle.cpc_tree.specs.declared.program.Statement.{Statement}
use Rattle.cpc_tree.specs.declared.program.Statement.TheVariants as T
use Rattle.cpc_tree.specs.declared.program.Statement.TheViews.{the_lemmas}
use Rattle.cpc_tree.specs.Syntax as S
use Rattle.cpc_tree.specs.Syntax.{NoStmt, AndStmt, AndExpr}
use Rattle.cpc_tree.specs.Erase.{Names, expr_of, row_of, exprs_of, stmt_of, list_of, maybe_at}
use Rattle.cpc_tree.proofs.Clauses.{block_is, for_is}

-- ---- expressions

args_is : (names : Names) (n : _) (k : Row_of-Expr n) → row_of names k ≡ exprs_of names (items-the_row-Expr n k)
args_is names n end_of-Expr = refl
args_is names n (more_of-Expr e rest) = ap (AndExpr (expr_of names e)) (args_is names _ rest)

-- a call in an expression
pub call_is : (names : Names) (place : Place) (function : Box GExpr.Expr Global) (arguments : Vec GExpr.Expr Global)
    → expr_of names (E.CallIn place function arguments) ≡ S.ECall (expr_of names function.value) (exprs_of names arguments.items)
call_is names place function arguments = search (rules, X.the_lemmas, args_is)

-- ---- statements

pub block_seen : (names : Names) (e : Statement) (place : Place) (inner : Vec Statement Global) → e ≡ T.Block place inner → stmt_of names e ≡ S.Block (list_of names inner.items)
block_seen names e place inner h = ap (stmt_of names) h ∙ block_is names place inner

pub block_row : (names : Names) (e : Statement) (place : Place) (inner : Vec Statement Global) (row : List Statement) → e ≡ T.Block place inner → row ≡ inner.items → S.Block (list_of names row) ≡ stmt_of names e
block_row names e place inner row is rows = ap (λ r. S.Block (list_of names r)) rows ∙ sym (block_seen names e place inner is)

pub for_seen : (names : Names) (e : Statement) (place : Place) (first : Vec Statement Global) (test : Option GExpr.Expr) (step : Option (Box Statement Global)) (body : Box Statement Global) → e ≡ T.For place first test step body
    → stmt_of names e ≡ S.For (list_of names first.items) (option_map (expr_of names) test) (maybe_at names step) (stmt_of names body.value)
for_seen names e place first test step body h = ap (stmt_of names) h ∙ sym (for_is names place first test step body)

pub if_is : (names : Names) (place : Place) (test : GExpr.Expr) (a : Box Statement Global) (b : Option (Box Statement Global))
    → stmt_of names (T.If place test a b) ≡ S.If (expr_of names test) (stmt_of names a.value) (maybe_at names b)
if_is names place test a None = search (rules, the_lemmas)
if_is names place test a (Some b) = search (rules, the_lemmas)

pub if_seen : (names : Names) (e : Statement) (place : Place) (test : GExpr.Expr) (a : Box Statement Global) (b : Option (Box Statement Global)) → e ≡ T.If place test a b
    → stmt_of names e ≡ S.If (expr_of names test) (stmt_of names a.value) (maybe_at names b)
if_seen names e place test a b h = ap (stmt_of names) h ∙ if_is names place test a b

-- ---- rows

pub row_end : (names : Names) (xs : List Statement) (i : ℕ) → length xs ≤ i → list_of names (drop i xs) ≡ NoStmt
row_end names xs i h = ap (list_of names) (drop_all i xs h)

pub row_more : (names : Names) (xs : List Statement) (i : ℕ) (x : Statement) → i < length xs → x ≡ get_or xs i x
    → list_of names (drop i xs) ≡ AndStmt (stmt_of names x) (list_of names (drop (i + 1) xs))
row_more names xs i x h e = ap (list_of names) (drop_to_item xs i x h e)
