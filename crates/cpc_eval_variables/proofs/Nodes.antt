-- What expressions are, by the form that the code finds.
use Rattle.std.proofs.Common.{◌≡◌, ap, ◌∙◌, Vec, Box, Global, rules}
use Rattle.cpc_base.specs.declared.stop.Place.{Place}
use Rattle.cpc_tree.specs.declared.program.UnaryOp.{UnaryOp}
use Rattle.cpc_tree.specs.declared.program.Expr as GExpr
use Rattle.cpc_tree.specs.declared.program.Expr.TheVariants as E
use Rattle.cpc_tree.specs.declared.program.Expr.TheViews as X
use Rattle.cpc_tree.specs.declared.program.Statement.TheViews.{the_lemmas}
use Rattle.cpc_tree.specs.Syntax as S
use Rattle.cpc_tree.specs.Erase.{Names, expr_of, exprs_of}
use Rattle.cpc_tree.proofs.Nodes.{call_is}

pub call_seen : (names : Names) (e : GExpr.Expr) (place : Place) (function : Box GExpr.Expr Global) (arguments : Vec GExpr.Expr Global) → e ≡ E.CallIn place function arguments
    → expr_of names e ≡ S.ECall (expr_of names function.value) (exprs_of names arguments.items)
call_seen names e place function arguments h = ap (expr_of names) h ∙ call_is names place function arguments

pub unary_seen : (names : Names) (e : GExpr.Expr) (place : Place) (op : UnaryOp) (operand : Box GExpr.Expr Global) → e ≡ E.Unary place op operand
    → expr_of names e ≡ S.EUnary op (expr_of names operand.value)
unary_seen names e place op operand h = ap (expr_of names) h ∙ search (rules, X.the_lemmas)
