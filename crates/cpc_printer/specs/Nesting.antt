-- How deep the parts of statements nest in the plain style.
use Rattle.std.specs.Prelude.{ℕ, ◌+◌, false, max, Option, Some, None}
use Rattle.cpc_tree.specs.Syntax.{Expr, Stmt, Block, Empty, Spawn, If, While, DoWhile, For, Goto, Label, Break, Continue, Return, MaybeStmt, Absent, Present}
use Rattle.cpc_tree.specs.ExprGrammar.{Unary, Whole}
use Rattle.cpc_tree.specs.ExprPrint.{expr_depth, args_depth}
use Rattle.cpc_tree.specs.StmtPrint.{stmt_depth, block_depth, simple_depth, first_depth, step_depth, maybe_depth}

-- how deep the place that a value goes to nests
abbrev pub place_depth : Option Expr → ℕ
place_depth None = 0
place_depth (Some u) = expr_depth false Unary u

-- how deep a statement with no other in it nests
abbrev pub jump_depth : Stmt → ℕ
jump_depth Empty = 1
jump_depth (Spawn x vs) = args_depth false vs + 1
jump_depth (Goto x) = 1
jump_depth Break = 1
jump_depth Continue = 1
jump_depth (Return o) = maybe_depth false o + 1
jump_depth s = simple_depth false s

-- how deep these nest, and loops with one part and statements behind a label
abbrev pub nested_depth : Stmt → ℕ
nested_depth (While c s) = max (expr_depth false Whole c) (stmt_depth false s) + 1
nested_depth (DoWhile s c) = max (expr_depth false Whole c) (stmt_depth false s) + 1
nested_depth (Label x s) = stmt_depth false s + 1
nested_depth s = jump_depth s

-- how deep what stands behind else nests
abbrev pub else_depth : MaybeStmt → ℕ
else_depth Absent = 0
else_depth (Present s) = stmt_depth false s

-- how deep a statement nests
abbrev pub stmt_nest : Stmt → ℕ
stmt_nest (Block ss) = block_depth false ss + 1
stmt_nest (If c s m) = max (max (expr_depth false Whole c) (stmt_depth false s)) (else_depth m) + 1
stmt_nest (For ss o p s) = max (max (first_depth false ss) (max (maybe_depth false o) (step_depth false p))) (stmt_depth false s) + 1
stmt_nest s = nested_depth s
