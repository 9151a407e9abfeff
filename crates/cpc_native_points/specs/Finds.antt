-- What stands at a path, as the code has it.
use Rattle.std.specs.Prelude.{Some, option_map}
use Rattle.std.specs.Borrow.{Bor}
use Rattle.cpc_tree.specs.Syntax.{Stmt, Empty, If, While, DoWhile, For}
use Rattle.cpc_tree.specs.Erase.{Names, expr_of, stmt_of}
use Rattle.cpc_tree.specs.Points as P
use Rattle.cpc_tree.specs.Points.{Part, TheTest}
use Rattle.cpc_tree.specs.declared.program.Expr.{Expr}
use Rattle.cpc_native_points.specs.declared.control.Found.{Found}
use Rattle.cpc_native_points.specs.declared.control.Found.TheVariants as F

abbrev pub found_of : Names → Found → P.Found
found_of names (F.Simple s) = P.Simple (stmt_of names s.now)
found_of names F.Empty = P.Simple Empty
found_of names (F.Test e) = P.Test (option_map (λ (t : Bor Expr). expr_of names t.now) e)
found_of names F.Nothing = P.Nothing

-- the test that a part is, if it is one
abbrev pub test_of : Stmt → Part → P.Found
test_of (If t a b) TheTest = P.Test (Some t)
test_of (While t s) TheTest = P.Test (Some t)
test_of (DoWhile s t) TheTest = P.Test (Some t)
test_of (For first t step s) TheTest = P.Test t
test_of _ _ = P.Nothing
