-- Where rows of statements begin.
use Rattle.std.proofs.Common.{◌≡◌, Option, Some, None, refl}
use Rattle.cpc_tree.specs.Syntax.{Stmt, Stmts, NoStmt, AndStmt}
use Rattle.cpc_tree.specs.Points.{enter}
use Rattle.cpc_tree.specs.Syntax as S
use Rattle.cpc_native_points.specs.Parts.{entered}
use Rattle.cpc_native_points.specs.declared.parts.Part.TheVariants as G

pub begun_block : (ss : Stmts) → enter (S.Block ss) ≡ entered ss None
begun_block NoStmt = refl
begun_block (AndStmt s ss) = refl

pub begun_for : (ss : Stmts) (t : Option S.Expr) (step : S.MaybeStmt) (s : Stmt) → enter (S.For ss t step s) ≡ entered ss (Some G.Test)
begun_for NoStmt t step s = refl
begun_for (AndStmt x ss) t step s = refl
