-- How deep the points of a statement stand.
use Rattle.std.specs.Prelude.{ℕ, suc, max, [], ◌∷◌}
pub use Rattle.cpc_base.specs.Counts.{capped}
use Rattle.cpc_tree.specs.Erase.{Names, stmt_of}
use Rattle.cpc_tree.specs.Syntax.{Stmt, Block, If, While, DoWhile, For, Label, Stmts, NoStmt, AndStmt, MaybeStmt, Absent, Present}
use Rattle.cpc_tree.specs.declared.program.Statement.{Statement}

abbrev mutual
  -- the most parts that the path of a point of a statement has
  pub depth : Stmt → ℕ
  depth (Block ss) = depth_row ss
  depth (If t a b) = suc (max (depth a) (depth_arm b))
  depth (While t s) = suc (depth s)
  depth (DoWhile s t) = suc (depth s)
  depth (For first t step s) = max (depth_row first) (suc (max (depth_arm step) (depth s)))
  depth (Label l s) = suc (depth s)
  depth _ = 0

  -- of a path that begins with one of these
  pub depth_row : Stmts → ℕ
  depth_row NoStmt = 0
  depth_row (AndStmt s ss) = max (suc (depth s)) (depth_row ss)

  -- of a path in an arm or a step that may be absent
  pub depth_arm : MaybeStmt → ℕ
  depth_arm Absent = 0
  depth_arm (Present s) = depth s

-- each name has its number as its text
abbrev pub numbers : Names
numbers x = x.0 ∷ []

-- the depth of a statement of the code; how its names are spelled plays no part in it
abbrev pub deep : Statement → ℕ
deep s = depth (stmt_of numbers s)
