-- The steps of `for` in a body, which are one assignment, call or section each, as the grammar reads them.
use Rattle.cpc_tree.specs.Syntax.{Stmt, Block, Assign, Call, Detach, If, While, DoWhile, For, Label, Stmts, NoStmt, AndStmt, MaybeStmt, Absent, Present}

abbrev pub IsStep : MaybeStmt → Type 0
IsStep Absent = Unit {0}
IsStep (Present (Assign e op a)) = Unit {0}
IsStep (Present (Call to f es)) = Unit {0}
IsStep (Present (Detach to f es)) = Unit {0}
IsStep (Present s) = ⊥

abbrev mutual
  -- each step of a statement is one of these
  pub HasSteps : Stmt → Type 0
  HasSteps (Block ss) = AllHaveSteps ss
  HasSteps (If t a b) = HasSteps a × ArmHasSteps b
  HasSteps (While t s) = HasSteps s
  HasSteps (DoWhile s t) = HasSteps s
  HasSteps (For first t step s) = AllHaveSteps first × IsStep step × HasSteps s
  HasSteps (Label l s) = HasSteps s
  HasSteps s = Unit {0}

  -- those of a row of statements
  pub AllHaveSteps : Stmts → Type 0
  AllHaveSteps NoStmt = Unit {0}
  AllHaveSteps (AndStmt s ss) = HasSteps s × AllHaveSteps ss

  -- those of an arm
  pub ArmHasSteps : MaybeStmt → Type 0
  ArmHasSteps Absent = Unit {0}
  ArmHasSteps (Present s) = HasSteps s
