-- What it is for control to stay in a body: labels are there, and `break` and `continue` stand in loops.
use Rattle.std.specs.Prelude.{◌≡◌, Bool, true, false, Option, Some}
use Rattle.cpc_base.specs.Bytes.{Text}
use Rattle.cpc_tree.specs.Syntax.{Stmt, Block, If, While, DoWhile, For, Goto, Label, Break, Continue, Return, Stmts, NoStmt, AndStmt, MaybeStmt, Absent, Present}
use Rattle.cpc_tree.specs.Points.{Path, Point, Here, Arrival, End, Found, Simple, Nothing, found, labelled}

abbrev mutual
  -- each label that control goes to is one of these, and breaks stand in a loop, or one is around
  pub Controlled : (Text → Type 0) → (in_loop : Bool) → Stmt → Type 0
  Controlled labels in_loop (Block ss) = AllControlled labels in_loop ss
  Controlled labels in_loop (If t a b) = Controlled labels in_loop a × ArmControlled labels in_loop b
  Controlled labels in_loop (While t s) = Controlled labels true s
  Controlled labels in_loop (DoWhile s t) = Controlled labels true s
  Controlled labels in_loop (For first t step s) = AllControlled labels in_loop first × ArmControlled labels in_loop step × Controlled labels true s
  Controlled labels in_loop (Goto l) = labels l
  Controlled labels in_loop (Label l s) = Controlled labels in_loop s
  Controlled labels in_loop Break = in_loop ≡ true
  Controlled labels in_loop Continue = in_loop ≡ true
  Controlled labels in_loop s = Unit {0}

  -- statements in a row
  pub AllControlled : (Text → Type 0) → (in_loop : Bool) → Stmts → Type 0
  AllControlled labels in_loop NoStmt = Unit {0}
  AllControlled labels in_loop (AndStmt s ss) = Controlled labels in_loop s × AllControlled labels in_loop ss

  -- an arm or a step that may be absent
  pub ArmControlled : (Text → Type 0) → (in_loop : Bool) → MaybeStmt → Type 0
  ArmControlled labels in_loop Absent = Unit {0}
  ArmControlled labels in_loop (Present s) = Controlled labels in_loop s

-- a label of a body
abbrev pub IsLabel : Stmt → Text → Type 0
IsLabel body l = (p : Path) × (labelled l body ≡ Some p)

-- control stays in a body
abbrev pub StaysIn : Stmt → Type 0
StaysIn body = Controlled (IsLabel body) false body

-- something stands there
abbrev pub Stands : Found → Type 0
Stands Nothing = ⊥
Stands _ = Unit {0}

-- something stands there from which control goes on
abbrev pub GoesOnward : Found → Type 0
GoesOnward Nothing = ⊥
GoesOnward (Simple (Return v)) = ⊥
GoesOnward _ = Unit {0}

-- a point of a body to which control comes: a statement or a test, or the end
abbrev pub IsPoint : Stmt → Point → Type 0
IsPoint body (Here p) = Stands (found body p)
IsPoint body (Arrival p) = ⊥
IsPoint body End = Unit {0}

-- there is such a next point
abbrev pub HasNext : Stmt → Option Point → Type 0
HasNext body o = (point : Point) × (o ≡ Some point) × IsPoint body point
