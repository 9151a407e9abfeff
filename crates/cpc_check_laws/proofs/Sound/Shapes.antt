-- The shapes of statements that the grammar has: the first part and the step of a `for` are simple statements.
use Rattle.cpc_tree.specs.Located.{LStmt, Block, Declare, Assign, Call, Detach, If, While, DoWhile, For, Label, LStmts, NoLStmt, AndLStmt, MaybeLStmt, NoneLStmt, SomeLStmt}

-- an assignment, a call or a section
abbrev pub IsStep : LStmt → Type 0
IsStep (Assign q o v op e) = Unit {0}
IsStep (Call q o to f es) = Unit {0}
IsStep (Detach q o k to f es) = Unit {0}
IsStep s = ⊥

-- one of these, or a declaration
abbrev pub IsFirst : LStmt → Type 0
IsFirst (Declare q x t start) = Unit {0}
IsFirst (Assign q o v op e) = Unit {0}
IsFirst (Call q o to f es) = Unit {0}
IsFirst (Detach q o k to f es) = Unit {0}
IsFirst s = ⊥

abbrev pub AllFirst : LStmts → Type 0
AllFirst NoLStmt = Unit {0}
AllFirst (AndLStmt s ss) = IsFirst s × AllFirst ss

abbrev pub StepWritten : MaybeLStmt → Type 0
StepWritten NoneLStmt = Unit {0}
StepWritten (SomeLStmt s) = IsStep s

abbrev mutual
  pub Written : LStmt → Type 0
  Written (Block q ss) = AllWritten ss
  Written (If q c s r) = Written s × MaybeWritten r
  Written (While q c s) = Written s
  Written (DoWhile q s c) = Written s
  Written (For q ss c r s) = AllFirst ss × StepWritten r × Written s
  Written (Label x s) = Written s
  Written s = Unit {0}

  pub AllWritten : LStmts → Type 0
  AllWritten NoLStmt = Unit {0}
  AllWritten (AndLStmt s ss) = Written s × AllWritten ss

  pub MaybeWritten : MaybeLStmt → Type 0
  MaybeWritten NoneLStmt = Unit {0}
  MaybeWritten (SomeLStmt s) = Written s

pub first_written : (s : LStmt) → IsFirst s → Written s
first_written (Declare q x t start) h = tt
first_written (Assign q o v op e) h = tt
first_written (Call q o to f es) h = tt
first_written (Detach q o k to f es) h = tt
first_written _ h = absurd h

pub all_first_written : (ss : LStmts) → AllFirst ss → AllWritten ss
all_first_written NoLStmt h = tt
all_first_written (AndLStmt s ss) h = (first_written s h.0, all_first_written ss h.1)

pub step_first : (s : LStmt) → IsStep s → IsFirst s
step_first (Assign q o v op e) h = tt
step_first (Call q o to f es) h = tt
step_first (Detach q o k to f es) h = tt
step_first _ h = absurd h
