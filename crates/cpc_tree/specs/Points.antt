-- Points of a body: what stands at one, and where control goes from it.
use Rattle.std.specs.Prelude.{length, ℕ, zero, suc, ◌+◌, Bool, true, false, List, [], ◌∷◌, ◌++◌, Option, Some, None, bytes_eq, if◌then◌else◌}
use Rattle.cpc_base.specs.Bytes.{Text}
use Rattle.cpc_tree.specs.Syntax.{Expr, Stmt, Block, Empty, Declare, Assign, Call, Detach, Spawn, If, While, DoWhile, For, Goto, Label, Break, Continue, Return, Stmts, NoStmt, AndStmt, MaybeStmt, Absent, Present, Variable}
use Rattle.cpc_tree.specs.Typing.{Scope}

-- a part of a statement: the n-th one of a block or of the first part of a `for`, a test, an arm, a step, or what a loop or a label is put before
pub data Part : Type 0 where
  Nth : ℕ → Part
  TheTest : Part
  TheYes : Part
  TheNo : Part
  TheStep : Part
  TheBody : Part

-- which part to take at each level
abbrev pub Path : Type 0
Path = List Part

-- a simple statement or a test, the arrival of the value of a call at a statement, or the end of the body
pub data Point : Type 0 where
  Here : Path → Point
  Arrival : Path → Point
  End : Point

-- what stands at a path
pub data Found : Type 0 where
  Simple : Stmt → Found
  Test : Option Expr → Found
  Nothing : Found

abbrev mutual
  -- the first simple statement or test
  pub enter : Stmt → Path
  enter (Block ss) = enter_all ss
  enter (If t a b) = TheTest ∷ []
  enter (While t s) = TheTest ∷ []
  enter (DoWhile s t) = TheBody ∷ enter s
  enter (For NoStmt t step s) = TheTest ∷ []
  enter (For (AndStmt s ss) t step body) = Nth 0 ∷ enter s
  enter (Label l s) = TheBody ∷ enter s
  enter _ = []

  -- a block without statements is itself the point
  pub enter_all : Stmts → Path
  enter_all NoStmt = []
  enter_all (AndStmt s ss) = Nth 0 ∷ enter s

-- where control goes inside a statement: to a path in it, out at its end, or elsewhere
pub data Move : Type 0 where
  Into : Path → Move
  Out : Move
  ToLabel : Text → Move
  Broken : Move
  Continued : Move
  NoMove : Move

-- a move into a part
abbrev pub under : Part → Move → Move
under n (Into p) = Into (n ∷ p)
under n m = m

-- the same move, where one more statement stands before
abbrev pub later : Move → Move
later (Into (Nth n ∷ p)) = Into (Nth (suc n) ∷ p)
later m = m

-- where control goes when it comes out
abbrev pub or_out : Move → Move → Move
or_out Out next = next
or_out m next = m

-- out of the body of a loop
abbrev pub loop_out : Move → (next : Move) → Move
loop_out Out next = next
loop_out Continued next = next
loop_out Broken next = Out
loop_out m next = m

-- one of two moves, by a test
abbrev pub if_holds : Bool → Move → Move → Move
if_holds true a b = a
if_holds false a b = b

-- to the statement after the first
abbrev pub enter_rest : Stmts → Move
enter_rest NoStmt = Out
enter_rest (AndStmt s ss) = Into (Nth 1 ∷ enter s)

-- to the other arm of an `if`, or past it
abbrev pub enter_arm : MaybeStmt → Move
enter_arm Absent = Out
enter_arm (Present s) = Into (TheNo ∷ enter s)

-- to the step of a `for`, or else to its test
abbrev pub enter_step : MaybeStmt → Move
enter_step Absent = Into (TheTest ∷ [])
enter_step (Present s) = Into (TheStep ∷ enter s)

abbrev mutual
  -- where control goes from the point at a path, when a test there holds or not
  pub after : Stmt → Path → Bool → Move
  after (Block NoStmt) p h = Out
  after (Block (AndStmt s ss)) (Nth k ∷ p) h = after_all (AndStmt s ss) k p h
  after (Block (AndStmt s ss)) _ h = NoMove
  after Empty p h = Out
  after (Declare x t start) p h = Out
  after (Assign e op v) p h = Out
  after (Call e f es) p h = Out
  after (Detach e f es) p h = Out
  after (Spawn f es) p h = Out
  after (If t a b) (TheTest ∷ p) h = if_holds h (Into (TheYes ∷ enter a)) (enter_arm b)
  after (If t a b) (TheYes ∷ p) h = under TheYes (after a p h)
  after (If t a b) (TheNo ∷ p) h = under TheNo (after_arm b p h)
  after (If t a b) _ h = NoMove
  after (While t s) (TheTest ∷ p) h = if_holds h (Into (TheBody ∷ enter s)) Out
  after (While t s) (TheBody ∷ p) h = loop_out (under TheBody (after s p h)) (Into (TheTest ∷ []))
  after (While t s) _ h = NoMove
  after (DoWhile s t) (TheBody ∷ p) h = loop_out (under TheBody (after s p h)) (Into (TheTest ∷ []))
  after (DoWhile s t) (TheTest ∷ p) h = if_holds h (Into (TheBody ∷ enter s)) Out
  after (DoWhile s t) _ h = NoMove
  after (For first t step s) (Nth k ∷ p) h = or_out (after_all first k p h) (Into (TheTest ∷ []))
  after (For first t step s) (TheTest ∷ p) h = if_holds h (Into (TheBody ∷ enter s)) Out
  after (For first t step s) (TheStep ∷ p) h = or_out (under TheStep (after_arm step p h)) (Into (TheTest ∷ []))
  after (For first t step s) (TheBody ∷ p) h = loop_out (under TheBody (after s p h)) (enter_step step)
  after (For first t step s) _ h = NoMove
  after (Goto l) p h = ToLabel l
  after (Label l s) (TheBody ∷ p) h = under TheBody (after s p h)
  after (Label l s) _ h = NoMove
  after Break p h = Broken
  after Continue p h = Continued
  after (Return v) p h = NoMove

  -- from a path in the n-th one of these
  pub after_all : Stmts → ℕ → Path → Bool → Move
  after_all (AndStmt s ss) zero p h = or_out (under (Nth 0) (after s p h)) (enter_rest ss)
  after_all (AndStmt s ss) (suc n) p h = later (after_all ss n p h)
  after_all NoStmt n p h = NoMove

  -- from a path in an arm or a step that may be absent
  pub after_arm : MaybeStmt → Path → Bool → Move
  after_arm Absent p h = NoMove
  after_arm (Present s) p h = after s p h

-- ---- what stands at a path

abbrev mutual
  -- what stands at a path
  pub found : Stmt → Path → Found
  found (Block NoStmt) [] = Simple Empty
  found (Block (AndStmt s ss)) (Nth n ∷ p) = found_in (AndStmt s ss) n p
  found (If t a b) (TheTest ∷ []) = Test (Some t)
  found (If t a b) (TheYes ∷ p) = found a p
  found (If t a b) (TheNo ∷ p) = found_arm b p
  found (While t s) (TheTest ∷ []) = Test (Some t)
  found (While t s) (TheBody ∷ p) = found s p
  found (DoWhile s t) (TheBody ∷ p) = found s p
  found (DoWhile s t) (TheTest ∷ []) = Test (Some t)
  found (For first t step s) (Nth n ∷ p) = found_in first n p
  found (For first t step s) (TheTest ∷ []) = Test t
  found (For first t step s) (TheStep ∷ p) = found_arm step p
  found (For first t step s) (TheBody ∷ p) = found s p
  found (Label l s) (TheBody ∷ p) = found s p
  found Empty [] = Simple Empty
  found (Declare x t start) [] = Simple (Declare x t start)
  found (Assign e op v) [] = Simple (Assign e op v)
  found (Call e f es) [] = Simple (Call e f es)
  found (Detach e f es) [] = Simple (Detach e f es)
  found (Spawn f es) [] = Simple (Spawn f es)
  found (Goto l) [] = Simple (Goto l)
  found Break [] = Simple Break
  found Continue [] = Simple Continue
  found (Return v) [] = Simple (Return v)
  found _ _ = Nothing

  -- what stands at a path in the n-th one of these
  pub found_in : Stmts → ℕ → Path → Found
  found_in (AndStmt s ss) zero p = found s p
  found_in (AndStmt s ss) (suc n) p = found_in ss n p
  found_in NoStmt n p = Nothing

  -- what stands at a path in an arm or a step
  pub found_arm : MaybeStmt → Path → Found
  found_arm Absent p = Nothing
  found_arm (Present s) p = found s p

-- ---- labels

-- a path in a part
abbrev pub path_under : Part → Option Path → Option Path
path_under n None = None
path_under n (Some p) = Some (n ∷ p)

-- the same path, where one more statement stands before
abbrev pub path_later : Option Path → Option Path
path_later (Some (Nth n ∷ p)) = Some (Nth (suc n) ∷ p)
path_later o = o

-- the first path, or else the second
abbrev pub or_else : Option Path → Option Path → Option Path
or_else None o = o
or_else (Some p) o = Some p

abbrev mutual
  -- where a goto of the label leads
  pub labelled : Text → Stmt → Option Path
  labelled l (Block ss) = labelled_in l ss
  labelled l (If t a b) = or_else (path_under TheYes (labelled l a)) (path_under TheNo (labelled_arm l b))
  labelled l (While t s) = path_under TheBody (labelled l s)
  labelled l (DoWhile s t) = path_under TheBody (labelled l s)
  labelled l (For first t step s) = path_under TheBody (labelled l s)
  labelled l (Label m s) = if bytes_eq m l then Some (TheBody ∷ enter s) else path_under TheBody (labelled l s)
  labelled l _ = None

  -- the path of the label in these
  pub labelled_in : Text → Stmts → Option Path
  labelled_in l NoStmt = None
  labelled_in l (AndStmt s ss) = or_else (path_under (Nth 0) (labelled l s)) (path_later (labelled_in l ss))

  -- the path of the label in an arm
  pub labelled_arm : Text → MaybeStmt → Option Path
  labelled_arm l Absent = None
  labelled_arm l (Present s) = labelled l s

-- ---- control in a body

-- where a body begins
abbrev pub begin : Stmt → Point
begin body = Here (enter body)

-- the point of a label
abbrev pub at_label : Option Path → Option Point
at_label None = None
at_label (Some p) = Some (Here p)

-- the point to which a move in a body leads
abbrev pub arrived : Stmt → Move → Option Point
arrived body (Into p) = Some (Here p)
arrived body Out = Some End
arrived body (ToLabel l) = at_label (labelled l body)
arrived body _ = None

-- the point to which control goes; of an arrival it is that of its statement
abbrev pub next_point : Stmt → Point → Bool → Option Point
next_point body (Here p) h = arrived body (after body p h)
next_point body (Arrival p) h = arrived body (after body p h)
next_point body End h = None

-- ---- scopes

-- the variables that a statement declares, in the order of the text
abbrev mutual
  pub locals : Stmt → List Variable
  locals (Block ss) = locals_in ss
  locals (Declare x t start) = record { called = x; type = t } ∷ []
  locals (If t a b) = locals a ++ locals_arm b
  locals (While t s) = locals s
  locals (DoWhile s t) = locals s
  locals (For first t step s) = locals_in first ++ locals s
  locals (Label l s) = locals s
  locals _ = []

  -- those of a row of statements
  pub locals_in : Stmts → List Variable
  locals_in NoStmt = []
  locals_in (AndStmt s ss) = locals s ++ locals_in ss

  -- those of an arm
  pub locals_arm : MaybeStmt → List Variable
  locals_arm Absent = []
  locals_arm (Present s) = locals s

-- how many variables a statement declares
abbrev pub declared : Stmt → ℕ
declared s = length (locals s)

-- the scope after a statement of a block, where it declares the n-th variable
abbrev pub extended : Scope → ℕ → Stmt → Scope
extended scope n (Declare x t start) = record { called = x; type = t; slot = n } ∷ scope
extended scope n _ = scope

-- the scope after these statements of a block
abbrev pub extended_all : Scope → ℕ → Stmts → Scope
extended_all scope n NoStmt = scope
extended_all scope n (AndStmt s ss) = extended_all (extended scope n s) (n + declared s) ss

abbrev mutual
  -- the scope at a path, where n variables come before the statement
  pub scope_at : Scope → ℕ → Stmt → Path → Scope
  scope_at scope n (Block ss) (Nth k ∷ p) = scope_in scope n ss k p
  scope_at scope n (If t a b) (TheYes ∷ p) = scope_at scope n a p
  scope_at scope n (If t a b) (TheNo ∷ p) = scope_arm scope (n + declared a) b p
  scope_at scope n (While t s) (TheBody ∷ p) = scope_at scope n s p
  scope_at scope n (DoWhile s t) (TheBody ∷ p) = scope_at scope n s p
  scope_at scope n (For first t step s) (Nth k ∷ p) = scope_in scope n first k p
  scope_at scope n (For first t step s) (TheTest ∷ p) = extended_all scope n first
  scope_at scope n (For first t step s) (TheStep ∷ p) = extended_all scope n first
  scope_at scope n (For first t step s) (TheBody ∷ p) = scope_at (extended_all scope n first) (n + length (locals_in first)) s p
  scope_at scope n (Label l s) (TheBody ∷ p) = scope_at scope n s p
  scope_at scope n (Declare x t start) p = extended scope n (Declare x t start)
  scope_at scope n _ _ = scope

  -- the scope at a path in the k-th one of these
  pub scope_in : Scope → ℕ → Stmts → ℕ → Path → Scope
  scope_in scope n (AndStmt s ss) zero p = scope_at scope n s p
  scope_in scope n (AndStmt s ss) (suc k) p = scope_in (extended scope n s) (n + declared s) ss k p
  scope_in scope n NoStmt k p = scope

  -- the scope at a path in an arm
  pub scope_arm : Scope → ℕ → MaybeStmt → Path → Scope
  scope_arm scope n Absent p = scope
  scope_arm scope n (Present s) p = scope_at scope n s p
