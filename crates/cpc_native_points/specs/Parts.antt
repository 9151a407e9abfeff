-- The statements in a statement, by the part that they are.
use Rattle.std.specs.Prelude.{ℕ, zero, suc, Bool, [], ◌∷◌, Option, Some, None}
use Rattle.cpc_native_points.specs.declared.parts.Part as G
use Rattle.cpc_native_points.specs.Seen.{part_of}
use Rattle.cpc_tree.specs.Syntax.{Stmt, Block, Empty, Declare, Assign, Call, Detach, Spawn, If, While, DoWhile, For, Goto, Label, Break, Continue, Stmts, NoStmt, AndStmt, MaybeStmt, Absent, Present}
use Rattle.cpc_tree.specs.Points.{Part, Nth, TheTest, TheYes, TheNo, TheStep, TheBody, Path, Move, Into, Out, ToLabel, Broken, Continued, NoMove, enter, under, or_out, loop_out, if_holds, enter_step}

-- the n-th of these
abbrev pub nth : Stmts → ℕ → MaybeStmt
nth NoStmt n = Absent
nth (AndStmt s ss) zero = Present s
nth (AndStmt s ss) (suc n) = nth ss n

-- the statement that a part is, if it is one
abbrev pub child : Stmt → Part → MaybeStmt
child (Block ss) (Nth n) = nth ss n
child (If t a b) TheYes = Present a
child (If t a b) TheNo = b
child (While t s) TheBody = Present s
child (DoWhile s t) TheBody = Present s
child (For first t step s) (Nth n) = nth first n
child (For first t step s) TheStep = step
child (For first t step s) TheBody = Present s
child (Label l s) TheBody = Present s
child _ _ = Absent

-- the same, in a statement that may be absent
abbrev pub child_in : MaybeStmt → Part → MaybeStmt
child_in Absent n = Absent
child_in (Present s) n = child s n

-- the statement at a path, if one stands there, in one that may be absent
abbrev pub statement_in : MaybeStmt → Path → MaybeStmt
statement_in o [] = o
statement_in o (n ∷ p) = statement_in (child_in o n) p

-- the statement at a path in a statement, if one stands there
abbrev pub statement_at : Stmt → Path → MaybeStmt
statement_at s p = statement_in (Present s) p

-- into a part, where it is there
abbrev pub enter_part : Part → MaybeStmt → Move
enter_part n Absent = Out
enter_part n (Present s) = Into (n ∷ enter s)

-- where control goes from a part, once it is known where it goes inside it
abbrev pub out_of : Stmt → Part → Move → Move
out_of (Block ss) (Nth n) m = or_out (under (Nth n) m) (enter_part (Nth (suc n)) (nth ss (suc n)))
out_of (If t a b) n m = under n m
out_of (While t s) n m = loop_out (under n m) (Into (TheTest ∷ []))
out_of (DoWhile s t) n m = loop_out (under n m) (Into (TheTest ∷ []))
out_of (For first t step s) (Nth n) m = or_out (or_out (under (Nth n) m) (enter_part (Nth (suc n)) (nth first (suc n)))) (Into (TheTest ∷ []))
out_of (For first t step s) TheStep m = or_out (under TheStep m) (Into (TheTest ∷ []))
out_of (For first t step s) TheBody m = loop_out (under TheBody m) (enter_step step)
out_of (Label l s) n m = under n m
out_of _ n m = NoMove

-- where control goes from a statement that no part of is taken
abbrev pub leaf : Stmt → Move
leaf (Block NoStmt) = Out
leaf Empty = Out
leaf (Declare x t start) = Out
leaf (Assign e op v) = Out
leaf (Call e f es) = Out
leaf (Detach e f es) = Out
leaf (Spawn f es) = Out
leaf (Goto l) = ToLabel l
leaf Break = Broken
leaf Continue = Continued
leaf _ = NoMove

-- where control goes from a part that is no statement: from a test that holds or not
abbrev pub tested : Stmt → Part → Bool → Move
tested (If t a b) TheTest h = if_holds h (Into (TheYes ∷ enter a)) (enter_part TheNo b)
tested (While t s) TheTest h = if_holds h (Into (TheBody ∷ enter s)) Out
tested (DoWhile s t) TheTest h = if_holds h (Into (TheBody ∷ enter s)) Out
tested (For first t step s) TheTest h = if_holds h (Into (TheBody ∷ enter s)) Out
tested _ n h = NoMove

-- the first move, or else the second
abbrev pub or_else : Move → Move → Move
or_else NoMove n = n
or_else m n = m

-- where the first of these begins, or else a part that stands in for it
abbrev pub entered : Stmts → Option G.Part → Path
entered (AndStmt s ss) o = Nth 0 ∷ enter s
entered NoStmt (Some n) = part_of n ∷ []
entered NoStmt None = []
