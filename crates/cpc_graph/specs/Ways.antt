-- Where control goes on from each point of a statement, whatever stands there: to these numbers, as a test holds or not.
use Rattle.std.specs.Prelude.{ℕ, ◌+◌, List, [], ◌∷◌, ◌++◌, length, Option, Some, None}
use Rattle.cpc_base.specs.Bytes.{Text}
use Rattle.cpc_tree.specs.Syntax.{Stmt, Block, Call, Detach, If, While, DoWhile, For, Goto, Label, Break, Continue, Return, Stmts, NoStmt, AndStmt, MaybeStmt, Absent, Present}
use Rattle.cpc_forms.specs.Order.{points_of}
use Rattle.cpc_forms.specs.Table as T
use Rattle.cpc_forms.specs.Table.{going_to, looping, to_rest, to_arm, turn, test_of, body_of}
use Rattle.cpc_graph.specs.declared.onward.Way.{Way}
use Rattle.cpc_graph.specs.declared.onward.Onward.{Onward}

-- the ways to these numbers
abbrev pub way : (yes no : Option ℕ) → Way
way y n = record { yes = y; no = n }

-- where control goes on, and to its labels
abbrev pub onward_seen : (Text → Option ℕ) → Onward → T.Onward
onward_seen label w = record { next = w.next; broken = w.broken; continued = w.continued; label = label }

-- the way from a statement that is one point
abbrev pub one_way : Stmt → T.Onward → Way
one_way (Goto l) w = way (w.label l) (w.label l)
one_way Break w = way w.broken w.broken
one_way Continue w = way w.continued w.continued
one_way (Return v) w = way None None
one_way s w = way w.next w.next

abbrev mutual
  -- the ways from the points of a statement whose first one has the number n
  pub ways_of : Stmt → (n : ℕ) → T.Onward → List Way
  ways_of (Block NoStmt) n w = way w.next w.next ∷ []
  ways_of (Block (AndStmt s ss)) n w = ways_in (AndStmt s ss) n w
  ways_of (Call to f es) n w = way w.next w.next ∷ way w.next w.next ∷ []
  ways_of (Detach to f es) n w = way w.next w.next ∷ way w.next w.next ∷ []
  ways_of (If t a b) n w =
      way (Some (n + 1)) (to_arm b (n + 1 + length (points_of a)) w.next) ∷ (ways_of a (n + 1) w ++ ways_arm b (n + 1 + length (points_of a)) w)
  ways_of (While t s) n w = way (Some (n + 1)) w.next ∷ ways_of s (n + 1) (looping n w)
  ways_of (DoWhile s t) n w = ways_of s n (looping (n + length (points_of s)) w) ++ (way (Some n) w.next ∷ [])
  ways_of (For first t step s) n w =
      ways_in first n (going_to (test_of first n) w)
      ++ (way (Some (body_of step (test_of first n))) w.next
      ∷ (ways_arm step (test_of first n + 1) (going_to (test_of first n) w)
      ++ ways_of s (body_of step (test_of first n)) (looping (turn step (test_of first n)) w)))
  ways_of (Label l s) n w = ways_of s n w
  ways_of s n w = one_way s w ∷ []

  -- those of a row of statements
  pub ways_in : Stmts → (n : ℕ) → T.Onward → List Way
  ways_in NoStmt n w = []
  ways_in (AndStmt s ss) n w = ways_of s n (to_rest ss (n + length (points_of s)) w) ++ ways_in ss (n + length (points_of s)) w

  -- those of an arm or a step
  pub ways_arm : MaybeStmt → (n : ℕ) → T.Onward → List Way
  ways_arm Absent n w = []
  ways_arm (Present s) n w = ways_of s n w

-- those of the first part of a `for` and of its test, where the body begins at this number
abbrev pub header_ways : Stmts → (n start : ℕ) → T.Onward → List Way
header_ways first n start w = ways_in first n (going_to (test_of first n) w) ++ (way (Some start) w.next ∷ [])
