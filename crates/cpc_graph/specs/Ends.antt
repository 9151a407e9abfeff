-- The numbers behind the statements of a statement whose first node has a number, of each before those of the statements in it.
use Rattle.std.specs.Prelude.{ℕ, ◌+◌, List, [], ◌∷◌, ◌++◌, length}
use Rattle.cpc_tree.specs.Syntax.{Stmt, Block, If, While, DoWhile, For, Label, Stmts, NoStmt, AndStmt, MaybeStmt, Absent, Present}
use Rattle.cpc_forms.specs.Order.{points_of}
use Rattle.cpc_forms.specs.Table.{test_of, body_of}

abbrev mutual
  -- those that are noted of a statement: where the other arm of an `if` begins, the test of a `do`, the test and the body of a `for`
  pub ends_of : Stmt → (n : ℕ) → List ℕ
  ends_of (Block ss) n = ends_in ss n
  ends_of (If t a b) n = (n + 1 + length (points_of a)) ∷ (ends_of a (n + 1) ++ ends_arm b (n + 1 + length (points_of a)))
  ends_of (While t s) n = ends_of s (n + 1)
  ends_of (DoWhile s t) n = (n + length (points_of s)) ∷ ends_of s n
  ends_of (For first t step s) n =
      test_of first n ∷ (ends_in first n ++ (body_of step (test_of first n) ∷ (ends_arm step (test_of first n + 1) ++ ends_of s (body_of step (test_of first n)))))
  ends_of (Label l s) n = ends_of s n
  ends_of _ n = []

  -- those of a row of statements, each of which is noted
  pub ends_in : Stmts → (n : ℕ) → List ℕ
  ends_in NoStmt n = []
  ends_in (AndStmt s ss) n = (n + length (points_of s)) ∷ (ends_of s n ++ ends_in ss (n + length (points_of s)))

  -- those of an arm or a step
  pub ends_arm : MaybeStmt → (n : ℕ) → List ℕ
  ends_arm Absent n = []
  ends_arm (Present s) n = ends_of s n

-- those of the first part of a `for`
abbrev pub header_ends : Stmts → (n : ℕ) → List ℕ
header_ends first n = test_of first n ∷ ends_in first n

-- those of its step, where the test has this number
abbrev pub step_ends : MaybeStmt → (test : ℕ) → List ℕ
step_ends step test = body_of step test ∷ ends_arm step (test + 1)
