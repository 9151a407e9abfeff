-- The number to which a move leads, through the statements around it.
use Rattle.std.proofs.Common.{◌≡◌, ℕ, zero, suc, ◌+◌, Bool, false, [], ◌∷◌, length, Option, Some, None, refl, ap, arith}
use Rattle.cpc_tree.specs.Syntax.{Expr, Stmt, If, For, Stmts, NoStmt, AndStmt, MaybeStmt, Absent, Present}
use Rattle.cpc_tree.specs.Points.{Part, Nth, TheTest, TheYes, TheNo, TheStep, TheBody, Path, Move, Into, Out, ToLabel, Broken, Continued, NoMove, enter, under, later, or_out, loop_out, enter_rest, enter_arm, enter_step, after, after_all}
use Rattle.cpc_forms.specs.Order.{points_of, points_in, number, number_in}
use Rattle.cpc_forms.specs.Table.{Onward, going_to, looping, to_rest, to_arm, turn, test_of}
use Rattle.cpc_graph_laws.proofs.MoreFacts.{enter_number}
use Rattle.cpc_graph_laws.proofs.Labels.{from, row_number}

-- the number to which a move leads
abbrev pub led_to : (Path → ℕ) → Onward → Move → Option ℕ
led_to num w (Into path) = Some (num path)
led_to num w Out = w.next
led_to num w (ToLabel l) = w.label l
led_to num w Broken = w.broken
led_to num w Continued = w.continued
led_to num w NoMove = None

module _ (num num' : Path → ℕ) (w : Onward) where
  -- out of a part
  pub through_part : (part : Part) → ((path : Path) → num (part ∷ path) ≡ num' path) → (m : Move) → led_to num w (under part m) ≡ led_to num' w m
  through_part part e (Into path) = ap (λ n. Some n) (e path)
  through_part part e Out = refl
  through_part part e (ToLabel l) = refl
  through_part part e Broken = refl
  through_part part e Continued = refl
  through_part part e NoMove = refl

  -- out of the body of a loop, whose next turn begins at n
  pub through_loop : (n : ℕ) (back : Move) → led_to num w back ≡ Some n → ((path : Path) → num (TheBody ∷ path) ≡ num' path) → (m : Move) → led_to num w (loop_out (under TheBody m) back) ≡ led_to num' (looping n w) m
  through_loop n back b e (Into path) = ap (λ k. Some k) (e path)
  through_loop n back b e Out = b
  through_loop n back b e (ToLabel l) = refl
  through_loop n back b e Broken = refl
  through_loop n back b e Continued = b
  through_loop n back b e NoMove = refl

-- past the end of a part to n
pub or_else_to : (num : Path → ℕ) (w : Onward) (n : ℕ) (back : Move) → led_to num w back ≡ Some n → (m : Move) → led_to num w (or_out m back) ≡ led_to num (going_to n w) m
or_else_to num w n back b (Into path) = refl
or_else_to num w n back b Out = b
or_else_to num w n back b (ToLabel l) = refl
or_else_to num w n back b Broken = refl
or_else_to num w n back b Continued = refl
or_else_to num w n back b NoMove = refl

-- ---- rows

-- a move that leads to a row, or out of it
abbrev pub IsRowMove : Move → Type 0
IsRowMove (Into (Nth k ∷ path)) = Unit {0}
IsRowMove (Into _) = ⊥
IsRowMove _ = Unit {0}

under_row : (m : Move) → IsRowMove (under (Nth 0) m)
under_row (Into path) = tt
under_row Out = tt
under_row (ToLabel l) = tt
under_row Broken = tt
under_row Continued = tt
under_row NoMove = tt

rest_row : (ss : Stmts) → IsRowMove (enter_rest ss)
rest_row NoStmt = tt
rest_row (AndStmt s ss) = tt

or_row : (m n : Move) → IsRowMove m → IsRowMove n → IsRowMove (or_out m n)
or_row (Into path) n a b = a
or_row Out n a b = b
or_row (ToLabel l) n a b = tt
or_row Broken n a b = tt
or_row Continued n a b = tt
or_row NoMove n a b = tt

later_row : (m : Move) → IsRowMove m → IsRowMove (later m)
later_row (Into (Nth k ∷ path)) r = tt
later_row (Into []) r = absurd r
later_row (Into (TheTest ∷ path)) r = absurd r
later_row (Into (TheYes ∷ path)) r = absurd r
later_row (Into (TheNo ∷ path)) r = absurd r
later_row (Into (TheStep ∷ path)) r = absurd r
later_row (Into (TheBody ∷ path)) r = absurd r
later_row Out r = tt
later_row (ToLabel l) r = tt
later_row Broken r = tt
later_row Continued r = tt
later_row NoMove r = tt

pub after_row : (ss : Stmts) (k : ℕ) (path : Path) (h : Bool) → IsRowMove (after_all ss k path h)
after_row (AndStmt s ss) zero path h = or_row (under (Nth 0) (after s path h)) (enter_rest ss) (under_row (after s path h)) (rest_row ss)
after_row (AndStmt s ss) (suc k) path h = later_row (after_all ss k path h) (after_row ss k path h)
after_row NoStmt k path h = tt

-- one statement later
pub later_to : (s : Stmt) (ss : Stmts) (n : ℕ) (w : Onward) (m : Move) → IsRowMove m → led_to (row_number (AndStmt s ss) n) w (later m) ≡ led_to (row_number ss (n + length (points_of s))) w m
later_to s ss n w (Into (Nth k ∷ path)) r = ap (λ j. Some j) (let e : n + (length (points_of s) + number_in ss k path false) ≡ n + length (points_of s) + number_in ss k path false = omega arith in e)
later_to s ss n w (Into []) r = absurd r
later_to s ss n w (Into (TheTest ∷ path)) r = absurd r
later_to s ss n w (Into (TheYes ∷ path)) r = absurd r
later_to s ss n w (Into (TheNo ∷ path)) r = absurd r
later_to s ss n w (Into (TheStep ∷ path)) r = absurd r
later_to s ss n w (Into (TheBody ∷ path)) r = absurd r
later_to s ss n w Out r = refl
later_to s ss n w (ToLabel l) r = refl
later_to s ss n w Broken r = refl
later_to s ss n w Continued r = refl
later_to s ss n w NoMove r = refl

-- numbers that agree on a row
pub row_to : (num num' : Path → ℕ) (w : Onward) → ((k : ℕ) (path : Path) → num (Nth k ∷ path) ≡ num' (Nth k ∷ path)) → (m : Move) → IsRowMove m → led_to num w m ≡ led_to num' w m
row_to num num' w e (Into (Nth k ∷ path)) r = ap (λ j. Some j) (e k path)
row_to num num' w e (Into []) r = absurd r
row_to num num' w e (Into (TheTest ∷ path)) r = absurd r
row_to num num' w e (Into (TheYes ∷ path)) r = absurd r
row_to num num' w e (Into (TheNo ∷ path)) r = absurd r
row_to num num' w e (Into (TheStep ∷ path)) r = absurd r
row_to num num' w e (Into (TheBody ∷ path)) r = absurd r
row_to num num' w e Out r = refl
row_to num num' w e (ToLabel l) r = refl
row_to num num' w e Broken r = refl
row_to num num' w e Continued r = refl
row_to num num' w e NoMove r = refl

-- ---- single moves

-- from a statement to the rest of its row
rest_to : (s : Stmt) (ss : Stmts) (n : ℕ) (w : Onward) (m : Move) → led_to (row_number (AndStmt s ss) n) w (or_out (under (Nth 0) m) (enter_rest ss)) ≡ led_to (from s n) (to_rest ss (n + length (points_of s)) w) m
rest_to s NoStmt n w (Into path) = refl
rest_to s NoStmt n w Out = refl
rest_to s NoStmt n w (ToLabel l) = refl
rest_to s NoStmt n w Broken = refl
rest_to s NoStmt n w Continued = refl
rest_to s NoStmt n w NoMove = refl
rest_to s (AndStmt t ss) n w (Into path) = refl
rest_to s (AndStmt t ss) n w Out = ap (λ j. Some j) (let e = enter_number t in let i : n + (length (points_of s) + number t (enter t) false) ≡ n + length (points_of s) = omega arith in i)
rest_to s (AndStmt t ss) n w (ToLabel l) = refl
rest_to s (AndStmt t ss) n w Broken = refl
rest_to s (AndStmt t ss) n w Continued = refl
rest_to s (AndStmt t ss) n w NoMove = refl

-- the moves from a row
pub row_first : (s : Stmt) (ss : Stmts) (n : ℕ) (w : Onward) (path : Path) (h : Bool) → led_to (row_number (AndStmt s ss) n) w (after_all (AndStmt s ss) 0 path h) ≡ led_to (from s n) (to_rest ss (n + length (points_of s)) w) (after s path h)
row_first s ss n w path h = rest_to s ss n w (after s path h)

pub arm_to : (t : Expr) (a : Stmt) (b : MaybeStmt) (n : ℕ) (w : Onward) → led_to (from (If t a b) n) w (enter_arm b) ≡ to_arm b (n + 1 + length (points_of a)) w.next
arm_to t a Absent n w = refl
arm_to t a (Present s) n w = ap (λ j. Some j) (let e = enter_number s in let i : n + suc (length (points_of a) + number s (enter s) false) ≡ n + 1 + length (points_of a) = omega arith in i)

pub step_to : (first : Stmts) (t : Option Expr) (step : MaybeStmt) (s : Stmt) (n : ℕ) (w : Onward) → led_to (from (For first t step s) n) w (enter_step step) ≡ Some (turn step (test_of first n))
step_to first t Absent s n w = refl
step_to first t (Present u) s n w = ap (λ j. Some j) (let e = enter_number u in let i : n + (length (points_in first) + suc (number u (enter u) false)) ≡ n + length (points_in first) + 1 = omega arith in i)
