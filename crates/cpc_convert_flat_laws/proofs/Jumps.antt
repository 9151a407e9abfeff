-- Tests and gotos of a flat body.
use Rattle.std.proofs.Common.{◌≡◌, ℕ, suc, true, false, List, ◌∷◌, Some, None, refl, ◌∙◌, ap, arith}
use Rattle.cpc_base.specs.Bytes.{Text}
use Rattle.cpc_tree.specs.Syntax.{Expr, Stmt, Empty, If, Goto, Absent, Stmts, AndStmt, Function, Program}
use Rattle.cpc_tree.specs.Typing.{Scope, function_named}
use Rattle.cpc_tree.specs.Points.{Nth, Point, Simple, Test, Out}
use Rattle.cpc_tree.specs.Points as P
use Rattle.cpc_store.specs.Store.{Value, Store}
use Rattle.cpc_meaning.specs.Answer.{Gives}
use Rattle.cpc_meaning.specs.Eval.{Slot, value, holds}
use Rattle.cpc_meaning.specs.Act.{AtStatement, GoesOn, simple_act}
use Rattle.cpc_meaning.specs.Plain.{Frame as CallFrame}
use Rattle.cpc_convert_flat_laws.specs.Flat.{point_at, dropped, onward, arm, label_in, LineAt}
use Rattle.cpc_convert_flat_laws.specs.Locals.{at}
use Rattle.cpc_convert_flat_laws.specs.Walks.{World, Walk, in_function, at_line}
use Rattle.cpc_convert_flat_laws.proofs.AtLine.{line_path, line_found, line_scope, line_goes, test_holds, test_fails, arm_found, arm_next, arm_goes}
use Rattle.cpc_convert_flat_laws.proofs.LineSteps.{line_step}
use Rattle.cpc_convert_flat_laws.proofs.Steps.{step_on}
use Rattle.cpc_meaning_laws.proofs.Cell.Going.{going_on_keeps}
use Rattle.cpc_convert_flat_laws.proofs.Walks.{walk_one, walk_cons}

module _ (q : Program) (w : World) (fn : Text) (g : Function) (body : Stmts) (below : List (CallFrame Point)) (is_g : function_named q fn ≡ Some g) (k : ℕ) (scope : Scope) (n : ℕ) (rest : Stmts) (slots : List Slot) (s : Store) where
  -- `;`
  pub empty_step : (l : LineAt g body k scope n Empty rest) → Walk q w.trace 1 (at_line w fn below k (AndStmt l.statement rest) slots s) (at_line w fn below (suc k) rest slots s)
  empty_step l = line_step q w fn g body below is_g k scope n rest slots s Empty l refl refl refl s slots refl

  -- `goto m;`
  pub goto_step : (m : Text) (l : LineAt g body k scope n (Goto m) rest) → (j : ℕ) → label_in m body ≡ Some j
      → Walk q w.trace 1 (at_line w fn below k (AndStmt l.statement rest) slots s) (at_line w fn below j (dropped j body) slots s)
  goto_step m l j leads =
      let x = Goto m in
      walk_one _ _
      (step_on q w fn g below is_g slots s (line_path g body k scope n x rest l) scope (line_scope g body k scope n x rest l _) (Simple x) (line_found g body k scope n x rest l) true s slots (point_at j (dropped j body)) refl (line_goes g body k scope n x rest l true m j refl refl leads))
      (record { is_trace = refl; goes = refl; runs = refl })
      (omega arith)

  module _ (t : Expr) (a : Stmt) (l : LineAt g body k scope n (If t a Absent) rest) (u : Value) (is_value : value (at q scope slots s) t ≡ Gives u) where
    -- a test that fails
    pub fails_step : holds u ≡ Gives false → Walk q w.trace 1 (at_line w fn below k (AndStmt l.statement rest) slots s) (at_line w fn below (suc k) rest slots s)
    fails_step fails =
        let x = If t a Absent in
        walk_one _ _
        (step_on q w fn g below is_g slots s (line_path g body k scope n x rest l) scope (line_scope g body k scope n x rest l _) (Test (Some t)) (line_found g body k scope n x rest l) false s slots (point_at (suc k) rest) (simp (is_value, fails) refl) (test_fails g body k scope n x rest l t a refl))
        (record { is_trace = refl; goes = refl; runs = refl })
        (omega arith)

    -- one that holds leads to the statement behind it
    holds_step : holds u ≡ Gives true → Walk q w.trace 1 (at_line w fn below k (AndStmt l.statement rest) slots s) (in_function w fn below (P.Here (Nth k ∷ arm l.statement)) slots s)
    holds_step is_true =
        let x = If t a Absent in
        walk_one _ _
        (step_on q w fn g below is_g slots s (line_path g body k scope n x rest l) scope (line_scope g body k scope n x rest l _) (Test (Some t)) (line_found g body k scope n x rest l) true s slots (P.Here (Nth k ∷ arm l.statement)) (simp (is_value, is_true) refl) (test_holds g body k scope n x rest l t a refl))
        (record { is_trace = refl; goes = refl; runs = refl })
        (omega arith)

    -- which is done
    pub then_step : holds u ≡ Gives true → onward a ≡ Out → (r : Store) (slots' : List Slot) → simple_act (at q scope slots s) g.result a ≡ Gives (GoesOn true r slots')
        → Walk q w.trace 2 (at_line w fn below k (AndStmt l.statement rest) slots s) (at_line w fn below (suc k) rest slots' r)
    then_step is_true out r slots' is_act =
        let x = If t a Absent in
        let keeps = going_on_keeps (at q scope slots s) g.result None (AtStatement (Simple a)) true r slots' is_act in
        walk_cons 1 _ _ _ (holds_step is_true)
        (walk_one _ _
        (step_on q w fn g below is_g slots s (Nth k ∷ arm l.statement) scope (line_scope g body k scope n x rest l _) (Simple a) (arm_found g body k scope n x rest l t a refl) true r slots' (point_at (suc k) rest) is_act (arm_next g body k scope n x rest l t a true refl out))
        (record { is_trace = refl; goes = refl; runs = refl })
        (let a = keeps.0 in let b = keeps.1 in omega (arith, a, b)))

    -- or is a goto
    pub jumps_step : holds u ≡ Gives true → (m : Text) → a ≡ Goto m → (j : ℕ) → label_in m body ≡ Some j
        → Walk q w.trace 2 (at_line w fn below k (AndStmt l.statement rest) slots s) (at_line w fn below j (dropped j body) slots s)
    jumps_step is_true m is_goto j leads =
        let x = If t a Absent in
        walk_cons 1 _ _ _ (holds_step is_true)
        (walk_one _ _
        (step_on q w fn g below is_g slots s (Nth k ∷ arm l.statement) scope (line_scope g body k scope n x rest l _) (Simple (Goto m)) (arm_found g body k scope n x rest l t a refl ∙ ap Simple is_goto) true s slots (point_at j (dropped j body)) refl (arm_goes g body k scope n x rest l t a true m j refl (ap onward is_goto) leads))
        (record { is_trace = refl; goes = refl; runs = refl })
        (omega arith))
