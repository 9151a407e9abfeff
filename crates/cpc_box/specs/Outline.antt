-- The boxed points of a body, by recursion over its statements with the scope handed down. In the step of a `for` the scope is fixed:
-- it is the same at all points.
use Rattle.std.specs.Prelude.{ℕ, ◌+◌, Bool, true, false, List, [], ◌∷◌, ◌++◌, length, Some}
use Rattle.cpc_tree.specs.Syntax.{Stmt, Block, Empty, Declare, Call, Detach, If, While, DoWhile, For, Label, Stmts, NoStmt, AndStmt, MaybeStmt, Absent, Present, Variable, Program}
use Rattle.cpc_tree.specs.Typing.{Local, Scope}
use Rattle.cpc_tree.specs.Points.{Found, Simple, Test}
use Rattle.cpc_meaning.specs.Act.{AtStatement, AtArrival, AtEnd}
use Rattle.cpc_meaning.specs.Ways.{InPlace, manner_of}
use Rattle.cpc_forms_code.specs.Points.{BoxedPoint}

-- ---- variables

abbrev pub variable_if : (fixed : Bool) → Variable → List Variable
variable_if true x = []
variable_if false x = x ∷ []

abbrev pub local_if : (fixed : Bool) → Local → Scope → Scope
local_if true l scope = scope
local_if false l scope = l ∷ scope

abbrev mutual
  -- the variables that a statement declares, none where the scope is fixed
  pub declares : (fixed : Bool) → Stmt → List Variable
  declares fixed (Block ss) = declares_in fixed ss
  declares fixed (Declare x t start) = variable_if fixed (record { called = x; type = t })
  declares fixed (If t a b) = declares fixed a ++ declares_arm fixed b
  declares fixed (While t s) = declares fixed s
  declares fixed (DoWhile s t) = declares fixed s
  declares fixed (For first t step s) = declares_in fixed first ++ declares fixed s
  declares fixed (Label l s) = declares fixed s
  declares fixed _ = []

  -- those of a row of statements
  pub declares_in : (fixed : Bool) → Stmts → List Variable
  declares_in fixed NoStmt = []
  declares_in fixed (AndStmt s ss) = declares fixed s ++ declares_in fixed ss

  -- those of an arm
  pub declares_arm : (fixed : Bool) → MaybeStmt → List Variable
  declares_arm fixed Absent = []
  declares_arm fixed (Present s) = declares fixed s

-- the scope behind a statement of a block
abbrev pub behind : (fixed : Bool) → Scope → ℕ → Stmt → Scope
behind fixed scope n (Declare x t start) = local_if fixed (record { called = x; type = t; slot = n }) scope
behind fixed scope n _ = scope

-- the scope behind these
abbrev pub behind_all : (fixed : Bool) → Scope → ℕ → Stmts → Scope
behind_all fixed scope n NoStmt = scope
behind_all fixed scope n (AndStmt s ss) = behind_all fixed (behind fixed scope n s) (n + length (declares fixed s)) ss

-- ---- points

-- the point of a simple statement or a test
abbrev pub here : Program → Scope → Found → BoxedPoint
here p scope x = record { stood = AtStatement x; scope = scope; manner = manner_of p scope x }

-- that of an arrival
abbrev pub arrival : Program → Scope → Found → BoxedPoint
arrival p scope x = record { stood = AtArrival x; scope = scope; manner = manner_of p scope x }

-- that of the end
abbrev pub the_end : BoxedPoint
the_end = record { stood = AtEnd; scope = []; manner = InPlace }

abbrev mutual
  -- those of a statement before which n variables are declared
  pub outline : Program → (fixed : Bool) → Scope → (n : ℕ) → Stmt → List BoxedPoint
  outline p fixed scope n (Block NoStmt) = here p scope (Simple Empty) ∷ []
  outline p fixed scope n (Block (AndStmt s ss)) = outline_in p fixed scope n (AndStmt s ss)
  outline p fixed scope n (Call to f es) = here p scope (Simple (Call to f es)) ∷ arrival p scope (Simple (Call to f es)) ∷ []
  outline p fixed scope n (Detach to f es) = here p scope (Simple (Detach to f es)) ∷ arrival p scope (Simple (Detach to f es)) ∷ []
  outline p fixed scope n (If t a b) = here p scope (Test (Some t)) ∷ (outline p fixed scope n a ++ outline_arm p fixed scope (n + length (declares fixed a)) b)
  outline p fixed scope n (While t s) = here p scope (Test (Some t)) ∷ outline p fixed scope n s
  outline p fixed scope n (DoWhile s t) = outline p fixed scope n s ++ (here p scope (Test (Some t)) ∷ [])
  outline p fixed scope n (For first t step s) =
      outline_in p fixed scope n first
      ++ (here p (behind_all fixed scope n first) (Test t)
      ∷ (outline_arm p true (behind_all fixed scope n first) (n + length (declares_in fixed first)) step
      ++ outline p fixed (behind_all fixed scope n first) (n + length (declares_in fixed first)) s))
  outline p fixed scope n (Label l s) = outline p fixed scope n s
  outline p fixed scope n s = here p (behind fixed scope n s) (Simple s) ∷ []

  -- those of a row of statements
  pub outline_in : Program → (fixed : Bool) → Scope → (n : ℕ) → Stmts → List BoxedPoint
  outline_in p fixed scope n NoStmt = []
  outline_in p fixed scope n (AndStmt s ss) = outline p fixed scope n s ++ outline_in p fixed (behind fixed scope n s) (n + length (declares fixed s)) ss

  -- those of an arm or a step
  pub outline_arm : Program → (fixed : Bool) → Scope → (n : ℕ) → MaybeStmt → List BoxedPoint
  outline_arm p fixed scope n Absent = []
  outline_arm p fixed scope n (Present s) = outline p fixed scope n s
