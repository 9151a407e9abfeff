-- A block, from its row.
use Rattle.std.proofs.Common.{◌≡◌, ℕ, Bool, true, false, List, [], ◌∷◌}
use Rattle.cpc_tree.specs.declared.program.Statement.{Statement}
use Rattle.cpc_tree.specs.Lists.{is_empty}
use Rattle.cpc_tree.specs.Syntax as S
use Rattle.cpc_tree.specs.Typing as Y
use Rattle.cpc_tree.specs.Points.{Simple}
use Rattle.cpc_tree.specs.Syntax.{Block}
use Rattle.cpc_tree.specs.Erase.{Names, list_of}
use Rattle.cpc_eval_locals.specs.declared.variables.Variable as V
use Rattle.cpc_box.specs.declared.walk.Walk.{Walk}
use Rattle.cpc_box.specs.Outline.{declares, declares_in, here, outline, outline_in}
use Rattle.cpc_box.specs.Walked.{Walked}

module _ (names : Names) (ms : List V.Variable) (p : S.Program) (fixed : Bool) (sc : Y.Scope) (n : ℕ) (a b : Walk) where
  pub empty_block : (row : List Statement) → is_empty row ≡ true → Walked names ms a b [] (here p sc (Simple S.Empty) ∷ []) → Walked names ms a b (declares fixed (Block (list_of names row))) (outline p fixed sc n (Block (list_of names row)))
  empty_block [] e w = w
  empty_block (s ∷ row) e w = absurd cc

  pub full_block : (row : List Statement) → is_empty row ≡ false → Walked names ms a b (declares_in fixed (list_of names row)) (outline_in p fixed sc n (list_of names row)) → Walked names ms a b (declares fixed (Block (list_of names row))) (outline p fixed sc n (Block (list_of names row)))
  full_block [] e w = absurd cc
  full_block (s ∷ row) e w = w
