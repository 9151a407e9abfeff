-- Where a declaration stands its variable is in scope, with its type.
use Rattle.std.proofs.Common.{◌≡◌, ℕ, zero, suc, ◌+◌, cond, [], ◌∷◌, length, Some, refl, ap}
use Rattle.cpc_tree.specs.Points.{Path, Nth, TheTest, TheYes, TheNo, TheBody, TheStep, Found, Simple, found, found_in, found_arm, scope_at, scope_in, scope_arm, extended, extended_all, declared, locals_in}
use Rattle.cpc_tree.specs.Syntax.{Stmt, Block, Empty, Declare, Assign, Call, Detach, Spawn, If, While, DoWhile, For, Goto, Label, Break, Continue, Return, Stmts, NoStmt, AndStmt, MaybeStmt, Absent, Present}
use Rattle.cpc_tree.specs.Typing as T
use Rattle.cpc_meaning.proofs.Functions.{text_same}
use Rattle.cpc_lifted_laws.specs.Complete.Standing.{local_named}
use Rattle.cpc_lifted_laws.specs.Complete.Steps.{IsStep, HasSteps, AllHaveSteps, ArmHasSteps}

abbrev pub InScope : T.Scope → Found → Type 0
InScope scope (Simple (Declare x t o)) = (y : T.Local) × (local_named scope x ≡ Some y) × (y.type ≡ t)
InScope scope x = Unit {0}

step_started : (scope : T.Scope) (step : MaybeStmt) (q : Path) → IsStep step → InScope scope (found_arm step q)
step_started scope Absent q g = tt
step_started scope (Present (Assign e op a)) [] g = tt
step_started scope (Present (Assign e op a)) (k ∷ q) g = tt
step_started scope (Present (Call to f es)) [] g = tt
step_started scope (Present (Call to f es)) (k ∷ q) g = tt
step_started scope (Present (Detach to f es)) [] g = tt
step_started scope (Present (Detach to f es)) (k ∷ q) g = tt
step_started scope (Present _) q g = absurd g

mutual
  pub started : (scope : T.Scope) (n : ℕ) (s : Stmt) (q : Path) → HasSteps s → InScope (scope_at scope n s q) (found s q)
  started scope n (Block NoStmt) [] g = tt
  started scope n (Block NoStmt) (k ∷ q) g = tt
  started scope n (Block (AndStmt s ss)) (Nth k ∷ q) g = all_started scope n (AndStmt s ss) k q g
  started scope n (Block (AndStmt s ss)) _ g = tt
  started scope n Empty [] g = tt
  started scope n Empty (k ∷ q) g = tt
  started scope n (Declare x t o) [] g = (record { called = x; type = t; slot = n }, ap (λ b. cond b (Some (record { called = x; type = t; slot = n })) (local_named scope x)) (text_same x), refl)
  started scope n (Declare x t o) (k ∷ q) g = tt
  started scope n (Assign e op a) [] g = tt
  started scope n (Assign e op a) (k ∷ q) g = tt
  started scope n (Call to f es) [] g = tt
  started scope n (Call to f es) (k ∷ q) g = tt
  started scope n (Detach to f es) [] g = tt
  started scope n (Detach to f es) (k ∷ q) g = tt
  started scope n (Spawn f es) [] g = tt
  started scope n (Spawn f es) (k ∷ q) g = tt
  started scope n (Goto l) [] g = tt
  started scope n (Goto l) (k ∷ q) g = tt
  started scope n Break [] g = tt
  started scope n Break (k ∷ q) g = tt
  started scope n Continue [] g = tt
  started scope n Continue (k ∷ q) g = tt
  started scope n (Return o) [] g = tt
  started scope n (Return o) (k ∷ q) g = tt
  started scope n (If t a b) (TheTest ∷ []) g = tt
  started scope n (If t a b) (TheYes ∷ q) g = started scope n a q g.0
  started scope n (If t a b) (TheNo ∷ q) g = arm_started scope (n + declared a) b q g.1
  started scope n (If t a b) _ g = tt
  started scope n (While t s) (TheTest ∷ []) g = tt
  started scope n (While t s) (TheBody ∷ q) g = started scope n s q g
  started scope n (While t s) _ g = tt
  started scope n (DoWhile s t) (TheBody ∷ q) g = started scope n s q g
  started scope n (DoWhile s t) (TheTest ∷ []) g = tt
  started scope n (DoWhile s t) _ g = tt
  started scope n (For first t step s) (Nth k ∷ q) g = all_started scope n first k q g.0
  started scope n (For first t step s) (TheTest ∷ []) g = tt
  started scope n (For first t step s) (TheStep ∷ q) g = step_started (extended_all scope n first) step q g.1
  started scope n (For first t step s) (TheBody ∷ q) g = started (extended_all scope n first) (n + length (locals_in first)) s q g.2
  started scope n (For first t step s) _ g = tt
  started scope n (Label l s) (TheBody ∷ q) g = started scope n s q g
  started scope n (Label l s) _ g = tt

  all_started : (scope : T.Scope) (n : ℕ) (ss : Stmts) (k : ℕ) (q : Path) → AllHaveSteps ss → InScope (scope_in scope n ss k q) (found_in ss k q)
  all_started scope n NoStmt k q g = tt
  all_started scope n (AndStmt s ss) zero q g = started scope n s q g.0
  all_started scope n (AndStmt s ss) (suc k) q g = all_started (extended scope n s) (n + declared s) ss k q g.1

  arm_started : (scope : T.Scope) (n : ℕ) (m : MaybeStmt) (q : Path) → ArmHasSteps m → InScope (scope_arm scope n m q) (found_arm m q)
  arm_started scope n Absent q g = tt
  arm_started scope n (Present s) q g = started scope n s q g
