-- A typed body has steps of `for` as the grammar reads them.
use Rattle.std.proofs.Common.{ℕ, length, ◌+◌}
use Rattle.cpc_base.specs.declared.stop.Dialect.{Dialect}
use Rattle.cpc_tree.specs.Syntax.{Stmt, Block, Assign, Call, Detach, If, While, DoWhile, For, Label, Stmts, NoStmt, AndStmt, MaybeStmt, Absent, Present, Function, Program}
use Rattle.cpc_tree.specs.Typing.{Scope}
use Rattle.cpc_tree.specs.Points.{extended, extended_all, declared, locals_in}
use Rattle.cpc_check_laws.specs.Sound.Typed.{StepTyped, BodyTyped, AllTyped, ArmTyped}
use Rattle.cpc_lifted_laws.specs.Complete.Steps.{IsStep, HasSteps, AllHaveSteps, ArmHasSteps}

module _ (d : Dialect) (p : Program) (f : Function) where
  is_step : (scope : Scope) (s : MaybeStmt) → StepTyped d p f scope s → IsStep s
  is_step scope Absent h = tt
  is_step scope (Present (Assign e op a)) h = tt
  is_step scope (Present (Call to g es)) h = tt
  is_step scope (Present (Detach to g es)) h = tt
  is_step scope (Present _) h = absurd h

  mutual
    pub has_steps : (scope : Scope) (n : ℕ) (s : Stmt) → BodyTyped d p f scope n s → HasSteps s
    has_steps scope n (Block ss) h = all_have_steps scope n ss h
    has_steps scope n (If t a b) h = (has_steps scope n a h.1, arm_has_steps scope (n + declared a) b h.2)
    has_steps scope n (While t s) h = has_steps scope n s h.1
    has_steps scope n (DoWhile s t) h = has_steps scope n s h.0
    has_steps scope n (For first t step s) h =
        (all_have_steps scope n first h.0, is_step (extended_all scope n first) step h.2, has_steps (extended_all scope n first) (n + length (locals_in first)) s h.3)
    has_steps scope n (Label l s) h = has_steps scope n s h
    has_steps scope n _ h = tt

    all_have_steps : (scope : Scope) (n : ℕ) (ss : Stmts) → AllTyped d p f scope n ss → AllHaveSteps ss
    all_have_steps scope n NoStmt h = tt
    all_have_steps scope n (AndStmt s ss) h = (has_steps scope n s h.0, all_have_steps (extended scope n s) (n + declared s) ss h.1)

    arm_has_steps : (scope : Scope) (n : ℕ) (s : MaybeStmt) → ArmTyped d p f scope n s → ArmHasSteps s
    arm_has_steps scope n Absent h = tt
    arm_has_steps scope n (Present s) h = has_steps scope n s h
