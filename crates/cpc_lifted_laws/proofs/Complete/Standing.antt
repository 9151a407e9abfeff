-- What stands at a point of a body that breaks no rule breaks none, in blocks that tell the variables in scope there.
use Rattle.std.proofs.Common.{◌≡◌, not, ℕ, zero, suc, ◌+◌, Bool, true, false, cond, List, [], ◌∷◌, ◌++◌, length, map, Option, Some, None, bytes_eq, refl, ◌∙◌, ap, subst}
use Rattle.std.specs.Prelude.{option_map}
use Rattle.cpc_base.specs.Bytes.{Text}
use Rattle.cpc_base.specs.declared.stop.Dialect.{Dialect}
use Rattle.cpc_base.proofs.Truth.{by_false_true}
use Rattle.cpc_tree.specs.declared.program.Mode.{Mode}
use Rattle.cpc_tree.specs.Syntax.{Ty, Expr, Stmt, Block, Empty, Declare, Assign, Call, Detach, Spawn, If, While, DoWhile, For, Goto, Label, Break, Continue, Return, Stmts, NoStmt, AndStmt, MaybeStmt, Absent, Present, Variable, Parameter, Program}
use Rattle.cpc_tree.specs.ItemGrammar.{all_named}
use Rattle.cpc_tree.specs.Typing.{Meant, ALocal}
use Rattle.cpc_tree.specs.Typing as T
use Rattle.cpc_tree.specs.Points.{Path, Nth, TheTest, TheYes, TheNo, TheStep, TheBody, Simple, Test, found, found_in, found_arm, extended, extended_all, declared, locals, locals_in, locals_arm, scope_at, scope_in, scope_arm}
use Rattle.cpc_tree.specs.Registers.{parameter_scope}
use Rattle.cpc_check_rules.specs.declared.rule.Rule.TheVariants.{Twice, Incomplete}
use Rattle.cpc_check_rules.specs.Rule.{at_if}
use Rattle.cpc_check_rules.specs.Scopes as S
use Rattle.cpc_check_rules.specs.Scopes.{in_block, in_blocks, with_name, is_here, is_sized}
use Rattle.cpc_check_rules.specs.Operators.{Where}
use Rattle.cpc_check_rules.specs.StmtRules.{variable, behind, all_behind, test_breaks, maybe_test, stmt_breaks, stmts_breaks, maybe_breaks}
use Rattle.cpc_check_rules.specs.ItemRules.{parameter_block}
use Rattle.cpc_check_laws.proofs.Native.OnePlace.{here, ident_here, expr_here, stmt_here, stmts_here, maybe_here, parameter_here}
use Rattle.cpc_check_laws.proofs.Sound.Unbroken.{split, holds_then}
use Rattle.cpc_lifted_laws.specs.Complete.Steps.{IsStep, HasSteps, AllHaveSteps, ArmHasSteps}
use Rattle.cpc_lifted_laws.specs.Complete.Standing.{local_named, local_or, Tells, Standing, NothingStands, Stands, AllSized, NoneSized, AndSized}
use Rattle.cpc_lifted_laws.proofs.Complete.Kept.{over}

-- ---- variables

-- blocks with one name more
abbrev with_variable : List S.Block → Variable → List S.Block
with_variable blocks v = (with_name (over [] blocks) v).blocks

first_told : (blocks : List S.Block) (v : Variable) (m : Meant) (x : Text) → bytes_eq v.called x ≡ true → in_blocks (with_variable blocks v) m x ≡ ALocal 0 v.type
first_told [] v m x e = simp (e) refl
first_told (b ∷ bs) v m x e = simp (e) refl

others_told : (blocks : List S.Block) (v : Variable) (m : Meant) (x : Text) → bytes_eq v.called x ≡ false → in_blocks (with_variable blocks v) m x ≡ in_blocks blocks m x
others_told [] v m x e = simp (e) refl
others_told (b ∷ bs) v m x e = simp (e) refl

-- one more variable
pub tells_more : (scope : T.Scope) (blocks : List S.Block) (v : Variable) (n : ℕ) → Tells scope blocks → Tells (record { called = v.called; type = v.type; slot = n } ∷ scope) (with_variable blocks v)
tells_more scope blocks v n tells x m = go (bytes_eq v.called x) refl
  where
    go : (b : Bool) → bytes_eq v.called x ≡ b → in_blocks (with_variable blocks v) m x ≡ local_or (cond b (Some (record { called = v.called; type = v.type; slot = n })) (local_named scope x)) m
    go true e = first_told blocks v m x e
    go false e = others_told blocks v m x e ∙ tells x m

-- parameters, all of which have names
pub parameters_told : (block : S.Block) (n : ℕ) (ps : List Parameter) (scope : T.Scope) → all_named (λ (p : Parameter). p.called) ps ≡ true → Tells scope (block ∷ []) → Tells (parameter_scope n ps scope) (parameter_block block (map parameter_here ps) ∷ [])
parameters_told block n [] scope e tells = tells
parameters_told block n (p ∷ ps) scope e tells = one p.called p.type e (λ block scope e tells. parameters_told block (suc n) ps scope e tells)
  where
    one : (o : Option Text) (t : Ty) → all_named (λ (p : Parameter). p.called) (record { called = o; type = t } ∷ ps) ≡ true
        → ((block : S.Block) (scope : T.Scope) → all_named (λ (p : Parameter). p.called) ps ≡ true → Tells scope (block ∷ []) → Tells (parameter_scope (suc n) ps scope) (parameter_block block (map parameter_here ps) ∷ []))
        → Tells (parameter_scope n (record { called = o; type = t } ∷ ps) scope) (parameter_block block (map parameter_here (record { called = o; type = t } ∷ ps)) ∷ [])
    one None t e rest = by_false_true e
    one (Some x) t e rest = rest (record { called = x; type = t } ∷ block) (record { called = x; type = t; slot = n } ∷ scope) e (tells_more scope (block ∷ []) (record { called = x; type = t }) n tells)

module _ (items : Program) (mode : Mode) (result : Ty) (dialect : Dialect) where
  abbrev pub at : List S.Block → Where
  at blocks = record { scope = over items blocks; mode = mode; result = result; dialect = dialect }

  -- behind a statement the blocks again tell the scope
  record Behind (scope : T.Scope) (n : ℕ) (s : Stmt) (blocks : List S.Block) : Type 0 where
    new : List S.Block
    tells : Tells (extended scope n s) new
    is : behind (at blocks) (stmt_here s) ≡ at new

  behind_told : (scope : T.Scope) (n : ℕ) (s : Stmt) (blocks : List S.Block) → Tells scope blocks → Behind scope n s blocks
  behind_told scope n (Declare x t o) blocks h = record { new = with_variable blocks (variable (ident_here x) t); tells = tells_more scope blocks (variable (ident_here x) t) n h; is = refl }
  behind_told scope n (Block ss) blocks h = record { new = blocks; tells = h; is = refl }
  behind_told scope n Empty blocks h = record { new = blocks; tells = h; is = refl }
  behind_told scope n (Assign e op a) blocks h = record { new = blocks; tells = h; is = refl }
  behind_told scope n (Call to f es) blocks h = record { new = blocks; tells = h; is = refl }
  behind_told scope n (Detach to f es) blocks h = record { new = blocks; tells = h; is = refl }
  behind_told scope n (Spawn f es) blocks h = record { new = blocks; tells = h; is = refl }
  behind_told scope n (If t a b) blocks h = record { new = blocks; tells = h; is = refl }
  behind_told scope n (While t s) blocks h = record { new = blocks; tells = h; is = refl }
  behind_told scope n (DoWhile s t) blocks h = record { new = blocks; tells = h; is = refl }
  behind_told scope n (For first t step s) blocks h = record { new = blocks; tells = h; is = refl }
  behind_told scope n (Goto l) blocks h = record { new = blocks; tells = h; is = refl }
  behind_told scope n (Label l s) blocks h = record { new = blocks; tells = h; is = refl }
  behind_told scope n Break blocks h = record { new = blocks; tells = h; is = refl }
  behind_told scope n Continue blocks h = record { new = blocks; tells = h; is = refl }
  behind_told scope n (Return o) blocks h = record { new = blocks; tells = h; is = refl }

  -- some blocks, whatever they tell
  one_new : (blocks : List S.Block) (s : Stmt) → (new : List S.Block) × (behind (at blocks) (stmt_here s) ≡ at new)
  one_new blocks (Declare x t o) = (with_variable blocks (variable (ident_here x) t), refl)
  one_new blocks (Block ss) = (blocks, refl)
  one_new blocks Empty = (blocks, refl)
  one_new blocks (Assign e op a) = (blocks, refl)
  one_new blocks (Call to f es) = (blocks, refl)
  one_new blocks (Detach to f es) = (blocks, refl)
  one_new blocks (Spawn f es) = (blocks, refl)
  one_new blocks (If t a b) = (blocks, refl)
  one_new blocks (While t s) = (blocks, refl)
  one_new blocks (DoWhile s t) = (blocks, refl)
  one_new blocks (For first t step s) = (blocks, refl)
  one_new blocks (Goto l) = (blocks, refl)
  one_new blocks (Label l s) = (blocks, refl)
  one_new blocks Break = (blocks, refl)
  one_new blocks Continue = (blocks, refl)
  one_new blocks (Return o) = (blocks, refl)

  all_new : (blocks : List S.Block) (ss : Stmts) → (new : List S.Block) × (all_behind (at blocks) (stmts_here ss) ≡ at new)
  all_new blocks NoStmt = (blocks, refl)
  all_new blocks (AndStmt s ss) =
      let b = one_new blocks s in
      let a = all_new b.0 ss in
      (a.0, ap (λ w. all_behind w (stmts_here ss)) b.1 ∙ a.1)

  record AllBehind (scope : T.Scope) (n : ℕ) (ss : Stmts) (blocks : List S.Block) : Type 0 where
    new : List S.Block
    tells : Tells (extended_all scope n ss) new
    is : all_behind (at blocks) (stmts_here ss) ≡ at new

  all_behind_told : (scope : T.Scope) (n : ℕ) (ss : Stmts) (blocks : List S.Block) → Tells scope blocks → AllBehind scope n ss blocks
  all_behind_told scope n NoStmt blocks h = record { new = blocks; tells = h; is = refl }
  all_behind_told scope n (AndStmt s ss) blocks h =
      let b = behind_told scope n s blocks h in
      let a = all_behind_told (extended scope n s) (n + declared s) ss b.new b.tells in
      record { new = a.new; tells = a.tells; is = ap (λ w. all_behind w (stmts_here ss)) b.is ∙ a.is }

  -- the parts of a `for`
  record ForParts (scope : T.Scope) (n : ℕ) (first : Stmts) (t : Option Expr) (step : MaybeStmt) (s : Stmt) (blocks : List S.Block) : Type 0 where
    new : List S.Block
    tells : Tells (extended_all scope n first) new
    first_fine : stmts_breaks (at ([] ∷ blocks)) (stmts_here first) ≡ []
    test_fine : maybe_test (at new) (option_map expr_here t) ≡ []
    step_fine : maybe_breaks (at new) (maybe_here step) ≡ []
    body_fine : stmt_breaks (at new) (stmt_here s) ≡ []

  for_parts : (scope : T.Scope) (n : ℕ) (first : Stmts) (t : Option Expr) (step : MaybeStmt) (s : Stmt) (blocks : List S.Block) → Tells scope blocks → stmt_breaks (at blocks) (stmt_here (For first t step s)) ≡ [] → ForParts scope n first t step s blocks
  for_parts scope n first t step s blocks tells h =
      let b = all_behind_told scope n first ([] ∷ blocks) tells in
      let none : stmts_breaks (at ([] ∷ blocks)) (stmts_here first) ++ (maybe_test (at b.new) (option_map expr_here t) ++ (maybe_breaks (at b.new) (maybe_here step) ++ stmt_breaks (at b.new) (stmt_here s))) ≡ [] =
      subst (λ w. stmts_breaks (at ([] ∷ blocks)) (stmts_here first) ++ (maybe_test w (option_map expr_here t) ++ (maybe_breaks w (maybe_here step) ++ stmt_breaks w (stmt_here s))) ≡ []) b.is h in
      let k = split (stmts_breaks (at ([] ∷ blocks)) (stmts_here first)) _ none in
      let l = split (maybe_test (at b.new) (option_map expr_here t)) _ k.1 in
      let m = split (maybe_breaks (at b.new) (maybe_here step)) _ l.1 in
      record { new = b.new; tells = b.tells; first_fine = k.0; test_fine = l.0; step_fine = m.0; body_fine = m.1 }

  -- ---- points

  test_standing : (scope : T.Scope) (o : Option Expr) (blocks : List S.Block) → Tells scope blocks → maybe_test (at blocks) (option_map expr_here o) ≡ [] → Standing at scope (Test o)
  test_standing scope None blocks tells h = Stands (Test None) blocks tells refl
  test_standing scope (Some e) blocks tells h = Stands (Test (Some e)) blocks tells h

  step_standing : (scope : T.Scope) (s : MaybeStmt) (q : Path) (blocks : List S.Block) → IsStep s → Tells scope blocks → maybe_breaks (at blocks) (maybe_here s) ≡ [] → Standing at scope (found_arm s q)
  step_standing scope Absent q blocks g tells h = NothingStands
  step_standing scope (Present (Assign e op a)) [] blocks g tells h = Stands (Simple (Assign e op a)) blocks tells h
  step_standing scope (Present (Assign e op a)) (n ∷ q) blocks g tells h = NothingStands
  step_standing scope (Present (Call to f es)) [] blocks g tells h = Stands (Simple (Call to f es)) blocks tells h
  step_standing scope (Present (Call to f es)) (n ∷ q) blocks g tells h = NothingStands
  step_standing scope (Present (Detach to f es)) [] blocks g tells h = Stands (Simple (Detach to f es)) blocks tells h
  step_standing scope (Present (Detach to f es)) (n ∷ q) blocks g tells h = NothingStands
  step_standing scope (Present _) q blocks g tells h = absurd g

  mutual
    pub standing : (scope : T.Scope) (n : ℕ) (s : Stmt) (q : Path) (blocks : List S.Block) → HasSteps s → Tells scope blocks → stmt_breaks (at blocks) (stmt_here s) ≡ [] → Standing at (scope_at scope n s q) (found s q)
    standing scope n (Block NoStmt) [] blocks g tells h = Stands (Simple Empty) blocks tells refl
    standing scope n (Block NoStmt) (k ∷ q) blocks g tells h = NothingStands
    standing scope n (Block (AndStmt s ss)) (Nth k ∷ q) blocks g tells h = all_standing scope n (AndStmt s ss) k q ([] ∷ blocks) g tells h
    standing scope n (Block (AndStmt s ss)) _ blocks g tells h = NothingStands
    standing scope n Empty [] blocks g tells h = Stands (Simple Empty) blocks tells refl
    standing scope n Empty (k ∷ q) blocks g tells h = NothingStands
    standing scope n (Declare x t o) [] blocks g tells h =
        let k = split (at_if (is_here blocks x) here Twice) _ h in
        let l = split (at_if (not (is_sized (over items blocks) t)) here Incomplete) _ k.1 in
        Stands (Simple (Declare x t o)) (with_variable blocks (variable (ident_here x) t)) (tells_more scope blocks (variable (ident_here x) t) n tells) l.1
    standing scope n (Declare x t o) (k ∷ q) blocks g tells h = NothingStands
    standing scope n (Assign e op a) [] blocks g tells h = Stands (Simple (Assign e op a)) blocks tells h
    standing scope n (Assign e op a) (k ∷ q) blocks g tells h = NothingStands
    standing scope n (Call to f es) [] blocks g tells h = Stands (Simple (Call to f es)) blocks tells h
    standing scope n (Call to f es) (k ∷ q) blocks g tells h = NothingStands
    standing scope n (Detach to f es) [] blocks g tells h = Stands (Simple (Detach to f es)) blocks tells h
    standing scope n (Detach to f es) (k ∷ q) blocks g tells h = NothingStands
    standing scope n (Spawn f es) [] blocks g tells h = Stands (Simple (Spawn f es)) blocks tells h
    standing scope n (Spawn f es) (k ∷ q) blocks g tells h = NothingStands
    standing scope n (Goto l) [] blocks g tells h = Stands (Simple (Goto l)) blocks tells refl
    standing scope n (Goto l) (k ∷ q) blocks g tells h = NothingStands
    standing scope n Break [] blocks g tells h = Stands (Simple Break) blocks tells refl
    standing scope n Break (k ∷ q) blocks g tells h = NothingStands
    standing scope n Continue [] blocks g tells h = Stands (Simple Continue) blocks tells refl
    standing scope n Continue (k ∷ q) blocks g tells h = NothingStands
    standing scope n (Return o) [] blocks g tells h = Stands (Simple (Return o)) blocks tells h
    standing scope n (Return o) (k ∷ q) blocks g tells h = NothingStands
    standing scope n (If t a b) (TheTest ∷ []) blocks g tells h = Stands (Test (Some t)) blocks tells (split (test_breaks (at blocks) (expr_here t)) _ h).0
    standing scope n (If t a b) (TheYes ∷ q) blocks g tells h =
        standing scope n a q blocks g.0 tells (split (stmt_breaks (at blocks) (stmt_here a)) _ (split (test_breaks (at blocks) (expr_here t)) _ h).1).0
    standing scope n (If t a b) (TheNo ∷ q) blocks g tells h =
        arm_standing scope (n + declared a) b q blocks g.1 tells (split (stmt_breaks (at blocks) (stmt_here a)) _ (split (test_breaks (at blocks) (expr_here t)) _ h).1).1
    standing scope n (If t a b) _ blocks g tells h = NothingStands
    standing scope n (While t s) (TheTest ∷ []) blocks g tells h = Stands (Test (Some t)) blocks tells (split (test_breaks (at blocks) (expr_here t)) _ h).0
    standing scope n (While t s) (TheBody ∷ q) blocks g tells h = standing scope n s q blocks g tells (split (test_breaks (at blocks) (expr_here t)) _ h).1
    standing scope n (While t s) _ blocks g tells h = NothingStands
    standing scope n (DoWhile s t) (TheBody ∷ q) blocks g tells h = standing scope n s q blocks g tells (split (stmt_breaks (at blocks) (stmt_here s)) _ h).0
    standing scope n (DoWhile s t) (TheTest ∷ []) blocks g tells h = Stands (Test (Some t)) blocks tells (split (stmt_breaks (at blocks) (stmt_here s)) _ h).1
    standing scope n (DoWhile s t) _ blocks g tells h = NothingStands
    standing scope n (For first t step s) (Nth k ∷ q) blocks g tells h = all_standing scope n first k q ([] ∷ blocks) g.0 tells (for_parts scope n first t step s blocks tells h).first_fine
    standing scope n (For first t step s) (TheTest ∷ []) blocks g tells h = let p = for_parts scope n first t step s blocks tells h in test_standing (extended_all scope n first) t p.new p.tells p.test_fine
    standing scope n (For first t step s) (TheStep ∷ q) blocks g tells h = let p = for_parts scope n first t step s blocks tells h in step_standing (extended_all scope n first) step q p.new g.1 p.tells p.step_fine
    standing scope n (For first t step s) (TheBody ∷ q) blocks g tells h =
        let p = for_parts scope n first t step s blocks tells h in
        standing (extended_all scope n first) (n + length (locals_in first)) s q p.new g.2 p.tells p.body_fine
    standing scope n (For first t step s) _ blocks g tells h = NothingStands
    standing scope n (Label l s) (TheBody ∷ q) blocks g tells h = standing scope n s q blocks g tells h
    standing scope n (Label l s) _ blocks g tells h = NothingStands

    pub all_standing : (scope : T.Scope) (n : ℕ) (ss : Stmts) (k : ℕ) (q : Path) (blocks : List S.Block) → AllHaveSteps ss → Tells scope blocks → stmts_breaks (at blocks) (stmts_here ss) ≡ [] → Standing at (scope_in scope n ss k q) (found_in ss k q)
    all_standing scope n NoStmt k q blocks g tells h = NothingStands
    all_standing scope n (AndStmt s ss) zero q blocks g tells h = standing scope n s q blocks g.0 tells (split (stmt_breaks (at blocks) (stmt_here s)) _ h).0
    all_standing scope n (AndStmt s ss) (suc k) q blocks g tells h =
        let b = behind_told scope n s blocks tells in
        all_standing (extended scope n s) (n + declared s) ss k q b.new g.1 b.tells (subst (λ w. stmts_breaks w (stmts_here ss) ≡ []) b.is (split (stmt_breaks (at blocks) (stmt_here s)) _ h).1)

    arm_standing : (scope : T.Scope) (n : ℕ) (s : MaybeStmt) (q : Path) (blocks : List S.Block) → ArmHasSteps s → Tells scope blocks → maybe_breaks (at blocks) (maybe_here s) ≡ [] → Standing at (scope_arm scope n s q) (found_arm s q)
    arm_standing scope n Absent q blocks g tells h = NothingStands
    arm_standing scope n (Present s) q blocks g tells h = standing scope n s q blocks g tells h

  -- ---- sizes

  both_sized : (xs ys : List Variable) → AllSized (over items []) xs → AllSized (over items []) ys → AllSized (over items []) (xs ++ ys)
  both_sized _ ys NoneSized k = k
  both_sized _ ys (AndSized x xs e h) k = AndSized x (xs ++ ys) e (both_sized xs ys h k)

  mutual
    -- the variables of a statement that breaks no rule have sizes
    pub sized : (s : Stmt) (blocks : List S.Block) → stmt_breaks (at blocks) (stmt_here s) ≡ [] → AllSized (over items []) (locals s)
    sized (Block ss) blocks h = all_sized ss ([] ∷ blocks) h
    sized (Declare x t o) blocks h =
        let k = split (at_if (is_here blocks x) here Twice) _ h in
        let l = split (at_if (not (is_sized (over items blocks) t)) here Incomplete) _ k.1 in
        AndSized _ [] (holds_then (is_sized (over items blocks) t) here Incomplete l.0) NoneSized
    sized (If t a b) blocks h =
        let k = split (test_breaks (at blocks) (expr_here t)) _ h in
        let l = split (stmt_breaks (at blocks) (stmt_here a)) _ k.1 in
        both_sized (locals a) (locals_arm b) (sized a blocks l.0) (arm_sized b blocks l.1)
    sized (While t s) blocks h = sized s blocks (split (test_breaks (at blocks) (expr_here t)) _ h).1
    sized (DoWhile s t) blocks h = sized s blocks (split (stmt_breaks (at blocks) (stmt_here s)) _ h).0
    sized (For first t step s) blocks h =
        let k = split (stmts_breaks (at ([] ∷ blocks)) (stmts_here first)) _ h in
        let b = all_new ([] ∷ blocks) first in
        let l = split (maybe_test (all_behind (at ([] ∷ blocks)) (stmts_here first)) (option_map expr_here t)) _ k.1 in
        let m = split (maybe_breaks (all_behind (at ([] ∷ blocks)) (stmts_here first)) (maybe_here step)) _ l.1 in
        both_sized (locals_in first) (locals s) (all_sized first ([] ∷ blocks) k.0) (sized s b.0 (subst (λ w. stmt_breaks w (stmt_here s) ≡ []) b.1 m.1))
    sized (Label l s) blocks h = sized s blocks h
    sized Empty blocks h = NoneSized
    sized (Assign e op a) blocks h = NoneSized
    sized (Call to f es) blocks h = NoneSized
    sized (Detach to f es) blocks h = NoneSized
    sized (Spawn f es) blocks h = NoneSized
    sized (Goto l) blocks h = NoneSized
    sized Break blocks h = NoneSized
    sized Continue blocks h = NoneSized
    sized (Return o) blocks h = NoneSized

    pub all_sized : (ss : Stmts) (blocks : List S.Block) → stmts_breaks (at blocks) (stmts_here ss) ≡ [] → AllSized (over items []) (locals_in ss)
    all_sized NoStmt blocks h = NoneSized
    all_sized (AndStmt s ss) blocks h =
        let k = split (stmt_breaks (at blocks) (stmt_here s)) _ h in
        let b = one_new blocks s in
        both_sized (locals s) (locals_in ss) (sized s blocks k.0) (all_sized ss b.0 (subst (λ w. stmts_breaks w (stmts_here ss) ≡ []) b.1 k.1))

    arm_sized : (s : MaybeStmt) (blocks : List S.Block) → maybe_breaks (at blocks) (maybe_here s) ≡ [] → AllSized (over items []) (locals_arm s)
    arm_sized Absent blocks h = NoneSized
    arm_sized (Present s) blocks h = sized s blocks h
