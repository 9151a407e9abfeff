-- What stands at the points of a program that is served, and of one whose literals are numbers of their kinds.
use Rattle.std.proofs.Common.{◌≡◌, ℕ, zero, suc, Bool, true, false, ◌&&◌, [], ◌∷◌, Some, bytes_eq, cond, refl, sym, ◌∙◌, ap, subst}
use Rattle.cpc_base.specs.Bytes.{Text}
use Rattle.cpc_base.proofs.Truth.{and_first, and_second}
use Rattle.cpc_tree.specs.Syntax.{Stmt, Block, Empty, Declare, Assign, Call, Detach, Spawn, If, While, DoWhile, For, Goto, Label, Break, Continue, Return, Stmts, NoStmt, AndStmt, MaybeStmt, Absent, Present, Function, StructItem, GlobalItem, PrototypeItem, FunctionItem, Program}
use Rattle.cpc_tree.specs.Typing.{function_named}
use Rattle.cpc_tree.specs.Points.{Nth, TheTest, TheYes, TheNo, TheStep, TheBody, Path, found, found_in, found_arm}
use Rattle.cpc_native_builtins.specs.Served.{is_served_stmt, are_served, is_served_arm, is_served_found, is_served_item, is_served_program}
use Rattle.cpc_eval.specs.Numbers.{StmtNumbers, StmtsNumbers, ArmNumbers, FoundNumbers, ItemsNumbers, ProgramNumbers}

-- ---- served bodies

mutual
  pub served_at : (s : Stmt) → is_served_stmt s ≡ true → (p : Path) → is_served_found (found s p) ≡ true
  served_at (Block NoStmt) h [] = refl
  served_at (Block (AndStmt s ss)) h (Nth n ∷ p) = served_in (AndStmt s ss) h n p
  served_at (If t a b) h (TheTest ∷ []) = refl
  served_at (If t a b) h (TheYes ∷ p) = served_at a (and_first (is_served_stmt a) (is_served_arm b) h) p
  served_at (If t a b) h (TheNo ∷ p) = served_arm b (and_second (is_served_stmt a) (is_served_arm b) h) p
  served_at (While t s) h (TheTest ∷ []) = refl
  served_at (While t s) h (TheBody ∷ p) = served_at s h p
  served_at (DoWhile s t) h (TheTest ∷ []) = refl
  served_at (DoWhile s t) h (TheBody ∷ p) = served_at s h p
  served_at (For first t step s) h (Nth n ∷ p) = served_in first (and_first (are_served first) (is_served_arm step && is_served_stmt s) h) n p
  served_at (For first t step s) h (TheTest ∷ []) = refl
  served_at (For first t step s) h (TheStep ∷ p) = served_arm step (and_first (is_served_arm step) (is_served_stmt s) (and_second (are_served first) (is_served_arm step && is_served_stmt s) h)) p
  served_at (For first t step s) h (TheBody ∷ p) = served_at s (and_second (is_served_arm step) (is_served_stmt s) (and_second (are_served first) (is_served_arm step && is_served_stmt s) h)) p
  served_at (Label l s) h (TheBody ∷ p) = served_at s h p
  served_at Empty h [] = refl
  served_at (Declare x t start) h [] = refl
  served_at (Assign e op v) h [] = refl
  served_at (Call e f es) h [] = h
  served_at (Detach e f es) h p = absurd cc
  served_at (Spawn f es) h p = absurd cc
  served_at (Goto l) h [] = refl
  served_at Break h [] = refl
  served_at Continue h [] = refl
  served_at (Return v) h [] = refl
  served_at _ h _ = refl

  pub served_in : (ss : Stmts) → are_served ss ≡ true → (n : ℕ) (p : Path) → is_served_found (found_in ss n p) ≡ true
  served_in (AndStmt s ss) h zero p = served_at s (and_first (is_served_stmt s) (are_served ss) h) p
  served_in (AndStmt s ss) h (suc n) p = served_in ss (and_second (is_served_stmt s) (are_served ss) h) n p
  served_in NoStmt h n p = refl

  pub served_arm : (o : MaybeStmt) → is_served_arm o ≡ true → (p : Path) → is_served_found (found_arm o p) ≡ true
  served_arm Absent h p = refl
  served_arm (Present s) h p = served_at s h p

-- ---- bodies with numbers

module _ (q : Program) where
  mutual
    pub numbers_at : (s : Stmt) → StmtNumbers q s → (p : Path) → FoundNumbers q (found s p)
    numbers_at (Block NoStmt) h [] = tt
    numbers_at (Block (AndStmt s ss)) h (Nth n ∷ p) = numbers_in (AndStmt s ss) h n p
    numbers_at (If t a b) h (TheTest ∷ []) = h.0
    numbers_at (If t a b) h (TheYes ∷ p) = numbers_at a h.1 p
    numbers_at (If t a b) h (TheNo ∷ p) = numbers_arm b h.2 p
    numbers_at (While t s) h (TheTest ∷ []) = h.0
    numbers_at (While t s) h (TheBody ∷ p) = numbers_at s h.1 p
    numbers_at (DoWhile s t) h (TheBody ∷ p) = numbers_at s h.0 p
    numbers_at (DoWhile s t) h (TheTest ∷ []) = h.1
    numbers_at (For first t step s) h (Nth n ∷ p) = numbers_in first h.0 n p
    numbers_at (For first t step s) h (TheTest ∷ []) = h.1
    numbers_at (For first t step s) h (TheStep ∷ p) = numbers_arm step h.2 p
    numbers_at (For first t step s) h (TheBody ∷ p) = numbers_at s h.3 p
    numbers_at (Label l s) h (TheBody ∷ p) = numbers_at s h p
    numbers_at Empty h [] = h
    numbers_at (Declare x t start) h [] = h
    numbers_at (Assign e op v) h [] = h
    numbers_at (Call e f es) h [] = h
    numbers_at (Detach e f es) h [] = h
    numbers_at (Spawn f es) h [] = h
    numbers_at (Goto l) h [] = h
    numbers_at Break h [] = h
    numbers_at Continue h [] = h
    numbers_at (Return v) h [] = h
    numbers_at _ h _ = tt

    pub numbers_in : (ss : Stmts) → StmtsNumbers q ss → (n : ℕ) (p : Path) → FoundNumbers q (found_in ss n p)
    numbers_in (AndStmt s ss) h zero p = numbers_at s h.0 p
    numbers_in (AndStmt s ss) h (suc n) p = numbers_in ss h.1 n p
    numbers_in NoStmt h n p = tt

    pub numbers_arm : (o : MaybeStmt) → ArmNumbers q o → (p : Path) → FoundNumbers q (found_arm o p)
    numbers_arm Absent h p = tt
    numbers_arm (Present s) h p = numbers_at s h p

-- ---- functions

-- the body of a function of a served program is served
pub function_served : (p : Program) → is_served_program p ≡ true → (x : Text) (f : Function) → function_named p x ≡ Some f → is_served_stmt f.body ≡ true
function_served [] h x f e = absurd cc
function_served (FunctionItem g ∷ items) h x f e = go (bytes_eq g.called x) (function_served items (and_second (is_served_item (FunctionItem g)) (is_served_program items) h) x f) e
  where
    go : (b : Bool) → (function_named items x ≡ Some f → is_served_stmt f.body ≡ true) → cond b (Some g) (function_named items x) ≡ Some f → is_served_stmt f.body ≡ true
    go true later k =
        let i : g ≡ f = cc in
        ap (λ y. is_served_stmt y.body) (sym i) ∙ and_first (is_served_item (FunctionItem g)) (is_served_program items) h
    go false later k = later k
function_served (StructItem tag fs ∷ items) h x f e = function_served items h x f e
function_served (GlobalItem g t start ∷ items) h x f e = function_served items h x f e
function_served (PrototypeItem mode g r ps ∷ items) h x f e = function_served items h x f e

-- the body of a function has the numbers of its program
pub function_numbers : (q p : Program) → ItemsNumbers q p → (x : Text) (f : Function) → function_named p x ≡ Some f → StmtNumbers q f.body
function_numbers q [] h x f e = absurd cc
function_numbers q (FunctionItem g ∷ items) h x f e = go (bytes_eq g.called x) (function_numbers q items h.1 x f) e
  where
    go : (b : Bool) → (function_named items x ≡ Some f → StmtNumbers q f.body) → cond b (Some g) (function_named items x) ≡ Some f → StmtNumbers q f.body
    go true later k = let i : g ≡ f = cc in let P : Function → Type 0 = λ y. StmtNumbers q y.body in subst P i h.0
    go false later k = later k
function_numbers q (StructItem tag fs ∷ items) h x f e = function_numbers q items h x f e
function_numbers q (GlobalItem g t start ∷ items) h x f e = function_numbers q items h x f e
function_numbers q (PrototypeItem mode g r ps ∷ items) h x f e = function_numbers q items h x f e

-- what stands in a function of a served program is served
pub stands_served : (p : Program) → is_served_program p ≡ true → (x : Text) (f : Function) → function_named p x ≡ Some f → (path : Path) → is_served_found (found f.body path) ≡ true
stands_served p h x f e path = served_at f.body (function_served p h x f e) path

-- and has its numbers
pub stands_numbers : (p : Program) → ProgramNumbers p → (x : Text) (f : Function) → function_named p x ≡ Some f → (path : Path) → FoundNumbers p (found f.body path)
stands_numbers p h x f e path = numbers_at p f.body (function_numbers p p h x f e) path
