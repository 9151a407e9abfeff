-- What a body promises holds at each of its paths: what stands there is typed, its names have their variables, and its addresses are taken.
use Rattle.std.proofs.Common.{◌≡◌, ℕ, zero, suc, ◌+◌, List, [], ◌∷◌, ◌++◌, map, length, slice_get, Option, Some, refl, subst, arith}
use Rattle.cpc_base.specs.declared.stop.Dialect.{Dialect}
use Rattle.cpc_tree.specs.Syntax.{Ty, Expr, Stmt, Block, Empty, Declare, Assign, Call, Detach, Spawn, If, While, DoWhile, For, Goto, Label, Break, Continue, Return, Stmts, NoStmt, AndStmt, MaybeStmt, Absent, Present, Variable, Parameter, Function, Program}
use Rattle.cpc_tree.specs.Typing.{Scope}
use Rattle.cpc_tree.specs.Points.{Nth, TheTest, TheYes, TheNo, TheStep, TheBody, Path, Found, Simple, Test, Nothing, found, found_in, found_arm, locals, locals_in, locals_arm, declared, extended, extended_all, scope_at, scope_in, scope_arm}
use Rattle.cpc_tree.specs.Registers.{addresses, addresses_all, addresses_if, addresses_by, addresses_in, addresses_arm, as_variable, or_empty, variables, parameter_scope, outer_scope, scope_in_function, addressed}
use Rattle.cpc_meaning.specs.Eval.{Slot}
use Rattle.cpc_check_laws.specs.Sound.Suits.{ScopeOf, AllBoxed}
pub use Rattle.cpc_check_laws.specs.Kept.Fits.{types_of}
use Rattle.cpc_check_laws.specs.Sound.Typed.{FoundTyped, BodyTyped, AllTyped, ArmTyped, StepTyped}
use Rattle.cpc_check_laws.proofs.Sound.Lookups.{boxed_left, boxed_right}

-- ---- types

module _ (d : Dialect) (p : Program) (f : Function) where
  step_typed : (scope : Scope) (step : MaybeStmt) (q : Path) → StepTyped d p f scope step → FoundTyped d p f scope (found_arm step q)
  step_typed scope Absent q h = tt
  step_typed scope (Present (Assign x op e)) [] h = h
  step_typed scope (Present (Assign x op e)) (n ∷ q) h = tt
  step_typed scope (Present (Call x g es)) [] h = h
  step_typed scope (Present (Call x g es)) (n ∷ q) h = tt
  step_typed scope (Present (Detach x g es)) [] h = h
  step_typed scope (Present (Detach x g es)) (n ∷ q) h = tt
  step_typed scope (Present _) q h = absurd h

  mutual
    found_typed : (scope : Scope) (n : ℕ) (s : Stmt) (q : Path) → BodyTyped d p f scope n s → FoundTyped d p f (scope_at scope n s q) (found s q)
    found_typed scope n (Block NoStmt) [] h = tt
    found_typed scope n (Block NoStmt) (k ∷ q) h = tt
    found_typed scope n (Block (AndStmt s ss)) (Nth k ∷ q) h = found_typed_in scope n (AndStmt s ss) k q h
    found_typed scope n (Block (AndStmt s ss)) _ h = tt
    found_typed scope n Empty [] h = tt
    found_typed scope n Empty (k ∷ q) h = tt
    found_typed scope n (Declare x t start) [] h = h
    found_typed scope n (Declare x t start) (k ∷ q) h = tt
    found_typed scope n (Assign e op v) [] h = h
    found_typed scope n (Assign e op v) (k ∷ q) h = tt
    found_typed scope n (Call e g es) [] h = h
    found_typed scope n (Call e g es) (k ∷ q) h = tt
    found_typed scope n (Detach e g es) [] h = h
    found_typed scope n (Detach e g es) (k ∷ q) h = tt
    found_typed scope n (Spawn g es) [] h = h
    found_typed scope n (Spawn g es) (k ∷ q) h = tt
    found_typed scope n (Goto l) [] h = tt
    found_typed scope n (Goto l) (k ∷ q) h = tt
    found_typed scope n Break [] h = tt
    found_typed scope n Break (k ∷ q) h = tt
    found_typed scope n Continue [] h = tt
    found_typed scope n Continue (k ∷ q) h = tt
    found_typed scope n (Return v) [] h = h
    found_typed scope n (Return v) (k ∷ q) h = tt
    found_typed scope n (If t a b) (TheTest ∷ []) h = h.0
    found_typed scope n (If t a b) (TheYes ∷ q) h = found_typed scope n a q h.1
    found_typed scope n (If t a b) (TheNo ∷ q) h = found_typed_arm scope (n + declared a) b q h.2
    found_typed scope n (If t a b) _ h = tt
    found_typed scope n (While t s) (TheTest ∷ []) h = h.0
    found_typed scope n (While t s) (TheBody ∷ q) h = found_typed scope n s q h.1
    found_typed scope n (While t s) _ h = tt
    found_typed scope n (DoWhile s t) (TheBody ∷ q) h = found_typed scope n s q h.0
    found_typed scope n (DoWhile s t) (TheTest ∷ []) h = h.1
    found_typed scope n (DoWhile s t) _ h = tt
    found_typed scope n (For first t step s) (Nth k ∷ q) h = found_typed_in scope n first k q h.0
    found_typed scope n (For first t step s) (TheTest ∷ []) h = h.1
    found_typed scope n (For first t step s) (TheStep ∷ q) h = step_typed (extended_all scope n first) step q h.2
    found_typed scope n (For first t step s) (TheBody ∷ q) h = found_typed (extended_all scope n first) (n + length (locals_in first)) s q h.3
    found_typed scope n (For first t step s) _ h = tt
    found_typed scope n (Label l s) (TheBody ∷ q) h = found_typed scope n s q h
    found_typed scope n (Label l s) _ h = tt

    found_typed_in : (scope : Scope) (n : ℕ) (ss : Stmts) (k : ℕ) (q : Path) → AllTyped d p f scope n ss → FoundTyped d p f (scope_in scope n ss k q) (found_in ss k q)
    found_typed_in scope n (AndStmt s ss) zero q h = found_typed scope n s q h.0
    found_typed_in scope n (AndStmt s ss) (suc k) q h = found_typed_in (extended scope n s) (n + declared s) ss k q h.1
    found_typed_in scope n NoStmt k q h = tt

    found_typed_arm : (scope : Scope) (n : ℕ) (b : MaybeStmt) (q : Path) → ArmTyped d p f scope n b → FoundTyped d p f (scope_arm scope n b q) (found_arm b q)
    found_typed_arm scope n Absent q h = tt
    found_typed_arm scope n (Present s) q h = found_typed scope n s q h

-- ---- names

-- these variables are those of the types from the n-th on
abbrev Located : List Ty → ℕ → List Variable → Type 0
Located ts n [] = Unit {0}
Located ts n (x ∷ xs) = (slice_get ts n ≡ Some x.type) × Located ts (suc n) xs

located_left : (ts : List Ty) (n : ℕ) (xs ys : List Variable) → Located ts n (xs ++ ys) → Located ts n xs
located_left ts n [] ys h = tt
located_left ts n (x ∷ xs) ys h = (h.0, located_left ts (suc n) xs ys h.1)

located_right : (ts : List Ty) (n : ℕ) (xs ys : List Variable) → Located ts n (xs ++ ys) → Located ts (n + length xs) ys
located_right ts n [] ys h = subst (λ m. Located ts m ys) (let e : n ≡ n + 0 = omega arith in e) h
located_right ts n (x ∷ xs) ys h = subst (λ m. Located ts m ys) (let e : suc n + length xs ≡ n + suc (length xs) = omega arith in e) (located_right ts (suc n) xs ys h.1)

module _ (ts : List Ty) where
  extended_of : (scope : Scope) (n : ℕ) (s : Stmt) → ScopeOf ts scope → Located ts n (locals s) → ScopeOf ts (extended scope n s)
  extended_of scope n (Declare x t start) h l = (l.0, h)
  extended_of scope n _ h l = h

  extended_all_of : (scope : Scope) (n : ℕ) (ss : Stmts) → ScopeOf ts scope → Located ts n (locals_in ss) → ScopeOf ts (extended_all scope n ss)
  extended_all_of scope n NoStmt h l = h
  extended_all_of scope n (AndStmt s ss) h l =
      extended_all_of (extended scope n s) (n + declared s) ss (extended_of scope n s h (located_left ts n (locals s) (locals_in ss) l)) (located_right ts n (locals s) (locals_in ss) l)

  mutual
    scope_of : (scope : Scope) (n : ℕ) (s : Stmt) (q : Path) → ScopeOf ts scope → Located ts n (locals s) → ScopeOf ts (scope_at scope n s q)
    scope_of scope n (Block ss) (Nth k ∷ q) h l = scope_of_in scope n ss k q h l
    scope_of scope n (If t a b) (TheYes ∷ q) h l = scope_of scope n a q h (located_left ts n (locals a) (locals_arm b) l)
    scope_of scope n (If t a b) (TheNo ∷ q) h l = scope_of_arm scope (n + declared a) b q h (located_right ts n (locals a) (locals_arm b) l)
    scope_of scope n (While t s) (TheBody ∷ q) h l = scope_of scope n s q h l
    scope_of scope n (DoWhile s t) (TheBody ∷ q) h l = scope_of scope n s q h l
    scope_of scope n (For first t step s) (Nth k ∷ q) h l = scope_of_in scope n first k q h (located_left ts n (locals_in first) (locals s) l)
    scope_of scope n (For first t step s) (TheTest ∷ q) h l = extended_all_of scope n first h (located_left ts n (locals_in first) (locals s) l)
    scope_of scope n (For first t step s) (TheStep ∷ q) h l = extended_all_of scope n first h (located_left ts n (locals_in first) (locals s) l)
    scope_of scope n (For first t step s) (TheBody ∷ q) h l =
        scope_of (extended_all scope n first) (n + length (locals_in first)) s q (extended_all_of scope n first h (located_left ts n (locals_in first) (locals s) l)) (located_right ts n (locals_in first) (locals s) l)
    scope_of scope n (Label m s) (TheBody ∷ q) h l = scope_of scope n s q h l
    scope_of scope n (Declare x t start) q h l = (l.0, h)
    scope_of scope n _ _ h l = h

    scope_of_in : (scope : Scope) (n : ℕ) (ss : Stmts) (k : ℕ) (q : Path) → ScopeOf ts scope → Located ts n (locals_in ss) → ScopeOf ts (scope_in scope n ss k q)
    scope_of_in scope n (AndStmt s ss) zero q h l = scope_of scope n s q h (located_left ts n (locals s) (locals_in ss) l)
    scope_of_in scope n (AndStmt s ss) (suc k) q h l =
        scope_of_in (extended scope n s) (n + declared s) ss k q (extended_of scope n s h (located_left ts n (locals s) (locals_in ss) l)) (located_right ts n (locals s) (locals_in ss) l)
    scope_of_in scope n NoStmt k q h l = h

    scope_of_arm : (scope : Scope) (n : ℕ) (b : MaybeStmt) (q : Path) → ScopeOf ts scope → Located ts n (locals_arm b) → ScopeOf ts (scope_arm scope n b q)
    scope_of_arm scope n Absent q h l = h
    scope_of_arm scope n (Present s) q h l = scope_of scope n s q h l

-- ---- addresses

-- the variables to which `&` is applied in what stands at a point
abbrev pub simple_addresses : Scope → Stmt → List ℕ
simple_addresses scope (Declare x t start) = addresses_if scope start
simple_addresses scope (Assign e op v) = addresses scope e ++ addresses scope v
simple_addresses scope (Call e g es) = addresses_if scope e ++ addresses scope g ++ addresses_all scope es
simple_addresses scope (Detach e g es) = addresses_if scope e ++ addresses_all scope es
simple_addresses scope (Spawn g es) = addresses_all scope es
simple_addresses scope (Return v) = addresses_if scope v
simple_addresses scope _ = []

abbrev pub found_addresses : Scope → Found → List ℕ
found_addresses scope (Simple s) = simple_addresses scope s
found_addresses scope (Test t) = addresses_if scope t
found_addresses scope Nothing = []

for_parts : (slots : List Slot) (scope : Scope) (n : ℕ) (first : Stmts) (c : Option Expr) (step : MaybeStmt) (s : Stmt) → AllBoxed slots (addresses_by scope n (For first c step s))
    → AllBoxed slots (addresses_in scope n first) × AllBoxed slots (addresses_if (extended_all scope n first) c) × AllBoxed slots (addresses_arm (extended_all scope n first) n step)
    × AllBoxed slots (addresses_by (extended_all scope n first) (n + length (locals_in first)) s)
for_parts slots scope n first c step s h =
    let scope1 = extended_all scope n first in
    let a = addresses_in scope n first in
    let b = addresses_if scope1 c in
    let r = addresses_arm scope1 n step in
    let l = addresses_by scope1 (n + length (locals_in first)) s in
    let h1 = boxed_left slots (a ++ b ++ r) l h in
    let h2 = boxed_left slots (a ++ b) r h1 in
    (boxed_left slots a b h2, boxed_right slots a b h2, boxed_right slots (a ++ b) r h1, boxed_right slots (a ++ b ++ r) l h)

module _ (slots : List Slot) (d : Dialect) (p : Program) (f : Function) where
  step_boxed : (scope : Scope) (n : ℕ) (step : MaybeStmt) (q : Path) → StepTyped d p f scope step → AllBoxed slots (addresses_arm scope n step) → AllBoxed slots (found_addresses scope (found_arm step q))
  step_boxed scope n Absent q t h = tt
  step_boxed scope n (Present (Assign x op e)) [] t h = h
  step_boxed scope n (Present (Assign x op e)) (k ∷ q) t h = tt
  step_boxed scope n (Present (Call x g es)) [] t h = h
  step_boxed scope n (Present (Call x g es)) (k ∷ q) t h = tt
  step_boxed scope n (Present (Detach x g es)) [] t h = h
  step_boxed scope n (Present (Detach x g es)) (k ∷ q) t h = tt
  step_boxed scope n (Present _) q t h = absurd t

  mutual
    found_boxed : (scope : Scope) (n : ℕ) (s : Stmt) (q : Path) → BodyTyped d p f scope n s → AllBoxed slots (addresses_by scope n s) → AllBoxed slots (found_addresses (scope_at scope n s q) (found s q))
    found_boxed scope n (Block NoStmt) [] t h = tt
    found_boxed scope n (Block NoStmt) (k ∷ q) t h = tt
    found_boxed scope n (Block (AndStmt s ss)) (Nth k ∷ q) t h = found_boxed_in scope n (AndStmt s ss) k q t h
    found_boxed scope n (Block (AndStmt s ss)) _ t h = tt
    found_boxed scope n Empty [] t h = tt
    found_boxed scope n Empty (k ∷ q) t h = tt
    found_boxed scope n (Declare x u start) [] t h = h
    found_boxed scope n (Declare x u start) (k ∷ q) t h = tt
    found_boxed scope n (Assign e op v) [] t h = h
    found_boxed scope n (Assign e op v) (k ∷ q) t h = tt
    found_boxed scope n (Call e g es) [] t h = h
    found_boxed scope n (Call e g es) (k ∷ q) t h = tt
    found_boxed scope n (Detach e g es) [] t h = h
    found_boxed scope n (Detach e g es) (k ∷ q) t h = tt
    found_boxed scope n (Spawn g es) [] t h = h
    found_boxed scope n (Spawn g es) (k ∷ q) t h = tt
    found_boxed scope n (Goto l) [] t h = tt
    found_boxed scope n (Goto l) (k ∷ q) t h = tt
    found_boxed scope n Break [] t h = tt
    found_boxed scope n Break (k ∷ q) t h = tt
    found_boxed scope n Continue [] t h = tt
    found_boxed scope n Continue (k ∷ q) t h = tt
    found_boxed scope n (Return v) [] t h = h
    found_boxed scope n (Return v) (k ∷ q) t h = tt
    found_boxed scope n (If c a b) (TheTest ∷ []) t h = boxed_left slots (addresses scope c) (addresses_by scope n a) (boxed_left slots (addresses scope c ++ addresses_by scope n a) (addresses_arm scope (n + declared a) b) h)
    found_boxed scope n (If c a b) (TheYes ∷ q) t h =
        found_boxed scope n a q t.1 (boxed_right slots (addresses scope c) (addresses_by scope n a) (boxed_left slots (addresses scope c ++ addresses_by scope n a) (addresses_arm scope (n + declared a) b) h))
    found_boxed scope n (If c a b) (TheNo ∷ q) t h = found_boxed_arm scope (n + declared a) b q t.2 (boxed_right slots (addresses scope c ++ addresses_by scope n a) (addresses_arm scope (n + declared a) b) h)
    found_boxed scope n (If c a b) _ t h = tt
    found_boxed scope n (While c s) (TheTest ∷ []) t h = boxed_left slots (addresses scope c) (addresses_by scope n s) h
    found_boxed scope n (While c s) (TheBody ∷ q) t h = found_boxed scope n s q t.1 (boxed_right slots (addresses scope c) (addresses_by scope n s) h)
    found_boxed scope n (While c s) _ t h = tt
    found_boxed scope n (DoWhile s c) (TheBody ∷ q) t h = found_boxed scope n s q t.0 (boxed_left slots (addresses_by scope n s) (addresses scope c) h)
    found_boxed scope n (DoWhile s c) (TheTest ∷ []) t h = boxed_right slots (addresses_by scope n s) (addresses scope c) h
    found_boxed scope n (DoWhile s c) _ t h = tt
    found_boxed scope n (For first c step s) (Nth k ∷ q) t h = found_boxed_in scope n first k q t.0 (for_parts slots scope n first c step s h).0
    found_boxed scope n (For first c step s) (TheTest ∷ []) t h = (for_parts slots scope n first c step s h).1
    found_boxed scope n (For first c step s) (TheStep ∷ q) t h = step_boxed (extended_all scope n first) n step q t.2 (for_parts slots scope n first c step s h).2
    found_boxed scope n (For first c step s) (TheBody ∷ q) t h = found_boxed (extended_all scope n first) (n + length (locals_in first)) s q t.3 (for_parts slots scope n first c step s h).3
    found_boxed scope n (For first c step s) _ t h = tt
    found_boxed scope n (Label l s) (TheBody ∷ q) t h = found_boxed scope n s q t h
    found_boxed scope n (Label l s) _ t h = tt

    found_boxed_in : (scope : Scope) (n : ℕ) (ss : Stmts) (k : ℕ) (q : Path) → AllTyped d p f scope n ss → AllBoxed slots (addresses_in scope n ss) → AllBoxed slots (found_addresses (scope_in scope n ss k q) (found_in ss k q))
    found_boxed_in scope n (AndStmt s ss) zero q t h = found_boxed scope n s q t.0 (boxed_left slots (addresses_by scope n s) (addresses_in (extended scope n s) (n + declared s) ss) h)
    found_boxed_in scope n (AndStmt s ss) (suc k) q t h =
        found_boxed_in (extended scope n s) (n + declared s) ss k q t.1 (boxed_right slots (addresses_by scope n s) (addresses_in (extended scope n s) (n + declared s) ss) h)
    found_boxed_in scope n NoStmt k q t h = tt

    found_boxed_arm : (scope : Scope) (n : ℕ) (b : MaybeStmt) (q : Path) → ArmTyped d p f scope n b → AllBoxed slots (addresses_arm scope n b) → AllBoxed slots (found_addresses (scope_arm scope n b q) (found_arm b q))
    found_boxed_arm scope n Absent q t h = tt
    found_boxed_arm scope n (Present s) q t h = found_boxed scope n s q t h

-- ---- functions

located_under : (ts : List Ty) (t : Ty) (n : ℕ) (xs : List Variable) → Located ts n xs → Located (t ∷ ts) (suc n) xs
located_under ts t n [] h = tt
located_under ts t n (x ∷ xs) h = (h.0, located_under ts t (suc n) xs h.1)

located_here : (xs : List Variable) → Located (map (λ (x : Variable). x.type) xs) 0 xs
located_here [] = tt
located_here (x ∷ xs) = (refl, located_under (map (λ (x : Variable). x.type) xs) x.type 0 xs (located_here xs))

located_behind : (ps : List Parameter) (xs : List Variable) → Located (map (λ (x : Variable). x.type) (map as_variable ps ++ xs)) (length ps) xs
located_behind [] xs = located_here xs
located_behind (p ∷ ps) xs = located_under (map (λ (x : Variable). x.type) (map as_variable ps ++ xs)) p.type (length ps) xs (located_behind ps xs)

parameters_of : (ts : List Ty) (n : ℕ) (ps : List Parameter) (scope : Scope) → ScopeOf ts scope → Located ts n (map as_variable ps) → ScopeOf ts (parameter_scope n ps scope)
parameters_of ts n [] scope h l = h
parameters_of ts n (p ∷ ps) scope h l = parameters_of ts (suc n) ps (record { called = or_empty p.called; type = p.type; slot = n } ∷ scope) (l.0, h) l.1

-- the names in scope at a path are variables of the function
pub function_scope : (f : Function) (q : Path) → ScopeOf (types_of f) (scope_in_function f q)
function_scope f q =
    scope_of (types_of f) (outer_scope f) (length f.parameters) f.body q
    (parameters_of (types_of f) 0 f.parameters [] tt (located_left (types_of f) 0 (map as_variable f.parameters) (locals f.body) (located_here (variables f))))
    (located_behind f.parameters (locals f.body))

-- what stands at a path is typed, and its addresses are taken
pub function_typed : (d : Dialect) (p : Program) (f : Function) (q : Path) → BodyTyped d p f (outer_scope f) (length f.parameters) f.body → FoundTyped d p f (scope_in_function f q) (found f.body q)
function_typed d p f q h = found_typed d p f (outer_scope f) (length f.parameters) f.body q h

pub function_boxed : (slots : List Slot) (d : Dialect) (p : Program) (f : Function) (q : Path) → BodyTyped d p f (outer_scope f) (length f.parameters) f.body → AllBoxed slots (addressed f)
    → AllBoxed slots (found_addresses (scope_in_function f q) (found f.body q))
function_boxed slots d p f q t h = found_boxed slots d p f (outer_scope f) (length f.parameters) f.body q t h
