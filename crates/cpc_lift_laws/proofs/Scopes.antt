-- Each name in scope at a path of a function's body is a variable of the function.
use Rattle.std.proofs.Common.{◌≡◌, ◌+◌, ◌<◌, ◌≤◌, ℕ, zero, suc, Bool, true, false, List, [], ◌∷◌, ◌++◌, map, length, cond, bytes_eq, subst, arith}
use Rattle.std.proofs.lemmas.List.{length-map, length-append}
use Rattle.cpc_base.specs.Bytes.{Text}
use Rattle.cpc_tree.specs.Lists.{holds_number}
use Rattle.cpc_tree.specs.Syntax.{Stmt, Block, Declare, If, While, DoWhile, For, Label, Stmts, NoStmt, AndStmt, MaybeStmt, Absent, Present, Variable, Parameter}
use Rattle.cpc_tree.specs.Typing.{Scope}
use Rattle.cpc_tree.specs.Points.{Path, Nth, TheTest, TheYes, TheNo, TheStep, TheBody, locals, locals_in, locals_arm, declared, extended, extended_all, scope_at, scope_in, scope_arm}
use Rattle.cpc_tree.specs.Registers.{slot_of, as_variable, variables, or_empty, parameter_scope, outer_scope, scope_in_function}
use Rattle.cpc_lift_laws.specs.Lift.{ScopesAreBelow}
use Rattle.cpc_lift_laws.proofs.Search.{one_more}

-- each local has a number below this one
abbrev AllBelow : ℕ → Scope → Type 0
AllBelow m [] = Unit {0}
AllBelow m (l ∷ scope) = (l.slot < m) × AllBelow m scope

named_below : (m : ℕ) (scope : Scope) → AllBelow m scope → (x : Text) (k : ℕ) → holds_number (slot_of scope x) k ≡ true → k < m
named_below m [] h x k e = absurd (cc)
named_below m (l ∷ scope) h x k e = go (bytes_eq l.called x) (named_below m scope h.1 x k) e
  where
    go : (b : Bool) → (holds_number (slot_of scope x) k ≡ true → k < m) → holds_number (cond b (l.slot ∷ []) (slot_of scope x)) k ≡ true → k < m
    go true rest e = one_more l.slot k [] (k < m) (λ i. subst (λ j. j < m) i h.0) (λ g. absurd (cc)) e
    go false rest e = rest e

-- so many variables, and those of a part of what declares them
first_of : (m n : ℕ) (xs ys : List Variable) → n + length (xs ++ ys) ≤ m → n + length xs ≤ m
first_of m n xs ys le = let e = length-append xs ys in omega (arith, le, e)

second_of : (m n : ℕ) (xs ys : List Variable) → n + length (xs ++ ys) ≤ m → n + length xs + length ys ≤ m
second_of m n xs ys le = let e = length-append xs ys in omega (arith, le, e)

module _ (m : ℕ) where
  extended_below : (scope : Scope) (n : ℕ) (s : Stmt) → AllBelow m scope → n + length (locals s) ≤ m → AllBelow m (extended scope n s)
  extended_below scope n (Declare x t start) h le = (omega (arith, le), h)
  extended_below scope n _ h le = h

  all_below : (scope : Scope) (n : ℕ) (ss : Stmts) → AllBelow m scope → n + length (locals_in ss) ≤ m → AllBelow m (extended_all scope n ss)
  all_below scope n NoStmt h le = h
  all_below scope n (AndStmt s ss) h le =
      all_below (extended scope n s) (n + declared s) ss (extended_below scope n s h (first_of m n (locals s) (locals_in ss) le)) (second_of m n (locals s) (locals_in ss) le)

  mutual
    scope_below : (scope : Scope) (n : ℕ) (s : Stmt) (q : Path) → AllBelow m scope → n + length (locals s) ≤ m → AllBelow m (scope_at scope n s q)
    scope_below scope n (Block ss) (Nth k ∷ q) h le = scope_below_in scope n ss k q h le
    scope_below scope n (If t a b) (TheYes ∷ q) h le = scope_below scope n a q h (first_of m n (locals a) (locals_arm b) le)
    scope_below scope n (If t a b) (TheNo ∷ q) h le = scope_below_arm scope (n + declared a) b q h (second_of m n (locals a) (locals_arm b) le)
    scope_below scope n (While t s) (TheBody ∷ q) h le = scope_below scope n s q h le
    scope_below scope n (DoWhile s t) (TheBody ∷ q) h le = scope_below scope n s q h le
    scope_below scope n (For first t step s) (Nth k ∷ q) h le = scope_below_in scope n first k q h (first_of m n (locals_in first) (locals s) le)
    scope_below scope n (For first t step s) (TheTest ∷ q) h le = all_below scope n first h (first_of m n (locals_in first) (locals s) le)
    scope_below scope n (For first t step s) (TheStep ∷ q) h le = all_below scope n first h (first_of m n (locals_in first) (locals s) le)
    scope_below scope n (For first t step s) (TheBody ∷ q) h le =
        scope_below (extended_all scope n first) (n + length (locals_in first)) s q (all_below scope n first h (first_of m n (locals_in first) (locals s) le)) (second_of m n (locals_in first) (locals s) le)
    scope_below scope n (Label l s) (TheBody ∷ q) h le = scope_below scope n s q h le
    scope_below scope n (Declare x t start) q h le = (omega (arith, le), h)
    scope_below scope n _ _ h le = h

    scope_below_in : (scope : Scope) (n : ℕ) (ss : Stmts) (k : ℕ) (q : Path) → AllBelow m scope → n + length (locals_in ss) ≤ m → AllBelow m (scope_in scope n ss k q)
    scope_below_in scope n (AndStmt s ss) zero q h le = scope_below scope n s q h (first_of m n (locals s) (locals_in ss) le)
    scope_below_in scope n (AndStmt s ss) (suc k) q h le =
        scope_below_in (extended scope n s) (n + declared s) ss k q (extended_below scope n s h (first_of m n (locals s) (locals_in ss) le)) (second_of m n (locals s) (locals_in ss) le)
    scope_below_in scope n NoStmt k q h le = h

    scope_below_arm : (scope : Scope) (n : ℕ) (b : MaybeStmt) (q : Path) → AllBelow m scope → n + length (locals_arm b) ≤ m → AllBelow m (scope_arm scope n b q)
    scope_below_arm scope n Absent q h le = h
    scope_below_arm scope n (Present s) q h le = scope_below scope n s q h le

  parameters_below : (n : ℕ) (ps : List Parameter) (scope : Scope) → AllBelow m scope → n + length ps ≤ m → AllBelow m (parameter_scope n ps scope)
  parameters_below n [] scope h le = h
  parameters_below n (p ∷ ps) scope h le = parameters_below (suc n) ps (record { called = or_empty p.called; type = p.type; slot = n } ∷ scope) (omega (arith, le), h) (omega (arith, le))

pub scopes_are_below : ScopesAreBelow
scopes_are_below f path x k e =
    let m = length (variables f) in
    let a = length-append (map as_variable f.parameters) (locals f.body) in
    let b = length-map f.parameters as_variable in
    let all : length f.parameters + length (locals f.body) ≤ m = omega (arith, a, b) in
    let few : 0 + length f.parameters ≤ m = omega (arith, all) in
    named_below m (scope_in_function f path) (scope_below m (outer_scope f) (length f.parameters) f.body path (parameters_below m 0 f.parameters [] tt few) all) x k e
