-- Each name in scope at a path of a body is the variable of its number.
use Rattle.std.proofs.Common.{◌≡◌, ℕ, zero, suc, ◌+◌, Bool, true, false, cond, List, [], ◌∷◌, ◌++◌, map, length, slice_get, Some, bytes_eq, refl, sym, ◌∙◌, ap, subst, arith}
use Rattle.cpc_base.specs.Bytes.{Text}
use Rattle.cpc_tree.specs.Points.{Path, Nth, TheTest, TheYes, TheNo, TheStep, TheBody, locals, locals_in, locals_arm, declared, extended, extended_all, scope_at, scope_in, scope_arm}
use Rattle.cpc_tree.specs.Registers.{as_variable, variables, or_empty, parameter_scope, outer_scope, scope_in_function}
use Rattle.cpc_tree.specs.Syntax.{Ty, Stmt, Block, Declare, If, While, DoWhile, For, Label, Stmts, NoStmt, AndStmt, MaybeStmt, Absent, Present, Variable, Parameter, Function, StructItem, GlobalItem, PrototypeItem, FunctionItem, Program}
use Rattle.cpc_tree.specs.Typing.{Local, Scope, Meant, ALocal, named, item_named}
use Rattle.cpc_tree.proofs.Named.{no_local}
use Rattle.cpc_meaning.proofs.Functions.{same_text}

-- a variable of this number in scope
abbrev local_at : ℕ → Variable → Local
local_at n x = record { called = x.called; type = x.type; slot = n }

module _ (Q : Local → Type 0) where
  -- it holds of each name in scope
  abbrev Scoped : Scope → Type 0
  Scoped [] = Unit {0}
  Scoped (l ∷ scope) = Q l × Scoped scope

  -- and of these variables, the first of which has this number
  abbrev From : ℕ → List Variable → Type 0
  From n [] = Unit {0}
  From n (x ∷ xs) = Q (local_at n x) × From (suc n) xs

  from_left : (n : ℕ) (xs ys : List Variable) → From n (xs ++ ys) → From n xs
  from_left n [] ys h = tt
  from_left n (x ∷ xs) ys h = (h.0, from_left (suc n) xs ys h.1)

  from_right : (n : ℕ) (xs ys : List Variable) → From n (xs ++ ys) → From (n + length xs) ys
  from_right n [] ys h = let i : n ≡ n + 0 = omega arith in subst (λ m. From m ys) i h
  from_right n (x ∷ xs) ys h = let i : suc n + length xs ≡ n + suc (length xs) = omega arith in subst (λ m. From m ys) i (from_right (suc n) xs ys h.1)

  extended_scoped : (scope : Scope) (n : ℕ) (s : Stmt) → Scoped scope → From n (locals s) → Scoped (extended scope n s)
  extended_scoped scope n (Declare x t start) h k = (k.0, h)
  extended_scoped scope n _ h k = h

  all_scoped : (scope : Scope) (n : ℕ) (ss : Stmts) → Scoped scope → From n (locals_in ss) → Scoped (extended_all scope n ss)
  all_scoped scope n NoStmt h k = h
  all_scoped scope n (AndStmt s ss) h k =
      all_scoped (extended scope n s) (n + declared s) ss (extended_scoped scope n s h (from_left n (locals s) (locals_in ss) k)) (from_right n (locals s) (locals_in ss) k)

  mutual
    at_scoped : (scope : Scope) (n : ℕ) (s : Stmt) (q : Path) → Scoped scope → From n (locals s) → Scoped (scope_at scope n s q)
    at_scoped scope n (Block ss) (Nth i ∷ q) h k = in_scoped scope n ss i q h k
    at_scoped scope n (If t a b) (TheYes ∷ q) h k = at_scoped scope n a q h (from_left n (locals a) (locals_arm b) k)
    at_scoped scope n (If t a b) (TheNo ∷ q) h k = arm_scoped scope (n + declared a) b q h (from_right n (locals a) (locals_arm b) k)
    at_scoped scope n (While t s) (TheBody ∷ q) h k = at_scoped scope n s q h k
    at_scoped scope n (DoWhile s t) (TheBody ∷ q) h k = at_scoped scope n s q h k
    at_scoped scope n (For first t step s) (Nth i ∷ q) h k = in_scoped scope n first i q h (from_left n (locals_in first) (locals s) k)
    at_scoped scope n (For first t step s) (TheTest ∷ q) h k = all_scoped scope n first h (from_left n (locals_in first) (locals s) k)
    at_scoped scope n (For first t step s) (TheStep ∷ q) h k = all_scoped scope n first h (from_left n (locals_in first) (locals s) k)
    at_scoped scope n (For first t step s) (TheBody ∷ q) h k =
        at_scoped (extended_all scope n first) (n + length (locals_in first)) s q (all_scoped scope n first h (from_left n (locals_in first) (locals s) k)) (from_right n (locals_in first) (locals s) k)
    at_scoped scope n (Label l s) (TheBody ∷ q) h k = at_scoped scope n s q h k
    at_scoped scope n (Declare x t start) q h k = (k.0, h)
    at_scoped scope n _ _ h k = h

    in_scoped : (scope : Scope) (n : ℕ) (ss : Stmts) (i : ℕ) (q : Path) → Scoped scope → From n (locals_in ss) → Scoped (scope_in scope n ss i q)
    in_scoped scope n (AndStmt s ss) zero q h k = at_scoped scope n s q h (from_left n (locals s) (locals_in ss) k)
    in_scoped scope n (AndStmt s ss) (suc i) q h k =
        in_scoped (extended scope n s) (n + declared s) ss i q (extended_scoped scope n s h (from_left n (locals s) (locals_in ss) k)) (from_right n (locals s) (locals_in ss) k)
    in_scoped scope n NoStmt i q h k = h

    arm_scoped : (scope : Scope) (n : ℕ) (b : MaybeStmt) (q : Path) → Scoped scope → From n (locals_arm b) → Scoped (scope_arm scope n b q)
    arm_scoped scope n Absent q h k = h
    arm_scoped scope n (Present s) q h k = at_scoped scope n s q h k

  parameters_scoped : (n : ℕ) (ps : List Parameter) (scope : Scope) → Scoped scope → From n (map as_variable ps) → Scoped (parameter_scope n ps scope)
  parameters_scoped n [] scope h k = h
  parameters_scoped n (p ∷ ps) scope h k = parameters_scoped (suc n) ps (record { called = or_empty p.called; type = p.type; slot = n } ∷ scope) (k.0, h) k.1

  function_scoped : (f : Function) (path : Path) → From 0 (variables f) → Scoped (scope_in_function f path)
  function_scoped f path k =
      let ps = from_left 0 (map as_variable f.parameters) (locals f.body) k in
      let rest = from_right 0 (map as_variable f.parameters) (locals f.body) k in
      let i : 0 + length (map as_variable f.parameters) ≡ length f.parameters = same_length f.parameters in
      at_scoped (outer_scope f) (length f.parameters) f.body path (parameters_scoped 0 f.parameters [] tt ps) (subst (λ n. From n (locals f.body)) i rest)
    where
      same_length : (ps : List Parameter) → 0 + length (map as_variable ps) ≡ length ps
      same_length [] = refl
      same_length (p ∷ ps) = let e = same_length ps in omega (arith, e)

-- ---- variables

-- a name in scope is the variable of its number
abbrev IsThat : Function → Local → Type 0
IsThat f l = slice_get (variables f) l.slot ≡ Some (record { called = l.called; type = l.type })

each_that : (f : Function) (n : ℕ) (xs : List Variable) → ((k : ℕ) → slice_get (variables f) (n + k) ≡ slice_get xs k) → From (IsThat f) n xs
each_that f n [] h = tt
each_that f n (x ∷ xs) h =
    let i : n + 0 ≡ n = omega arith in (
      subst (λ m. slice_get (variables f) m ≡ Some x) i (h 0),
      each_that f (suc n) xs (λ k. let j : n + suc k ≡ suc n + k = omega arith in subst (λ m. slice_get (variables f) m ≡ slice_get xs k) j (h (suc k))),
    )

in_scope_that : (f : Function) (path : Path) → Scoped (IsThat f) (scope_in_function f path)
in_scope_that f path = function_scoped (IsThat f) f path (each_that f 0 (variables f) (λ k. let i : 0 + k ≡ k = omega arith in ap (slice_get (variables f)) i))

-- no item is a variable
abbrev pub is_local : Meant → Bool
is_local (ALocal k t) = true
is_local m = false

neither : (b : Bool) (a m : Meant) → is_local a ≡ false → is_local m ≡ false → is_local (cond b a m) ≡ false
neither true a m e f = e
neither false a m e f = f

pub item_no_local : (n : ℕ) (items : Program) (x : Text) → is_local (item_named n items x) ≡ false
item_no_local n [] x = refl
item_no_local n (StructItem tag fs ∷ items) x = item_no_local n items x
item_no_local n (GlobalItem g u start ∷ items) x = neither (bytes_eq g x) _ _ refl (item_no_local (suc n) items x)
item_no_local n (PrototypeItem mode f r ps ∷ items) x = neither (bytes_eq f x) _ _ refl (item_no_local n items x)
item_no_local n (FunctionItem f ∷ items) x = neither (bytes_eq f.called x) _ _ refl (item_no_local n items x)

-- where these names are the variables of their numbers, a name that means a variable is its name
pub meant_that : (p : Program) (f : Function) (scope : Scope) → Scoped (IsThat f) scope → (y : Text) (k : ℕ) (t : Ty) → named p scope y ≡ ALocal k t → slice_get (variables f) k ≡ Some (record { called = y; type = t })
meant_that p f [] h y k t e = absurd (no_local 0 p y k t e)
meant_that p f (l ∷ scope) h y k t e = go (bytes_eq l.called y) refl e (meant_that p f scope h.1 y k t)
  where
    go : (b : Bool) → bytes_eq l.called y ≡ b → cond b (ALocal l.slot l.type) (named p scope y) ≡ ALocal k t → (named p scope y ≡ ALocal k t → slice_get (variables f) k ≡ Some (record { called = y; type = t }))
        → slice_get (variables f) k ≡ Some (record { called = y; type = t })
    go true i e rest =
        let a : l.slot ≡ k = cc in
        let b : l.type ≡ t = cc in
        ap (slice_get (variables f)) (sym a) ∙ h.0 ∙ ap (λ z. Some (record { called = z; type = l.type })) (same_text l.called y i) ∙ ap (λ u. Some (record { called = y; type = u })) b
    go false i e rest = rest e

-- a name that means a variable at a path of a function
pub means_variable : (p : Program) (f : Function) (path : Path) (y : Text) (k : ℕ) (t : Ty) → named p (scope_in_function f path) y ≡ ALocal k t → slice_get (variables f) k ≡ Some (record { called = y; type = t })
means_variable p f path = meant_that p f (scope_in_function f path) (in_scope_that f path)
