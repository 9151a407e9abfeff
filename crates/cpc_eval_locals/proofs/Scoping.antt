-- What a name stands for in the scope at a path, by what it stands for outside.
use Rattle.std.proofs.Common.{◌≡◌, ℕ, zero, suc, ◌+◌, ◌^◌, ◌<◌, map, Bool, true, false, if◌then◌else◌, List, [], ◌∷◌, ◌++◌, length, Some, bytes_eq, refl, sym, ap, ◌∙◌, arith, length-append}
use Rattle.cpc_base.specs.Bytes.{Text}
use Rattle.cpc_tree.specs.Syntax as S
use Rattle.cpc_tree.specs.Syntax.{Ty, Stmt, Stmts, NoStmt, AndStmt, MaybeStmt, Absent, Present, Parameter}
use Rattle.cpc_tree.specs.Typing.{Scope}
use Rattle.cpc_tree.specs.Points.{Path, Nth, TheTest, TheYes, TheNo, TheStep, TheBody, declared, locals, locals_in, extended, extended_all, scope_at, scope_in, scope_arm}
use Rattle.cpc_tree.specs.Registers.{or_empty, parameter_scope, scope_in_function}
use Rattle.cpc_tree.specs.declared.program.Function as GFunction
use Rattle.cpc_tree.specs.Erase.{Names, stmt_of, parameter_of, function_of}
use Rattle.cpc_tree.proofs.Counted.{sum_capped}
use Rattle.std.proofs.lemmas.List.{length-map}
use Rattle.cpc_eval_values.specs.Counted.{capped}
use Rattle.cpc_eval_locals.specs.Held.{Held, local_in, capped_held, held_among, held_from, held_after, held_behind, count_behind, held_at, held_in, held_arm}

held_if : (b : Bool) (n : ℕ) (t : Ty) (o : Held) → capped_held (if b then Some (n, t) else o) ≡ (if b then Some (capped n, t) else capped_held o)
held_if true n t o = refl
held_if false n t o = refl

-- after one statement of a row, and after all
after_is : (x : Text) (scope : Scope) (n : ℕ) (s : Stmt) → capped_held (local_in (extended scope n s) x) ≡ held_after x (capped n) (capped_held (local_in scope x)) s
after_is x scope n (S.Declare y t start) = held_if (bytes_eq y x) n t (local_in scope x)
after_is x scope n _ = refl

behind_is : (x : Text) (scope : Scope) (n : ℕ) (ss : Stmts) → capped_held (local_in (extended_all scope n ss) x) ≡ held_behind x (capped n) (capped_held (local_in scope x)) ss
behind_is x scope n NoStmt = refl
behind_is x scope n (AndStmt s ss) =
    behind_is x (extended scope n s) (n + declared s) ss
    ∙ ap (λ o. held_behind x (capped (n + declared s)) o ss) (after_is x scope n s)
    ∙ ap (λ m. held_behind x m (held_after x (capped n) (capped_held (local_in scope x)) s) ss) (sym (sum_capped n (declared s)))

count_is : (n : ℕ) (ss : Stmts) → count_behind (capped n) ss ≡ capped (n + length (locals_in ss))
count_is n NoStmt = omega arith
count_is n (AndStmt s ss) =
    let e : length (locals s ++ locals_in ss) ≡ declared s + length (locals_in ss) = length-append (locals s) (locals_in ss) in
    let d : n + declared s + length (locals_in ss) ≡ n + length (locals s ++ locals_in ss) = omega arith in
    ap (λ m. count_behind m ss) (sum_capped n (declared s)) ∙ count_is (n + declared s) ss ∙ ap capped d

mutual
  -- at a path
  pub scope_is : (x : Text) (scope : Scope) (n : ℕ) (s : Stmt) (p : Path) → capped_held (local_in (scope_at scope n s p) x) ≡ held_at x (capped n) (capped_held (local_in scope x)) s p
  scope_is x scope n (S.Block ss) (Nth k ∷ p) = row_is x scope n ss k p
  scope_is x scope n (S.If t a b) (TheYes ∷ p) = scope_is x scope n a p
  scope_is x scope n (S.If t a b) (TheNo ∷ p) = arm_is x scope (n + declared a) b p ∙ ap (λ m. held_arm x m (capped_held (local_in scope x)) b p) (sym (sum_capped n (declared a)))
  scope_is x scope n (S.While t s) (TheBody ∷ p) = scope_is x scope n s p
  scope_is x scope n (S.DoWhile s t) (TheBody ∷ p) = scope_is x scope n s p
  scope_is x scope n (S.For first t step s) (Nth k ∷ p) = row_is x scope n first k p
  scope_is x scope n (S.For first t step s) (TheTest ∷ p) = behind_is x scope n first
  scope_is x scope n (S.For first t step s) (TheStep ∷ p) = behind_is x scope n first
  scope_is x scope n (S.For first t step s) (TheBody ∷ p) =
      scope_is x (extended_all scope n first) (n + length (locals_in first)) s p
      ∙ ap (λ m. held_at x m (capped_held (local_in (extended_all scope n first) x)) s p) (sym (count_is n first))
      ∙ ap (λ o. held_at x (count_behind (capped n) first) o s p) (behind_is x scope n first)
  scope_is x scope n (S.Label l s) (TheBody ∷ p) = scope_is x scope n s p
  scope_is x scope n (S.Declare y t start) p = after_is x scope n (S.Declare y t start)
  scope_is x scope n _ _ = refl

  row_is : (x : Text) (scope : Scope) (n : ℕ) (ss : Stmts) (k : ℕ) (p : Path) → capped_held (local_in (scope_in scope n ss k p) x) ≡ held_in x (capped n) (capped_held (local_in scope x)) ss k p
  row_is x scope n (AndStmt s ss) zero p = scope_is x scope n s p
  row_is x scope n (AndStmt s ss) (suc k) p =
      row_is x (extended scope n s) (n + declared s) ss k p
      ∙ ap (λ o. held_in x (capped (n + declared s)) o ss k p) (after_is x scope n s)
      ∙ ap (λ m. held_in x m (held_after x (capped n) (capped_held (local_in scope x)) s) ss k p) (sym (sum_capped n (declared s)))
  row_is x scope n NoStmt k p = refl

  arm_is : (x : Text) (scope : Scope) (n : ℕ) (o : MaybeStmt) (p : Path) → capped_held (local_in (scope_arm scope n o p) x) ≡ held_arm x (capped n) (capped_held (local_in scope x)) o p
  arm_is x scope n Absent p = refl
  arm_is x scope n (Present s) p = scope_is x scope n s p

-- among parameters
pub parameters_are : (x : Text) (scope : Scope) (n : ℕ) (ps : List Parameter) → capped_held (local_in (parameter_scope n ps scope) x) ≡ held_from x n (capped_held (local_in scope x)) ps
parameters_are x scope n [] = refl
parameters_are x scope n (p ∷ ps) =
    parameters_are x (record { called = or_empty p.called; type = p.type; slot = n } ∷ scope) (suc n) ps
    ∙ ap (λ o. held_from x (suc n) o ps) (held_if (bytes_eq (or_empty p.called) x) n p.type (local_in scope x))

-- in the scope at a path of a function's body
pub function_is : (names : Names) (f : GFunction.Function) (x : Text) (p : Path) (n : ℕ) (o : Held) → n ≡ length f.parameters.items → n < 2 ^ 64 → o ≡ held_among x 0 (map (parameter_of names) f.parameters.items)
    → held_at x n o (stmt_of names f.body) p ≡ capped_held (local_in (scope_in_function (function_of names f) p) x)
function_is names f x p n o e h is =
    let ps = map (parameter_of names) f.parameters.items in
    let c : n ≡ capped n = omega arith in
    let d : n ≡ length ps = e ∙ sym (length-map f.parameters.items (parameter_of names)) in
    ap (λ m. held_at x m o (stmt_of names f.body) p) (c ∙ ap capped d)
    ∙ ap (λ q. held_at x (capped (length ps)) q (stmt_of names f.body) p) (is ∙ sym (parameters_are x [] 0 ps))
    ∙ sym (scope_is x (parameter_scope 0 ps []) (length ps) (stmt_of names f.body) p)
