-- Behind the declarations of a flat body the scope stays: at any line, and where a goto leads; and what the loaded names stand for.
use Rattle.std.proofs.Common.{◌≡◌, ℕ, zero, suc, ◌+◌, Bool, true, false, ◌&&◌, cond, List, [], ◌∷◌, ◌++◌, length, map, slice_get, bytes_eq, Some, refl, ◌∙◌, ap, subst, arith}
use Rattle.cpc_base.specs.Bytes.{Text}
use Rattle.cpc_base.proofs.Truth.{and_both, and_holds}
use Rattle.cpc_tree.specs.Syntax.{Stmt, Stmts, NoStmt, AndStmt, Function, Program}
use Rattle.cpc_tree.specs.Typing.{Scope, ALocal, named}
use Rattle.cpc_store.specs.Store.{Value}
use Rattle.cpc_meaning.specs.Eval.{Slot, Register}
use Rattle.cpc_meaning.proofs.Functions.{text_same}
use Rattle.cpc_convert_flat_laws.specs.Flat.{before, dropped, bare, is_flat, is_line, are_flat, are_lines, has_label, label_in, Stands, LineAt}
use Rattle.cpc_convert_flat_laws.specs.Locals.{Load, Holds, loaded_scope}
use Rattle.cpc_convert_flat_laws.proofs.Lines.{line_flat}
use Rattle.cpc_convert_flat_laws.proofs.Rows.{dropped_twice, dropped_before}
use Rattle.cpc_convert_flat_laws.proofs.Labels.{label_at, NoLabel, label_behind}
use Rattle.cpc_convert_flat_laws.proofs.AtLine.{line_passed}

-- ---- lines alone

-- the j-th of the lines that are left
pub stands_on : (g : Function) (body : Stmts) (k : ℕ) (scope : Scope) (n : ℕ) (left : Stmts) (j : ℕ) (s : Stmt) (rest : Stmts) → are_lines left ≡ true → Stands g body k scope n left → dropped j left ≡ AndStmt s rest
    → Stands g body (k + j) scope n (AndStmt s rest)
stands_on g body k scope n left zero s rest lines st e =
    subst (λ ss. Stands g body (k + 0) scope n ss) e (subst (λ i. Stands g body i scope n left) (let z : k ≡ k + 0 = omega arith in z) st)
stands_on g body k scope n NoStmt (suc j) s rest lines st e = absurd (cc)
stands_on g body k scope n (AndStmt t left) (suc j) s rest lines st e =
    let both = and_both (is_line t) (are_lines left) lines in
    let l : LineAt g body k scope n (bare t) left = record { statement = t; stands = st; is_bare = refl; is_line = both.0 } in
    subst (λ i. Stands g body i scope n (AndStmt s rest)) (let z : suc k + j ≡ k + suc j = omega arith in z)
    (stands_on g body (suc k) scope n left j s rest both.1 (line_passed g body k scope n (bare t) left l) e)

-- whether all of these are lines
abbrev pub all_lines : List Stmt → Bool
all_lines [] = true
all_lines (s ∷ ss) = is_line s && all_lines ss

-- behind some lines
pub past_lines : (g : Function) (body : Stmts) (k : ℕ) (scope : Scope) (n : ℕ) (ss : List Stmt) (rest : Stmts) → all_lines ss ≡ true → Stands g body k scope n (before ss rest) → Stands g body (k + length ss) scope n rest
past_lines g body k scope n [] rest lines st = subst (λ j. Stands g body j scope n rest) (let z : k ≡ k + 0 = omega arith in z) st
past_lines g body k scope n (s ∷ ss) rest lines st =
    let both = and_both (is_line s) (all_lines ss) lines in
    let l : LineAt g body k scope n (bare s) (before ss rest) = record { statement = s; stands = st; is_bare = refl; is_line = both.0 } in
    subst (λ j. Stands g body j scope n rest) (let z : suc k + length ss ≡ k + suc (length ss) = omega arith in z)
    (past_lines g body (suc k) scope n ss rest both.1 (line_passed g body k scope n (bare s) (before ss rest) l))

-- where a goto leads among the lines behind a front that has no such label
pub record Leads (g : Function) (front : List Stmt) (scope : Scope) (n : ℕ) (left : Stmts) (l : Text) (j : ℕ) : Type 0 where
  pub statement : Stmt
  pub rest : Stmts
  pub has : has_label l statement ≡ true
  pub label : label_in l (before front left) ≡ Some (length front + j)
  pub there : dropped (length front + j) (before front left) ≡ AndStmt statement rest
  pub stands : Stands g (before front left) (length front + j) scope n (AndStmt statement rest)

pub leads_on : (g : Function) (front : List Stmt) (scope : Scope) (n : ℕ) (left : Stmts) (l : Text) (j : ℕ) → NoLabel l front → are_flat left ≡ true → are_lines left ≡ true → label_in l left ≡ Some j
    → Stands g (before front left) (length front) scope n left → Leads g front scope n left l j
leads_on g front scope n left l j none flat lines e st =
    let m = label_at l left j flat e in
    record {
      statement = m.statement;
      rest = m.rest;
      has = m.has;
      label = label_behind l front left j none e;
      there = dropped_twice (length front) j (before front left) ∙ ap (dropped j) (dropped_before front left) ∙ m.here;
      stands = stands_on g (before front left) (length front) scope n left j m.statement m.rest lines st m.here;
    }

-- lines are flat
pub lines_flat : (ss : Stmts) → are_lines ss ≡ true → are_flat ss ≡ true
lines_flat NoStmt e = refl
lines_flat (AndStmt s ss) e = let both = and_both (is_line s) (are_lines ss) e in and_holds (is_flat s) (are_flat ss) (line_flat s both.0) (lines_flat ss both.1)

-- ---- loaded names

-- none of these is called so
pub data NotLoaded (x : Text) : List Load → Type 0 where
  NoneLoaded : NotLoaded x []
  NotThisLoad : (l : Load) (ls : List Load) → bytes_eq l.variable x ≡ false → NotLoaded x ls → NotLoaded x (l ∷ ls)

-- no two of them are called alike
pub data LoadsApart : List Load → Type 0 where
  NoLoads : LoadsApart []
  AndLoad : (l : Load) (ls : List Load) → NotLoaded l.variable ls → LoadsApart ls → LoadsApart (l ∷ ls)

-- another name stands for what it stood for
pub loaded_other : (q : Program) (x : Text) (scope : Scope) (n : ℕ) (ls : List Load) → NotLoaded x ls → named q (loaded_scope scope n ls) x ≡ named q scope x
loaded_other q x scope n _ NoneLoaded = refl
loaded_other q x scope n _ (NotThisLoad l ls e more) =
    loaded_other q x (record { called = l.variable; type = l.type; slot = n } ∷ scope) (suc n) ls more ∙ ap (λ b. cond b (ALocal n l.type) (named q scope x)) e

-- the i-th of them stands for the i-th local
pub loaded_here : (q : Program) (l : Load) (scope : Scope) (n i : ℕ) (ls : List Load) → LoadsApart ls → slice_get ls i ≡ Some l → named q (loaded_scope scope n ls) l.variable ≡ ALocal (n + i) l.type
loaded_here q l scope n i _ NoLoads e = absurd (cc)
loaded_here q l scope n zero _ (AndLoad m ls apart more) e =
    let f : m ≡ l = cc in
    let inner : Scope = record { called = m.variable; type = m.type; slot = n } ∷ scope in
    subst (λ z. named q (loaded_scope inner (suc n) ls) z.variable ≡ ALocal (n + 0) z.type) f
    (loaded_other q m.variable inner (suc n) ls apart ∙ ap (λ b. cond b (ALocal n m.type) (named q scope m.variable)) (text_same m.variable) ∙ ap (λ k. ALocal k m.type) (let z : n ≡ n + 0 = omega arith in z))
loaded_here q l scope n (suc i) _ (AndLoad m ls apart more) e =
    loaded_here q l (record { called = m.variable; type = m.type; slot = n } ∷ scope) (suc n) i ls more e ∙ ap (λ k. ALocal k l.type) (let z : suc n + i ≡ n + suc i = omega arith in z)

-- its slot
pub loaded_slot : (done more : List Slot) (vs : List Value) (i : ℕ) (v : Value) → slice_get vs i ≡ Some v → slice_get ((done ++ map Register vs) ++ more) (length done + i) ≡ Some (Register v)
loaded_slot [] more vs i v e = ap (slice_get (map Register vs ++ more)) (let z : 0 + i ≡ i = omega arith in z) ∙ in_values vs i e
  where
    in_values : (vs : List Value) (i : ℕ) → slice_get vs i ≡ Some v → slice_get (map Register vs ++ more) i ≡ Some (Register v)
    in_values [] i e = absurd (cc)
    in_values (u ∷ vs) zero e = let f : u ≡ v = cc in ap (λ z. Some (Register z)) f
    in_values (u ∷ vs) (suc i) e = in_values vs i e
loaded_slot (x ∷ done) more vs i v e = ap (slice_get (x ∷ (done ++ map Register vs) ++ more)) (let z : suc (length done) + i ≡ suc (length done + i) = omega arith in z) ∙ loaded_slot done more vs i v e

-- so each variable holds the value that was loaded
pub loaded_holds : (q : Program) (scope : Scope) (done more : List Slot) (ls : List Load) (vs : List Value) (i : ℕ) (l : Load) (v : Value) → LoadsApart ls → slice_get ls i ≡ Some l → slice_get vs i ≡ Some v
    → Holds q (loaded_scope scope (length done) ls) ((done ++ map Register vs) ++ more) l.variable l.type v
loaded_holds q scope done more ls vs i l v apart is_load is_value = record { slot = length done + i; is_local = loaded_here q l scope (length done) i ls apart is_load; is_slot = loaded_slot done more vs i v is_value }
