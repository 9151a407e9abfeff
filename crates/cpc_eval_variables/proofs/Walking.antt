-- What a walk comes to, statement by statement.
use Rattle.std.proofs.Common.{◌≡◌, ℕ, ◌+◌, ◌-◌, ◌<◌, ◌≤◌, List, [], ◌++◌, length, get_or, map, take, drop, refl, sym, ap, subst, ◌∙◌, append_assoc, length-append, arith, Vec, Box, Global, Option, option_map}
use Rattle.std.proofs.lemmas.List.{length-take, take-take, length-map, map-append}
use Rattle.std.specs.Borrow.{Bor}
use Rattle.cpc_base.specs.declared.stop.Place.{Place}
use Rattle.cpc_tree.specs.declared.program.CType.{CType}
use Rattle.cpc_tree.specs.declared.program.Parameter.{Parameter}
use Rattle.cpc_tree.specs.declared.program.Expr as GExpr
use Rattle.cpc_tree.specs.declared.program.Statement.{Statement}
use Rattle.cpc_tree.specs.declared.program.Word.{Word}
use Rattle.cpc_tree.specs.declared.program.Statement.TheVariants as T
use Rattle.cpc_tree.specs.Syntax.{Ty, Variable, Stmt, For}
use Rattle.cpc_tree.specs.Erase.{Names, type_of, expr_of, stmt_of, list_of, maybe_at, parameter_of}
use Rattle.cpc_tree.specs.Typing as Y
use Rattle.cpc_tree.specs.Points.{locals, locals_in, locals_arm, declared, extended, extended_all}
use Rattle.cpc_tree.specs.Registers.{addresses, addresses_by, addresses_in, addresses_arm, parameter_scope, as_variable}
use Rattle.cpc_tree.proofs.Nodes.{block_seen, if_seen, for_seen, row_more}
use Rattle.cpc_eval_variables.specs.declared.scope.Scope.{Scope}
use Rattle.cpc_eval_variables.specs.Told.{IsTold}
use Rattle.cpc_eval_variables.specs.Scoped.{scope_of, scope_over}
use Rattle.cpc_eval_variables.specs.Typed.{types_in, types_of}
use Rattle.cpc_eval_variables.proofs.Addressing.{both_added}

-- ---- lists that grow

pub kept_longer : {A : Type 0} (xs ys : List A) → take (length ys) xs ≡ ys → length ys ≤ length xs
kept_longer xs ys e = let h = length-take (length ys) xs in let k = ap length e in omega arith

-- what a `for` adds: for its first part and its test, for its step, and for its body
pub header_added : {A : Type 0} (x h c d y v w : List A) → y ≡ x ++ h → v ≡ y ++ c → w ≡ v ++ d → w ≡ x ++ ((h ++ c) ++ d)
header_added x h c d y v w p r s = both_added x (h ++ c) d ((h ++ c) ++ d) v w (both_added x h c (h ++ c) y v p r refl) s refl

-- the types of two lists of variables
pub both_types : (x : List Ty) (a b : List Variable) (y z : List Ty) → y ≡ x ++ types_in a → z ≡ y ++ types_in b → z ≡ x ++ types_in (a ++ b)
both_types x a b y z p q = q ∙ (ap (λ l. l ++ types_in b) p ∙ (append_assoc x (types_in a) (types_in b) ∙ ap (λ l. x ++ l) (sym (map-append (λ (v : Variable). v.type) a b))))

-- how many variables were declared
pub counted : (names : Names) (ts us : List (Bor CType)) (xs : List Variable) → types_of names us ≡ types_of names ts ++ types_in xs → length us ≡ length ts + length xs
counted names ts us xs e =
    sym (length-map us (λ (t : Bor CType). type_of names t.now))
    ∙ (ap length e ∙ (length-append (types_of names ts) (types_in xs)
    ∙ (ap (λ n. n + length (types_in xs)) (length-map ts (λ (t : Bor CType). type_of names t.now))
    ∙ ap (λ n. length ts + n) (length-map xs (λ (x : Variable). x.type)))))

-- ---- scopes

pub told_same : (names : Names) (ps qs : List Parameter) → ps ≡ qs → IsTold names qs → IsTold names ps
told_same names ps qs e told = let P : List Parameter → Type 0 = IsTold names in subst P (sym e) told

-- ---- forms of statements

module _ (names : Names) (e : Statement) where
  pub block_locals : (place : Place) (inner : Vec Statement Global) (row : List Statement) → e ≡ T.Block place inner → row ≡ inner.items → locals_in (list_of names row) ≡ locals (stmt_of names e)
  block_locals place inner row is rows = ap (λ r. locals_in (list_of names r)) rows ∙ ap locals (sym (block_seen names e place inner is))

  pub block_addresses : (scope : Y.Scope) (n : ℕ) (place : Place) (inner : Vec Statement Global) (row : List Statement) → e ≡ T.Block place inner → row ≡ inner.items
      → addresses_in scope n (list_of names row) ≡ addresses_by scope n (stmt_of names e)
  block_addresses scope n place inner row is rows = ap (λ r. addresses_in scope n (list_of names r)) rows ∙ ap (addresses_by scope n) (sym (block_seen names e place inner is))

  pub for_locals : (place : Place) (first : Vec Statement Global) (test : Option GExpr.Expr) (step : Option (Box Statement Global)) (body : Box Statement Global) (row : List Statement) (b : Statement)
      → e ≡ T.For place first test step body → row ≡ first.items → b ≡ body.value → locals_in (list_of names row) ++ locals (stmt_of names b) ≡ locals (stmt_of names e)
  for_locals place first test step body row b is rows bs =
      ap (λ r. locals_in (list_of names r) ++ locals (stmt_of names b)) rows
      ∙ (ap (λ (s : Statement). locals_in (list_of names first.items) ++ locals (stmt_of names s)) bs
      ∙ ap locals (sym (for_seen names e place first test step body is)))

  pub for_addresses : (scope : Y.Scope) (n : ℕ) (place : Place) (first : Vec Statement Global) (test : Option GExpr.Expr) (step : Option (Box Statement Global)) (body : Box Statement Global) (row : List Statement) (b : Statement)
      → e ≡ T.For place first test step body → row ≡ first.items → b ≡ body.value
      → addresses_by scope n (For (list_of names row) (option_map (expr_of names) test) (maybe_at names step) (stmt_of names b)) ≡ addresses_by scope n (stmt_of names e)
  for_addresses scope n place first test step body row b is rows bs =
      ap (λ r. addresses_by scope n (For (list_of names r) (option_map (expr_of names) test) (maybe_at names step) (stmt_of names b))) rows
      ∙ (ap (λ (s : Statement). addresses_by scope n (For (list_of names first.items) (option_map (expr_of names) test) (maybe_at names step) (stmt_of names s))) bs
      ∙ ap (addresses_by scope n) (sym (for_seen names e place first test step body is)))

  pub if_locals : (place : Place) (test : GExpr.Expr) (a : Box Statement Global) (b : Option (Box Statement Global)) (s : Statement) → e ≡ T.If place test a b → s ≡ a.value
      → locals (stmt_of names s) ++ locals_arm (maybe_at names b) ≡ locals (stmt_of names e)
  if_locals place test a b s is es = ap (λ (q : Statement). locals (stmt_of names q) ++ locals_arm (maybe_at names b)) es ∙ ap locals (sym (if_seen names e place test a b is))

  -- a test and two arms, the second in the scope after the first
  pub if_added : (scope behind : Y.Scope) (n m : ℕ) (place : Place) (test : GExpr.Expr) (a : Box Statement Global) (b : Option (Box Statement Global)) (s : Statement) (x y z w : List ℕ)
      → e ≡ T.If place test a b → s ≡ a.value → behind ≡ scope → m ≡ n + declared (stmt_of names s)
      → y ≡ x ++ addresses scope (expr_of names test) → z ≡ y ++ addresses_by scope n (stmt_of names s) → w ≡ z ++ addresses_arm behind m (maybe_at names b)
      → w ≡ x ++ addresses_by scope n (stmt_of names e)
  if_added scope behind n m place test a b s x y z w is es same count k l h =
      let t = addresses scope (expr_of names test) in
      let S : Statement → List ℕ = λ q. addresses_by scope n (stmt_of names q) in
      let R : Statement → List ℕ = λ q. addresses_arm scope (n + declared (stmt_of names q)) (maybe_at names b) in
      let last : w ≡ z ++ R s = h ∙ (ap (λ q. z ++ addresses_arm q m (maybe_at names b)) same ∙ ap (λ i. z ++ addresses_arm scope i (maybe_at names b)) count) in
      both_added x (t ++ S s) (R s) (S e) z w (both_added x t (S s) (t ++ S s) y z k l refl) last
      (ap (addresses_by scope n) (if_seen names e place test a b is) ∙ ap (λ (q : Statement). (t ++ S q) ++ R q) (sym es))

  pub while_added : (scope : Y.Scope) (n : ℕ) (place : Place) (test : GExpr.Expr) (body : Box Statement Global) (s : Statement) (x y z : List ℕ) → e ≡ T.While place test body → s ≡ body.value
      → y ≡ x ++ addresses scope (expr_of names test) → z ≡ y ++ addresses_by scope n (stmt_of names s) → z ≡ x ++ addresses_by scope n (stmt_of names e)
  while_added scope n place test body s x y z is es k h =
      let S : Statement → List ℕ = λ q. addresses_by scope n (stmt_of names q) in
      both_added x (addresses scope (expr_of names test)) (S s) (S e) y z k h (ap S is ∙ ap (λ q. addresses scope (expr_of names test) ++ S q) (sym es))

  pub do_added : (scope behind : Y.Scope) (n : ℕ) (place : Place) (body : Box Statement Global) (test : GExpr.Expr) (s : Statement) (x y z : List ℕ) → e ≡ T.DoWhile place body test → s ≡ body.value
      → behind ≡ scope → y ≡ x ++ addresses_by scope n (stmt_of names s) → z ≡ y ++ addresses behind (expr_of names test) → z ≡ x ++ addresses_by scope n (stmt_of names e)
  do_added scope behind n place body test s x y z is es same k h =
      let S : Statement → List ℕ = λ q. addresses_by scope n (stmt_of names q) in
      both_added x (S s) (addresses scope (expr_of names test)) (S e) y z k (h ∙ ap (λ q. y ++ addresses q (expr_of names test)) same) (ap S is ∙ ap (λ q. S q ++ addresses scope (expr_of names test)) (sym es))

  pub while_locals : (place : Place) (test : GExpr.Expr) (body : Box Statement Global) (s : Statement) → e ≡ T.While place test body → s ≡ body.value → locals (stmt_of names s) ≡ locals (stmt_of names e)
  while_locals place test body s is es =
      let L : Statement → List Variable = λ q. locals (stmt_of names q) in
      ap L es ∙ sym (ap L is)

  pub do_locals : (place : Place) (body : Box Statement Global) (test : GExpr.Expr) (s : Statement) → e ≡ T.DoWhile place body test → s ≡ body.value → locals (stmt_of names s) ≡ locals (stmt_of names e)
  do_locals place body test s is es =
      let L : Statement → List Variable = λ q. locals (stmt_of names q) in
      ap L es ∙ sym (ap L is)

  pub label_locals : (label : Word) (inner : Box Statement Global) (s : Statement) → e ≡ T.Label label inner → s ≡ inner.value → locals (stmt_of names s) ≡ locals (stmt_of names e)
  label_locals label inner s is es =
      let L : Statement → List Variable = λ q. locals (stmt_of names q) in
      ap L es ∙ sym (ap L is)

  pub label_addresses : (scope : Y.Scope) (n : ℕ) (label : Word) (inner : Box Statement Global) (s : Statement) → e ≡ T.Label label inner → s ≡ inner.value
      → addresses_by scope n (stmt_of names s) ≡ addresses_by scope n (stmt_of names e)
  label_addresses scope n label inner s is es =
      let S : Statement → List ℕ = λ q. addresses_by scope n (stmt_of names q) in
      ap S es ∙ sym (ap S is)

-- the number of variables behind a statement
pub later_count : (names : Names) (ts us : List (Bor CType)) (xs : List Variable) (n a b : ℕ) → types_of names us ≡ types_of names ts ++ types_in xs → a ≡ length us → b ≡ length ts → n + (a - b) ≡ n + length xs
later_count names ts us xs n a b e p q = let h = counted names ts us xs e in omega arith

-- types of a row
pub types_more : (names : Names) (row : List Statement) (i : ℕ) (s : Statement) (ts us : List (Bor CType)) → i < length row → s ≡ get_or row i s → types_of names us ≡ types_of names ts ++ types_in (locals (stmt_of names s))
    → types_of names us ++ types_in (locals_in (list_of names (drop (i + 1) row))) ≡ types_of names ts ++ types_in (locals_in (list_of names (drop i row)))
types_more names row i s ts us h e k =
    let rest = list_of names (drop (i + 1) row) in
    ap (λ l. l ++ types_in (locals_in rest)) k
    ∙ (append_assoc (types_of names ts) (types_in (locals (stmt_of names s))) (types_in (locals_in rest))
    ∙ (ap (λ l. types_of names ts ++ l) (sym (map-append (λ (x : Variable). x.type) (locals (stmt_of names s)) (locals_in rest)))
    ∙ ap (λ ss. types_of names ts ++ types_in (locals_in ss)) (sym (row_more names row i s h e))))

-- scopes along a row
pub scope_more : (names : Names) (row : List Statement) (i n m : ℕ) (s : Statement) (before after : Y.Scope) → i < length row → s ≡ get_or row i s → m ≡ n + declared (stmt_of names s) → after ≡ extended before n (stmt_of names s)
    → extended_all after m (list_of names (drop (i + 1) row)) ≡ extended_all before n (list_of names (drop i row))
scope_more names row i n m s before after h e c k =
    let rest = list_of names (drop (i + 1) row) in
    ap (λ l. extended_all l m rest) k ∙ (ap (λ j. extended_all (extended before n (stmt_of names s)) j rest) c ∙ ap (extended_all before n) (sym (row_more names row i s h e)))

-- the addressed along a row
pub addressed_more : (names : Names) (row : List Statement) (i n m : ℕ) (s : Statement) (before after : Y.Scope) (xs ys : List ℕ) → i < length row → s ≡ get_or row i s → m ≡ n + declared (stmt_of names s) → after ≡ extended before n (stmt_of names s)
    → ys ≡ xs ++ addresses_by before n (stmt_of names s)
    → ys ++ addresses_in after m (list_of names (drop (i + 1) row)) ≡ xs ++ addresses_in before n (list_of names (drop i row))
addressed_more names row i n m s before after xs ys h e c k p =
    let rest = list_of names (drop (i + 1) row) in
    ap (λ l. l ++ addresses_in after m rest) p
    ∙ (append_assoc xs (addresses_by before n (stmt_of names s)) (addresses_in after m rest)
    ∙ (ap (λ l. xs ++ (addresses_by before n (stmt_of names s) ++ addresses_in l m rest)) k
    ∙ (ap (λ j. xs ++ (addresses_by before n (stmt_of names s) ++ addresses_in (extended before n (stmt_of names s)) j rest)) c
    ∙ ap (λ ss. xs ++ addresses_in before n ss) (sym (row_more names row i s h e)))))

-- what was kept is kept on
pub kept_on : {A : Type 0} (xs ys zs : List A) → take (length ys) zs ≡ ys → take (length xs) ys ≡ xs → take (length xs) zs ≡ xs
kept_on xs ys zs p q =
    let h = kept_longer ys xs q in
    sym (take-take (length xs) (length ys) zs h) ∙ (ap (take (length xs)) p ∙ q)

-- ---- scopes of the code

pub scope_same : (names : Names) (a b : Scope) → a.parameters.now ≡ b.parameters.now → a.locals.items ≡ b.locals.items → scope_of names a ≡ scope_of names b
scope_same names a b p q =
    ap (λ ps. scope_over names (parameter_scope 0 (map (parameter_of names) ps) []) a.locals.items) p
    ∙ ap (λ ls. scope_over names (parameter_scope 0 (map (parameter_of names) b.parameters.now) []) ls) q

-- ---- a whole function

pub all_types : (names : Names) (ps qs : List Parameter) (xs : List Variable) (y z : List Ty) → qs ≡ ps → y ≡ types_in (map as_variable (map (parameter_of names) qs)) → z ≡ y ++ types_in xs
    → z ≡ types_in (map as_variable (map (parameter_of names) ps) ++ xs)
all_types names ps qs xs y z e p q = both_types [] (map as_variable (map (parameter_of names) ps)) xs y z (p ∙ ap (λ l. types_in (map as_variable (map (parameter_of names) l))) e) q

pub all_addressed : (names : Names) (ps qs : List Parameter) (scope : Y.Scope) (n : ℕ) (body : Stmt) (y z : List ℕ) → qs ≡ ps → scope ≡ parameter_scope 0 (map (parameter_of names) qs) [] → n ≡ length ps → y ≡ []
    → z ≡ y ++ addresses_by scope n body → z ≡ addresses_by (parameter_scope 0 (map (parameter_of names) ps) []) (length (map (parameter_of names) ps)) body
all_addressed names ps qs scope n body y z e at count none h =
    h ∙ (ap (λ l. l ++ addresses_by scope n body) none
    ∙ (ap (λ s. addresses_by s n body) (at ∙ ap (λ l. parameter_scope 0 (map (parameter_of names) l) []) e)
    ∙ ap (λ i. addresses_by (parameter_scope 0 (map (parameter_of names) ps) []) i body) (count ∙ sym (length-map ps (parameter_of names)))))
