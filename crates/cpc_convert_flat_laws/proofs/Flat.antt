-- Positions in the flat body of a function: what stands there, which scope, and where control goes.
use Rattle.std.proofs.Common.{◌≡◌, ℕ, zero, suc, ◌+◌, Bool, true, ◌∷◌, length, Some, refl, sym, ◌∙◌, ap}
use Rattle.cpc_base.specs.Bytes.{Text}
use Rattle.cpc_tree.specs.Syntax.{Expr, Stmt, Block, Declare, If, Goto, Label, Stmts, NoStmt, AndStmt, MaybeStmt, Absent, Present, Function, Variable}
use Rattle.cpc_tree.specs.Syntax as S
use Rattle.cpc_tree.specs.Typing.{Scope}
use Rattle.cpc_tree.specs.Points.{Nth, Path, Here, found, enter, Into, Out, ToLabel, after, arrived, at_label, begin, next_point, scope_at, scope_in, extended, declared}
use Rattle.cpc_tree.specs.Registers.{outer_scope, scope_in_function}
use Rattle.cpc_meaning.proofs.Blocks.{found_at}
use Rattle.cpc_convert_flat_laws.specs.Flat.{point_at, dropped, is_flat, are_flat, bare, standing, label_in, scope_to, count_to, Stands}
use Rattle.cpc_convert_flat_laws.proofs.Lines.{LineOne, line_one, leads}
use Rattle.cpc_convert_flat_laws.proofs.Rows.{dropped_more, flat_here, after_at, moved, arrived_onto}
use Rattle.cpc_convert_flat_laws.proofs.Labels.{label_at}

-- the path of the k-th statement
abbrev pub path_at : ℕ → Stmt → Path
path_at k s = Nth k ∷ enter s

-- ---- one flat statement

-- what holds of a flat statement
pub record FlatOne (s : Stmt) : Type 0 where
  pub stands : found s (enter s) ≡ standing (bare s)
  pub scope : (scope : Scope) (n : ℕ) (p : Path) → scope_at scope n s p ≡ extended scope n s
  pub goes : (h : Bool) → after s (enter s) h ≡ leads s h

of_line : (s : Stmt) → LineOne s → FlatOne s
of_line s o = record { stands = o.stands; scope = λ scope n p. o.scope scope n p ∙ sym (o.extends scope n); goes = o.goes }

pub flat_one : (s : Stmt) → is_flat s ≡ true → FlatOne s
flat_one (Declare x t start) f = record { stands = refl; scope = λ scope n p. refl; goes = λ h. refl }
flat_one (Label m s) f = of_line (Label m s) (line_one (Label m s) f)
flat_one (If t a b) f = of_line (If t a b) (line_one (If t a b) f)
flat_one S.Empty f = of_line S.Empty (line_one S.Empty f)
flat_one (S.Assign x op v) f = of_line (S.Assign x op v) (line_one (S.Assign x op v) f)
flat_one (S.Call x g es) f = of_line (S.Call x g es) (line_one (S.Call x g es) f)
flat_one (S.Detach x g es) f = of_line (S.Detach x g es) (line_one (S.Detach x g es) f)
flat_one (S.Spawn g es) f = of_line (S.Spawn g es) (line_one (S.Spawn g es) f)
flat_one (Goto m) f = of_line (Goto m) (line_one (Goto m) f)
flat_one (S.Return v) f = of_line (S.Return v) (line_one (S.Return v) f)
flat_one (Block ss) f = absurd (cc)
flat_one (S.While t a) f = absurd (cc)
flat_one (S.DoWhile a t) f = absurd (cc)
flat_one (S.For a t b c) f = absurd (cc)
flat_one S.Break f = absurd (cc)
flat_one S.Continue f = absurd (cc)

-- ---- scopes

scope_in_at : (k : ℕ) (scope : Scope) (n : ℕ) (ss : Stmts) (s : Stmt) (rest : Stmts) (p : Path) → dropped k ss ≡ AndStmt s rest
    → scope_in scope n ss k p ≡ scope_at (scope_to scope n k ss) (count_to n k ss) s p
scope_in_at zero scope n NoStmt s rest p e = absurd (cc)
scope_in_at zero scope n (AndStmt t ss) s rest p e = let f : t ≡ s = cc in ap (λ x. scope_at scope n x p) f
scope_in_at (suc k) scope n NoStmt s rest p e = absurd (cc)
scope_in_at (suc k) scope n (AndStmt t ss) s rest p e = scope_in_at k (extended scope n t) (n + declared t) ss s rest p e

scope_next : (k : ℕ) (scope : Scope) (n : ℕ) (ss : Stmts) (s : Stmt) (rest : Stmts) → dropped k ss ≡ AndStmt s rest
    → scope_to scope n (suc k) ss ≡ extended (scope_to scope n k ss) (count_to n k ss) s
scope_next zero scope n NoStmt s rest e = absurd (cc)
scope_next zero scope n (AndStmt t ss) s rest e = let f : t ≡ s = cc in ap (extended scope n) f
scope_next (suc k) scope n NoStmt s rest e = absurd (cc)
scope_next (suc k) scope n (AndStmt t ss) s rest e = scope_next k (extended scope n t) (n + declared t) ss s rest e

count_next : (k n : ℕ) (ss : Stmts) (s : Stmt) (rest : Stmts) → dropped k ss ≡ AndStmt s rest → count_to n (suc k) ss ≡ count_to n k ss + declared s
count_next zero n NoStmt s rest e = absurd (cc)
count_next zero n (AndStmt t ss) s rest e = let f : t ≡ s = cc in ap (λ x. n + declared x) f
count_next (suc k) n NoStmt s rest e = absurd (cc)
count_next (suc k) n (AndStmt t ss) s rest e = count_next k (n + declared t) ss s rest e

-- ---- positions of a function

module _ (g : Function) (body : Stmts) where
  -- the beginning
  pub at_first : g.body ≡ Block body → are_flat body ≡ true → Stands g body 0 (outer_scope g) (length g.parameters) body
  at_first e f = record { is_body = e; flat = f; is_left = refl; is_scope = refl; is_count = refl }

  pub begins : (s : Stmt) (rest : Stmts) → g.body ≡ Block body → body ≡ AndStmt s rest → begin g.body ≡ point_at 0 body
  begins s rest e f = ap begin e ∙ ap (λ b. begin (Block b)) f ∙ ap (point_at 0) (sym f)

  -- any position
  pub at_any : (k : ℕ) → g.body ≡ Block body → are_flat body ≡ true → Stands g body k (scope_to (outer_scope g) (length g.parameters) k body) (count_to (length g.parameters) k body) (dropped k body)
  at_any k e f = record { is_body = e; flat = f; is_left = refl; is_scope = refl; is_count = refl }

  module _ (k : ℕ) (scope : Scope) (n : ℕ) (s : Stmt) (rest : Stmts) (w : Stands g body k scope n (AndStmt s rest)) where
    -- past a statement
    pub passed : Stands g body (suc k) (extended scope n s) (n + declared s) rest
    passed = record {
      is_body = w.is_body;
      flat = w.flat;
      is_left = dropped_more k body s rest w.is_left;
      is_scope = scope_next k (outer_scope g) (length g.parameters) body s rest w.is_left ∙ ap (λ x. extended x (count_to (length g.parameters) k body) s) w.is_scope ∙ ap (λ m. extended scope m s) w.is_count;
      is_count = count_next k (length g.parameters) body s rest w.is_left ∙ ap (λ m. m + declared s) w.is_count;
    }

    one : FlatOne s
    one = flat_one s (flat_here k body s rest w.flat w.is_left)

    -- what stands there
    pub found_here : found g.body (path_at k s) ≡ standing (bare s)
    found_here = ap (λ b. found b (path_at k s)) w.is_body ∙ found_at body k s rest (enter s) w.is_left ∙ one.stands

    -- the scope anywhere in the statement
    pub scope_here : (p : Path) → scope_in_function g (Nth k ∷ p) ≡ extended scope n s
    scope_here p =
        ap (λ b. scope_at (outer_scope g) (length g.parameters) b (Nth k ∷ p)) w.is_body
        ∙ scope_in_at k (outer_scope g) (length g.parameters) body s rest p w.is_left
        ∙ one.scope _ _ p
        ∙ ap (λ x. extended x (count_to (length g.parameters) k body) s) w.is_scope ∙ ap (λ m. extended scope m s) w.is_count

    -- where control goes from a path in it
    pub next_here : (p : Path) (h : Bool) → next_point g.body (Here (Nth k ∷ p)) h ≡ arrived (Block body) (moved k rest (after s p h))
    next_here p h = ap (λ b. next_point b (Here (Nth k ∷ p)) h) w.is_body ∙ ap (arrived (Block body)) (after_at k body s rest p h w.is_left)

    -- to the next statement
    pub next_out : (p : Path) (h : Bool) → after s p h ≡ Out → next_point g.body (Here (Nth k ∷ p)) h ≡ Some (point_at (suc k) rest)
    next_out p h e = next_here p h ∙ ap (λ m. arrived (Block body) (moved k rest m)) e ∙ arrived_onto (Block body) (suc k) rest

    -- to a label
    pub next_label : (p : Path) (h : Bool) (l : Text) (j : ℕ) → after s p h ≡ ToLabel l → label_in l body ≡ Some j → next_point g.body (Here (Nth k ∷ p)) h ≡ Some (point_at j (dropped j body))
    next_label p h l j e i =
        let m = label_at l body j w.flat i in
        next_here p h ∙ ap (λ m. arrived (Block body) (moved k rest m)) e ∙ ap at_label m.leads ∙ ap (λ ss. Some (point_at j ss)) (sym m.here)

    -- into the statement after a test
    pub next_into : (p : Path) (h : Bool) (q : Path) → after s p h ≡ Into q → next_point g.body (Here (Nth k ∷ p)) h ≡ Some (Here (Nth k ∷ q))
    next_into p h q e = next_here p h ∙ ap (λ m. arrived (Block body) (moved k rest m)) e
