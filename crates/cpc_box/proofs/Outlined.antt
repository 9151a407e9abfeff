-- What a walk meets is what the definitions find at the points of a body.
use Rattle.std.proofs.Common.{◌≡◌, ℕ, suc, ◌+◌, true, false, List, [], ◌∷◌, ◌++◌, length, map, refl, sym, ap, ◌∙◌}
use Rattle.std.proofs.lemmas.List.{map-append}
use Rattle.cpc_tree.specs.Syntax.{Stmt, Block, Empty, Declare, Assign, Call, Detach, Spawn, If, While, DoWhile, For, Goto, Label, Break, Continue, Return, Stmts, NoStmt, AndStmt, MaybeStmt, Absent, Present, Function, Program}
use Rattle.cpc_tree.specs.Typing.{Scope}
use Rattle.cpc_tree.specs.Points.{Path, Nth, TheTest, TheYes, TheNo, TheStep, TheBody, Found, locals, locals_in, locals_arm, declared, extended, extended_all, scope_at, scope_in, scope_arm}
use Rattle.cpc_tree.specs.Registers.{outer_scope, scope_in_function}
use Rattle.cpc_forms.specs.Order.{path_later}
use Rattle.cpc_forms.specs.Graph.{Node}
use Rattle.cpc_forms.specs.Table.{Onward, end_node, table, table_in, table_arm, from_body}
use Rattle.cpc_graph_laws.proofs.Tabled.{nodes_made}
use Rattle.cpc_forms_code.specs.Points.{BoxedPoint, boxed_points}
use Rattle.cpc_forms_code.proofs.Forgotten.{point_of, points_forgotten}
use Rattle.cpc_box.specs.Outline.{declares, declares_in, declares_arm, behind, behind_all, here, arrival, the_end, outline, outline_in, outline_arm}

-- ---- what is declared

mutual
  pub declares_open : (s : Stmt) → declares false s ≡ locals s
  declares_open (Block ss) = declares_in_open ss
  declares_open Empty = refl
  declares_open (Declare x t start) = refl
  declares_open (Assign e op v) = refl
  declares_open (Call e f es) = refl
  declares_open (Detach e f es) = refl
  declares_open (Spawn f es) = refl
  declares_open (If t a b) = ap (λ l. l ++ declares_arm false b) (declares_open a) ∙ ap (λ l. locals a ++ l) (declares_arm_open b)
  declares_open (While t s) = declares_open s
  declares_open (DoWhile s t) = declares_open s
  declares_open (For first t step s) = ap (λ l. l ++ declares false s) (declares_in_open first) ∙ ap (λ l. locals_in first ++ l) (declares_open s)
  declares_open (Goto l) = refl
  declares_open (Label l s) = declares_open s
  declares_open Break = refl
  declares_open Continue = refl
  declares_open (Return v) = refl

  declares_in_open : (ss : Stmts) → declares_in false ss ≡ locals_in ss
  declares_in_open NoStmt = refl
  declares_in_open (AndStmt s ss) = ap (λ l. l ++ declares_in false ss) (declares_open s) ∙ ap (λ l. locals s ++ l) (declares_in_open ss)

  declares_arm_open : (b : MaybeStmt) → declares_arm false b ≡ locals_arm b
  declares_arm_open Absent = refl
  declares_arm_open (Present s) = declares_open s

behind_open : (sc : Scope) (n : ℕ) (s : Stmt) → behind false sc n s ≡ extended sc n s
behind_open sc n (Declare x t start) = refl
behind_open sc n (Block ss) = refl
behind_open sc n Empty = refl
behind_open sc n (Assign e op v) = refl
behind_open sc n (Call e f es) = refl
behind_open sc n (Detach e f es) = refl
behind_open sc n (Spawn f es) = refl
behind_open sc n (If t a b) = refl
behind_open sc n (While t s) = refl
behind_open sc n (DoWhile s t) = refl
behind_open sc n (For first t step s) = refl
behind_open sc n (Goto l) = refl
behind_open sc n (Label l s) = refl
behind_open sc n Break = refl
behind_open sc n Continue = refl
behind_open sc n (Return v) = refl

behind_all_open : (sc : Scope) (n : ℕ) (ss : Stmts) → behind_all false sc n ss ≡ extended_all sc n ss
behind_all_open sc n NoStmt = refl
behind_all_open sc n (AndStmt s ss) =
    ap (λ d. behind_all false d (n + length (declares false s)) ss) (behind_open sc n s)
    ∙ (ap (λ xs. behind_all false (extended sc n s) (n + length xs) ss) (declares_open s) ∙ behind_all_open (extended sc n s) (n + declared s) ss)

behind_fixed : (sc : Scope) (n : ℕ) (s : Stmt) → behind true sc n s ≡ sc
behind_fixed sc n (Declare x t start) = refl
behind_fixed sc n (Block ss) = refl
behind_fixed sc n Empty = refl
behind_fixed sc n (Assign e op v) = refl
behind_fixed sc n (Call e f es) = refl
behind_fixed sc n (Detach e f es) = refl
behind_fixed sc n (Spawn f es) = refl
behind_fixed sc n (If t a b) = refl
behind_fixed sc n (While t s) = refl
behind_fixed sc n (DoWhile s t) = refl
behind_fixed sc n (For first t step s) = refl
behind_fixed sc n (Goto l) = refl
behind_fixed sc n (Label l s) = refl
behind_fixed sc n Break = refl
behind_fixed sc n Continue = refl
behind_fixed sc n (Return v) = refl

behind_all_fixed : (sc : Scope) (n : ℕ) (ss : Stmts) → behind_all true sc n ss ≡ sc
behind_all_fixed sc n NoStmt = refl
behind_all_fixed sc n (AndStmt s ss) = ap (λ d. behind_all true d (n + length (declares true s)) ss) (behind_fixed sc n s) ∙ behind_all_fixed sc (n + length (declares true s)) ss

-- ---- points

module _ (p : Program) where
  cons_same : (x y : BoxedPoint) (xs ys : List BoxedPoint) → x ≡ y → xs ≡ ys → x ∷ xs ≡ y ∷ ys
  cons_same x y xs ys e f = ap (λ z. z ∷ xs) e ∙ ap (λ zs. y ∷ zs) f

  both_same : (ms ns : List Node) (xs ys : List BoxedPoint) → map point_of ms ≡ xs → map point_of ns ≡ ys → map point_of (ms ++ ns) ≡ xs ++ ys
  both_same ms ns xs ys e f = map-append point_of ms ns ∙ (ap (λ l. l ++ map point_of ns) e ∙ ap (λ l. xs ++ l) f)

  here_same : (x : Found) (s t : Scope) → s ≡ t → here p s x ≡ here p t x
  here_same x s t e = ap (λ r. here p r x) e

  one : (x : Found) (s t : Scope) → s ≡ t → here p s x ∷ [] ≡ here p t x ∷ []
  one x s t e = ap (λ r. here p r x ∷ []) e

  two : (x : Found) (s t : Scope) → s ≡ t → here p s x ∷ arrival p s x ∷ [] ≡ here p t x ∷ arrival p t x ∷ []
  two x s t e = ap (λ r. here p r x ∷ arrival p r x ∷ []) e

  -- ---- where the scope is fixed

  mutual
    fixed : (s : Stmt) (scope : Path → Scope) (sc : Scope) (m n : ℕ) (w : Onward) → ((path : Path) → scope path ≡ sc) → map point_of (table p s scope m w) ≡ outline p true sc n s
    fixed (Block NoStmt) scope sc m n w h = one _ _ _ (h [])
    fixed (Block (AndStmt s ss)) scope sc m n w h = fixed_in (AndStmt s ss) scope sc m n w (λ k path. h (Nth k ∷ path))
    fixed (Call to f es) scope sc m n w h = two _ _ _ (h [])
    fixed (Detach to f es) scope sc m n w h = two _ _ _ (h [])
    fixed (If t a b) scope sc m n w h =
        cons_same _ _ _ _ (here_same _ _ _ (h (TheTest ∷ [])))
        (both_same _ _ _ _ (fixed a _ sc _ n w (λ path. h (TheYes ∷ path))) (fixed_arm b _ sc _ _ w (λ path. h (TheNo ∷ path))))
    fixed (While t s) scope sc m n w h = cons_same _ _ _ _ (here_same _ _ _ (h (TheTest ∷ []))) (fixed s _ sc _ n _ (λ path. h (TheBody ∷ path)))
    fixed (DoWhile s t) scope sc m n w h = both_same _ _ _ _ (fixed s _ sc _ n _ (λ path. h (TheBody ∷ path))) (one _ _ _ (h (TheTest ∷ [])))
    fixed (For first t step s) scope sc m n w h =
        let e = sym (behind_all_fixed sc n first) in
        both_same _ _ _ _ (fixed_in first scope sc _ n _ (λ k path. h (Nth k ∷ path)))
        (cons_same _ _ _ _ (here_same _ _ _ (h (TheTest ∷ []) ∙ e))
        (both_same _ _ _ _ (fixed_arm step _ (behind_all true sc n first) _ (n + length (declares_in true first)) _ (λ path. h (TheStep ∷ path) ∙ e)) (fixed s _ (behind_all true sc n first) _ _ _ (λ path. h (TheBody ∷ path) ∙ e))))
    fixed (Label l s) scope sc m n w h = fixed s _ sc m n w (λ path. h (TheBody ∷ path))
    fixed (Declare x t start) scope sc m n w h = one _ _ _ (h [])
    fixed Empty scope sc m n w h = one _ _ _ (h [])
    fixed (Assign x op v) scope sc m n w h = one _ _ _ (h [])
    fixed (Spawn f es) scope sc m n w h = one _ _ _ (h [])
    fixed (Goto l) scope sc m n w h = one _ _ _ (h [])
    fixed Break scope sc m n w h = one _ _ _ (h [])
    fixed Continue scope sc m n w h = one _ _ _ (h [])
    fixed (Return v) scope sc m n w h = one _ _ _ (h [])

    fixed_in : (ss : Stmts) (scope : Path → Scope) (sc : Scope) (m n : ℕ) (w : Onward) → ((k : ℕ) (path : Path) → scope (Nth k ∷ path) ≡ sc) → map point_of (table_in p ss scope m w) ≡ outline_in p true sc n ss
    fixed_in NoStmt scope sc m n w h = refl
    fixed_in (AndStmt s ss) scope sc m n w h =
        both_same _ _ _ _ (fixed s _ sc _ n _ (λ path. h 0 path))
        (fixed_in ss (λ path. scope (path_later path)) (behind true sc n s) _ _ w (λ k path. h (suc k) path ∙ sym (behind_fixed sc n s)))

    fixed_arm : (b : MaybeStmt) (scope : Path → Scope) (sc : Scope) (m n : ℕ) (w : Onward) → ((path : Path) → scope path ≡ sc) → map point_of (table_arm p b scope m w) ≡ outline_arm p true sc n b
    fixed_arm Absent scope sc m n w h = refl
    fixed_arm (Present s) scope sc m n w h = fixed s scope sc m n w h

  -- ---- where it is not

  mutual
    pub open_points : (s : Stmt) (scope : Path → Scope) (sc : Scope) (m n : ℕ) (w : Onward) → ((path : Path) → scope path ≡ scope_at sc n s path) → map point_of (table p s scope m w) ≡ outline p false sc n s
    open_points (Block NoStmt) scope sc m n w h = one _ _ _ (h [])
    open_points (Block (AndStmt s ss)) scope sc m n w h = open_in (AndStmt s ss) scope sc m n w (λ k path. h (Nth k ∷ path))
    open_points (Call to f es) scope sc m n w h = two _ _ _ (h [])
    open_points (Detach to f es) scope sc m n w h = two _ _ _ (h [])
    open_points (If t a b) scope sc m n w h =
        cons_same _ _ _ _ (here_same _ _ _ (h (TheTest ∷ [])))
        (both_same _ _ _ _ (open_points a _ sc _ n w (λ path. h (TheYes ∷ path)))
        (open_arm b _ sc _ (n + declared a) w (λ path. h (TheNo ∷ path)) ∙ ap (λ xs. outline_arm p false sc (n + length xs) b) (sym (declares_open a))))
    open_points (While t s) scope sc m n w h = cons_same _ _ _ _ (here_same _ _ _ (h (TheTest ∷ []))) (open_points s _ sc _ n _ (λ path. h (TheBody ∷ path)))
    open_points (DoWhile s t) scope sc m n w h = both_same _ _ _ _ (open_points s _ sc _ n _ (λ path. h (TheBody ∷ path))) (one _ _ _ (h (TheTest ∷ [])))
    open_points (For first t step s) scope sc m n w h =
        let e = sym (behind_all_open sc n first) in
        let inner = extended_all sc n first in
        both_same _ _ _ _ (open_in first scope sc _ n _ (λ k path. h (Nth k ∷ path)))
        (cons_same _ _ _ _ (here_same _ _ _ (h (TheTest ∷ []) ∙ e))
        (both_same _ _ _ _ (fixed_arm step _ (behind_all false sc n first) _ (n + length (declares_in false first)) _ (λ path. h (TheStep ∷ path) ∙ e))
        (open_points s _ inner _ (n + length (locals_in first)) _ (λ path. h (TheBody ∷ path))
        ∙ (ap (λ d. outline p false d (n + length (locals_in first)) s) e ∙ ap (λ xs. outline p false (behind_all false sc n first) (n + length xs) s) (sym (declares_in_open first))))))
    open_points (Label l s) scope sc m n w h = open_points s _ sc m n w (λ path. h (TheBody ∷ path))
    open_points (Declare x t start) scope sc m n w h = one _ _ _ (h [])
    open_points Empty scope sc m n w h = one _ _ _ (h [])
    open_points (Assign x op v) scope sc m n w h = one _ _ _ (h [])
    open_points (Spawn f es) scope sc m n w h = one _ _ _ (h [])
    open_points (Goto l) scope sc m n w h = one _ _ _ (h [])
    open_points Break scope sc m n w h = one _ _ _ (h [])
    open_points Continue scope sc m n w h = one _ _ _ (h [])
    open_points (Return v) scope sc m n w h = one _ _ _ (h [])

    open_in : (ss : Stmts) (scope : Path → Scope) (sc : Scope) (m n : ℕ) (w : Onward) → ((k : ℕ) (path : Path) → scope (Nth k ∷ path) ≡ scope_in sc n ss k path) → map point_of (table_in p ss scope m w) ≡ outline_in p false sc n ss
    open_in NoStmt scope sc m n w h = refl
    open_in (AndStmt s ss) scope sc m n w h =
        both_same _ _ _ _ (open_points s _ sc _ n _ (λ path. h 0 path))
        (open_in ss (λ path. scope (path_later path)) (extended sc n s) _ (n + declared s) w (λ k path. h (suc k) path)
        ∙ (ap (λ d. outline_in p false d (n + declared s) ss) (sym (behind_open sc n s)) ∙ ap (λ xs. outline_in p false (behind false sc n s) (n + length xs) ss) (sym (declares_open s))))

    open_arm : (b : MaybeStmt) (scope : Path → Scope) (sc : Scope) (m n : ℕ) (w : Onward) → ((path : Path) → scope path ≡ scope_arm sc n b path) → map point_of (table_arm p b scope m w) ≡ outline_arm p false sc n b
    open_arm Absent scope sc m n w h = refl
    open_arm (Present s) scope sc m n w h = open_points s scope sc m n w h

  -- ---- a function

  pub all_points : (f : Function) → boxed_points p f ≡ outline p false (outer_scope f) (length f.parameters) f.body ++ the_end ∷ []
  all_points f =
      points_forgotten p f
      ∙ (ap (map point_of) (nodes_made p f)
      ∙ both_same (table p f.body (scope_in_function f) 0 (from_body f.body)) (end_node ∷ []) _ (the_end ∷ []) (open_points f.body (scope_in_function f) (outer_scope f) 0 (length f.parameters) (from_body f.body) (λ path. refl)) refl)
