-- What is noted of a body, statement by statement.
use Rattle.std.proofs.Common.{◌≡◌, ℕ, ◌+◌, ◌-◌, ◌<◌, true, false, List, [], ◌∷◌, ◌++◌, length, get_or, map, take, drop, slice_set, refl, sym, ap, ◌∙◌, append_assoc, length-append, arith, Option, Result, Ok, Err, OnOk}
use Rattle.std.proofs.lemmas.List.{length-map, set-append_right, take-map}
use Rattle.cpc_tree.specs.declared.program.Statement.{Statement}
use Rattle.cpc_tree.specs.Lists.{is_empty}
use Rattle.cpc_tree.specs.Syntax.{Stmt, Stmts, MaybeStmt, NoStmt, Block, For, Expr}
use Rattle.cpc_tree.specs.Points.{Here, TheTest, TheStep, TheBody}
use Rattle.cpc_tree.specs.Erase.{Names, stmt_of, list_of}
use Rattle.cpc_tree.proofs.Nodes.{row_more}
use Rattle.cpc_forms.specs.Order.{points_of, points_in, points_arm, within, below}
use Rattle.cpc_forms.specs.Table as F
use Rattle.cpc_forms.specs.Table.{labels_of, labels_in, test_of, body_of}
use Rattle.cpc_forms.proofs.Counts.{row_count}
use Rattle.cpc_graph.specs.declared.marks.Mark.{Mark}
use Rattle.cpc_graph.specs.Ends.{ends_of, ends_in}
use Rattle.cpc_graph.specs.Labels.{labels_seen, label_seen}

-- all names with no text
pub unnamed : Names
unnamed n = []

-- what holds in any case holds where the call succeeds
pub on_any : {X Y : Type 0} {Q : Type 0} (r : Result X Y) → Q → OnOk r Q
on_any (Ok x) q = q
on_any (Err y) q = tt

-- ---- lists

pub place_within : (xs ys zs : List ℕ) (k : ℕ) → k ≡ length xs → ys ≡ (xs ++ 0 ∷ []) ++ zs → k < length ys
place_within xs ys zs k e p =
    let h = ap length p in
    let i = length-append (xs ++ 0 ∷ []) zs in
    let j = length-append xs (0 ∷ []) in
    let one : length {A = ℕ} (0 ∷ []) ≡ 1 = refl in
    omega arith

set_seam : (xs zs : List ℕ) (a e : ℕ) → slice_set (xs ++ a ∷ zs) (length xs) e ≡ xs ++ e ∷ zs
set_seam xs zs a e =
    set-append_right xs (a ∷ zs) (length xs) (length xs) e refl (omega arith)
    ∙ ap (λ k. xs ++ slice_set (a ∷ zs) k e) (let h : length xs - length xs ≡ 0 = omega arith in h)

-- a number in its place
pub put_place : (xs ys zs ws : List ℕ) (k e f : ℕ) → k ≡ length xs → ys ≡ (xs ++ 0 ∷ []) ++ zs → ws ≡ slice_set ys k e → e ≡ f → ws ≡ xs ++ f ∷ zs
put_place xs ys zs ws k e f i p q r =
    q
    ∙ (ap (λ l. slice_set l k e) (p ∙ append_assoc xs (0 ∷ []) zs)
    ∙ (ap (λ j. slice_set (xs ++ 0 ∷ zs) j e) i
    ∙ (set_seam xs zs 0 e ∙ ap (λ g. xs ++ g ∷ zs) r)))

pub three_added : {A : Type 0} (x a b c y z w : List A) → y ≡ x ++ a → z ≡ y ++ b → w ≡ z ++ c → w ≡ x ++ (a ++ (b ++ c))
three_added x a b c y z w p q r =
    r
    ∙ (ap (λ l. l ++ c) (q ∙ (ap (λ l. l ++ b) p ∙ append_assoc x a b))
    ∙ (append_assoc x (a ++ b) c ∙ ap (λ l. x ++ l) (append_assoc a b c)))

take_front : {A : Type 0} (xs ys : List A) → take (length xs) (xs ++ ys) ≡ xs
take_front [] ys = refl
take_front (x ∷ xs) ys = ap (λ z. x ∷ z) (take_front xs ys)

-- labels that are dropped again
pub labels_back : (names : Names) (ms bs cs : List Mark) (xs : List F.Marked) (k : ℕ) → k ≡ length ms → labels_seen names bs ≡ labels_seen names ms ++ xs → cs ≡ take k bs → labels_seen names cs ≡ labels_seen names ms
labels_back names ms bs cs xs k i p q =
    ap (labels_seen names) q
    ∙ (sym (take-map (label_seen names) k bs)
    ∙ (ap (take k) p
    ∙ (ap (λ j. take j (labels_seen names ms ++ xs)) (i ∙ sym (length-map ms (label_seen names)))
    ∙ take_front (labels_seen names ms) xs)))

-- ---- blocks

pub none_row : (names : Names) (row : List Statement) → is_empty row ≡ true → list_of names row ≡ NoStmt
none_row names [] h = refl
none_row names (s ∷ row) h = absurd cc

pub some_points : (names : Names) (row : List Statement) → is_empty row ≡ false → points_in (list_of names row) ≡ points_of (Block (list_of names row))
some_points names [] h = absurd cc
some_points names (s ∷ row) h = refl

-- ---- rows

-- how many points a `for` has
pub for_count : (n : ℕ) (first : Stmts) (t : Option Expr) (step : MaybeStmt) (s : Stmt) → n + length (points_of (For first t step s)) ≡ body_of step (test_of first n) + length (points_of s)
for_count n first t step s =
    let i = length-append (points_in first) (Here (TheTest ∷ []) ∷ (within TheStep (points_arm step) ++ within TheBody (points_of s))) in
    let j = length-append (within TheStep (points_arm step)) (within TheBody (points_of s)) in
    let k = length-map (points_arm step) (below TheStep) in
    let l = length-map (points_of s) (below TheBody) in
    let m : length (Here (TheTest ∷ []) ∷ (within TheStep (points_arm step) ++ within TheBody (points_of s))) ≡ length (within TheStep (points_arm step) ++ within TheBody (points_of s)) + 1 = omega arith in
    omega arith

module _ (names : Names) (row : List Statement) (i : ℕ) (s : Statement) (h : i < length row) (e : s ≡ get_or row i s) where
  pub points_more : (n m : ℕ) → m ≡ n + length (points_of (stmt_of names s)) → m + length (points_in (list_of names (drop (i + 1) row))) ≡ n + length (points_in (list_of names (drop i row)))
  points_more n m c =
      let rest = list_of names (drop (i + 1) row) in
      let q = ap (λ ss. length (points_in ss)) (row_more names row i s h e) in
      let k = row_count (stmt_of names s) rest in
      omega arith

  pub ends_more : (n m : ℕ) (xs ys : List ℕ) → m ≡ n + length (points_of (stmt_of names s)) → ys ≡ xs ++ (n + length (points_of (stmt_of names s))) ∷ ends_of (stmt_of names s) n
      → ys ++ ends_in (list_of names (drop (i + 1) row)) m ≡ xs ++ ends_in (list_of names (drop i row)) n
  ends_more n m xs ys c p =
      let rest = list_of names (drop (i + 1) row) in
      let t = stmt_of names s in
      ap (λ l. l ++ ends_in rest m) p
      ∙ (append_assoc xs ((n + length (points_of t)) ∷ ends_of t n) (ends_in rest m)
      ∙ (ap (λ j. xs ++ ((n + length (points_of t)) ∷ (ends_of t n ++ ends_in rest j))) c
      ∙ ap (λ ss. xs ++ ends_in ss n) (sym (row_more names row i s h e))))

  pub labels_more : (n m : ℕ) (xs ys : List F.Marked) → m ≡ n + length (points_of (stmt_of names s)) → ys ≡ xs ++ labels_of (stmt_of names s) n
      → ys ++ labels_in (list_of names (drop (i + 1) row)) m ≡ xs ++ labels_in (list_of names (drop i row)) n
  labels_more n m xs ys c p =
      let rest = list_of names (drop (i + 1) row) in
      let t = stmt_of names s in
      ap (λ l. l ++ labels_in rest m) p
      ∙ (append_assoc xs (labels_of t n) (labels_in rest m)
      ∙ (ap (λ j. xs ++ (labels_of t n ++ labels_in rest j)) c
      ∙ ap (λ ss. xs ++ labels_in ss n) (sym (row_more names row i s h e))))
