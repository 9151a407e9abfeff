-- The ways from the points of a body, statement by statement.
use Rattle.std.proofs.Common.{◌≡◌, ℕ, ◌+◌, ◌<◌, ◌≤◌, Bool, true, false, List, [], ◌∷◌, ◌++◌, length, get_or, drop, Option, Some, refl, sym, ap, ◌∙◌, subst, append_assoc, if◌then◌else◌}
use Rattle.cpc_tree.specs.declared.program.Statement.{Statement}
use Rattle.cpc_tree.specs.Lists.{is_empty, first_or, rest_of}
use Rattle.cpc_tree.specs.Syntax.{Expr, Stmt, Block, Empty, Declare, Assign, Call, Detach, Spawn, If, While, DoWhile, For, Goto, Label, Break, Continue, Return, Stmts, MaybeStmt}
use Rattle.cpc_tree.specs.Erase.{Names, stmt_of, list_of}
use Rattle.cpc_tree.proofs.Nodes.{row_more, row_end}
use Rattle.cpc_forms.specs.Order.{points_of}
use Rattle.cpc_forms.specs.Table as T
use Rattle.cpc_graph.specs.declared.onward.Way.{Way}
use Rattle.cpc_graph.specs.Ends.{ends_of, ends_in, ends_arm}
use Rattle.cpc_graph.specs.Ways.{way, one_way, ways_of, ways_in, ways_arm, header_ways}
use Rattle.cpc_base.specs.Bytes.{Text}
use Rattle.cpc_base.proofs.Lists.{appended_empty}
use Rattle.cpc_graph.specs.declared.labels.Labels.{Labels}
use Rattle.cpc_graph.specs.Labels.{FindsLabels}
use Rattle.cpc_graph.proofs.Marking.{three_added}

pub some_ways : (names : Names) (row : List Statement) (n : ℕ) (w : T.Onward) → is_empty row ≡ false → ways_in (list_of names row) n w ≡ ways_of (Block (list_of names row)) n w
some_ways names [] n w h = absurd cc
some_ways names (s ∷ row) n w h = refl

-- what is left after the first of some numbers
pub front_back : (xs : List ℕ) (a : ℕ) (ys zs more : List ℕ) → xs ≡ (a ∷ (ys ++ zs)) ++ more → rest_of xs ≡ ys ++ (zs ++ more)
front_back xs a ys zs more e = ap rest_of e ∙ append_assoc ys zs more

-- where control goes on from a statement of a row
pub to_the_rest : (names : Names) (rest : List Statement) (n : ℕ) (w : T.Onward) → (if is_empty rest then w else T.going_to n w) ≡ T.to_rest (list_of names rest) n w
to_the_rest names [] n w = refl
to_the_rest names (s ∷ rest) n w = refl

module _ (names : Names) (row : List Statement) (i : ℕ) (s : Statement) (h : i < length row) (e : s ≡ get_or row i s) where
  -- the numbers that were noted of the rest of a row
  pub ends_at : (n : ℕ) (xs more : List ℕ) → xs ≡ ends_in (list_of names (drop i row)) n ++ more
      → xs ≡ ((n + length (points_of (stmt_of names s))) ∷ (ends_of (stmt_of names s) n ++ ends_in (list_of names (drop (i + 1) row)) (n + length (points_of (stmt_of names s))))) ++ more
  ends_at n xs more p = p ∙ ap (λ ss. ends_in ss n ++ more) (row_more names row i s h e)

  pub ways_more : (n m : ℕ) (xs ys : List Way) (w v : T.Onward) → m ≡ n + length (points_of (stmt_of names s)) → v ≡ T.to_rest (list_of names (drop (i + 1) row)) (n + length (points_of (stmt_of names s))) w
      → ys ≡ xs ++ ways_of (stmt_of names s) n v
      → ys ++ ways_in (list_of names (drop (i + 1) row)) m w ≡ xs ++ ways_in (list_of names (drop i row)) n w
  ways_more n m xs ys w v c to p =
      let rest = list_of names (drop (i + 1) row) in
      let t = stmt_of names s in
      ap (λ l. l ++ ways_in rest m w) (p ∙ ap (λ u. xs ++ ways_of t n u) to)
      ∙ (append_assoc xs (ways_of t n (T.to_rest rest (n + length (points_of t)) w)) (ways_in rest m w)
      ∙ (ap (λ j. xs ++ (ways_of t n (T.to_rest rest (n + length (points_of t)) w) ++ ways_in rest j w)) c
      ∙ ap (λ ss. xs ++ ways_in ss n w) (sym (row_more names row i s h e))))

pub finds_same : (names : Names) (t u : Labels) (label : Text → Option ℕ) → t ≡ u → FindsLabels names u label → FindsLabels names t label
finds_same names t u label e f = let P : Labels → Type 0 = λ v. FindsLabels names v label in subst P (sym e) f

two_added : {A : Type 0} (x a b y z : List A) → y ≡ x ++ a → z ≡ y ++ b → z ≡ x ++ (a ++ b)
two_added x a b y z p q = q ∙ (ap (λ l. l ++ b) p ∙ append_assoc x a b)

-- ---- `if`

module _ (s a : Stmt) (b : MaybeStmt) (t : Expr) (is : If t a b ≡ s) (n start other : ℕ) (st : start ≡ n + 1) (xs rs more : List ℕ) (e : xs ≡ ends_of s n ++ more) (ot : other ≡ first_or 0 xs) (r : rs ≡ rest_of xs) where
  if_ends : xs ≡ ((n + 1 + length (points_of a)) ∷ (ends_of a (n + 1) ++ ends_arm b (n + 1 + length (points_of a)))) ++ more
  if_ends = e ∙ ap (λ u. ends_of u n ++ more) (sym is)

  pub if_other : other ≡ n + 1 + length (points_of a)
  if_other = ot ∙ ap (first_or 0) if_ends

  pub if_rest : rs ≡ ends_of a start ++ (ends_arm b (n + 1 + length (points_of a)) ++ more)
  if_rest = r ∙ (front_back xs _ (ends_of a (n + 1)) _ more if_ends ∙ ap (λ k. ends_of a k ++ (ends_arm b (n + 1 + length (points_of a)) ++ more)) (sym st))

  pub if_left : (ls : List ℕ) → ls ≡ ends_arm b (n + 1 + length (points_of a)) ++ more → ls ≡ ends_arm b other ++ more
  if_left ls f = f ∙ ap (λ k. ends_arm b k ++ more) (sym if_other)

  pub if_ways : (w : T.Onward) (x : Way) (u0 u1 u2 u3 : List Way) → x ≡ way (Some start) (T.to_arm b other w.next) → u1 ≡ u0 ++ x ∷ [] → u2 ≡ u1 ++ ways_of a start w → u3 ≡ u2 ++ ways_arm b other w → u3 ≡ u0 ++ ways_of s n w
  if_ways w x u0 u1 u2 u3 i p q k =
      three_added u0 (x ∷ []) (ways_of a start w) (ways_arm b other w) u1 u2 u3 p q k
      ∙ (ap (λ y. u0 ++ (y ∷ (ways_of a start w ++ ways_arm b other w))) i
      ∙ (ap (λ j. u0 ++ (way (Some j) (T.to_arm b other w.next) ∷ (ways_of a j w ++ ways_arm b other w))) st
      ∙ (ap (λ j. u0 ++ (way (Some (n + 1)) (T.to_arm b j w.next) ∷ (ways_of a (n + 1) w ++ ways_arm b j w))) if_other
      ∙ ap (λ u. u0 ++ ways_of u n w) is)))

-- ---- `while`

pub while_ends : (s a : Stmt) (t : Expr) → While t a ≡ s → (n start : ℕ) → start ≡ n + 1 → (xs more : List ℕ) → xs ≡ ends_of s n ++ more → xs ≡ ends_of a start ++ more
while_ends s a t is n start st xs more e = e ∙ (ap (λ u. ends_of u n ++ more) (sym is) ∙ ap (λ k. ends_of a k ++ more) (sym st))

pub while_ways : (s a : Stmt) (t : Expr) → While t a ≡ s → (n start : ℕ) → start ≡ n + 1 → (w v : T.Onward) → v ≡ T.looping n w → (u0 u1 u2 : List Way) → u1 ≡ u0 ++ way (Some start) w.next ∷ [] → u2 ≡ u1 ++ ways_of a start v → u2 ≡ u0 ++ ways_of s n w
while_ways s a t is n start st w v lo u0 u1 u2 p q =
    two_added u0 (way (Some start) w.next ∷ []) (ways_of a start v) u1 u2 p q
    ∙ (ap (λ j. u0 ++ (way (Some j) w.next ∷ ways_of a j v)) st
    ∙ (ap (λ z. u0 ++ (way (Some (n + 1)) w.next ∷ ways_of a (n + 1) z)) lo
    ∙ ap (λ u. u0 ++ ways_of u n w) is))

-- ---- `do`

module _ (s a : Stmt) (t : Expr) (is : DoWhile a t ≡ s) (n test : ℕ) (xs rs more : List ℕ) (e : xs ≡ ends_of s n ++ more) (te : test ≡ first_or 0 xs) (r : rs ≡ rest_of xs) where
  do_ends : xs ≡ ((n + length (points_of a)) ∷ ends_of a n) ++ more
  do_ends = e ∙ ap (λ u. ends_of u n ++ more) (sym is)

  pub do_rest : rs ≡ ends_of a n ++ more
  do_rest = r ∙ ap rest_of do_ends

  pub do_ways : (w v : T.Onward) → v ≡ T.looping test w → (u0 u1 u2 : List Way) → u1 ≡ u0 ++ ways_of a n v → u2 ≡ u1 ++ way (Some n) w.next ∷ [] → u2 ≡ u0 ++ ways_of s n w
  do_ways w v lo u0 u1 u2 p q =
      two_added u0 (ways_of a n v) (way (Some n) w.next ∷ []) u1 u2 p q
      ∙ (ap (λ z. u0 ++ (ways_of a n z ++ (way (Some n) w.next ∷ []))) (lo ∙ ap (λ k. T.looping k w) (te ∙ ap (first_or 0) do_ends))
      ∙ ap (λ u. u0 ++ ways_of u n w) is)

-- ---- `for`

module _ (s a : Stmt) (first : Stmts) (t : Option Expr) (step : MaybeStmt) (is : For first t step a ≡ s) (n : ℕ) where
  pub for_ends : (xs more : List ℕ) → xs ≡ ends_of s n ++ more
      → xs ≡ T.test_of first n ∷ (ends_in first n ++ (T.body_of step (T.test_of first n) ∷ (ends_arm step (T.test_of first n + 1) ++ (ends_of a (T.body_of step (T.test_of first n)) ++ more))))
  for_ends xs more e =
      e
      ∙ (ap (λ u. ends_of u n ++ more) (sym is)
      ∙ (ap (λ l. T.test_of first n ∷ l) (append_assoc (ends_in first n) (T.body_of step (T.test_of first n) ∷ (ends_arm step (T.test_of first n + 1) ++ ends_of a (T.body_of step (T.test_of first n)))) more)
      ∙ ap (λ l. T.test_of first n ∷ (ends_in first n ++ (T.body_of step (T.test_of first n) ∷ l))) (append_assoc (ends_arm step (T.test_of first n + 1)) (ends_of a (T.body_of step (T.test_of first n))) more)))

  pub for_ways : (w v r : T.Onward) (test after turn start : ℕ) → test ≡ T.test_of first n → after ≡ test + 1 → start ≡ T.body_of step (T.test_of first n) → v ≡ T.going_to test w → r ≡ T.looping turn w → turn ≡ T.turn step test
      → (u0 u1 u2 u3 : List Way) → u1 ≡ u0 ++ header_ways first n (T.body_of step (T.test_of first n)) w → u2 ≡ u1 ++ ways_arm step after v → u3 ≡ u2 ++ ways_of a start r → u3 ≡ u0 ++ ways_of s n w
  for_ways w v r test after turn start te af st gv lo tu u0 u1 u2 u3 p q k =
      let m = T.test_of first n in
      let b = T.body_of step m in
      let q' : u2 ≡ u1 ++ ways_arm step (m + 1) (T.going_to m w) =
      q ∙ (ap (λ j. u1 ++ ways_arm step j v) (af ∙ ap (λ j. j + 1) te) ∙ ap (λ z. u1 ++ ways_arm step (m + 1) z) (gv ∙ ap (λ j. T.going_to j w) te)) in
      let k' : u3 ≡ u2 ++ ways_of a b (T.looping (T.turn step m) w) =
      k ∙ (ap (λ j. u2 ++ ways_of a j r) st ∙ ap (λ z. u2 ++ ways_of a b z) (lo ∙ ap (λ j. T.looping j w) (tu ∙ ap (T.turn step) te))) in
      three_added u0 (header_ways first n b w) (ways_arm step (m + 1) (T.going_to m w)) (ways_of a b (T.looping (T.turn step m) w)) u1 u2 u3 p q' k'
      ∙ (ap (λ l. u0 ++ l) (append_assoc (ways_in first n (T.going_to m w)) (way (Some b) w.next ∷ []) (ways_arm step (m + 1) (T.going_to m w) ++ ways_of a b (T.looping (T.turn step m) w)))
      ∙ ap (λ u. u0 ++ ways_of u n w) is)

-- ---- what is one point

abbrev pub is_leaf : Stmt → Bool
is_leaf (Block ss) = false
is_leaf (Call e f es) = false
is_leaf (Detach e f es) = false
is_leaf (If t a b) = false
is_leaf (While t s) = false
is_leaf (DoWhile s t) = false
is_leaf (For first t step s) = false
is_leaf (Label l s) = false
is_leaf _ = true

pub leaf_ways : (s : Stmt) (n : ℕ) (w : T.Onward) → is_leaf s ≡ true → one_way s w ∷ [] ≡ ways_of s n w
leaf_ways (Block ss) n w h = absurd cc
leaf_ways (Call e f es) n w h = absurd cc
leaf_ways (Detach e f es) n w h = absurd cc
leaf_ways (If t a b) n w h = absurd cc
leaf_ways (While t s) n w h = absurd cc
leaf_ways (DoWhile s t) n w h = absurd cc
leaf_ways (For first t step s) n w h = absurd cc
leaf_ways (Label l s) n w h = absurd cc
leaf_ways Empty n w h = refl
leaf_ways (Declare x t start) n w h = refl
leaf_ways (Assign e op v) n w h = refl
leaf_ways (Spawn f es) n w h = refl
leaf_ways (Goto l) n w h = refl
leaf_ways Break n w h = refl
leaf_ways Continue n w h = refl
leaf_ways (Return v) n w h = refl

-- the first part of a `for`, and its test
pub header_added : (names : Names) (row : List Statement) (n test start at : ℕ) (w v : T.Onward) → test ≡ T.test_of (list_of names row) n → start ≡ at → v ≡ T.going_to test w
    → (u0 u1 u2 : List Way) → u1 ≡ u0 ++ ways_in (list_of names row) n v → u2 ≡ u1 ++ way (Some start) w.next ∷ [] → u2 ≡ u0 ++ header_ways (list_of names row) n at w
header_added names row n test start at w v te st gv u0 u1 u2 p q =
    let ss = list_of names row in
    two_added u0 (ways_in ss n v) (way (Some start) w.next ∷ []) u1 u2 p q
    ∙ (ap (λ z. u0 ++ (ways_in ss n z ++ (way (Some start) w.next ∷ []))) (gv ∙ ap (λ k. T.going_to k w) te)
    ∙ ap (λ k. u0 ++ (ways_in ss n (T.going_to (T.test_of ss n) w) ++ (way (Some k) w.next ∷ []))) st)

-- a row at its end
pub ways_end : (names : Names) (row : List Statement) (i n : ℕ) (w : T.Onward) (xs ys : List Way) → length row ≤ i → xs ++ ways_in (list_of names (drop i row)) n w ≡ ys → xs ≡ ys
ways_end names row i n w xs ys h e = appended_empty xs ∙ (ap (λ ss. xs ++ ways_in ss n w) (sym (row_end names row i h)) ∙ e)
