-- The nodes of a function, from its boxed points and the ways from there.
use Rattle.std.proofs.Common.{◌≡◌, ℕ, ◌+◌, Bool, not, List, [], ◌∷◌, ◌++◌, length, map, Some, None, refl, sym, ap, subst, ◌∙◌, arith, length-append}
use Rattle.std.proofs.lemmas.List.{length-map}
use Rattle.cpc_tree.specs.Syntax.{Expr, Stmt, Block, Empty, Declare, Assign, Call, Detach, Spawn, If, While, DoWhile, For, Goto, Label, Break, Continue, Return, Stmts, NoStmt, AndStmt, MaybeStmt, Absent, Present, Function, Program}
use Rattle.cpc_tree.specs.Typing.{Scope}
use Rattle.cpc_tree.specs.Points.{Path, Here, Nth, TheTest, TheYes, TheNo, TheStep, TheBody, Simple, Test}
use Rattle.cpc_tree.specs.Registers.{scope_in_function}
use Rattle.cpc_meaning.specs.Ways.{Manner, InPlace, ByFrame, AsCps, goes_in_step, arrives_later}
use Rattle.cpc_forms.specs.Order.{path_later, points_of, points_in, points_arm, within, below, one_later}
use Rattle.cpc_forms.specs.Graph.{Node}
use Rattle.cpc_forms.specs.Table.{Onward, to_rest, going_to, looping, turn, test_of, body_of, end_node, table, table_in, table_arm, from_body, nodes_of}
use Rattle.cpc_forms_code.proofs.Forgotten.{point_of}
use Rattle.cpc_graph.specs.declared.onward.Way.{Way}
use Rattle.cpc_graph.specs.Joined.{node_on, joined}
use Rattle.cpc_graph.specs.Ways.{way, ways_of, ways_in, ways_arm}

pub in_step : (m : Manner) (s : Stmt) (h : Bool) → goes_in_step m (Simple s) h ≡ not (arrives_later m)
in_step InPlace s h = refl
in_step ByFrame s h = refl
in_step AsCps s h = refl

pub test_step : (m : Manner) (e : Expr) (h : Bool) → goes_in_step m (Test (Some e)) h ≡ not (arrives_later m)
test_step InPlace e h = refl
test_step ByFrame e h = refl
test_step AsCps e h = refl

-- each of these nodes, from the number n on, is made of its point and its ways
abbrev pub Joins : (n : ℕ) → List Node → List Way → Type 0
Joins n [] [] = Unit {0}
Joins n [] (w ∷ ws) = ⊥
Joins n (x ∷ xs) [] = ⊥
Joins n (x ∷ xs) (w ∷ ws) = (x ≡ node_on x.stood x.scope x.manner w (n + 1)) × Joins (n + 1) xs ws

joins_at : (n m : ℕ) (xs : List Node) (ws : List Way) → n ≡ m → Joins n xs ws → Joins m xs ws
joins_at n m xs ws e j = let P : ℕ → Type 0 = λ k. Joins k xs ws in subst P e j

both : (n m : ℕ) (xs ys : List Node) (vs ws : List Way) → Joins n xs vs → m ≡ n + length vs → Joins m ys ws → Joins n (xs ++ ys) (vs ++ ws)
both n m [] ys [] ws j e k = joins_at m n ys ws (e ∙ (let h : n + length {A = Way} [] ≡ n = omega arith in h)) k
both n m [] ys (v ∷ vs) ws j e k = absurd j
both n m (x ∷ xs) ys [] ws j e k = absurd j
both n m (x ∷ xs) ys (v ∷ vs) ws j e k = (j.0, both (n + 1) m xs ys vs ws j.1 (e ∙ (let h : n + length (v ∷ vs) ≡ n + 1 + length vs = omega arith in h)) k)

pub joined_is : (n : ℕ) (xs : List Node) (ws : List Way) → Joins n xs ws → xs ≡ joined n (map point_of xs) ws
joined_is n [] [] j = refl
joined_is n [] (w ∷ ws) j = absurd j
joined_is n (x ∷ xs) [] j = absurd j
joined_is n (x ∷ xs) (w ∷ ws) j = ap (λ z. z ∷ xs) j.0 ∙ ap (λ zs. node_on x.stood x.scope x.manner w (n + 1) ∷ zs) (joined_is (n + 1) xs ws j.1)

-- ---- as many ways as points

length_cons : {A : Type 0} (x : A) (xs : List A) → length (x ∷ xs) ≡ length xs + 1
length_cons x xs = omega arith

mutual
  pub as_many : (s : Stmt) (n : ℕ) (w : Onward) → length (ways_of s n w) ≡ length (points_of s)
  as_many (Block NoStmt) n w = refl
  as_many (Block (AndStmt s ss)) n w = as_many_in (AndStmt s ss) n w
  as_many (Call to f es) n w = refl
  as_many (Detach to f es) n w = refl
  as_many (If t a b) n w =
      let h = length-append (ways_of a (n + 1) w) (ways_arm b (n + 1 + length (points_of a)) w) in
      let i = length-append (within TheYes (points_of a)) (within TheNo (points_arm b)) in
      let j = as_many a (n + 1) w in
      let k = as_many_arm b (n + 1 + length (points_of a)) w in
      let l = length-map (points_of a) (below TheYes) in
      let m = length-map (points_arm b) (below TheNo) in
      omega arith
  as_many (While t s) n w =
      let j = as_many s (n + 1) (looping n w) in
      let l = length-map (points_of s) (below TheBody) in
      omega arith
  as_many (DoWhile s t) n w =
      let h = length-append (ways_of s n (looping (n + length (points_of s)) w)) (way (Some n) w.next ∷ []) in
      let i = length-append (within TheBody (points_of s)) (Here (TheTest ∷ []) ∷ []) in
      let j = as_many s n (looping (n + length (points_of s)) w) in
      let l = length-map (points_of s) (below TheBody) in
      omega arith
  as_many (For first t step s) n w =
      let inner = going_to (test_of first n) w in
      let turning = looping (turn step (test_of first n)) w in
      let h = length-append (ways_in first n inner) (way (Some (body_of step (test_of first n))) w.next ∷ (ways_arm step (test_of first n + 1) inner ++ ways_of s (body_of step (test_of first n)) turning)) in
      let i = length-append (ways_arm step (test_of first n + 1) inner) (ways_of s (body_of step (test_of first n)) turning) in
      let j = length-append (points_in first) (Here (TheTest ∷ []) ∷ (within TheStep (points_arm step) ++ within TheBody (points_of s))) in
      let k = length-append (within TheStep (points_arm step)) (within TheBody (points_of s)) in
      let l = as_many_in first n inner in
      let m = as_many_arm step (test_of first n + 1) inner in
      let o = as_many s (body_of step (test_of first n)) turning in
      let p = length-map (points_arm step) (below TheStep) in
      let q = length-map (points_of s) (below TheBody) in
      omega arith
  as_many (Label l s) n w = as_many s n w ∙ sym (length-map (points_of s) (below TheBody))
  as_many Empty n w = refl
  as_many (Declare x t start) n w = refl
  as_many (Assign x op v) n w = refl
  as_many (Spawn f es) n w = refl
  as_many (Goto l) n w = refl
  as_many Break n w = refl
  as_many Continue n w = refl
  as_many (Return v) n w = refl

  as_many_in : (ss : Stmts) (n : ℕ) (w : Onward) → length (ways_in ss n w) ≡ length (points_in ss)
  as_many_in NoStmt n w = refl
  as_many_in (AndStmt s ss) n w =
      let h = length-append (ways_of s n (to_rest ss (n + length (points_of s)) w)) (ways_in ss (n + length (points_of s)) w) in
      let i = length-append (within (Nth 0) (points_of s)) (map one_later (points_in ss)) in
      let j = as_many s n (to_rest ss (n + length (points_of s)) w) in
      let k = as_many_in ss (n + length (points_of s)) w in
      let l = length-map (points_of s) (below (Nth 0)) in
      let m = length-map (points_in ss) one_later in
      omega arith

  as_many_arm : (b : MaybeStmt) (n : ℕ) (w : Onward) → length (ways_arm b n w) ≡ length (points_arm b)
  as_many_arm Absent n w = refl
  as_many_arm (Present s) n w = as_many s n w

-- ---- the table

module _ (p : Program) where
  mutual
    pub joins : (s : Stmt) (scope : Path → Scope) (n : ℕ) (w : Onward) → Joins n (table p s scope n w) (ways_of s n w)
    joins (Block NoStmt) scope n w = (refl, tt)
    joins (Block (AndStmt s ss)) scope n w = joins_in (AndStmt s ss) scope n w
    joins (Call to f es) scope n w = (refl, (refl, tt))
    joins (Detach to f es) scope n w = (refl, (refl, tt))
    joins (If t a b) scope n w = (
      refl,
      both (n + 1) (n + 1 + length (points_of a)) (table p a (λ path. scope (TheYes ∷ path)) (n + 1) w) (table_arm p b (λ path. scope (TheNo ∷ path)) (n + 1 + length (points_of a)) w) (ways_of a (n + 1) w) (ways_arm b (n + 1 + length (points_of a)) w)
          (joins a (λ path. scope (TheYes ∷ path)) (n + 1) w) (ap (λ k. n + 1 + k) (sym (as_many a (n + 1) w))) (joins_arm b (λ path. scope (TheNo ∷ path)) (n + 1 + length (points_of a)) w),
    )
    joins (While t s) scope n w = (refl, joins s (λ path. scope (TheBody ∷ path)) (n + 1) (looping n w))
    joins (DoWhile s t) scope n w =
        both n (n + length (points_of s)) (table p s (λ path. scope (TheBody ∷ path)) n (looping (n + length (points_of s)) w)) _ (ways_of s n (looping (n + length (points_of s)) w)) (way (Some n) w.next ∷ [])
        (joins s (λ path. scope (TheBody ∷ path)) n (looping (n + length (points_of s)) w)) (ap (λ k. n + k) (sym (as_many s n (looping (n + length (points_of s)) w)))) (refl, tt)
    joins (For first t step s) scope n w =
        let inner = going_to (test_of first n) w in
        let turning = looping (turn step (test_of first n)) w in
        both n (test_of first n) (table_in p first scope n inner) _ (ways_in first n inner) _
        (joins_in first scope n inner) (ap (λ k. n + k) (sym (as_many_in first n inner))) (
          refl,
          both (test_of first n + 1) (body_of step (test_of first n)) (table_arm p step (λ path. scope (TheStep ∷ path)) (test_of first n + 1) inner) (table p s (λ path. scope (TheBody ∷ path)) (body_of step (test_of first n)) turning)
              (ways_arm step (test_of first n + 1) inner) (ways_of s (body_of step (test_of first n)) turning)
              (joins_arm step (λ path. scope (TheStep ∷ path)) (test_of first n + 1) inner) (ap (λ k. test_of first n + 1 + k) (sym (as_many_arm step (test_of first n + 1) inner)))
              (joins s (λ path. scope (TheBody ∷ path)) (body_of step (test_of first n)) turning),
        )
    joins (Label l s) scope n w = joins s (λ path. scope (TheBody ∷ path)) n w
    joins Empty scope n w = (refl, tt)
    joins (Declare x t start) scope n w = (refl, tt)
    joins (Assign x op v) scope n w = (refl, tt)
    joins (Spawn f es) scope n w = (refl, tt)
    joins (Goto l) scope n w = (refl, tt)
    joins Break scope n w = (refl, tt)
    joins Continue scope n w = (refl, tt)
    joins (Return v) scope n w = (refl, tt)

    joins_in : (ss : Stmts) (scope : Path → Scope) (n : ℕ) (w : Onward) → Joins n (table_in p ss scope n w) (ways_in ss n w)
    joins_in NoStmt scope n w = tt
    joins_in (AndStmt s ss) scope n w =
        both n (n + length (points_of s)) (table p s (λ path. scope (Nth 0 ∷ path)) n (to_rest ss (n + length (points_of s)) w)) (table_in p ss (λ path. scope (path_later path)) (n + length (points_of s)) w)
        (ways_of s n (to_rest ss (n + length (points_of s)) w)) (ways_in ss (n + length (points_of s)) w)
        (joins s (λ path. scope (Nth 0 ∷ path)) n (to_rest ss (n + length (points_of s)) w)) (ap (λ k. n + k) (sym (as_many s n (to_rest ss (n + length (points_of s)) w))))
        (joins_in ss (λ path. scope (path_later path)) (n + length (points_of s)) w)

    joins_arm : (b : MaybeStmt) (scope : Path → Scope) (n : ℕ) (w : Onward) → Joins n (table_arm p b scope n w) (ways_arm b n w)
    joins_arm Absent scope n w = tt
    joins_arm (Present s) scope n w = joins s scope n w

  -- the nodes of a function
  pub nodes_join : (f : Function) → nodes_of p f ≡ joined 0 (map point_of (nodes_of p f)) (ways_of f.body 0 (from_body f.body) ++ (way None None ∷ []))
  nodes_join f =
      joined_is 0 (nodes_of p f) (ways_of f.body 0 (from_body f.body) ++ (way None None ∷ []))
      (both 0 (length (points_of f.body)) (table p f.body (scope_in_function f) 0 (from_body f.body)) (end_node ∷ []) (ways_of f.body 0 (from_body f.body)) (way None None ∷ [])
      (joins f.body (scope_in_function f) 0 (from_body f.body)) (sym (as_many f.body 0 (from_body f.body)) ∙ (let h : length (ways_of f.body 0 (from_body f.body)) ≡ 0 + length (ways_of f.body 0 (from_body f.body)) = omega arith in h)) (refl, tt))
