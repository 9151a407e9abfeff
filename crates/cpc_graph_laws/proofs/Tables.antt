-- The graph that is made by recursion over the statements is the graph.
use Rattle.std.proofs.Common.{◌≡◌, ℕ, suc, ◌+◌, Bool, true, false, List, [], ◌∷◌, ◌++◌, map, length, Option, Some, None, refl, ◌∙◌, ap, arith}
use Rattle.std.proofs.lemmas.List.{map-append}
use Rattle.cpc_tree.specs.Syntax.{Stmt, Block, Empty, Declare, Assign, Call, Detach, Spawn, If, While, DoWhile, For, Goto, Label, Break, Continue, Return, Stmts, NoStmt, AndStmt, MaybeStmt, Absent, Present, Program}
use Rattle.cpc_tree.specs.Typing.{Scope}
use Rattle.cpc_tree.specs.Points.{Part, Nth, TheTest, TheYes, TheNo, TheStep, TheBody, Path, Point, Here, Arrival, End, Found, Simple, found, found_in, found_arm, Into, enter, enter_step, after, after_all, after_arm}
use Rattle.cpc_forms.specs.Order.{below, path_later, one_later, within, points_of, points_in, points_arm, number, number_in, number_arm}
use Rattle.cpc_forms.specs.Graph.{Node}
use Rattle.cpc_forms.specs.Table.{Onward, statement_node, arrival_node, end_node, going_to, looping, to_rest, turn, test_of, body_of, one_node, two_nodes, table, table_in, table_arm}
use Rattle.cpc_graph_laws.proofs.MoreFacts.{enter_number}
use Rattle.cpc_graph_laws.proofs.Labels.{from, row_number}
use Rattle.cpc_graph_laws.proofs.Moves.{led_to, through_part, through_loop, or_else_to, after_row, later_to, row_to, row_first, arm_to, step_to}

module _ (p : Program) where
  -- the node of a point, by what stands at paths, the scope there, the numbers of the ways from there, and the number of the arrival
  abbrev pub node_by : (Path → Found) → (Path → Scope) → (Path → Bool → Option ℕ) → (Path → ℕ) → Point → Node
  node_by at scope to back (Here path) = statement_node p (at path) (scope path) (to path true) (to path false) (back path)
  node_by at scope to back (Arrival path) = arrival_node p (at path) (scope path) (to path true) (to path false)
  node_by at scope to back End = end_node

  statement_same : (x x' : Found) (scope : Scope) (y y' n n' : Option ℕ) (a a' : ℕ) → x ≡ x' → y ≡ y' → n ≡ n' → a ≡ a' → statement_node p x scope y n a ≡ statement_node p x' scope y' n' a'
  statement_same x x' scope y y' n n' a a' e f g h =
      ap (λ z. statement_node p z scope y n a) e ∙ ap (λ z. statement_node p x' scope z n a) f ∙ ap (λ z. statement_node p x' scope y' z a) g ∙ ap (statement_node p x' scope y' n') h

  arrival_same : (x x' : Found) (scope : Scope) (y y' n n' : Option ℕ) → x ≡ x' → y ≡ y' → n ≡ n' → arrival_node p x scope y n ≡ arrival_node p x' scope y' n'
  arrival_same x x' scope y y' n n' e f g = ap (λ z. arrival_node p z scope y n) e ∙ ap (λ z. arrival_node p x' scope z n) f ∙ ap (arrival_node p x' scope y') g

  cons_same : (x x' : Node) (xs xs' : List Node) → x ≡ x' → xs ≡ xs' → x ∷ xs ≡ x' ∷ xs'
  cons_same x x' xs xs' e f = ap (λ z. z ∷ xs) e ∙ ap (λ zs. x' ∷ zs) f

  append_same : (xs xs' ys ys' : List Node) → xs ≡ xs' → ys ≡ ys' → xs ++ ys ≡ xs' ++ ys'
  append_same xs xs' ys ys' e f = ap (λ zs. zs ++ ys) e ∙ ap (λ zs. xs' ++ zs) f

  module _ (at : Path → Found) (scope : Path → Scope) (to : Path → Bool → Option ℕ) (back : Path → ℕ) where
    part_node : (part : Part) (x : Point) → node_by at scope to back (below part x) ≡ node_by (λ q. at (part ∷ q)) (λ q. scope (part ∷ q)) (λ q h. to (part ∷ q) h) (λ q. back (part ∷ q)) x
    part_node part (Here path) = refl
    part_node part (Arrival path) = refl
    part_node part End = refl

    -- the nodes of a part
    part_nodes : (part : Part) (xs : List Point) → map (node_by at scope to back) (within part xs) ≡ map (node_by (λ q. at (part ∷ q)) (λ q. scope (part ∷ q)) (λ q h. to (part ∷ q) h) (λ q. back (part ∷ q))) xs
    part_nodes part [] = refl
    part_nodes part (x ∷ xs) = cons_same _ _ _ _ (part_node part x) (part_nodes part xs)

    later_node : (x : Point) → node_by at scope to back (one_later x) ≡ node_by (λ q. at (path_later q)) (λ q. scope (path_later q)) (λ q h. to (path_later q) h) (λ q. back (path_later q)) x
    later_node (Here path) = refl
    later_node (Arrival path) = refl
    later_node End = refl

    -- those of the rest of a row
    later_nodes : (xs : List Point) → map (node_by at scope to back) (map one_later xs) ≡ map (node_by (λ q. at (path_later q)) (λ q. scope (path_later q)) (λ q h. to (path_later q) h) (λ q. back (path_later q))) xs
    later_nodes [] = refl
    later_nodes (x ∷ xs) = cons_same _ _ _ _ (later_node x) (later_nodes xs)

  -- what a statement's nodes are made of is what stands in it, with numbers from n on
  pub record Made (s : Stmt) (at : Path → Found) (to : Path → Bool → Option ℕ) (back : Path → ℕ) (n : ℕ) (w : Onward) : Type 0 where
    pub stands : (q : Path) → at q ≡ found s q
    pub leads : (q : Path) (h : Bool) → to q h ≡ led_to (from s n) w (after s q h)
    pub arrives : (q : Path) → back q ≡ n + number s q true

  -- the same of a row of statements
  pub record MadeIn (ss : Stmts) (at : Path → Found) (to : Path → Bool → Option ℕ) (back : Path → ℕ) (n : ℕ) (w : Onward) : Type 0 where
    pub stands : (k : ℕ) (q : Path) → at (Nth k ∷ q) ≡ found_in ss k q
    pub leads : (k : ℕ) (q : Path) (h : Bool) → to (Nth k ∷ q) h ≡ led_to (row_number ss n) w (after_all ss k q h)
    pub arrives : (k : ℕ) (q : Path) → back (Nth k ∷ q) ≡ n + number_in ss k q true

  -- the same of an arm or a step
  pub record MadeArm (b : MaybeStmt) (at : Path → Found) (to : Path → Bool → Option ℕ) (back : Path → ℕ) (n : ℕ) (w : Onward) : Type 0 where
    pub stands : (q : Path) → at q ≡ found_arm b q
    pub leads : (q : Path) (h : Bool) → to q h ≡ led_to (λ q. n + number_arm b q false) w (after_arm b q h)
    pub arrives : (q : Path) → back q ≡ n + number_arm b q true

  one_made : (s t : Stmt) (at : Path → Found) (scope : Path → Scope) (to : Path → Bool → Option ℕ) (back : Path → ℕ) (n : ℕ) (o : Option ℕ) → at [] ≡ Simple t → to [] true ≡ o → to [] false ≡ o → back [] ≡ n + 1
      → map (node_by at scope to back) (Here [] ∷ []) ≡ one_node p t (scope []) n o
  one_made s t at scope to back n o e f g h = ap (λ z. z ∷ []) (statement_same _ _ (scope []) _ _ _ _ _ _ e f g h)

  leaf : (s t : Stmt) (at : Path → Found) (scope : Path → Scope) (to : Path → Bool → Option ℕ) (back : Path → ℕ) (n : ℕ) (w : Onward) (o : Option ℕ) → Made s at to back n w → found s [] ≡ Simple t → number s [] true ≡ 1
      → led_to (from s n) w (after s [] true) ≡ o → led_to (from s n) w (after s [] false) ≡ o
      → map (node_by at scope to back) (Here [] ∷ []) ≡ one_node p t (scope []) n o
  leaf s t at scope to back n w o m e i f g = one_made s t at scope to back n o (m.stands [] ∙ e) (m.leads [] true ∙ f) (m.leads [] false ∙ g) (m.arrives [] ∙ ap (λ k. n + k) i)

  call : (s t : Stmt) (at : Path → Found) (scope : Path → Scope) (to : Path → Bool → Option ℕ) (back : Path → ℕ) (n : ℕ) (w : Onward) → Made s at to back n w → found s [] ≡ Simple t → number s [] true ≡ 1
      → led_to (from s n) w (after s [] true) ≡ w.next → led_to (from s n) w (after s [] false) ≡ w.next
      → map (node_by at scope to back) (Here [] ∷ Arrival [] ∷ []) ≡ two_nodes p t (scope []) n w.next
  call s t at scope to back n w m e i f g =
      cons_same _ _ _ _ (statement_same _ _ (scope []) _ _ _ _ _ _ (m.stands [] ∙ e) (m.leads [] true ∙ f) (m.leads [] false ∙ g) (m.arrives [] ∙ ap (λ k. n + k) i))
      (ap (λ z. z ∷ []) (arrival_same _ _ (scope []) _ _ _ _ (m.stands [] ∙ e) (m.leads [] true ∙ f) (m.leads [] false ∙ g)))

  mutual
    pub tabled : (s : Stmt) (at : Path → Found) (scope : Path → Scope) (to : Path → Bool → Option ℕ) (back : Path → ℕ) (n : ℕ) (w : Onward) → Made s at to back n w → map (node_by at scope to back) (points_of s) ≡ table p s scope n w
    tabled (Block NoStmt) at scope to back n w m = leaf (Block NoStmt) Empty at scope to back n w w.next m refl refl refl refl
    tabled (Block (AndStmt s ss)) at scope to back n w m = tabled_in (AndStmt s ss) at scope to back n w (record {
      stands = λ k q. m.stands (Nth k ∷ q);
      leads = λ k q h. m.leads (Nth k ∷ q) h ∙ row_to (from (Block (AndStmt s ss)) n) (row_number (AndStmt s ss) n) w (λ j r. refl) (after_all (AndStmt s ss) k q h) (after_row (AndStmt s ss) k q h);
      arrives = λ k q. m.arrives (Nth k ∷ q);
    })
    tabled (Call x f es) at scope to back n w m = call (Call x f es) (Call x f es) at scope to back n w m refl refl refl refl
    tabled (Detach x f es) at scope to back n w m = call (Detach x f es) (Detach x f es) at scope to back n w m refl refl refl refl
    tabled (If t a b) at scope to back n w m =
        let i = enter_number a in
        cons_same _ _ _ _
        (statement_same _ _ (scope (TheTest ∷ [])) _ _ _ _ (back (TheTest ∷ [])) (n + 1) (m.stands (TheTest ∷ []))
        (m.leads (TheTest ∷ []) true ∙ ap (λ k. Some k) (let j : n + suc (number a (enter a) false) ≡ n + 1 = omega arith in j))
        (m.leads (TheTest ∷ []) false ∙ arm_to t a b n w)
        (m.arrives (TheTest ∷ [])))
        (map-append (node_by at scope to back) (within TheYes (points_of a)) (within TheNo (points_arm b))
        ∙ append_same _ _ _ _
        (part_nodes at scope to back TheYes (points_of a) ∙ tabled a _ _ _ _ (n + 1) w (record {
          stands = λ q. m.stands (TheYes ∷ q);
          leads = λ q h. m.leads (TheYes ∷ q) h ∙ through_part (from (If t a b) n) (from a (n + 1)) w TheYes (λ r. omega arith) (after a q h);
          arrives = λ q. m.arrives (TheYes ∷ q) ∙ (let j : n + suc (number a q true) ≡ n + 1 + number a q true = omega arith in j);
        }))
        (part_nodes at scope to back TheNo (points_arm b) ∙ tabled_arm b _ _ _ _ (n + 1 + length (points_of a)) w (record {
          stands = λ q. m.stands (TheNo ∷ q);
          leads = λ q h. m.leads (TheNo ∷ q) h ∙ through_part (from (If t a b) n) (λ r. n + 1 + length (points_of a) + number_arm b r false) w TheNo (λ r. omega arith) (after_arm b q h);
          arrives = λ q. m.arrives (TheNo ∷ q) ∙ (let j : n + suc (length (points_of a) + number_arm b q true) ≡ n + 1 + length (points_of a) + number_arm b q true = omega arith in j);
        })))
    tabled (While t s) at scope to back n w m =
        let i = enter_number s in
        cons_same _ _ _ _
        (statement_same _ _ (scope (TheTest ∷ [])) _ _ _ _ (back (TheTest ∷ [])) (n + 1) (m.stands (TheTest ∷ []))
        (m.leads (TheTest ∷ []) true ∙ ap (λ k. Some k) (let j : n + suc (number s (enter s) false) ≡ n + 1 = omega arith in j))
        (m.leads (TheTest ∷ []) false)
        (m.arrives (TheTest ∷ [])))
        (part_nodes at scope to back TheBody (points_of s) ∙ tabled s _ _ _ _ (n + 1) (looping n w) (record {
          stands = λ q. m.stands (TheBody ∷ q);
          leads = λ q h. m.leads (TheBody ∷ q) h ∙ through_loop (from (While t s) n) (from s (n + 1)) w n (Into (TheTest ∷ [])) (ap (λ k. Some k) (let j : n + 0 ≡ n = omega arith in j)) (λ r. omega arith) (after s q h);
          arrives = λ q. m.arrives (TheBody ∷ q) ∙ (let j : n + suc (number s q true) ≡ n + 1 + number s q true = omega arith in j);
        }))
    tabled (DoWhile s t) at scope to back n w m =
        let i = enter_number s in
        map-append (node_by at scope to back) (within TheBody (points_of s)) (Here (TheTest ∷ []) ∷ [])
        ∙ append_same _ _ _ _
        (part_nodes at scope to back TheBody (points_of s) ∙ tabled s _ _ _ _ n (looping (n + length (points_of s)) w) (record {
          stands = λ q. m.stands (TheBody ∷ q);
          leads = λ q h. m.leads (TheBody ∷ q) h ∙ through_loop (from (DoWhile s t) n) (from s n) w (n + length (points_of s)) (Into (TheTest ∷ [])) refl (λ r. refl) (after s q h);
          arrives = λ q. m.arrives (TheBody ∷ q);
        }))
        (ap (λ z. z ∷ []) (statement_same _ _ (scope (TheTest ∷ [])) _ _ _ _ _ _ (m.stands (TheTest ∷ []))
        (m.leads (TheTest ∷ []) true ∙ ap (λ k. Some k) (let j : n + number s (enter s) false ≡ n = omega arith in j))
        (m.leads (TheTest ∷ []) false)
        refl))
    tabled (For first t step s) at scope to back n w m =
        let i = enter_number s in
        map-append (node_by at scope to back) (points_in first) (Here (TheTest ∷ []) ∷ (within TheStep (points_arm step) ++ within TheBody (points_of s)))
        ∙ append_same _ _ _ _
        (tabled_in first at scope to back n (going_to (test_of first n) w) (record {
          stands = λ k q. m.stands (Nth k ∷ q);
          leads = λ k q h. m.leads (Nth k ∷ q) h
              ∙ or_else_to (from (For first t step s) n) w (test_of first n) (Into (TheTest ∷ [])) refl (after_all first k q h)
              ∙ row_to (from (For first t step s) n) (row_number first n) (going_to (test_of first n) w) (λ j r. refl) (after_all first k q h) (after_row first k q h);
          arrives = λ k q. m.arrives (Nth k ∷ q);
        }))
        (cons_same _ _ _ _
        (statement_same _ _ (scope (TheTest ∷ [])) _ _ _ _ _ _ (m.stands (TheTest ∷ []))
        (m.leads (TheTest ∷ []) true ∙ ap (λ k. Some k) (let j : n + (length (points_in first) + suc (length (points_arm step) + number s (enter s) false)) ≡ n + length (points_in first) + 1 + length (points_arm step) = omega arith in j))
        (m.leads (TheTest ∷ []) false)
        refl)
        (map-append (node_by at scope to back) (within TheStep (points_arm step)) (within TheBody (points_of s))
        ∙ append_same _ _ _ _
        (part_nodes at scope to back TheStep (points_arm step) ∙ tabled_arm step _ _ _ _ (test_of first n + 1) (going_to (test_of first n) w) (record {
          stands = λ q. m.stands (TheStep ∷ q);
          leads = λ q h. m.leads (TheStep ∷ q) h
              ∙ or_else_to (from (For first t step s) n) w (test_of first n) (Into (TheTest ∷ [])) refl _
              ∙ through_part (from (For first t step s) n) (λ r. test_of first n + 1 + number_arm step r false) (going_to (test_of first n) w) TheStep (λ r. omega arith) (after_arm step q h);
          arrives = λ q. m.arrives (TheStep ∷ q) ∙ (let j : n + (length (points_in first) + suc (number_arm step q true)) ≡ n + length (points_in first) + 1 + number_arm step q true = omega arith in j);
        }))
        (part_nodes at scope to back TheBody (points_of s) ∙ tabled s _ _ _ _ (body_of step (test_of first n)) (looping (turn step (test_of first n)) w) (record {
          stands = λ q. m.stands (TheBody ∷ q);
          leads = λ q h. m.leads (TheBody ∷ q) h
              ∙ through_loop (from (For first t step s) n) (from s (body_of step (test_of first n))) w (turn step (test_of first n)) (enter_step step) (step_to first t step s n w) (λ r. omega arith) (after s q h);
          arrives = λ q. m.arrives (TheBody ∷ q)
              ∙ (let j : n + (length (points_in first) + suc (length (points_arm step) + number s q true)) ≡ n + length (points_in first) + 1 + length (points_arm step) + number s q true = omega arith in j);
        }))))
    tabled (Label l s) at scope to back n w m =
        part_nodes at scope to back TheBody (points_of s) ∙ tabled s _ _ _ _ n w (record {
          stands = λ q. m.stands (TheBody ∷ q);
          leads = λ q h. m.leads (TheBody ∷ q) h ∙ through_part (from (Label l s) n) (from s n) w TheBody (λ r. refl) (after s q h);
          arrives = λ q. m.arrives (TheBody ∷ q);
        })
    tabled Empty at scope to back n w m = leaf Empty Empty at scope to back n w w.next m refl refl refl refl
    tabled (Declare x t start) at scope to back n w m = leaf (Declare x t start) (Declare x t start) at scope to back n w w.next m refl refl refl refl
    tabled (Assign x op v) at scope to back n w m = leaf (Assign x op v) (Assign x op v) at scope to back n w w.next m refl refl refl refl
    tabled (Spawn f es) at scope to back n w m = leaf (Spawn f es) (Spawn f es) at scope to back n w w.next m refl refl refl refl
    tabled (Goto l) at scope to back n w m = leaf (Goto l) (Goto l) at scope to back n w (w.label l) m refl refl refl refl
    tabled Break at scope to back n w m = leaf Break Break at scope to back n w w.broken m refl refl refl refl
    tabled Continue at scope to back n w m = leaf Continue Continue at scope to back n w w.continued m refl refl refl refl
    tabled (Return v) at scope to back n w m = leaf (Return v) (Return v) at scope to back n w None m refl refl refl refl

    tabled_in : (ss : Stmts) (at : Path → Found) (scope : Path → Scope) (to : Path → Bool → Option ℕ) (back : Path → ℕ) (n : ℕ) (w : Onward) → MadeIn ss at to back n w → map (node_by at scope to back) (points_in ss) ≡ table_in p ss scope n w
    tabled_in NoStmt at scope to back n w m = refl
    tabled_in (AndStmt s ss) at scope to back n w m =
        map-append (node_by at scope to back) (within (Nth 0) (points_of s)) (map one_later (points_in ss))
        ∙ append_same _ _ _ _
        (part_nodes at scope to back (Nth 0) (points_of s) ∙ tabled s _ _ _ _ n (to_rest ss (n + length (points_of s)) w) (record {
          stands = λ q. m.stands 0 q;
          leads = λ q h. m.leads 0 q h ∙ row_first s ss n w q h;
          arrives = λ q. m.arrives 0 q;
        }))
        (later_nodes at scope to back (points_in ss) ∙ tabled_in ss (λ q. at (path_later q)) (λ q. scope (path_later q)) (λ q h. to (path_later q) h) (λ q. back (path_later q)) (n + length (points_of s)) w (record {
          stands = λ k q. m.stands (suc k) q;
          leads = λ k q h. m.leads (suc k) q h ∙ later_to s ss n w (after_all ss k q h) (after_row ss k q h);
          arrives = λ k q. m.arrives (suc k) q ∙ (let j : n + (length (points_of s) + number_in ss k q true) ≡ n + length (points_of s) + number_in ss k q true = omega arith in j);
        }))

    tabled_arm : (b : MaybeStmt) (at : Path → Found) (scope : Path → Scope) (to : Path → Bool → Option ℕ) (back : Path → ℕ) (n : ℕ) (w : Onward) → MadeArm b at to back n w → map (node_by at scope to back) (points_arm b) ≡ table_arm p b scope n w
    tabled_arm Absent at scope to back n w m = refl
    tabled_arm (Present s) at scope to back n w m = tabled s at scope to back n w (record { stands = m.stands; leads = m.leads; arrives = m.arrives })
