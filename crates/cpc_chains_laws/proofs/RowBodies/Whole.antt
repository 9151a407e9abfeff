-- All rows of a piece break no rule: those of its nodes, and those that go to other leaders.
use Rattle.std.proofs.Common.{◌≡◌, ◌⊎◌, ⊎_elim, ℕ, Bool, true, false, not, ◌&&◌, ◌||◌, ◌==◌, List, [], ◌∷◌, ◌++◌, map, length, slice_get, Option, Some, None, option_map, refl, sym, ◌∙◌, ap, subst}
use Rattle.std.proofs.lemmas.Option.{slice_get-map}
use Rattle.cpc_base.proofs.Truth.{eq_reflexive, eq_means, or_by_second, and_both, by_true_false}
use Rattle.cpc_base.proofs.Lists.{found_within}
use Rattle.cpc_tree.specs.Lists.{holds_number}
use Rattle.cpc_tree.specs.Points.{Point, Here, Arrival, End, found}
use Rattle.cpc_tree.specs.Registers.{variables}
use Rattle.cpc_tree.specs.Syntax.{Function, Program}
use Rattle.cpc_check_rules.specs.Operators.{Where}
use Rattle.cpc_meaning.specs.Act.{AtArrival}
use Rattle.cpc_meaning.specs.Ways.{Manner, InPlace, ByFrame, AsCps}
use Rattle.cpc_chains_laws.specs.Complete.Flat.{Runs, NoRow}
use Rattle.cpc_chains_laws.proofs.Complete.Flat.{runs_both}
use Rattle.cpc_forms.specs.Flow.{Place, Start, At, Flow, is_leader, owner_of, owner_by, owner_step, owner_within, as_list}
use Rattle.cpc_forms.specs.Graph.{Node, node_of, graph_of, way, at_node}
use Rattle.cpc_forms.specs.Order.{points}
use Rattle.cpc_forms.specs.Pieces.{is_owned_by, piece_nodes, first_of}
use Rattle.cpc_forms.specs.Split.{owner_or}
use Rattle.cpc_graph_laws.specs.Laws.{flow_in}
use Rattle.cpc_graph_laws.proofs.Formed.{node_comes}
use Rattle.cpc_graph_laws.proofs.Leaders.{inside as flow_inside}
use Rattle.cpc_graph_laws.proofs.Marked.{leaders_are_listed}
use Rattle.cpc_graph_laws.proofs.MoreFacts.{entries_are_first}
use Rattle.cpc_graph_laws.proofs.Owning.{pieces_hold_theirs, place_self}
use Rattle.cpc_graph_laws.proofs.Splits.{owner_there}
use Rattle.cpc_lift_laws.specs.Search.{closure}
use Rattle.cpc_chains_event.specs.Lines.{node_lines, behind_arrival}
use Rattle.cpc_chains_event.specs.LabelLaws.{put_in}
use Rattle.cpc_chains_event.specs.LocalLaws.{piece_locals, StandsIn}
use Rattle.cpc_convert_routines.specs.Named.{IsOwner, TheStart, ALeader}
use Rattle.cpc_convert_routines.specs.Names.{node_label, to_name}
use Rattle.cpc_chains_event.specs.Pieces.{called_so, to_frame, is_entry, is_wait}
use Rattle.cpc_convert_routines.specs.Taken.{any_node, is_result}
use Rattle.cpc_convert_routines.specs.Routines.{Routine, routine_of, chosen, closure_of, owner_number}
use Rattle.cpc_chains_event.specs.Rows.{owner_at, behind_call, onwards, onwards_all, reached, stubs_of, lines_by, row_of, numbers_from, numbers_of, first_number, PutRow, put_rows, put_lines, put_statement, is_wanted, row_statements, rows_statements, piece_statements}
use Rattle.cpc_convert_routines.specs.Nodes.{is_own, stands_with, has_row, rows_nodes}
use Rattle.cpc_chains_event.proofs.Lines.{puts_done, lines_done}
use Rattle.cpc_convert_routines.proofs.Numbers.{held_either, chosen_is}
use Rattle.cpc_chains_event.proofs.Boxing.{held_has}
use Rattle.cpc_chains_event.proofs.Labels.{turned_is}
use Rattle.cpc_lifted_laws.specs.Piece.Known.{CpsKnown}
use Rattle.cpc_chains_laws.specs.Piece.Stood.{NodeAt}
use Rattle.cpc_chains_laws.proofs.Piece.Scopes as scopes
use Rattle.cpc_chains_laws.proofs.Piece.Stubs.{first_word, some_there}
use Rattle.cpc_chains_laws.proofs.Piece.Ways.{way_next, owner_is, other_leads, keeps_along}
use Rattle.cpc_chains_laws.proofs.Call.Framed.{framed_calls_arrive}
use Rattle.cpc_chains_laws.specs.Rules.Laws.{Knows}
use Rattle.cpc_chains_laws.proofs.Rules.KeptRows.{Source}
use Rattle.cpc_lifted_laws.proofs.Shape.Calls.{CpsTyped}
use Rattle.cpc_chains_event.proofs.Framed.{held}
use Rattle.cpc_chains_laws.proofs.Shape.Numbers.{own_row, owned_below, from_is}
use Rattle.cpc_chains_laws.proofs.Shape.Rows.{own_point}
use Rattle.cpc_chains_laws.proofs.RowBodies.Framing.{stub_run}
use Rattle.cpc_chains_laws.proofs.RowBodies.Gotos.{node_at}
use Rattle.cpc_chains_laws.proofs.RowBodies.Nodes.{IsFormed}
use Rattle.cpc_chains_laws.proofs.RowBodies.Points.{at_piece, node_run}
use Rattle.cpc_chains_laws.proofs.RowBodies.Rowing.{LinesRun, labelled_run}

-- ---- numbers in lists

list_is : (o : Option ℕ) (n : ℕ) → holds_number (as_list o) n ≡ true → o ≡ Some n
list_is None n h = absurd (cc)
list_is (Some m) n h = one (m == n) refl h
  where
    one : (c : Bool) → (m == n) ≡ c → (c || false) ≡ true → Some m ≡ Some n
    one true e i = ap (λ j. Some j) (eq_means m n e)
    one false e i = absurd (cc)

module _ (p : Program) (f : Function) (known : CpsKnown p f) (l : Place) (owner : IsOwner (routine_of p f) l) where
  abbrev r : Routine
  r = routine_of p f

  abbrev flow : Flow
  flow = flow_in p f

  abbrev Kept : ℕ → Type 0
  Kept n = (j : ℕ) → holds_number (closure_of r (At n)) j ≡ true → holds_number (closure_of r l) j ≡ true

  own_true : (n : ℕ) → owner_of flow n ≡ Some l → is_own r.split l n ≡ true
  own_true n e =
      let node = found_within (graph_of p f).nodes n (owned_below p f l n l e) in
      ap (λ o. is_owned_by l (owner_at o)) (owner_there (graph_of p f) n node.0 node.1) ∙ (ap (is_owned_by l) e ∙ place_self l)

  node_owned : (m : ℕ) → holds_number (rows_nodes r.split l) m ≡ true → (owner_of flow m ≡ Some l) × (has_row r.split m ≡ true)
  node_owned m i = let c = chosen_is (has_row r.split) (piece_nodes r.split l) m (turned_is (first_of r.split l) (chosen (has_row r.split) (piece_nodes r.split l)) m i) in ((pieces_hold_theirs p f l m).0 c.0, c.1)

  -- a row that is not of a node of the piece goes to another leader
  pub stub_is : (n : ℕ) → holds_number (numbers_of p r l) n ≡ true → is_own r.split l n ≡ false → holds_number (stubs_of r l) n ≡ true
  stub_is n h other = held_either from (chosen (λ m. not (holds_number from m)) (stubs_of r l)) n (holds_number (stubs_of r l) n ≡ true) h
      (λ i. ⊎_elim (λ a. by_true_false (is_own r.split l n) (own_true n (node_owned n a).0) other) (λ a. a) (from_is p r l (stubs_of r l) [] (rows_nodes r.split l) n i))
      (λ i. (chosen_is (λ m. not (holds_number from m)) (stubs_of r l) n i).0)
    where
      from : List ℕ
      from = numbers_from p r l (stubs_of r l) [] (rows_nodes r.split l)

  -- ---- what is kept on the way to another leader

  -- a node that leads on to a number
  record LeadsOn (n : ℕ) (ns : List ℕ) : Type 0 where
    from : ℕ
    held : holds_number ns from ≡ true
    node : Node
    is_node : slice_get (graph_of p f).nodes from ≡ Some node
    leads : holds_number (onwards r node) n ≡ true

  leads_on : (n : ℕ) (ns : List ℕ) → holds_number (onwards_all r ns) n ≡ true → LeadsOn n ns
  leads_on n [] h = absurd (cc)
  leads_on n (m ∷ ns) h = held_either (at_node [] (onwards r) (slice_get (graph_of p f).nodes m)) (onwards_all r ns) n (LeadsOn n (m ∷ ns)) h (λ i. here (slice_get (graph_of p f).nodes m) refl i) (λ i. more (leads_on n ns i))
    where
      here : (o : Option Node) → slice_get (graph_of p f).nodes m ≡ o → holds_number (at_node [] (onwards r) o) n ≡ true → LeadsOn n (m ∷ ns)
      here None e i = absurd (cc)
      here (Some node) e i = record { from = m; held = ap (λ b. b || holds_number ns m) (eq_reflexive m); node = node; is_node = e; leads = i }

      more : LeadsOn n ns → LeadsOn n (m ∷ ns)
      more d = record { from = d.from; held = or_by_second (m == d.from) (holds_number ns d.from) d.held; node = d.node; is_node = d.is_node; leads = d.leads }

  module _ (n : ℕ) (other : is_own r.split l n ≡ false) where
    along : (m : ℕ) (at : NodeAt p f l m) (h : Bool) → way at.node h ≡ Some n → Kept n
    along m at h e = keeps_along p f known l m at h n e (ap (λ b. owner_by b l n) (other_leads p f l n (way_next p f l m at h n e) other).0)

    behind : (m : ℕ) (at : NodeAt p f l m) → has_row r.split m ≡ true → behind_call r at.node.manner at.node.arrival ≡ Some n → Kept n
    behind m at has e = by at.node.manner refl e
      where
        framed : at.node.manner ≡ ByFrame → (point : Point) → node_of p f point ≡ at.node → behind_arrival r at.node.arrival ≡ Some n → Kept n
        framed w (Here path) is i =
            let fr = framed_calls_arrive p f m at.node (found f.body path) at.is_node (sym (ap (λ (d : Node). d.stood) is)) w in
            let there = node_at p f l owner fr.arrival (fr.owner ∙ owner_is p f l m at) in
            along fr.arrival there true (sym (ap (behind_arrival r) fr.is_arrival ∙ ap (at_node None (λ node. node.yes)) there.is_node) ∙ i)
        framed w (Arrival path) is i =
            by_true_false (has_row r.split m) has
            (ap (at_node true (λ (d : Node). not (stands_with d.stood d.manner))) at.is_node ∙ (ap (λ (d : Node). not (stands_with d.stood d.manner)) (sym is) ∙ ap (λ c. not (stands_with (AtArrival (found f.body path)) c)) (ap (λ (d : Node). d.manner) is ∙ w)))
        framed w End is i = absurd (let z : InPlace ≡ ByFrame = ap (λ (d : Node). d.manner) is ∙ w in cc)

        by : (c : Manner) → at.node.manner ≡ c → behind_call r c at.node.arrival ≡ Some n → Kept n
        by ByFrame w i = let from = node_comes p f m at.node at.is_node in framed w from.0 from.2 i
        by InPlace w i = absurd (cc)
        by AsCps w i = absurd (cc)

    node_keeps : (m : ℕ) (at : NodeAt p f l m) → has_row r.split m ≡ true → holds_number (onwards r at.node) n ≡ true → Kept n
    node_keeps m at has h =
        held_either (as_list at.node.yes) (as_list at.node.no ++ as_list (behind_call r at.node.manner at.node.arrival)) n (Kept n) h (λ i. along m at true (list_is at.node.yes n i))
        (λ i. held_either (as_list at.node.no) (as_list (behind_call r at.node.manner at.node.arrival)) n (Kept n) i (λ j. along m at false (list_is at.node.no n j)) (λ j. behind m at has (list_is _ n j)))

    -- the first node of the function leads, and the start owns none
    first_keeps : (m : Place) → IsOwner r m → m ≡ l → (first_of r.split m == n) ≡ true → Kept n
    first_keeps _ TheStart e i = by (is_leader flow 0) refl
      where
        zero_is : 0 ≡ n
        zero_is = sym (entries_are_first p f).0 ∙ eq_means (graph_of p f).entry n i

        by : (b : Bool) → is_leader flow 0 ≡ b → Kept n
        by false g = by_true_false (is_own r.split l n) (own_true n (subst (λ c. owner_of flow c ≡ Some l) zero_is ((entries_are_first p f).3 ∙ (ap (λ b. Some (owner_by b Start 0)) g ∙ ap (λ c. Some c) e)))) other
        by true g = λ j h.
            let first = entries_are_first p f in
            let node = found_within (graph_of p f).nodes 0 first.1 in
            let keeper_is : owner_or Start (slice_get r.split.owners (graph_of p f).entry) ≡ At n =
            ap (owner_or Start) (ap (slice_get r.split.owners) first.0 ∙ (owner_there (graph_of p f) 0 node.0 node.1 ∙ ap (λ o. Some o) (first.3 ∙ ap (λ b. Some (owner_by b Start 0)) g))) ∙ ap At zero_is in
            ap (λ c. holds_number (closure_of r c) j) (sym e) ∙ (ap (λ c. holds_number (closure r.ways r.uses (length (variables f)) (owner_number c)) j) keeper_is ∙ h)
    first_keeps _ (ALeader m has) e i =
        let same = eq_means m n i in
        let leads : is_leader flow m ≡ true = sym (leaders_are_listed flow (flow_inside p f) m) ∙ held m r.split.leaders has in
        let own : owner_of flow m ≡ Some l = ap (λ b. owner_step flow (owner_within flow flow.size) b (At m)) leads ∙ ap (λ c. Some c) e in
        by_true_false (is_own r.split l n) (own_true n (subst (λ c. owner_of flow c ≡ Some l) same own)) other

    pub stub_keeps : holds_number (stubs_of r l) n ≡ true → Kept n
    stub_keeps h = by (first_of r.split l == n) refl (and_both (holds_number (reached r l) n) (not (is_own r.split l n)) (chosen_is (λ m. holds_number (reached r l) m && not (is_own r.split l m)) r.split.leaders n h).1).0
      where
        from : LeadsOn n (rows_nodes r.split l) → Kept n
        from d =
            let owned = node_owned d.from d.held in
            let at = node_at p f l owner d.from owned.0 in
            let same : Some d.node ≡ Some at.node = sym d.is_node ∙ at.is_node in
            let is : d.node ≡ at.node = cc in
            node_keeps d.from at owned.1 (ap (λ (x : Node). holds_number (onwards r x) n) (sym is) ∙ d.leads)

        by : (b : Bool) → (first_of r.split l == n) ≡ b → (b || holds_number (onwards_all r (rows_nodes r.split l)) n) ≡ true → Kept n
        by true e i = first_keeps l owner refl e
        by false e i = from (leads_on n (rows_nodes r.split l) i)

    pub stub_word : holds_number (stubs_of r l) n ≡ true → StandsIn (called_so to_name to_frame) (piece_locals p r l)
    stub_word h =
        (scopes.meant p f known l owner).words (called_so to_name to_frame) (
          0,
          first_word _ (any_node r (λ node. is_entry p node.stood) (rows_nodes r.split l)) (any_node r (λ node. is_result node.stood) (rows_nodes r.split l)) f.result
              (ap (λ b. b || any_node r (λ node. is_wait node.manner node.stood) (rows_nodes r.split l)) (some_there (stubs_of r l) n h)),
        )

-- ---- rows

module _ (p : Program) (source : Source p) (f : Function) (known : CpsKnown p f) (typed : CpsTyped p f) (formed : IsFormed f) (l : Place) (owner : IsOwner (routine_of p f) l) (all : Program) (k : Knows p all) where
  abbrev u : Routine
  u = routine_of p f

  abbrev at : Where
  at = at_piece p source f known typed formed l owner all k

  number_run : (n : ℕ) → holds_number (numbers_of p u l) n ≡ true → LinesRun at (row_of p u l n).lines
  number_run n h = by (is_own u.split l n) refl
    where
      by : (b : Bool) → is_own u.split l n ≡ b → LinesRun at (lines_by b p u n)
      by true own =
          let point = own_point p f typed l n h own in
          let its = own_row p f l n h own in
          let here = node_at p f l owner n its.0 in
          let there : slice_get (graph_of p f).nodes n ≡ Some (node_of p f point.point) = slice_get-map (node_of p f) (points f.body) n ∙ ap (option_map (node_of p f)) point.is_point in
          let same : Some here.node ≡ Some (node_of p f point.point) = sym here.is_node ∙ there in
          let is : here.node ≡ node_of p f point.point = cc in
          subst (λ o. LinesRun at (at_node [] (node_lines p u) o)) (sym here.is_node) (node_run p source f known typed formed l owner all k n here its.1 point.point is point.row)
      by false other =
          let stub = stub_is p f known l owner n h other in
          stub_run p source f known formed l owner all k n (held_has u.split.leaders n (chosen_is (λ m. holds_number (reached u l) m && not (is_own u.split l m)) u.split.leaders n stub).0) (stub_keeps p f known l owner n other stub) (stub_word p f known l owner n other stub)

  rows_run : (rs : List PutRow) (ns : List ℕ) → ((n : ℕ) → holds_number ns n ≡ true → LinesRun at (row_of p u l n).lines) → Runs at (rows_statements rs (put_rows (map (row_of p u l) ns))) at
  rows_run rs [] h = NoRow at
  rows_run rs (n ∷ ns) h =
      let o = first_number (map (row_of p u l) ns) in
      let its = (row_of p u l n).lines in
      runs_both at at at (row_statements rs (record { number = n; puts = put_lines o its })) _
      (labelled_run at (is_wanted n rs) (node_label n) (map put_statement (put_lines o its)) (puts_done o its (lines_done (is_own u.split l n) p u n)) (h n (ap (λ b. b || holds_number ns n) (eq_reflexive n)) o))
      (rows_run rs ns (λ m i. h m (or_by_second (n == m) (holds_number ns m) i)))

  -- what stands behind the opening of a piece breaks no rule
  pub statements_run : Runs at (piece_statements p u l) at
  statements_run = rows_run (put_in p u l) (numbers_of p u l) number_run
