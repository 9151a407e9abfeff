-- A call that is left over a frame: its line in the piece, and how control goes on behind it from where its value arrives.
use Rattle.std.proofs.Common.{◌≡◌, ℕ, suc, ◌+◌, ◌<◌, ◌≤◌, Bool, true, false, ◌||◌, cond, List, [], ◌∷◌, ◌++◌, map, length, Option, Some, None, refl, sym, ◌∙◌, ap, subst, arith}
use Rattle.cpc_base.specs.Bytes.{Text}
use Rattle.cpc_base.proofs.Truth.{eq_reflexive, or_by_second}
use Rattle.cpc_base.proofs.Lists.{length_of_map, append_empty}
use Rattle.cpc_store.specs.declared.values.Class.TheVariants.{Frame}
use Rattle.cpc_store.specs.Store.{Value, Unset, At as Pointer, Blocks, Store}
use Rattle.cpc_tree.specs.Lists.{holds_number}
use Rattle.cpc_tree.specs.Points.{Point}
use Rattle.cpc_tree.specs.Registers.{variables}
use Rattle.cpc_tree.specs.Syntax.{Stmt, Stmts, Function, Program}
use Rattle.cpc_tree.specs.Typing.{function_named}
use Rattle.cpc_meaning.specs.Eval.{Slot}
use Rattle.cpc_meaning.specs.Plain.{Frame as CallFrame}
use Rattle.cpc_meaning.specs.Start.{before_underscores}
use Rattle.cpc_meaning.specs.Threads.{shown_in}
use Rattle.cpc_meaning.specs.Ways.{ByFrame}
use Rattle.cpc_forms.specs.Flow.{Place, At, is_leader, owner_by, as_list}
use Rattle.cpc_forms.specs.Graph.{graph_of, at_node}
use Rattle.cpc_forms.specs.Split.{Position, InGraph, split_form}
use Rattle.cpc_graph_laws.specs.Laws.{flow_in}
use Rattle.cpc_graph_laws.proofs.Formed.{mapped, in_right, that_is}
use Rattle.cpc_graph_laws.proofs.Splits.{owner_there}
use Rattle.cpc_convert_image_laws.specs.Held.{beside}
use Rattle.cpc_chains_store_laws.specs.Chains.{frame_cells}
use Rattle.cpc_chains_store_laws.specs.Driver.{driving}
use Rattle.cpc_convert_flat_laws.specs.Flat.{before, point_at, bare, is_line}
use Rattle.cpc_convert_flat_laws.specs.Walks.{Walk, running, frame_at}
use Rattle.cpc_convert_flat_laws.proofs.AtLine.{line_passed}
use Rattle.cpc_convert_flat_laws.proofs.Walks.{walk_append}
use Rattle.cpc_chains_event.specs.FlatLaws.{piece_count}
use Rattle.cpc_chains_event.specs.LabelLaws.{put_in}
use Rattle.cpc_chains_event.specs.Lines.{Does, Goes, goes, save_of, behind_arrival, node_lines}
use Rattle.cpc_convert_routines.specs.Named.{IsOwner}
use Rattle.cpc_convert_routines.specs.Names.{piece_name}
use Rattle.cpc_convert_routines.specs.Routines.{Routine, routine_of, closure_of, local_of}
use Rattle.cpc_convert_routines.specs.Nodes.{is_own, has_row}
use Rattle.cpc_chains_event.specs.Rows.{behind_call, onwards, Plain, Jump, is_next, put_line, put_lines, put_statement, leads, any_leads, is_wanted, row_statements}
use Rattle.cpc_lifted_laws.specs.Related.Bounds.{Bounds}
use Rattle.cpc_lifted_laws.specs.Related.Cut.{copied}
use Rattle.cpc_chains_laws.proofs.Related.Inside.{Onward, Stays, Jumps}
use Rattle.cpc_lifted_laws.specs.Native.Instance.{keeps_in}
use Rattle.cpc_lifted_laws.specs.Piece.Known.{CpsKnown}
use Rattle.cpc_chains_laws.specs.Piece.Rows.{next_number, put_row, RowAt, row_index, row_point}
use Rattle.cpc_chains_laws.specs.Piece.Stood.{NodeAt, LocalsStand, NoneArrives, AtRow}
use Rattle.cpc_chains_laws.proofs.Piece.Filled.{row_filled}
use Rattle.cpc_chains_laws.proofs.Piece.Frames.{Target, code, body, scope, is_code, saves_of, with_frame, kept_number}
use Rattle.cpc_chains_laws.proofs.Piece.Onwards.{z}
use Rattle.cpc_chains_laws.proofs.Piece.Places.{Before, FirstLine, ToRow, wanted_in, goes_row}
use Rattle.cpc_chains_laws.proofs.Piece.Rowed.{tail, row_puts, others, rest, first}
use Rattle.cpc_chains_laws.proofs.Piece.Stubs.{stub_walk}
use Rattle.cpc_chains_laws.proofs.Piece.Ways.{Next, way_next, own_stays, other_leads, stub_there, row_for, keeps_along, goes_is}

-- the call stands at n, and its value arrives at m
module _ (p : Program) (fine : CallFrame Position → Option Value → Type 0) (given : Text → List Value → Type 0) (bounds : Bounds) (f : Function) (known : CpsKnown p f) (enough : 5 + length (variables f) ≤ bounds.onward) (begins : 0 < bounds.leads) (l : Place) (owner : IsOwner (routine_of p f) l)
    (shown : before_underscores (piece_name f.called l) ≡ shown_in p f.called) (lower pointer result frame : Value)
    (n : ℕ) (at : NodeAt p f l n) (has : has_row (routine_of p f).split n ≡ true) (row : RowAt p (routine_of p f) l n)
    (framed : at.node.manner ≡ ByFrame) (m : ℕ) (arrival : at.node.arrival ≡ Some m) (there : NodeAt p f l m) where
  abbrev r : Routine
  r = routine_of p f

  abbrev following : Option ℕ
  following = next_number row.back

  abbrev k : ℕ
  k = row_index p r l n row

  -- behind the call control goes where it goes from the arrival
  behind_is : behind_arrival r at.node.arrival ≡ there.node.yes
  behind_is = ap (behind_arrival r) arrival ∙ ap (at_node None (λ node. node.yes)) there.is_node

  onwards_behind : (i : ℕ) → there.node.yes ≡ Some i → holds_number (onwards r at.node) i ≡ true
  onwards_behind i e = in_right i (as_list at.node.yes) _ (in_right i (as_list at.node.no) _ (that_is i (behind_call r at.node.manner at.node.arrival) (ap (λ w. behind_call r w at.node.arrival) framed ∙ (behind_is ∙ e))))

  module _ (i : ℕ) (goes_there : there.node.yes ≡ Some i) where
    next : Next p f l i
    next = way_next p f l m there true i goes_there

    its_row : RowAt p r l i
    its_row = row_for p f l n at has i (onwards_behind i goes_there) next

    module _ (from : Point) (to : ToRow p f l (Target p f known l owner) (is_code p f known l owner) known.few_nodes i its_row 1 from) (slots slots' : List Slot) (stands : LocalsStand p r l slots slots' lower) (bs : Blocks) (t : Store) where
      abbrev To : Position → Type 0
      To = Onward (z p fine given bounds) bounds f.called l lower pointer result frame bs t slots (frame_at (piece_name f.called l) from slots')

      stays : is_own r.split l i ≡ true → To (InGraph l i)
      stays own =
          Stays i (frame_at (piece_name f.called l) (row_point p r l i its_row) slots') to.steps (let within = to.within in omega (arith, within, enough)) (λ w. to.walk w (driving pointer result frame ∷ []) slots' (beside bs t))
          (AtRow f l i slots None lower slots' known.found (record { owner = owner; keeps = at.keeps; owned = owner_there (graph_of p f) i next.node next.is_node ∙ ap Some (own_stays p f l i next own); node = next.node; is_node = next.is_node }) next.has its_row stands NoneArrives)

      blocks_are : with_frame p f known l owner bs slots lower i ≡ bs ++ Some (frame_cells (record { piece = piece_name f.called (At i); values = copied slots (keeps_in p (function_named p f.called) (At i)) }) lower Unset) ∷ []
      blocks_are = ap (λ o. bs ++ Some (frame_cells (record { piece = piece_name f.called (At i); values = copied slots (keeps_in p o (At i)) }) lower Unset) ∷ []) (sym known.found.named)

      jumps : is_own r.split l i ≡ false → To (InGraph (At i) i)
      jumps other =
          let led = other_leads p f l i next other in
          let few = kept_number p f known l owner (At i) in
          let counted = length_of_map (λ j. save_of (local_of r j)) (closure_of r (At i)) in
          let within = to.within in
          Jumps i (to.steps + (suc (suc (suc (length (saves_of p f known l owner i)))) + 1)) (omega (arith, within, few, counted, enough))
          (λ w. walk_append to.steps (suc (suc (suc (length (saves_of p f known l owner i)))) + 1) _ _ _ (to.walk w (driving pointer result frame ∷ []) slots' (beside bs t))
          (subst (λ cs. Walk (Target p f known l owner) w.trace (suc (suc (suc (length (saves_of p f known l owner i)))) + 1) (running w (beside bs t) (frame_at (piece_name f.called l) (row_point p r l i its_row) slots' ∷ driving pointer result frame ∷ []) None)
          (running w (beside cs t) (driving pointer result frame ∷ []) (Some (Pointer Frame (length bs) 0)))) blocks_are
          (stub_walk p f known l owner i (stub_there p f l n at has i (onwards_behind i goes_there) next other) its_row (keeps_along p f known l m there true i goes_there (ap (λ c. owner_by c l i) led.0)) slots slots' lower stands w bs t pointer result frame)))

      to_next : To (InGraph (owner_by (is_leader (flow_in p f) i) l i) i)
      to_next = go (is_own r.split l i) refl
        where
          own_is : is_own r.split l i ≡ true → owner_by (is_leader (flow_in p f) i) l i ≡ l
          own_is own = let e : Some (owner_by (is_leader (flow_in p f) i) l i) ≡ Some l = sym next.owned ∙ own_stays p f l i next own in cc

          go : (c : Bool) → is_own r.split l i ≡ c → To (InGraph (owner_by (is_leader (flow_in p f) i) l i) i)
          go true e = subst (λ a. To (InGraph a i)) (sym (own_is e)) (stays e)
          go false e = subst (λ c. To (InGraph (owner_by c l i) i)) (sym (other_leads p f l i next e).0) (jumps e)

  -- ---- the line of the call

  module _ (x : Stmt) (lines : node_lines p r at.node ≡ Does x ∷ goes (behind_arrival r at.node.arrival)) (is_bare : bare x ≡ x) (lined : is_line x ≡ true) where
    puts : (put_row p r l n row.back).puts ≡ Plain x ∷ put_lines following (goes there.node.yes)
    puts = row_puts p fine given bounds f known enough begins l owner shown lower pointer result frame n at has row (Does x ∷ goes (behind_arrival r at.node.arrival)) lines ∙ ap (λ o. Plain x ∷ put_lines following (goes o)) behind_is

    abbrev pub left_over : Stmts
    left_over = rest p fine given bounds f known enough begins l owner shown lower pointer result frame n at has row (Plain x) (goes there.node.yes)

    abbrev pub more : List Stmt
    more = others p fine given bounds f known enough begins l owner shown lower pointer result frame n at has row (Plain x) (goes there.node.yes)

    pub call_line : FirstLine p f l n row x more left_over
    call_line = first p fine given bounds f known enough begins l owner shown lower pointer result frame n at has row (Plain x) (goes there.node.yes) puts is_bare lined

    -- control goes on behind it
    pub behind_framed : (slots b : List Slot) → LocalsStand p r l slots b lower → (bs : Blocks) (t : Store) (to : Position) → (split_form p).code.goes f.called (InGraph l m) true ≡ Some to
        → Onward (z p fine given bounds) bounds f.called l lower pointer result frame bs t slots (frame_at (piece_name f.called l) (point_at (suc k) left_over) b) to
    behind_framed slots b stands bs t to e =
        let target = mapped (λ i. InGraph (owner_by (is_leader (flow_in p f) i) l i) i) there.node.yes to (sym (goes_is p f known l m there true) ∙ e) in
        subst (Onward (z p fine given bounds) bounds f.called l lower pointer result frame bs t slots (frame_at (piece_name f.called l) (point_at (suc k) left_over) b)) target.2 (by target.0 target.1)
      where
        by : (i : ℕ) → there.node.yes ≡ Some i → Onward (z p fine given bounds) bounds f.called l lower pointer result frame bs t slots (frame_at (piece_name f.called l) (point_at (suc k) left_over) b) (InGraph (owner_by (is_leader (flow_in p f) i) l i) i)
        by i there_is =
            let after = tail p fine given bounds f known enough begins l owner shown lower pointer result frame n at has row in
            let goes_next = next i there_is in
            let b' = its_row i there_is in
            let ps = put_line following (Goes i) in
            let same_puts : put_lines following (goes there.node.yes) ≡ ps = ap (λ o. put_lines following (goes o)) there_is ∙ append_empty ps in
            let left = before (map put_statement ps) after in
            let same_left : left_over ≡ left = ap (λ xs. before (map put_statement xs) after) same_puts in
            let line = call_line in
            let counted = line.counted in
            let same_length : length more ≡ length (map put_statement ps) = ap (λ xs. length (map put_statement xs)) same_puts in
            let wanted : is_next i following ≡ false → is_wanted i (put_in p r l) ≡ true = λ other.
            ap (is_wanted i) row.is_split
            ∙ wanted_in i row.front row.back (put_row p r l n row.back)
            (ap (any_leads i) puts
            ∙ or_by_second (leads i (Plain x)) (any_leads i (put_lines following (goes there.node.yes))) (ap (any_leads i) same_puts ∙ (ap (λ d. any_leads i (cond d [] (Jump i ∷ []))) other ∙ ap (λ d. d || false) (eq_reflexive i)))) in
            let st = subst (Before p f l (suc k)) same_left (line_passed (code p f known l owner) (body p f known l owner) k (scope p f known l owner) (piece_count p r l) x left_over line.line) in
            let to_row = goes_row p f l (Target p f known l owner) (is_code p f known l owner) known.few_nodes n row i b' (row_filled p f l i goes_next.node goes_next.is_node b') wanted (suc k) st
            (let y : suc k + length (map put_statement ps) ≡ k + length (row_statements (put_in p r l) (put_row p r l n row.back)) = omega (arith, counted, same_length) in y) in
            subst (λ xs. Onward (z p fine given bounds) bounds f.called l lower pointer result frame bs t slots (frame_at (piece_name f.called l) (point_at (suc k) xs) b) (InGraph (owner_by (is_leader (flow_in p f) i) l i) i)) (sym same_left)
            (to_next i there_is (point_at (suc k) left) to_row slots b stands bs t)
