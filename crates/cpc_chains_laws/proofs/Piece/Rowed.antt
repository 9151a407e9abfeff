-- A piece stands before the row of a node: its first line does what the node does, and control goes on behind it.
use Rattle.std.proofs.Common.{◌≡◌, ℕ, suc, ◌+◌, ◌<◌, ◌≤◌, Bool, true, false, ◌||◌, cond, List, [], ◌∷◌, map, length, Option, Some, None, refl, sym, ◌∙◌, ap, subst, arith}
use Rattle.cpc_base.specs.Bytes.{Text}
use Rattle.cpc_base.proofs.Truth.{eq_reflexive, or_by_second}
use Rattle.cpc_base.proofs.Lists.{append_empty}
use Rattle.cpc_num.specs.declared.kinds.Fault.{Fault}
use Rattle.cpc_tree.specs.Points.{Point, Here, Found, Simple, Out, enter, next_point}
use Rattle.cpc_tree.specs.Registers.{variables}
use Rattle.cpc_tree.specs.Syntax.{Stmt, Stmts, NoStmt, Function, Program}
use Rattle.cpc_tree.specs.Trace.{Failed}
use Rattle.cpc_store.specs.Store.{Value, Blocks, Store}
use Rattle.cpc_meaning.specs.Act.{Act, GoesOn, simple_act, found_act}
use Rattle.cpc_meaning.specs.Agenda.{Agenda}
use Rattle.cpc_meaning.specs.Answer.{Answer, Gives, Faults}
use Rattle.cpc_meaning.specs.Eval.{Slot}
use Rattle.cpc_meaning.specs.Events.{Callback, callbacks}
use Rattle.cpc_meaning.specs.Machine.{next, ends}
use Rattle.cpc_meaning.specs.Plain.{Frame as CallFrame}
use Rattle.cpc_meaning.specs.Start.{before_underscores}
use Rattle.cpc_meaning.specs.Threads.{shown_in}
use Rattle.cpc_convert_image_laws.specs.Held.{beside}
use Rattle.cpc_convert_image_laws.specs.Relations.{Meets, BothGive, BothFault, Stuck, SameAct, BothGo, BothEnter, BothLeave, BothAsk}
use Rattle.cpc_forms.specs.Flow.{Place, is_leader, owner_by}
use Rattle.cpc_forms.specs.Graph.{way, at_node}
use Rattle.cpc_forms.specs.Pieces.{is_owned_by}
use Rattle.cpc_forms.specs.Split.{Position, InGraph, split_form}
use Rattle.cpc_graph_laws.specs.Laws.{flow_in}
use Rattle.cpc_graph_laws.proofs.Formed.{mapped}
use Rattle.cpc_graph_laws.proofs.Owning.{place_self}
use Rattle.cpc_chains_store_laws.specs.Driver.{driving}
use Rattle.cpc_convert_flat_laws.specs.Flat.{before, point_at, bare, is_line, is_test, standing, onward}
use Rattle.cpc_convert_flat_laws.specs.Locals.{at as Here_at}
use Rattle.cpc_convert_flat_laws.proofs.Walks.{stay}
use Rattle.cpc_convert_flat_laws.specs.Walks.{World, running, frame_at}
use Rattle.cpc_convert_flat_laws.proofs.AtLine.{line_path, line_found, line_scope, line_next, line_passed}
use Rattle.cpc_convert_flat_laws.proofs.Steps.{step_on, step_faults}
use Rattle.cpc_chains_event.specs.FlatLaws.{piece_count}
use Rattle.cpc_chains_event.specs.LabelLaws.{put_in}
use Rattle.cpc_chains_event.specs.Lines.{Line, Does, Goes, goes, node_lines}
use Rattle.cpc_convert_routines.specs.Named.{IsOwner}
use Rattle.cpc_convert_routines.specs.Names.{piece_name}
use Rattle.cpc_convert_routines.specs.Routines.{Routine, routine_of}
use Rattle.cpc_chains_event.specs.Rows.{owner_at, lines_by, Put, Plain, Jump, is_next, put_line, put_lines, put_statement, leads, any_leads, is_wanted, row_statements, rows_statements}
use Rattle.cpc_convert_routines.specs.Nodes.{is_own, has_row}
use Rattle.cpc_lifted_laws.specs.Accepted.Known.{Stays}
use Rattle.cpc_lifted_laws.specs.Related.Bounds.{Bounds}
use Rattle.cpc_chains_laws.proofs.Related.Inside.{Onward, Does as Performs, Sticks, Breaks, Moves}
use Rattle.cpc_chains_laws.proofs.Related.Relation.{Shared, world_of}
use Rattle.cpc_lifted_laws.specs.Native.Instance.{StaysAs}
use Rattle.cpc_lifted_laws.specs.Piece.Known.{CpsKnown}
use Rattle.cpc_chains_laws.specs.Piece.Rows.{next_number, put_row, RowAt, row_index, row_point}
use Rattle.cpc_chains_laws.specs.Piece.Stood.{NodeAt, LocalsStand}
use Rattle.cpc_chains_laws.proofs.Piece.Environment.{InLocal, changed_stand}
use Rattle.cpc_chains_laws.proofs.Piece.Filled.{row_filled}
use Rattle.cpc_chains_laws.proofs.Piece.Frames.{same_registers, Target, code, body, scope, is_code}
use Rattle.cpc_chains_laws.proofs.Piece.Onwards.{z, goes_onward}
use Rattle.cpc_chains_laws.proofs.Piece.Places.{Before, FirstLine, first_line, wanted_in, goes_row}
use Rattle.cpc_chains_laws.proofs.Piece.Ways.{way_next, onwards_way, row_for, goes_is}

-- what an answer gives is that control goes on, as a test holds
abbrev pub OnlyGoes : Answer Act → Type 0
OnlyGoes u = (a : Act) → u ≡ Gives a → (t : Store) × (changed : List Slot) × (a ≡ GoesOn true t changed)

module _ (p : Program) (fine : CallFrame Position → Option Value → Type 0) (given : Text → List Value → Type 0) (bounds : Bounds) (f : Function) (known : CpsKnown p f) (enough : 5 + length (variables f) ≤ bounds.onward) (begins : 0 < bounds.leads) (l : Place) (owner : IsOwner (routine_of p f) l)
    (shown : before_underscores (piece_name f.called l) ≡ shown_in p f.called) (lower pointer result frame : Value)
    (n : ℕ) (at : NodeAt p f l n) (has : has_row (routine_of p f).split n ≡ true) (row : RowAt p (routine_of p f) l n) where
  abbrev r : Routine
  r = routine_of p f

  abbrev following : Option ℕ
  following = next_number row.back

  abbrev pub tail : Stmts
  tail = before (rows_statements (put_in p r l) row.back) NoStmt

  abbrev k : ℕ
  k = row_index p r l n row

  abbrev q : Program
  q = Target p f known l owner

  own : is_own r.split l n ≡ true
  own = ap (λ o. is_owned_by l (owner_at o)) at.owned ∙ place_self l

  -- the lines of the node are those of the row
  pub row_puts : (ls : List Line) → node_lines p r at.node ≡ ls → (put_row p r l n row.back).puts ≡ put_lines following ls
  row_puts ls e = ap (λ b. put_lines following (lines_by b p r n)) own ∙ (ap (λ o. put_lines following (at_node [] (node_lines p r) o)) at.is_node ∙ ap (put_lines following) e)

  -- the piece there, and what it has to do
  abbrev pub standing_piece : List Slot → CallFrame Point
  standing_piece slots' = frame_at (piece_name f.called l) (row_point p r l n row) slots'

  -- what it has to do where the source does this
  abbrev pub DoesHere : Shared → Blocks → Agenda Callback → (slots slots' : List Slot) → Option Value → Answer Act → Type 0
  DoesHere w bs c slots slots' o u = Performs (z p fine given bounds) bounds f.called l lower pointer result frame w bs c n slots o (standing_piece slots') None u

  -- ---- the first line

  -- the line of this beginning, with the statements behind it
  module _ (y : Put) (ls : List Line) where
    abbrev pub others : List Stmt
    others = map put_statement (put_lines following ls)

    abbrev pub rest : Stmts
    rest = before others tail

    pub first : (put_row p r l n row.back).puts ≡ y ∷ put_lines following ls → bare (put_statement y) ≡ put_statement y → is_line (put_statement y) ≡ true → FirstLine p f l n row (put_statement y) others rest
    first puts is_bare lined = first_line p f l n row (put_statement y) others rest (ap (map put_statement) puts) refl is_bare lined

  -- a first line after which control goes on
  pub first_step : (x : Stmt) (more : List Stmt) (left : Stmts) (line : FirstLine p f l n row x more left) → (w : World) (slots' : List Slot) (s : Store) (s' : Found) → standing x ≡ s' → (h : Bool) (t : Store) (b : List Slot) (point : Point)
      → found_act (Here_at q (scope p f known l owner) slots' s) (code p f known l owner).result s' ≡ Gives (GoesOn h t b)
      → next_point (code p f known l owner).body (Here (line_path (code p f known l owner) (body p f known l owner) k (scope p f known l owner) (piece_count p r l) x left line.line)) h ≡ Some point
      → next (callbacks q) (running w s (standing_piece slots' ∷ driving pointer result frame ∷ []) None) ≡ Some (running w t (frame_at (piece_name f.called l) point b ∷ driving pointer result frame ∷ []) None)
  first_step x more left line w slots' s s' stood h t b point is_act is_next =
      let g = code p f known l owner in
      let bd = body p f known l owner in
      let sc = scope p f known l owner in
      let m = piece_count p r l in
      subst (λ ss. next (callbacks q) (running w s (frame_at (piece_name f.called l) (point_at k ss) slots' ∷ driving pointer result frame ∷ []) None) ≡ Some (running w t (frame_at (piece_name f.called l) point b ∷ driving pointer result frame ∷ []) None)) (sym line.is_rest)
      (step_on q w (piece_name f.called l) g (driving pointer result frame ∷ []) (is_code p f known l owner) slots' s (line_path g bd k sc m x left line.line) sc (line_scope g bd k sc m x left line.line (enter line.line.statement)) s' (line_found g bd k sc m x left line.line ∙ stood) h t b point is_act is_next)

  -- one that faults
  pub first_fault : (x : Stmt) (more : List Stmt) (left : Stmts) (line : FirstLine p f l n row x more left) → (w : World) (slots' : List Slot) (s : Store) (s' : Found) → standing x ≡ s' → (fault : Fault)
      → found_act (Here_at q (scope p f known l owner) slots' s) (code p f known l owner).result s' ≡ Faults fault
      → next (callbacks q) (running w s (standing_piece slots' ∷ driving pointer result frame ∷ []) None) ≡ Some (ends (Failed fault (before_underscores (piece_name f.called l))) (running w s (standing_piece slots' ∷ driving pointer result frame ∷ []) None))
  first_fault x more left line w slots' s s' stood fault is_act =
      let g = code p f known l owner in
      let bd = body p f known l owner in
      let sc = scope p f known l owner in
      let m = piece_count p r l in
      subst (λ ss. next (callbacks q) (running w s (frame_at (piece_name f.called l) (point_at k ss) slots' ∷ driving pointer result frame ∷ []) None) ≡ Some (ends (Failed fault (before_underscores (piece_name f.called l))) (running w s (frame_at (piece_name f.called l) (point_at k ss) slots' ∷ driving pointer result frame ∷ []) None))) (sym line.is_rest)
      (step_faults q w (piece_name f.called l) g (driving pointer result frame ∷ []) (is_code p f known l owner) slots' s (line_path g bd k sc m x left line.line) sc (line_scope g bd k sc m x left line.line (enter line.line.statement)) s' (line_found g bd k sc m x left line.line ∙ stood) fault is_act)

  -- ---- behind it

  module _ (y : Put) (h : Bool) (puts : (put_row p r l n row.back).puts ≡ y ∷ put_lines following (goes (way at.node h))) (is_bare : bare (put_statement y) ≡ put_statement y) (lined : is_line (put_statement y) ≡ true) where
    abbrev left_over : Stmts
    left_over = rest y (goes (way at.node h))

    -- control goes on
    pub behind : (slots : List Slot) (b : List Slot) → LocalsStand p r l slots b lower → (bs : Blocks) (t : Store) (to : Position) → (split_form p).code.goes f.called (InGraph l n) h ≡ Some to
        → Onward (z p fine given bounds) bounds f.called l lower pointer result frame bs t slots (frame_at (piece_name f.called l) (point_at (suc k) left_over) b) to
    behind slots b stands bs t to e =
        let target = mapped (λ m. InGraph (owner_by (is_leader (flow_in p f) m) l m) m) (way at.node h) to (sym (goes_is p f known l n at h) ∙ e) in
        subst (Onward (z p fine given bounds) bounds f.called l lower pointer result frame bs t slots (frame_at (piece_name f.called l) (point_at (suc k) left_over) b)) target.2 (by target.0 target.1)
      where
        by : (m : ℕ) → way at.node h ≡ Some m → Onward (z p fine given bounds) bounds f.called l lower pointer result frame bs t slots (frame_at (piece_name f.called l) (point_at (suc k) left_over) b) (InGraph (owner_by (is_leader (flow_in p f) m) l m) m)
        by m there_is =
            let next = way_next p f l n at h m there_is in
            let there = row_for p f l n at has m (onwards_way p f at.node h m there_is) next in
            let ps = put_line following (Goes m) in
            let same_puts : put_lines following (goes (way at.node h)) ≡ ps = ap (λ o. put_lines following (goes o)) there_is ∙ append_empty ps in
            let left = before (map put_statement ps) tail in
            let same_left : left_over ≡ left = ap (λ xs. before (map put_statement xs) tail) same_puts in
            let line = first y (goes (way at.node h)) puts is_bare lined in
            let counted = line.counted in
            let same_length : length (others y (goes (way at.node h))) ≡ length (map put_statement ps) = ap (λ xs. length (map put_statement xs)) same_puts in
            let wanted : is_next m following ≡ false → is_wanted m (put_in p r l) ≡ true = λ other.
            ap (is_wanted m) row.is_split
            ∙ wanted_in m row.front row.back (put_row p r l n row.back)
            (ap (any_leads m) puts
            ∙ or_by_second (leads m y) (any_leads m (put_lines following (goes (way at.node h)))) (ap (any_leads m) same_puts ∙ (ap (λ d. any_leads m (cond d [] (Jump m ∷ []))) other ∙ ap (λ d. d || false) (eq_reflexive m)))) in
            let st = subst (Before p f l (suc k)) same_left (line_passed (code p f known l owner) (body p f known l owner) k (scope p f known l owner) (piece_count p r l) (put_statement y) left_over line.line) in
            let to_row = goes_row p f l q (is_code p f known l owner) known.few_nodes n row m there (row_filled p f l m next.node next.is_node there) wanted (suc k) st
            (let z : suc k + length (map put_statement ps) ≡ k + length (row_statements (put_in p r l) (put_row p r l n row.back)) = omega (arith, counted, same_length) in z) in
            subst (λ xs. Onward (z p fine given bounds) bounds f.called l lower pointer result frame bs t slots (frame_at (piece_name f.called l) (point_at (suc k) xs) b) (InGraph (owner_by (is_leader (flow_in p f) m) l m) m)) (sym same_left)
            (goes_onward p fine given bounds f known enough l owner lower pointer result frame n at has h m there_is there (point_at (suc k) left) to_row slots b stands bs t)

  -- ---- a statement in place

  module _ (x : Stmt) (lines : node_lines p r at.node ≡ Does x ∷ goes at.node.yes) (is_bare : bare x ≡ x) (lined : is_line x ≡ true) (stood : standing x ≡ Simple x) (no_test : is_test x ≡ false) (out : onward x ≡ Out)
      (w : Shared) (bs : Blocks) (c : Agenda Callback) (slots slots' : List Slot) (stands : LocalsStand p r l slots slots' lower) (o : Option Value) where
    abbrev Doing : Answer Act → Type 0
    Doing u = DoesHere w bs c slots slots' o u

    abbrev acts : Answer Act
    acts = simple_act (Here_at q (scope p f known l owner) slots' (beside bs w.store)) (code p f known l owner).result x

    line : FirstLine p f l n row x (others (Plain x) (goes at.node.yes)) (rest (Plain x) (goes at.node.yes))
    line = first (Plain x) (goes at.node.yes) (row_puts (Does x ∷ goes at.node.yes) lines) is_bare lined

    -- it does what the source does
    pub in_place : (u : Answer Act) → OnlyGoes u → Meets (SameAct (Stays p) (StaysAs p) (InLocal p f known l owner) bs slots slots') u acts → DoesHere w bs c slots slots' o u
    in_place u only meets = go u acts only meets refl
      where
        moves : (h : Bool) (t : Store) (a b : List Slot) → LocalsStand p r l a b lower → h ≡ true → acts ≡ Gives (GoesOn h (beside bs t) b) → Doing (Gives (GoesOn h t a))
        moves h t a b after is is_act =
            Moves h t a
            (λ to e. record {
              from = frame_at (piece_name f.called l) (point_at (suc k) (rest (Plain x) (goes at.node.yes))) b;
              first = first_step x (others (Plain x) (goes at.node.yes)) (rest (Plain x) (goes at.node.yes)) line (world_of w c) slots' (beside bs w.store) (Simple x) stood h (beside bs t) b (point_at (suc k) (rest (Plain x) (goes at.node.yes))) is_act
                  (line_next (code p f known l owner) (body p f known l owner) k (scope p f known l owner) (piece_count p r l) x (rest (Plain x) (goes at.node.yes)) line.line h no_test out);
              same = same_registers p r l slots a slots' b lower stands after;
              onward = behind (Plain x) true (row_puts (Does x ∷ goes at.node.yes) lines) is_bare lined a b after bs t to (ap (λ d. (split_form p).code.goes f.called (InGraph l n) d) (sym is) ∙ e);
            })

        same : (a : Act) (b : Act) → SameAct (Stays p) (StaysAs p) (InLocal p f known l owner) bs slots slots' a b → OnlyGoes (Gives a) → acts ≡ Gives b → Doing (Gives a)
        same _ _ (BothGo h t a b _ _ changed) only is_act =
            let e = (only (GoesOn h t a) refl).2 in
            moves h t a b (changed_stand p f known l owner slots slots' a b lower changed stands) (cc) is_act
        same _ _ (BothEnter g g' vs _ _ _) only is_act = absurd (let e = (only _ refl).2 in cc)
        same _ _ (BothLeave v t _ _) only is_act = absurd (let e = (only _ refl).2 in cc)
        same _ _ (BothAsk rq _) only is_act = absurd (let e = (only _ refl).2 in cc)

        go : (u v : Answer Act) → OnlyGoes u → Meets (SameAct (Stays p) (StaysAs p) (InLocal p f known l owner) bs slots slots') u v → acts ≡ v → Doing u
        go _ _ only (BothGive a b s) e = same a b s only e
        go _ _ only (BothFault fault) e =
            Breaks fault (piece_name f.called l) shown
            (record { steps = 0; grown = 0; last = _; leads = stay _; faults = first_fault x (others (Plain x) (goes at.node.yes)) (rest (Plain x) (goes at.node.yes)) line (world_of w c) slots' (beside bs w.store) (Simple x) stood fault e }) begins (omega arith)
        go _ _ only (Stuck b) e = Sticks
