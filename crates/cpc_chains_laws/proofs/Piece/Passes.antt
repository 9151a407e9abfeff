-- Nodes at which nothing changes: the piece falls to the next row, or goes to another.
use Rattle.std.proofs.Common.{◌≡◌, ℕ, suc, ◌+◌, ◌<◌, ◌≤◌, Bool, true, false, ◌||◌, cond, List, [], ◌∷◌, ◌++◌, length, Option, Some, None, option_map, refl, sym, ◌∙◌, ap, subst, arith}
use Rattle.cpc_base.specs.Bytes.{Text}
use Rattle.cpc_base.proofs.Truth.{eq_reflexive}
use Rattle.cpc_tree.specs.Points.{Point, Simple, Test}
use Rattle.cpc_tree.specs.Registers.{variables}
use Rattle.cpc_tree.specs.Syntax.{Ty, Stmt, Empty, Declare, Assign, Call, Detach, Spawn, Goto, Return, Function, Program}
use Rattle.cpc_store.specs.Store.{Value, Blocks}
use Rattle.cpc_meaning.specs.Act.{AtStatement, Act, GoesOn, act, simple_act}
use Rattle.cpc_meaning.specs.Agenda.{Agenda}
use Rattle.cpc_meaning.specs.Answer.{Gives}
use Rattle.cpc_meaning.specs.Eval.{Slot, Context}
use Rattle.cpc_meaning.specs.Events.{Callback}
use Rattle.cpc_meaning.specs.Plain.{Frame as CallFrame, context}
use Rattle.cpc_meaning.specs.Start.{before_underscores}
use Rattle.cpc_meaning.specs.Threads.{shown_in}
use Rattle.cpc_meaning.specs.Ways.{InPlace}
use Rattle.cpc_convert_image_laws.specs.Held.{beside}
use Rattle.cpc_convert_image_laws.specs.Images.{Readings}
use Rattle.cpc_convert_image_laws.specs.Stacks.{frame_of}
use Rattle.cpc_forms.specs.Flow.{Place, is_leader, owner_by}
use Rattle.cpc_forms.specs.Split.{Position, InGraph, split_form}
use Rattle.cpc_graph_laws.specs.Laws.{flow_in}
use Rattle.cpc_convert_flat_laws.specs.Flat.{dropped, point_at}
use Rattle.cpc_convert_flat_laws.specs.Walks.{frame_at}
use Rattle.cpc_convert_flat_laws.proofs.AtLine.{line_next, line_goes}
use Rattle.cpc_chains_event.specs.FlatLaws.{piece_count}
use Rattle.cpc_chains_event.specs.LabelLaws.{put_in}
use Rattle.cpc_chains_event.specs.Lines.{Passes, passes, simple_lines, node_lines}
use Rattle.cpc_convert_routines.specs.Named.{IsOwner}
use Rattle.cpc_convert_routines.specs.Names.{piece_name, node_label}
use Rattle.cpc_convert_routines.specs.Routines.{Routine, routine_of, readings_of}
use Rattle.cpc_convert_routines.specs.Nodes.{has_row}
use Rattle.cpc_chains_event.specs.Rows.{Plain, Jump, is_next, put_lines, any_leads, is_wanted}
use Rattle.cpc_lifted_laws.specs.Related.Bounds.{Bounds}
use Rattle.cpc_chains_laws.proofs.Related.Inside.{Onward, Moves}
use Rattle.cpc_chains_laws.proofs.Related.Relation.{Shared, world_of}
use Rattle.cpc_lifted_laws.specs.Piece.Known.{CpsKnown}
use Rattle.cpc_chains_laws.specs.Piece.Known.{ProgramKnown}
use Rattle.cpc_chains_laws.specs.Piece.Rows.{next_number, put_row, RowAt, row_index}
use Rattle.cpc_chains_laws.specs.Piece.Stood.{NodeAt, LocalsStand}
use Rattle.cpc_chains_laws.proofs.Piece.Acting.{source_act, lines_are}
use Rattle.cpc_chains_laws.proofs.Piece.Filled.{row_filled}
use Rattle.cpc_chains_laws.proofs.Piece.Frames.{Target, code, body, scope, is_code}
use Rattle.cpc_chains_laws.proofs.Piece.Onwards.{z, goes_onward}
use Rattle.cpc_chains_laws.proofs.Piece.Places.{wanted_in, next_row, next_is, row_stands, row_label, falls_row, ToRow}
use Rattle.cpc_chains_laws.proofs.Piece.Rowed.{row_puts, DoesHere, tail, first, first_step}
use Rattle.cpc_chains_laws.proofs.Piece.Ways.{way_next, onwards_way, row_for, goes_is}

-- a statement that does nothing where it stands
abbrev pub is_idle : Stmt → Bool
is_idle (Declare x t (Some e)) = false
is_idle (Assign e op v) = false
is_idle (Call to f es) = false
is_idle (Detach to f es) = false
is_idle (Spawn f es) = false
is_idle (Return v) = false
is_idle s = true

idle_act : (c : Context) (result : Ty) (s : Stmt) → is_idle s ≡ true → simple_act c result s ≡ Gives (GoesOn true c.store c.slots)
idle_act c result (Declare x t (Some e)) h = absurd (cc)
idle_act c result (Declare x t None) h = refl
idle_act c result (Assign e op v) h = absurd (cc)
idle_act c result (Call to f es) h = absurd (cc)
idle_act c result (Detach to f es) h = absurd (cc)
idle_act c result (Spawn f es) h = absurd (cc)
idle_act c result (Return v) h = absurd (cc)
idle_act c result s h = refl

idle_lines : (r : Routine) (names : Readings) (s : Stmt) (n : Option ℕ) → is_idle s ≡ true → simple_lines r names s n ≡ passes n ∷ []
idle_lines r names (Declare x t (Some e)) n h = absurd (cc)
idle_lines r names (Declare x t None) n h = refl
idle_lines r names (Assign e op v) n h = absurd (cc)
idle_lines r names (Call to f es) n h = absurd (cc)
idle_lines r names (Detach to f es) n h = absurd (cc)
idle_lines r names (Spawn f es) n h = absurd (cc)
idle_lines r names (Return v) n h = absurd (cc)
idle_lines r names s n h = refl

module _ (p : Program) (facts : ProgramKnown p) (fine : CallFrame Position → Option Value → Type 0) (given : Text → List Value → Type 0) (bounds : Bounds) (f : Function) (known : CpsKnown p f) (enough : 5 + length (variables f) ≤ bounds.onward) (begins : 0 < bounds.leads) (l : Place) (owner : IsOwner (routine_of p f) l)
    (shown : before_underscores (piece_name f.called l) ≡ shown_in p f.called) (lower pointer result frame : Value)
    (n : ℕ) (at : NodeAt p f l n) (has : has_row (routine_of p f).split n ≡ true) (row : RowAt p (routine_of p f) l n)
    (w : Shared) (bs : Blocks) (c : Agenda Callback) (slots slots' : List Slot) (stands : LocalsStand p (routine_of p f) l slots slots' lower) (o : Option Value) where
  abbrev r : Routine
  r = routine_of p f

  abbrev Here : Act → Type 0
  Here a = DoesHere p fine given bounds f known enough begins l owner shown lower pointer result frame n at has row w bs c slots slots' o (Gives a)

  abbrev following : Option ℕ
  following = next_number row.back

  abbrev k : ℕ
  k = row_index p r l n row

  abbrev To : Point → Position → Type 0
  To from = Onward (z p fine given bounds) bounds f.called l lower pointer result frame bs w.store slots (frame_at (piece_name f.called l) from slots')

  module _ (m : ℕ) (is_yes : at.node.yes ≡ Some m) where
    there : RowAt p r l m
    there = row_for p f l n at has m (onwards_way p f at.node true m is_yes) (way_next p f l n at true m is_yes)

    from_there : (from : Point) → ToRow p f l (Target p f known l owner) (is_code p f known l owner) known.few_nodes m there 0 from → (to : Position) → (split_form p).code.goes f.called (InGraph l n) true ≡ Some to → To from to
    from_there from t to e =
        let way : Some (InGraph (owner_by (is_leader (flow_in p f) m) l m) m) ≡ Some to = ap (option_map (λ i. InGraph (owner_by (is_leader (flow_in p f) i) l i) i)) (sym is_yes) ∙ (sym (goes_is p f known l n at true) ∙ e) in
        let is : InGraph (owner_by (is_leader (flow_in p f) m) l m) m ≡ to = cc in
        subst (To from) is
        (goes_onward p fine given bounds f known enough l owner lower pointer result frame n at has true m is_yes there from (record { steps = t.steps; within = (let h = t.within in omega (arith, h)); walk = t.walk }) slots slots' stands bs w.store)

    -- the row stands next
    falls_on : is_next m following ≡ true → (put_row p r l n row.back).puts ≡ Plain Empty ∷ put_lines following [] → Here (GoesOn true w.store slots)
    falls_on e puts =
        let line = first p fine given bounds f known enough begins l owner shown lower pointer result frame n at has row (Plain Empty) [] puts refl refl in
        let after = tail p fine given bounds f known enough begins l owner shown lower pointer result frame n at has row in
        let next = next_row p f l n row m there (next_is p f l m following e) in
        let index = next.0 in
        let counted = line.counted in
        Moves true w.store slots
        (λ to g. record {
          from = frame_at (piece_name f.called l) (point_at (suc k) after) slots';
          first = first_step p fine given bounds f known enough begins l owner shown lower pointer result frame n at has row Empty [] after line (world_of w c) slots' (beside bs w.store) (Simple Empty) refl true (beside bs w.store) slots' (point_at (suc k) after) refl
              (line_next (code p f known l owner) (body p f known l owner) k (scope p f known l owner) (piece_count p r l) Empty after line.line true refl refl);
          same = refl;
          onward = from_there (point_at (suc k) after) (falls_row p f l (Target p f known l owner) (is_code p f known l owner) known.few_nodes m there (suc k) after (let x : row_index p r l m there ≡ suc k = omega (arith, index, counted) in x) next.1) to g;
        })

    -- a goto leads to it
    jumps_on : (put_row p r l n row.back).puts ≡ Jump m ∷ put_lines following [] → Here (GoesOn true w.store slots)
    jumps_on puts =
        let line = first p fine given bounds f known enough begins l owner shown lower pointer result frame n at has row (Jump m) [] puts refl refl in
        let after = tail p fine given bounds f known enough begins l owner shown lower pointer result frame n at has row in
        let next = way_next p f l n at true m is_yes in
        let wanted : is_wanted m (put_in p r l) ≡ true = ap (is_wanted m) row.is_split ∙ wanted_in m row.front row.back (put_row p r l n row.back) (ap (any_leads m) puts ∙ ap (λ d. d || false) (eq_reflexive m)) in
        let j = row_index p r l m there in
        let label = row_label p f l known.few_nodes m there (row_filled p f l m next.node next.is_node there) wanted in
        Moves true w.store slots
        (λ to g. record {
          from = frame_at (piece_name f.called l) (point_at j (dropped j (body p f known l owner))) slots';
          first = first_step p fine given bounds f known enough begins l owner shown lower pointer result frame n at has row (Goto (node_label m)) [] after line (world_of w c) slots' (beside bs w.store) (Simple (Goto (node_label m))) refl true (beside bs w.store) slots'
              (point_at j (dropped j (body p f known l owner))) refl
              (line_goes (code p f known l owner) (body p f known l owner) k (scope p f known l owner) (piece_count p r l) (Goto (node_label m)) after line.line true (node_label m) j refl refl label);
          same = refl;
          onward = from_there (point_at j (dropped j (body p f known l owner)))
              (falls_row p f l (Target p f known l owner) (is_code p f known l owner) known.few_nodes m there j (dropped j (body p f known l owner)) refl (sym (row_stands p f l m there).is_left)) to g;
        })

    -- by which stands next
    by_next : node_lines p r at.node ≡ Passes m ∷ [] → Here (GoesOn true w.store slots)
    by_next lines = go (is_next m following) refl (row_puts p fine given bounds f known enough begins l owner shown lower pointer result frame n at has row (Passes m ∷ []) lines)
      where
        go : (d : Bool) → is_next m following ≡ d → (put_row p r l n row.back).puts ≡ cond d (Plain Empty ∷ []) (Jump m ∷ []) ++ [] → Here (GoesOn true w.store slots)
        go true e puts = falls_on e puts
        go false e puts = jumps_on puts

  -- nothing changes
  pub passes_there : node_lines p r at.node ≡ passes at.node.yes ∷ [] → Here (GoesOn true w.store slots)
  passes_there lines = go at.node.yes refl lines
    where
      go : (y : Option ℕ) → at.node.yes ≡ y → node_lines p r at.node ≡ passes y ∷ [] → Here (GoesOn true w.store slots)
      go None e i = Moves true w.store slots (λ to g. absurd (let h : None ≡ Some to = ap (option_map (λ m. InGraph (owner_by (is_leader (flow_in p f) m) l m) m)) (sym e) ∙ (sym (goes_is p f known l n at true) ∙ g) in cc))
      go (Some m) e i = by_next m e i

  abbrev There : Ty → Type 0
  There result' = DoesHere p fine given bounds f known enough begins l owner shown lower pointer result frame n at has row w bs c slots slots' o (act (context (split_form p) w.store (frame_of f.called (InGraph l n) slots)) result' o ((split_form p).code.stood f.called (InGraph l n)))

  -- a statement that does nothing
  pub idles_there : (s : Stmt) → is_idle s ≡ true → at.node.manner ≡ InPlace → at.node.stood ≡ AtStatement (Simple s) → (result' : Ty) → There result'
  idles_there s idle manner stood result' =
      subst (DoesHere p fine given bounds f known enough begins l owner shown lower pointer result frame n at has row w bs c slots slots' o)
      (sym (source_act p facts f known l owner n at slots slots' lower stands w result' o (AtStatement (Simple s)) stood ∙ idle_act _ result' s idle))
      (passes_there (lines_are p facts f known l owner n at slots slots' lower stands InPlace (AtStatement (Simple s)) manner stood ∙ idle_lines r (readings_of r at.node.scope) s at.node.yes idle))

  -- an absent test
  pub no_test_there : at.node.stood ≡ AtStatement (Test None) → (result' : Ty) → There result'
  no_test_there stood result' =
      subst (DoesHere p fine given bounds f known enough begins l owner shown lower pointer result frame n at has row w bs c slots slots' o)
      (sym (source_act p facts f known l owner n at slots slots' lower stands w result' o (AtStatement (Test None)) stood))
      (passes_there (lines_are p facts f known l owner n at slots slots' lower stands at.node.manner (AtStatement (Test None)) refl stood))
