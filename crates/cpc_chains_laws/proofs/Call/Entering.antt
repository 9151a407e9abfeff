-- Calls that are left over a frame: the native function is entered, and the piece waits at the image of the call.
use Rattle.std.proofs.Common.{◌≡◌, ℕ, ◌+◌, ◌<◌, ◌≤◌, true, List, [], ◌∷◌, ◌++◌, length, Option, Some, None, option_map, refl, sym, ◌∙◌, ap, subst, arith}
use Rattle.std.specs.List.{All}
use Rattle.cpc_base.specs.Bytes.{Text}
use Rattle.cpc_store.specs.Store.{Value, Blocks, Store}
use Rattle.cpc_tree.specs.Lists.{holds_number}
use Rattle.cpc_tree.specs.Points.{Point, Found, Simple, enter}
use Rattle.cpc_tree.specs.Registers.{slot_of, variables}
use Rattle.cpc_tree.specs.Syntax.{Ty, Stmt, Stmts, Call, Function, Program}
use Rattle.cpc_tree.specs.Typing.{Scope}
use Rattle.cpc_meaning.specs.Act.{AtStatement, Act, Enters, act, calls_expr}
use Rattle.cpc_meaning.specs.Agenda.{Agenda}
use Rattle.cpc_meaning.specs.Answer.{Answer, Gives}
use Rattle.cpc_meaning.specs.Eval.{Slot}
use Rattle.cpc_meaning.specs.Events.{Callback, callbacks}
use Rattle.cpc_meaning.specs.Machine.{next}
use Rattle.cpc_meaning.specs.Plain.{Frame as CallFrame, context}
use Rattle.cpc_meaning.specs.Slots.{call_slots}
use Rattle.cpc_meaning.specs.Start.{before_underscores}
use Rattle.cpc_meaning.specs.Threads.{shown_in}
use Rattle.cpc_meaning.specs.Trees.{trees}
use Rattle.cpc_meaning.specs.Ways.{ByFrame, AsCps, manner_of, ways}
use Rattle.cpc_meaning_laws.proofs.Pointer.Blocks.{Only}
use Rattle.cpc_convert_image_laws.specs.Held.{IsHeld, IsHeldSlot, IsHeldStore, BoxesLive, beside}
use Rattle.cpc_convert_image_laws.specs.Images.{Readings, image, images, image_stmt}
use Rattle.cpc_meaning.specs.Names.{AllNames, AllNamesAmong}
use Rattle.cpc_convert_image_laws.specs.Relations.{Meets, BothGive, BothFault, Stuck, SameAct, BothGo, BothEnter, BothLeave, BothAsk}
use Rattle.cpc_convert_image_laws.specs.Stacks.{frame_of, EntersAlike}
use Rattle.cpc_convert_image_laws.proofs.Calls.{calls_expr_alike}
use Rattle.cpc_convert_image_laws.proofs.Live.{read_live}
use Rattle.cpc_forms.specs.Flow.{Place}
use Rattle.cpc_forms.specs.Graph.{graph_of}
use Rattle.cpc_forms.specs.Split.{Position, InGraph, split_form, position_arrival}
use Rattle.cpc_graph_laws.proofs.Formed.{in_left, in_right}
use Rattle.cpc_graph_laws.proofs.Going.{calls_arrive}
use Rattle.cpc_graph_laws.proofs.Splits.{owner_there}
use Rattle.cpc_lift_laws.specs.Used.{used_in, used_among, used_if}
use Rattle.cpc_chains_store_laws.specs.Driver.{driving}
use Rattle.cpc_convert_flat_laws.specs.Flat.{point_at}
use Rattle.cpc_convert_flat_laws.specs.Locals.{at as Here_at}
use Rattle.cpc_convert_flat_laws.proofs.Walks.{stay}
use Rattle.cpc_convert_flat_laws.specs.Walks.{running, frame_at}
use Rattle.cpc_convert_flat_laws.proofs.AtLine.{line_path, line_found, line_scope}
use Rattle.cpc_convert_flat_laws.proofs.Steps.{step_enters}
use Rattle.cpc_chains_event.specs.FlatLaws.{piece_count}
use Rattle.cpc_chains_event.specs.Lines.{Does, goes, behind_arrival, node_lines}
use Rattle.cpc_convert_routines.specs.Named.{IsOwner}
use Rattle.cpc_convert_routines.specs.Names.{piece_name}
use Rattle.cpc_convert_routines.specs.Routines.{Routine, routine_of, readings_of}
use Rattle.cpc_convert_routines.specs.Nodes.{has_row}
use Rattle.cpc_lifted_laws.specs.Accepted.Known.{Stays}
use Rattle.cpc_lifted_laws.specs.Accepted.Points.{UsedName, StatementKnown, StaysItself}
use Rattle.cpc_lifted_laws.specs.Related.Bounds.{Bounds}
use Rattle.cpc_chains_laws.specs.Related.Running.{SamePoint}
use Rattle.cpc_chains_laws.proofs.Related.Inside.{Sticks, Breaks, EntersWhole, EntersNative}
use Rattle.cpc_chains_laws.proofs.Related.Relation.{Shared, world_of}
use Rattle.cpc_lifted_laws.specs.Native.Convertible.{Convertible}
use Rattle.cpc_lifted_laws.specs.Native.Instance.{StaysAs, cut_of}
use Rattle.cpc_chains_laws.proofs.Native.Facts.{native_facts, whole_of}
use Rattle.cpc_lifted_laws.specs.Piece.Known.{CpsKnown}
use Rattle.cpc_chains_laws.specs.Piece.Known.{ProgramKnown}
use Rattle.cpc_chains_laws.specs.Piece.Rows.{RowAt, row_index}
use Rattle.cpc_chains_laws.specs.Piece.Stood.{NodeAt, LocalsStand, CallAt, call_point, Stood, AtCall}
use Rattle.cpc_chains_laws.proofs.Piece.Acting.{found_known, kept_here, source_act, lines_are}
use Rattle.cpc_chains_laws.proofs.Piece.Environment.{InLocal, Used, names_mean}
use Rattle.cpc_chains_laws.proofs.Piece.Frames.{Target, code, body, scope, is_code}
use Rattle.cpc_chains_laws.proofs.Piece.Onwards.{z}
use Rattle.cpc_chains_laws.proofs.Piece.Places.{FirstLine}
use Rattle.cpc_chains_laws.proofs.Piece.Rowed.{DoesHere, standing_piece, first_fault}
use Rattle.cpc_chains_laws.proofs.Piece.Uses.{names_kept, names_kept_among, use_kept, IsKept}
use Rattle.cpc_chains_laws.proofs.Piece.Ways.{owner_is, is_split}
use Rattle.cpc_chains_laws.specs.Call.Laws.{FramedNode}
use Rattle.cpc_chains_laws.proofs.Call.Behind.{left_over, more, call_line}
use Rattle.cpc_chains_laws.proofs.Call.Calls.{IsEntry, framed_enters, call_itself}
use Rattle.cpc_chains_laws.proofs.Call.Framed.{nodes_have_manners, framed_calls_arrive}
use Rattle.cpc_chains_laws.proofs.Call.Native.{entered_there}

module _ (p : Program) (facts : ProgramKnown p) (h : Convertible p) (fine : CallFrame Position → Option Value → Type 0) (given : Text → List Value → Type 0) (bounds : Bounds) (f : Function) (known : CpsKnown p f) (enough : 5 + length (variables f) ≤ bounds.onward) (begins : 0 < bounds.leads) (l : Place) (owner : IsOwner (routine_of p f) l)
    (shown : before_underscores (piece_name f.called l) ≡ shown_in p f.called) (lower pointer result frame : Value)
    (n : ℕ) (at : NodeAt p f l n) (has : has_row (routine_of p f).split n ≡ true) (row : RowAt p (routine_of p f) l n)
    (w : Shared) (bs : Blocks) (c : Agenda Callback) (slots slots' : List Slot) (stands : LocalsStand p (routine_of p f) l slots slots' lower) (o : Option Value)
    (store : IsHeldStore (Stays p) w.store) (held : All (IsHeldSlot (Stays p)) slots) (live : BoxesLive w.store slots) (manner : at.node.manner ≡ ByFrame) where
  abbrev r : Routine
  r = routine_of p f

  abbrev q : Program
  q = Target p f known l owner

  abbrev Names : Text → Type 0
  Names = Used p f known l owner n at slots slots' lower stands

  abbrev Doing : Answer Act → Type 0
  Doing u = DoesHere p fine given bounds f known enough begins l owner shown lower pointer result frame n at has row w bs c slots slots' o u

  abbrev sc : Scope
  sc = at.node.scope

  abbrev names : Readings
  names = readings_of r sc

  abbrev k : ℕ
  k = row_index p r l n row

  more_names : (x : Text) → UsedName p sc x → ((j : ℕ) → holds_number (slot_of sc x) j ≡ true → IsKept p f known l owner n at slots slots' lower stands j) → Names x
  more_names = use_kept p f known l owner n at slots slots' lower stands

  module _ (fr : FramedNode p f n at.node) where
    abbrev s : Stmt
    s = Call fr.target fr.function fr.arguments

    abbrev x : Stmt
    x = image_stmt names s

    -- where its value arrives
    there : NodeAt p f l fr.arrival
    there = record { owner = owner; keeps = at.keeps; owned = owner_there (graph_of p f) fr.arrival fr.there fr.is_there ∙ ap Some (fr.owner ∙ owner_is p f l n at); node = fr.there; is_node = fr.is_there }

    is_back : (split_form p).code.arrival f.called (InGraph l n) ≡ Some (InGraph l fr.arrival)
    is_back =
        ap (λ o. position_arrival (λ point. (ways p).code.arrival f.called point) o (InGraph l n)) (is_split p f known)
        ∙ (calls_arrive p f (λ point. (ways p).code.arrival f.called point) l n at.node at.is_node (owner_is p f l n at) manner ∙ ap (option_map (InGraph l)) fr.is_arrival)

    -- ---- its line

    lines : node_lines p r at.node ≡ Does x ∷ goes (behind_arrival r at.node.arrival)
    lines = lines_are p facts f known l owner n at slots slots' lower stands ByFrame (AtStatement (Simple s)) manner fr.stands

    abbrev left : Stmts
    left = left_over p fine given bounds f known enough begins l owner shown lower pointer result frame n at has row manner fr.arrival fr.is_arrival there x lines refl refl

    abbrev behind : List Stmt
    behind = more p fine given bounds f known enough begins l owner shown lower pointer result frame n at has row manner fr.arrival fr.is_arrival there x lines refl refl

    line : FirstLine p f l n row x behind left
    line = call_line p fine given bounds f known enough begins l owner shown lower pointer result frame n at has row manner fr.arrival fr.is_arrival there x lines refl refl

    abbrev call_at : CallAt p f l n row
    call_at = record { node = at; target = fr.target; function = fr.function; arguments = fr.arguments; stands = fr.stands; manner = manner; statement = line.line.statement; rest = left; is_first = line.is_rest }

    -- the piece where it waits
    abbrev back : CallFrame Point
    back = frame_at (piece_name f.called l) (call_point p f l n row call_at) slots'

    waits : (v : Value) → IsHeld (Stays p) v → Stood p f.called l fr.arrival slots (Some v) lower back (Some v)
    waits v i = AtCall f l n fr.arrival slots v lower slots' known.found there row call_at fr.is_arrival stands

    -- ---- what it does

    its_manner : manner_of p sc (Simple s) ≡ ByFrame
    its_manner = sym (nodes_have_manners p f n at.node (Simple s) at.is_node fr.stands) ∙ manner

    itself : StaysItself p sc s
    itself = call_itself p sc fr.target fr.function fr.arguments (λ e. absurd (let i : ByFrame ≡ AsCps = sym its_manner ∙ e in cc))

    known_here : StatementKnown p sc s
    known_here = found_known p facts f known l owner n at slots slots' lower stands (Simple s) fr.stands

    kept : (j : ℕ) → holds_number (used_if sc fr.target ++ (used_in sc fr.function ++ used_among sc fr.arguments)) j ≡ true → IsKept p f known l owner n at slots slots' lower stands j
    kept = kept_here p facts f known l owner n at slots slots' lower stands (AtStatement (Simple s)) fr.stands

    function_names : AllNames Names fr.function
    function_names =
        names_kept (UsedName p sc) Names sc (IsKept p f known l owner n at slots slots' lower stands) more_names fr.function (known_here.names itself).1
        (λ j i. kept j (in_right j (used_if sc fr.target) _ (in_left j (used_in sc fr.function) (used_among sc fr.arguments) i)))

    argument_names : AllNamesAmong Names fr.arguments
    argument_names =
        names_kept_among (UsedName p sc) Names sc (IsKept p f known l owner n at slots slots' lower stands) more_names fr.arguments (known_here.names itself).2
        (λ j i. kept j (in_right j (used_if sc fr.target) _ (in_right j (used_in sc fr.function) (used_among sc fr.arguments) i)))

    abbrev calls : Answer Act
    calls = calls_expr (Here_at p sc slots w.store) fr.function fr.arguments

    abbrev calls_there : Answer Act
    calls_there = calls_expr (Here_at q (scope p f known l owner) slots' (beside bs w.store)) (image names fr.function) (images names fr.arguments)

    alike : Meets (SameAct (Stays p) (StaysAs p) (InLocal p f known l owner) bs slots slots') calls calls_there
    alike =
        calls_expr_alike (Stays p) (StaysAs p) (InLocal p f known l owner) p q facts.common Names names sc (scope p f known l owner) slots slots' (names_mean p f known l owner n at slots slots' lower stands) w.store store held
        (λ y. read_live w.store slots (names y) live) bs fr.function fr.arguments (known_here.native slots w.store itself) function_names argument_names

    -- ---- a function is entered

    module _ (g g' : Function) (vs : List Value) (same : StaysAs p g g') (all : All (IsHeld (Stays p)) vs) (is_act : calls_there ≡ Gives (Enters g' vs)) where
      enters : EntersAlike (SamePoint (cut_of p)) (split_form p) (trees (q)) g g'
      enters = (native_facts p h (Stood p) fine given).enters g g' same

      abbrev point : Point
      point = (trees q).code.first g.called

      first_enters : (entered : List Slot) (t : Store) → call_slots q g' vs (beside bs w.store) ≡ Gives (entered, beside bs t)
          → next (callbacks q) (running (world_of w c) (beside bs w.store) (standing_piece p fine given bounds f known enough begins l owner shown lower pointer result frame n at has row slots' ∷ driving pointer result frame ∷ []) None)
          ≡ Some (running (world_of w c) (beside bs t) (frame_of g.called point entered ∷ back ∷ driving pointer result frame ∷ []) None)
      first_enters entered t e =
          let fn = code p f known l owner in
          let bd = body p f known l owner in
          let here = scope p f known l owner in
          let m = piece_count p r l in
          subst (λ y. next (callbacks q) (running (world_of w c) (beside bs w.store) (standing_piece p fine given bounds f known enough begins l owner shown lower pointer result frame n at has row slots' ∷ driving pointer result frame ∷ []) None)
          ≡ Some (running (world_of w c) (beside bs t) (frame_of y ((trees q).code.first y) entered ∷ back ∷ driving pointer result frame ∷ []) None)) (sym enters.called)
          (subst (λ ss. next (callbacks q) (running (world_of w c) (beside bs w.store) (frame_at (piece_name f.called l) (point_at k ss) slots' ∷ driving pointer result frame ∷ []) None)
          ≡ Some (running (world_of w c) (beside bs t) (frame_of g'.called ((trees q).code.first g'.called) entered ∷ back ∷ driving pointer result frame ∷ []) None)) (sym line.is_rest)
          (step_enters q (world_of w c) (piece_name f.called l) fn (driving pointer result frame ∷ []) (is_code p f known l owner) slots' (beside bs w.store) (line_path fn bd k here m x left line.line) here
          (line_scope fn bd k here m x left line.line (enter line.line.statement)) (Simple x) (line_found fn bd k here m x left line.line) g' vs (beside bs t) entered is_act e))

      native_entered : (entered : List Slot) (t : Store) → call_slots p g vs w.store ≡ Gives (entered, t)
          → EntersNative (z p fine given bounds) bounds f.called l lower pointer result frame w bs c n slots o (standing_piece p fine given bounds f known enough begins l owner shown lower pointer result frame n at has row slots') None g back entered t
      native_entered entered t e =
          let made = entered_there p facts.common g g' enters bs vs w.store t entered store all e in
          record { point = point; same = enters.first; held = made.1; first = first_enters entered t made.0 }

      does_enter : Doing (Gives (Enters g vs))
      does_enter =
          EntersWhole g vs (whole_of p h g.called g (h.named.found g same.kept.has) same.kept.mode)
          (record { back = fr.arrival; is_back = is_back; from = back; waits = waits; enters = native_entered })

    -- ---- by what the source does

    does : (u v : Answer Act) → Only IsEntry u → Meets (SameAct (Stays p) (StaysAs p) (InLocal p f known l owner) bs slots slots') u v → calls_there ≡ v → Doing u
    does _ _ only (BothGive a b i) e = given_both a b i only e
      where
        given_both : (a b : Act) → SameAct (Stays p) (StaysAs p) (InLocal p f known l owner) bs slots slots' a b → IsEntry a → calls_there ≡ Gives b → Doing (Gives a)
        given_both _ _ (BothGo d t us vs _ _ _) i e = absurd i
        given_both _ _ (BothEnter g g' vs same head all) i e = does_enter g g' vs same all e
        given_both _ _ (BothLeave v t _ _) i e = absurd i
        given_both _ _ (BothAsk rq _) i e = absurd i
    does _ _ only (BothFault fault) e =
        Breaks fault (piece_name f.called l) shown
        (record { steps = 0; grown = 0; last = _; leads = stay _; faults = first_fault p fine given bounds f known enough begins l owner shown lower pointer result frame n at has row x behind left line (world_of w c) slots' (beside bs w.store) (Simple x) refl fault e }) begins (omega arith)
    does _ _ only (Stuck v) e = Sticks

    enters_here : Doing calls
    enters_here = does calls calls_there (framed_enters (Here_at p sc slots w.store) fr.target fr.function fr.arguments its_manner) alike refl

  -- a statement that is left over a frame
  pub framed_there : (x : Found) → at.node.stood ≡ AtStatement x → (result' : Ty)
      → Doing (act (context (split_form p) w.store (frame_of f.called (InGraph l n) slots)) result' o ((split_form p).code.stood f.called (InGraph l n)))
  framed_there x stood result' =
      let fr = framed_calls_arrive p f n at.node x at.is_node stood manner in
      subst Doing (sym (source_act p facts f known l owner n at slots slots' lower stands w result' o (AtStatement (Simple (Call fr.target fr.function fr.arguments))) fr.stands)) (enters_here fr)
