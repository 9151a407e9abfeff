-- A value arrives at a call that was left over a frame: the image of the call takes it as the call does, and control goes on behind it.
use Rattle.std.proofs.Common.{◌≡◌, ℕ, suc, ◌+◌, ◌<◌, ◌≤◌, Bool, true, not, List, [], ◌∷◌, length, Option, Some, None, refl, sym, ◌∙◌, ap, subst, arith}
use Rattle.std.specs.List.{All}
use Rattle.cpc_base.specs.Bytes.{Text}
use Rattle.cpc_num.specs.declared.kinds.Fault.{Fault}
use Rattle.cpc_store.specs.Store.{Value, Blocks, Store}
use Rattle.cpc_tree.specs.Points.{Nth, Point, Arrival, Simple, enter}
use Rattle.cpc_tree.specs.Registers.{variables}
use Rattle.cpc_tree.specs.Syntax.{Expr, ENamed, Exprs, Stmt, Stmts, AndStmt, Call, Function, Program}
use Rattle.cpc_tree.specs.Trace.{Failed}
use Rattle.cpc_tree.specs.Typing.{Scope}
use Rattle.cpc_meaning.specs.Act.{AtStatement, AtArrival, Act, GoesOn, deliver}
use Rattle.cpc_meaning.specs.Agenda.{Agenda}
use Rattle.cpc_meaning.specs.Answer.{Answer, Gives, Faults, ◌>>=◌}
use Rattle.cpc_meaning.specs.Eval.{Slot}
use Rattle.cpc_meaning.specs.Events.{Callback, callbacks}
use Rattle.cpc_meaning.specs.Machine.{next, ends}
use Rattle.cpc_meaning.specs.Plain.{Frame as CallFrame}
use Rattle.cpc_meaning.specs.Start.{before_underscores}
use Rattle.cpc_meaning.specs.Threads.{shown_in}
use Rattle.cpc_meaning.specs.Ways.{ByFrame}
use Rattle.cpc_convert_image_laws.specs.Held.{IsHeld, IsHeldSlot, IsHeldStore, BoxesLive, beside}
use Rattle.cpc_convert_image_laws.specs.Images.{Readings, image_if, image_stmt}
use Rattle.cpc_convert_image_laws.specs.InPlace.{IsWrittenIf}
use Rattle.cpc_meaning.specs.Names.{AllNamesIf}
use Rattle.cpc_convert_image_laws.specs.Relations.{Meets, BothGive, BothFault, Stuck, SameAct, BothGo, BothEnter, BothLeave, BothAsk}
use Rattle.cpc_convert_image_laws.proofs.Acts.{arrives_alike}
use Rattle.cpc_convert_image_laws.proofs.Live.{read_live}
use Rattle.cpc_forms.specs.Flow.{Place}
use Rattle.cpc_forms.specs.Graph.{at_node}
use Rattle.cpc_forms.specs.Split.{Position, InGraph, split_form}
use Rattle.cpc_chains_store_laws.specs.Driver.{driving}
use Rattle.cpc_convert_flat_laws.specs.Flat.{point_at}
use Rattle.cpc_convert_flat_laws.specs.Locals.{at as Here_at}
use Rattle.cpc_convert_flat_laws.proofs.Walks.{stay}
use Rattle.cpc_convert_flat_laws.specs.Walks.{running, frame_at}
use Rattle.cpc_convert_flat_laws.proofs.AtLine.{line_path, line_found, line_scope, line_next}
use Rattle.cpc_chains_event.specs.FlatLaws.{piece_count}
use Rattle.cpc_chains_event.specs.Lines.{Does, goes, behind_arrival, node_lines}
use Rattle.cpc_convert_routines.specs.Named.{IsOwner}
use Rattle.cpc_convert_routines.specs.Names.{piece_name}
use Rattle.cpc_convert_routines.specs.Routines.{Routine, routine_of, readings_of}
use Rattle.cpc_convert_routines.specs.Nodes.{stands_with, has_row}
use Rattle.cpc_lifted_laws.specs.Accepted.Known.{Stays}
use Rattle.cpc_lifted_laws.specs.Accepted.Points.{UsedName, FoundKnown, StatementKnown, in_scope}
use Rattle.cpc_lifted_laws.specs.Related.Bounds.{Bounds}
use Rattle.cpc_chains_laws.proofs.Related.Inside.{Does as Performs, Sticks, Breaks, Moves, PieceAt}
use Rattle.cpc_chains_laws.proofs.Related.Relation.{Shared, world_of}
use Rattle.cpc_lifted_laws.specs.Native.Instance.{StaysAs}
use Rattle.cpc_lifted_laws.specs.Piece.Known.{CpsKnown}
use Rattle.cpc_chains_laws.specs.Piece.Known.{ProgramKnown}
use Rattle.cpc_chains_laws.specs.Piece.Rows.{RowAt, row_index}
use Rattle.cpc_chains_laws.specs.Piece.Stood.{NodeAt, LocalsStand, CallAt, call_point}
use Rattle.cpc_chains_laws.proofs.Piece.Acting.{given_only, kept_here, source_act, lines_are}
use Rattle.cpc_chains_laws.proofs.Piece.Environment.{InLocal, Used, names_mean, scope_is, changed_stand}
use Rattle.cpc_chains_laws.proofs.Piece.Frames.{same_registers, Target, code, body, scope, is_code}
use Rattle.cpc_chains_laws.proofs.Piece.Nodes.{piece_shown}
use Rattle.cpc_chains_laws.proofs.Piece.Onwards.{z}
use Rattle.cpc_chains_laws.proofs.Piece.Places.{FirstLine}
use Rattle.cpc_chains_laws.proofs.Piece.Rowed.{OnlyGoes}
use Rattle.cpc_chains_laws.proofs.Piece.Uses.{names_kept_if, use_kept, IsKept, stood_is}
use Rattle.cpc_chains_laws.proofs.Call.Arrivals.{arrives_there, scope_there}
use Rattle.cpc_chains_laws.proofs.Call.Behind.{left_over, more, call_line, behind_framed}
use Rattle.cpc_lifted_laws.proofs.Call.Steps.{arrival_goes, arrival_faults}

-- the place of a call is known
place_known : (p : Program) (sc : Scope) (to : Option Expr) (g : Expr) (es : Exprs) → StatementKnown p sc (Call to g es) → AllNamesIf (UsedName p sc) to × ((slots : List Slot) (t : Store) → IsWrittenIf (in_scope p sc slots t) to)
place_known p sc to (ENamed y) es k = ((k.beside).0, λ slots t. k.written slots t)
place_known p sc to g es k = ((k.beside).0, λ slots t. k.written slots t)

-- the piece waits at the image of the call at n, whose value arrives at m
module _ (p : Program) (facts : ProgramKnown p) (fine : CallFrame Position → Option Value → Type 0) (given : Text → List Value → Type 0) (bounds : Bounds) (f : Function) (known : CpsKnown p f) (enough : 5 + length (variables f) ≤ bounds.onward) (begins : 0 < bounds.leads) (l : Place) (owner : IsOwner (routine_of p f) l)
    (lower pointer result frame : Value)
    (n m : ℕ) (there : NodeAt p f l m) (row : RowAt p (routine_of p f) l n) (call : CallAt p f l n row) (arrival : call.node.node.arrival ≡ Some m)
    (w : Shared) (bs : Blocks) (c : Agenda Callback) (slots slots' : List Slot) (stands : LocalsStand p (routine_of p f) l slots slots' lower) (v : Value) (is_held : IsHeld (Stays p) v)
    (store : IsHeldStore (Stays p) w.store) (held : All (IsHeldSlot (Stays p)) slots) (live : BoxesLive w.store slots) where
  abbrev shown : before_underscores (piece_name f.called l) ≡ shown_in p f.called
  shown = piece_shown p facts f known l

  abbrev r : Routine
  r = routine_of p f

  abbrev q : Program
  q = Target p f known l owner

  abbrev at : NodeAt p f l n
  at = call.node

  abbrev Names : Text → Type 0
  Names = Used p f known l owner m there slots slots' lower stands

  -- the piece
  abbrev waiting : CallFrame Point
  waiting = frame_at (piece_name f.called l) (call_point p f l n row call) slots'

  -- it does what the source does
  abbrev Doing : Answer Act → Type 0
  Doing u = Performs (z p fine given bounds) bounds f.called l lower pointer result frame w bs c m slots (Some v) waiting (Some v) u

  abbrev s : Stmt
  s = Call call.target call.function call.arguments

  abbrev names : Readings
  names = readings_of r at.node.scope

  abbrev x : Stmt
  x = image_stmt names s

  abbrev k : ℕ
  k = row_index p r l n row

  -- ---- where the value arrives

  stood : there.node.stood ≡ AtArrival (Simple s)
  stood = arrives_there p f l n m row call arrival there

  same_scope : there.node.scope ≡ at.node.scope
  same_scope = scope_there p f l n m row call arrival there

  has : has_row r.split n ≡ true
  has = ap (λ o. at_node true (λ node. not (stands_with node.stood node.manner)) o) at.is_node ∙ ap (λ y. not (stands_with y at.node.manner)) call.stands

  -- ---- the line of the call

  lines : node_lines p r at.node ≡ Does x ∷ goes (behind_arrival r at.node.arrival)
  lines = lines_are p facts f known l owner n at slots slots' lower stands ByFrame (AtStatement (Simple s)) call.manner call.stands

  abbrev left : Stmts
  left = left_over p fine given bounds f known enough begins l owner shown lower pointer result frame n at has row call.manner m arrival there x lines refl refl

  abbrev behind : List Stmt
  behind = more p fine given bounds f known enough begins l owner shown lower pointer result frame n at has row call.manner m arrival there x lines refl refl

  line : FirstLine p f l n row x behind left
  line = call_line p fine given bounds f known enough begins l owner shown lower pointer result frame n at has row call.manner m arrival there x lines refl refl

  -- the statement at which the piece waits is that of the line
  same_statement : line.line.statement ≡ call.statement
  same_statement = let e : AndStmt line.line.statement left ≡ AndStmt call.statement call.rest = sym line.is_rest ∙ call.is_first in cc

  -- ---- what is done

  place : AllNamesIf (UsedName p there.node.scope) call.target × ((slots : List Slot) (t : Store) → IsWrittenIf (in_scope p there.node.scope slots t) call.target)
  place =
      place_known p there.node.scope call.target call.function call.arguments
      (subst (λ sc. FoundKnown p sc (Simple s)) (scope_is p f known l owner m there slots slots' lower stands) (facts.positions.arriving f.called f (InGraph l m) (Simple s) known.found.named (stood_is p f known l owner m there slots slots' lower stands ∙ stood)))

  place_names : AllNamesIf Names call.target
  place_names =
      names_kept_if (UsedName p there.node.scope) Names there.node.scope (IsKept p f known l owner m there slots slots' lower stands) (use_kept p f known l owner m there slots slots' lower stands) call.target place.0
      (kept_here p facts f known l owner m there slots slots' lower stands (AtArrival (Simple s)) stood)

  abbrev taken : Answer Act
  taken = deliver (Here_at p there.node.scope slots w.store) call.target v >>= λ u. Gives (GoesOn true u.1 u.0)

  abbrev taken_there : Answer Act
  taken_there = deliver (Here_at q (scope p f known l owner) slots' (beside bs w.store)) (image_if names call.target) v >>= λ u. Gives (GoesOn true u.1 u.0)

  alike : Meets (SameAct (Stays p) (StaysAs p) (InLocal p f known l owner) bs slots slots') taken taken_there
  alike =
      subst (λ sc. Meets (SameAct (Stays p) (StaysAs p) (InLocal p f known l owner) bs slots slots') taken (deliver (Here_at q (scope p f known l owner) slots' (beside bs w.store)) (image_if (readings_of r sc) call.target) v >>= λ u. Gives (GoesOn true u.1 u.0))) same_scope
      (arrives_alike (Stays p) (StaysAs p) (InLocal p f known l owner) p q facts.common Names (readings_of r there.node.scope) there.node.scope (scope p f known l owner) slots slots' (names_mean p f known l owner m there slots slots' lower stands) w.store store held
      (λ y. read_live w.store slots (readings_of r there.node.scope y) live) bs call.target v (place.1 slots w.store) place_names is_held)

  -- ---- the step of the piece

  abbrev fn : Function
  fn = code p f known l owner

  abbrev here : Scope
  here = scope p f known l owner

  -- what holds of the point of the line holds where the piece waits
  at_waiting : (P : CallFrame Point → Type 0) → P (frame_at (piece_name f.called l) (Arrival (line_path fn (body p f known l owner) k here (piece_count p r l) x left line.line)) slots') → P waiting
  at_waiting P h = subst (λ y. P (frame_at (piece_name f.called l) (Arrival (Nth k ∷ enter y)) slots')) same_statement h

  step_goes : (d : Bool) (t : Store) (b : List Slot) → taken_there ≡ Gives (GoesOn d (beside bs t) b)
      → next (callbacks q) (running (world_of w c) (beside bs w.store) (waiting ∷ driving pointer result frame ∷ []) (Some v)) ≡ Some (running (world_of w c) (beside bs t) (frame_at (piece_name f.called l) (point_at (suc k) left) b ∷ driving pointer result frame ∷ []) None)
  step_goes d t b e =
      let bd = body p f known l owner in
      let j = piece_count p r l in
      at_waiting (λ piece. next (callbacks q) (running (world_of w c) (beside bs w.store) (piece ∷ driving pointer result frame ∷ []) (Some v)) ≡ Some (running (world_of w c) (beside bs t) (frame_at (piece_name f.called l) (point_at (suc k) left) b ∷ driving pointer result frame ∷ []) None))
      (arrival_goes q (piece_name f.called l) fn (driving pointer result frame ∷ []) (is_code p f known l owner) slots' (beside bs w.store) (line_path fn bd k here j x left line.line) here (line_scope fn bd k here j x left line.line (enter line.line.statement)) (Simple x)
      (line_found fn bd k here j x left line.line) (world_of w c) v d (beside bs t) b (point_at (suc k) left) e (line_next fn bd k here j x left line.line d refl refl))

  step_faults : (fault : Fault) → taken_there ≡ Faults fault
      → next (callbacks q) (running (world_of w c) (beside bs w.store) (waiting ∷ driving pointer result frame ∷ []) (Some v))
      ≡ Some (ends (Failed fault (before_underscores (piece_name f.called l))) (running (world_of w c) (beside bs w.store) (waiting ∷ driving pointer result frame ∷ []) (Some v)))
  step_faults fault e =
      let bd = body p f known l owner in
      let j = piece_count p r l in
      at_waiting (λ piece. next (callbacks q) (running (world_of w c) (beside bs w.store) (piece ∷ driving pointer result frame ∷ []) (Some v))
      ≡ Some (ends (Failed fault (before_underscores (piece_name f.called l))) (running (world_of w c) (beside bs w.store) (piece ∷ driving pointer result frame ∷ []) (Some v))))
      (arrival_faults q (piece_name f.called l) fn (driving pointer result frame ∷ []) (is_code p f known l owner) slots' (beside bs w.store) (line_path fn bd k here j x left line.line) here (line_scope fn bd k here j x left line.line (enter line.line.statement)) (Simple x)
      (line_found fn bd k here j x left line.line) (world_of w c) v fault e)

  -- ---- by what the source does

  moves : (d : Bool) (t : Store) (a b : List Slot) → LocalsStand p r l a b lower → d ≡ true → taken_there ≡ Gives (GoesOn d (beside bs t) b) → Doing (Gives (GoesOn d t a))
  moves d t a b after is e =
      Moves d t a
      (λ to i. record {
        from = frame_at (piece_name f.called l) (point_at (suc k) left) b;
        first = step_goes d t b e;
        same = same_registers p r l slots a slots' b lower stands after;
        onward = behind_framed p fine given bounds f known enough begins l owner shown lower pointer result frame n at has row call.manner m arrival there x lines refl refl a b after bs t to (ap (λ h. (split_form p).code.goes f.called (InGraph l m) h) (sym is) ∙ i);
      })

  does : (u y : Answer Act) → OnlyGoes u → Meets (SameAct (Stays p) (StaysAs p) (InLocal p f known l owner) bs slots slots') u y → taken_there ≡ y → Doing u
  does _ _ only (BothGive a b i) e = given_both a b i only e
    where
      given_both : (a b : Act) → SameAct (Stays p) (StaysAs p) (InLocal p f known l owner) bs slots slots' a b → OnlyGoes (Gives a) → taken_there ≡ Gives b → Doing (Gives a)
      given_both _ _ (BothGo d t a b _ _ changed) only e =
          let is = (only (GoesOn d t a) refl).2 in
          moves d t a b (changed_stand p f known l owner slots slots' a b lower changed stands) (cc) e
      given_both _ _ (BothEnter g g' vs _ _ _) only e = absurd (let i = (only _ refl).2 in cc)
      given_both _ _ (BothLeave u t _ _) only e = absurd (let i = (only _ refl).2 in cc)
      given_both _ _ (BothAsk rq _) only e = absurd (let i = (only _ refl).2 in cc)
  does _ _ only (BothFault fault) e = Breaks fault (piece_name f.called l) shown (record { steps = 0; grown = 0; last = _; leads = stay _; faults = step_faults fault e }) begins (omega arith)
  does _ _ only (Stuck y) e = Sticks

  value_taken : Doing taken
  value_taken = does taken taken_there (given_only (deliver (Here_at p there.node.scope slots w.store) call.target v)) alike refl

  -- the piece of the rows
  pub waiting_at : PieceAt (z p fine given bounds) bounds f.called l lower pointer result frame w bs c m slots (Some v) waiting (Some v)
  waiting_at = record {
    shown = shown;
    does = λ g named. subst Doing (sym (source_act p facts f known l owner m there slots slots' lower stands w g.result (Some v) (AtArrival (Simple s)) stood)) value_taken;
  }
