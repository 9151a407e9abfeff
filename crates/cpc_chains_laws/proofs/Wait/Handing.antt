-- The row of a wait: the piece makes the frame of the arrival, asks the event loop with it, and gives null to the driver.
use Rattle.std.proofs.Common.{◌≡◌, ℕ, suc, ◌+◌, ◌<◌, ◌≤◌, true, List, [], ◌∷◌, ◌++◌, length, pos, slice_get, Option, Some, None, refl, sym, subst, arith}
use Rattle.cpc_base.specs.Bytes.{Text}
use Rattle.cpc_num.specs.declared.kinds.Fault.{Fault}
use Rattle.cpc_num.specs.declared.kinds.Kind.TheVariants.{Int}
use Rattle.cpc_tree.specs.Points.{Point}
use Rattle.cpc_tree.specs.Registers.{variables}
use Rattle.cpc_tree.specs.Syntax.{Expr, EInteger, Exprs, Stmt, Call, Stmts, AndStmt, Function, Program}
use Rattle.cpc_tree.specs.Trace.{Failed}
use Rattle.cpc_store.specs.declared.values.Class.TheVariants.{Frame}
use Rattle.cpc_store.specs.Store.{Value, Unset, Whole, Null, At as Pointer, Blocks}
use Rattle.cpc_meaning.specs.Agenda.{Agenda}
use Rattle.cpc_meaning.specs.Eval.{Slot}
use Rattle.cpc_meaning.specs.Events.{Callback, callbacks}
use Rattle.cpc_meaning.specs.Machine.{next, ends}
use Rattle.cpc_meaning.specs.Plain.{Frame as CallFrame}
use Rattle.cpc_meaning.specs.Start.{before_underscores}
use Rattle.cpc_meaning.specs.Threads.{shown_in}
use Rattle.cpc_convert_image_laws.specs.Held.{beside}
use Rattle.cpc_forms.specs.Flow.{Place, At}
use Rattle.cpc_forms.specs.Split.{Position}
use Rattle.cpc_chains_store_laws.specs.Chains.{frame_cells}
use Rattle.cpc_chains_store_laws.specs.Driver.{driving}
use Rattle.cpc_convert_flat_laws.specs.Flat.{point_at, LineAt}
use Rattle.cpc_convert_flat_laws.specs.Locals.{Holds}
use Rattle.cpc_chains_store_laws.specs.Frames.{pointed_slots}
use Rattle.cpc_convert_flat_laws.specs.Walks.{Here, World, Walk, FaultsAfter, running, frame_at, at_line}
use Rattle.cpc_convert_flat_laws.proofs.AtLine.{line_passed}
use Rattle.cpc_convert_flat_laws.proofs.Boxes.{free_all}
use Rattle.cpc_chains_store_laws.proofs.Pieces.{return_step}
use Rattle.cpc_chains_event.specs.FlatLaws.{piece_count}
use Rattle.cpc_chains_event.specs.Lines.{all_do, frame_lines, hands_nothing, node_lines}
use Rattle.cpc_chains_event.specs.LocalLaws.{piece_locals}
use Rattle.cpc_convert_routines.specs.Named.{IsOwner}
use Rattle.cpc_convert_routines.specs.Names.{piece_name, to_name}
use Rattle.cpc_chains_event.specs.Pieces.{called_so, to_frame}
use Rattle.cpc_convert_routines.specs.Routines.{Routine, routine_of}
use Rattle.cpc_convert_routines.specs.Nodes.{has_row}
use Rattle.cpc_lifted_laws.specs.Related.Bounds.{Bounds}
use Rattle.cpc_lifted_laws.specs.Related.Cut.{copied}
use Rattle.cpc_chains_laws.proofs.Related.Inside.{Prepares, HasAsked, FaultsAsking}
use Rattle.cpc_chains_laws.proofs.Related.Relation.{Shared, world_of}
use Rattle.cpc_lifted_laws.specs.Native.Instance.{keeps_in}
use Rattle.cpc_lifted_laws.specs.Piece.Known.{CpsKnown}
use Rattle.cpc_chains_laws.specs.Piece.Rows.{RowAt, row_point}
use Rattle.cpc_chains_laws.specs.Piece.Stood.{NodeAt, LocalsStand}
use Rattle.cpc_chains_laws.proofs.Piece.Frames.{same_registers, Target, code, body, scope, is_code, Word, with_frame}
use Rattle.cpc_chains_laws.proofs.Piece.Onwards.{z}
use Rattle.cpc_chains_laws.proofs.Piece.Rowed.{standing_piece}
use Rattle.cpc_chains_laws.proofs.Piece.Scopes.{meant}
use Rattle.cpc_chains_laws.proofs.Piece.Stubs.{to_word}
use Rattle.cpc_lifted_laws.specs.Wait.Asked.{IsWide}
use Rattle.cpc_chains_laws.proofs.Wait.Behind.{Behind}
use Rattle.cpc_chains_laws.proofs.Wait.Preparing as P

module _ (p : Program) (fine : CallFrame Position → Option Value → Type 0) (given : Text → List Value → Type 0) (bounds : Bounds) (wide : IsWide p bounds.leads) (f : Function) (known : CpsKnown p f) (enough : 5 + length (variables f) ≤ bounds.onward) (begins : 0 < bounds.leads) (l : Place) (owner : IsOwner (routine_of p f) l)
    (shown : before_underscores (piece_name f.called l) ≡ shown_in p f.called) (lower pointer result frame : Value)
    (n : ℕ) (at : NodeAt p f l n) (has : has_row (routine_of p f).split n ≡ true) (row : RowAt p (routine_of p f) l n)
    (behind : Behind p f known l n at) (jt : ℕ) (to_is : slice_get (piece_locals p (routine_of p f) l) jt ≡ Some (called_so to_name to_frame)) (e : Expr) (es : Exprs)
    (lines : node_lines p (routine_of p f) at.node ≡ all_do (frame_lines (routine_of p f) to_name (At behind.back) ++ (Call None e es ∷ hands_nothing ∷ [])))
    (w : Shared) (bs : Blocks) (c : Agenda Callback) (slots slots' : List Slot) (stands : LocalsStand p (routine_of p f) l slots slots' lower) (o : Option Value) where
  abbrev r : Routine
  r = routine_of p f

  abbrev q : Program
  q = Target p f known l owner

  abbrev left : Stmts
  left = P.left p fine given bounds f known enough begins l owner shown lower pointer result frame n at has row

  abbrev more : List Stmt
  more = Call None e es ∷ hands_nothing ∷ []

  -- behind the question
  abbrev pub rest : Stmts
  rest = AndStmt hands_nothing left

  abbrev second : Stmts
  second = AndStmt (Call None e es) rest

  pub word : Word p f known l owner to_name to_frame jt
  word = to_word p f known l owner jt to_is

  -- where the piece asks
  abbrev pub j : ℕ
  j = P.frame_end p fine given bounds f known enough begins l owner shown lower pointer result frame n at has row behind to_name jt word more second refl lines slots slots' stands

  abbrev first_steps : ℕ
  first_steps = P.frame_steps p fine given bounds f known enough begins l owner shown lower pointer result frame n at has row behind to_name jt word more second refl lines slots slots' stands

  abbrev fn : Text
  fn = piece_name f.called l

  abbrev below : List (CallFrame Point)
  below = driving pointer result frame ∷ []

  abbrev pub line : LineAt (code p f known l owner) (body p f known l owner) j (scope p f known l owner) (piece_count p r l) (Call None e es) rest
  line = record {
    statement = Call None e es;
    stands = P.frame_stands p fine given bounds f known enough begins l owner shown lower pointer result frame n at has row behind to_name jt word more second refl lines slots slots' stands;
    is_bare = refl;
    is_line = refl;
  }

  abbrev last : LineAt (code p f known l owner) (body p f known l owner) (suc j) (scope p f known l owner) (piece_count p r l) hands_nothing left
  last = record { statement = hands_nothing; stands = line_passed (code p f known l owner) (body p f known l owner) j (scope p f known l owner) (piece_count p r l) (Call None e es) rest line; is_bare = refl; is_line = refl }

  -- the blocks with the frame, and the locals with its pointer
  abbrev pub mid : Blocks
  mid = with_frame p f known l owner bs slots lower behind.back

  abbrev pub slots1 : List Slot
  slots1 = pointed_slots slots' jt (length bs)

  pub stands1 : LocalsStand p r l slots slots1 lower
  stands1 = P.frame_locals p fine given bounds f known enough begins l owner shown lower pointer result frame n at has row behind to_name jt word more second refl lines slots slots' stands (length bs)

  pub to1 : Holds q (scope p f known l owner) slots1 to_name to_frame (Pointer Frame (length bs) 0)
  to1 = record {
    slot = jt;
    is_local = (meant p f known l owner).meant q jt (called_so to_name to_frame) to_is;
    is_slot = P.frame_slot p fine given bounds f known enough begins l owner shown lower pointer result frame n at has row behind to_name jt word more second refl lines slots slots' stands (length bs);
  }

  pub few : first_steps ≤ 3 + length (variables f)
  few = P.frame_few p fine given bounds f known enough begins l owner shown lower pointer result frame n at has row behind to_name jt word more second refl lines slots slots' stands

  -- where it asks, in a world
  abbrev pub asks_there : World → Blocks → Here
  asks_there v blocks = at_line v fn below j second slots1 (beside blocks w.store)

  pub walk : Walk q w.trace first_steps (running (world_of w c) (beside bs w.store) (frame_at fn (row_point p r l n row) slots' ∷ below) None) (asks_there (world_of w c) mid)
  walk = P.prepares p fine given bounds f known enough begins l owner shown lower pointer result frame n at has row behind to_name jt word more second refl lines slots slots' stands (world_of w c) bs w.store

  -- the question itself may fault
  pub faults_after : (fault : Fault) → next (callbacks q) (asks_there (world_of w c) mid) ≡ Some (ends (Failed fault (before_underscores fn)) (asks_there (world_of w c) mid))
      → (a : FaultsAfter q w.trace fn fault (running (world_of w c) (beside bs w.store) (frame_at fn (row_point p r l n row) slots' ∷ below) None)) × (a.steps < bounds.leads) × (a.grown ≤ bounds.leads)
  faults_after fault is_fault = (record { steps = first_steps; grown = first_steps; last = asks_there (world_of w c) mid; leads = walk; faults = is_fault }, (let a = few in let b = wide f known.found.cps in omega (arith, a, b)), (let a = few in let b = wide f known.found.cps in omega (arith, a, b)))

  -- ---- as the rows say it

  -- the blocks of the setting
  abbrev saved_by : Option Function → Blocks
  saved_by k = bs ++ Some (frame_cells (record { piece = piece_name f.called (At behind.back); values = copied slots (keeps_in p k (At behind.back)) }) lower Unset) ∷ []

  abbrev Prepared : Type 0
  Prepared = Prepares (z p fine given bounds) bounds f.called l lower pointer result frame w bs c n slots o (standing_piece p fine given bounds f known enough begins l owner shown lower pointer result frame n at has row slots') None

  abbrev pub prepared : Prepared
  prepared = record {
    back = behind.back;
    is_back = behind.is_back;
    steps = first_steps;
    within = (let a = few in let b = wide f known.found.cps in omega (arith, a, b));
    asker = frame_at fn (point_at j second) slots1;
    leads = subst (λ k. Walk q w.trace first_steps (running (world_of w c) (beside bs w.store) (frame_at fn (row_point p r l n row) slots' ∷ below) None) (asks_there (world_of w c) (saved_by k))) (sym known.found.named) walk;
    shown = shown;
  }

  -- the loop took the frame, which left this in common and this agenda
  pub has_asked : (v : Shared) (d : Agenda Callback) → next (callbacks q) (asks_there (world_of w c) mid) ≡ Some (at_line (world_of v d) fn below (suc j) rest slots1 (beside mid w.store))
      → HasAsked (z p fine given bounds) bounds f.called l lower pointer result frame w bs c n slots o (standing_piece p fine given bounds f known enough begins l owner shown lower pointer result frame n at has row slots') None behind.back (frame_at fn (point_at j second) slots1) v d
  has_asked v d first = record {
    from = frame_at fn (point_at (suc j) rest) slots1;
    first = subst (λ k. next (callbacks q) (asks_there (world_of w c) (saved_by k)) ≡ Some (at_line (world_of v d) fn below (suc j) rest slots1 (beside (saved_by k) w.store))) (sym known.found.named) first;
    same = same_registers p r l slots slots slots' slots1 lower stands stands1;
    steps = 1;
    within = omega (arith, enough);
    leads = subst (λ k. Walk q v.trace 1 (at_line (world_of v d) fn below (suc j) rest slots1 (beside (saved_by k) w.store)) (running (world_of v d) (beside (saved_by k) w.store) below (Some Null))) (sym known.found.named)
        (return_step q (world_of v d) fn (code p f known l owner) (body p f known l owner) (driving pointer result frame) [] (is_code p f known l owner) (suc j) (scope p f known l owner) (piece_count p r l) left slots1 (beside mid w.store) (EInteger Int (pos 0)) last
        (Whole Int (pos 0)) Null (beside mid w.store) refl refl (free_all slots1 (beside mid w.store) stands1.registers));
  }

  -- or it refuses
  pub refuses : (fault : Fault) → next (callbacks q) (asks_there (world_of w c) mid) ≡ Some (ends (Failed fault (before_underscores fn)) (asks_there (world_of w c) mid))
      → FaultsAsking (z p fine given bounds) bounds f.called l lower pointer result frame w bs c n slots o (standing_piece p fine given bounds f known enough begins l owner shown lower pointer result frame n at has row slots') None prepared fault
  refuses fault is_fault = subst (λ k. next (callbacks q) (asks_there (world_of w c) (saved_by k)) ≡ Some (ends (Failed fault (before_underscores fn)) (asks_there (world_of w c) (saved_by k)))) (sym known.found.named) is_fault
