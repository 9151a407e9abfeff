-- The row of a cps statement begins with the frame of its arrival, which the piece makes.
use Rattle.std.proofs.Common.{◌≡◌, ℕ, suc, ◌+◌, ◌<◌, ◌≤◌, true, List, [], ◌∷◌, ◌++◌, map, length, slice_get, Option, Some, None, refl, sym, ◌∙◌, ap, subst, arith}
use Rattle.cpc_base.specs.Bytes.{Text}
use Rattle.cpc_base.proofs.Lists.{length_of_map}
use Rattle.cpc_tree.specs.Registers.{variables}
use Rattle.cpc_tree.specs.Syntax.{Stmt, Stmts, Function, Program}
use Rattle.cpc_store.specs.declared.values.Class.TheVariants.{Frame}
use Rattle.cpc_store.specs.Store.{Value, At as Pointer, Blocks, Store}
use Rattle.cpc_meaning.specs.Eval.{Slot, Register}
use Rattle.cpc_meaning.specs.Plain.{Frame as CallFrame}
use Rattle.cpc_meaning.specs.Start.{before_underscores}
use Rattle.cpc_meaning.specs.Threads.{shown_in}
use Rattle.cpc_convert_image_laws.specs.Held.{beside}
use Rattle.cpc_convert_image_laws.proofs.Slots.{got_set}
use Rattle.cpc_forms.specs.Flow.{Place, At}
use Rattle.cpc_forms.specs.Split.{Position}
use Rattle.cpc_chains_store_laws.specs.Driver.{driving}
use Rattle.cpc_convert_flat_laws.specs.Flat.{before}
use Rattle.cpc_chains_store_laws.specs.Frames.{asks_block, pointed_slots}
use Rattle.cpc_convert_flat_laws.specs.Walks.{World, Walk, at_line, running, frame_at}
use Rattle.cpc_convert_flat_laws.proofs.Rows.{before_append}
use Rattle.cpc_chains_event.specs.Lines.{all_do, frame_lines, node_lines}
use Rattle.cpc_convert_routines.specs.Named.{IsOwner}
use Rattle.cpc_convert_routines.specs.Names.{piece_name}
use Rattle.cpc_chains_event.specs.Pieces.{called_so, to_frame}
use Rattle.cpc_convert_routines.specs.Routines.{Routine, routine_of, closure_of, local_of}
use Rattle.cpc_chains_event.specs.Lines.{save_of}
use Rattle.cpc_convert_routines.specs.Nodes.{has_row}
use Rattle.cpc_chains_event.specs.Rows.{put_statement}
use Rattle.cpc_lifted_laws.specs.Related.Bounds.{Bounds}
use Rattle.cpc_lifted_laws.specs.Piece.Known.{CpsKnown}
use Rattle.cpc_chains_laws.specs.Piece.Rows.{next_number, put_row, RowAt, row_index, row_point}
use Rattle.cpc_chains_laws.specs.Piece.Stood.{NodeAt, LocalsStand}
use Rattle.cpc_chains_laws.proofs.Piece.Frames.{Target, Word, word_set, saves_of, fills_of, with_frame, frame_passed, frame_walk, puts_do, kept_number}
use Rattle.cpc_chains_laws.proofs.Piece.Places.{Before, FirstLine, first_line}
use Rattle.cpc_chains_laws.proofs.Piece.Rowed.{row_puts, tail}
use Rattle.cpc_chains_laws.proofs.Piece.Scopes.{local_slot}
use Rattle.cpc_chains_laws.proofs.Wait.Behind.{Behind}

module _ (p : Program) (fine : CallFrame Position → Option Value → Type 0) (given : Text → List Value → Type 0) (bounds : Bounds) (f : Function) (known : CpsKnown p f) (enough : 5 + length (variables f) ≤ bounds.onward) (begins : 0 < bounds.leads) (l : Place) (owner : IsOwner (routine_of p f) l)
    (shown : before_underscores (piece_name f.called l) ≡ shown_in p f.called) (lower pointer result frame : Value)
    (n : ℕ) (at : NodeAt p f l n) (has : has_row (routine_of p f).split n ≡ true) (row : RowAt p (routine_of p f) l n) where
  abbrev r : Routine
  r = routine_of p f

  abbrev q : Program
  q = Target p f known l owner

  -- what stands behind the row
  abbrev pub left : Stmts
  left = tail p fine given bounds f known enough begins l owner shown lower pointer result frame n at has row

  -- the statements of the row
  pub cps_puts : (ss : List Stmt) → node_lines p r at.node ≡ all_do ss → map put_statement (put_row p r l n row.back).puts ≡ ss
  cps_puts ss e = ap (map put_statement) (row_puts p fine given bounds f known enough begins l owner shown lower pointer result frame n at has row (all_do ss) e) ∙ puts_do (next_number row.back) ss

  module _ (behind : Behind p f known l n at) (to : Text) (j : ℕ) (word : Word p f known l owner to to_frame j) (more : List Stmt) (rest : Stmts) (is_rest : before more left ≡ rest)
      (lines : node_lines p r at.node ≡ all_do (frame_lines r to (At behind.back) ++ more)) (slots slots' : List Slot) (stands : LocalsStand p r l slots slots' lower) where
    abbrev fills : List Stmt
    fills = fills_of p f known l owner to behind.back

    abbrev k : ℕ
    k = row_index p r l n row

    -- how many steps
    abbrev pub frame_steps : ℕ
    frame_steps = suc (suc (suc (length (saves_of p f known l owner behind.back))))

    -- where the statements behind the frame stand
    abbrev pub frame_end : ℕ
    frame_end = suc (suc (suc k)) + length (saves_of p f known l owner behind.back)

    first : FirstLine p f l n row (asks_block to (piece_name f.called (At behind.back))) (fills ++ more) (before fills rest)
    first = first_line p f l n row (asks_block to (piece_name f.called (At behind.back))) (fills ++ more) (before fills rest) (cps_puts (frame_lines r to (At behind.back) ++ more) lines) (before_append fills more left ∙ ap (before fills) is_rest) refl refl

    pub frame_few : frame_steps ≤ 3 + length (variables f)
    frame_few =
        let few = kept_number p f known l owner (At behind.back) in
        let counted = length_of_map (λ i. save_of (local_of r i)) (closure_of r (At behind.back)) in
        omega (arith, few, counted)

    pub frame_stands : Before p f l frame_end rest
    frame_stands = frame_passed p f known l owner behind.back behind.leads behind.keeps to j word slots slots' lower stands k rest first.line

    -- the locals with the pointer to the frame
    abbrev pub frame_slots : ℕ → List Slot
    frame_slots b = pointed_slots slots' j b

    pub frame_locals : (b : ℕ) → LocalsStand p r l slots (frame_slots b) lower
    frame_locals b = word_set p f known l owner to to_frame j word slots slots' lower stands (Pointer Frame b 0)

    old_value : (v : Value) × (slice_get slots' j ≡ Some (Register v))
    old_value = local_slot p f known l owner slots' stands.registers stands.number j (called_so to to_frame) word.stands

    -- and where it stands
    pub frame_slot : (b : ℕ) → slice_get (frame_slots b) j ≡ Some (Register (Pointer Frame b 0))
    frame_slot b = got_set slots' j j (Register old_value.0) (Register (Pointer Frame b 0)) refl old_value.1

    -- the frame is made
    pub prepares : (w : World) (bs : Blocks) (t : Store)
        → Walk q w.trace frame_steps (running w (beside bs t) (frame_at (piece_name f.called l) (row_point p r l n row) slots' ∷ driving pointer result frame ∷ []) None)
        (at_line w (piece_name f.called l) (driving pointer result frame ∷ []) frame_end rest (frame_slots (length bs)) (beside (with_frame p f known l owner bs slots lower behind.back) t))
    prepares w bs t =
        let fn = piece_name f.called l in
        let below = driving pointer result frame ∷ [] in
        let made = beside (with_frame p f known l owner bs slots lower behind.back) t in
        subst (λ ss. Walk q w.trace frame_steps (at_line w fn below k ss slots' (beside bs t)) (at_line w fn below frame_end rest (frame_slots (length bs)) made)) (sym first.is_rest)
        (frame_walk p f known l owner behind.back behind.leads behind.keeps to j word slots slots' lower stands k rest first.line w below bs t)
