-- The opening of a piece: it takes up its frame, loads its locals, makes its boxes, gives the frame back, and stands before its first row.
use Rattle.std.proofs.Common.{◌≡◌, ℕ, zero, suc, ◌+◌, Bool, true, false, cond, List, [], ◌∷◌, ◌++◌, map, length, slice_get, slice_set, option_map, Some, None, refl, sym, ◌∙◌, ap, subst, codes, arith}
use Rattle.cpc_base.specs.Bytes.{Text}
use Rattle.cpc_base.proofs.Lists.{length_of_map, length_of_append}
use Rattle.cpc_tree.specs.Lists.{rest_of}
use Rattle.cpc_tree.specs.Points.{Point}
use Rattle.cpc_tree.specs.Primitives.{RtFrameFree}
use Rattle.cpc_tree.specs.Registers.{variables, outer_scope}
use Rattle.cpc_tree.specs.Syntax.{TyVoid, ENamed, Stmts, NoStmt, AndStmt, Variable, Function, Program}
use Rattle.cpc_store.specs.declared.values.Class.TheVariants.{Frame}
use Rattle.cpc_store.specs.Store.{Value, Unset, At as Pointer, Store, empty_store, blocks, with_blocks, cells_of}
use Rattle.cpc_store.proofs.CellLemmas.{store_cells-free}
use Rattle.cpc_meaning.specs.Answer.{Gives}
use Rattle.cpc_meaning.specs.Eval.{Slot, Register}
use Rattle.cpc_meaning.specs.Plain.{Frame as CallFrame}
use Rattle.cpc_meaning.specs.Runs.{slots_registers}
use Rattle.cpc_meaning.specs.Slots.{call_slots}
use Rattle.cpc_meaning.specs.Trees.{first_point}
use Rattle.cpc_meaning_laws.specs.Cell.Cells.{call_cells}
use Rattle.cpc_meaning_laws.proofs.Cell.Calls.{call_takes}
use Rattle.cpc_forms.specs.Flow.{Place}
use Rattle.cpc_chains_store_laws.specs.Driver.{any_pointer, driving, entered, IsPiece}
use Rattle.cpc_convert_flat_laws.specs.Flat.{before, point_at, Stands, LineAt}
use Rattle.cpc_convert_flat_laws.specs.Locals.{Holds, Load, Loading, blank, register_slots, AreRegisters}
use Rattle.cpc_chains_store_laws.specs.Frames.{frees_frame, opens_frame}
use Rattle.cpc_convert_flat_laws.specs.Walks.{World, Rise, Climbs, Swell, at_line, running, frame_at}
use Rattle.cpc_convert_flat_laws.proofs.Fields.{held}
use Rattle.cpc_convert_flat_laws.proofs.Flat.{at_first}
use Rattle.cpc_convert_flat_laws.proofs.LineSteps.{frame_free_step}
use Rattle.cpc_chains_store_laws.proofs.Pieces.{registers_call, blank_slots}
use Rattle.cpc_chains_store_laws.proofs.Prologue.{opens_walk, past_opened}
use Rattle.cpc_convert_flat_laws.proofs.Scopes.{past_lines}
use Rattle.cpc_convert_flat_laws.proofs.Walks.{rise_climbs, rise_then, climbs_more, climbs_append, swell_climbs}
use Rattle.cpc_chains_event.specs.FlatLaws.{opening, piece_scope, piece_count}
use Rattle.cpc_convert_routines.specs.Arriving.{arriving_type}
use Rattle.cpc_chains_event.specs.LabelLaws.{put_in}
use Rattle.cpc_chains_event.specs.LocalLaws.{piece_locals}
use Rattle.cpc_convert_routines.specs.Named.{IsOwner}
use Rattle.cpc_convert_routines.specs.Names.{piece_name, pointer_name, frame_name, value_name}
use Rattle.cpc_chains_event.specs.Pieces.{load_of, called_so, loaded, loads_of, declares_of, boxing_of}
use Rattle.cpc_convert_routines.specs.Taken.{takes_value}
use Rattle.cpc_convert_routines.specs.Routines.{Routine, routine_of, locals_of, variable_if}
use Rattle.cpc_chains_event.specs.Rows.{row_of, numbers_of, lines_by, put_lines, put_rows, rows_statements, piece_statements}
use Rattle.cpc_convert_routines.specs.Nodes.{is_own}
use Rattle.cpc_chains_event.proofs.Addresses.{variables_are_registers}
use Rattle.cpc_chains_event.proofs.Flat.{boxes_done, pieces_flat, all_true}
use Rattle.cpc_chains_event.proofs.Lines.{bare_lines}
use Rattle.cpc_lifted_laws.specs.Piece.Known.{CpsKnown}
use Rattle.cpc_chains_laws.specs.Piece.Rows.{put_row, RowAt, row_index, row_rest, row_point}
use Rattle.cpc_chains_laws.proofs.Piece.Frames.{Target, code, body, is_code}
use Rattle.cpc_chains_laws.proofs.Piece.Scopes.{meant, primitive_meant}
use Rattle.cpc_chains_laws.proofs.Piece.Rows.{same_next}

blank_more : (a b : ℕ) → blank (a + b) [] ≡ blank a (blank b [])
blank_more zero b = ap (λ n. blank n []) (let z : 0 + b ≡ b = omega arith in z)
blank_more (suc a) b = ap (λ n. blank n []) (let z : suc a + b ≡ suc (a + b) = omega arith in z) ∙ ap (λ xs. Register Unset ∷ xs) (blank_more a b)

-- ---- the first row

-- a row with none before it
pub record FirstRow (p : Program) (r : Routine) (l : Place) (n : ℕ) : Type 0 where
  pub row : RowAt p r l n
  pub none : row.front ≡ []

pub first_row : (p : Program) (r : Routine) (l : Place) (n : ℕ) (ns : List ℕ) → numbers_of p r l ≡ n ∷ ns → FirstRow p r l n
first_row p r l n ns e = record {
  row = record {
    front = [];
    back = put_rows (map (row_of p r l) ns);
    is_split = ap (λ ms. put_rows (map (row_of p r l) ms)) e
        ∙ ap (λ o. record { number = n; puts = put_lines o (lines_by (is_own r.split l n) p r n) } ∷ put_rows (map (row_of p r l) ns)) (sym (same_next (map (row_of p r l) ns)));
  };
  none = refl;
}

-- it stands behind the opening
pub first_point_is : (p : Program) (r : Routine) (l : Place) (n : ℕ) (first : FirstRow p r l n) → point_at (opening p r l) (before (piece_statements p r l) NoStmt) ≡ row_point p r l n first.row
first_point_is p r l n first =
    let at = first.row in
    let index : opening p r l ≡ row_index p r l n at =
    (let z : opening p r l ≡ opening p r l + 0 = omega arith in z) ∙ ap (λ fs. opening p r l + length (rows_statements (put_in p r l) fs)) (sym first.none) in
    let left : before (piece_statements p r l) NoStmt ≡ row_rest p r l n at =
    ap (λ rs. before (rows_statements (put_in p r l) rs) NoStmt) (at.is_split ∙ ap (λ fs. fs ++ put_row p r l n at.back ∷ at.back) first.none) in
    ap (λ k. point_at k (before (piece_statements p r l) NoStmt)) index ∙ ap (point_at (row_index p r l n at)) left

-- ---- the opening

-- the locals of a call are registers
called_registers : (n : ℕ) (vs : List Value) → slots_registers (register_slots n vs) ≡ n
called_registers zero vs = refl
called_registers (suc n) vs = let h = called_registers n (rest_of vs) in omega (arith, h)

module _ (p : Program) (f : Function) (known : CpsKnown p f) (l : Place) (owner : IsOwner (routine_of p f) l) where
  abbrev r : Routine
  r = routine_of p f

  abbrev ls : List Load
  ls = loads_of p r l

  abbrev ds : List Variable
  ds = declares_of p r l

  abbrev q : Program
  q = Target p f known l owner

  abbrev its : Function
  its = code p f known l owner

  abbrev all : Stmts
  all = body p f known l owner

  abbrev name : Text
  name = piece_name f.called l

  -- the statements behind the opening
  abbrev lines : Stmts
  lines = before (piece_statements p r l) NoStmt

  abbrev boxes : Stmts
  boxes = before (boxing_of r l) (AndStmt (frees_frame pointer_name) lines)

  pub are_registers : AreRegisters its 0 (variables its)
  are_registers = variables_are_registers p known.names f known.found.cps l owner known.addresses (known.results l)

  -- a piece is a function that the driver may call
  pub is_piece : IsPiece q name its
  is_piece = record { found = is_code p f known l owner; type = refl }

  -- how many variables there are
  pub locals_number : length (piece_locals p r l) ≡ suc (suc (length ls + length ds))
  locals_number = let e = go (takes_value r l) in omega (arith, e)
    where
      xs : List Variable
      xs = locals_of r (loaded r l)

      joined : length (xs ++ ds) ≡ length (map load_of xs) + length ds
      joined = length_of_append xs ds ∙ ap (λ n. n + length ds) (sym (length_of_map load_of xs))

      go : (b : Bool) → length (variable_if b (called_so value_name (arriving_type p r l)) (xs ++ ds)) ≡ length (cond b (record { variable = value_name; type = arriving_type p r l; field = codes "value__" } ∷ []) [] ++ map load_of xs) + length ds
      go true = let e = joined in let z : suc (length (xs ++ ds)) ≡ suc (length (map load_of xs)) + length ds = omega (arith, e) in z
      go false = joined

  pub variables_number : length (variables its) ≡ suc (suc (length ls + length ds))
  variables_number = ap length (meant p f known l owner).listed ∙ locals_number

  -- the locals of a call with the pointer to block b
  abbrev pub called_locals : ℕ → List Slot
  called_locals b = register_slots (length (variables its)) (Pointer Frame b 0 ∷ [])

  pub is_called : (b : ℕ) (s : Store) → call_slots q its (Pointer Frame b 0 ∷ []) s ≡ Gives (called_locals b, s)
  is_called b s = registers_call q its (Pointer Frame b 0 ∷ []) s are_registers

  -- a call takes a register for each
  pub call_number : call_cells q its ≡ suc (suc (length ls + length ds))
  call_number =
      let e = call_takes q its (Pointer Frame 0 0 ∷ []) empty_store empty_store (called_locals 0) (is_called 0 empty_store) in
      let a = called_registers (length (variables its)) (Pointer Frame 0 0 ∷ []) in
      let n = variables_number in
      omega (arith, e, a, n)

  blank_locals : (b : ℕ) → called_locals b ≡ (Register (Pointer Frame b 0) ∷ []) ++ Register Unset ∷ blank (length ls) (blank (length ds) [])
  blank_locals b =
      ap (λ n. register_slots n (Pointer Frame b 0 ∷ [])) variables_number
      ∙ ap (λ xs. Register (Pointer Frame b 0) ∷ Register Unset ∷ xs) (blank_slots (length ls + length ds) ∙ blank_more (length ls) (length ds))

  -- its locals when these values are loaded
  abbrev pub opened : ℕ → List Value → List Slot
  opened b vs = Register (Pointer Frame b 0) ∷ Register (Pointer Frame b 0) ∷ (map Register vs ++ blank (length ds) [])

  -- how many statements stand before the boxes
  abbrev pub before_boxes : ℕ
  before_boxes = (suc 0 + length ls) + length ds

  -- the steps of the whole opening
  abbrev pub opening_steps : ℕ
  opening_steps = suc (length ls + length ds) + (length (boxing_of r l) + 1)

  stands_first : Stands its all 0 (outer_scope its) 1 (opens_frame pointer_name frame_name name ls ds boxes)
  stands_first = at_first its all refl (pieces_flat p r l).0

  module _ (w : World) (pointer result frame : Value) where
    abbrev pub under : List (CallFrame Point)
    under = driving pointer result frame ∷ []

    module _ (s : Store) (b : ℕ) (cells : List Value) (live : cells_of Frame b s ≡ Some cells) where
      pub boxes_stand : Stands its all before_boxes (piece_scope p r l) (piece_count p r l) boxes
      boxes_stand = past_opened q w name its all under (is_code p f known l owner) s name frame_name pointer_name b cells live 0 (outer_scope its) 1 boxes ls ds stands_first

      pub loads_walk : (vs : List Value) → Loading q name frame_name cells ls vs
          → Rise q w.trace (suc (length ls + length ds)) 0 (entered q w s its (called_locals b) pointer result frame) (at_line w name under before_boxes boxes (opened b vs) s)
      loads_walk vs loading =
          let walk = opens_walk q w name its all under (is_code p f known l owner) s name frame_name pointer_name b cells live 0 (outer_scope its) 1 boxes ls ds stands_first
          (Register (Pointer Frame b 0) ∷ []) (blank (length ds) []) 0 TyVoid vs refl refl refl refl loading in
          subst (λ o. Rise q w.trace (suc (length ls + length ds)) 0 (running w s (frame_at name (first_point o) (called_locals b) ∷ under) None) (at_line w name under before_boxes boxes (opened b vs) s)) (sym (is_code p f known l owner))
          (subst (λ slots. Rise q w.trace (suc (length ls + length ds)) 0 (running w s (frame_at name (first_point (Some its)) slots ∷ under) None) (at_line w name under before_boxes boxes (opened b vs) s)) (sym (blank_locals b)) walk)

    -- the frame is given back
    pub frees_walk : (s : Store) (b : ℕ) (cells : List Value) → cells_of Frame b s ≡ Some cells → (slots : List Slot) → slice_get slots 0 ≡ Some (Register (Pointer Frame b 0))
        → Stands its all (before_boxes + length (boxing_of r l)) (piece_scope p r l) (piece_count p r l) (AndStmt (frees_frame pointer_name) lines)
        → Rise q w.trace 1 0 (at_line w name under (before_boxes + length (boxing_of r l)) (AndStmt (frees_frame pointer_name) lines) slots s)
        (at_line w name under (opening p r l) lines slots (with_blocks Frame (slice_set (blocks Frame s) b None) s))
    frees_walk s b cells live slots there st =
        let k = before_boxes + length (boxing_of r l) in
        let line : LineAt its all k (piece_scope p r l) (piece_count p r l) (frees_frame pointer_name) lines = record { statement = frees_frame pointer_name; stands = st; is_bare = refl; is_line = refl } in
        let h : Holds q (piece_scope p r l) slots pointer_name any_pointer (Pointer Frame b 0) = record { slot = 0; is_local = (meant p f known l owner).meant q 0 (called_so pointer_name any_pointer) refl; is_slot = there } in
        frame_free_step q w name its all under (is_code p f known l owner) k (piece_scope p r l) (piece_count p r l) lines slots s (ENamed pointer_name) line
        (primitive_meant p f known l (codes "rt_frame_free") RtFrameFree refl refl) b cells (held q (piece_scope p r l) slots s pointer_name any_pointer (Pointer Frame b 0) h) live

    -- ---- a whole opening

    -- where its boxes lead to these locals and this store
    abbrev pub Boxed : (s : Store) (b : ℕ) (vs : List Value) (slots : List Slot) (t : Store) → Type 0
    Boxed s b vs slots t =
        Swell q w.trace (length (boxing_of r l)) (at_line w name under before_boxes boxes (opened b vs) s) (at_line w name under (before_boxes + length (boxing_of r l)) (AndStmt (frees_frame pointer_name) lines) slots t)

    pub opening_walk : (s : Store) (b : ℕ) (cells : List Value) → cells_of Frame b s ≡ Some cells → (vs : List Value) → Loading q name frame_name cells ls vs
        → (slots : List Slot) (t : Store) → Boxed s b vs slots t → cells_of Frame b t ≡ Some cells → slice_get slots 0 ≡ Some (Register (Pointer Frame b 0)) → (n : ℕ) (first : FirstRow p r l n)
        → Climbs q w.trace opening_steps (length cells) (entered q w s its (called_locals b) pointer result frame)
        (running w (with_blocks Frame (slice_set (blocks Frame t) b None) t) (frame_at name (row_point p r l n first.row) slots ∷ under) None)
    opening_walk s b cells live vs loading slots t boxed live' there n first =
        let st = past_lines its all before_boxes (piece_scope p r l) (piece_count p r l) (boxing_of r l) (AndStmt (frees_frame pointer_name) lines) (all_true (boxing_of r l) (bare_lines (boxing_of r l) (boxes_done r l))) (boxes_stand s b cells live) in
        let u = with_blocks Frame (slice_set (blocks Frame t) b None) t in
        let ends = frees_walk t b cells live' slots there st in
        let ends' = subst (λ point. Rise q w.trace 1 0 (at_line w name under (before_boxes + length (boxing_of r l)) (AndStmt (frees_frame pointer_name) lines) slots t) (running w u (frame_at name point slots ∷ under) None)) (first_point_is p r l n first) ends in
        let left = store_cells-free Frame b (length cells) t (ap (option_map length) live') in
        climbs_more opening_steps (0 + length cells) (length cells) _ _ (omega arith)
        (rise_then (suc (length ls + length ds)) (length (boxing_of r l) + 1) 0 (length cells) _ _ _ (loads_walk s b cells live vs loading)
        (climbs_append (length (boxing_of r l)) 1 0 0 (length cells) (length cells) _ _ _ (swell_climbs (length (boxing_of r l)) _ _ boxed) (omega (arith, left)) (rise_climbs 1 0 _ _ ends') (omega arith) (omega arith)))
