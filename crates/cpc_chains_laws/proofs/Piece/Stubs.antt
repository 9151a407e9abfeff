-- A piece goes to another leader: its row makes the leader's frame, and gives it to the driver.
use Rattle.std.proofs.Common.{◌≡◌, ℕ, suc, ◌+◌, Bool, true, false, not, ◌&&◌, ◌||◌, List, [], ◌∷◌, ◌++◌, map, length, slice_get, Some, None, refl, sym, ◌∙◌, ap, subst, codes}
use Rattle.cpc_base.proofs.Truth.{not_holds, and_second}
use Rattle.cpc_tree.specs.Lists.{holds_number, is_empty}
use Rattle.cpc_tree.specs.Syntax.{Ty, ENamed, Stmt, Stmts, NoStmt, AndStmt, Function, Program}
use Rattle.cpc_store.specs.declared.values.Class.TheVariants.{Frame}
use Rattle.cpc_store.specs.Store.{Value, At as Pointer, Blocks, Store}
use Rattle.cpc_meaning.specs.Eval.{Slot, Register}
use Rattle.cpc_convert_common.specs.Members.{Has}
use Rattle.cpc_convert_image_laws.specs.Held.{beside}
use Rattle.cpc_convert_image_laws.proofs.Slots.{got_set}
use Rattle.cpc_forms.specs.Flow.{Place, At}
use Rattle.cpc_chains_store_laws.specs.Driver.{driving}
use Rattle.cpc_convert_flat_laws.specs.Flat.{before, LineAt}
use Rattle.cpc_convert_flat_laws.specs.Locals.{Holds}
use Rattle.cpc_chains_store_laws.specs.Frames.{asks_block, pointed_slots}
use Rattle.cpc_convert_flat_laws.specs.Walks.{World, Walk, at_line, running, frame_at}
use Rattle.cpc_convert_flat_laws.proofs.Boxes.{free_all}
use Rattle.cpc_convert_flat_laws.proofs.Fields.{held}
use Rattle.cpc_chains_store_laws.proofs.Pieces.{return_step}
use Rattle.cpc_convert_flat_laws.proofs.Rows.{before_append}
use Rattle.cpc_convert_flat_laws.proofs.Walks.{walk_append}
use Rattle.cpc_chains_event.specs.FlatLaws.{piece_count}
use Rattle.cpc_chains_event.specs.LabelLaws.{put_in}
use Rattle.cpc_chains_event.specs.Lines.{hands_over, frame_lines}
use Rattle.cpc_chains_event.specs.LocalLaws.{piece_locals, StandsIn}
use Rattle.cpc_convert_routines.specs.Named.{IsOwner}
use Rattle.cpc_convert_routines.specs.Names.{piece_name, to_name}
use Rattle.cpc_chains_event.specs.Pieces.{called_so, to_frame, words_if, is_wait, is_entry}
use Rattle.cpc_convert_routines.specs.Taken.{any_node, is_result}
use Rattle.cpc_convert_routines.specs.Routines.{Routine, routine_of, closure_of}
use Rattle.cpc_convert_routines.specs.Nodes.{rows_nodes, is_own}
use Rattle.cpc_chains_event.specs.Rows.{stubs_of, reached, lines_by, put_lines, put_statement, rows_statements}
use Rattle.cpc_chains_event.proofs.Fields.{word_apart}
use Rattle.cpc_convert_routines.proofs.Numbers.{chosen_is}
use Rattle.cpc_chains_event.proofs.Boxing.{held_has}
use Rattle.cpc_lifted_laws.specs.Piece.Known.{CpsKnown}
use Rattle.cpc_chains_laws.specs.Piece.Rows.{next_number, put_row, RowAt, row_index, row_point}
use Rattle.cpc_chains_laws.specs.Piece.Stood.{LocalsStand}
use Rattle.cpc_chains_laws.proofs.Piece.Places.{first_line}
use Rattle.cpc_chains_laws.proofs.Piece.Scopes.{meant, local_slot, local_holds}
use Rattle.cpc_chains_laws.proofs.Piece.Frames.{puts_do, Target, code, body, scope, is_code, Word, word_set, saves_of, fills_of, with_frame, frame_passed, frame_walk}

-- a row that holds a number is not empty
pub some_there : (xs : List ℕ) (n : ℕ) → holds_number xs n ≡ true → not (is_empty xs) ≡ true
some_there [] n h = absurd (cc)
some_there (x ∷ xs) n h = refl

pub first_word : (a b c : Bool) (t : Ty) → a ≡ true → slice_get (words_if a b c t) 0 ≡ Some (called_so to_name to_frame)
first_word true b c t e = refl
first_word false b c t e = absurd (cc)

module _ (p : Program) (f : Function) (known : CpsKnown p f) (l : Place) (owner : IsOwner (routine_of p f) l) where
  abbrev r : Routine
  r = routine_of p f

  -- the word for the frame that is given
  pub to_word : (j : ℕ) → slice_get (piece_locals p r l) j ≡ Some (called_so to_name to_frame) → Word p f known l owner to_name to_frame j
  to_word j e = record { stands = e; variable = λ k x plain small. word_apart (codes "to") k x refl plain small; next = refl }

  stub_word : (m : ℕ) → holds_number (stubs_of r l) m ≡ true → StandsIn (called_so to_name to_frame) (piece_locals p r l)
  stub_word m h =
      (meant p f known l owner).words (called_so to_name to_frame) (
        0,
        first_word _ (any_node r (λ node. is_entry p node.stood) (rows_nodes r.split l)) (any_node r (λ node. is_result node.stood) (rows_nodes r.split l)) f.result
            (ap (λ b. b || any_node r (λ node. is_wait node.manner node.stood) (rows_nodes r.split l)) (some_there (stubs_of r l) m h)),
      )

  module _ (m : ℕ) (h : holds_number (stubs_of r l) m ≡ true) (at : RowAt p r l m) (keeps : (k : ℕ) → holds_number (closure_of r (At m)) k ≡ true → holds_number (closure_of r l) k ≡ true) where
    listed : (holds_number r.split.leaders m ≡ true) × ((holds_number (reached r l) m && not (is_own r.split l m)) ≡ true)
    listed = chosen_is (λ n. holds_number (reached r l) n && not (is_own r.split l n)) r.split.leaders m h

    other : is_own r.split l m ≡ false
    other = not_holds (is_own r.split l m) (and_second (holds_number (reached r l) m) (not (is_own r.split l m)) listed.1)

    pub leads : Has m (routine_of p f).split.leaders
    leads = held_has r.split.leaders m listed.0

    abbrev tail : Stmts
    tail = before (rows_statements (put_in p r l) at.back) NoStmt

    abbrev asks : Stmt
    asks = asks_block to_name (piece_name f.called (At m))

    pub stub_puts : map put_statement (put_row p r l m at.back).puts ≡ asks ∷ (fills_of p f known l owner to_name m ++ hands_over to_name ∷ [])
    stub_puts = ap (λ b. map put_statement (put_lines (next_number at.back) (lines_by b p r m))) other ∙ puts_do (next_number at.back) (frame_lines r to_name (At m) ++ (hands_over to_name ∷ []))

    -- the walk through the row
    pub stub_walk : (slots slots' : List Slot) (lower : Value) → LocalsStand p r l slots slots' lower → (w : World) (bs : Blocks) (t : Store) (pointer result frame : Value)
        → Walk (Target p f known l owner) w.trace (suc (suc (suc (length (saves_of p f known l owner m)))) + 1)
        (running w (beside bs t) (frame_at (piece_name f.called l) (row_point p r l m at) slots' ∷ driving pointer result frame ∷ []) None)
        (running w (beside (with_frame p f known l owner bs slots lower m) t) (driving pointer result frame ∷ []) (Some (Pointer Frame (length bs) 0)))
    stub_walk slots slots' lower stands w bs t pointer result frame =
        let fn = piece_name f.called l in
        let below = driving pointer result frame ∷ [] in
        let fills = fills_of p f known l owner to_name m in
        let hands = hands_over to_name in
        let there = stub_word m h in
        let word = to_word there.0 there.1 in
        let first = first_line p f l m at asks (fills ++ hands ∷ []) (before fills (AndStmt hands tail)) stub_puts (before_append fills (hands ∷ []) tail) refl refl in
        let k = row_index p r l m at in
        let made = beside (with_frame p f known l owner bs slots lower m) t in
        let slots'' = pointed_slots slots' there.0 (length bs) in
        let after = word_set p f known l owner to_name to_frame there.0 word slots slots' lower stands (Pointer Frame (length bs) 0) in
        let walk = frame_walk p f known l owner m leads keeps to_name there.0 word slots slots' lower stands k (AndStmt hands tail) first.line w below bs t in
        let st = frame_passed p f known l owner m leads keeps to_name there.0 word slots slots' lower stands k (AndStmt hands tail) first.line in
        let j = suc (suc (suc k)) + length (saves_of p f known l owner m) in
        let line : LineAt (code p f known l owner) (body p f known l owner) j (scope p f known l owner) (piece_count p r l) hands tail = record { statement = hands; stands = st; is_bare = refl; is_line = refl } in
        let at_slot = got_set slots' there.0 there.0 (Register (old_value slots' stands there).0) (Register (Pointer Frame (length bs) 0)) refl (old_value slots' stands there).1 in
        let hold : Holds (Target p f known l owner) (scope p f known l owner) slots'' to_name to_frame (Pointer Frame (length bs) 0) = local_holds p f known l owner slots'' there.0 (called_so to_name to_frame) there.1 (Pointer Frame (length bs) 0) at_slot in
        let gives = return_step (Target p f known l owner) w fn (code p f known l owner) (body p f known l owner) (driving pointer result frame) [] (is_code p f known l owner) j (scope p f known l owner) (piece_count p r l) tail slots'' made (ENamed to_name) line
        (Pointer Frame (length bs) 0) (Pointer Frame (length bs) 0) made (held (Target p f known l owner) (scope p f known l owner) slots'' made to_name to_frame (Pointer Frame (length bs) 0) hold) refl (free_all slots'' made after.registers) in
        walk_append (suc (suc (suc (length (saves_of p f known l owner m))))) 1 _ _ _
        (subst (λ left. Walk (Target p f known l owner) w.trace (suc (suc (suc (length (saves_of p f known l owner m))))) (at_line w fn below k left slots' (beside bs t)) (at_line w fn below j (AndStmt hands tail) slots'' made)) (sym first.is_rest) walk) gives
      where
        old_value : (slots' : List Slot) → LocalsStand p r l slots slots' lower → (there : StandsIn (called_so to_name to_frame) (piece_locals p r l)) → (v : Value) × (slice_get slots' there.0 ≡ Some (Register v))
        old_value slots' stands there = local_slot p f known l owner slots' stands.registers stands.number there.0 (called_so to_name to_frame) there.1
