-- What a piece does where its function is left: it evaluates the value, gives back the boxes, writes the value to the frame below, and gives this to the driver.
use Rattle.cpc_base.specs.Bytes.{Text}
use Rattle.cpc_base.proofs.Lists.{length_of_map}
use Rattle.cpc_lifted_laws.specs.Accepted.Known.{Stays}
use Rattle.cpc_lifted_laws.specs.Accepted.Points.{UsedName}
use Rattle.cpc_convert_flat_laws.proofs.AtLine.{line_next, line_passed}
use Rattle.cpc_convert_flat_laws.proofs.Beside.{freed_beside}
use Rattle.cpc_convert_flat_laws.proofs.Boxes.{free_all}
use Rattle.cpc_convert_flat_laws.proofs.Fields.{held as read_held}
use Rattle.cpc_convert_flat_laws.proofs.Fits.{assigned_fits}
use Rattle.cpc_chains_store_laws.proofs.Patches.{patch_frame, patch_none}
use Rattle.cpc_chains_store_laws.proofs.Pieces.{return_step}
use Rattle.cpc_convert_flat_laws.proofs.Rows.{before_append}
use Rattle.cpc_convert_flat_laws.proofs.Scopes.{all_lines, past_lines}
use Rattle.cpc_meaning_laws.proofs.Cell.Going.{going_on_keeps}
use Rattle.cpc_convert_flat_laws.proofs.Walks.{stay, rise_cons, walk_append, walk_as, walk_cons, walk_one}
use Rattle.cpc_convert_flat_laws.specs.Boxes.{Unboxing, unboxes_one}
use Rattle.cpc_chains_store_laws.specs.Driver.{driving, patches}
use Rattle.cpc_meaning.specs.Eval.{Fits}
use Rattle.cpc_convert_flat_laws.specs.Flat.{LineAt, Stands, before, point_at}
use Rattle.cpc_convert_flat_laws.specs.Locals.{Holds, at as Here_at}
use Rattle.cpc_convert_flat_laws.specs.Walks.{FaultsAfter, Here, Walk, World, at_line, frame_at, running}
use Rattle.cpc_chains_event.proofs.BoxesThere.{structs_there}
use Rattle.cpc_chains_event.proofs.Locals.{counted}
use Rattle.cpc_chains_event.specs.FlatLaws.{piece_count}
use Rattle.cpc_chains_event.specs.Lines.{all_do, hands_over, node_lines, unbox_lines}
use Rattle.cpc_chains_event.specs.LocalLaws.{StandsIn, piece_locals}
use Rattle.cpc_convert_routines.specs.Named.{IsOwner}
use Rattle.cpc_convert_routines.specs.Names.{next_name, piece_name, result_name, value_tag}
use Rattle.cpc_chains_event.specs.Pieces.{below_if, called_so}
use Rattle.cpc_convert_routines.specs.Taken.{is_result}
use Rattle.cpc_convert_routines.specs.Routines.{Routine, local_of, readings_of, routine_of}
use Rattle.cpc_convert_routines.specs.Nodes.{has_row, rows_nodes}
use Rattle.cpc_chains_event.specs.Rows.{put_statement}
use Rattle.cpc_convert_image_laws.proofs.Live.{read_live}
use Rattle.cpc_convert_image_laws.proofs.Rows.{returns_by_value, stored_alike}
use Rattle.cpc_convert_image_laws.proofs.Slots.{got_set}
use Rattle.cpc_convert_image_laws.specs.Held.{BoxesLive, IsHeldSlot, IsHeldStore, beside}
use Rattle.cpc_convert_image_laws.specs.Images.{Readings, image}
use Rattle.cpc_convert_image_laws.specs.Relations.{BothFault, BothGive, Meets, Stored, StoredAct, Stuck}
use Rattle.cpc_convert_image_laws.specs.Stacks.{frame_of}
use Rattle.cpc_chains_laws.proofs.Related.Inside.{Breaks, GivesBack, GivesUp, ReturnsValue, Sticks}
use Rattle.cpc_chains_laws.proofs.Related.Relation.{Shared, world_of}
use Rattle.cpc_chains_laws.proofs.Related.Taking.{given_value, unset_given}
use Rattle.cpc_lifted_laws.specs.Related.Bounds.{Bounds}
use Rattle.cpc_lifted_laws.specs.Native.Instance.{StaysAs}
use Rattle.cpc_chains_laws.proofs.Piece.Acting.{found_known, kept_here, lines_are, source_act}
use Rattle.cpc_chains_laws.proofs.Piece.Environment.{InLocal, Used, names_mean}
use Rattle.cpc_chains_laws.proofs.Piece.Frames.{Target, body, code, is_code, puts_do, scope, word_set}
use Rattle.cpc_chains_laws.proofs.Piece.Onwards.{z}
use Rattle.cpc_chains_laws.proofs.Piece.Places.{FirstLine, first_line}
use Rattle.cpc_chains_laws.proofs.Piece.Rowed.{DoesHere, first_fault, first_step, row_puts, standing_piece, tail}
use Rattle.cpc_chains_laws.proofs.Piece.Scopes.{local_holds, local_slot, meant, next_holds, primitive_meant}
use Rattle.cpc_chains_laws.proofs.Piece.Uses.{IsKept, names_kept, use_kept}
use Rattle.cpc_chains_laws.proofs.Piece.Ways.{listed, owner_is}
use Rattle.cpc_chains_laws.proofs.Piece.Words.{result_word, value_word, any_has}
use Rattle.cpc_lifted_laws.specs.Piece.Known.{CpsKnown}
use Rattle.cpc_chains_laws.specs.Piece.Known.{ProgramKnown}
use Rattle.cpc_chains_laws.specs.Piece.Rows.{RowAt, next_number, put_row, row_index}
use Rattle.cpc_chains_laws.specs.Piece.Stood.{LocalsStand, NodeAt}
use Rattle.cpc_chains_laws.proofs.Return.Boxes.{unboxing}
use Rattle.cpc_lifted_laws.proofs.Return.Unboxed.{Comes, first_come, none_freed, unboxes_come}
use Rattle.cpc_chains_laws.specs.Return.Kept.{KeepsBoxes}
use Rattle.cpc_forms.specs.Flow.{Place}
use Rattle.cpc_forms.specs.Split.{InGraph, Position, split_form}
use Rattle.cpc_lift_laws.specs.Boxes.{is_box}
use Rattle.cpc_lift_laws.specs.Lift.{boxes_from}
use Rattle.cpc_lift_laws.specs.Used.{is_left}
use Rattle.cpc_meaning.specs.Act.{Act, AtEnd, AtStatement, GoesOn, Leaves, Stood, act, leaves, returns, simple_act}
use Rattle.cpc_meaning.specs.Agenda.{Agenda}
use Rattle.cpc_meaning.specs.Answer.{Answer, Faults, Gives, NoAnswer, ◌>>=◌}
use Rattle.cpc_meaning.specs.Eval.{Context, Register, Slot, assigned, value}
use Rattle.cpc_meaning.specs.Events.{Callback}
use Rattle.cpc_meaning.specs.Plain.{Frame as CallFrame, context}
use Rattle.cpc_meaning.specs.Slots.{free_slots}
use Rattle.cpc_meaning.specs.Start.{before_underscores}
use Rattle.cpc_meaning.specs.Threads.{shown_in}
use Rattle.cpc_meaning.specs.Ways.{InPlace}
use Rattle.cpc_store.specs.Store.{Blocks, Store, Unset, Value}
use Rattle.cpc_tree.specs.Points.{Point, Simple}
use Rattle.cpc_tree.specs.Primitives.{RtUnbox}
use Rattle.cpc_tree.specs.Registers.{variables}
use Rattle.cpc_tree.specs.Syntax.{AndStmt, Assign, ENamed, Expr, Function, Program, Return, Stmt, Stmts, Ty, TyPointer, TyStruct}
use Rattle.cpc_tree.specs.Typing.{NotMeant, is_scalar, named}
use Rattle.std.proofs.Common.{Bool, List, None, Option, Some, [], ap, arith, codes, cond, false, length, map, refl, slice_get, slice_set, subst, suc, sym, true, zero, ℕ, ◌*◌, ◌++◌, ◌+◌, ◌<◌, ◌∙◌, ◌∷◌, ◌≡◌, ◌≤◌}
use Rattle.std.specs.List.{All}

-- there are no more boxes than variables
few_from : (p : Program) (f : Text) (k n : ℕ) → length (boxes_from p f k n) ≤ n
few_from p f k zero = omega arith
few_from p f k (suc n) = go (is_box p f k) (few_from p f (suc k) n)
  where
    go : (b : Bool) → length (boxes_from p f (suc k) n) ≤ n → length (cond b (k ∷ boxes_from p f (suc k) n) (boxes_from p f (suc k) n)) ≤ suc n
    go true h = omega (arith, h)
    go false h = omega (arith, h)

few_boxes : (p : Program) (f : Function) → CpsKnown p f → length (routine_of p f).boxes ≤ length (variables f)
few_boxes p f known = subst (λ n. length (boxes_from p f.called 0 n) ≤ length (variables f)) (sym (counted p known.names f known.found.cps)) (few_from p f.called 0 (length (variables f)))

-- the statements that give back boxes, by the names of their locals
same_lines : (r : Routine) (ks : List ℕ) → map (λ k. unboxes_one (local_of r k).called) ks ≡ map unboxes_one (map (λ k. (local_of r k).called) ks)
same_lines r [] = refl
same_lines r (k ∷ ks) = ap (λ ss. unboxes_one (local_of r k).called ∷ ss) (same_lines r ks)

-- they are lines
unboxes_lines : (ys : List Text) → all_lines (map unboxes_one ys) ≡ true
unboxes_lines [] = refl
unboxes_lines (y ∷ ys) = unboxes_lines ys

module _ (p : Program) (fine : CallFrame Position → Option Value → Type 0) (given : Text → List Value → Type 0) (bounds : Bounds) (f : Function) (known : CpsKnown p f) (enough : 5 + length (variables f) ≤ bounds.onward) (begins : 0 < bounds.leads) (l : Place) (owner : IsOwner (routine_of p f) l)
    (shown : before_underscores (piece_name f.called l) ≡ shown_in p f.called) (lower pointer result frame : Value)
    (n : ℕ) (at : NodeAt p f l n) (has : has_row (routine_of p f).split n ≡ true) (row : RowAt p (routine_of p f) l n)
    (w : Shared) (bs : Blocks) (c : Agenda Callback) (slots slots' : List Slot) (stands : LocalsStand p (routine_of p f) l slots slots' lower) (o : Option Value)
    (wide : 16 + 3 * length (variables f) ≤ bounds.leads) (boxes : KeepsBoxes p f l slots) (left : is_left at.node.stood ≡ true) where
  abbrev r : Routine
  r = routine_of p f

  abbrev k : ℕ
  k = row_index p r l n row

  abbrev q : Program
  q = Target p f known l owner

  abbrev names : List Text
  names = map (λ k. (local_of r k).called) r.boxes

  few : length names ≤ length (variables f)
  few = let one = few_boxes p f known in let same = length_of_map (λ k. (local_of r k).called) r.boxes in omega (arith, one, same)

  abbrev hands : Stmt
  hands = hands_over next_name

  abbrev behind : Stmts
  behind = tail p fine given bounds f known enough begins l owner shown lower pointer result frame n at has row

  abbrev world : World
  world = world_of w c

  abbrev below : List (CallFrame Point)
  below = driving pointer result frame ∷ []

  -- where the piece stands
  abbrev inside : Here
  inside = running world (beside bs w.store) (standing_piece p fine given bounds f known enough begins l owner shown lower pointer result frame n at has row slots' ∷ below) None

  -- the statements of its row
  row_statements_are : (ss : List Stmt) → node_lines p r at.node ≡ all_do ss → map put_statement (put_row p r l n row.back).puts ≡ ss
  row_statements_are ss e =
      ap (map put_statement) (row_puts p fine given bounds f known enough begins l owner shown lower pointer result frame n at has row (all_do ss) e) ∙ puts_do (next_number row.back) ss

  -- it comes to its last line, with these frame blocks and this store
  record Handing (slots'' : List Slot) (cs : Blocks) (t : Store) : Type 0 where
    number : ℕ
    line : LineAt (code p f known l owner) (body p f known l owner) number (scope p f known l owner) (piece_count p r l) hands behind
    steps : ℕ
    within : steps ≤ 3 + length (variables f)
    leads : Walk q w.trace steps inside (at_line world (piece_name f.called l) below number (AndStmt line.statement behind) slots'' (beside cs t))

  abbrev Returned : Blocks → Store → Type 0
  Returned cs t = GivesBack (z p fine given bounds) bounds f.called l lower pointer result frame w bs c n slots o (standing_piece p fine given bounds f known enough begins l owner shown lower pointer result frame n at has row slots') None cs t

  -- and gives the frame below to the driver
  gives_back : (slots'' : List Slot) → LocalsStand p r l slots slots'' lower → (cs : Blocks) (t : Store) → Handing slots'' cs t → Returned cs t
  gives_back slots'' after cs t h = record {
    steps = h.steps;
    within = let less = h.within in omega (arith, less, wide);
    leads = walk_as (h.steps + 1) (suc h.steps) _ _ (let y : h.steps + 1 ≡ suc h.steps = omega arith in y)
        (walk_append h.steps 1 _ _ _ h.leads
        (return_step q world (piece_name f.called l) (code p f known l owner) (body p f known l owner) (driving pointer result frame) [] (is_code p f known l owner) h.number (scope p f known l owner) (piece_count p r l) behind slots'' (beside cs t) (ENamed next_name) h.line lower lower (beside cs t)
        (read_held q (scope p f known l owner) slots'' (beside cs t) next_name (below_if (is_scalar f.result) f.called) lower (next_holds p f known l owner slots slots'' lower after)) after.pointer (free_all slots'' (beside cs t) after.registers)));
  }

  -- what it does before its last line or its patch, by what freeing the source's slots answers
  abbrev ByFreed : (Store → Type 0) → Answer Store → Type 0
  ByFreed Then (Gives t) = Then t
  ByFreed Then (Faults fault) = (a : FaultsAfter q w.trace (piece_name f.called l) fault inside) × (a.steps < bounds.leads) × (a.grown ≤ bounds.leads)
  ByFreed Then NoAnswer = Unit {0}

  abbrev Doing : Answer Act → Type 0
  Doing u = DoesHere p fine given bounds f known enough begins l owner shown lower pointer result frame n at has row w bs c slots slots' o u

  abbrev Returns : Value → Store → Type 0
  Returns v t = ReturnsValue (z p fine given bounds) bounds f.called l lower pointer result frame w bs c n slots o (standing_piece p fine given bounds f known enough begins l owner shown lower pointer result frame n at has row slots') None v t

  -- the function is left with this value
  does_leave : (v : Value) (a : Answer Store) → ByFreed (Returns v) a → Doing (a >>= λ t. Gives (Leaves v t))
  does_leave v (Gives t) h = GivesUp v t h
  does_leave v (Faults fault) h = Breaks fault (piece_name f.called l) shown h.0 h.1 h.2
  does_leave v NoAnswer h = Sticks

  -- ---- boxes

  abbrev name : Text
  name = piece_name f.called l

  unbox_meant : named q (scope p f known l owner) (codes "rt_unbox") ≡ NotMeant
  unbox_meant = primitive_meant p f known l (codes "rt_unbox") RtUnbox refl refl

  -- what giving back the boxes comes to, from this statement on
  abbrev Steps : (number : ℕ) (slots'' : List Slot) (m : ℕ) (rest : Stmts) (from : Here) → Answer Store → Type 0
  Steps number slots'' m rest from a = Comes q world name (code p f known l owner) (body p f known l owner) below (is_code p f known l owner) (scope p f known l owner) (piece_count p r l) slots'' unbox_meant number m rest from a

  -- the boxes are freed alike beside the frames
  freed : free_slots slots (beside bs w.store) ≡ (free_slots slots w.store >>= λ t. Gives (beside bs t))
  freed = freed_beside bs slots w.store

  abbrev Left : ℕ → Stmts → Type 0
  Left number left = Stands (code p f known l owner) (body p f known l owner) number (scope p f known l owner) (piece_count p r l) left

  -- ---- without a value

  module _ (lines : node_lines p r at.node ≡ all_do (unbox_lines r ++ hands ∷ [])) where
    statements : map put_statement (put_row p r l n row.back).puts ≡ map unboxes_one names ++ hands ∷ []
    statements = row_statements_are (unbox_lines r ++ hands ∷ []) lines ∙ ap (λ ss. ss ++ hands ∷ []) (same_lines r r.boxes)

    no_boxes : names ≡ [] → ByFreed (Handing slots' bs) (free_slots slots w.store)
    no_boxes none =
        let first = first_line p f l n row hands [] behind (statements ∙ ap (λ ys. map unboxes_one ys ++ hands ∷ []) none) refl refl refl in
        subst (ByFreed (Handing slots' bs)) (sym (none_freed q (scope p f known l owner) slots' slots w.store (subst (Unboxing q (scope p f known l owner) slots' slots) none (unboxing p f known l owner n at slots slots' lower stands boxes left))))
        (record {
          number = k;
          line = first.line;
          steps = 0;
          within = omega arith;
          leads = subst (λ left. Walk q w.trace 0 (running world (beside bs w.store) (frame_at name (point_at k left) slots' ∷ below) None) (at_line world name below k (AndStmt first.line.statement behind) slots' (beside bs w.store))) (sym first.is_rest) (stay _);
        })

    handed : (m : ℕ) → m ≤ length (variables f) → Left (k + m) (AndStmt hands behind) → (a : Answer Store) → Steps k slots' m (AndStmt hands behind) inside (a >>= λ t. Gives (beside bs t)) → ByFreed (Handing slots' bs) a
    handed m less st (Gives t) come = record { number = k + m; line = record { statement = hands; stands = st; is_bare = refl; is_line = refl }; steps = m; within = omega (arith, less); leads = come }
    handed m less st (Faults fault) come = (come.0, let one = come.1 in omega (arith, one, less, wide), let low = come.2 in omega (arith, low, less, wide))
    handed m less st NoAnswer come = tt

    some_boxes : (y : Text) (ys : List Text) → names ≡ y ∷ ys → ByFreed (Handing slots' bs) (free_slots slots w.store)
    some_boxes y ys are =
        let left_behind = before (map unboxes_one ys) (AndStmt hands behind) in
        let first = first_line p f l n row (unboxes_one y) (map unboxes_one ys ++ hands ∷ []) left_behind (statements ∙ ap (λ ys. map unboxes_one ys ++ hands ∷ []) are) (before_append (map unboxes_one ys) (hands ∷ []) behind) refl refl in
        let come = first_come q world name (code p f known l owner) (body p f known l owner) below (is_code p f known l owner) (scope p f known l owner) (piece_count p r l) slots' unbox_meant k slots y ys (AndStmt hands behind) (beside bs w.store)
        (subst (Unboxing q (scope p f known l owner) slots' slots) are (unboxing p f known l owner n at slots slots' lower stands boxes left)) first.line in
        let passed = past_lines (code p f known l owner) (body p f known l owner) (suc k) (scope p f known l owner) (piece_count p r l) (map unboxes_one ys) (AndStmt hands behind) (unboxes_lines ys)
        (line_passed (code p f known l owner) (body p f known l owner) k (scope p f known l owner) (piece_count p r l) (unboxes_one y) left_behind first.line) in
        let counted_names : length names ≡ suc (length ys) = ap length are in
        let counted_lines = length_of_map unboxes_one ys in
        handed (suc (length ys)) (let z : suc (length ys) ≤ length (variables f) = omega (arith, few, counted_names) in z) (subst (λ j. Left j (AndStmt hands behind)) (let z : suc k + length (map unboxes_one ys) ≡ k + suc (length ys) = omega (arith, counted_lines) in z) passed) (free_slots slots w.store)
        (subst (Steps k slots' (suc (length ys)) (AndStmt hands behind) inside) freed
        (subst (λ rest. Steps k slots' (suc (length ys)) (AndStmt hands behind) (running world (beside bs w.store) (frame_at name (point_at k rest) slots' ∷ below) None) (free_slots slots (beside bs w.store))) (sym first.is_rest) come))

    by_names : (ys : List Text) → names ≡ ys → ByFreed (Handing slots' bs) (free_slots slots w.store)
    by_names [] are = no_boxes are
    by_names (y ∷ ys) are = some_boxes y ys are

    -- nothing is written to the frame below, whose value is unset already
    nothing_returned : (a : Answer Store) → ByFreed (Handing slots' bs) a → ByFreed (Returns Unset) a
    nothing_returned (Gives t) h =
        let back = gives_back slots' stands bs t h in
        record { ends = λ is. back; goes = λ s ss b below' owned is top. subst (λ cs. Returned cs t) (sym (unset_given bs s ss b below' owned top)) back }
    nothing_returned (Faults fault) h = h
    nothing_returned NoAnswer h = h

    leaves_unset : Doing (free_slots slots w.store >>= λ t. Gives (Leaves Unset t))
    leaves_unset = does_leave Unset (free_slots slots w.store) (nothing_returned (free_slots slots w.store) (by_names names refl))

  -- ---- with a value

  module _ (facts : ProgramKnown p) (store : IsHeldStore (Stays p) w.store) (held : All (IsHeldSlot (Stays p)) slots) (live : BoxesLive w.store slots)
      (e : Expr) (stood : at.node.stood ≡ AtStatement (Simple (Return (Some e)))) (manner : at.node.manner ≡ InPlace) where
    abbrev rd : Readings
    rd = readings_of r at.node.scope

    abbrev x : Stmt
    x = Assign (ENamed result_name) None (image rd e)

    abbrev patch : Stmt
    patch = patches next_name (ENamed result_name)

    is_scalar_result : is_scalar f.result ≡ true
    is_scalar_result = known.results l (any_has r (λ node. is_result node.stood) (rows_nodes r.split l) n at.node at.is_node (listed p f l n (owner_is p f l n at) has) (ap is_result stood))

    word : StandsIn (called_so result_name f.result) (piece_locals p r l)
    word = value_word p f known l owner n at has (ap is_result stood)

    old : (v : Value) × (slice_get slots' word.0 ≡ Some (Register v))
    old = local_slot p f known l owner slots' stands.registers stands.number word.0 (called_so result_name f.result) word.1

    -- the locals with the value in its word
    abbrev with_value : Value → List Slot
    with_value v = slice_set slots' word.0 (Register v)

    after : (v : Value) → LocalsStand p r l slots (with_value v) lower
    after v = word_set p f known l owner result_name f.result word.0 (result_word p f known l owner word.0 word.1) slots slots' lower stands v

    result_holds : (v : Value) → Holds q (scope p f known l owner) (with_value v) result_name f.result v
    result_holds v = local_holds p f known l owner (with_value v) word.0 (called_so result_name f.result) word.1 v (got_set slots' word.0 word.0 (Register old.0) (Register v) refl old.1)

    abbrev left_behind : Stmts
    left_behind = before (map unboxes_one names) (AndStmt patch (AndStmt hands behind))

    first : FirstLine p f l n row x (map unboxes_one names ++ patch ∷ hands ∷ []) left_behind
    first =
        first_line p f l n row x (map unboxes_one names ++ patch ∷ hands ∷ []) left_behind
        (row_statements_are (x ∷ (unbox_lines r ++ patch ∷ hands ∷ [])) (lines_are p facts f known l owner n at slots slots' lower stands InPlace (AtStatement (Simple (Return (Some e)))) manner stood) ∙ ap (λ ss. x ∷ (ss ++ patch ∷ hands ∷ [])) (same_lines r r.boxes))
        (before_append (map unboxes_one names) (patch ∷ hands ∷ []) behind) refl refl

    -- behind the first line
    abbrev behind_first : Value → Here
    behind_first v = at_line world name below (suc k) left_behind (with_value v) (beside bs w.store)

    -- it comes to its patch
    record Patching (v : Value) (t : Store) : Type 0 where
      number : ℕ
      line : LineAt (code p f known l owner) (body p f known l owner) number (scope p f known l owner) (piece_count p r l) patch (AndStmt hands behind)
      steps : ℕ
      within : steps ≤ 1 + length (variables f)
      leads : Walk q w.trace steps inside (at_line world name below number (AndStmt line.statement (AndStmt hands behind)) (with_value v) (beside bs t))

    -- the line behind the patch
    abbrev behind_patch : (number : ℕ) → LineAt (code p f known l owner) (body p f known l owner) number (scope p f known l owner) (piece_count p r l) patch (AndStmt hands behind) → LineAt (code p f known l owner) (body p f known l owner) (suc number) (scope p f known l owner) (piece_count p r l) hands behind
    behind_patch number line = record { statement = hands; stands = line_passed (code p f known l owner) (body p f known l owner) number (scope p f known l owner) (piece_count p r l) patch (AndStmt hands behind) line; is_bare = refl; is_line = refl }

    next_there : (v : Value) → Holds q (scope p f known l owner) (with_value v) next_name (TyPointer (TyStruct (value_tag f.called))) lower
    next_there v = subst (λ b. Holds q (scope p f known l owner) (with_value v) next_name (below_if b f.called) lower) is_scalar_result (next_holds p f known l owner slots (with_value v) lower (after v))

    returns_value : (v : Value) (t : Store) → Fits f.result v → Patching v t → Returns v t
    returns_value v t fits h = record {
      ends = λ is. gives_back (with_value v) (after v) bs t (record {
        number = suc h.number;
        line = behind_patch h.number h.line;
        steps = h.steps + 1;
        within = let less = h.within in omega (arith, less);
        leads = walk_append h.steps 1 _ _ _ h.leads
            (patch_none q world name (code p f known l owner) (body p f known l owner) below (is_code p f known l owner) h.number (scope p f known l owner) (piece_count p r l) (AndStmt hands behind) (with_value v) (beside bs t) next_name (ENamed result_name) h.line (TyPointer (TyStruct (value_tag f.called)))
            (subst (Holds q (scope p f known l owner) (with_value v) next_name (TyPointer (TyStruct (value_tag f.called)))) is (next_there v)));
      });
      goes = λ s ss b below' owned is top. gives_back (with_value v) (after v) (given_value bs b s below' v) t (record {
        number = suc h.number;
        line = behind_patch h.number h.line;
        steps = h.steps + 2;
        within = let less = h.within in omega (arith, less);
        leads = walk_append h.steps 2 _ _ _ h.leads
            (patch_frame q world name (code p f known l owner) (body p f known l owner) below (is_code p f known l owner) h.number (scope p f known l owner) (piece_count p r l) (AndStmt hands behind) (with_value v) (beside bs t) next_name (value_tag f.called) (ENamed result_name) h.line f.result b
            (subst (Holds q (scope p f known l owner) (with_value v) next_name (TyPointer (TyStruct (value_tag f.called)))) is (next_there v)) ((structs_there p known.names).value f known.found.cps is_scalar_result) s ss below' Unset owned top v v
            (read_held q (scope p f known l owner) (with_value v) (beside bs t) result_name f.result v (result_holds v)) fits);
      });
    }

    -- behind the boxes
    come_to_patch : (v : Value) → Walk q w.trace 1 inside (behind_first v) → Left (suc k + length names) (AndStmt patch (AndStmt hands behind)) → (a : Answer Store) → Steps (suc k) (with_value v) (length names) (AndStmt patch (AndStmt hands behind)) (behind_first v) (a >>= λ t. Gives (beside bs t))
        → ByFreed (Patching v) a
    come_to_patch v one st (Gives t) come = record {
      number = suc k + length names;
      line = record { statement = patch; stands = st; is_bare = refl; is_line = refl };
      steps = suc (length names);
      within = omega (arith, few);
      leads = walk_cons (length names) _ _ _ one come;
    }
    come_to_patch v one st (Faults fault) come =
        (record { steps = suc come.0.steps; grown = 1 + come.0.grown; last = come.0.last; leads = rise_cons come.0.steps 1 come.0.grown _ _ _ one come.0.leads; faults = come.0.faults }, let less = come.1 in omega (arith, less, few, wide), let low = come.2 in omega (arith, low, few, wide))
    come_to_patch v one st NoAnswer come = tt

    value_returned : (v : Value) → Fits f.result v → (a : Answer Store) → ByFreed (Patching v) a → ByFreed (Returns v) a
    value_returned v fits (Gives t) h = returns_value v t fits h
    value_returned v fits (Faults fault) h = h
    value_returned v fits NoAnswer h = h

    abbrev acts : Answer Act
    acts = simple_act (Here_at q (scope p f known l owner) slots' (beside bs w.store)) (code p f known l owner).result x

    first_walk : (v : Value) → acts ≡ Gives (GoesOn true (beside bs w.store) (with_value v)) → Walk q w.trace 1 inside (behind_first v)
    first_walk v is_act =
        let keeps = going_on_keeps (Here_at q (scope p f known l owner) slots' (beside bs w.store)) (code p f known l owner).result None (AtStatement (Simple x)) true (beside bs w.store) (with_value v) is_act in
        walk_one _ _
        (first_step p fine given bounds f known enough begins l owner shown lower pointer result frame n at has row x (map unboxes_one names ++ patch ∷ hands ∷ []) left_behind first world slots' (beside bs w.store) (Simple x) refl true (beside bs w.store) (with_value v) (point_at (suc k) left_behind) is_act
        (line_next (code p f known l owner) (body p f known l owner) k (scope p f known l owner) (piece_count p r l) x left_behind first.line true refl refl))
        (record { is_trace = refl; goes = refl; runs = refl })
        (let a = keeps.1 in omega (arith, a))

    after_value : (v : Value) → Fits f.result v → acts ≡ Gives (GoesOn true (beside bs w.store) (with_value v)) → Doing (free_slots slots w.store >>= λ t. Gives (Leaves v t))
    after_value v fits is_act =
        let st = line_passed (code p f known l owner) (body p f known l owner) k (scope p f known l owner) (piece_count p r l) x left_behind first.line in
        let passed = past_lines (code p f known l owner) (body p f known l owner) (suc k) (scope p f known l owner) (piece_count p r l) (map unboxes_one names) (AndStmt patch (AndStmt hands behind)) (unboxes_lines names) st in
        let counted_lines = length_of_map unboxes_one names in
        let come = unboxes_come q world name (code p f known l owner) (body p f known l owner) below (is_code p f known l owner) (scope p f known l owner) (piece_count p r l) (with_value v) unbox_meant (suc k) slots names (AndStmt patch (AndStmt hands behind)) (beside bs w.store)
        (unboxing p f known l owner n at slots (with_value v) lower (after v) boxes left) st in
        does_leave v (free_slots slots w.store)
        (value_returned v fits (free_slots slots w.store)
        (come_to_patch v (first_walk v is_act) (subst (λ j. Left j (AndStmt patch (AndStmt hands behind))) (let z : suc k + length (map unboxes_one names) ≡ suc k + length names = omega (arith, counted_lines) in z) passed) (free_slots slots w.store)
        (subst (Steps (suc k) (with_value v) (length names) (AndStmt patch (AndStmt hands behind)) (behind_first v)) freed come)))

    abbrev ctx : Context
    ctx = Here_at p at.node.scope slots w.store

    -- what was converted fits
    fits_after : (a : Answer Value) (v : Value) → (a >>= assigned f.result) ≡ Gives v → Fits f.result v
    fits_after (Gives u) v i = assigned_fits f.result u v i
    fits_after (Faults fault) v i = absurd (cc)
    fits_after NoAnswer v i = absurd (cc)

    by_value : (u : Answer Value) (u' : Answer Act) → (value ctx e >>= assigned f.result) ≡ u → Meets (StoredAct (Stays p) w.store bs slots' word.0) u u' → acts ≡ u' → Doing (u >>= leaves ctx)
    by_value _ _ i (BothGive v _ (Stored _ h)) j = after_value v (fits_after (value ctx e) v i) j
    by_value _ _ i (BothFault fault) j =
        Breaks fault name shown
        (record { steps = 0; grown = 0; last = inside; leads = stay inside; faults = first_fault p fine given bounds f known enough begins l owner shown lower pointer result frame n at has row x (map unboxes_one names ++ patch ∷ hands ∷ []) left_behind first world slots' (beside bs w.store) (Simple x) refl fault j }) begins (omega arith)
    by_value _ _ i (Stuck b) j = Sticks

    abbrev Names : Text → Type 0
    Names = Used p f known l owner n at slots slots' lower stands

    stored : Meets (StoredAct (Stays p) w.store bs slots' word.0) (value ctx e >>= assigned f.result) acts
    stored =
        let known_here = found_known p facts f known l owner n at slots slots' lower stands (Simple (Return (Some e))) stood in
        let kept = kept_here p facts f known l owner n at slots slots' lower stands (AtStatement (Simple (Return (Some e)))) stood in
        stored_alike (Stays p) (StaysAs p) (InLocal p f known l owner) p q facts.common Names rd at.node.scope (scope p f known l owner) slots slots' (names_mean p f known l owner n at slots slots' lower stands) w.store store held (λ y. read_live w.store slots (rd y) live) bs
        f.result e result_name word.0 old.0 ((meant p f known l owner).meant q word.0 (called_so result_name f.result) word.1) old.1
        (names_kept (UsedName p at.node.scope) Names at.node.scope (IsKept p f known l owner n at slots slots' lower stands) (use_kept p f known l owner n at slots slots' lower stands) e (known_here.names tt) kept)

    leaves_value : Doing (returns ctx f.result (Some e))
    leaves_value = subst Doing (sym (returns_by_value ctx f.result e)) (by_value (value ctx e >>= assigned f.result) acts refl stored refl)

-- ---- by what stands there

module _ (p : Program) (facts : ProgramKnown p) (fine : CallFrame Position → Option Value → Type 0) (given : Text → List Value → Type 0) (bounds : Bounds) (f : Function) (known : CpsKnown p f) (enough : 5 + length (variables f) ≤ bounds.onward) (begins : 0 < bounds.leads) (l : Place) (owner : IsOwner (routine_of p f) l)
    (shown : before_underscores (piece_name f.called l) ≡ shown_in p f.called) (lower pointer result frame : Value)
    (n : ℕ) (at : NodeAt p f l n) (has : has_row (routine_of p f).split n ≡ true) (row : RowAt p (routine_of p f) l n)
    (w : Shared) (bs : Blocks) (c : Agenda Callback) (slots slots' : List Slot) (stands : LocalsStand p (routine_of p f) l slots slots' lower) (o : Option Value)
    (store : IsHeldStore (Stays p) w.store) (held : All (IsHeldSlot (Stays p)) slots) (live : BoxesLive w.store slots)
    (wide : 16 + 3 * length (variables f) ≤ bounds.leads) (boxes : KeepsBoxes p f l slots) where
  -- the piece does what the source does, in a function with this result
  abbrev pub There : Ty → Type 0
  There result' = DoesHere p fine given bounds f known enough begins l owner shown lower pointer result frame n at has row w bs c slots slots' o (act (context (split_form p) w.store (frame_of f.called (InGraph l n) slots)) result' o ((split_form p).code.stood f.called (InGraph l n)))

  abbrev here : Context
  here = Here_at p at.node.scope slots w.store

  -- what it does by what stands there
  there : (result' : Ty) (s : Stood) → at.node.stood ≡ s → DoesHere p fine given bounds f known enough begins l owner shown lower pointer result frame n at has row w bs c slots slots' o (act here result' o s) → There result'
  there result' s stood d = subst (DoesHere p fine given bounds f known enough begins l owner shown lower pointer result frame n at has row w bs c slots slots' o) (sym (source_act p facts f known l owner n at slots slots' lower stands w result' o s stood)) d

  -- the end of the body
  pub ends_there : at.node.stood ≡ AtEnd → (result' : Ty) → There result'
  ends_there stood result' =
      there result' AtEnd stood
      (leaves_unset p fine given bounds f known enough begins l owner shown lower pointer result frame n at has row w bs c slots slots' stands o wide boxes (ap is_left stood)
      (lines_are p facts f known l owner n at slots slots' lower stands at.node.manner AtEnd refl stood))

  -- a return
  pub returns_there : (v : Option Expr) → at.node.manner ≡ InPlace → at.node.stood ≡ AtStatement (Simple (Return v)) → There f.result
  returns_there None manner stood =
      there f.result (AtStatement (Simple (Return None))) stood
      (leaves_unset p fine given bounds f known enough begins l owner shown lower pointer result frame n at has row w bs c slots slots' stands o wide boxes (ap is_left stood)
      (lines_are p facts f known l owner n at slots slots' lower stands InPlace (AtStatement (Simple (Return None))) manner stood))
  returns_there (Some e) manner stood =
      there f.result (AtStatement (Simple (Return (Some e)))) stood
      (leaves_value p fine given bounds f known enough begins l owner shown lower pointer result frame n at has row w bs c slots slots' stands o wide boxes (ap is_left stood) facts store held live e stood manner)
