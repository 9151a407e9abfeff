-- A call of a cps function: the piece makes the frame of the arrival, the first frame of the call over it, and gives this to the driver.
use Rattle.std.proofs.Common.{◌≡◌, ℕ, suc, ◌+◌, ◌<◌, ◌≤◌, ◌^◌, true, false, List, [], ◌∷◌, ◌++◌, map, length, slice_get, bytes_eq, Option, Some, None, refl, sym, ◌∙◌, ap, codes, arith}
use Rattle.cpc_base.specs.Bytes.{Text}
use Rattle.cpc_base.proofs.Lists.{length_of_map}
use Rattle.cpc_num.specs.declared.kinds.Fault.{Fault}
use Rattle.cpc_check_laws.specs.Sound.Typed.{AllGet}
use Rattle.cpc_tree.specs.Points.{Point, locals}
use Rattle.cpc_tree.specs.Primitives.{RtFrame}
use Rattle.cpc_tree.specs.Registers.{variables, as_variable}
use Rattle.cpc_tree.specs.Syntax.{TyStruct, NoTy, AndTy, ENamed, Exprs, NoExpr, AndExpr, Stmt, Stmts, AndStmt, Variable, Parameter, Function, Program}
use Rattle.cpc_tree.specs.Typing.{Scope, size, parameter_type, parameter_types}
use Rattle.cpc_store.specs.declared.values.Class.TheVariants.{Frame}
use Rattle.cpc_store.specs.Store.{Value, Unset, At as Pointer, Blocks, Store}
use Rattle.cpc_meaning.specs.Eval.{Slot, Register}
use Rattle.cpc_meaning.specs.Plain.{Frame as CallFrame}
use Rattle.cpc_meaning.specs.Start.{before_underscores}
use Rattle.cpc_meaning.specs.Threads.{shown_in}
use Rattle.cpc_convert_image_laws.specs.Held.{beside}
use Rattle.cpc_convert_image_laws.specs.Images.{Readings}
use Rattle.cpc_forms.specs.Flow.{Place, At}
use Rattle.cpc_forms.specs.Split.{Position}
use Rattle.cpc_chains_store_laws.specs.Chains.{frame_cells}
use Rattle.cpc_chains_store_laws.specs.Driver.{any_pointer, frame_tag, code_field, next_field, driving}
use Rattle.cpc_convert_flat_laws.specs.Flat.{before, LineAt}
use Rattle.cpc_convert_flat_laws.specs.Locals.{Holds}
use Rattle.cpc_chains_store_laws.specs.Frames.{Give, Giving, GivingFaults, asks_block, fills_call, frame_through, pointed_slots}
use Rattle.cpc_convert_flat_laws.specs.Walks.{World, Walk, FaultsAfter, at_line, running, frame_at}
use Rattle.cpc_convert_flat_laws.proofs.Boxes.{free_all}
use Rattle.cpc_convert_flat_laws.proofs.Fields.{held, named_pointer, cast_pointer}
use Rattle.cpc_chains_store_laws.proofs.Giving.{calls_frame}
use Rattle.cpc_chains_store_laws.proofs.Making.{holds_set, holds_new}
use Rattle.cpc_chains_store_laws.proofs.Pieces.{return_step}
use Rattle.cpc_convert_flat_laws.proofs.Rows.{before_append}
use Rattle.cpc_convert_flat_laws.proofs.Walks.{rise_append, walk_append}
use Rattle.cpc_convert_flat_laws.proofs.Structs.{type_of}
use Rattle.cpc_chains_event.specs.FlatLaws.{piece_count}
use Rattle.cpc_chains_event.specs.Lines.{gives_from, call_lines, all_do, frame_lines, hands_over, node_lines}
use Rattle.cpc_chains_event.specs.LocalLaws.{piece_locals}
use Rattle.cpc_convert_routines.specs.Named.{IsCps, IsOwner}
use Rattle.cpc_convert_routines.specs.Names.{piece_name, start_name, to_name, under_name}
use Rattle.cpc_chains_event.specs.Pieces.{called_so, to_frame}
use Rattle.cpc_convert_routines.specs.Routines.{Routine, routine_of, readings_of, passed}
use Rattle.cpc_convert_routines.specs.Nodes.{has_row}
use Rattle.cpc_chains_event.proofs.StructsThere.{start_there}
use Rattle.cpc_chains_event.proofs.BoxesThere.{structs_there}
use Rattle.cpc_lifted_laws.specs.Related.Bounds.{Bounds}
use Rattle.cpc_lifted_laws.proofs.Accepted.Pieces.{all_scalar}
use Rattle.cpc_chains_laws.proofs.Native.SpawnerCall.{passed_types}
use Rattle.cpc_lifted_laws.specs.Piece.Known.{CpsKnown}
use Rattle.cpc_chains_laws.specs.Piece.Rows.{RowAt, row_point}
use Rattle.cpc_chains_laws.specs.Piece.Stood.{NodeAt, LocalsStand}
use Rattle.cpc_chains_laws.proofs.Piece.Frames.{Target, code, body, scope, is_code, Word, word_set, with_frame}
use Rattle.cpc_chains_laws.proofs.Piece.Places.{Before}
use Rattle.cpc_chains_laws.proofs.Piece.Scopes.{meant, primitive_meant, local_slot}
use Rattle.cpc_chains_laws.proofs.Piece.Stubs.{to_word}
use Rattle.cpc_chains_laws.proofs.Piece.Words.{under_word}
use Rattle.cpc_chains_laws.proofs.Wait.Behind.{Behind}
use Rattle.cpc_chains_laws.proofs.Wait.Meant.{start_meant}
use Rattle.cpc_chains_laws.proofs.Wait.Preparing as P
use Rattle.cpc_chains_laws.proofs.Wait.Storing.{call_faults, past_call}

-- an argument is stored for each parameter
gives_number : (p : Program) (sc : Scope) (names : Readings) (k : ℕ) (ps : List Parameter) (more : List Variable) (es : Exprs) → AllGet p sc (map parameter_type ps) es → length (gives_from k (map as_variable ps ++ more) names es) ≡ length (map parameter_type ps)
gives_number p sc names k [] [] NoExpr h = refl
gives_number p sc names k [] (x ∷ more) NoExpr h = refl
gives_number p sc names k (x ∷ ps) more (AndExpr e es) h = ap suc (gives_number p sc names (suc k) ps more es h.1)
gives_number p sc names k [] more (AndExpr e es) h = absurd h
gives_number p sc names k (x ∷ ps) more NoExpr h = absurd h

-- as many as variables at most
fewer_parameters : (ps : List Parameter) (more : List Variable) → length (map parameter_type ps) ≤ length (map as_variable ps ++ more)
fewer_parameters [] more = omega arith
fewer_parameters (x ∷ ps) more = let h = fewer_parameters ps more in omega (arith, h)

module _ (p : Program) (fine : CallFrame Position → Option Value → Type 0) (given : Text → List Value → Type 0) (bounds : Bounds) (f : Function) (known : CpsKnown p f) (enough : 5 + length (variables f) ≤ bounds.onward) (begins : 0 < bounds.leads) (l : Place) (owner : IsOwner (routine_of p f) l)
    (shown : before_underscores (piece_name f.called l) ≡ shown_in p f.called) (lower pointer result frame : Value)
    (n : ℕ) (at : NodeAt p f l n) (has : has_row (routine_of p f).split n ≡ true) (row : RowAt p (routine_of p f) l n)
    (behind : Behind p f known l n at) (g : Function) (cps : IsCps p g) (few : length (variables g) ≤ 255) (es : Exprs) (gets : AllGet p at.node.scope (parameter_types g) es)
    (ju : ℕ) (under_is : slice_get (piece_locals p (routine_of p f) l) ju ≡ Some (called_so under_name to_frame)) (jt : ℕ) (to_is : slice_get (piece_locals p (routine_of p f) l) jt ≡ Some (called_so to_name to_frame))
    (lines : node_lines p (routine_of p f) at.node ≡ all_do (frame_lines (routine_of p f) under_name (At behind.back) ++ (call_lines g (readings_of (routine_of p f) at.node.scope) es ++ (hands_over to_name ∷ []))))
    (slots slots' : List Slot) (stands : LocalsStand p (routine_of p f) l slots slots' lower) where
  abbrev r : Routine
  r = routine_of p f

  abbrev q : Program
  q = Target p f known l owner

  abbrev pub start : Text
  start = start_name g.called

  abbrev pub gives : List Give
  gives = gives_from 0 (variables g) (readings_of r at.node.scope) es

  abbrev fills : List Stmt
  fills = fills_call (ENamed to_name) (frame_through to_name start) code_field next_field start (ENamed under_name) gives

  abbrev hands : Stmt
  hands = hands_over to_name

  abbrev left : Stmts
  left = P.left p fine given bounds f known enough begins l owner shown lower pointer result frame n at has row

  -- the first line that makes the frame of the call, and what is behind it
  abbrev second : Stmts
  second = AndStmt (asks_block to_name start) (before fills (AndStmt hands left))

  pub is_second : before (call_lines g (readings_of r at.node.scope) es ++ (hands ∷ [])) left ≡ second
  is_second = ap (AndStmt (asks_block to_name start)) (before_append fills (hands ∷ []) left)

  pub word : Word p f known l owner under_name to_frame ju
  word = under_word p f known l owner ju under_is

  abbrev more : List Stmt
  more = call_lines g (readings_of r at.node.scope) es ++ (hands ∷ [])

  abbrev j : ℕ
  j = P.frame_end p fine given bounds f known enough begins l owner shown lower pointer result frame n at has row behind under_name ju word more second is_second lines slots slots' stands

  abbrev pub first_steps : ℕ
  first_steps = P.frame_steps p fine given bounds f known enough begins l owner shown lower pointer result frame n at has row behind under_name ju word more second is_second lines slots slots' stands

  st : Before p f l j second
  st = P.frame_stands p fine given bounds f known enough begins l owner shown lower pointer result frame n at has row behind under_name ju word more second is_second lines slots slots' stands

  abbrev line : LineAt (code p f known l owner) (body p f known l owner) j (scope p f known l owner) (piece_count p r l) (asks_block to_name start) (before fills (AndStmt hands left))
  line = record { statement = asks_block to_name start; stands = st; is_bare = refl; is_line = refl }

  -- the two words stand in two slots
  apart : ¬ (jt ≡ ju)
  apart same =
      let one : Some (called_so to_name to_frame) ≡ Some (called_so under_name to_frame) = sym to_is ∙ (ap (slice_get (piece_locals p r l)) same ∙ under_is) in
      let is : to_name ≡ under_name = ap (λ (v : Variable). v.called) (let z : called_so to_name to_frame ≡ called_so under_name to_frame = cc in z) in
      let z : true ≡ false = ap (bytes_eq to_name) is in
      absurd (cc)

  counted : length gives ≡ length (parameter_types g)
  counted = gives_number p at.node.scope (readings_of r at.node.scope) 0 g.parameters (locals g.body) es gets

  is_size : size q (TyStruct start) ≡ Some (suc (suc (suc (length gives))))
  is_size =
      (start_there p known.names g cps).size
      ∙ ap (λ m. Some (suc (suc (suc m)))) (sym (length_of_map type_of (passed g)) ∙ (ap length (passed_types g (all_scalar p at.node.scope (parameter_types g) es gets)) ∙ sym counted))

  fewer : length gives ≤ length (variables g)
  fewer = let h = fewer_parameters g.parameters (locals g.body) in let c = counted in omega (arith, h, c)

  -- ---- over these blocks, with this store

  module _ (w : World) (bs : Blocks) (t : Store) where
    abbrev fn : Text
    fn = piece_name f.called l

    abbrev below : List (CallFrame Point)
    below = driving pointer result frame ∷ []

    -- the blocks with the frame of the arrival
    abbrev pub mid : Blocks
    mid = with_frame p f known l owner bs slots lower behind.back

    abbrev pub slots1 : List Slot
    slots1 = pointed_slots slots' ju (length bs)

    stands1 : LocalsStand p r l slots slots1 lower
    stands1 = P.frame_locals p fine given bounds f known enough begins l owner shown lower pointer result frame n at has row behind under_name ju word more second is_second lines slots slots' stands (length bs)

    -- the pointer to its frame, in the word for the frame below
    abbrev under1 : Holds q (scope p f known l owner) slots1 under_name to_frame (Pointer Frame (length bs) 0)
    under1 = record {
      slot = ju;
      is_local = (meant p f known l owner).meant q ju (called_so under_name to_frame) under_is;
      is_slot = P.frame_slot p fine given bounds f known enough begins l owner shown lower pointer result frame n at has row behind under_name ju word more second is_second lines slots slots' stands (length bs);
    }

    -- the word for the frame that is given
    old : (v : Value) × (slice_get slots1 jt ≡ Some (Register v))
    old = local_slot p f known l owner slots1 stands1.registers stands1.number jt (called_so to_name to_frame) to_is

    abbrev to1 : Holds q (scope p f known l owner) slots1 to_name to_frame old.0
    to1 = record { slot = jt; is_local = (meant p f known l owner).meant q jt (called_so to_name to_frame) to_is; is_slot = old.1 }

    -- the locals with the pointer to the frame of the call
    abbrev pub slots2 : List Slot
    slots2 = pointed_slots slots1 jt (length mid)

    pub stands2 : LocalsStand p r l slots slots2 lower
    stands2 = word_set p f known l owner to_name to_frame jt (to_word p f known l owner jt to_is) slots slots1 lower stands1 (Pointer Frame (length mid) 0)

    under2 : Holds q (scope p f known l owner) slots2 under_name to_frame (Pointer Frame (length bs) 0)
    under2 = holds_set q (scope p f known l owner) slots1 under_name to_frame (Pointer Frame (length bs) 0) jt (Register (Pointer Frame (length mid) 0)) under1 apart

    to2 : Holds q (scope p f known l owner) slots2 to_name to_frame (Pointer Frame (length mid) 0)
    to2 = holds_new q (scope p f known l owner) slots1 to_name to_frame old.0 (Pointer Frame (length mid) 0) to1

    small : suc (suc (suc (length gives))) < 2 ^ 63
    small = let h = fewer in omega (arith, h, few)

    -- the blocks with the frame of the call as well
    abbrev cells_of_call : List Value → List Value
    cells_of_call vs = frame_cells (record { piece = start; values = vs }) (Pointer Frame (length bs) 0) Unset

    abbrev pub all : List Value → Blocks
    all vs = mid ++ Some (cells_of_call vs) ∷ []

    -- the frame of the arrival is made
    prepared : Walk q w.trace first_steps (running w (beside bs t) (frame_at fn (row_point p r l n row) slots' ∷ below) None) (at_line w fn below j second slots1 (beside mid t))
    prepared = P.prepares p fine given bounds f known enough begins l owner shown lower pointer result frame n at has row behind under_name ju word more second is_second lines slots slots' stands w bs t

    abbrev jc : ℕ
    jc = suc (suc (suc j)) + length gives

    abbrev last : LineAt (code p f known l owner) (body p f known l owner) jc (scope p f known l owner) (piece_count p r l) hands left
    last = record {
      statement = hands;
      stands = past_call (code p f known l owner) (body p f known l owner) j (scope p f known l owner) (piece_count p r l) (AndStmt hands left) to_name start code_field next_field start (ENamed to_name) (frame_through to_name start) (ENamed under_name) gives line;
      is_bare = refl;
      is_line = refl;
    }

    -- all arguments are stored
    pub enters_walk : (vs : List Value) → Giving q (scope p f known l owner) slots2 start (beside mid t) 3 gives vs
        → Walk q w.trace (first_steps + ((3 + length gives) + 1)) (running w (beside bs t) (frame_at fn (row_point p r l n row) slots' ∷ below) None) (running w (beside (all vs) t) below (Some (Pointer Frame (length mid) 0)))
    enters_walk vs giving =
        let head = (structs_there p known.names).any g cps in
        let made = beside (all vs) t in
        let called = calls_frame q w fn (code p f known l owner) (body p f known l owner) below (is_code p f known l owner) j (scope p f known l owner) (piece_count p r l) (AndStmt hands left) slots1 (beside mid t) to_name start frame_tag code_field next_field start (ENamed to_name) (frame_through to_name start) (ENamed under_name) gives line
        (primitive_meant p f known l (codes "rt_frame") RtFrame refl refl) is_size small (TyStruct frame_tag) old.0 to1
        (λ u. named_pointer q (scope p f known l owner) slots2 u to_name frame_tag (length mid) to2) (λ u. cast_pointer q (scope p f known l owner) slots2 u to_name start (TyStruct frame_tag) (length mid) to2)
        any_pointer any_pointer (any_pointer ∷ []) (AndTy any_pointer NoTy) (start_meant p f known l owner g cps) (head.field 0 _ refl) any_pointer (Pointer Frame (length bs) 0) (Pointer Frame (length bs) 0) (head.field 1 _ refl)
        (λ u. held q (scope p f known l owner) slots2 u under_name to_frame (Pointer Frame (length bs) 0) under2) refl vs giving in
        let returns = return_step q w fn (code p f known l owner) (body p f known l owner) (driving pointer result frame) [] (is_code p f known l owner) jc (scope p f known l owner) (piece_count p r l) left slots2 made (ENamed to_name) last
        (Pointer Frame (length mid) 0) (Pointer Frame (length mid) 0) made (held q (scope p f known l owner) slots2 made to_name to_frame (Pointer Frame (length mid) 0) to2) refl (free_all slots2 made stands2.registers) in
        walk_append first_steps ((3 + length gives) + 1) _ _ _ prepared (walk_append (3 + length gives) 1 _ _ _ called returns)

    pub enters_few : first_steps + ((3 + length gives) + 1) ≤ 7 + (length (variables f) + length (variables g))
    enters_few =
        let a = P.frame_few p fine given bounds f known enough begins l owner shown lower pointer result frame n at has row behind under_name ju word more second is_second lines slots slots' stands in
        let b = fewer in
        omega (arith, a, b)

    -- or one faults
    pub enters_fault : (fault : Fault) → GivingFaults q (scope p f known l owner) slots2 start (beside mid t) fault 3 gives
        → (a : FaultsAfter q w.trace fn fault (running w (beside bs t) (frame_at fn (row_point p r l n row) slots' ∷ below) None)) × (a.steps ≤ 6 + (length (variables f) + length (variables g))) × (a.grown ≤ 6 + (length (variables f) + length (variables g)))
    enters_fault fault giving =
        let head = (structs_there p known.names).any g cps in
        let called = call_faults q w fn (code p f known l owner) (body p f known l owner) below (is_code p f known l owner) j (scope p f known l owner) (piece_count p r l) (AndStmt hands left) slots1 (beside mid t) to_name start frame_tag code_field next_field start (ENamed to_name) (frame_through to_name start) (ENamed under_name) gives line
        (primitive_meant p f known l (codes "rt_frame") RtFrame refl refl) is_size small (TyStruct frame_tag) old.0 to1
        (λ u. named_pointer q (scope p f known l owner) slots2 u to_name frame_tag (length mid) to2) (λ u. cast_pointer q (scope p f known l owner) slots2 u to_name start (TyStruct frame_tag) (length mid) to2)
        any_pointer any_pointer (any_pointer ∷ []) (AndTy any_pointer NoTy) (start_meant p f known l owner g cps) (head.field 0 _ refl) any_pointer (Pointer Frame (length bs) 0) (Pointer Frame (length bs) 0) (head.field 1 _ refl)
        (λ u. held q (scope p f known l owner) slots2 u under_name to_frame (Pointer Frame (length bs) 0) under2) refl fault giving in
        let a = P.frame_few p fine given bounds f known enough begins l owner shown lower pointer result frame n at has row behind under_name ju word more second is_second lines slots slots' stands in
        let b = fewer in
        let c = called.1 in
        (record { steps = first_steps + called.0.steps; grown = first_steps + called.0.grown; last = called.0.last; leads = rise_append first_steps called.0.steps first_steps called.0.grown _ _ _ prepared called.0.leads; faults = called.0.faults }, omega (arith, a, b, c), let d = called.2 in omega (arith, a, b, d))
