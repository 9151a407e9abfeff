-- What is made of a cps function can be printed: its spawner, its pieces, and the structs of its frames and boxes.
use Rattle.std.proofs.Common.{◌≡◌, ℕ, zero, suc, ◌+◌, ◌≤◌, ◌<◌, ◌^◌, Bool, true, false, ◌&&◌, if◌then◌else◌, List, [], ◌∷◌, ◌++◌, map, length, slice_get, pos, codes, Option, Some, None, refl, arith}
use Rattle.cpc_base.specs.Bytes.{Text}
use Rattle.cpc_base.specs.declared.stop.Dialect.TheVariants as D
use Rattle.cpc_num.specs.declared.kinds.Kind.TheVariants.{Int}
use Rattle.cpc_tree.specs.Spelling.{IsName}
use Rattle.cpc_tree.specs.Points.{Found, Simple, Test, Nothing}
use Rattle.cpc_tree.specs.Registers.{variables}
use Rattle.cpc_tree.specs.Syntax.{TyVoid, TyInt, TyPointer, TyStruct, ENamed, EInteger, ESizeOf, EArrow, NoExpr, AndExpr, Stmt, Declare, Call, NoStmt, Variable, Function, Program}
use Rattle.cpc_tree.specs.Typing.{is_scalar, function_named}
use Rattle.cpc_tree.specs.TypePrint.{base_row}
use Rattle.cpc_convert_common.specs.Converted.{spawner_name}
use Rattle.cpc_convert_common.specs.Members.{Has, OnTop, Below}
use Rattle.cpc_meaning.specs.Act.{Stood, AtStatement, AtArrival, AtEnd}
use Rattle.cpc_meaning.specs.Ways.{Manner, InPlace, ByFrame, AsCps}
use Rattle.cpc_forms.specs.Flow.{Place, Start, At}
use Rattle.cpc_forms.specs.Graph.{Node, at_node}
use Rattle.cpc_convert_flat_laws.specs.Locals.{Load, loads_one, declares_one, saves_one}
use Rattle.cpc_chains_store_laws.specs.Frames.{frees_frame, fills_frame, asks_block}
use Rattle.cpc_chains_store_laws.specs.Driver.{drive_name, frame_tag, code_field, next_field, value_field, any_pointer, readies}
use Rattle.cpc_convert_routines.specs.Names.{start_name, piece_name, value_tag, box_tag, variable_name, pointer_name, frame_name, value_name, to_name, under_name, result_name}
use Rattle.cpc_convert_routines.specs.Routines.{Routine, routine_of, closure_of, variable_of, local_of, locals_of, variable_if, passed_from, passed, is_parameter}
use Rattle.cpc_convert_routines.specs.Arriving.{arriving_if, arriving_from, arriving_found, arriving_stood, arriving_type}
use Rattle.cpc_chains_event.specs.Frames.{value_struct_if, start_struct, leader_struct, structs_of, box_of, boxes_of}
use Rattle.cpc_chains_event.specs.Lines.{save_of}
use Rattle.cpc_chains_event.specs.Rows.{numbers_of, piece_statements}
use Rattle.cpc_chains_event.specs.Pieces.{parameter_of, load_of, below_if, value_load, loaded, loads_of, called_so, to_frame, words_if, words_of, begun, declares_of, fills_if, boxing_lines, boxing_of, piece_body, piece_function, spawner_function, leader_function, made_of}
use Rattle.cpc_convert_routines.specs.Taken.{takes_value}
use Rattle.cpc_convert_routines.proofs.Numbers.{AllBelow}
use Rattle.cpc_printer_laws.proofs.LeastTypes.{starred_variable}
use Rattle.cpc_chains_print_laws.proofs.Names as N
use Rattle.cpc_chains_print_laws.proofs.Names.{IsSmall, name_widened, spawner_is_name, start_is_name, value_is_name, box_is_name, piece_is_name, variable_is_name}
use Rattle.cpc_chains_print_laws.proofs.Images.{row_widened}
use Rattle.cpc_chains_print_laws.proofs.Items.{Prints, no_items, and_item, both_items, PrintsFunction, PrintsFunctions, no_functions, and_function}
use Rattle.cpc_chains_print_laws.proofs.Known.{VariablePrints, FunctionReads, VariableMade, local_made, numbered_prints, renamed}
use Rattle.cpc_chains_print_laws.proofs.Lines.{AllVariables, EachRow, SavesSpelled, name_saves, asks_made, heads_made}
use Rattle.cpc_chains_print_laws.proofs.Made.{named_made, zero_made, arrow_made, size_made, LineMade, line_row, InBody, row_in, EachIn, both_in, BlockMade, nothing_in, and_in, before_in, declare_made, starts_made, call_made, puts_made, assign_made}
use Rattle.cpc_chains_print_laws.proofs.Rows.{NodePrints, statements_in}
use Rattle.cpc_chains_print_laws.proofs.Functions.{TypeMade, int_made, any_made, to_struct_made, EachVariable, variable_of_type, struct_made, frame_struct_made, EachParameter, parameter_made, function_made}
use Rattle.cpc_chains_print_laws.proofs.Types.{starred_deep, starred_rest}

module _ (tight : Bool) (H : ℕ) (room : 8 ≤ H) where
  both_variables : (xs ys : List Variable) → EachVariable tight H room xs → EachVariable tight H room ys → EachVariable tight H room (xs ++ ys)
  both_variables [] ys a b = b
  both_variables (x ∷ xs) ys a b = (a.0, both_variables xs ys a.1 b)

  one_if : (b : Bool) (x : Variable) (xs : List Variable) → VariableMade tight H room x → EachVariable tight H room xs → EachVariable tight H room (variable_if b x xs)
  one_if true x xs a c = (a, c)
  one_if false x xs a c = c

  rows_body : (ss : List Stmt) → EachRow tight H room ss → EachIn tight H room ss
  rows_body [] a = tt
  rows_body (s ∷ ss) a = (row_in tight H room s a.0, rows_body ss a.1)

  body_row : (s : Stmt) → LineMade tight H room s → InBody tight H room s
  body_row s a = row_in tight H room s (line_row tight H room s a)

  -- the type of what a function gives
  result_made : (h : ℕ) → h ≤ H → (f : Function) → FunctionReads tight h f → TypeMade tight H room f.result
  result_made h below f reads = record {
    printable = starred_variable f.result reads.result;
    typed = record { base = row_widened (base_row f.result) reads.base; rest = starred_rest D.Event tight f.result reads.result };
    deep = let d = starred_deep f.result reads.result in let s = reads.stars in omega (arith, d, s, below);
  }

  -- ---- what is declared

  declares_in : (xs : List Variable) → EachVariable tight H room xs → EachIn tight H room (map declares_one xs)
  declares_in [] a = tt
  declares_in (x ∷ xs) a = (declare_made tight H room x.called x.type a.0.name a.0.printable a.0.typed a.0.deep, declares_in xs a.1)

  -- a local, loaded from a field
  pub record LoadMade (l : Load) : Type 0 where
    pub variable : IsName D.Event l.variable
    pub field : IsName D.Event l.field
    pub type : TypeMade tight H room l.type

  abbrev EachLoad : List Load → Type 0
  EachLoad [] = Unit {0}
  EachLoad (l ∷ ls) = LoadMade l × EachLoad ls

  loads_in : (ls : List Load) → EachLoad ls → EachIn tight H room (map (loads_one frame_name) ls)
  loads_in [] a = tt
  loads_in (l ∷ ls) a = (
    starts_made tight H room l.variable l.type (EArrow (ENamed frame_name) l.field) a.0.variable a.0.type.printable a.0.type.typed a.0.type.deep (arrow_made tight H room frame_name l.field N.e_name a.0.field) refl,
    loads_in ls a.1,
  )

  both_loads : (ls ms : List Load) → EachLoad ls → EachLoad ms → EachLoad (ls ++ ms)
  both_loads [] ms a b = b
  both_loads (l ∷ ls) ms a b = (a.0, both_loads ls ms a.1 b)

  local_loads : (xs : List Variable) → EachVariable tight H room xs → EachLoad (map load_of xs)
  local_loads [] a = tt
  local_loads (x ∷ xs) a = (record { variable = a.0.name; field = a.0.name; type = record { printable = a.0.printable; typed = a.0.typed; deep = a.0.deep } }, local_loads xs a.1)

  module _ (h : ℕ) (below : h + 3 ≤ H) (p : Program) (f : Function) (reads : FunctionReads tight h f) (few : length (variables f) ≤ 255)
      (kept : (l : Place) → AllVariables tight H room h below p f reads few (closure_of (routine_of p f) l)) (boxes : AllVariables tight H room h below p f reads few (routine_of p f).boxes)
      (took : (l : Place) → AllVariables tight H room h below p f reads few (loaded (routine_of p f) l)) (begins : (l : Place) → AllVariables tight H room h below p f reads few (begun (routine_of p f) l))
      (all : (x : Text) (g : Function) → function_named p x ≡ Some g → FunctionReads tight h g × (length (variables g) ≤ 255))
      (nodes : (n : ℕ) (node : Node) → slice_get (routine_of p f).split.graph.nodes n ≡ Some node → NodePrints tight H room h (routine_of p f) node)
      (numbers : (l : Place) → AllBelow (2 ^ 64) (numbers_of p (routine_of p f) l)) (leaders : (n : ℕ) → Has n (routine_of p f).split.leaders → n < 2 ^ 64) where
    abbrev r : Routine
    r = routine_of p f

    less : h ≤ H
    less = omega (arith, below)

    one_local : (k : ℕ) → k < length (variables f) → VariableMade tight H room (local_of r k)
    one_local k i = local_made tight H room h less p f reads k i (omega (arith, few, i))

    locals_made : (ks : List ℕ) → AllVariables tight H room h below p f reads few ks → EachVariable tight H room (locals_of r ks)
    locals_made [] a = tt
    locals_made (k ∷ ks) a = (one_local k a.0, locals_made ks a.1)

    -- ---- the value that arrives

    arrives_from : (x : Text) (o : Option Function) → function_named p x ≡ o → TypeMade tight H room (arriving_from o)
    arrives_from x None e = int_made tight H room
    arrives_from x (Some g) e = go (is_scalar g.result)
      where
        go : (b : Bool) → TypeMade tight H room (arriving_if b g.result)
        go true = result_made h less g (all x g e).0
        go false = int_made tight H room

    arrives_found : (x : Found) → TypeMade tight H room (arriving_found p x)
    arrives_found (Simple (Call to (ENamed g) es)) = arrives_from g (function_named p g) refl
    arrives_found (Simple _) = int_made tight H room
    arrives_found (Test t) = int_made tight H room
    arrives_found Nothing = int_made tight H room

    arrives_stood : (w : Manner) (s : Stood) → TypeMade tight H room (arriving_stood p w s)
    arrives_stood AsCps (AtArrival x) = arrives_found x
    arrives_stood AsCps (AtStatement x) = int_made tight H room
    arrives_stood AsCps AtEnd = int_made tight H room
    arrives_stood InPlace s = int_made tight H room
    arrives_stood ByFrame s = int_made tight H room

    arrives : (l : Place) → TypeMade tight H room (arriving_type p r l)
    arrives Start = int_made tight H room
    arrives (At n) = go (slice_get r.split.graph.nodes n)
      where
        go : (o : Option Node) → TypeMade tight H room (at_node (TyInt Int) (λ node. arriving_stood p node.manner node.stood) o)
        go None = int_made tight H room
        go (Some node) = arrives_stood node.manner node.stood

    -- ---- the opening of a piece

    below_made : (b : Bool) → TypeMade tight H room (below_if b f.called)
    below_made true = to_struct_made tight H room (value_tag f.called) (value_is_name f.called reads.name)
    below_made false = any_made tight H room

    value_loads : (l : Place) → EachLoad (value_load p r l)
    value_loads l = go (takes_value r l)
      where
        go : (b : Bool) → EachLoad (if b then record { variable = value_name; type = arriving_type p r l; field = value_field } ∷ [] else [])
        go true = (record { variable = N.value_word_name; field = N.value_word_name; type = arrives l }, tt)
        go false = tt

    loads_made : (l : Place) → EachLoad (loads_of p r l)
    loads_made l = (
      record { variable = N.next_is_name; field = N.next_is_name; type = below_made (is_scalar f.result) },
      both_loads (value_load p r l) (map load_of (locals_of r (loaded r l))) (value_loads l) (local_loads (locals_of r (loaded r l)) (locals_made (loaded r l) (took l))),
    )

    words_made : (a b c : Bool) → EachVariable tight H room (words_if a b c f.result)
    words_made a b c =
        one_if a (called_so to_name to_frame) _ (variable_of_type tight H room to_name to_frame N.to_is_name (to_struct_made tight H room frame_tag N.frame_name))
        (one_if b (called_so under_name to_frame) _ (variable_of_type tight H room under_name to_frame N.under_is_name (to_struct_made tight H room frame_tag N.frame_name))
        (one_if c (called_so result_name f.result) [] (variable_of_type tight H room result_name f.result N.result_is_name (result_made h less f reads)) tt))

    declares_made : (l : Place) → EachVariable tight H room (declares_of p r l)
    declares_made l = both_variables (words_of p r l) (locals_of r (begun r l)) (words_made _ _ _) (locals_made (begun r l) (begins l))

    -- ---- boxes

    fills_made : (b : Bool) (k : ℕ) → k < length (variables f) → EachIn tight H room (fills_if b (local_of r k).called (variable_of r k).called)
    fills_made true k i =
        let source = numbered_prints tight H room h less p f reads k i in
        let local = one_local k i in (
          body_row _ (assign_made tight H room (EArrow (ENamed (local_of r k).called) (variable_of r k).called) (EArrow (ENamed frame_name) (local_of r k).called)
              (arrow_made tight H room (local_of r k).called (variable_of r k).called local.name (name_widened (variable_of r k).called source.name)) (arrow_made tight H room frame_name (local_of r k).called N.e_name local.name) refl),
          tt,
        )
    fills_made false k i = tt

    boxing_made : (ks : List ℕ) → AllVariables tight H room h below p f reads few ks → EachIn tight H room (boxing_lines r ks)
    boxing_made [] a = tt
    boxing_made (k ∷ ks) a =
        let i = a.0 in
        let local = one_local k i in (
          body_row _ (puts_made tight H room (ENamed (local_of r k).called) (ENamed (codes "rt_box")) (AndExpr (ESizeOf (TyStruct (box_tag f.called k))) NoExpr) (named_made tight H room _ local.name) (named_made tight H room (codes "rt_box") N.rt_box_name)
              (size_made tight H room (box_tag f.called k) (box_is_name f.called k reads.name (omega (arith, few, i))), tt)),
          both_in tight H room (fills_if (is_parameter f k && is_scalar (variable_of r k).type) (local_of r k).called (variable_of r k).called) (boxing_lines r ks) (fills_made _ k i) (boxing_made ks a.1),
        )

    boxing_in : (l : Place) → EachIn tight H room (boxing_of r l)
    boxing_in Start = boxing_made r.boxes boxes
    boxing_in (At n) = tt

    -- ---- functions

    frees_made : InBody tight H room (frees_frame pointer_name)
    frees_made = body_row _ (call_made tight H room (ENamed (codes "rt_frame_free")) (AndExpr (ENamed pointer_name) NoExpr) (named_made tight H room (codes "rt_frame_free") N.rt_frame_free_name) (named_made tight H room pointer_name N.k_name, tt))

    body_made : (l : Place) → IsSmall l → BlockMade tight H room (piece_body p r l)
    body_made l small =
        let tag = piece_is_name f.called l reads.name small in
        let ptr = to_struct_made tight H room (piece_name f.called l) tag in
        and_in tight H room (Declare frame_name (TyPointer (TyStruct (piece_name f.called l))) (Some (ENamed pointer_name))) _ (starts_made tight H room frame_name _ (ENamed pointer_name) N.e_name ptr.printable ptr.typed ptr.deep (named_made tight H room pointer_name N.k_name) refl)
        (before_in tight H room (map (loads_one frame_name) (loads_of p r l)) _ (loads_in (loads_of p r l) (loads_made l))
        (before_in tight H room (map declares_one (declares_of p r l)) _ (declares_in (declares_of p r l) (declares_made l))
        (before_in tight H room (boxing_of r l) _ (boxing_in l)
        (and_in tight H room (frees_frame pointer_name) _ frees_made
        (before_in tight H room (piece_statements p r l) NoStmt (statements_in tight H room h below p f reads few kept boxes all nodes l (numbers l)) (nothing_in tight H room))))))

    pub piece_made : (l : Place) → IsSmall l → PrintsFunction tight (H + 4) (piece_function p r l)
    piece_made l small =
        let any = any_made tight H room in
        function_made tight H room (piece_name f.called l) any_pointer (parameter_of (called_so pointer_name any_pointer) ∷ []) (piece_body p r l) (piece_is_name f.called l reads.name small) tt (tt, tt) (omega (arith, room))
        (parameter_made tight H room (called_so pointer_name any_pointer) refl (variable_of_type tight H room pointer_name any_pointer N.k_name any), tt) (body_made l small)

    -- ---- parameters

    pub data EachScalar : List Variable → Type 0 where
      NoScalar : EachScalar []
      OneScalar : (x : Variable) (xs : List Variable) → is_scalar x.type ≡ true → EachScalar xs → EachScalar (x ∷ xs)

    passed_made : (k count : ℕ) (xs : List Variable) → k + length xs ≤ 255 → ((j : ℕ) (x : Variable) → slice_get xs j ≡ Some x → VariablePrints tight h x) → EachVariable tight H room (passed_from k count xs) × EachScalar (passed_from k count xs)
    passed_made k zero xs small each = (tt, NoScalar)
    passed_made k (suc n) [] small each = (tt, NoScalar)
    passed_made k (suc n) (x ∷ xs) small each = go (is_scalar x.type) refl (passed_made (suc k) n xs (omega (arith, small)) (λ j y e. each (suc j) y e))
      where
        go : (b : Bool) → is_scalar x.type ≡ b → EachVariable tight H room (passed_from (suc k) n xs) × EachScalar (passed_from (suc k) n xs)
            → EachVariable tight H room (variable_if b (record { called = variable_name k x.called; type = x.type }) (passed_from (suc k) n xs)) × EachScalar (variable_if b (record { called = variable_name k x.called; type = x.type }) (passed_from (suc k) n xs))
        go true e rest = let a = each 0 x refl in ((renamed tight H room h less (variable_name k x.called) x (variable_is_name k x.called a.name (omega (arith, small))) a, rest.0), OneScalar _ _ e rest.1)
        go false e rest = rest

    passed_all : EachVariable tight H room (passed f) × EachScalar (passed f)
    passed_all = passed_made 0 (length f.parameters) (variables f) (omega (arith, few)) reads.variables

    parameters_made : (xs : List Variable) → EachVariable tight H room xs → EachScalar xs → EachParameter tight H room (map parameter_of xs)
    parameters_made [] a s = tt
    parameters_made (x ∷ xs) a (OneScalar _ _ e s) = (parameter_made tight H room x e a.0, parameters_made xs a.1 s)

    -- ---- the spawner

    saves_made : (xs : List Variable) → EachVariable tight H room xs → SavesSpelled tight H room (map save_of xs)
    saves_made [] a = tt
    saves_made (x ∷ xs) a = (a.0.name, a.0.name, saves_made xs a.1)

    pub spawner_made : PrintsFunction tight (H + 4) (spawner_function f)
    spawner_made =
        let tag = start_is_name f.called reads.name in
        let ptr = to_struct_made tight H room (start_name f.called) tag in
        let head = heads_made tight H room frame_name (start_name f.called) (EInteger Int (pos 0)) N.e_name tag (zero_made tight H room) refl in
        let fills = name_saves tight H room frame_name N.e_name (map save_of (passed f)) (saves_made (passed f) passed_all.0) in
        function_made tight H room (spawner_name f.called) TyVoid (map parameter_of (passed f)) _ (spawner_is_name f.called reads.name) tt (tt, tt) (omega (arith, room)) (parameters_made (passed f) passed_all.0 passed_all.1)
        (and_in tight H room (Declare frame_name (TyPointer (TyStruct (start_name f.called))) None) _ (declare_made tight H room frame_name _ N.e_name ptr.printable ptr.typed ptr.deep)
        (and_in tight H room (asks_block frame_name (start_name f.called)) _ (row_in tight H room _ (asks_made tight H room frame_name (start_name f.called) N.e_name tag))
        (before_in tight H room (fills_frame (ENamed frame_name) (ENamed frame_name) code_field next_field (start_name f.called) (EInteger Int (pos 0)) (map save_of (passed f))) _
        (row_in tight H room _ head.0, (row_in tight H room _ head.1.0, rows_body (map (saves_one (ENamed frame_name)) (map save_of (passed f))) fills))
        (and_in tight H room (readies frame_name) NoStmt
        (body_row _ (call_made tight H room (ENamed (codes "rt_ready")) (AndExpr (ENamed drive_name) (AndExpr (ENamed frame_name) NoExpr)) (named_made tight H room (codes "rt_ready") N.rt_ready_name)
        (named_made tight H room drive_name N.drive_name, (named_made tight H room frame_name N.e_name, tt)))) (nothing_in tight H room)))))

    -- ---- all functions

    leaders_made : (ns : List ℕ) → ((n : ℕ) → Has n ns → n < 2 ^ 64) → PrintsFunctions tight (H + 4) (map (leader_function p r) ns)
    leaders_made [] a = no_functions tight (H + 4)
    leaders_made (n ∷ ns) a = and_function tight (H + 4) (leader_function p r n) (map (leader_function p r) ns) (piece_made (At n) (a n (OnTop n ns))) (leaders_made ns (λ m i. a m (Below m n ns i)))

    pub made_all : PrintsFunctions tight (H + 4) (made_of p r)
    made_all = and_function tight (H + 4) (spawner_function f) _ spawner_made (and_function tight (H + 4) (piece_function p r Start) _ (piece_made Start tt) (leaders_made r.split.leaders leaders))

    -- ---- structs

    leader_structs : (ns : List ℕ) → ((n : ℕ) → Has n ns → n < 2 ^ 64) → Prints D.Event tight (H + 4) (map (leader_struct p r) ns)
    leader_structs [] a = no_items D.Event tight (H + 4)
    leader_structs (n ∷ ns) a =
        and_item D.Event tight (H + 4) (leader_struct p r n) (map (leader_struct p r) ns)
        (frame_struct_made tight H room (piece_name f.called (At n)) (arriving_type p r (At n)) (locals_of r (closure_of r (At n))) (piece_is_name f.called (At n) reads.name (a n (OnTop n ns))) (arrives (At n)) (locals_made (closure_of r (At n)) (kept (At n))))
        (leader_structs ns (λ m i. a m (Below m n ns i)))

    value_structs : (b : Bool) → Prints D.Event tight (H + 4) (value_struct_if b f.called f.result)
    value_structs true = and_item D.Event tight (H + 4) _ [] (frame_struct_made tight H room (value_tag f.called) f.result [] (value_is_name f.called reads.name) (result_made h less f reads) tt) (no_items D.Event tight (H + 4))
    value_structs false = no_items D.Event tight (H + 4)

    pub structs_made : Prints D.Event tight (H + 4) (structs_of p r)
    structs_made =
        both_items D.Event tight (H + 4) (value_struct_if (is_scalar f.result) f.called f.result) _ (value_structs (is_scalar f.result))
        (and_item D.Event tight (H + 4) (start_struct f) _ (frame_struct_made tight H room (piece_name f.called Start) (TyInt Int) (passed f) (piece_is_name f.called Start reads.name tt) (int_made tight H room) passed_all.0)
        (leader_structs r.split.leaders leaders))

    box_items : (ks : List ℕ) → AllVariables tight H room h below p f reads few ks → Prints D.Event tight (H + 4) (map (box_of r) ks)
    box_items [] a = no_items D.Event tight (H + 4)
    box_items (k ∷ ks) a =
        let i = a.0 in
        let source = numbered_prints tight H room h less p f reads k i in
        and_item D.Event tight (H + 4) (box_of r k) (map (box_of r) ks)
        (struct_made tight H room (box_tag f.called k) (variable_of r k) [] (box_is_name f.called k reads.name (omega (arith, few, i))) (renamed tight H room h less (variable_of r k).called (variable_of r k) (name_widened (variable_of r k).called source.name) source, tt))
        (box_items ks a.1)

    pub boxes_made : Prints D.Event tight (H + 4) (boxes_of r)
    boxes_made = box_items r.boxes boxes
