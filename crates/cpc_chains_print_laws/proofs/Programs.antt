-- The event program of a program that can be printed can be printed.
use Rattle.std.proofs.Common.{◌≡◌, ℕ, zero, suc, ◌+◌, ◌≤◌, ◌<◌, ◌^◌, Bool, true, false, List, [], ◌∷◌, map, length, pos, codes, Some, None, refl, subst, ap, ◌∙◌, arith}
use Rattle.std.proofs.lemmas.List.{length-map}
use Rattle.cpc_base.specs.Bytes.{Text}
use Rattle.cpc_base.specs.declared.stop.Dialect.TheVariants as D
use Rattle.cpc_num.specs.declared.kinds.Kind.TheVariants.{Int}
use Rattle.cpc_tree.specs.declared.token.Punctuator.TheVariants as P
use Rattle.cpc_tree.specs.Tokens.{Mark}
use Rattle.cpc_tree.specs.Registers.{variables}
use Rattle.cpc_tree.specs.Syntax.{TyVoid, TyInt, TyPointer, TyStruct, ENamed, EInteger, EArrow, NoExpr, AndExpr, Stmt, Block, Declare, Assign, Call, While, Return, NoStmt, Function, StructItem, GlobalItem, PrototypeItem, FunctionItem, Item, Program}
use Rattle.cpc_tree.specs.Typing.{function_named}
use Rattle.cpc_tree.specs.StmtPrint.{block_row}
use Rattle.cpc_tree.specs.ItemPrint.{mode_row, head_row, body_row, body_depth, item_row, item_depth, PrintableBody, PrintableItem}
use Rattle.cpc_printer_laws.proofs.Fitting.{Spelled, spelled_both, spelled_parts}
use Rattle.cpc_meaning.specs.Start.{main_name}
use Rattle.cpc_meaning.specs.Threads.{is_cps_mode, is_cps}
use Rattle.cpc_convert_common.specs.Converted.{respawned, spawner_name, prototype, function_item}
use Rattle.cpc_convert_common.specs.Members.{Has, OnTop, Below}
use Rattle.cpc_forms.specs.Flow.{Place, Start, At, flow_of}
use Rattle.cpc_forms.specs.Order.{points}
use Rattle.cpc_forms.specs.Graph.{graph_of, node_of}
use Rattle.cpc_forms.specs.Split.{owners_from}
use Rattle.cpc_lift_laws.specs.Lift.{variable_count}
use Rattle.cpc_chains_store_laws.specs.Driver.{drive_name, frame_tag, code_field, value_field, any_pointer, taken_name, taken, is_taken, takes_up, drive_function}
use Rattle.cpc_convert_routines.specs.Named.{IsNamed, IsCps}
use Rattle.cpc_convert_routines.specs.Routines.{Routine, routine_of, closure_of}
use Rattle.cpc_chains_event.specs.Frames.{any_frame, structs_of, boxes_of}
use Rattle.cpc_chains_event.specs.Pieces.{loaded, begun, called_so, made_of}
use Rattle.cpc_convert_routines.specs.Kept.{kept_function, item_unless, kept_items, routine_if, routines_in, routines}
use Rattle.cpc_chains_event.specs.Converted.{all_structs, all_boxes, all_made, main_function, main_if, converted_with, converted}
use Rattle.cpc_convert_routines.proofs.Numbers.{AllBelow, NoneBelow, OneBelow, rises_below, below_append, below_chosen}
use Rattle.cpc_chains_event.proofs.Locals.{closure_rise, counted, loaded_below, boxes_rise}
use Rattle.cpc_chains_event.specs.Rows.{numbers_of}
use Rattle.cpc_lifted_laws.specs.Accepted.Names.{HasNames}
use Rattle.cpc_lifted_laws.specs.Accepted.Points.{PositionsKnown}
use Rattle.cpc_chains_laws.proofs.Accepted.Below.{below_numbers}
use Rattle.cpc_chains_print_laws.proofs.Names as N
use Rattle.cpc_chains_print_laws.proofs.Images.{row_widened}
use Rattle.cpc_chains_print_laws.proofs.Items.{Prints, no_items, and_item, first_item, later_items, both_items, PrintsItem, PrintsFunction, PrintsFunctions, no_functions, both_functions}
use Rattle.cpc_chains_print_laws.proofs.Known.{FunctionReads, ProgramReads}
use Rattle.cpc_chains_print_laws.proofs.Lines.{AllVariables}
use Rattle.cpc_chains_print_laws.proofs.Made.{named_made, zero_made, arrow_made, set_made, line_row, row_in, InBody, nothing_in, and_in, starts_made, assign_made, call_made, puts_made, return_made, while_made, LineMade}
use Rattle.cpc_chains_print_laws.proofs.Functions.{int_made, any_made, to_struct_made, variable_of_type, frame_struct_made, parameter_made, function_made}
use Rattle.cpc_chains_print_laws.proofs.Graphs.{node_prints}
use Rattle.cpc_chains_print_laws.proofs.Pieces.{made_all, structs_made, boxes_made}
use Rattle.cpc_chains_print_laws.proofs.Respawned.{all_printable, all_spelled, all_deep}
use Rattle.cpc_chains_print_laws.proofs.Rows.{all_below}
use Rattle.cpc_chains_print_laws.proofs.Variables.{program_reads}

-- ---- what stays

module _ (tight : Bool) where
  kept_body : (b : Stmt) → PrintableBody b → Spelled D.Cpc (body_row tight b) → PrintableBody (respawned b) × Spelled D.Event (body_row tight (respawned b)) × (body_depth true (respawned b) ≤ body_depth true b + 1)
  kept_body (Block ss) p (l, s) =
      let (x, y) = spelled_parts D.Cpc (block_row tight ss) (Mark P.RightBrace ∷ []) s in
      (all_printable ss p, (tt, spelled_both D.Event (block_row tight _) (Mark P.RightBrace ∷ []) (all_spelled tight ss p x) (tt, tt)), let d = all_deep ss p in omega (arith, d))
  kept_body _ p s = absurd p

  kept_item : (f : Function) → PrintsItem D.Cpc tight 256 (FunctionItem f) → PrintsItem D.Event tight 264 (FunctionItem (kept_function f))
  unfolding PrintableItem item_row item_depth
  kept_item f a =
      let deep = a.deep in
      let (m, rest) = spelled_parts D.Cpc (mode_row f.mode) _ a.spelled in
      let (head, body) = spelled_parts D.Cpc (head_row tight f.called f.result f.parameters) (body_row tight f.body) rest in
      let k = kept_body f.body a.printable.3 body in
      let d = k.2 in
      record {
        printable = (a.printable.0, a.printable.1, a.printable.2, k.0);
        spelled = spelled_both D.Event (mode_row f.mode) _ (row_widened (mode_row f.mode) m) (spelled_both D.Event (head_row tight f.called f.result f.parameters) _ (row_widened (head_row tight f.called f.result f.parameters) head) k.1);
        deep = omega (arith, deep, d);
      }

  same_item : (x : Item) → PrintsItem D.Cpc tight 256 x → PrintsItem D.Event tight 264 x
  same_item x a = record { printable = a.printable; spelled = row_widened _ a.spelled; deep = let d = a.deep in omega (arith, d) }

  item_if : (b : Bool) (x : Item) (rest : List Item) → PrintsItem D.Event tight 264 x → Prints D.Event tight 264 rest → Prints D.Event tight 264 (item_unless b x rest)
  item_if true x rest a c = c
  item_if false x rest a c = and_item D.Event tight 264 x rest a c

  kept_prints : (items : List Item) → Prints D.Cpc tight 256 items → Prints D.Event tight 264 (kept_items items)
  kept_prints [] a = no_items D.Event tight 264
  kept_prints (PrototypeItem mode x r ps ∷ items) a =
      item_if (is_cps_mode mode) _ (kept_items items) (same_item _ (first_item D.Cpc tight 256 _ items a)) (kept_prints items (later_items D.Cpc tight 256 (PrototypeItem mode x r ps) items a))
  kept_prints (FunctionItem f ∷ items) a = item_if (is_cps_mode f.mode) _ (kept_items items) (kept_item f (first_item D.Cpc tight 256 _ items a)) (kept_prints items (later_items D.Cpc tight 256 (FunctionItem f) items a))
  kept_prints (StructItem tag xs ∷ items) a = and_item D.Event tight 264 (StructItem tag xs) (kept_items items) (same_item _ (first_item D.Cpc tight 256 _ items a)) (kept_prints items (later_items D.Cpc tight 256 (StructItem tag xs) items a))
  kept_prints (GlobalItem x t start ∷ items) a = and_item D.Event tight 264 (GlobalItem x t start) (kept_items items) (same_item _ (first_item D.Cpc tight 256 _ items a)) (kept_prints items (later_items D.Cpc tight 256 (GlobalItem x t start) items a))

-- ---- what is made

module _ (tight : Bool) where
  room : 8 ≤ 260
  room = omega arith

  row_body : (s : Stmt) → LineMade tight 260 room s → InBody tight 260 room s
  row_body s a = row_in tight 260 room s (line_row tight 260 room s a)

  driver_made : PrintsFunction tight 264 drive_function
  driver_made =
      let ptr = to_struct_made tight 260 room frame_tag N.frame_name in
      let any = any_made tight 260 room in
      let name = named_made tight 260 room in
      function_made tight 260 room drive_name TyVoid _ _ N.drive_name tt (tt, tt) (omega arith) (
        parameter_made tight 260 room (called_so (codes "k__") any_pointer) refl (variable_of_type tight 260 room (codes "k__") any_pointer N.k_name any),
        (parameter_made tight 260 room (called_so (codes "r__") (TyInt Int)) refl (variable_of_type tight 260 room (codes "r__") (TyInt Int) N.r_name (int_made tight 260 room)), tt),
      )
      (and_in tight 260 room (Declare taken_name (TyPointer (TyStruct frame_tag)) (Some (ENamed (codes "k__")))) _ (starts_made tight 260 room taken_name _ (ENamed (codes "k__")) N.taken_is_name ptr.printable ptr.typed ptr.deep (name (codes "k__") N.k_name) refl)
      (and_in tight 260 room (Assign (EArrow taken value_field) None (ENamed (codes "r__"))) _
      (row_body _ (assign_made tight 260 room (EArrow taken value_field) (ENamed (codes "r__")) (arrow_made tight 260 room taken_name value_field N.taken_is_name N.value_word_name) (name (codes "r__") N.r_name) refl))
      (and_in tight 260 room (While is_taken takes_up) NoStmt
      (while_made tight 260 room is_taken takes_up (set_made tight 260 room taken_name N.taken_is_name)
      (puts_made tight 260 room taken (EArrow taken code_field) (AndExpr taken NoExpr) (name taken_name N.taken_is_name) (arrow_made tight 260 room taken_name code_field N.taken_is_name N.code_field_name) (name taken_name N.taken_is_name, tt)))
      (nothing_in tight 260 room))))

  main_made : PrintsFunction tight 264 main_function
  main_made =
      function_made tight 260 room main_name (TyInt Int) [] _ N.main_name tt (tt, tt) (omega arith) tt
      (and_in tight 260 room (Call None (ENamed (spawner_name main_name)) NoExpr) _
      (row_body _ (call_made tight 260 room (ENamed (spawner_name main_name)) NoExpr (named_made tight 260 room (spawner_name main_name) (N.spawner_is_name main_name main_source)) tt))
      (and_in tight 260 room (Return (Some (EInteger Int (pos 0)))) NoStmt (row_body _ (return_made tight 260 room (EInteger Int (pos 0)) (zero_made tight 260 room))) (nothing_in tight 260 room)))
    where
      main_source : N.IsSourceName main_name
      main_source = N.main_is_source

  main_prints : (b : Bool) → Prints D.Event tight 264 (main_if b)
  main_prints true = and_item D.Event tight 264 (FunctionItem main_function) [] main_made.functions (no_items D.Event tight 264)
  main_prints false = no_items D.Event tight 264

  any_frame_made : PrintsItem D.Event tight 264 any_frame
  any_frame_made = frame_struct_made tight 260 room frame_tag (TyInt Int) [] N.frame_name (int_made tight 260 room) tt

-- ---- routines

module _ (tight : Bool) (p : Program) (names : HasNames p) (named : IsNamed p) (positions : PositionsKnown p) (reads : ProgramReads tight 257 p) where
  module _ (f : Function) (cps : IsCps p f) where
    abbrev r : Routine
    r = routine_of p f

    known : FunctionReads tight 257 f
    known = reads f cps.has

    few : length (variables f) ≤ 255
    few = (names.functions f cps.has).few

    below : 257 + 3 ≤ 260
    below = omega arith

    are_variables : (ks : List ℕ) → AllBelow (length (variables f)) ks → AllVariables tight 260 (room tight) 257 below p f known few ks
    are_variables _ NoneBelow = tt
    are_variables _ (OneBelow k ks h a) = (h, are_variables ks a)

    boxes_below : AllBelow (length (variables f)) r.boxes
    boxes_below =
        let a = rises_below (0 + variable_count p f.called) 0 r.boxes (boxes_rise p f.called 0 (variable_count p f.called)) in
        subst (λ n. AllBelow n r.boxes) (let z : 0 + variable_count p f.called ≡ variable_count p f.called = omega arith in z ∙ counted p named f cps) a

    pub closure_below : (l : Place) → AllBelow (length (variables f)) (closure_of r l)
    closure_below l = rises_below (length (variables f)) 0 (closure_of r l) (closure_rise p named f cps l)

    begun_below : (l : Place) → AllBelow (length (variables f)) (begun r l)
    begun_below Start = below_append (length (variables f)) _ _ (below_chosen (length (variables f)) _ _ (closure_below Start)) boxes_below
    begun_below (At n) = NoneBelow

    below_more : (low high : ℕ) (ns : List ℕ) → low ≤ high → AllBelow low ns → AllBelow high ns
    below_more low high _ h NoneBelow = NoneBelow
    below_more low high _ h (OneBelow n ns i a) = OneBelow n ns (omega (arith, h, i)) (below_more low high ns h a)

    owners_length : (n k : ℕ) → length (owners_from (flow_of (graph_of p f)) n k) ≡ k
    owners_length n zero = refl
    owners_length n (suc k) = ap suc (owners_length (suc n) k)

    leader_small : (n : ℕ) → Has n r.split.leaders → n < 2 ^ 64
    leader_small n h = let a = named.small f cps n h in omega (arith, a)

    numbers_small : (l : Place) → AllBelow (2 ^ 64) (numbers_of p r l)
    numbers_small l =
        let a = owners_length 0 (length (graph_of p f).nodes) in
        let b = length-map (points f.body) (node_of p f) in
        let c = names.points f cps.has cps.mode in
        below_numbers p r l (2 ^ 64) (omega (arith, a, b, c)) (all_below (2 ^ 64) r.split.leaders leader_small)

    all_known : (x : Text) (g : Function) → function_named p x ≡ Some g → FunctionReads tight 257 g × (length (variables g) ≤ 255)
    all_known x g e = let has = (names.there x g e).0 in (reads g has, (names.functions g has).few)

    kept_variables : (l : Place) → AllVariables tight 260 (room tight) 257 below p f known few (closure_of r l)
    kept_variables l = are_variables (closure_of r l) (closure_below l)

    box_variables : AllVariables tight 260 (room tight) 257 below p f known few r.boxes
    box_variables = are_variables r.boxes boxes_below

    took_variables : (l : Place) → AllVariables tight 260 (room tight) 257 below p f known few (loaded r l)
    took_variables l = are_variables (loaded r l) (loaded_below p named f cps l)

    begun_variables : (l : Place) → AllVariables tight 260 (room tight) 257 below p f known few (begun r l)
    begun_variables l = are_variables (begun r l) (begun_below l)

    functions_print : PrintsFunctions tight 264 (made_of p r)
    functions_print = made_all tight 260 (room tight) 257 below p f known few kept_variables box_variables took_variables begun_variables all_known (node_prints tight 260 (room tight) 257 p names positions f known cps) numbers_small leader_small

    structs_print : Prints D.Event tight 264 (structs_of p r)
    structs_print = structs_made tight 260 (room tight) 257 below p f known few kept_variables box_variables took_variables begun_variables all_known (node_prints tight 260 (room tight) 257 p names positions f known cps) numbers_small leader_small

    boxes_print : Prints D.Event tight 264 (boxes_of r)
    boxes_print = boxes_made tight 260 (room tight) 257 below p f known few kept_variables box_variables took_variables begun_variables all_known (node_prints tight 260 (room tight) 257 p names positions f known cps) numbers_small leader_small

  -- ---- all of them

  -- what is made of these routines can be printed
  record RoutinesPrint (rs : List Routine) : Type 0 where
    structs : Prints D.Event tight 264 (all_structs p rs)
    functions : PrintsFunctions tight 264 (all_made p rs)
    boxes : Prints D.Event tight 264 (all_boxes rs)

  one_more : (f : Function) → Has (FunctionItem f) p → (b : Bool) → is_cps_mode f.mode ≡ b → (rs : List Routine) → RoutinesPrint rs → RoutinesPrint (routine_if b p f rs)
  one_more f has true e rs a =
      let cps : IsCps p f = record { has = has; mode = e } in
      record {
        structs = both_items D.Event tight 264 (structs_of p (routine_of p f)) (all_structs p rs) (structs_print f cps) a.structs;
        functions = both_functions tight 264 (made_of p (routine_of p f)) (all_made p rs) (functions_print f cps) a.functions;
        boxes = both_items D.Event tight 264 (boxes_of (routine_of p f)) (all_boxes rs) (boxes_print f cps) a.boxes;
      }
  one_more f has false e rs a = a

  routines_print : (items : List Item) → ((i : Item) → Has i items → Has i p) → RoutinesPrint (routines_in p items)
  routines_print [] h = record { structs = no_items D.Event tight 264; functions = no_functions tight 264; boxes = no_items D.Event tight 264 }
  routines_print (FunctionItem f ∷ items) h = one_more f (h (FunctionItem f) (OnTop (FunctionItem f) items)) (is_cps_mode f.mode) refl (routines_in p items) (routines_print items (λ i a. h i (Below i (FunctionItem f) items a)))
  routines_print (PrototypeItem mode x r ps ∷ items) h = routines_print items (λ i a. h i (Below i (PrototypeItem mode x r ps) items a))
  routines_print (StructItem tag xs ∷ items) h = routines_print items (λ i a. h i (Below i (StructItem tag xs) items a))
  routines_print (GlobalItem x t start ∷ items) h = routines_print items (λ i a. h i (Below i (GlobalItem x t start) items a))

  converted_by : (rs : List Routine) → RoutinesPrint rs → Prints D.Event tight 264 (kept_items p) → Prints D.Event tight 264 (converted_with p rs)
  converted_by [] a kept = kept
  converted_by (r ∷ rs) a kept =
      and_item D.Event tight 264 any_frame _ (any_frame_made tight)
      (both_items D.Event tight 264 (all_structs p (r ∷ rs)) _ a.structs
      (both_items D.Event tight 264 (map prototype (all_made p (r ∷ rs))) _ a.functions.prototypes
      (and_item D.Event tight 264 (FunctionItem drive_function) _ (driver_made tight).functions
      (both_items D.Event tight 264 (kept_items p) _ kept
      (both_items D.Event tight 264 (all_boxes (r ∷ rs)) _ a.boxes
      (both_items D.Event tight 264 (map function_item (all_made p (r ∷ rs))) _ a.functions.functions (main_prints tight (is_cps (function_named p main_name)))))))))

-- the event program
pub converted_prints : (tight : Bool) (p : Program) → HasNames p → IsNamed p → PositionsKnown p → Prints D.Cpc tight 256 p → Prints D.Event tight 264 (converted p)
converted_prints tight p names named positions a =
    let reads = program_reads tight 257 256 (omega arith) p a in
    converted_by tight p names named positions reads (routines p) (routines_print tight p names named positions reads p (λ i h. h)) (kept_prints tight p a)
