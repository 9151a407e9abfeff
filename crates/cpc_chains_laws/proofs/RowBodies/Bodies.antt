-- The body of a piece breaks no rule, wherever what it names is known.
use Rattle.std.proofs.Common.{◌≡◌, ⊎_elim, ℕ, zero, suc, ◌+◌, ◌≤◌, Bool, true, false, not, ◌&&◌, if◌then◌else◌, List, [], ◌∷◌, ◌++◌, map, length, slice_get, decimal, Option, Some, None, codes, refl, sym, ◌∙◌, ap, subst, arith}
use Rattle.cpc_base.specs.Bytes.{Text}
use Rattle.cpc_base.specs.declared.stop.Dialect.TheVariants as D
use Rattle.cpc_base.proofs.Lists.{length_of_map, append_grouped, length_of_append}
use Rattle.cpc_tree.specs.declared.program.Mode.TheVariants.{Native}
use Rattle.cpc_tree.specs.Registers.{variables}
use Rattle.cpc_tree.specs.Syntax.{Ty, TyPointer, TyStruct, ENamed, Stmt, Block, Empty, Declare, Assign, Call, Detach, Spawn, If, While, DoWhile, For, Goto, Label, Break, Continue, Return, Stmts, NoStmt, AndStmt, Variable, Function, FunctionItem, Program}
use Rattle.cpc_tree.specs.Typing.{is_scalar}
use Rattle.cpc_check_rules.specs.FunctionRules.{is_kept, reserved_breaks, locals, labels, label_breaks, stray_breaks, many_breaks}
use Rattle.cpc_check_rules.specs.ItemRules.{parameter_block, body_breaks}
use Rattle.cpc_check_rules.specs.Operators.{Where}
use Rattle.cpc_check_laws.proofs.Native.NativeValues.{event}
use Rattle.cpc_check_laws.proofs.Native.OnePlace.{parameter_here, stmt_here, item_again}
use Rattle.cpc_chains_laws.specs.Complete.Flat.{Runs, AndLine, Distinct, AllOf, NoneKept, NoneIsKept, AndUnkept, names_of, line_labels, line_gotos, line_locals, labels_of, gotos_of, locals_of as stmt_locals, all_flat}
use Rattle.cpc_chains_laws.specs.Complete.Flat as Flat
use Rattle.cpc_chains_laws.specs.Complete.Laws.{FlatFine}
use Rattle.cpc_chains_laws.proofs.Complete.Flat.{rows_fine, runs_both, flat_fine}
use Rattle.cpc_lifted_laws.proofs.Complete.Kept.{over}
use Rattle.cpc_convert_common.specs.Converted.{function_item}
use Rattle.cpc_forms.specs.Flow.{Place, Start, At}
use Rattle.cpc_lift_laws.specs.Boxes.{is_box}
use Rattle.cpc_lift_laws.specs.Lift.{boxes_from, variable_count, variables_in}
use Rattle.cpc_chains_store_laws.specs.Driver.{any_pointer, value_field}
use Rattle.cpc_convert_flat_laws.specs.Flat.{before, is_line, is_flat, are_flat}
use Rattle.cpc_convert_flat_laws.specs.Locals.{Load, loads_one, declares_one}
use Rattle.cpc_chains_store_laws.specs.Frames.{frees_frame}
use Rattle.cpc_convert_flat_laws.proofs.Rows.{before_append}
use Rattle.cpc_convert_routines.specs.Arriving.{arriving_type}
use Rattle.cpc_convert_routines.specs.Named.{IsOwner}
use Rattle.cpc_convert_routines.specs.Names.{piece_name, pointer_name, frame_name, next_name, value_name, node_label}
use Rattle.cpc_chains_event.specs.Pieces.{load_of, next_load, value_load, loads_of, called_so, words_if, words_of, begun, declares_of, fills_if, box_lines, boxing_lines, boxing_of, piece_body, piece_function}
use Rattle.cpc_convert_routines.specs.Taken.{takes_value}
use Rattle.cpc_chains_event.specs.Pieces as P
use Rattle.cpc_convert_routines.specs.Routines.{Routine, routine_of, closure_of, is_plain, is_parameter, variable_of, variable_or, local_of, locals_of, chosen, number_before}
use Rattle.cpc_convert_routines.specs.Nodes.{is_own}
use Rattle.cpc_chains_event.specs.Rows.{row_of, numbers_of, first_number, PutRow, put_rows, put_lines, put_statement, is_wanted, row_statements, rows_statements, piece_statements}
use Rattle.cpc_chains_event.specs.LabelLaws.{put_in}
use Rattle.cpc_chains_event.proofs.Flat.{boxes_done, pieces_flat}
use Rattle.cpc_chains_event.proofs.Lines.{AreLines, bare_lines, lines_append, piece_lines, puts_done, lines_done}
use Rattle.cpc_lifted_laws.specs.Accepted.Pieces.{VariablesHaveCells}
use Rattle.cpc_lifted_laws.specs.Piece.Known.{CpsKnown}
use Rattle.cpc_chains_laws.proofs.Piece.Frames.{kept_number}
use Rattle.cpc_chains_laws.proofs.Piece.Words.{words_few}
use Rattle.cpc_chains_laws.specs.Rules.Laws.{Knows, BodyFine}
use Rattle.cpc_chains_laws.proofs.Rules.KeptRows.{Source}
use Rattle.cpc_lifted_laws.proofs.Rules.Names.{made_unkept}
use Rattle.cpc_chains_laws.proofs.Rules.FunctionRows.{variable_free}
use Rattle.cpc_lifted_laws.proofs.Shape.Calls.{CpsTyped}
use Rattle.cpc_chains_laws.proofs.RowBodies.Gotos.{gotos_lead}
use Rattle.cpc_chains_laws.proofs.RowBodies.Inside.{begins, inside}
use Rattle.cpc_chains_laws.proofs.RowBodies.Labels.{labels_append, row_labels, labels_stand_once}
use Rattle.cpc_chains_laws.proofs.RowBodies.Nodes.{IsFormed}
use Rattle.cpc_chains_laws.proofs.RowBodies.Opening.{opening_runs, frame_freed, boxing_runs}
use Rattle.cpc_chains_laws.proofs.RowBodies.Whole.{statements_run}

-- ---- statements without labels and gotos

abbrev AllQuiet : List Stmt → Type 0
AllQuiet [] = Unit {0}
AllQuiet (s ∷ ss) = ((line_labels s ≡ []) × (line_gotos s ≡ [])) × AllQuiet ss

quiet_append : (xs ys : List Stmt) → AllQuiet xs → AllQuiet ys → AllQuiet (xs ++ ys)
quiet_append [] ys h g = g
quiet_append (x ∷ xs) ys h g = (h.0, quiet_append xs ys h.1 g)

quiet_map : {X : Type 0} (F : X → Stmt) → ((x : X) → (line_labels (F x) ≡ []) × (line_gotos (F x) ≡ [])) → (xs : List X) → AllQuiet (map F xs)
quiet_map F h [] = tt
quiet_map F h (x ∷ xs) = (h x, quiet_map F h xs)

quiet_labels : (xs ys : List Stmt) → AllQuiet xs → labels_of (xs ++ ys) ≡ labels_of ys
quiet_labels [] ys h = refl
quiet_labels (x ∷ xs) ys h = ap (λ ls. ls ++ labels_of (xs ++ ys)) h.0.0 ∙ quiet_labels xs ys h.1

quiet_gotos : (xs ys : List Stmt) → AllQuiet xs → gotos_of (xs ++ ys) ≡ gotos_of ys
quiet_gotos [] ys h = refl
quiet_gotos (x ∷ xs) ys h = ap (λ ls. ls ++ gotos_of (xs ++ ys)) h.0.1 ∙ quiet_gotos xs ys h.1

quiet_boxing : (r : Routine) (js : List ℕ) → AllQuiet (boxing_lines r js)
quiet_boxing r [] = tt
quiet_boxing r (j ∷ js) = ((refl, refl), quiet_append (fills_if (is_parameter r.function j && is_scalar (variable_of r j).type) (local_of r j).called (variable_of r j).called) (boxing_lines r js) (fills (is_parameter r.function j && is_scalar (variable_of r j).type)) (quiet_boxing r js))
  where
    fills : (b : Bool) → AllQuiet (fills_if b (local_of r j).called (variable_of r j).called)
    fills true = ((refl, refl), tt)
    fills false = tt

quiet_boxes : (r : Routine) (l : Place) → AllQuiet (boxing_of r l)
quiet_boxes r Start = quiet_boxing r r.boxes
quiet_boxes r (At n) = tt

-- ---- what lines declare

line_declares : (s : Stmt) → is_line s ≡ true → line_locals s ≡ []
line_declares (Declare x t o) e = absurd (cc)
line_declares Empty e = refl
line_declares (Block ss) e = refl
line_declares (Assign x op y) e = refl
line_declares (Call to g es) e = refl
line_declares (Detach to g es) e = refl
line_declares (Spawn g es) e = refl
line_declares (If t a b) e = refl
line_declares (While t s) e = refl
line_declares (DoWhile s t) e = refl
line_declares (For a t b s) e = refl
line_declares (Goto x) e = refl
line_declares (Label x s) e = refl
line_declares Break e = refl
line_declares Continue e = refl
line_declares (Return o) e = refl

lines_declare : (ss : List Stmt) → AreLines ss → stmt_locals ss ≡ []
lines_declare [] h = refl
lines_declare (s ∷ ss) h = ap (λ xs. xs ++ stmt_locals ss) (line_declares s h.0) ∙ lines_declare ss h.1

locals_append : (xs ys : List Stmt) → stmt_locals (xs ++ ys) ≡ stmt_locals xs ++ stmt_locals ys
locals_append [] ys = refl
locals_append (x ∷ xs) ys = ap (λ ls. line_locals x ++ ls) (locals_append xs ys) ∙ sym (append_grouped (line_locals x) (stmt_locals xs) (stmt_locals ys))

loads_declare : (e : Text) (ls : List Load) → stmt_locals (map (loads_one e) ls) ≡ names_of (map Flat.loaded ls)
loads_declare e [] = refl
loads_declare e (x ∷ ls) = ap (λ xs. x.variable ∷ xs) (loads_declare e ls)

declares_declare : (ds : List Variable) → stmt_locals (map declares_one ds) ≡ names_of ds
declares_declare [] = refl
declares_declare (d ∷ ds) = ap (λ xs. d.called ∷ xs) (declares_declare ds)

-- ---- names that are not kept

unkept_both : (xs ys : List Text) → NoneKept xs → NoneKept ys → NoneKept (xs ++ ys)
unkept_both _ ys NoneIsKept h = h
unkept_both _ ys (AndUnkept x xs e g) h = AndUnkept x (xs ++ ys) e (unkept_both xs ys g h)

label_unkept : (n : ℕ) → is_kept (node_label n) ≡ false
unfolding node_label
label_unkept n = made_unkept (codes "at" ++ decimal n) (codes "") refl

words_unkept : (a b c : Bool) (t : Ty) → NoneKept (names_of (words_if a b c t))
words_unkept true true true t = AndUnkept _ _ refl (AndUnkept _ _ refl (AndUnkept _ _ refl NoneIsKept))
words_unkept true true false t = AndUnkept _ _ refl (AndUnkept _ _ refl NoneIsKept)
words_unkept true false true t = AndUnkept _ _ refl (AndUnkept _ _ refl NoneIsKept)
words_unkept true false false t = AndUnkept _ _ refl NoneIsKept
words_unkept false true true t = AndUnkept _ _ refl (AndUnkept _ _ refl NoneIsKept)
words_unkept false true false t = AndUnkept _ _ refl NoneIsKept
words_unkept false false true t = AndUnkept _ _ refl NoneIsKept
words_unkept false false false t = NoneIsKept

names_append : (xs ys : List Variable) → names_of (xs ++ ys) ≡ names_of xs ++ names_of ys
names_append [] ys = refl
names_append (x ∷ xs) ys = ap (λ zs. x.called ∷ zs) (names_append xs ys)

-- ---- lengths

chosen_few : (test : ℕ → Bool) (ns : List ℕ) → length (chosen test ns) ≤ length ns
chosen_few test [] = omega arith
chosen_few test (n ∷ ns) = one (test n) (chosen_few test ns)
  where
    one : (b : Bool) → length (chosen test ns) ≤ length ns → length (number_before b n (chosen test ns)) ≤ suc (length ns)
    one true h = omega (arith, h)
    one false h = omega (arith, h)

boxes_few : (p : Program) (f : Text) (k n : ℕ) → length (boxes_from p f k n) ≤ n
boxes_few p f k zero = omega arith
boxes_few p f k (suc n) = one (is_box p f k) (boxes_few p f (suc k) n)
  where
    one : (b : Bool) → length (boxes_from p f (suc k) n) ≤ n → length (if b then k ∷ boxes_from p f (suc k) n else boxes_from p f (suc k) n) ≤ suc n
    one true h = omega (arith, h)
    one false h = omega (arith, h)

flat_before : (ss : List Stmt) → are_flat (before ss NoStmt) ≡ all_flat ss
flat_before [] = refl
flat_before (s ∷ ss) = ap (λ b. is_flat s && b) (flat_before ss)

module _ (p : Program) (source : Source p) (f : Function) (known : CpsKnown p f) (typed : CpsTyped p f) (formed : IsFormed f) (cells : VariablesHaveCells p f) (l : Place) (owner : IsOwner (routine_of p f) l)
    (items : Program) (k : Knows p (items ++ function_item (piece_function p (routine_of p f) l) ∷ [])) where
  abbrev r : Routine
  r = routine_of p f

  abbrev g : Function
  g = piece_function p r l

  abbrev all : Program
  all = items ++ FunctionItem (piece_function p r l) ∷ []

  abbrev v : Where
  v = inside p f known l owner all k

  abbrev w : Where
  w = begins p f known l owner all k

  abbrev first : Stmt
  first = Declare frame_name (TyPointer (TyStruct (piece_name f.called l))) (Some (ENamed pointer_name))

  abbrev loading : List Stmt
  loading = map (loads_one frame_name) (loads_of p r l)

  abbrev declaring : List Stmt
  declaring = map declares_one (declares_of p r l)

  abbrev rest : List Stmt
  rest = boxing_of r l ++ (frees_frame pointer_name ∷ piece_statements p r l)

  abbrev lines : List Stmt
  lines = first ∷ ((loading ++ declaring) ++ rest)

  runs : Runs w lines v
  runs =
      runs_both w v v (first ∷ (loading ++ declaring)) rest (opening_runs p f known all k l owner)
      (runs_both v v v (boxing_of r l) (frees_frame pointer_name ∷ piece_statements p r l) (boxing_runs p f known all k cells l owner)
      (AndLine v v (frees_frame pointer_name) (piece_statements p r l) refl (frame_freed p f known all k l owner) (statements_run p source f known typed formed l owner all k)))

  is_body : g.body ≡ Block (before lines NoStmt)
  is_body =
      ap (λ x. Block (AndStmt first x))
      (sym (before_append (loading ++ declaring) rest NoStmt
      ∙ (before_append loading declaring (before rest NoStmt) ∙ ap (λ x. before loading (before declaring x)) (before_append (boxing_of r l) (frees_frame pointer_name ∷ piece_statements p r l) NoStmt))))

  abbrev body_of : Stmt → Stmts
  body_of (Block ss) = ss
  body_of s = NoStmt

  flat : all_flat lines ≡ true
  flat = sym (flat_before lines) ∙ (ap (λ s. are_flat (body_of s)) (sym is_body) ∙ (pieces_flat p r l).0)

  quiet : AllQuiet (first ∷ (loading ++ declaring))
  quiet = ((refl, refl), quiet_append loading declaring (quiet_map (loads_one frame_name) (λ x. (refl, refl)) (loads_of p r l)) (quiet_map declares_one (λ x. (refl, refl)) (declares_of p r l)))

  labels_are : labels_of lines ≡ labels_of (piece_statements p r l)
  labels_are = quiet_labels (first ∷ (loading ++ declaring)) rest quiet ∙ quiet_labels (boxing_of r l) (frees_frame pointer_name ∷ piece_statements p r l) (quiet_boxes r l)

  gotos_are : gotos_of lines ≡ gotos_of (piece_statements p r l)
  gotos_are = quiet_gotos (first ∷ (loading ++ declaring)) rest quiet ∙ quiet_gotos (boxing_of r l) (frees_frame pointer_name ∷ piece_statements p r l) (quiet_boxes r l)

  rest_lines : AreLines rest
  rest_lines = lines_append (boxing_of r l) _ (bare_lines (boxing_of r l) (boxes_done r l)) (refl, piece_lines p r l)

  abbrev declared_names : List Text
  declared_names = frame_name ∷ (names_of (map Flat.loaded (loads_of p r l)) ++ names_of (declares_of p r l))

  append_none : (xs : List Text) → xs ++ [] ≡ xs
  append_none [] = refl
  append_none (x ∷ xs) = ap (λ ys. x ∷ ys) (append_none xs)

  locals_are : stmt_locals lines ≡ declared_names
  locals_are =
      ap (λ xs. frame_name ∷ xs)
      (locals_append (loading ++ declaring) rest
      ∙ (ap (λ xs. stmt_locals (loading ++ declaring) ++ xs) (lines_declare rest rest_lines)
      ∙ (append_none (stmt_locals (loading ++ declaring)) ∙ (locals_append loading declaring ∙ (ap (λ xs. xs ++ stmt_locals declaring) (loads_declare frame_name (loads_of p r l)) ∙ ap (λ xs. names_of (map Flat.loaded (loads_of p r l)) ++ xs) (declares_declare (declares_of p r l)))))))

  -- ---- names

  local_unkept : (j : ℕ) → is_kept (local_of r j).called ≡ false
  local_unkept j = variable_free j (variable_of r j).called (by (slice_get (variables f) j) refl)
    where
      by : (o : Option Variable) → slice_get (variables f) j ≡ o → is_kept (variable_or o).called ≡ false
      by None e = refl
      by (Some x) e = ((source.names.functions f known.found.cps.has).plain j x e).unkept

  locals_unkept : (js : List ℕ) → NoneKept (names_of (locals_of r js))
  locals_unkept [] = NoneIsKept
  locals_unkept (j ∷ js) = AndUnkept (local_of r j).called (names_of (locals_of r js)) (local_unkept j) (locals_unkept js)

  loads_unkept : (js : List ℕ) → NoneKept (names_of (map Flat.loaded (map load_of (locals_of r js))))
  loads_unkept [] = NoneIsKept
  loads_unkept (j ∷ js) = AndUnkept (local_of r j).called _ (local_unkept j) (loads_unkept js)

  declared_unkept : NoneKept declared_names
  declared_unkept =
      AndUnkept frame_name _ refl
      (unkept_both (names_of (map Flat.loaded (loads_of p r l))) (names_of (declares_of p r l)) (AndUnkept next_name _ refl (value (takes_value r l)))
      (subst NoneKept (sym (names_append (words_of p r l) (locals_of r (begun r l)))) (unkept_both (names_of (words_of p r l)) (names_of (locals_of r (begun r l))) (words_unkept _ _ _ f.result) (locals_unkept (begun r l)))))
    where
      value : (b : Bool) → NoneKept (names_of (map Flat.loaded ((if b then record { variable = value_name; type = arriving_type p r l; field = value_field } ∷ [] else []) ++ map load_of (locals_of r (P.loaded r l)))))
      value true = AndUnkept value_name _ refl (loads_unkept (P.loaded r l))
      value false = loads_unkept (P.loaded r l)

  rows_unkept : (rs : List PutRow) (ns : List ℕ) → NoneKept (labels_of (rows_statements rs (put_rows (map (row_of p r l) ns))))
  rows_unkept rs [] = NoneIsKept
  rows_unkept rs (n ∷ ns) =
      let o = first_number (map (row_of p r l) ns) in
      let its = (row_of p r l n).lines in
      let more = rows_statements rs (put_rows (map (row_of p r l) ns)) in
      subst NoneKept (sym (labels_append (row_statements rs (record { number = n; puts = put_lines o its })) more))
      (unkept_both _ (labels_of more)
      (⊎_elim (λ i. subst NoneKept (sym i) NoneIsKept) (λ i. subst NoneKept (sym i) (AndUnkept (node_label n) [] (label_unkept n) NoneIsKept)) (row_labels (is_wanted n rs) (node_label n) (map put_statement (put_lines o its)) (puts_done o its (lines_done (is_own r.split l n) p r n))))
      (rows_unkept rs ns))

  -- ---- how many

  kept_few : (m : Place) → length (closure_of r m) ≤ 255
  kept_few m = let a = kept_number p f known l owner m in let b = known.few_variables in omega (arith, a, b)

  loaded_few : (m : Place) → length (P.loaded r m) ≤ 255
  loaded_few Start = let a = chosen_few (λ j. is_parameter f j && is_plain r j) (closure_of r Start) in let b = kept_few Start in omega (arith, a, b)
  loaded_few (At n) = kept_few (At n)

  all_boxes_few : length r.boxes ≤ 255
  all_boxes_few =
      let a = boxes_few p f.called 0 (variable_count p f.called) in
      let b : variable_count p f.called ≡ length (variables f) = ap variables_in known.found.named in
      let c = known.few_variables in omega (arith, a, b, c)

  begun_few : (m : Place) → length (begun r m) ≤ 510
  begun_few Start =
      let a = chosen_few (λ j. not (is_parameter f j) && is_plain r j) (closure_of r Start) in
      let b = kept_few Start in
      let c = all_boxes_few in
      let d = length_of_append (chosen (λ j. not (is_parameter f j) && is_plain r j) (closure_of r Start)) r.boxes in
      omega (arith, a, b, c, d)
  begun_few (At n) = omega arith

  value_few : length (value_load p r l) ≤ 1
  value_few = by (takes_value r l)
    where
      by : (b : Bool) → length {A = Load} (if b then record { variable = value_name; type = arriving_type p r l; field = value_field } ∷ [] else []) ≤ 1
      by true = omega arith
      by false = omega arith

  declared_few : length declared_names ≤ 1000
  declared_few =
      let a = length_of_append (names_of (map Flat.loaded (loads_of p r l))) (names_of (declares_of p r l)) in
      let b = length_of_map (λ (x : Variable). x.called) (map Flat.loaded (loads_of p r l)) in
      let c = length_of_map Flat.loaded (loads_of p r l) in
      let d = length_of_append (value_load p r l) (map load_of (locals_of r (P.loaded r l))) in
      let e = length_of_map load_of (locals_of r (P.loaded r l)) in
      let h = length_of_map (local_of r) (P.loaded r l) in
      let i = length_of_map (λ (x : Variable). x.called) (declares_of p r l) in
      let j = length_of_append (words_of p r l) (locals_of r (begun r l)) in
      let m = length_of_map (local_of r) (begun r l) in
      let n1 = loaded_few l in
      let n2 = begun_few l in
      let n3 = value_few in
      let n4 : length (words_of p r l) ≤ 3 = words_few _ _ _ f.result in
      omega (arith, a, b, c, d, e, h, i, j, m, n1, n2, n3, n4)

  flat_body : FlatFine (map parameter_here g.parameters) lines
  flat_body =
      let few = declared_few in
      let counted = ap length locals_are in
      flat_fine (map parameter_here g.parameters) lines flat (subst Distinct (sym labels_are) (labels_stand_once p f l known.few_nodes))
      (subst (λ xs. AllOf xs (gotos_of lines)) (sym labels_are) (subst (AllOf (labels_of (piece_statements p r l))) (sym gotos_are) (gotos_lead p f l owner)))
      (unkept_both (stmt_locals lines) (labels_of lines) (subst NoneKept (sym locals_are) declared_unkept) (subst NoneKept (sym labels_are) (rows_unkept (put_in p r l) (numbers_of p r l))))
      (let z : 1 + length (stmt_locals lines) ≤ 1023 = omega (arith, few, counted) in z)

  pub piece_fine : BodyFine items g
  piece_fine =
      let rows = rows_fine w v lines NoStmt runs refl in
      record {
        body =
            subst (λ i. body_breaks (event (over (items ++ i ∷ []) (parameter_block [] (map parameter_here g.parameters) ∷ [])) Native any_pointer) (stmt_here g.body) ≡ []) (sym (item_again (FunctionItem g)))
            (subst (λ s. body_breaks w (stmt_here s) ≡ []) (sym is_body) rows);
        names = subst (λ s. reserved_breaks D.Event (locals (stmt_here s) ++ labels (stmt_here s)) ≡ []) (sym is_body) flat_body.reserved;
        labelled = subst (λ s. label_breaks (stmt_here s) ≡ []) (sym is_body) flat_body.labelled;
        stray = subst (λ s. stray_breaks (stmt_here s) ≡ []) (sym is_body) flat_body.stray;
        few = subst (λ s. many_breaks D.Event (map parameter_here g.parameters) (stmt_here s) ≡ []) (sym is_body) flat_body.many;
      }
