-- What is written of a piece is its body, and what is made of it its function.
use Rattle.std.proofs.Common.{◌≡◌, ℕ, suc, ◌+◌, ◌<◌, ◌≤◌, ◌||◌, not, Bool, List, [], ◌∷◌, ◌++◌, map, length, drop, get_or, Some, sym, ◌∙◌, ap, arith}
use Rattle.std.proofs.lemmas.List.{append_assoc, drop_all}
use Rattle.std.proofs.Math.Seq.{drop-cons}
use Rattle.cpc_base.specs.Bytes.{Text}
use Rattle.cpc_base.proofs.Lists.{append_empty}
use Rattle.cpc_tree.specs.declared.program.Mode.TheVariants.{Native}
use Rattle.cpc_tree.specs.Lists.{is_empty}
use Rattle.cpc_tree.specs.Syntax.{Ty, TyPointer, TyStruct, ENamed, Stmt, Block, Declare, Stmts, NoStmt, AndStmt, Item, FunctionItem, Program}
use Rattle.cpc_convert_common.specs.Converted.{function_item}
use Rattle.cpc_forms.specs.Flow.{Place, At}
use Rattle.cpc_chains_store_laws.specs.Driver.{any_pointer}
use Rattle.cpc_convert_flat_laws.specs.Flat.{before}
use Rattle.cpc_convert_flat_laws.specs.Locals.{loads_one, declares_one}
use Rattle.cpc_chains_store_laws.specs.Frames.{frees_frame}
use Rattle.cpc_convert_flat_laws.proofs.Rows.{before_append}
use Rattle.cpc_convert_routines.specs.Names.{frame_name, pointer_name, piece_name}
use Rattle.cpc_convert_routines.specs.Taken.{any_node, is_result}
use Rattle.cpc_chains_event.specs.Pieces.{is_wait, is_entry, words_if, words_of, begun, loads_of, boxing_of, parameter_of, called_so, piece_body, piece_function, leader_function}
use Rattle.cpc_convert_routines.specs.Routines.{Routine, locals_of}
use Rattle.cpc_convert_routines.specs.Nodes.{rows_nodes}
use Rattle.cpc_chains_event.specs.Rows.{stubs_of, piece_statements}
use Rattle.cpc_chains_lines.specs.Written.{Written, puts}
use Rattle.cpc_chains_lines.proofs.Puts.{behind as two_written}
use Rattle.cpc_chains_opening.specs.Parts.{loading_of, declaring_of, opening_of}
use Rattle.cpc_chains_opening.proofs.Written.{map_both}

-- the same words
pub words_same : (w : Written) (t : Ty) (a b c d e f : Bool) → a ≡ d → b ≡ e → c ≡ f → puts w (map declares_one (words_if a b c t)) ≡ puts w (map declares_one (words_if d e f t))
words_same w t a b c d e f i j k =
    ap (λ x. puts w (map declares_one (words_if x b c t))) i ∙ (ap (λ x. puts w (map declares_one (words_if d x c t))) j ∙ ap (λ x. puts w (map declares_one (words_if d e x t))) k)

-- words and locals that are declared
pub declared_both : (p : Program) (r : Routine) (l : Place) (nodes leaders : List ℕ) (w a b : Written) → nodes ≡ rows_nodes r.split l → leaders ≡ stubs_of r l
    → a ≡ puts w (map declares_one (words_if (not (is_empty leaders) || any_node r (λ node. is_wait node.manner node.stood) nodes) (any_node r (λ node. is_entry p node.stood) nodes) (any_node r (λ node. is_result node.stood) nodes) r.function.result))
    → b ≡ puts a (map declares_one (locals_of r (begun r l))) → b ≡ puts w (declaring_of p r l)
declared_both p r l nodes leaders w a b ns ls e f =
    let words : a ≡ puts w (map declares_one (words_of p r l)) =
    e
    ∙ (ap (λ xs. puts w (map declares_one (words_if (not (is_empty leaders) || any_node r (λ node. is_wait node.manner node.stood) xs) (any_node r (λ node. is_entry p node.stood) xs) (any_node r (λ node. is_result node.stood) xs) r.function.result))) ns
    ∙ ap (λ xs. puts w
    (map declares_one
    (words_if (not (is_empty xs) || any_node r (λ node. is_wait node.manner node.stood) (rows_nodes r.split l)) (any_node r (λ node. is_entry p node.stood) (rows_nodes r.split l)) (any_node r (λ node. is_result node.stood) (rows_nodes r.split l)) r.function.result)))
    ls) in
    two_written w a b (map declares_one (words_of p r l)) (map declares_one (locals_of r (begun r l))) words f
    ∙ ap (puts w) (sym (map_both declares_one (words_of p r l) (locals_of r (begun r l))))

-- the body of a piece
pub body_is : (p : Program) (r : Routine) (l : Place) (done : List Stmt) → done ≡ opening_of p r l ++ piece_statements p r l → before done NoStmt ≡ piece_body p r l
body_is p r l done e =
    let rows = before (piece_statements p r l) NoStmt in
    let behind = frees_frame pointer_name ∷ [] in
    let takes = Declare frame_name (TyPointer (TyStruct (piece_name r.function.called l))) (Some (ENamed pointer_name)) in
    let loads = map (loads_one frame_name) (loads_of p r l) in
    ap (λ d. before d NoStmt) e
    ∙ (before_append (opening_of p r l) (piece_statements p r l) NoStmt
    ∙ (before_append (loading_of p r l) (declaring_of p r l ++ (boxing_of r l ++ behind)) rows
    ∙ ap (λ x. AndStmt takes (before loads x)) (before_append (declaring_of p r l) (boxing_of r l ++ behind) rows ∙ ap (before (declaring_of p r l)) (before_append (boxing_of r l) behind rows))))

-- a piece, made
abbrev pub made : Text → Stmts → Item
made called body =
    FunctionItem (record {
      mode = Native;
      called = called;
      result = any_pointer;
      parameters = parameter_of (called_so pointer_name any_pointer) ∷ [];
      body = Block body;
    })

pub piece_made : (p : Program) (r : Routine) (l : Place) (items new : List Item) (called : Text) (done : List Stmt) → called ≡ piece_name r.function.called l → done ≡ opening_of p r l ++ piece_statements p r l
    → new ≡ items ++ made called (before done NoStmt) ∷ [] → new ≡ items ++ FunctionItem (piece_function p r l) ∷ []
piece_made p r l items new called done name e f =
    f ∙ (ap (λ x. items ++ made x (before done NoStmt) ∷ []) name ∙ ap (λ b. items ++ made (piece_name r.function.called l) b ∷ []) (body_is p r l done e))

-- the pieces of the leaders that are left, behind one more
pub leader_more : (p : Program) (r : Routine) (ns : List ℕ) (i : ℕ) (items new total : List Item) → i < length ns → new ≡ items ++ FunctionItem (piece_function p r (At (get_or ns i 0))) ∷ []
    → items ++ map function_item (map (leader_function p r) (drop i ns)) ≡ total → new ++ map function_item (map (leader_function p r) (drop (i + 1) ns)) ≡ total
leader_more p r ns i items new total lt e before =
    let step : suc i ≡ i + 1 = omega arith in
    ap (λ k. new ++ map function_item (map (leader_function p r) (drop k ns))) (sym step)
    ∙ (ap (λ x. x ++ map function_item (map (leader_function p r) (drop (suc i) ns))) e
    ∙ (append_assoc items (FunctionItem (piece_function p r (At (get_or ns i 0))) ∷ []) (map function_item (map (leader_function p r) (drop (suc i) ns)))
    ∙ (ap (λ xs. items ++ map function_item (map (leader_function p r) xs)) (sym (drop-cons ns i 0 lt)) ∙ before)))

-- when none is left
pub leaders_done : (p : Program) (r : Routine) (ns : List ℕ) (i : ℕ) (items total : List Item) → length ns ≤ i → items ++ map function_item (map (leader_function p r) (drop i ns)) ≡ total → items ≡ total
leaders_done p r ns i items total past e = sym (append_empty items) ∙ (ap (λ xs. items ++ map function_item (map (leader_function p r) xs)) (sym (drop_all i ns past)) ∙ e)
