-- Pieces are flat, and their lines stand behind their openings.
use Rattle.std.proofs.Common.{◌≡◌, ℕ, ◌+◌, Bool, true, false, List, [], ◌∷◌, ◌++◌, map, length, Some, refl, ◌∙◌, ap, subst, arith}
use Rattle.cpc_base.specs.Bytes.{Text}
use Rattle.cpc_base.proofs.Truth.{and_holds}
use Rattle.cpc_tree.specs.Syntax.{TyPointer, TyStruct, ENamed, Declare, Stmt, Stmts, NoStmt, AndStmt, Program}
use Rattle.cpc_tree.specs.Typing.{Scope}
use Rattle.cpc_tree.specs.Registers.{outer_scope}
use Rattle.cpc_forms.specs.Flow.{Place, Start, At}
use Rattle.cpc_convert_flat_laws.specs.Flat.{before, is_line, is_flat, are_flat, are_lines, Stands}
use Rattle.cpc_convert_flat_laws.specs.Locals.{loads_one, loaded_scope, declares_one}
use Rattle.cpc_chains_store_laws.specs.Frames.{frees_frame}
use Rattle.cpc_convert_flat_laws.proofs.Flat.{at_first, passed}
use Rattle.cpc_convert_flat_laws.proofs.Lines.{line_flat}
use Rattle.cpc_convert_flat_laws.proofs.Scopes.{all_lines, past_lines, lines_flat}
use Rattle.cpc_chains_store_laws.proofs.Taking.{past_loads}
use Rattle.cpc_chains_store_laws.proofs.Prologue.{past_declares}
use Rattle.cpc_convert_flat_laws.proofs.Rows.{before_append}
use Rattle.cpc_convert_routines.specs.Names.{piece_name, pointer_name, frame_name}
use Rattle.cpc_convert_routines.specs.Routines.{Routine, variable_of}
use Rattle.cpc_chains_event.specs.Rows.{piece_statements}
use Rattle.cpc_chains_event.specs.Pieces.{loads_of, declares_of, fills_if, box_lines, boxing_lines, boxing_of, piece_body, piece_function}
use Rattle.cpc_chains_event.specs.FlatLaws.{opening, piece_scope, piece_count, PiecesAreFlat, StatementsStand}
use Rattle.cpc_chains_event.proofs.Lines.{AreBare, AreLines, bare_append, bare_lines, piece_lines}

-- ---- boxes

fills_done : (b : Bool) (x y : Text) → AreBare (fills_if b x y)
fills_done true x y = (refl, tt)
fills_done false x y = tt

boxing_done : (r : Routine) (ks : List ℕ) → AreBare (boxing_lines r ks)
boxing_done r [] = tt
boxing_done r (k ∷ ks) = bare_append (box_lines r k (variable_of r k)) (boxing_lines r ks) (refl, fills_done _ _ _) (boxing_done r ks)

pub boxes_done : (r : Routine) (l : Place) → AreBare (boxing_of r l)
boxes_done r Start = boxing_done r r.boxes
boxes_done r (At n) = tt

-- ---- rows of statements

pub all_true : (ss : List Stmt) → AreLines ss → all_lines ss ≡ true
all_true [] h = refl
all_true (s ∷ ss) h = and_holds (is_line s) (all_lines ss) h.0 (all_true ss h.1)

lines_before : (ss : List Stmt) → AreLines ss → are_lines (before ss NoStmt) ≡ true
lines_before [] h = refl
lines_before (s ∷ ss) h = and_holds (is_line s) (are_lines (before ss NoStmt)) h.0 (lines_before ss h.1)

flat_before : (ss : List Stmt) (rest : Stmts) → AreLines ss → are_flat rest ≡ true → are_flat (before ss rest) ≡ true
flat_before [] rest h e = e
flat_before (s ∷ ss) rest h e = and_holds (is_flat s) (are_flat (before ss rest)) (line_flat s h.0) (flat_before ss rest h.1 e)

flat_map : {X : Type 0} (f : X → Stmt) → ((x : X) → is_flat (f x) ≡ true) → (xs : List X) (rest : Stmts) → are_flat rest ≡ true → are_flat (before (map f xs) rest) ≡ true
flat_map f h [] rest e = e
flat_map f h (x ∷ xs) rest e = and_holds (is_flat (f x)) (are_flat (before (map f xs) rest)) (h x) (flat_map f h xs rest e)

front_lines : (xs ys : List Stmt) → AreLines (xs ++ ys) → AreLines xs
front_lines [] ys h = tt
front_lines (x ∷ xs) ys h = (h.0, front_lines xs ys h.1)

-- ---- pieces

module _ (p : Program) (r : Routine) (l : Place) where
  flat_rest : are_flat (before (piece_statements p r l) NoStmt) ≡ true
  flat_rest = lines_flat (before (piece_statements p r l) NoStmt) (lines_before (piece_statements p r l) (piece_lines p r l))

  flat_piece : are_flat (piece_body p r l) ≡ true
  flat_piece =
      let lines = AndStmt (frees_frame pointer_name) (before (piece_statements p r l) NoStmt) in
      let boxes = before (boxing_of r l) lines in
      flat_map (loads_one frame_name) (λ x. refl) (loads_of p r l) (before (map declares_one (declares_of p r l)) boxes)
      (flat_map declares_one (λ x. refl) (declares_of p r l) boxes (flat_before (boxing_of r l) lines (bare_lines (boxing_of r l) (boxes_done r l)) flat_rest))

  -- behind the opening
  opened : Stands (piece_function p r l) (piece_body p r l) (opening p r l) (piece_scope p r l) (piece_count p r l) (before (piece_statements p r l) NoStmt)
  opened =
      let g = piece_function p r l in
      let body = piece_body p r l in
      let ls = loads_of p r l in
      let ds = declares_of p r l in
      let tag = piece_name r.function.called l in
      let scope0 : Scope = record { called = frame_name; type = TyPointer (TyStruct tag); slot = 1 } ∷ outer_scope g in
      let scope1 = loaded_scope scope0 2 ls in
      let lines = before (piece_statements p r l) NoStmt in
      let freed = AndStmt (frees_frame pointer_name) lines in
      let boxes = before (boxing_of r l) freed in
      let declared = before (map declares_one ds) boxes in
      let loaded = before (map (loads_one frame_name) ls) declared in
      let s1 = passed g body 0 (outer_scope g) 1 (Declare frame_name (TyPointer (TyStruct tag)) (Some (ENamed pointer_name))) loaded (at_first g body refl flat_piece) in
      let s2 = past_loads g body frame_name 1 scope0 2 declared ls s1 in
      let s3 = past_declares g body (1 + length ls) scope1 (2 + length ls) boxes ds s2 in
      let s4 = past_lines g body ((1 + length ls) + length ds) (piece_scope p r l) (piece_count p r l) (boxing_of r l) freed (all_true (boxing_of r l) (bare_lines (boxing_of r l) (boxes_done r l))) s3 in
      subst (λ m. Stands g body (opening p r l) (piece_scope p r l) m lines) (let z : piece_count p r l + 0 ≡ piece_count p r l = omega arith in z)
      (passed g body (((1 + length ls) + length ds) + length (boxing_of r l)) (piece_scope p r l) (piece_count p r l) (frees_frame pointer_name) lines s4)

pub pieces_flat : PiecesAreFlat
pieces_flat p r l = (flat_piece p r l, lines_before (piece_statements p r l) (piece_lines p r l))

pub statements_stand : StatementsStand
statements_stand p r l front rest e =
    past_lines (piece_function p r l) (piece_body p r l) (opening p r l) (piece_scope p r l) (piece_count p r l) front (before rest NoStmt) (all_true front (front_lines front rest (subst AreLines e (piece_lines p r l))))
    (subst (λ ss. Stands (piece_function p r l) (piece_body p r l) (opening p r l) (piece_scope p r l) (piece_count p r l) ss) (ap (λ ss. before ss NoStmt) e ∙ before_append front rest NoStmt) (opened p r l))
