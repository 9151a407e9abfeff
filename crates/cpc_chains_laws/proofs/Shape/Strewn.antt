-- Lists of statements with help between images, put together; and what of a piece is help.
use Rattle.std.proofs.Common.{◌≡◌, ℕ, Bool, true, false, List, [], ◌∷◌, ◌++◌, map, Option, Some, None, refl, sym, ap, subst, if◌then◌else◌}
use Rattle.cpc_base.specs.Bytes.{Text}
use Rattle.cpc_tree.specs.Syntax.{Stmt, Empty, Goto}
use Rattle.cpc_convert_flat_laws.specs.Flat.{bare}
use Rattle.cpc_convert_flat_laws.specs.Boxes.{unboxes_one}
use Rattle.cpc_convert_flat_laws.specs.Locals.{saves_one}
use Rattle.cpc_chains_store_laws.specs.Frames.{frame_through}
use Rattle.cpc_forms.specs.Flow.{Place, At}
use Rattle.cpc_chains_event.specs.Lines.{Line, goes, passes, save_of, all_do, frame_lines, hands_over, unbox_lines}
use Rattle.cpc_convert_routines.specs.Names.{piece_name, node_label, to_name}
use Rattle.cpc_convert_routines.specs.Routines.{Routine, closure_of, local_of}
use Rattle.cpc_chains_event.specs.Rows.{Plain, Jump, is_next, put_lines, put_statement, label_if, stub_lines}
use Rattle.cpc_chains_laws.proofs.Piece.Frames.{puts_do}
use Rattle.cpc_chains_laws.specs.Shape.Help.{IsNew, HandedOver, names_code, GivesBox, MakesFrame, NamesCode, Links, Saves, HandsOver, GoesOn, Between, Done, Helps, Stands}
use Rattle.cpc_chains_laws.specs.Shape.Images.{IsQuiet, AnEmpty, AGoto}

-- statements without their labels
abbrev pub bares : List Stmt → List Stmt
bares ss = map bare ss

pub bares_append : (xs ys : List Stmt) → bares (xs ++ ys) ≡ bares xs ++ bares ys
bares_append [] ys = refl
bares_append (x ∷ xs) ys = ap (λ zs. bare x ∷ zs) (bares_append xs ys)

pub both : (is js ss ts : List Stmt) → Between is ss → Between js ts → Between (is ++ js) (ss ++ ts)
both _ js _ ts Done k = k
both _ js _ ts (Helps s is ss h rest) k = Helps s (is ++ js) (ss ++ ts) h (both is js ss ts rest k)
both _ js _ ts (Stands s is ss rest) k = Stands s (is ++ js) (ss ++ ts) (both is js ss ts rest k)

pub all_bare : (is js xs ys : List Stmt) → Between is (bares xs) → Between js (bares ys) → Between (is ++ js) (bares (xs ++ ys))
all_bare is js xs ys h k = subst (λ zs. Between (is ++ js) zs) (sym (bares_append xs ys)) (both is js (bares xs) (bares ys) h k)

-- a label before a row is not seen
pub labelled_bare : (b : Bool) (l : Text) (ss : List Stmt) → bares (label_if b l ss) ≡ bares ss
labelled_bare true l [] = refl
labelled_bare true l (s ∷ ss) = refl
labelled_bare false l ss = refl

-- ---- frames

saves_help : (r : Routine) (to tag : Text) (ks : List ℕ) → IsNew to → Between [] (bares (map (saves_one (frame_through to tag)) (map (λ k. save_of (local_of r k)) ks)))
saves_help r to tag [] new = Done
saves_help r to tag (k ∷ ks) new = Helps _ [] _ (Saves to tag (save_of (local_of r k)) new) (saves_help r to tag ks new)

-- making and filling a frame is help
pub frame_help : (r : Routine) (to : Text) (l : Place) → IsNew to → Between [] (bares (frame_lines r to l))
frame_help r to l new =
    Helps _ [] _ (MakesFrame to (piece_name r.function.called l) new)
    (Helps _ [] _ (NamesCode to (piece_name r.function.called l) new)
    (Helps _ [] _ (Links to new) (saves_help r to (piece_name r.function.called l) (closure_of r l) new)))

-- or its code is named by an image, and the rest is help
pub frame_image : (r : Routine) (to : Text) (l : Place) → IsNew to → Between (names_code to (piece_name r.function.called l) ∷ []) (bares (frame_lines r to l))
frame_image r to l new =
    Helps _ _ _ (MakesFrame to (piece_name r.function.called l) new)
    (Stands _ [] _ (Helps _ [] _ (Links to new) (saves_help r to (piece_name r.function.called l) (closure_of r l) new)))

boxes_help : (r : Routine) (ks : List ℕ) → Between [] (bares (map (λ k. unboxes_one (local_of r k).called) ks))
boxes_help r [] = Done
boxes_help r (k ∷ ks) = Helps _ [] _ (GivesBox (local_of r k).called) (boxes_help r ks)

-- so is giving the boxes back
pub unboxes_help : (r : Routine) → Between [] (bares (unbox_lines r))
unboxes_help r = boxes_help r r.boxes

-- ---- lines

-- lines as statements, where this number stands next
abbrev pub put : Option ℕ → List Line → List Stmt
put o xs = map put_statement (put_lines o xs)

-- statements as lines are these statements
pub put_do : (is : List Stmt) (o : Option ℕ) (ss : List Stmt) → Between is (bares ss) → Between is (bares (put o (all_do ss)))
put_do is o ss h = subst (λ xs. Between is (bares xs)) (sym (puts_do o ss)) h

-- a way behind a statement is help
pub goes_help : (o n : Option ℕ) → Between [] (bares (put o (goes n)))
goes_help o None = Done
goes_help o (Some n) = go (is_next n o)
  where
    go : (b : Bool) → Between [] (bares (map put_statement ((if b then [] else Jump n ∷ []) ++ [])))
    go true = Done
    go false = Helps _ [] [] (GoesOn (node_label n)) Done

-- what stands in place of a statement that changes no variable changes none
pub record Quiet (ss : List Stmt) : Type 0 where
  pub statement : Stmt
  pub is_quiet : IsQuiet statement
  pub between : Between (statement ∷ []) (bares ss)

pub passes_quiet : (o n : Option ℕ) → Quiet (put o (passes n ∷ []))
passes_quiet o None = record { statement = Empty; is_quiet = AnEmpty; between = Stands Empty [] [] Done }
passes_quiet o (Some n) = go (is_next n o)
  where
    go : (b : Bool) → Quiet (map put_statement ((if b then Plain Empty ∷ [] else Jump n ∷ []) ++ []))
    go true = record { statement = Empty; is_quiet = AnEmpty; between = Stands Empty [] [] Done }
    go false = record { statement = Goto (node_label n); is_quiet = AGoto (node_label n); between = Stands (Goto (node_label n)) [] [] Done }

-- the row that goes to a leader is help
pub stub_help : (r : Routine) (o : Option ℕ) (n : ℕ) → Between [] (bares (put o (stub_lines r n)))
stub_help r o n = put_do [] o (frame_lines r to_name (At n) ++ (hands_over to_name ∷ [])) (all_bare [] [] (frame_lines r to_name (At n)) (hands_over to_name ∷ []) (frame_help r to_name (At n) HandedOver) (Helps _ [] [] HandsOver Done))
