-- What is made for an owner: its opening is help, and behind it come its rows.
use Rattle.std.proofs.Common.{◌≡◌, ℕ, Bool, true, false, ◌&&◌, List, [], ◌∷◌, ◌++◌, map, Some, refl, sym, ◌∙◌, ap}
use Rattle.cpc_base.specs.Bytes.{Text}
use Rattle.cpc_tree.specs.Syntax.{Stmt, Declare, ENamed, Block, NoStmt, AndStmt, TyPointer, TyStruct, Variable, Function, Program}
use Rattle.cpc_tree.specs.Typing.{is_scalar}
use Rattle.cpc_forms.specs.Control as C
use Rattle.cpc_forms.specs.Flow.{Place, Start, At}
use Rattle.cpc_graph_laws.specs.Laws.{place_of, is_node}
use Rattle.cpc_convert_flat_laws.specs.Flat.{before}
use Rattle.cpc_convert_flat_laws.specs.Locals.{Load, loads_one, declares_one}
use Rattle.cpc_chains_store_laws.specs.Frames.{frees_frame}
use Rattle.cpc_convert_flat_laws.proofs.Rows.{before_append}
use Rattle.cpc_convert_routines.specs.Named.{IsOwner}
use Rattle.cpc_convert_routines.specs.Names.{piece_name, box_tag, variable_name, pointer_name, frame_name}
use Rattle.cpc_chains_event.specs.Pieces.{fills_if, box_lines, boxing_lines, boxing_of, loads_of, declares_of, piece_body}
use Rattle.cpc_convert_routines.specs.Routines.{Routine, routine_of, stood_variable, variable_of, is_parameter}
use Rattle.cpc_chains_event.specs.Rows.{piece_statements}
use Rattle.cpc_chains_event.proofs.Apart.{behind, piece_is}
use Rattle.cpc_chains_laws.specs.Shape.Help.{TakesUp, Loads, Declares, GivesFrame, MakesBox, FillsBox, Between, Done, Helps}
use Rattle.cpc_chains_laws.specs.Shape.Shape.{IsPiece}
use Rattle.cpc_chains_laws.proofs.Shape.Locals.{apart, locals_typed}
use Rattle.cpc_chains_laws.proofs.Shape.Declared.{locals_there}
use Rattle.cpc_chains_laws.proofs.Shape.Strewn.{bares, all_bare}
use Rattle.cpc_lifted_laws.proofs.Shape.Calls.{CpsTyped}
use Rattle.cpc_chains_laws.proofs.Shape.Points.{made_in}
use Rattle.cpc_chains_laws.proofs.Shape.Rows.{piece_rows, all_points}
use Rattle.cpc_chains_laws.proofs.Shape.Owned.{one_place, points_distinct, owned_has, has_owned}

-- ---- the opening

loads_help : (ls : List Load) → Between [] (bares (map (loads_one frame_name) ls))
loads_help [] = Done
loads_help (x ∷ ls) = Helps _ [] _ (Loads x) (loads_help ls)

declares_help : (xs : List Variable) → Between [] (bares (map declares_one xs))
declares_help [] = Done
declares_help (x ∷ xs) = Helps _ [] _ (Declares x) (declares_help xs)

fills_help : (b : Bool) (x y : Text) → Between [] (bares (fills_if b x y))
fills_help true x y = Helps _ [] [] (FillsBox x y x) Done
fills_help false x y = Done

box_help : (r : Routine) (k : ℕ) (x : Variable) → Between [] (bares (box_lines r k x))
box_help r k x = Helps _ [] _ (MakesBox (stood_variable r k x).called (box_tag r.function.called k)) (fills_help (is_parameter r.function k && is_scalar x.type) (stood_variable r k x).called x.called)

boxing_help : (r : Routine) (ks : List ℕ) → Between [] (bares (boxing_lines r ks))
boxing_help r [] = Done
boxing_help r (k ∷ ks) = all_bare [] [] (box_lines r k (variable_of r k)) (boxing_lines r ks) (box_help r k (variable_of r k)) (boxing_help r ks)

boxes_help : (r : Routine) (l : Place) → Between [] (bares (boxing_of r l))
boxes_help r Start = boxing_help r r.boxes
boxes_help r (At n) = Done

module _ (p : Program) (r : Routine) (l : Place) where
  abbrev loads : List Stmt
  loads = map (loads_one frame_name) (loads_of p r l)

  abbrev declared : List Stmt
  declared = map declares_one (declares_of p r l)

  abbrev behind_boxes : List Stmt
  behind_boxes = frees_frame pointer_name ∷ piece_statements p r l

  abbrev first : Stmt
  first = Declare frame_name (TyPointer (TyStruct (piece_name r.function.called l))) (Some (ENamed pointer_name))

  -- the statements of a piece
  abbrev body_of : List Stmt
  body_of = first ∷ (loads ++ (declared ++ (boxing_of r l ++ behind_boxes)))

  body_is : piece_body p r l ≡ before body_of NoStmt
  body_is = ap (AndStmt first)
      (sym (before_append loads (declared ++ (boxing_of r l ++ behind_boxes)) NoStmt
      ∙ ap (before loads) (before_append declared (boxing_of r l ++ behind_boxes) NoStmt ∙ ap (before declared) (before_append (boxing_of r l) behind_boxes NoStmt))))

  body_between : (images : List Stmt) → Between images (bares (piece_statements p r l)) → Between images (bares body_of)
  body_between images h =
      Helps _ images _ (TakesUp (piece_name r.function.called l))
      (all_bare [] images loads (declared ++ (boxing_of r l ++ behind_boxes)) (loads_help (loads_of p r l))
      (all_bare [] images declared (boxing_of r l ++ behind_boxes) (declares_help (declares_of p r l))
      (all_bare [] images (boxing_of r l) behind_boxes (boxes_help r l) (Helps _ images _ GivesFrame h))))

module _ (p : Program) (f : Function) (known : CpsTyped p f) where
  -- what is made for an owner is a piece
  pub is_piece : (owner : C.Node) → is_node f.body owner ≡ true → IsOwner (routine_of p f) (place_of f.body owner) → IsPiece p f owner (made_in p)
  is_piece owner there owns =
      let l = place_of f.body owner in
      let rows = piece_rows p f known l in
      record {
        rest = behind l;
        called = piece_is f.called l;
        native = refl;
        spelled = variable_name;
        apart = apart p f known;
        typed = locals_typed p f known l owns;
        declared = locals_there p f known owner owns;
        points = all_points p f known l;
        owned = λ a. (has_owned p f known l owner refl there a, owned_has p f known l owner refl a);
        once = one_place (all_points p f known l) (points_distinct p f known l);
        images = rows.images;
        are_images = rows.are_images;
        body = body_of p (routine_of p f) l;
        is_body = ap (λ ss. Block ss) (body_is p (routine_of p f) l);
        between = body_between p (routine_of p f) l rows.images rows.between;
      }
