-- What stands in a function that is made of a cps function besides the images of its points: its own frame is taken up and given back; boxes and
-- frames are made, filled and given back; a frame is handed to the driver; and control goes on.
use Rattle.std.specs.Prelude.{List, [], ◌∷◌, Some, None}
use Rattle.cpc_base.specs.Bytes.{Text}
use Rattle.cpc_tree.specs.Syntax.{TyPointer, TyStruct, ENamed, ESizeOf, EArrow, Stmt, Declare, Assign, Goto, Variable}
use Rattle.cpc_convert_flat_laws.specs.Boxes.{boxes_one, fills_box, unboxes_one}
use Rattle.cpc_chains_store_laws.specs.Driver.{code_field, next_field}
use Rattle.cpc_convert_flat_laws.specs.Locals.{Save, saves_one, Load, loads_one, declares_one}
use Rattle.cpc_chains_store_laws.specs.Frames.{frame_through, asks_block, frees_frame}
use Rattle.cpc_chains_event.specs.Lines.{hands_over}
use Rattle.cpc_convert_routines.specs.Names.{pointer_name, frame_name, next_name, value_name, to_name, under_name, result_name}

-- the locals in which no variable of the source stands: the pointer that the function takes, the frame that it points to, the frame below, the
-- value that arrives, the frame that is handed over, one below it, and the value that is returned
abbrev pub words : List Text
words = pointer_name ∷ frame_name ∷ next_name ∷ value_name ∷ to_name ∷ under_name ∷ result_name ∷ []

-- a pointer to a frame that is made
pub data IsNew : Text → Type 0 where
  HandedOver : IsNew to_name
  BelowIt : IsNew under_name

-- `to->code__ = piece;`: the function that takes up a new frame
abbrev pub names_code : (to piece : Text) → Stmt
names_code to piece = Assign (EArrow (ENamed to) code_field) None (ENamed piece)

-- `to->next__ = below;`: the frame below a new one
abbrev pub links : (to below : Text) → Stmt
links to below = Assign (EArrow (ENamed to) next_field) None (ENamed below)

pub data IsHelp : Stmt → Type 0 where
  -- the frame is taken up, locals are declared and loaded from it, and it is given back
  TakesUp : (tag : Text) → IsHelp (Declare frame_name (TyPointer (TyStruct tag)) (Some (ENamed pointer_name)))
  Loads : (x : Load) → IsHelp (loads_one frame_name x)
  Declares : (x : Variable) → IsHelp (declares_one x)
  GivesFrame : IsHelp (frees_frame pointer_name)
  -- a box is made, filled from the frame, and given back
  MakesBox : (x tag : Text) → IsHelp (boxes_one x (ESizeOf (TyStruct tag)))
  FillsBox : (x field argument : Text) → IsHelp (fills_box x field frame_name argument)
  GivesBox : (x : Text) → IsHelp (unboxes_one x)
  -- a frame is made, filled with its code, the frame below and locals, and handed over
  MakesFrame : (to tag : Text) → IsNew to → IsHelp (asks_block to tag)
  NamesCode : (to piece : Text) → IsNew to → IsHelp (names_code to piece)
  Links : (to : Text) → IsNew to → IsHelp (links to next_name)
  Saves : (to tag : Text) (x : Save) → IsNew to → IsHelp (saves_one (frame_through to tag) x)
  HandsOver : IsHelp (hands_over to_name)
  -- control goes on
  GoesOn : (l : Text) → IsHelp (Goto l)

-- statements in their order, with help between them
pub data Between : (images ss : List Stmt) → Type 0 where
  Done : Between [] []
  Helps : (s : Stmt) (images ss : List Stmt) → IsHelp s → Between images ss → Between images (s ∷ ss)
  Stands : (s : Stmt) (images ss : List Stmt) → Between images ss → Between (s ∷ images) (s ∷ ss)
