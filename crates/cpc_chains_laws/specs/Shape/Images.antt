-- What becomes of the statement, the test or the arrival at a point of a cps function.
use Rattle.std.specs.Prelude.{◌≡◌, List, [], ◌∷◌, ◌++◌, Option, Some, None}
use Rattle.cpc_base.specs.Bytes.{Text}
use Rattle.cpc_num.specs.declared.kinds.Op.{Op}
use Rattle.cpc_tree.specs.Syntax.{Ty, Expr, ENamed, EArrow, Exprs, NoExpr, AndExpr, Stmt, Empty, Declare, Assign, Call, Detach, Spawn, If, Goto, Break, Continue, Return, Absent, Function, Program}
use Rattle.cpc_tree.specs.Points.{Path, Point, Here, Arrival, Found, Simple, Test, found}
use Rattle.cpc_tree.specs.Primitives.{primitive_named}
use Rattle.cpc_tree.specs.Typing.{function_named}
use Rattle.cpc_meaning.specs.Act.{Stood, AtStatement, AtArrival, AtEnd, target_of}
use Rattle.cpc_meaning.specs.Trees.{stood_at}
use Rattle.cpc_meaning.specs.Ways.{Manner, InPlace, ByFrame, AsCps, manner_at}
use Rattle.cpc_convert_common.specs.Converted.{spawner_name}
use Rattle.cpc_forms.specs.Control.{Node, Entry, At}
use Rattle.cpc_forms.specs.Graph.{manner_from}
use Rattle.cpc_convert_image_laws.specs.Images.{Readings, image, images, image_stmt, followed}
use Rattle.cpc_chains_store_laws.specs.Driver.{drive_name, patches, detaches}
use Rattle.cpc_chains_store_laws.specs.Frames.{frame_through}
use Rattle.cpc_chains_event.specs.Lines.{hands_over, hands_nothing, runtime_name}
use Rattle.cpc_convert_routines.specs.Names.{next_name, value_name, to_name, under_name, result_name}
use Rattle.cpc_chains_laws.specs.Shape.Help.{names_code, links}

-- it changes no variable
pub data IsQuiet : Stmt → Type 0 where
  AnEmpty : IsQuiet Empty
  ADeclare : (x : Text) (t : Ty) → IsQuiet (Declare x t None)
  AGoto : (l : Text) → IsQuiet (Goto l)
  ABreak : IsQuiet Break
  AContinue : IsQuiet Continue

-- each argument is evaluated once, in order, into a field of the frame of a call
pub data Given (names : Readings) (frame : Expr) : Exprs → List Stmt → Type 0 where
  NoneGiven : Given names frame NoExpr []
  OneGiven : (field : Text) (e : Expr) (es : Exprs) (ss : List Stmt) → Given names frame es ss → Given names frame (AndExpr e es) (Assign (EArrow frame field) None (image names e) ∷ ss)

-- where no place takes a value that arrives
abbrev pub NoPlace : Option (Option Expr) → Type 0
NoPlace (Some (Some e)) = ⊥
NoPlace o = Unit {0}

-- What stands for what is at a point, in order, by how it is left: `entry` is the name of what is made for the entry of a function, and `arrival` of
-- what is made for the arrival at the point.
pub data IsImage (p : Program) (names : Readings) (entry : Function → Text) (arrival : Text) : Manner → Stood → List Stmt → Type 0 where
  -- a test, an assignment, a native call or a primitive is the same tree under the reading of names
  ATest : (e : Expr) (l : Text) → IsImage p names entry arrival InPlace (AtStatement (Test (Some e))) (If (image names e) (Goto l) Absent ∷ [])
  AnAssign : (e : Expr) (op : Option Op) (v : Expr) → IsImage p names entry arrival InPlace (AtStatement (Simple (Assign e op v))) (image_stmt names (Assign e op v) ∷ [])
  ACall : (to : Option Expr) (f : Expr) (es : Exprs) → IsImage p names entry arrival InPlace (AtStatement (Simple (Call to f es))) (image_stmt names (Call to f es) ∷ [])
  -- so is a declaration with a start, read as an assignment to its variable, and a spawn, read as a call of the spawner
  AStart : (x : Text) (t : Ty) (e : Expr) → IsImage p names entry arrival InPlace (AtStatement (Simple (Declare x t (Some e)))) (Assign (image names (ENamed x)) None (image names e) ∷ [])
  ASpawn : (f : Text) (es : Exprs) → IsImage p names entry arrival InPlace (AtStatement (Simple (Spawn f es))) (Call None (ENamed (spawner_name f)) (images names es) ∷ [])
  -- what changes no variable is a statement that changes none
  Quietly : (s t : Stmt) → IsQuiet s → IsQuiet t → IsImage p names entry arrival InPlace (AtStatement (Simple s)) (t ∷ [])
  NoTest : (t : Stmt) → IsQuiet t → IsImage p names entry arrival InPlace (AtStatement (Test None)) (t ∷ [])
  -- a wait gives a frame of its arrival to a primitive of the event loop
  AWait : (x : Text) (to : Option Expr) (es : Exprs) → function_named p x ≡ None
      → IsImage p names entry arrival AsCps (AtStatement (Simple (Call to (ENamed x) es)))
      (names_code to_name arrival ∷ Call None (ENamed (runtime_name (primitive_named x))) (followed (images names es) (ENamed drive_name) (ENamed to_name)) ∷ hands_nothing ∷ [])
  ASection : (x : Text) (to : Option Expr) (es : Exprs)
      → IsImage p names entry arrival AsCps (AtStatement (Simple (Detach to x es))) (names_code to_name arrival ∷ detaches to_name x (images names es) ∷ hands_nothing ∷ [])
  -- a call of a cps function makes a frame of its arrival and, above it, one of the function's entry with the arguments, which the driver is given
  ACpsCall : (x : Text) (g : Function) (tag : Text) (to : Option Expr) (es : Exprs) (given : List Stmt) → function_named p x ≡ Some g → Given names (frame_through to_name tag) es given
      → IsImage p names entry arrival AsCps (AtStatement (Simple (Call to (ENamed x) es)))
      (names_code under_name arrival ∷ names_code to_name (entry g) ∷ links to_name under_name ∷ (given ++ (hands_over to_name ∷ [])))
  -- a value that arrives from a cps statement is put in its place
  AnArrival : (s : Found) (e : Expr) → target_of s ≡ Some (Some e) → IsImage p names entry arrival AsCps (AtArrival s) (Assign (image names e) None (ENamed value_name) ∷ [])
  NoArrival : (s : Found) (t : Stmt) → NoPlace (target_of s) → IsQuiet t → IsImage p names entry arrival AsCps (AtArrival s) (t ∷ [])
  -- a return evaluates its value, gives it to the frame below, and gives that to the driver
  AResult : (e : Expr) → IsImage p names entry arrival InPlace (AtStatement (Simple (Return (Some e))))
      (Assign (ENamed result_name) None (image names e) ∷ patches next_name (ENamed result_name) ∷ hands_over next_name ∷ [])
  AReturn : IsImage p names entry arrival InPlace (AtStatement (Simple (Return None))) (hands_over next_name ∷ [])
  AnEnd : IsImage p names entry arrival InPlace AtEnd (hands_over next_name ∷ [])

-- the function that is made for the arrival at a point
abbrev pub arrival_name : (made : Node → Function) → Point → Text
arrival_name made (Here path) = (made (At (Arrival path))).called
arrival_name made a = []

-- the images of these points, in their order; that of the arrival of a native call is the arrival of the call's image
pub data Images (p : Program) (f : Function) (names : Point → Readings) (made : Function → Node → Function) : List Point → List Stmt → Type 0 where
  NoImage : Images p f names made [] []
  AnImage : (a : Point) (rest : List Point) (is ss : List Stmt) → IsImage p (names a) (λ g. (made g Entry).called) (arrival_name (made f) a) (manner_from p f a) (stood_at (Some f) a) is
      → Images p f names made rest ss → Images p f names made (a ∷ rest) (is ++ ss)
  WithArrival : (path : Path) (to : Option Expr) (g : Expr) (es : Exprs) (rest : List Point) (ss : List Stmt) → manner_at p f path ≡ ByFrame → found f.body path ≡ Simple (Call to g es)
      → Images p f names made rest ss → Images p f names made (Here path ∷ Arrival path ∷ rest) (image_stmt (names (Here path)) (Call to g es) ∷ ss)
