-- The row of each point that an owner owns holds its image, and that of the arrival of a native call is the arrival of the call's image.
use Rattle.std.proofs.Common.{◌≡◌, ℕ, true, List, [], ◌∷◌, ◌++◌, Option, Some, option_map, refl, sym, ap, subst}
use Rattle.cpc_base.specs.Bytes.{Text}
use Rattle.cpc_base.proofs.Lists.{append_empty}
use Rattle.cpc_tree.specs.Points.{Path, Point, Here, Arrival, End, Test, found}
use Rattle.cpc_tree.specs.Registers.{scope_in_function}
use Rattle.cpc_tree.specs.Syntax.{Expr, Stmt, Call, Function, Program}
use Rattle.cpc_meaning.specs.Act.{Stood, AtStatement, AtArrival, AtEnd}
use Rattle.cpc_meaning.specs.Trees.{stood_at}
use Rattle.cpc_meaning.specs.Ways.{Manner, InPlace, ByFrame, AsCps, arrives_later, only_if, manner_at}
use Rattle.cpc_forms.specs.Control.{Node, Entry}
use Rattle.cpc_forms.specs.Graph.{manner_from, node_of}
use Rattle.cpc_forms.specs.Order.{is_in, number_of}
use Rattle.cpc_graph_laws.specs.Laws.{place_of}
use Rattle.cpc_graph_laws.proofs.Controls.{is_not_nothing}
use Rattle.cpc_graph_laws.proofs.Graphs.{node_found}
use Rattle.cpc_convert_image_laws.specs.Images.{Readings, image_stmt}
use Rattle.cpc_chains_event.specs.Lines.{Line, behind_arrival, stood_lines, node_lines}
use Rattle.cpc_convert_routines.specs.Names.{variable_name}
use Rattle.cpc_chains_event.specs.Pieces.{piece_function}
use Rattle.cpc_convert_routines.specs.Routines.{Routine, routine_of}
use Rattle.cpc_chains_laws.proofs.Piece.TestWays.{test_goes}
use Rattle.cpc_chains_laws.specs.Shape.Help.{Between, Stands}
use Rattle.cpc_chains_laws.specs.Shape.Images.{IsImage, arrival_name, Images, NoImage, AnImage, WithArrival}
use Rattle.cpc_chains_laws.specs.Shape.Shape.{names_at}
use Rattle.cpc_chains_laws.proofs.Shape.Strewn.{bares, put, goes_help}
use Rattle.cpc_chains_laws.proofs.Shape.Images.{found_one, RowImage, in_place_row, cps_row, arrival_row, end_row}
use Rattle.cpc_lifted_laws.proofs.Shape.Calls.{CpsTyped, cps_called}
use Rattle.cpc_chains_laws.proofs.Call.Framed.{framed_call}

-- what is made for a node of control
abbrev pub made_in : Program → Function → Node → Function
made_in p f node = piece_function p (routine_of p f) (place_of f.body node)

-- the arrival that stands with a native call
abbrev pub arrival_with : Manner → Path → List Point
arrival_with ByFrame path = Arrival path ∷ []
arrival_with m path = []

-- the points whose images stand in the row of a point
abbrev pub points_with : Program → Function → Point → List Point
points_with p f (Here path) = Here path ∷ arrival_with (manner_at p f path) path
points_with p f a = a ∷ []

-- an arrival that has a row is that of a cps statement
abbrev pub IsRow : Program → Function → Point → Type 0
IsRow p f (Arrival path) = manner_at p f path ≡ AsCps
IsRow p f a = Unit {0}

module _ (p : Program) (f : Function) (known : CpsTyped p f) (o : Option ℕ) where
  abbrev r : Routine
  r = routine_of p f

  abbrev names : Point → Readings
  names = names_at p f variable_name

  abbrev entry : Function → Text
  entry g = (made_in p g Entry).called

  -- the images of these points, put in their row
  pub record PointRow (points : List Point) (lines : List Line) : Type 0 where
    pub images : List Stmt
    pub are_images : Images p f names (made_in p) points images
    pub between : Between images (bares (put o lines))

  -- that of one
  one_row : (a : Point) (m : Manner) (s : Stood) (lines : List Line) → manner_from p f a ≡ m → stood_at (Some f) a ≡ s → RowImage p r o (names a) entry (arrival_name (made_in p f) a) m s lines → PointRow (a ∷ []) lines
  one_row a m s lines e i row = record {
    images = row.images ++ [];
    are_images = AnImage a [] row.images [] (subst (λ x. IsImage p (names a) entry (arrival_name (made_in p f) a) x (stood_at (Some f) a) row.images) (sym e) (subst (λ y. IsImage p (names a) entry (arrival_name (made_in p f) a) m y row.images) (sym i) row.image)) NoImage;
    between = subst (λ xs. Between xs (bares (put o lines))) (sym (append_empty row.images)) row.between;
  }

  abbrev to : Point → Option ℕ
  to a = (node_of p f a).yes

  abbrev not : Point → Option ℕ
  not a = (node_of p f a).no

  abbrev later : Point → Option ℕ
  later a = (node_of p f a).arrival

  module _ (path : Path) (there : is_in f.body (Here path) ≡ true) where
    abbrev here : Point
    here = Here path

    abbrev lines : Manner → List Line
    lines m = stood_lines p r (names here) m (AtStatement (found f.body path)) (to here) (not here) (later here)

    goes_where : (e : Expr) → found f.body path ≡ Test (Some e) → (n : ℕ) × (to here ≡ Some n)
    goes_where e i = test_goes p f known.stays e (number_of f.body here) (node_of p f here) (node_found p f here there) (ap (λ x. AtStatement x) i)

    framed_row : manner_at p f path ≡ ByFrame → PointRow (Here path ∷ Arrival path ∷ []) (lines ByFrame)
    framed_row e =
        let c = framed_call p (scope_in_function f path) (found f.body path) e in
        let x = image_stmt (names here) (Call c.0 c.1 c.2) in
        subst (λ y. PointRow (Here path ∷ Arrival path ∷ []) (stood_lines p r (names here) ByFrame (AtStatement y) (to here) (not here) (later here))) (sym c.3)
        (record { images = x ∷ []; are_images = WithArrival path c.0 c.1 c.2 [] [] e c.3 NoImage; between = Stands x [] _ (goes_help o (behind_arrival r (later here))) })

    here_row : (m : Manner) → manner_at p f path ≡ m → PointRow (Here path ∷ arrival_with m path) (lines m)
    here_row InPlace e = one_row here InPlace (AtStatement (found f.body path)) (lines InPlace) e refl
        (in_place_row p r o (names here) entry (arrival_name (made_in p f) here) (found f.body path) (scope_in_function f path) (to here) (not here) (later here) (found_one f.body path) (is_not_nothing (found f.body path) there) e goes_where)
    here_row ByFrame e = framed_row e
    here_row AsCps e = one_row here AsCps (AtStatement (found f.body path)) (lines AsCps) e refl
        (cps_row p r o (names here) entry (arrival_name (made_in p f) here) (found f.body path) (scope_in_function f path) (later here) (number_of f.body (Arrival path)) (to here) (not here) e
        (ap (λ m. option_map (number_of f.body) (only_if (arrives_later m) (Some (Arrival path)))) e) refl (λ g. refl) (λ place y es g i j. cps_called p f known path place y es g e i j))

  -- that of a point with its arrival
  pub point_row : (a : Point) → is_in f.body a ≡ true → IsRow p f a → PointRow (points_with p f a) (node_lines p r (node_of p f a))
  point_row (Here path) there row = here_row path there (manner_at p f path) refl
  point_row (Arrival path) there row =
      one_row (Arrival path) AsCps (AtArrival (found f.body path)) _ row refl (arrival_row p r o (names (Arrival path)) entry [] (found f.body path) (to (Arrival path)))
  point_row End there row = one_row End InPlace AtEnd _ refl refl (end_row p r o (names End) entry [])
