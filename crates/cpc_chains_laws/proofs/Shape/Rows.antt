-- The rows of a piece, one after the other: the images of the points that its owner owns, each once, and help.
use Rattle.std.proofs.Common.{◌≡◌, ◌⊎◌, inl, inr, ⊎_elim, ℕ, Bool, true, false, not, ◌==◌, ◌||◌, List, [], ◌∷◌, ◌++◌, map, slice_get, Option, Some, None, option_map, refl, sym, ◌∙◌, ap, subst}
use Rattle.std.proofs.lemmas.Option.{slice_get-map}
use Rattle.cpc_base.proofs.Truth.{eq_reflexive, or_by_second}
use Rattle.cpc_base.proofs.Lists.{found_within, append_grouped}
use Rattle.cpc_tree.specs.Lists.{holds_number}
use Rattle.cpc_tree.specs.Points.{Path, Point, Here, Arrival, End, found, begin}
use Rattle.cpc_tree.specs.Syntax.{Stmt, Function, Program}
use Rattle.cpc_meaning.specs.Act.{AtArrival}
use Rattle.cpc_meaning.specs.Ways.{Manner, InPlace, ByFrame, AsCps, manner_at}
use Rattle.cpc_forms.specs.Control as C
use Rattle.cpc_forms.specs.Flow.{Place, Flow, owner_of}
use Rattle.cpc_forms.specs.Graph.{node_of, graph_of, at_node}
use Rattle.cpc_forms.specs.Order.{is_in, points, number_of}
use Rattle.cpc_forms.proofs.Numbers.{one_node}
use Rattle.cpc_graph_laws.specs.Laws.{place_of, flow_in}
use Rattle.cpc_graph_laws.proofs.Formed.{node_comes}
use Rattle.cpc_graph_laws.proofs.Graphs.{node_found}
use Rattle.cpc_graph_laws.proofs.Owned.{owner_is}
use Rattle.cpc_graph_laws.proofs.Positions.{owner_place}
use Rattle.cpc_graph_laws.proofs.Standing.{IsNoArrival, way_no_arrival}
use Rattle.cpc_convert_routines.specs.Names.{node_label, variable_name}
use Rattle.cpc_chains_event.specs.Lines.{node_lines}
use Rattle.cpc_convert_routines.specs.Routines.{Routine, routine_of}
use Rattle.cpc_convert_routines.specs.Nodes.{is_own, has_row, stands_with}
use Rattle.cpc_chains_event.specs.Rows.{row_of, lines_by, numbers_of, first_number, PutRow, put_rows, is_wanted, label_if, rows_statements, piece_statements}
use Rattle.cpc_chains_laws.specs.Shape.Help.{Between, Done}
use Rattle.cpc_chains_laws.specs.Shape.Images.{Images, NoImage, AnImage, WithArrival}
use Rattle.cpc_chains_laws.specs.Shape.Shape.{names_at}
use Rattle.cpc_chains_laws.proofs.Shape.Strewn.{bares, all_bare, labelled_bare, put, stub_help}
use Rattle.cpc_lifted_laws.proofs.Shape.Calls.{CpsTyped}
use Rattle.cpc_chains_laws.proofs.Shape.Numbers.{own_row, owned_below}
use Rattle.cpc_chains_laws.proofs.Shape.Points.{made_in, points_with, IsRow, point_row}

module _ (p : Program) (f : Function) (known : CpsTyped p f) where
  abbrev r : Routine
  r = routine_of p f

  abbrev flow : Flow
  flow = flow_in p f

  abbrev AreImages : List Point → List Stmt → Type 0
  AreImages = Images p f (names_at p f variable_name) (made_in p)

  images_append : (xs bs : List Point) (ss ts : List Stmt) → AreImages xs ss → AreImages bs ts → AreImages (xs ++ bs) (ss ++ ts)
  images_append _ bs _ ts NoImage k = k
  images_append _ bs _ ts (AnImage a rest is ss i h) k = subst (AreImages (a ∷ (rest ++ bs))) (sym (append_grouped is ss ts)) (AnImage a (rest ++ bs) is (ss ++ ts) i (images_append rest bs ss ts h k))
  images_append _ bs _ ts (WithArrival path to g es rest ss m e h) k = WithArrival path to g es (rest ++ bs) (ss ++ ts) m e (images_append rest bs ss ts h k)

  -- the images of these points, and help, in these statements
  pub record Row (xs : List Point) (ss : List Stmt) : Type 0 where
    pub images : List Stmt
    pub are_images : AreImages xs images
    pub between : Between images (bares ss)

  row_append : (xs bs : List Point) (ss ts : List Stmt) → Row xs ss → Row bs ts → Row (xs ++ bs) (ss ++ ts)
  row_append xs bs ss ts x y = record {
    images = x.images ++ y.images;
    are_images = images_append xs bs x.images y.images x.are_images y.are_images;
    between = all_bare x.images y.images ss ts x.between y.between;
  }

  -- ---- arrivals

  no_arrival : (o : Option Point) (to : Point) (path : Path) → IsNoArrival o → o ≡ Some to → to ≡ Arrival path → ⊥
  no_arrival o to path h e i = subst IsNoArrival (e ∙ ap (λ x. Some x) i) h

  -- control goes to the arrivals of native calls alone
  goes_later : (path : Path) (a : C.Node) (to : Point) → C.Goes p f a to → to ≡ Arrival path → manner_at p f path ≡ ByFrame
  goes_later path _ _ C.First e = absurd (let z : begin f.body ≡ Arrival path = e in cc)
  goes_later path _ to (C.InStep from test _ there way) e = absurd (no_arrival _ to path (way_no_arrival p f (Here from) test) way e)
  goes_later path _ _ (C.Arrives from there m) e = let z : from ≡ path = cc in subst (λ x. manner_at p f x ≡ ByFrame) z m
  goes_later path _ to (C.Arrived from test _ there way) e = absurd (no_arrival _ to path (way_no_arrival p f (Arrival from) test) way e)

  leads_later : (path : Path) (to : Point) → C.IsLeader p f to → to ≡ Arrival path → (manner_at p f path ≡ ByFrame) ⊎ (manner_at p f path ≡ AsCps)
  leads_later path _ (C.AfterWait from there m) e = let z : from ≡ path = cc in inr (subst (λ x. manner_at p f x ≡ AsCps) z m)
  leads_later path to (C.Joined a b _ goes also apart) e = inl (goes_later path a to goes e)

  -- an arrival that has an owner is that of a native call or of a cps statement
  pub owns_later : (path : Path) (k : C.Node) (to : Point) → C.Owns p f k to → to ≡ Arrival path → (manner_at p f path ≡ ByFrame) ⊎ (manner_at p f path ≡ AsCps)
  owns_later path _ to (C.Itself _ leader) e = leads_later path to leader e
  owns_later path _ to (C.FromEntry _ goes none) e = inl (goes_later path C.Entry to goes e)
  owns_later path k to (C.Onwards _ a _ owns goes none) e = inl (goes_later path (C.At a) to goes e)

  -- the row of a node that is no arrival of a native call
  no_row : (m : Manner) (b : Bool) → m ≡ ByFrame → not (stands_with (AtArrival (found f.body [])) m) ≡ true → ⊥
  no_row InPlace b e h = absurd (cc)
  no_row ByFrame b e h = absurd (cc)
  no_row AsCps b e h = absurd (cc)

  module _ (l : Place) where
    later_row : (path : Path) (n : ℕ) → is_in f.body (Arrival path) ≡ true → number_of f.body (Arrival path) ≡ n → owner_of flow n ≡ Some l → has_row r.split n ≡ true → manner_at p f path ≡ AsCps
    later_row path n there num own has =
        let place = owner_place p f n l own in
        let owned = subst (λ k. owner_of flow k ≡ Some (place_of f.body place.node)) (sym num) (own ∙ ap (λ x. Some x) (sym place.place)) in
        let found = subst (λ k. slice_get (graph_of p f).nodes k ≡ Some (node_of p f (Arrival path))) num (node_found p f (Arrival path) there) in
        ⊎_elim (λ m. absurd (no_row (manner_at p f path) true m (sym (ap (λ o. at_node true (λ node. not (stands_with node.stood node.manner)) o) found) ∙ has))) (λ m. m)
        (owns_later path place.node (Arrival path) (owner_is p f place.node (Arrival path) place.there there owned) refl)

    row_is : (a : Point) (n : ℕ) → is_in f.body a ≡ true → number_of f.body a ≡ n → owner_of flow n ≡ Some l → has_row r.split n ≡ true → IsRow p f a
    row_is (Here path) n there num own has = tt
    row_is (Arrival path) n there num own has = later_row path n there num own has
    row_is End n there num own has = tt

  -- ---- the points of rows

  abbrev pub points_if : (is_own : Bool) → Option Point → List Point
  points_if true (Some a) = points_with p f a
  points_if true None = []
  points_if false o = []

  module _ (l : Place) where
    abbrev points_at : ℕ → List Point
    points_at n = points_if (is_own r.split l n) (slice_get (points f.body) n)

    -- those of the rows of these numbers, in order
    abbrev pub points_for : List ℕ → List Point
    points_for [] = []
    points_for (n ∷ ns) = points_at n ++ points_for ns

    -- the point of a row that is the piece's own
    pub record OwnPoint (n : ℕ) : Type 0 where
      pub point : Point
      pub is_point : slice_get (points f.body) n ≡ Some point
      pub there : is_in f.body point ≡ true
      pub number : number_of f.body point ≡ n
      pub row : IsRow p f point
      pub owned : owner_of flow n ≡ Some l

    pub own_point : (n : ℕ) → holds_number (numbers_of p r l) n ≡ true → is_own r.split l n ≡ true → OwnPoint n
    own_point n h own =
        let o = own_row p f l n h own in
        let node = found_within (graph_of p f).nodes n (owned_below p f l n l o.0) in
        let from = node_comes p f n node.0 node.1 in
        let is = one_node f.body n from.0 from.1 in
        record { point = from.0; is_point = from.1; there = is.0; number = is.1; row = row_is l from.0 n is.0 is.1 o.0 o.1; owned = o.0 }

    -- the row of a number
    row_here : (o : Option ℕ) (n : ℕ) (b : Bool) → is_own r.split l n ≡ b → (b ≡ true → OwnPoint n) → Row (points_if b (slice_get (points f.body) n)) (put o (lines_by b p r n))
    row_here o n true e own =
        let a = own refl in
        let row = point_row p f known o a.point a.there a.row in
        let found = slice_get-map (node_of p f) (points f.body) n ∙ ap (option_map (node_of p f)) a.is_point in
        subst (λ x. Row (points_if true x) (put o (lines_by true p r n))) (sym a.is_point)
        (subst (λ x. Row (points_with p f a.point) (put o (at_node [] (node_lines p r) x))) (sym found) (record { images = row.images; are_images = row.are_images; between = row.between }))
    row_here o n false e own = record { images = []; are_images = NoImage; between = stub_help r o n }

    -- the rows of these numbers, among all
    rows_are : (all : List PutRow) (ns : List ℕ) → ((n : ℕ) → holds_number ns n ≡ true → is_own r.split l n ≡ true → OwnPoint n) → Row (points_for ns) (rows_statements all (put_rows (map (row_of p r l) ns)))
    rows_are all [] own = record { images = []; are_images = NoImage; between = Done }
    rows_are all (n ∷ ns) own =
        let o = first_number (map (row_of p r l) ns) in
        let row = row_here o n (is_own r.split l n) refl (λ e. own n (ap (λ b. b || holds_number ns n) (eq_reflexive n)) e) in
        let lines = put o (lines_by (is_own r.split l n) p r n) in
        row_append (points_at n) (points_for ns) (label_if (is_wanted n all) (node_label n) lines) (rows_statements all (put_rows (map (row_of p r l) ns)))
        (record { images = row.images; are_images = row.are_images; between = subst (λ xs. Between row.images xs) (sym (labelled_bare (is_wanted n all) (node_label n) lines)) row.between })
        (rows_are all ns (λ m h. own m (or_by_second (n == m) (holds_number ns m) h)))

    abbrev pub all_points : List Point
    all_points = points_for (numbers_of p r l)

    -- the rows of a piece
    pub piece_rows : Row all_points (piece_statements p r l)
    piece_rows = rows_are (put_rows (map (row_of p r l) (numbers_of p r l))) (numbers_of p r l) own_point
