-- Pieces take the address of no local, so that their variables are registers.
use Rattle.std.proofs.Common.{◌≡◌, ℕ, suc, Bool, true, false, not, ◌&&◌, cond, List, [], ◌∷◌, ◌++◌, map, slice_get, Option, Some, None, refl, sym, subst}
use Rattle.cpc_base.specs.Bytes.{Text}
use Rattle.cpc_base.proofs.Truth.{and_both, and_holds}
use Rattle.cpc_tree.specs.declared.program.UnaryOp.TheVariants.{AddressOf}
use Rattle.cpc_tree.specs.Syntax.{Expr, ENamed, EInteger, ECharacter, EText, EUnary, EBinary, EAnd, EOr, EChoose, ECast, ESizeOf, EIndex, EMember, EArrow, ECall, Exprs, NoExpr, AndExpr, Stmt, Block, Empty, Declare, Assign, Call, Detach, Spawn, If, While, DoWhile, For, Goto, Label, Break, Continue, Return, Stmts, NoStmt, AndStmt, Variable, Function, Program}
use Rattle.cpc_tree.specs.Points.{Simple, Test, Nothing}
use Rattle.cpc_tree.specs.Registers.{variables, addressed}
use Rattle.cpc_tree.specs.Typing.{function_named}
use Rattle.cpc_meaning.specs.Act.{Stood, AtStatement, AtArrival, AtEnd, target_of}
use Rattle.cpc_meaning.specs.Ways.{Manner, InPlace, ByFrame, AsCps}
use Rattle.cpc_convert_common.specs.Marks.{has_marks}
use Rattle.cpc_convert_image_laws.specs.Images.{Reading, AsLocal, AsField, Readings, image_named, image, images, image_if, followed}
use Rattle.cpc_forms.specs.Graph.{Node, graph_of, at_node}
use Rattle.cpc_forms.specs.Flow.{Place, Start, At}
use Rattle.cpc_convert_flat_laws.specs.Addresses.{avoids, avoids_all, avoids_if, avoids_by, avoids_in, AndAmong, NoneAmong}
use Rattle.cpc_chains_store_laws.specs.Driver.{drive_name}
use Rattle.cpc_convert_flat_laws.specs.Flat.{before}
use Rattle.cpc_convert_flat_laws.specs.Locals.{Load, loads_one, declares_one, AreRegisters}
use Rattle.cpc_chains_store_laws.specs.Frames.{frees_frame, gives_one}
use Rattle.cpc_convert_flat_laws.proofs.Addresses.{none_addressed}
use Rattle.cpc_chains_store_laws.proofs.Pieces.{registers_unaddressed}
use Rattle.cpc_convert_routines.specs.Names.{node_label, pointer_name, frame_name, to_name, under_name}
use Rattle.cpc_convert_routines.specs.Routines.{Routine, routine_of, readings_of, variable_of}
use Rattle.cpc_chains_event.specs.Lines.{Line, Does, Goes, Tests, Passes, goes, passes, all_do, frame_lines, frame_lines_if, gives_from, call_lines, waits_lines, unbox_lines, result_lines, patch_lines, leave_lines, simple_lines, cps_lines, test_lines, arrival_lines, framed_lines, stood_lines, node_lines, hands_over}
use Rattle.cpc_convert_routines.specs.Nodes.{is_own}
use Rattle.cpc_chains_event.specs.Rows.{Row, lines_by, row_of, numbers_of, rows_of, Put, Plain, Jump, put_line, put_lines, PutRow, first_number, put_rows, put_statement, label_if, is_wanted, is_next, rows_statements, piece_statements}
use Rattle.cpc_chains_event.specs.Pieces.{loads_of, declares_of, fills_if, box_lines, boxing_lines, boxing_of, piece_body, piece_function}
use Rattle.cpc_convert_routines.specs.Addressed.{bars, avoids_simple, avoids_stood, AddressesAreBoxes}
use Rattle.cpc_chains_event.specs.AddressLaws.{PiecesAddressNone, VariablesAreRegisters}
use Rattle.cpc_chains_event.proofs.Scopes.{MarkedLoads, MarkedVariables, loads_marked, declares_marked}
use Rattle.cpc_chains_event.proofs.Locals.{locals_meant}

-- ---- tests

both : (a b c d : Bool) → (a ≡ true → c ≡ true) → (b ≡ true → d ≡ true) → (a && b) ≡ true → (c && d) ≡ true
both a b c d f g e = let t = and_both a b e in and_holds c d (f t.0) (g t.1)

-- ---- images

module _ (names : Readings) where
  -- a name to which no `&` may be applied
  abbrev Barred : Text → Bool
  Barred x = bars (names x) x

  named_avoids : (o : Option Reading) (x : Text) → avoids has_marks (image_named o x) ≡ true
  named_avoids None x = refl
  named_avoids (Some (AsLocal y)) x = refl
  named_avoids (Some (AsField y f)) x = refl

  address_avoids : (o : Option Reading) (x : Text) → not (bars o x) ≡ true → avoids has_marks (EUnary AddressOf (image_named o x)) ≡ true
  address_avoids None x e = e
  address_avoids (Some (AsLocal y)) x e = absurd (cc)
  address_avoids (Some (AsField y f)) x e = refl

  mutual
    image_avoids : (e : Expr) → avoids Barred e ≡ true → avoids has_marks (image names e) ≡ true
    image_avoids (ENamed x) h = named_avoids (names x) x
    image_avoids (EInteger kind z) h = refl
    image_avoids (ECharacter z) h = refl
    image_avoids (EText bytes) h = refl
    image_avoids (EUnary AddressOf (ENamed x)) h = address_avoids (names x) x h
    image_avoids (EUnary sign (ENamed x)) h = named_avoids (names x) x
    image_avoids (EUnary sign e) h = image_avoids e h
    image_avoids (EBinary op a b) h = both _ _ _ _ (λ i. image_avoids a i) (λ i. image_avoids b i) h
    image_avoids (EAnd a b) h = both _ _ _ _ (λ i. image_avoids a i) (λ i. image_avoids b i) h
    image_avoids (EOr a b) h = both _ _ _ _ (λ i. image_avoids a i) (λ i. image_avoids b i) h
    image_avoids (EChoose t a b) h = both _ _ _ _ (λ i. image_avoids t i) (λ j. both _ _ _ _ (λ i. image_avoids a i) (λ i. image_avoids b i) j) h
    image_avoids (ECast t e) h = image_avoids e h
    image_avoids (ESizeOf t) h = refl
    image_avoids (EIndex a i) h = both _ _ _ _ (λ j. image_avoids a j) (λ j. image_avoids i j) h
    image_avoids (EMember e x) h = image_avoids e h
    image_avoids (EArrow e x) h = image_avoids e h
    image_avoids (ECall f es) h = both _ _ _ _ (λ i. image_avoids f i) (λ i. images_avoid es i) h

    images_avoid : (es : Exprs) → avoids_all Barred es ≡ true → avoids_all has_marks (images names es) ≡ true
    images_avoid NoExpr h = refl
    images_avoid (AndExpr e es) h = both _ _ _ _ (λ i. image_avoids e i) (λ i. images_avoid es i) h

  image_if_avoids : (o : Option Expr) → avoids_if Barred o ≡ true → avoids_if has_marks (image_if names o) ≡ true
  image_if_avoids None h = refl
  image_if_avoids (Some e) h = image_avoids e h

  followed_avoid : (es : Exprs) (x y : Text) → avoids_all has_marks es ≡ true → avoids_all has_marks (followed es (ENamed x) (ENamed y)) ≡ true
  followed_avoid NoExpr x y h = refl
  followed_avoid (AndExpr e es) x y h = both _ _ _ _ (λ i. i) (λ i. followed_avoid es x y i) h

-- ---- statements

-- none of these applies `&` to a local
abbrev AllAvoid : List Stmt → Type 0
AllAvoid [] = Unit {0}
AllAvoid (s ∷ ss) = (avoids_by has_marks s ≡ true) × AllAvoid ss

avoid_append : (xs ys : List Stmt) → AllAvoid xs → AllAvoid ys → AllAvoid (xs ++ ys)
avoid_append [] ys h g = g
avoid_append (x ∷ xs) ys h g = (h.0, avoid_append xs ys h.1 g)

avoid_map : {X : Type 0} (F : X → Stmt) → ((x : X) → avoids_by has_marks (F x) ≡ true) → (xs : List X) → AllAvoid (map F xs)
avoid_map F h [] = tt
avoid_map F h (x ∷ xs) = (h x, avoid_map F h xs)

abbrev LineAvoids : Line → Type 0
LineAvoids (Does s) = avoids_by has_marks s ≡ true
LineAvoids (Tests e n) = avoids has_marks e ≡ true
LineAvoids x = Unit {0}

abbrev LinesAvoid : List Line → Type 0
LinesAvoid [] = Unit {0}
LinesAvoid (x ∷ xs) = LineAvoids x × LinesAvoid xs

all_done : (ss : List Stmt) → AllAvoid ss → LinesAvoid (all_do ss)
all_done [] h = tt
all_done (s ∷ ss) h = (h.0, all_done ss h.1)

goes_done : (o : Option ℕ) → LinesAvoid (goes o)
goes_done None = tt
goes_done (Some n) = (tt, tt)

passes_done : (o : Option ℕ) → LinesAvoid (passes o ∷ [])
passes_done None = (refl, tt)
passes_done (Some n) = (tt, tt)

frame_done : (r : Routine) (to : Text) (l : Place) → AllAvoid (frame_lines r to l)
frame_done r to l = (refl, (refl, (refl, avoid_map _ (λ x. refl) _)))

frame_if_done : (r : Routine) (to : Text) (o : Option ℕ) → AllAvoid (frame_lines_if r to o)
frame_if_done r to None = tt
frame_if_done r to (Some n) = frame_done r to (At n)

module _ (names : Readings) where
  abbrev Fine : Expr → Type 0
  Fine e = avoids (λ x. bars (names x) x) e ≡ true

  abbrev AllFine : Exprs → Type 0
  AllFine es = avoids_all (λ x. bars (names x) x) es ≡ true

  abbrev FineIf : Option Expr → Type 0
  FineIf o = avoids_if (λ x. bars (names x) x) o ≡ true

  gives_done : (f : Expr) → avoids has_marks f ≡ true → (k : ℕ) (xs : List Variable) (es : Exprs) → AllFine es → AllAvoid (map (gives_one f) (gives_from k xs names es))
  gives_done f e k [] es h = tt
  gives_done f e k (x ∷ xs) NoExpr h = tt
  gives_done f e k (x ∷ xs) (AndExpr v es) h = let t = and_both _ _ h in (and_holds _ _ e (image_avoids names v t.0), gives_done f e (suc k) xs es t.1)

  call_done : (g : Function) (es : Exprs) → AllFine es → AllAvoid (call_lines g names es)
  call_done g es h = (refl, (refl, (refl, gives_done _ refl 0 (variables g) es h)))

  waits_done : (r : Routine) (a : Option ℕ) (f : Text) (o : Option Function) (es : Exprs) → AllFine es → AllAvoid (waits_lines r names a f o es)
  waits_done r a f None es h = avoid_append (frame_lines_if r to_name a) _ (frame_if_done r to_name a) (followed_avoid names (images names es) drive_name to_name (images_avoid names es h), (refl, tt))
  waits_done r a f (Some g) es h = avoid_append (frame_lines_if r under_name a) _ (frame_if_done r under_name a) (avoid_append (call_lines g names es) _ (call_done g es h) (refl, tt))

  result_done : (o : Option Expr) → FineIf o → AllAvoid (result_lines names o)
  result_done None h = tt
  result_done (Some e) h = (image_avoids names e h, tt)

  patch_done : (o : Option Expr) → AllAvoid (patch_lines o)
  patch_done None = tt
  patch_done (Some e) = (refl, tt)

  leave_done : (r : Routine) (o : Option Expr) → FineIf o → AllAvoid (leave_lines r names o)
  leave_done r o h = avoid_append (result_lines names o) _ (result_done o h) (avoid_append (unbox_lines r) _ (avoid_map _ (λ k. refl) r.boxes) (avoid_append (patch_lines o) _ (patch_done o) (refl, tt)))

  called_avoids : (to : Option Expr) (f : Expr) (es : Exprs) → avoids_simple (λ x. bars (names x) x) (Call to f es) ≡ true → avoids_by has_marks (Call (image_if names to) (image names f) (images names es)) ≡ true
  called_avoids to f es h = both _ _ _ _ (λ i. image_if_avoids names to i) (λ j. both _ _ _ _ (λ i. image_avoids names f i) (λ i. images_avoid names es i) j) h

  simple_done : (r : Routine) (s : Stmt) (o : Option ℕ) → avoids_simple (λ x. bars (names x) x) s ≡ true → LinesAvoid (simple_lines r names s o)
  simple_done r (Return e) o h = all_done (leave_lines r names e) (leave_done r e h)
  simple_done r (Spawn f es) o h = (images_avoid names es h, goes_done o)
  simple_done r (Declare x t (Some e)) o h = (and_holds _ _ (named_avoids names (names x) x) (image_avoids names e h), goes_done o)
  simple_done r (Declare x t None) o h = passes_done o
  simple_done r (Assign e op v) o h = (both _ _ _ _ (λ i. image_avoids names e i) (λ i. image_avoids names v i) h, goes_done o)
  simple_done r (Call to f es) o h = (called_avoids to f es h, goes_done o)
  simple_done r (Block ss) o h = passes_done o
  simple_done r Empty o h = passes_done o
  simple_done r (Detach to f es) o h = passes_done o
  simple_done r (If t a b) o h = passes_done o
  simple_done r (While t s) o h = passes_done o
  simple_done r (DoWhile s t) o h = passes_done o
  simple_done r (For a t b s) o h = passes_done o
  simple_done r (Goto l) o h = passes_done o
  simple_done r (Label l s) o h = passes_done o
  simple_done r Break o h = passes_done o
  simple_done r Continue o h = passes_done o

  framed_done : (r : Routine) (s : Stmt) (o : Option ℕ) → avoids_simple (λ x. bars (names x) x) s ≡ true → LinesAvoid (framed_lines r names s o)
  framed_done r (Call to f es) o h = (called_avoids to f es h, goes_done _)
  framed_done r (Return e) o h = passes_done _
  framed_done r (Spawn f es) o h = passes_done _
  framed_done r (Declare x t e) o h = passes_done _
  framed_done r (Assign e op v) o h = passes_done _
  framed_done r (Block ss) o h = passes_done _
  framed_done r Empty o h = passes_done _
  framed_done r (Detach to f es) o h = passes_done _
  framed_done r (If t a b) o h = passes_done _
  framed_done r (While t s) o h = passes_done _
  framed_done r (DoWhile s t) o h = passes_done _
  framed_done r (For a t b s) o h = passes_done _
  framed_done r (Goto l) o h = passes_done _
  framed_done r (Label l s) o h = passes_done _
  framed_done r Break o h = passes_done _
  framed_done r Continue o h = passes_done _

  called_done : (p : Program) (r : Routine) (to : Option Expr) (f : Expr) (es : Exprs) (a : Option ℕ) → AllFine es → AllAvoid (cps_lines p r names (Call to f es) a)
  called_done p r to (ENamed f) es a h = waits_done r a f (function_named p f) es h
  called_done p r to (EInteger k z) es a h = tt
  called_done p r to (ECharacter z) es a h = tt
  called_done p r to (EText z) es a h = tt
  called_done p r to (EUnary k z) es a h = tt
  called_done p r to (EBinary o x y) es a h = tt
  called_done p r to (EAnd x y) es a h = tt
  called_done p r to (EOr x y) es a h = tt
  called_done p r to (EChoose x y z) es a h = tt
  called_done p r to (ECast x y) es a h = tt
  called_done p r to (ESizeOf x) es a h = tt
  called_done p r to (EIndex x y) es a h = tt
  called_done p r to (EMember x y) es a h = tt
  called_done p r to (EArrow x y) es a h = tt
  called_done p r to (ECall x y) es a h = tt

  cps_done : (p : Program) (r : Routine) (s : Stmt) (a : Option ℕ) → avoids_simple (λ x. bars (names x) x) s ≡ true → AllAvoid (cps_lines p r names s a)
  cps_done p r (Call to f es) a h = called_done p r to f es a (and_both _ _ (and_both _ _ h).1).1
  cps_done p r (Detach to f es) a h = avoid_append (frame_lines_if r to_name a) _ (frame_if_done r to_name a) (images_avoid names es (and_both _ _ h).1, (refl, tt))
  cps_done p r (Return e) a h = tt
  cps_done p r (Spawn f es) a h = tt
  cps_done p r (Declare x t e) a h = tt
  cps_done p r (Assign e op v) a h = tt
  cps_done p r (Block ss) a h = tt
  cps_done p r Empty a h = tt
  cps_done p r (If t x b) a h = tt
  cps_done p r (While t s) a h = tt
  cps_done p r (DoWhile s t) a h = tt
  cps_done p r (For x t b s) a h = tt
  cps_done p r (Goto l) a h = tt
  cps_done p r (Label l s) a h = tt
  cps_done p r Break a h = tt
  cps_done p r Continue a h = tt

  test_done : (t : Option Expr) (n m : Option ℕ) → FineIf t → LinesAvoid (test_lines names t n m)
  test_done None n m h = passes_done n
  test_done (Some e) None m h = passes_done None
  test_done (Some e) (Some n) m h = (image_avoids names e h, goes_done m)

  place_done : (o : Option Expr) (n : Option ℕ) → FineIf o → LinesAvoid (arrival_lines names (Some o) n)
  place_done None n h = passes_done n
  place_done (Some e) n h = (and_holds _ _ (image_avoids names e h) refl, goes_done n)

  arrival_done : (s : Stmt) (n : Option ℕ) → avoids_simple (λ x. bars (names x) x) s ≡ true → LinesAvoid (arrival_lines names (target_of (Simple s)) n)
  arrival_done (Call to f es) n h = place_done to n (and_both _ _ h).0
  arrival_done (Detach to f es) n h = place_done to n (and_both _ _ h).0
  arrival_done (Spawn f es) n h = passes_done n
  arrival_done (Return e) n h = passes_done n
  arrival_done (Declare x t e) n h = passes_done n
  arrival_done (Assign e op v) n h = passes_done n
  arrival_done (Block ss) n h = passes_done n
  arrival_done Empty n h = passes_done n
  arrival_done (If t x b) n h = passes_done n
  arrival_done (While t s) n h = passes_done n
  arrival_done (DoWhile s t) n h = passes_done n
  arrival_done (For x t b s) n h = passes_done n
  arrival_done (Goto l) n h = passes_done n
  arrival_done (Label l s) n h = passes_done n
  arrival_done Break n h = passes_done n
  arrival_done Continue n h = passes_done n

  stood_done : (p : Program) (r : Routine) (w : Manner) (s : Stood) (n m a : Option ℕ) → avoids_stood (λ x. bars (names x) x) s ≡ true → LinesAvoid (stood_lines p r names w s n m a)
  stood_done p r w AtEnd n m a h = all_done (leave_lines r names None) (leave_done r None refl)
  stood_done p r w (AtArrival (Simple s)) n m a h = arrival_done s n h
  stood_done p r w (AtArrival (Test t)) n m a h = passes_done n
  stood_done p r w (AtArrival Nothing) n m a h = passes_done n
  stood_done p r w (AtStatement (Test t)) n m a h = test_done t n m h
  stood_done p r InPlace (AtStatement (Simple s)) n m a h = simple_done r s n h
  stood_done p r ByFrame (AtStatement (Simple s)) n m a h = framed_done r s a h
  stood_done p r AsCps (AtStatement (Simple s)) n m a h = all_done (cps_lines p r names s a) (cps_done p r s a h)
  stood_done p r w (AtStatement Nothing) n m a h = passes_done n

-- ---- rows

abbrev RowsAvoid : List Row → Type 0
RowsAvoid [] = Unit {0}
RowsAvoid (r ∷ rs) = LinesAvoid r.lines × RowsAvoid rs

rows_map : (F : ℕ → Row) → ((n : ℕ) → LinesAvoid (F n).lines) → (ns : List ℕ) → RowsAvoid (map F ns)
rows_map F h [] = tt
rows_map F h (n ∷ ns) = (h n, rows_map F h ns)

put_done : (o : Option ℕ) (x : Line) → LineAvoids x → AllAvoid (map put_statement (put_line o x))
put_done o (Does x) h = (h, tt)
put_done o (Goes n) h = go (is_next n o)
  where
    go : (b : Bool) → AllAvoid (map put_statement (cond b [] (Jump n ∷ [])))
    go true = tt
    go false = (refl, tt)
put_done o (Tests e n) h = (and_holds _ _ h refl, tt)
put_done o (Passes n) h = go (is_next n o)
  where
    go : (b : Bool) → AllAvoid (map put_statement (cond b (Plain Empty ∷ []) (Jump n ∷ [])))
    go true = (refl, tt)
    go false = (refl, tt)

puts_append : (xs ys : List Put) → AllAvoid (map put_statement xs) → AllAvoid (map put_statement ys) → AllAvoid (map put_statement (xs ++ ys))
puts_append [] ys h g = g
puts_append (x ∷ xs) ys h g = (h.0, puts_append xs ys h.1 g)

puts_done : (o : Option ℕ) (xs : List Line) → LinesAvoid xs → AllAvoid (map put_statement (put_lines o xs))
puts_done o [] h = tt
puts_done o (x ∷ xs) h = puts_append (put_line o x) (put_lines o xs) (put_done o x h.0) (puts_done o xs h.1)

label_done : (b : Bool) (l : Text) (ss : List Stmt) → AllAvoid ss → AllAvoid (label_if b l ss)
label_done true l [] h = h
label_done true l (s ∷ ss) h = h
label_done false l ss h = h

rows_done : (all : List PutRow) (rs : List Row) → RowsAvoid rs → AllAvoid (rows_statements all (put_rows rs))
rows_done all [] h = tt
rows_done all (r ∷ rs) h = avoid_append _ _ (label_done (is_wanted r.number all) (node_label r.number) _ (puts_done (first_number rs) r.lines h.0)) (rows_done all rs h.1)

-- ---- pieces

before_avoids : (ss : List Stmt) (rest : Stmts) → AllAvoid ss → avoids_in has_marks rest ≡ true → avoids_in has_marks (before ss rest) ≡ true
before_avoids [] rest h g = g
before_avoids (s ∷ ss) rest h g = and_holds _ _ h.0 (before_avoids ss rest h.1 g)

loads_avoid : (ls : List Load) → MarkedLoads ls → AllAvoid (map (loads_one frame_name) ls)
loads_avoid [] h = tt
loads_avoid (l ∷ ls) h = (and_holds _ _ h.0 refl, loads_avoid ls h.1)

declares_avoid : (ds : List Variable) → MarkedVariables ds → AllAvoid (map declares_one ds)
declares_avoid [] h = tt
declares_avoid (d ∷ ds) h = (and_holds _ _ h.0 refl, declares_avoid ds h.1)

fills_avoid : (b : Bool) (x y : Text) → AllAvoid (fills_if b x y)
fills_avoid true x y = (refl, tt)
fills_avoid false x y = tt

boxing_avoids : (r : Routine) (ks : List ℕ) → AllAvoid (boxing_lines r ks)
boxing_avoids r [] = tt
boxing_avoids r (k ∷ ks) = avoid_append (box_lines r k (variable_of r k)) (boxing_lines r ks) (refl, fills_avoid _ _ _) (boxing_avoids r ks)

boxes_avoid : (r : Routine) (l : Place) → AllAvoid (boxing_of r l)
boxes_avoid r Start = boxing_avoids r r.boxes
boxes_avoid r (At n) = tt

module _ (p : Program) (f : Function) (l : Place) (fine : AddressesAreBoxes p f) where
  abbrev r : Routine
  r = routine_of p f

  lines_avoid : (b : Bool) (n : ℕ) → LinesAvoid (lines_by b p r n)
  lines_avoid true n = go (slice_get r.split.graph.nodes n) refl
    where
      go : (o : Option Node) → slice_get (graph_of p f).nodes n ≡ o → LinesAvoid (at_node [] (node_lines p r) o)
      go None e = tt
      go (Some node) e = stood_done (readings_of r node.scope) p r node.manner node.stood node.yes node.no node.arrival (fine n node e)
  lines_avoid false n = all_done (frame_lines r to_name (At n) ++ (hands_over to_name ∷ [])) (avoid_append (frame_lines r to_name (At n)) (hands_over to_name ∷ []) (frame_done r to_name (At n)) (refl, tt))

  statements_avoid : AllAvoid (piece_statements p r l)
  statements_avoid = rows_done (put_rows (rows_of p r l)) (rows_of p r l) (rows_map (row_of p r l) (λ n. lines_avoid (is_own r.split l n) n) (numbers_of p r l))

  body_avoids : avoids_in has_marks (piece_body p r l) ≡ true
  body_avoids =
      let lines = AndStmt (frees_frame pointer_name) (before (piece_statements p r l) NoStmt) in
      before_avoids (map (loads_one frame_name) (loads_of p r l)) (before (map declares_one (declares_of p r l)) (before (boxing_of r l) lines)) (loads_avoid (loads_of p r l) (loads_marked p r l))
      (before_avoids (map declares_one (declares_of p r l)) (before (boxing_of r l) lines) (declares_avoid (declares_of p r l) (declares_marked p r l))
      (before_avoids (boxing_of r l) lines (boxes_avoid r l) (before_avoids (piece_statements p r l) NoStmt statements_avoid refl)))

  none_there : addressed (piece_function p r l) ≡ []
  none_there = none_addressed has_marks (piece_function p r l) (piece_body p r l) refl (AndAmong _ _ refl NoneAmong) body_avoids

pub pieces_address_none : PiecesAddressNone
pieces_address_none p f l fine = none_there p f l fine

pub variables_are_registers : VariablesAreRegisters
variables_are_registers p ok f c l o fine scalar =
    let m = (locals_meant p ok f c).pieces l o in
    let g = piece_function p (routine_of p f) l in
    subst (λ xs. AreRegisters g 0 xs) (sym m.listed) (registers_unaddressed g 0 _ (pieces_address_none p f l fine) (m.scalar scalar))
