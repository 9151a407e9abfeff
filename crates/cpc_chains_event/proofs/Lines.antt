-- What stands behind the opening of a piece are lines: statements that declare nothing, perhaps behind labels.
use Rattle.std.proofs.Common.{◌≡◌, ℕ, Bool, true, false, cond, List, [], ◌∷◌, ◌++◌, map, slice_get, Option, Some, None, refl}
use Rattle.cpc_base.specs.Bytes.{Text}
use Rattle.cpc_tree.specs.Syntax.{Expr, ENamed, EInteger, ECharacter, EText, EUnary, EBinary, EAnd, EOr, EChoose, ECast, ESizeOf, EIndex, EMember, EArrow, ECall, Exprs, Stmt, Block, Empty, Declare, Assign, Call, Detach, Spawn, If, While, DoWhile, For, Goto, Label, Break, Continue, Return, Function, Program}
use Rattle.cpc_tree.specs.Points.{Simple, Test, Nothing}
use Rattle.cpc_tree.specs.Typing.{function_named}
use Rattle.cpc_meaning.specs.Act.{Stood, AtStatement, AtArrival, AtEnd, target_of}
use Rattle.cpc_meaning.specs.Ways.{Manner, InPlace, ByFrame, AsCps}
use Rattle.cpc_convert_image_laws.specs.Images.{Readings}
use Rattle.cpc_forms.specs.Graph.{Node, at_node}
use Rattle.cpc_forms.specs.Flow.{Place, At}
use Rattle.cpc_convert_flat_laws.specs.Flat.{is_line}
use Rattle.cpc_convert_routines.specs.Names.{to_name, under_name, node_label}
use Rattle.cpc_convert_routines.specs.Routines.{Routine}
use Rattle.cpc_chains_event.specs.Lines.{Line, Does, Goes, Tests, Passes, goes, passes, all_do, frame_lines, frame_lines_if, call_lines, waits_lines, unbox_lines, result_lines, patch_lines, leave_lines, simple_lines, cps_lines, test_lines, arrival_lines, framed_lines, stood_lines, node_lines, hands_over}
use Rattle.cpc_convert_routines.specs.Nodes.{is_own}
use Rattle.cpc_chains_event.specs.Rows.{Row, stub_lines, lines_by, row_of, numbers_of, rows_of, Put, Plain, Jump, put_line, put_lines, PutRow, first_number, put_rows, put_statement, label_if, is_wanted, is_next, rows_statements, piece_statements}

-- ---- statements

-- whether a statement is a line without a label
abbrev pub is_bare : Stmt → Bool
is_bare (Label l s) = false
is_bare s = is_line s

-- all of these are
abbrev pub AreBare : List Stmt → Type 0
AreBare [] = Unit {0}
AreBare (s ∷ ss) = (is_bare s ≡ true) × AreBare ss

-- all of these are lines, perhaps behind labels
abbrev pub AreLines : List Stmt → Type 0
AreLines [] = Unit {0}
AreLines (s ∷ ss) = (is_line s ≡ true) × AreLines ss

bare_line : (s : Stmt) → is_bare s ≡ true → is_line s ≡ true
bare_line (Label l s) e = absurd (cc)
bare_line s e = e

pub bare_lines : (ss : List Stmt) → AreBare ss → AreLines ss
bare_lines [] h = tt
bare_lines (s ∷ ss) h = (bare_line s h.0, bare_lines ss h.1)

pub bare_append : (xs ys : List Stmt) → AreBare xs → AreBare ys → AreBare (xs ++ ys)
bare_append [] ys h g = g
bare_append (x ∷ xs) ys h g = (h.0, bare_append xs ys h.1 g)

bare_map : {X : Type 0} (f : X → Stmt) → ((x : X) → is_bare (f x) ≡ true) → (xs : List X) → AreBare (map f xs)
bare_map f h [] = tt
bare_map f h (x ∷ xs) = (h x, bare_map f h xs)

pub lines_append : (xs ys : List Stmt) → AreLines xs → AreLines ys → AreLines (xs ++ ys)
lines_append [] ys h g = g
lines_append (x ∷ xs) ys h g = (h.0, lines_append xs ys h.1 g)

-- ---- lines of nodes

-- a statement that a line does is one without a label
abbrev pub DoesLine : Line → Type 0
DoesLine (Does s) = is_bare s ≡ true
DoesLine x = Unit {0}

-- so it is of all of these
abbrev pub AllDo : List Line → Type 0
AllDo [] = Unit {0}
AllDo (x ∷ xs) = DoesLine x × AllDo xs

all_done : (ss : List Stmt) → AreBare ss → AllDo (all_do ss)
all_done [] h = tt
all_done (s ∷ ss) h = (h.0, all_done ss h.1)

goes_done : (o : Option ℕ) → AllDo (goes o)
goes_done None = tt
goes_done (Some n) = (tt, tt)

passes_done : (o : Option ℕ) → AllDo (passes o ∷ [])
passes_done None = (refl, tt)
passes_done (Some n) = (tt, tt)

frame_done : (r : Routine) (to : Text) (l : Place) → AreBare (frame_lines r to l)
frame_done r to l = (refl, (refl, (refl, bare_map _ (λ x. refl) _)))

frame_if_done : (r : Routine) (to : Text) (o : Option ℕ) → AreBare (frame_lines_if r to o)
frame_if_done r to None = tt
frame_if_done r to (Some n) = frame_done r to (At n)

call_done : (g : Function) (names : Readings) (es : Exprs) → AreBare (call_lines g names es)
call_done g names es = (refl, (refl, (refl, bare_map _ (λ x. refl) _)))

waits_done : (r : Routine) (names : Readings) (a : Option ℕ) (f : Text) (o : Option Function) (es : Exprs) → AreBare (waits_lines r names a f o es)
waits_done r names a f None es = bare_append (frame_lines_if r to_name a) _ (frame_if_done r to_name a) (refl, (refl, tt))
waits_done r names a f (Some g) es = bare_append (frame_lines_if r under_name a) _ (frame_if_done r under_name a) (bare_append (call_lines g names es) _ (call_done g names es) (refl, tt))

result_done : (names : Readings) (o : Option Expr) → AreBare (result_lines names o)
result_done names None = tt
result_done names (Some e) = (refl, tt)

patch_done : (o : Option Expr) → AreBare (patch_lines o)
patch_done None = tt
patch_done (Some e) = (refl, tt)

leave_done : (r : Routine) (names : Readings) (o : Option Expr) → AreBare (leave_lines r names o)
leave_done r names o =
    bare_append (result_lines names o) _ (result_done names o) (bare_append (unbox_lines r) _ (bare_map _ (λ k. refl) r.boxes) (bare_append (patch_lines o) _ (patch_done o) (refl, tt)))

simple_done : (r : Routine) (names : Readings) (s : Stmt) (o : Option ℕ) → AllDo (simple_lines r names s o)
simple_done r names (Return e) o = all_done (leave_lines r names e) (leave_done r names e)
simple_done r names (Spawn f es) o = (refl, goes_done o)
simple_done r names (Declare x t (Some e)) o = (refl, goes_done o)
simple_done r names (Declare x t None) o = passes_done o
simple_done r names (Assign e op v) o = (refl, goes_done o)
simple_done r names (Call to f es) o = (refl, goes_done o)
simple_done r names (Block ss) o = passes_done o
simple_done r names Empty o = passes_done o
simple_done r names (Detach to f es) o = passes_done o
simple_done r names (If t a b) o = passes_done o
simple_done r names (While t s) o = passes_done o
simple_done r names (DoWhile s t) o = passes_done o
simple_done r names (For a t b s) o = passes_done o
simple_done r names (Goto l) o = passes_done o
simple_done r names (Label l s) o = passes_done o
simple_done r names Break o = passes_done o
simple_done r names Continue o = passes_done o

framed_done : (r : Routine) (names : Readings) (s : Stmt) (o : Option ℕ) → AllDo (framed_lines r names s o)
framed_done r names (Call to f es) o = (refl, goes_done _)
framed_done r names (Return e) o = passes_done _
framed_done r names (Spawn f es) o = passes_done _
framed_done r names (Declare x t e) o = passes_done _
framed_done r names (Assign e op v) o = passes_done _
framed_done r names (Block ss) o = passes_done _
framed_done r names Empty o = passes_done _
framed_done r names (Detach to f es) o = passes_done _
framed_done r names (If t a b) o = passes_done _
framed_done r names (While t s) o = passes_done _
framed_done r names (DoWhile s t) o = passes_done _
framed_done r names (For a t b s) o = passes_done _
framed_done r names (Goto l) o = passes_done _
framed_done r names (Label l s) o = passes_done _
framed_done r names Break o = passes_done _
framed_done r names Continue o = passes_done _

called_done : (p : Program) (r : Routine) (names : Readings) (to : Option Expr) (f : Expr) (es : Exprs) (a : Option ℕ) → AreBare (cps_lines p r names (Call to f es) a)
called_done p r names to (ENamed f) es a = waits_done r names a f (function_named p f) es
called_done p r names to (EInteger k z) es a = tt
called_done p r names to (ECharacter z) es a = tt
called_done p r names to (EText z) es a = tt
called_done p r names to (EUnary k z) es a = tt
called_done p r names to (EBinary o x y) es a = tt
called_done p r names to (EAnd x y) es a = tt
called_done p r names to (EOr x y) es a = tt
called_done p r names to (EChoose x y z) es a = tt
called_done p r names to (ECast x y) es a = tt
called_done p r names to (ESizeOf x) es a = tt
called_done p r names to (EIndex x y) es a = tt
called_done p r names to (EMember x y) es a = tt
called_done p r names to (EArrow x y) es a = tt
called_done p r names to (ECall x y) es a = tt

cps_done : (p : Program) (r : Routine) (names : Readings) (s : Stmt) (a : Option ℕ) → AreBare (cps_lines p r names s a)
cps_done p r names (Call to f es) a = called_done p r names to f es a
cps_done p r names (Detach to f es) a = bare_append (frame_lines_if r to_name a) _ (frame_if_done r to_name a) (refl, (refl, tt))
cps_done p r names (Return e) a = tt
cps_done p r names (Spawn f es) a = tt
cps_done p r names (Declare x t e) a = tt
cps_done p r names (Assign e op v) a = tt
cps_done p r names (Block ss) a = tt
cps_done p r names Empty a = tt
cps_done p r names (If t x b) a = tt
cps_done p r names (While t s) a = tt
cps_done p r names (DoWhile s t) a = tt
cps_done p r names (For x t b s) a = tt
cps_done p r names (Goto l) a = tt
cps_done p r names (Label l s) a = tt
cps_done p r names Break a = tt
cps_done p r names Continue a = tt

test_done : (names : Readings) (t : Option Expr) (n m : Option ℕ) → AllDo (test_lines names t n m)
test_done names None n m = passes_done n
test_done names (Some e) None m = passes_done None
test_done names (Some e) (Some n) m = (tt, goes_done m)

arrival_done : (names : Readings) (o : Option (Option Expr)) (n : Option ℕ) → AllDo (arrival_lines names o n)
arrival_done names None n = passes_done n
arrival_done names (Some None) n = passes_done n
arrival_done names (Some (Some e)) n = (refl, goes_done n)

pub stood_done : (p : Program) (r : Routine) (names : Readings) (w : Manner) (s : Stood) (n m a : Option ℕ) → AllDo (stood_lines p r names w s n m a)
stood_done p r names w AtEnd n m a = all_done (leave_lines r names None) (leave_done r names None)
stood_done p r names w (AtArrival x) n m a = arrival_done names (target_of x) n
stood_done p r names w (AtStatement (Test t)) n m a = test_done names t n m
stood_done p r names InPlace (AtStatement (Simple s)) n m a = simple_done r names s n
stood_done p r names ByFrame (AtStatement (Simple s)) n m a = framed_done r names s a
stood_done p r names AsCps (AtStatement (Simple s)) n m a = all_done (cps_lines p r names s a) (cps_done p r names s a)
stood_done p r names w (AtStatement Nothing) n m a = passes_done n

-- ---- rows

stub_done : (r : Routine) (n : ℕ) → AllDo (stub_lines r n)
stub_done r n = all_done (frame_lines r to_name (At n) ++ (hands_over to_name ∷ [])) (bare_append (frame_lines r to_name (At n)) (hands_over to_name ∷ []) (frame_done r to_name (At n)) (refl, tt))

pub lines_done : (b : Bool) (p : Program) (r : Routine) (n : ℕ) → AllDo (lines_by b p r n)
lines_done true p r n = go (slice_get r.split.graph.nodes n)
  where
    go : (o : Option Node) → AllDo (at_node [] (node_lines p r) o)
    go None = tt
    go (Some node) = stood_done p r _ node.manner node.stood node.yes node.no node.arrival
lines_done false p r n = stub_done r n

-- so it is in each of these rows
abbrev pub AllRows : List Row → Type 0
AllRows [] = Unit {0}
AllRows (r ∷ rs) = AllDo r.lines × AllRows rs

pub rows_map : (f : ℕ → Row) → ((n : ℕ) → AllDo (f n).lines) → (ns : List ℕ) → AllRows (map f ns)
rows_map f h [] = tt
rows_map f h (n ∷ ns) = (h n, rows_map f h ns)

put_done : (o : Option ℕ) (x : Line) → DoesLine x → AreBare (map put_statement (put_line o x))
put_done o (Does x) h = (h, tt)
put_done o (Goes n) h = go (is_next n o)
  where
    go : (b : Bool) → AreBare (map put_statement (cond b [] (Jump n ∷ [])))
    go true = tt
    go false = (refl, tt)
put_done o (Tests e n) h = (refl, tt)
put_done o (Passes n) h = go (is_next n o)
  where
    go : (b : Bool) → AreBare (map put_statement (cond b (Plain Empty ∷ []) (Jump n ∷ [])))
    go true = (refl, tt)
    go false = (refl, tt)

puts_append : (xs ys : List Put) → AreBare (map put_statement xs) → AreBare (map put_statement ys) → AreBare (map put_statement (xs ++ ys))
puts_append [] ys h g = g
puts_append (x ∷ xs) ys h g = (h.0, puts_append xs ys h.1 g)

pub puts_done : (o : Option ℕ) (xs : List Line) → AllDo xs → AreBare (map put_statement (put_lines o xs))
puts_done o [] h = tt
puts_done o (x ∷ xs) h = puts_append (put_line o x) (put_lines o xs) (put_done o x h.0) (puts_done o xs h.1)

label_done : (b : Bool) (l : Text) (ss : List Stmt) → AreBare ss → AreLines (label_if b l ss)
label_done true l [] h = tt
label_done true l (s ∷ ss) h = bare_lines (s ∷ ss) h
label_done false l ss h = bare_lines ss h

rows_done : (all : List PutRow) (rs : List Row) → AllRows rs → AreLines (rows_statements all (put_rows rs))
rows_done all [] h = tt
rows_done all (r ∷ rs) h = lines_append _ _ (label_done (is_wanted r.number all) (node_label r.number) _ (puts_done (first_number rs) r.lines h.0)) (rows_done all rs h.1)

-- what stands behind the opening of a piece
pub piece_lines : (p : Program) (r : Routine) (l : Place) → AreLines (piece_statements p r l)
piece_lines p r l = rows_done (put_rows (rows_of p r l)) (rows_of p r l) (rows_map (row_of p r l) (λ n. lines_done (is_own r.split l n) p r n) (numbers_of p r l))
