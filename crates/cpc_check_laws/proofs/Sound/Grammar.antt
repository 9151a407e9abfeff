-- What is read as a program has the shapes of the grammar.
use Rattle.std.proofs.Common.{◌≡◌, ℕ, true, List, [], ◌∷◌, Option, refl}
use Rattle.cpc_tree.specs.declared.program.Mode.{Mode}
use Rattle.cpc_base.specs.declared.stop.Place.{Place}
use Rattle.cpc_tree.specs.Syntax.{Ty}
use Rattle.cpc_tree.specs.Tokens.{Placed}
use Rattle.cpc_tree.specs.Located.{LExpr, LStmt, LVariable, LItem}
use Rattle.cpc_tree.specs.StmtGrammar as G
use Rattle.cpc_tree.specs.StmtGrammar.{Right, Value, Calls, Section, given, begun, stmts, maybe, ReadsSimple, ReadsLocalPart, ReadsLocalRow, ReadsLocal, ReadsFirst, ReadsStep, ReadsStmt, ReadsBlock}
use Rattle.cpc_tree.specs.ItemGrammar as I
use Rattle.cpc_tree.specs.ItemGrammar.{ReadsMode, ReadsGlobal, ReadsGlobals, ReadsItem, ReadsItems}
use Rattle.cpc_check_laws.specs.Sound.Typed.{is_own}
use Rattle.cpc_check_laws.proofs.Sound.Agendas.{Each, each_append}
use Rattle.cpc_check_laws.proofs.Sound.Shapes.{IsStep, IsFirst, AllFirst, StepWritten, Written, AllWritten, step_first, first_written}
use Rattle.cpc_check_laws.proofs.Sound.Programs.{ItemShape}

-- ---- simple statements

given_step : (q o : Place) (v : LExpr) (r : Right) → IsStep (given q o v r)
given_step q o v (Value w) = tt
given_step q o v (Calls g vs) = tt
given_step q o v (Section k x vs) = tt

simple_step : (f : List Placed) (s : LStmt) (h : ℕ) → ReadsSimple f s h → IsStep s
simple_step _ _ _ (G.assigned f g q v r h j a b) = given_step (G.begin f) q v r
simple_step _ _ _ (G.updated f g q p op v w h j a e b) = tt
simple_step _ _ _ (G.stepped_behind f q p op v h a e) = tt
simple_step _ _ _ (G.stepped_before f q p op v h e a) = tt
simple_step _ _ _ (G.performed f g q r v vs h j a b) = tt
simple_step _ _ _ (G.detached f q x vs h a) = tt

begun_first : (q : Place) (x : LVariable) (r : Right) → Each IsFirst (begun q x r)
begun_first q x (Value w) = (tt, tt)
begun_first q x (Calls g vs) = (tt, (tt, tt))
begun_first q x (Section k y vs) = (tt, (tt, tt))

part_first : (q : Place) (base : Ty) (f : List Placed) (ss : List LStmt) (h : ℕ) → ReadsLocalPart q base f ss h → Each IsFirst ss
part_first q base _ _ _ (G.unset f x h a) = (tt, tt)
part_first q base _ _ _ (G.set f g o x r h j a b) = begun_first q x r

row_first : (q : Place) (base : Ty) (f : List Placed) (ss : List LStmt) (h : ℕ) → ReadsLocalRow q base f ss h → Each IsFirst ss
row_first q base _ _ _ (G.last_local f ss h a) = part_first q base f ss h a
row_first q base _ _ _ (G.more_locals f g r ss rs h j a b) = each_append IsFirst ss rs (part_first q base f ss h a) (row_first q base g rs j b)

local_first : (f : List Placed) (ss : List LStmt) (h : ℕ) → ReadsLocal f ss h → Each IsFirst ss
local_first _ _ _ (G.local a f base ss i h x y) = row_first (G.begin a) base f ss h y

all_first : (ss : List LStmt) → Each IsFirst ss → AllFirst (stmts ss)
all_first [] h = tt
all_first (s ∷ ss) h = (h.0, all_first ss h.1)

reads_first : (f : List Placed) (ss : List LStmt) (h : ℕ) → ReadsFirst f ss h → AllFirst (stmts ss)
reads_first _ _ _ G.no_first = tt
reads_first _ _ _ (G.simple_first f s h a) = (step_first s (simple_step f s h a), tt)
reads_first _ _ _ (G.local_first f ss h a) = all_first ss (local_first f ss h a)

reads_step : (f : List Placed) (o : Option LStmt) (h : ℕ) → ReadsStep f o h → StepWritten (maybe o)
reads_step _ _ _ G.no_step = tt
reads_step _ _ _ (G.some_step f s h a) = simple_step f s h a

firsts_written : (ss : List LStmt) → Each IsFirst ss → Each Written ss
firsts_written [] h = tt
firsts_written (s ∷ ss) h = (first_written s h.0, firsts_written ss h.1)

all_written : (ss : List LStmt) → Each Written ss → AllWritten (stmts ss)
all_written [] h = tt
all_written (s ∷ ss) h = (h.0, all_written ss h.1)

-- ---- statements

mutual
  stmt_written : (f : List Placed) (s : LStmt) (h : ℕ) → ReadsStmt f s h → Written s
  stmt_written _ _ _ (G.block f q r ss h a) = all_written ss (block_written f ss h a)
  stmt_written _ _ _ (G.empty q) = tt
  stmt_written _ _ _ (G.simple f q s h a) = first_written s (step_first s (simple_step f s h a))
  stmt_written _ _ _ (G.labelled f q x s h a) = stmt_written f s h a
  stmt_written _ _ _ (G.if_alone f g q r t c s h i a b) = (stmt_written g s i b, tt)
  stmt_written _ _ _ (G.if_else f g k q r t u c s l h i j a b e d) = (stmt_written g s i b, stmt_written k l j d)
  stmt_written _ _ _ (G.while f g q r t c s h i a b) = stmt_written g s i b
  stmt_written _ _ _ (G.do_while f g q r t u w s c h i a b) = stmt_written f s h a
  stmt_written _ _ _ (G.for f g k l q r t u w ss o p s h i j m a b c d) = (reads_first f ss h a, reads_step k p j c, stmt_written l s m d)
  stmt_written _ _ _ (G.goto q r x) = tt
  stmt_written _ _ _ (G.break q r) = tt
  stmt_written _ _ _ (G.continue q r) = tt
  stmt_written _ _ _ (G.return f q r o h a) = tt
  stmt_written _ _ _ (G.spawn g q r s t x vs h a) = tt

  block_written : (f : List Placed) (ss : List LStmt) (h : ℕ) → ReadsBlock f ss h → Each Written ss
  block_written _ _ _ G.no_part = tt
  block_written _ _ _ (G.a_stmt f g s ss h j a b) = (stmt_written f s h a, block_written g ss j b)
  block_written _ _ _ (G.a_local f g q rs ss h j a b) = each_append Written rs ss (firsts_written rs (local_first f rs h a)) (block_written g ss j b)

-- ---- items

mode_own : (f : List Placed) (mode : Mode) → ReadsMode f mode → is_own mode ≡ true
mode_own _ _ I.native = refl
mode_own _ _ (I.cps q) = refl
mode_own _ _ (I.detached q) = refl

global_shape : (base : Ty) (f : List Placed) (x : LItem) (h : ℕ) → ReadsGlobal base f x h → ItemShape x
global_shape base _ _ _ (I.unset f x h a) = tt
global_shape base _ _ _ (I.set f g q x v h j a b) = tt

globals_shape : (base : Ty) (f : List Placed) (xs : List LItem) (h : ℕ) → ReadsGlobals base f xs h → Each ItemShape xs
globals_shape base _ _ _ (I.last_global f x h a) = (global_shape base f x h a, tt)
globals_shape base _ _ _ (I.more_globals f g q x xs h j a b) = (global_shape base f x h a, globals_shape base g xs j b)

item_shape : (f : List Placed) (xs : List LItem) (h : ℕ) → ReadsItem f xs h → Each ItemShape xs
item_shape _ _ _ (I.struct f q r s t tag xs h a) = (tt, tt)
item_shape _ _ _ (I.globals a f q base xs i h b c) = globals_shape base f xs h c
item_shape _ _ _ (I.function m f g q r mode x ss h j a b n c) = ((mode_own m mode a, n, all_written ss (block_written g ss j c)), tt)
item_shape _ _ _ (I.prototype m f q mode x h a b) = (tt, tt)

pub items_shape : (f : List Placed) (xs : List LItem) (h : ℕ) → ReadsItems f xs h → Each ItemShape xs
items_shape _ _ _ I.no_item = tt
items_shape _ _ _ (I.items f g xs ys h j a b) = each_append ItemShape xs ys (item_shape f xs h a) (items_shape g ys j b)
