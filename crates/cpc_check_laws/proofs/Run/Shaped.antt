-- Texts give trees of the shape in which the rules see every name.
use Rattle.std.proofs.Common.{◌≡◌, ℕ, true, List, [], ◌∷◌, ◌++◌, Option, Some, refl}
use Rattle.cpc_base.specs.declared.stop.Place.{Place}
use Rattle.cpc_base.proofs.Truth.{and_first, and_second, and_holds}
use Rattle.cpc_tree.specs.Syntax.{Ty}
use Rattle.cpc_tree.specs.Tokens.{Placed}
use Rattle.cpc_tree.specs.Located.{LExpr, LStmt, LVariable, LItem}
use Rattle.cpc_tree.specs.StmtGrammar.{Right, Value, Calls, Section, given, begun, stmts, maybe, ReadsSimple, assigned, updated, stepped_behind, stepped_before, performed, detached, ReadsLocalPart, unset, set, ReadsLocalRow, last_local, more_locals, ReadsLocal, local, ReadsFirst, no_first, simple_first, local_first, ReadsStep, no_step, some_step, ReadsStmt, block, empty, simple, labelled, if_alone, if_else, while, do_while, for, goto, break, continue, return, spawn, ReadsBlock, no_part, a_stmt, a_local}
use Rattle.cpc_tree.specs.ItemGrammar as I
use Rattle.cpc_tree.specs.ItemGrammar.{ReadsGlobal, ReadsGlobals, last_global, more_globals, ReadsItem, struct, globals, function, prototype, ReadsItems, no_item, items}
use Rattle.cpc_check_laws.specs.Run.Shape.{is_step, is_shaped, all_shaped, is_shaped_item, are_shaped}
use Rattle.cpc_check_laws.specs.Run.Laws.{TextsAreShaped, NativeTextIsPlain}
use Rattle.cpc_check_laws.proofs.Run.Native.{native_is_plain}

-- ---- rows of statements

row_more : (xs ys : List LStmt) → all_shaped (stmts xs) ≡ true → all_shaped (stmts ys) ≡ true → all_shaped (stmts (xs ++ ys)) ≡ true
row_more [] ys h g = g
row_more (x ∷ xs) ys h g = and_holds _ _ (and_first (is_shaped x) (all_shaped (stmts xs)) h) (row_more xs ys (and_second (is_shaped x) (all_shaped (stmts xs)) h) g)

row_one : (s : LStmt) → is_shaped s ≡ true → all_shaped (stmts (s ∷ [])) ≡ true
row_one s h = and_holds _ _ h refl

-- ---- simple statements and locals

given_step : (q o : Place) (v : LExpr) (r : Right) → (is_step (maybe (Some (given q o v r))) ≡ true) × (is_shaped (given q o v r) ≡ true)
given_step q o v (Value w) = (refl, refl)
given_step q o v (Calls f vs) = (refl, refl)
given_step q o v (Section k x vs) = (refl, refl)

simple_step : (f : List Placed) (s : LStmt) (h : ℕ) → ReadsSimple f s h → (is_step (maybe (Some s)) ≡ true) × (is_shaped s ≡ true)
simple_step _ _ _ (assigned f g q v r h j a b) = given_step _ q v r
simple_step _ _ _ (updated f g q p op v w h j a e b) = (refl, refl)
simple_step _ _ _ (stepped_behind f q p op v h a e) = (refl, refl)
simple_step _ _ _ (stepped_before f q p op v h e a) = (refl, refl)
simple_step _ _ _ (performed f g q r v vs h j a b) = (refl, refl)
simple_step _ _ _ (detached f q x vs h a) = (refl, refl)

begun_shaped : (q : Place) (x : LVariable) (r : Right) → all_shaped (stmts (begun q x r)) ≡ true
begun_shaped q x (Value w) = refl
begun_shaped q x (Calls f vs) = refl
begun_shaped q x (Section k y vs) = refl

part_shaped : (q : Place) (base : Ty) (f : List Placed) (ss : List LStmt) (h : ℕ) → ReadsLocalPart q base f ss h → all_shaped (stmts ss) ≡ true
part_shaped q base _ _ _ (unset f x h a) = refl
part_shaped q base _ _ _ (set f g o x r h j a b) = begun_shaped q x r

locals_shaped : (q : Place) (base : Ty) (f : List Placed) (ss : List LStmt) (h : ℕ) → ReadsLocalRow q base f ss h → all_shaped (stmts ss) ≡ true
locals_shaped q base _ _ _ (last_local f ss h a) = part_shaped q base f ss h a
locals_shaped q base _ _ _ (more_locals f g r ss rs h j a b) = row_more ss rs (part_shaped q base f ss h a) (locals_shaped q base g rs j b)

local_shaped : (f : List Placed) (ss : List LStmt) (h : ℕ) → ReadsLocal f ss h → all_shaped (stmts ss) ≡ true
local_shaped _ _ _ (local a f base ss i h b r) = locals_shaped _ base f ss h r

first_shaped : (f : List Placed) (ss : List LStmt) (h : ℕ) → ReadsFirst f ss h → all_shaped (stmts ss) ≡ true
first_shaped _ _ _ no_first = refl
first_shaped _ _ _ (simple_first f s h a) = row_one s (simple_step f s h a).1
first_shaped _ _ _ (local_first f ss h a) = local_shaped f ss h a

step_shaped : (f : List Placed) (o : Option LStmt) (h : ℕ) → ReadsStep f o h → is_step (maybe o) ≡ true
step_shaped _ _ _ no_step = refl
step_shaped _ _ _ (some_step f s h a) = (simple_step f s h a).0

-- ---- statements

mutual
  stmt_shaped : (f : List Placed) (s : LStmt) (h : ℕ) → ReadsStmt f s h → is_shaped s ≡ true
  stmt_shaped _ _ _ (block f q r ss h b) = block_shaped f ss h b
  stmt_shaped _ _ _ (empty q) = refl
  stmt_shaped _ _ _ (simple f q s h a) = (simple_step f s h a).1
  stmt_shaped _ _ _ (labelled f q x s h a) = stmt_shaped f s h a
  stmt_shaped _ _ _ (if_alone f g q r t c s h i a b) = and_holds _ _ (stmt_shaped g s i b) refl
  stmt_shaped _ _ _ (if_else f g k q r t u c s l h i j a b d e) = and_holds _ _ (stmt_shaped g s i b) (stmt_shaped k l j e)
  stmt_shaped _ _ _ (while f g q r t c s h i a b) = stmt_shaped g s i b
  stmt_shaped _ _ _ (do_while f g q r t u w s c h i a b) = stmt_shaped f s h a
  stmt_shaped _ _ _ (for f g k l q r t u w ss o p s h i j m a b c d) = and_holds _ _ (first_shaped f ss h a) (and_holds _ _ (step_shaped k p j c) (stmt_shaped l s m d))
  stmt_shaped _ _ _ (goto q r x) = refl
  stmt_shaped _ _ _ (break q r) = refl
  stmt_shaped _ _ _ (continue q r) = refl
  stmt_shaped _ _ _ (return f q r o h a) = refl
  stmt_shaped _ _ _ (spawn g q r s t x vs h a) = refl

  block_shaped : (f : List Placed) (ss : List LStmt) (h : ℕ) → ReadsBlock f ss h → all_shaped (stmts ss) ≡ true
  block_shaped _ _ _ no_part = refl
  block_shaped _ _ _ (a_stmt f g s ss h j a b) = and_holds _ _ (stmt_shaped f s h a) (block_shaped g ss j b)
  block_shaped _ _ _ (a_local f g q rs ss h j a b) = row_more rs ss (local_shaped f rs h a) (block_shaped g ss j b)

-- ---- items

items_more : (xs ys : List LItem) → are_shaped xs ≡ true → are_shaped ys ≡ true → are_shaped (xs ++ ys) ≡ true
items_more [] ys h g = g
items_more (x ∷ xs) ys h g = and_holds _ _ (and_first (is_shaped_item x) (are_shaped xs) h) (items_more xs ys (and_second (is_shaped_item x) (are_shaped xs) h) g)

global_shaped : (base : Ty) (f : List Placed) (x : LItem) (h : ℕ) → ReadsGlobal base f x h → is_shaped_item x ≡ true
global_shaped base _ _ _ (I.unset f x h a) = refl
global_shaped base _ _ _ (I.set f g q x v h j a b) = refl

globals_shaped : (base : Ty) (f : List Placed) (xs : List LItem) (h : ℕ) → ReadsGlobals base f xs h → are_shaped xs ≡ true
globals_shaped base _ _ _ (last_global f x h a) = and_holds _ _ (global_shaped base f x h a) refl
globals_shaped base _ _ _ (more_globals f g q x xs h j a b) = and_holds _ _ (global_shaped base f x h a) (globals_shaped base g xs j b)

item_shaped : (f : List Placed) (xs : List LItem) (h : ℕ) → ReadsItem f xs h → are_shaped xs ≡ true
item_shaped _ _ _ (struct f q r s t tag xs h a) = refl
item_shaped _ _ _ (globals a f q base xs i h b c) = globals_shaped base f xs h c
item_shaped _ _ _ (function m f g q r mode x ss h j a b c d) = and_holds _ _ (block_shaped g ss j d) refl
item_shaped _ _ _ (prototype m f q mode x h a b) = refl

items_shaped : (f : List Placed) (xs : List LItem) (h : ℕ) → ReadsItems f xs h → are_shaped xs ≡ true
items_shaped _ _ _ no_item = refl
items_shaped _ _ _ (items f g xs ys h j a b) = items_more xs ys (item_shaped f xs h a) (items_shaped g ys j b)

pub texts_are_shaped : TextsAreShaped
texts_are_shaped dialect text p (list, cut, (e, h, le, r)) = items_shaped list p.items h r

pub native_text_is_plain : NativeTextIsPlain
native_text_is_plain text p read h n = native_is_plain p (texts_are_shaped _ text p read) h n
