-- The literals of a program that is read from tokens are numbers of their kinds, as the tokens hold them.
use Rattle.std.proofs.Common.{◌≡◌, ℕ, suc, true, List, [], ◌∷◌, ◌++◌, pos, Option, Some, None, arith}
use Rattle.std.proofs.lemmas.Int.{ints}
use Rattle.cpc_base.specs.declared.stop.Place.{Place}
use Rattle.cpc_num.specs.declared.kinds.Kind.TheVariants.{Int}
use Rattle.cpc_num.specs.Number.{IsOf}
use Rattle.cpc_tree.specs.Syntax.{Ty}
use Rattle.cpc_tree.specs.Tokens.{Placed}
use Rattle.cpc_tree.specs.Located.{Ident, LExpr, LNamed, LInteger, LCharacter, LText, LUnary, LBinary, LAnd, LOr, LChoose, LCast, LSizeOf, LIndex, LMember, LArrow, LCall, LExprs, NoLExpr, AndLExpr, LStmt, Block, Empty, Declare, Assign, Call, Detach, Spawn, If, While, DoWhile, For, Goto, Label, Break, Continue, Return, LStmts, NoLStmt, AndLStmt, MaybeLStmt, NoneLStmt, SomeLStmt, LVariable, LParameter, LItem, LFunctionItem}
use Rattle.cpc_tree.specs.ExprGrammar as E
use Rattle.cpc_tree.specs.ExprGrammar.{Rank, Primary, Postfix, Unary, Tier, Whole, Operator, operated, Reads, ReadsArgs}
use Rattle.cpc_tree.specs.StmtGrammar as G
use Rattle.cpc_tree.specs.StmtGrammar.{Right, Value, Calls, Section, given, begun, begin, stmts, maybe, ReadsCall, ReadsSection, ReadsRight, ReadsSimple, ReadsLocalPart, ReadsLocalRow, ReadsLocal, ReadsMaybe, ReadsFirst, ReadsStep, ReadsStmt, ReadsBlock}
use Rattle.cpc_tree.specs.ItemGrammar as I
use Rattle.cpc_tree.specs.ItemGrammar.{all_named, ReadsGlobal, ReadsGlobals, ReadsItem, ReadsItems}
use Rattle.cpc_native_laws.proofs.Tokens.{AllFit, fit_parts}

-- ---- literals

abbrev mutual
  -- all literals of an expression are numbers of their kinds
  pub Fine : LExpr → Type 0
  Fine (LInteger q kind z) = IsOf kind z
  Fine (LCharacter q z) = IsOf Int z
  Fine (LUnary q op v) = Fine v
  Fine (LBinary q op v w) = Fine v × Fine w
  Fine (LAnd q v w) = Fine v × Fine w
  Fine (LOr q v w) = Fine v × Fine w
  Fine (LChoose q c v w) = Fine c × Fine v × Fine w
  Fine (LCast q t v) = Fine v
  Fine (LIndex q v w) = Fine v × Fine w
  Fine (LMember q v x) = Fine v
  Fine (LArrow q v x) = Fine v
  Fine (LCall q g vs) = Fine g × AllFine vs
  Fine (LNamed x) = Unit {0}
  Fine (LText q bytes) = Unit {0}
  Fine (LSizeOf q t) = Unit {0}

  pub AllFine : LExprs → Type 0
  AllFine NoLExpr = Unit {0}
  AllFine (AndLExpr v vs) = Fine v × AllFine vs

abbrev pub FineIf : Option LExpr → Type 0
FineIf None = Unit {0}
FineIf (Some v) = Fine v

abbrev mutual
  -- of a statement
  pub FineStmt : LStmt → Type 0
  FineStmt (Block q ss) = FineStmts ss
  FineStmt (Empty q) = Unit {0}
  FineStmt (Declare q x t start) = FineIf start
  FineStmt (Assign q o v op w) = Fine v × Fine w
  FineStmt (Call q o u g vs) = FineIf u × Fine g × AllFine vs
  FineStmt (Detach q o k u x vs) = FineIf u × AllFine vs
  FineStmt (Spawn q x vs) = AllFine vs
  FineStmt (If q c s r) = Fine c × FineStmt s × FineArm r
  FineStmt (While q c s) = Fine c × FineStmt s
  FineStmt (DoWhile q s c) = FineStmt s × Fine c
  FineStmt (For q ss c r s) = FineStmts ss × FineIf c × FineArm r × FineStmt s
  FineStmt (Goto q x) = Unit {0}
  FineStmt (Label x s) = FineStmt s
  FineStmt (Break q) = Unit {0}
  FineStmt (Continue q) = Unit {0}
  FineStmt (Return q v) = FineIf v

  pub FineStmts : LStmts → Type 0
  FineStmts NoLStmt = Unit {0}
  FineStmts (AndLStmt s ss) = FineStmt s × FineStmts ss

  pub FineArm : MaybeLStmt → Type 0
  FineArm NoneLStmt = Unit {0}
  FineArm (SomeLStmt s) = FineStmt s

-- of a body, which is a block
abbrev pub FineBody : LStmt → Type 0
FineBody (Block q ss) = FineStmts ss
FineBody s = ⊥

-- of a function, all parameters of which have names
abbrev pub FineItem : LItem → Type 0
FineItem (LFunctionItem f) = FineBody f.body × (all_named (λ (p : LParameter). p.called) f.parameters ≡ true)
FineItem x = Unit {0}

-- of all items
abbrev pub FineItems : List LItem → Type 0
FineItems [] = Unit {0}
FineItems (x ∷ xs) = FineItem x × FineItems xs

-- ---- expressions

operated_fine : (q : Place) (op : Operator) (v w : LExpr) → Fine v → Fine w → Fine (operated q op v w)
operated_fine q (E.Binary op) v w h k = (h, k)
operated_fine q E.And v w h k = (h, k)
operated_fine q E.Or v w h k = (h, k)

mutual
  expr_fine : (k : Rank) (f : List Placed) (v : LExpr) (h : ℕ) → Reads k f v h → AllFit f → Fine v
  expr_fine k f v h (E.a_name x) t = tt
  expr_fine k f v h (E.an_integer q kind z) t = t.0
  expr_fine k f v h (E.a_character q z) t = t.0
  expr_fine k f v h (E.a_text q bytes) t = tt
  expr_fine k f v h (E.parens g q p w j r) t = expr_fine Whole g w j r (fit_parts g _ t.1).0
  expr_fine k f v h (E.a_primary g w j r) t = expr_fine Primary g w j r t
  expr_fine k f v h (E.indexed g l q p u w i j r s) t =
      let a = fit_parts g _ t in
      let b = fit_parts l _ a.1.1 in
      (expr_fine Postfix g u i r a.0, expr_fine Whole l w j s b.0)
  expr_fine k f v h (E.called g l q p u vs i j r s) t =
      let a = fit_parts g _ t in
      let b = fit_parts l _ a.1.1 in
      (expr_fine Postfix g u i r a.0, args_fine l vs j s b.0)
  expr_fine k f v h (E.member g q u x j r) t = expr_fine Postfix g u j r (fit_parts g _ t).0
  expr_fine k f v h (E.arrow g q u x j r) t = expr_fine Postfix g u j r (fit_parts g _ t).0
  expr_fine k f v h (E.a_postfix g u j r) t = expr_fine Postfix g u j r t
  expr_fine k f v h (E.signed g q p op u j e r) t = expr_fine (Tier 0) g u j r t.1
  expr_fine k f v h (E.size g q o p ty j r) t = tt
  expr_fine k f v h (E.a_unary g u j r) t = expr_fine Unary g u j r t
  expr_fine k f v h (E.cast g l q p ty u i j r s) t = expr_fine (Tier 0) l u j s (fit_parts g _ t.1).1.1
  expr_fine k f v h (E.an_operand n g u j r) t = expr_fine (Tier n) g u j r t
  expr_fine k f v h (E.applied n g l q p op u w i j r e s) t =
      let a = fit_parts g _ t in
      operated_fine q op u w (expr_fine (Tier (suc n)) g u i r a.0) (expr_fine (Tier n) l w j s a.1.1)
  expr_fine k f v h (E.unchosen g u j r) t = expr_fine (Tier 10) g u j r t
  expr_fine k f v h (E.chosen g l m q p c u w i j o r s z) t =
      let a = fit_parts g _ t in
      let b = fit_parts l _ a.1.1 in
      (expr_fine (Tier 10) g c i r a.0, expr_fine Whole l u j s b.0, expr_fine Whole m w o z b.1.1)

  args_fine : (f : List Placed) (vs : LExprs) (h : ℕ) → ReadsArgs f vs h → AllFit f → AllFine vs
  args_fine f vs h E.no_args t = tt
  args_fine f vs h (E.last_arg g v j r) t = (expr_fine Whole g v j r t, tt)
  args_fine f vs h (E.more_args g l q v w us i j r s) t =
      let a = fit_parts g _ t in
      (expr_fine Whole g v i r a.0, args_fine l (AndLExpr w us) j s a.1.1)

-- ---- simple statements

call_fine : (f : List Placed) (v : LExpr) (vs : LExprs) (h : ℕ) → ReadsCall f v vs h → AllFit f → Fine v × AllFine vs
call_fine f v vs h (G.call_alone g l q p u us i j r s) t =
    let a = fit_parts g _ t in
    let b = fit_parts l _ a.1.1 in
    (expr_fine Postfix g u i r a.0, args_fine l us j s b.0)
call_fine f v vs h (G.call_in_parens g q p u us j r) t = call_fine g u us j r (fit_parts g _ t.1).0

section_fine : (f : List Placed) (q : Place) (x : Ident) (vs : LExprs) (h : ℕ) → ReadsSection f q x vs h → AllFit f → AllFine vs
section_fine f q x vs h (G.section g o r s y us j k) t = args_fine g us j k (fit_parts g _ t.1.1.1).0

-- what stands behind =
abbrev FineRight : Right → Type 0
FineRight (Value v) = Fine v
FineRight (Calls v vs) = Fine v × AllFine vs
FineRight (Section q x vs) = AllFine vs

right_fine : (f : List Placed) (r : Right) (h : ℕ) → ReadsRight f r h → AllFit f → FineRight r
right_fine f r h (G.a_value g v j a e) t = expr_fine Whole g v j a t
right_fine f r h (G.a_call g v vs j a) t = call_fine g v vs j a t
right_fine f r h (G.a_section g q x vs j a) t = section_fine g q x vs j a t

given_fine : (q o : Place) (v : LExpr) (r : Right) → Fine v → FineRight r → FineStmt (given q o v r)
given_fine q o v (Value w) h k = (h, k)
given_fine q o v (Calls g vs) h k = (h, k.0, k.1)
given_fine q o v (Section p x vs) h k = (h, k)

one_fine : IsOf Int (pos 1)
one_fine = record { low = grind (arith, ints); high = grind (arith, ints) }

simple_fine : (f : List Placed) (s : LStmt) (h : ℕ) → ReadsSimple f s h → AllFit f → FineStmt s
simple_fine _ _ _ (G.assigned f g q v r h j a b) t =
    let k = fit_parts f _ t in
    given_fine (begin f) q v r (expr_fine Unary f v h a k.0) (right_fine g r j b k.1.1)
simple_fine _ _ _ (G.updated f g q p op v w h j a e b) t =
    let k = fit_parts f _ t in
    (expr_fine Unary f v h a k.0, expr_fine Whole g w j b k.1.1)
simple_fine _ _ _ (G.stepped_behind f q p op v h a e) t = (expr_fine Postfix f v h a (fit_parts f _ t).0, one_fine)
simple_fine _ _ _ (G.stepped_before f q p op v h e a) t = (expr_fine Unary f v h a t.1, one_fine)
simple_fine _ _ _ (G.performed f g q r v vs h j a b) t =
    let k = fit_parts f _ t in
    (tt, expr_fine Postfix f v h a k.0, args_fine g vs j b (fit_parts g _ k.1.1).0)
simple_fine _ _ _ (G.detached f q x vs h a) t = (tt, section_fine f q x vs h a t)

-- ---- locals

abbrev FineList : List LStmt → Type 0
FineList [] = Unit {0}
FineList (s ∷ ss) = FineStmt s × FineList ss

both_fine : (ss rs : List LStmt) → FineList ss → FineList rs → FineList (ss ++ rs)
both_fine [] rs h k = k
both_fine (s ∷ ss) rs h k = (h.0, both_fine ss rs h.1 k)

list_fine : (ss : List LStmt) → FineList ss → FineStmts (stmts ss)
list_fine [] h = tt
list_fine (s ∷ ss) h = (h.0, list_fine ss h.1)

begun_fine : (q : Place) (x : LVariable) (r : Right) → FineRight r → FineList (begun q x r)
begun_fine q x (Value w) h = (h, tt)
begun_fine q x (Calls g vs) h = (tt, ((tt, h.0, h.1), tt))
begun_fine q x (Section k y vs) h = (tt, ((tt, h), tt))

part_fine : (q : Place) (base : Ty) (f : List Placed) (ss : List LStmt) (h : ℕ) → ReadsLocalPart q base f ss h → AllFit f → FineList ss
part_fine q base _ _ _ (G.unset f x h a) t = (tt, tt)
part_fine q base _ _ _ (G.set f g o x r h j a b) t = begun_fine q x r (right_fine g r j b (fit_parts f _ t).1.1)

row_fine : (q : Place) (base : Ty) (f : List Placed) (ss : List LStmt) (h : ℕ) → ReadsLocalRow q base f ss h → AllFit f → FineList ss
row_fine q base _ _ _ (G.last_local f ss h a) t = part_fine q base f ss h a t
row_fine q base _ _ _ (G.more_locals f g r ss rs h j a b) t =
    let k = fit_parts f _ t in
    both_fine ss rs (part_fine q base f ss h a k.0) (row_fine q base g rs j b k.1.1)

local_fine : (f : List Placed) (ss : List LStmt) (h : ℕ) → ReadsLocal f ss h → AllFit f → FineList ss
local_fine _ _ _ (G.local a f base ss i h x y) t = row_fine (begin a) base f ss h y (fit_parts a _ t).1

maybe_fine : (f : List Placed) (o : Option LExpr) (h : ℕ) → ReadsMaybe f o h → AllFit f → FineIf o
maybe_fine _ _ _ G.no_value t = tt
maybe_fine _ _ _ (G.some_value f v h a) t = expr_fine Whole f v h a t

first_fine : (f : List Placed) (ss : List LStmt) (h : ℕ) → ReadsFirst f ss h → AllFit f → FineStmts (stmts ss)
first_fine _ _ _ G.no_first t = tt
first_fine _ _ _ (G.simple_first f s h a) t = (simple_fine f s h a t, tt)
first_fine _ _ _ (G.local_first f ss h a) t = list_fine ss (local_fine f ss h a t)

step_fine : (f : List Placed) (o : Option LStmt) (h : ℕ) → ReadsStep f o h → AllFit f → FineArm (maybe o)
step_fine _ _ _ G.no_step t = tt
step_fine _ _ _ (G.some_step f s h a) t = simple_fine f s h a t

-- ---- statements

mutual
  stmt_fine : (f : List Placed) (s : LStmt) (h : ℕ) → ReadsStmt f s h → AllFit f → FineStmt s
  stmt_fine _ _ _ (G.block f q r ss h a) t = list_fine ss (block_fine f ss h a (fit_parts f _ t.1).0)
  stmt_fine _ _ _ (G.empty q) t = tt
  stmt_fine _ _ _ (G.simple f q s h a) t = simple_fine f s h a (fit_parts f _ t).0
  stmt_fine _ _ _ (G.labelled f q x s h a) t = stmt_fine f s h a t.1.1
  stmt_fine _ _ _ (G.if_alone f g q r u c s h i a b) t =
      let k = fit_parts f _ t.1.1 in
      (expr_fine Whole f c h a k.0, stmt_fine g s i b k.1.1, tt)
  stmt_fine _ _ _ (G.if_else f g m q r u w c s l h i j a b e d) t =
      let k = fit_parts f _ t.1.1 in
      let n = fit_parts g _ k.1.1 in
      (expr_fine Whole f c h a k.0, stmt_fine g s i b n.0, stmt_fine m l j d n.1.1)
  stmt_fine _ _ _ (G.while f g q r u c s h i a b) t =
      let k = fit_parts f _ t.1.1 in
      (expr_fine Whole f c h a k.0, stmt_fine g s i b k.1.1)
  stmt_fine _ _ _ (G.do_while f g q r u w z s c h i a b) t =
      let k = fit_parts f _ t.1 in
      (stmt_fine f s h a k.0, expr_fine Whole g c i b (fit_parts g _ k.1.1.1).0)
  stmt_fine _ _ _ (G.for f g m l q r u w z ss o p s h i j n a b c d) t =
      let k = fit_parts f _ t.1.1 in
      let e = fit_parts g _ k.1.1 in
      let x = fit_parts m _ e.1.1 in
      (first_fine f ss h a k.0, maybe_fine g o i b e.0, step_fine m p j c x.0, stmt_fine l s n d x.1.1)
  stmt_fine _ _ _ (G.goto q r x) t = tt
  stmt_fine _ _ _ (G.break q r) t = tt
  stmt_fine _ _ _ (G.continue q r) t = tt
  stmt_fine _ _ _ (G.return f q r o h a) t = maybe_fine f o h a (fit_parts f _ t.1).0
  stmt_fine _ _ _ (G.spawn g q r s u x vs h a) t = args_fine g vs h a (fit_parts g _ t.1.1.1).0

  block_fine : (f : List Placed) (ss : List LStmt) (h : ℕ) → ReadsBlock f ss h → AllFit f → FineList ss
  block_fine _ _ _ G.no_part t = tt
  block_fine _ _ _ (G.a_stmt f g s ss h j a b) t =
      let k = fit_parts f _ t in
      (stmt_fine f s h a k.0, block_fine g ss j b k.1)
  block_fine _ _ _ (G.a_local f g q rs ss h j a b) t =
      let k = fit_parts f _ t in
      both_fine rs ss (local_fine f rs h a k.0) (block_fine g ss j b k.1.1)

-- ---- items

items_both : (xs ys : List LItem) → FineItems xs → FineItems ys → FineItems (xs ++ ys)
items_both [] ys h k = k
items_both (x ∷ xs) ys h k = (h.0, items_both xs ys h.1 k)

global_fine : (base : Ty) (f : List Placed) (x : LItem) (h : ℕ) → ReadsGlobal base f x h → FineItem x
global_fine base _ _ _ (I.unset f x h a) = tt
global_fine base _ _ _ (I.set f g q x v h j a b) = tt

globals_fine : (base : Ty) (f : List Placed) (xs : List LItem) (h : ℕ) → ReadsGlobals base f xs h → FineItems xs
globals_fine base _ _ _ (I.last_global f x h a) = (global_fine base f x h a, tt)
globals_fine base _ _ _ (I.more_globals f g q x xs h j a b) = (global_fine base f x h a, globals_fine base g xs j b)

item_fine : (f : List Placed) (xs : List LItem) (h : ℕ) → ReadsItem f xs h → AllFit f → FineItems xs
item_fine _ _ _ (I.struct f q r s u tag xs h a) t = (tt, tt)
item_fine _ _ _ (I.globals a f q base xs i h b c) t = globals_fine base f xs h c
item_fine _ _ _ (I.function m f g q r mode x ss h j a b n c) t =
    let k = fit_parts m _ t in
    let e = fit_parts f _ k.1 in
    ((list_fine ss (block_fine g ss j c (fit_parts g _ e.1.1).0), n), tt)
item_fine _ _ _ (I.prototype m f q mode x h a b) t = (tt, tt)

-- The literals of the items that are read from tokens.
pub items_fine : (f : List Placed) (xs : List LItem) (h : ℕ) → ReadsItems f xs h → AllFit f → FineItems xs
items_fine _ _ _ I.no_item t = tt
items_fine _ _ _ (I.items f g xs ys h j a b) t =
    let k = fit_parts f _ t in
    items_both xs ys (item_fine f xs h a k.0) (items_fine g ys j b k.1)
