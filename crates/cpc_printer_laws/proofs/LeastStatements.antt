-- A statement that is read can be printed, and in the tight style it nests no deeper than it was read.
use Rattle.std.proofs.Common.{◌≡◌, ℕ, ◌≤◌, true, false, List, [], ◌∷◌, ◌++◌, map, Option, max, refl, arith}
use Rattle.std.proofs.lemmas.List.{map-append}
use Rattle.cpc_tree.specs.Tokens.{Placed}
use Rattle.cpc_tree.specs.Syntax.{Stmt, Assign, Call, Detach}
use Rattle.cpc_tree.specs.Located.{LStmt, bare_stmt, bare_maybe}
use Rattle.cpc_tree.specs.ExprGrammar.{Whole}
use Rattle.cpc_tree.specs.StmtGrammar as G
use Rattle.cpc_tree.specs.StmtGrammar.{ReadsStep, no_step, some_step, ReadsStmt, block, empty, simple, labelled, if_alone, if_else, while, do_while, for, goto, break, continue, return, spawn, ReadsBlock, no_part, a_stmt, a_local}
use Rattle.cpc_tree.specs.StmtPrint.{simple_depth, step_depth, stmt_depth, block_depth, is_local, PrintableSimple, PrintableStep, PrintableStmt, PrintableBlock}
use Rattle.cpc_printer_laws.proofs.StmtRows.{stmts, stmts_bare}
use Rattle.cpc_printer_laws.proofs.LeastExpressions.{expr_least, args_least}
use Rattle.cpc_printer_laws.proofs.LeastSimple.{simple_least, maybe_least}
use Rattle.cpc_printer_laws.proofs.LeastLocals.{local_least, first_least}

-- a statement that is no declaration, can be printed and nests no deeper than this
pub record Kept (s : Stmt) (h : ℕ) : Type 0 where
  pub all : PrintableStmt s
  pub other : is_local s ≡ false
  pub deep : stmt_depth true s ≤ h

kept_simple : (s : Stmt) (h : ℕ) → PrintableSimple s → simple_depth true s ≤ h → Kept s h
unfolding PrintableStmt stmt_depth
kept_simple (Assign v o w) h a b = record { all = a; other = refl; deep = b }
kept_simple (Call o v vs) h a b = record { all = a; other = refl; deep = b }
kept_simple (Detach o x vs) h a b = record { all = a; other = refl; deep = b }
kept_simple s h a b = absurd a

block_more : (ss rs : List Stmt) → PrintableBlock (stmts ss) → PrintableBlock (stmts rs) → PrintableBlock (stmts (ss ++ rs)) × (block_depth true (stmts (ss ++ rs)) ≤ max (block_depth true (stmts ss)) (block_depth true (stmts rs)))
unfolding PrintableBlock block_depth
block_more [] rs a b = (b, omega arith)
block_more (s ∷ ss) rs (a, c) b = let (d, e) = block_more ss rs c b in ((a, d), omega arith)

step_least : (f : List Placed) (o : Option LStmt) (h : ℕ) → ReadsStep f o h → PrintableStep (bare_maybe (G.maybe o)) × (step_depth true (bare_maybe (G.maybe o)) ≤ h)
step_least f o h no_step = (tt, omega arith)
step_least f o h (some_step g s i r) = simple_least g s i r

mutual
  unfolding PrintableStmt PrintableBlock stmt_depth block_depth

  pub stmt_least : (f : List Placed) (s : LStmt) (h : ℕ) → ReadsStmt f s h → Kept (bare_stmt s) h
  stmt_least f s h (block g q r ss i x) = let (a, b) = block_least g ss i x in rw (stmts_bare ss) (record { all = a; other = refl; deep = omega arith })
  stmt_least f s h (empty q) = record { all = tt; other = refl; deep = omega arith }
  stmt_least f s h (simple g q r i x) = let (a, b) = simple_least g r i x in kept_simple (bare_stmt r) i a b
  stmt_least f s h (labelled g q x r i y) = let k = stmt_least g r i y in record { all = (k.other, k.all); other = refl; deep = omega arith }
  stmt_least f s h (if_alone g l q r t c u i j x y) = let (a, b) = expr_least Whole g c i x in let k = stmt_least l u j y in record { all = (a, k.other, k.all); other = refl; deep = omega arith }
  stmt_least f s h (if_else g l m q r t n c u w i j o x y d z) =
      let (a, b) = expr_least Whole g c i x in let k = stmt_least l u j y in let p = stmt_least m w o z in
      record { all = (a, k.other, k.all, d, p.other, p.all); other = refl; deep = omega arith }
  stmt_least f s h (while g l q r t c u i j x y) = let (a, b) = expr_least Whole g c i x in let k = stmt_least l u j y in record { all = (a, k.other, k.all); other = refl; deep = omega arith }
  stmt_least f s h (do_while g l q r t n w u c i j x y) = let k = stmt_least g u i x in let (a, b) = expr_least Whole l c j y in record { all = (k.other, k.all, a); other = refl; deep = omega arith }
  stmt_least f s h (for a b c d q r t u w ss o p st i j m n x y z v) =
      let (e, g) = first_least a ss i x in let (k, l) = maybe_least b o j y in let (mp, ms) = step_least c p m z in let body = stmt_least d st n v in
      rw (stmts_bare ss) (record { all = (e, k, mp, body.other, body.all); other = refl; deep = omega arith })
  stmt_least f s h (goto q r x) = record { all = tt; other = refl; deep = omega arith }
  stmt_least f s h (break q r) = record { all = tt; other = refl; deep = omega arith }
  stmt_least f s h (continue q r) = record { all = tt; other = refl; deep = omega arith }
  stmt_least f s h (return g q r o i x) = let (a, b) = maybe_least g o i x in record { all = a; other = refl; deep = omega arith }
  stmt_least f s h (spawn g q r t u x vs i y) = let (a, b) = args_least g vs i y in record { all = a; other = refl; deep = omega arith }

  pub block_least : (f : List Placed) (ss : List LStmt) (h : ℕ) → ReadsBlock f ss h → PrintableBlock (stmts (map bare_stmt ss)) × (block_depth true (stmts (map bare_stmt ss)) ≤ h)
  block_least f ss h no_part = (tt, omega arith)
  block_least f ss h (a_stmt g l s rs i j x y) = let k = stmt_least g s i x in let (a, b) = block_least l rs j y in ((k.all, a), omega (arith, k.deep))
  block_least f ss h (a_local g l q rs us i j x y) =
      let d = local_least g rs i x in let (a, b) = block_least l us j y in let (c, e) = block_more (map bare_stmt rs) (map bare_stmt us) d.block a in
      rw (map-append bare_stmt rs us) (c, omega (arith, d.inside))
