-- The print of a statement fits the tokens that it was read from.
use Rattle.std.proofs.Common.{◌≡◌, ℕ, Bool, List, [], ◌∷◌, ◌++◌, map, Option, refl}
use Rattle.std.proofs.lemmas.List.{map-append}
use Rattle.cpc_base.specs.declared.stop.Dialect.{Dialect}
use Rattle.cpc_tree.specs.declared.token.Punctuator.TheVariants as P
use Rattle.cpc_tree.specs.Tokens.{Mark, Placed}
use Rattle.cpc_tree.specs.Syntax.{Stmt, Assign, Call, Detach}
use Rattle.cpc_tree.specs.Located.{LStmt, bare_stmt, bare_maybe}
use Rattle.cpc_tree.specs.ExprGrammar.{Whole}
use Rattle.cpc_tree.specs.StmtGrammar as G
use Rattle.cpc_tree.specs.StmtGrammar.{ReadsStep, no_step, some_step, ReadsStmt, block, empty, simple, labelled, if_alone, if_else, while, do_while, for, goto, break, continue, return, spawn, ReadsBlock, no_part, a_stmt, a_local}
use Rattle.cpc_tree.specs.StmtPrint.{simple_row, step_row, stmt_row, block_row, PrintableSimple}
use Rattle.cpc_printer_laws.proofs.StmtRows.{stmts, stmts_bare}
use Rattle.cpc_printer_laws.proofs.LeastSimple.{simple_least}
use Rattle.cpc_printer_laws.proofs.Fitting.{Fits, at_none, at_both, at_token, at_drop}
use Rattle.cpc_printer_laws.proofs.FitExpressions.{expr_fits, args_fit}
use Rattle.cpc_printer_laws.proofs.FitSimple.{simple_fits, maybe_fits}
use Rattle.cpc_printer_laws.proofs.FitLocals.{local_fits, first_fits, block_both}

-- a simple statement stands before a semicolon
closed_row : (tight : Bool) (s : Stmt) → PrintableSimple s → stmt_row tight s ≡ simple_row tight s ++ Mark P.Semicolon ∷ []
unfolding stmt_row
closed_row tight (Assign v o w) a = refl
closed_row tight (Call o v vs) a = refl
closed_row tight (Detach o x vs) a = refl
closed_row tight s a = absurd a

step_fits : (d : Dialect) (tight : Bool) (f : List Placed) (o : Option LStmt) (h : ℕ) → ReadsStep f o h → Fits d f (step_row tight (bare_maybe (G.maybe o)))
step_fits d tight f o h no_step = at_none
step_fits d tight f o h (some_step g s i r) = simple_fits d tight g s i r

mutual
  unfolding stmt_row block_row

  pub stmt_fits : (d : Dialect) (tight : Bool) (f : List Placed) (s : LStmt) (h : ℕ) → ReadsStmt f s h → Fits d f (stmt_row tight (bare_stmt s))
  stmt_fits d tight f s h (block g q r ss i x) = rw (stmts_bare ss) (at_token (at_both (block_fits d tight g ss i x) (at_token at_none)))
  stmt_fits d tight f s h (empty q) = at_token at_none
  stmt_fits d tight f s h (simple g q r i x) = rw (closed_row tight (bare_stmt r) (simple_least g r i x).0) (at_both (simple_fits d tight g r i x) (at_token at_none))
  stmt_fits d tight f s h (labelled g q x r i y) = at_token (at_token (stmt_fits d tight g r i y))
  stmt_fits d tight f s h (if_alone g l q r t c u i j x y) = at_token (at_token (at_both (expr_fits d tight Whole g c i x) (at_token (stmt_fits d tight l u j y))))
  stmt_fits d tight f s h (if_else g l m q r t n c u w i j o x y e z) =
      at_token (at_token (at_both (expr_fits d tight Whole g c i x) (at_token (at_both (stmt_fits d tight l u j y) (at_token (stmt_fits d tight m w o z))))))
  stmt_fits d tight f s h (while g l q r t c u i j x y) = at_token (at_token (at_both (expr_fits d tight Whole g c i x) (at_token (stmt_fits d tight l u j y))))
  stmt_fits d tight f s h (do_while g l q r t n w u c i j x y) = at_token (at_both (stmt_fits d tight g u i x) (at_token (at_token (at_both (expr_fits d tight Whole l c j y) (at_token (at_token at_none))))))
  stmt_fits d tight f s h (for a b c e q r t u w ss o p st i j m n x y z v) =
      rw (stmts_bare ss) (at_token (at_token (at_both (first_fits d tight a ss i x) (at_token (at_both (maybe_fits d tight b o j y) (at_token (at_both (step_fits d tight c p m z) (at_token (stmt_fits d tight e st n v)))))))))
  stmt_fits d tight f s h (goto q r x) = at_token (at_token (at_token at_none))
  stmt_fits d tight f s h (break q r) = at_token (at_token at_none)
  stmt_fits d tight f s h (continue q r) = at_token (at_token at_none)
  stmt_fits d tight f s h (return g q r o i x) = at_token (at_both (maybe_fits d tight g o i x) (at_token at_none))
  stmt_fits d tight f s h (spawn g q r t u x vs i y) = at_token (at_token (at_token (at_both (args_fit d tight g vs i y) (at_token (at_token at_none)))))

  pub block_fits : (d : Dialect) (tight : Bool) (f : List Placed) (ss : List LStmt) (h : ℕ) → ReadsBlock f ss h → Fits d f (block_row tight (stmts (map bare_stmt ss)))
  block_fits d tight f ss h no_part = at_none
  block_fits d tight f ss h (a_stmt g l s rs i j x y) = at_both (stmt_fits d tight g s i x) (block_fits d tight l rs j y)
  block_fits d tight f ss h (a_local g l q rs us i j x y) =
      rw (map-append bare_stmt rs us, block_both tight (map bare_stmt rs) (map bare_stmt us)) (at_both (local_fits d tight g rs i x) (at_drop (block_fits d tight l us j y)))
