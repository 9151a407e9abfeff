-- A printed block, with all that stands in it, is read as the block.
use Rattle.std.proofs.Common.{◌≡◌, ℕ, ◌+◌, Bool, true, false, List, [], ◌∷◌, ◌++◌, Option, max, refl, sym, subst}
use Rattle.std.proofs.lemmas.List.{append_assoc}
use Rattle.cpc_base.specs.Bytes.{Text}
use Rattle.cpc_tree.specs.declared.token.Keyword.TheVariants as K
use Rattle.cpc_tree.specs.declared.token.Punctuator.TheVariants as P
use Rattle.cpc_tree.specs.Tokens.{Lexeme, Word, Mark}
use Rattle.cpc_tree.specs.Syntax.{Ty, Expr, Stmt, Block, Empty, Declare, Assign, Call, Detach, Spawn, If, While, DoWhile, For, Goto, Label, Break, Continue, Return, Stmts, NoStmt, AndStmt, MaybeStmt, Absent, Present}
use Rattle.cpc_tree.specs.ExprGrammar.{Whole}
use Rattle.cpc_printer_laws.proofs.StmtRows.{maybe, ReadsMaybe, ReadsFirst, ReadsStep, ReadsStmt, block, empty, simple, labelled, if_alone, if_else, while, do_while, for, goto, break, continue, return, spawn, ReadsBlock, no_part, a_stmt, a_local}
use Rattle.cpc_tree.specs.StmtPrint.{stmt_row, stmt_depth, block_row, block_depth, simple_row, simple_depth, is_local, PrintableStmt, PrintableBlock}
use Rattle.cpc_printer_laws.proofs.ExpressionsRead.{expr_reads, args_read}
use Rattle.cpc_printer_laws.proofs.StatementsRead.{simple_reads, local_reads, maybe_reads, step_reads, listed, stmts_listed}
use Rattle.cpc_printer_laws.proofs.FirstRead.{first_reads}

local_joined : (tight : Bool) (x : Text) (t : Ty) (start : Option Expr) (g : List Lexeme) (ss : List Stmt) (j : ℕ) → PrintableStmt (Declare x t start) → ReadsBlock g ss j
    → ReadsBlock (stmt_row tight (Declare x t start) ++ g) (Declare x t start ∷ ss) (max (stmt_depth tight (Declare x t start)) j)
unfolding stmt_row stmt_depth PrintableStmt
local_joined tight x t start g ss j a b =
    subst (λ f. ReadsBlock f (Declare x t start ∷ ss) (max (simple_depth tight (Declare x t start)) j)) (sym (append_assoc (simple_row tight (Declare x t start)) (Mark P.Semicolon ∷ []) g))
    (a_local _ g (Declare x t start ∷ []) ss _ j (local_reads tight x t start a) b)

-- a statement in a block, or a declared local
joined : (tight : Bool) (s : Stmt) (g : List Lexeme) (ss : List Stmt) (j : ℕ) → PrintableStmt s → (is_local s ≡ false → ReadsStmt (stmt_row tight s) s (stmt_depth tight s)) → ReadsBlock g ss j
    → ReadsBlock (stmt_row tight s ++ g) (s ∷ ss) (max (stmt_depth tight s) j)
joined tight (Declare x t start) g ss j a r b = local_joined tight x t start g ss j a b
joined tight (Block rs) g ss j a r b = a_stmt _ g _ ss _ j (r refl) b
joined tight Empty g ss j a r b = a_stmt _ g _ ss _ j (r refl) b
joined tight (Assign v o w) g ss j a r b = a_stmt _ g _ ss _ j (r refl) b
joined tight (Call o v vs) g ss j a r b = a_stmt _ g _ ss _ j (r refl) b
joined tight (Detach o x vs) g ss j a r b = a_stmt _ g _ ss _ j (r refl) b
joined tight (Spawn x vs) g ss j a r b = a_stmt _ g _ ss _ j (r refl) b
joined tight (If c s p) g ss j a r b = a_stmt _ g _ ss _ j (r refl) b
joined tight (While c s) g ss j a r b = a_stmt _ g _ ss _ j (r refl) b
joined tight (DoWhile s c) g ss j a r b = a_stmt _ g _ ss _ j (r refl) b
joined tight (For f o p s) g ss j a r b = a_stmt _ g _ ss _ j (r refl) b
joined tight (Goto x) g ss j a r b = a_stmt _ g _ ss _ j (r refl) b
joined tight (Label x s) g ss j a r b = a_stmt _ g _ ss _ j (r refl) b
joined tight Break g ss j a r b = a_stmt _ g _ ss _ j (r refl) b
joined tight Continue g ss j a r b = a_stmt _ g _ ss _ j (r refl) b
joined tight (Return o) g ss j a r b = a_stmt _ g _ ss _ j (r refl) b

-- a for from its parts
for_reads : (f g k l : List Lexeme) (ss : Stmts) (o : Option Expr) (q : Option Stmt) (p : MaybeStmt) (s : Stmt) (h i j m : ℕ) → ReadsFirst f (listed ss) h → ReadsMaybe g o i → maybe q ≡ p → ReadsStep k q j → ReadsStmt l s m
    → ReadsStmt (Word K.For ∷ Mark P.LeftParen ∷ (f ++ Mark P.Semicolon ∷ (g ++ Mark P.Semicolon ∷ (k ++ Mark P.RightParen ∷ l)))) (For ss o p s) (max h (max i (max j m)) + 1)
for_reads f g k l ss o q p s h i j m a b e c d = rw (sym (stmts_listed ss), sym e) (for f g k l (listed ss) o q s h i j m a b c d)

mutual
  unfolding stmt_row stmt_depth PrintableStmt block_row block_depth PrintableBlock listed

  pub stmt_reads : (tight : Bool) (s : Stmt) → is_local s ≡ false → PrintableStmt s → ReadsStmt (stmt_row tight s) s (stmt_depth tight s)
  stmt_reads tight (Block ss) e a = subst (λ rs. ReadsStmt (stmt_row tight (Block ss)) (Block rs) (stmt_depth tight (Block ss))) (stmts_listed ss) (block _ (listed ss) _ (block_reads tight ss a))
  stmt_reads tight Empty e a = empty
  stmt_reads tight (Declare x t start) e a = absurd (let d : true ≡ false = e in cc)
  stmt_reads tight (Assign v o w) e a = simple _ _ _ (simple_reads tight (Assign v o w) a)
  stmt_reads tight (Call o v vs) e a = simple _ _ _ (simple_reads tight (Call o v vs) a)
  stmt_reads tight (Detach o x vs) e a = simple _ _ _ (simple_reads tight (Detach o x vs) a)
  stmt_reads tight (Spawn x vs) e a = spawn _ x vs _ (args_read tight vs a)
  stmt_reads tight (If c s Absent) e (a, l, b) = if_alone _ _ c s _ _ (expr_reads tight Whole c tt a) (stmt_reads tight s l b)
  stmt_reads tight (If c s (Present r)) e (a, l, b, d, m, q) = if_else _ _ _ c s r _ _ _ (expr_reads tight Whole c tt a) (stmt_reads tight s l b) d (stmt_reads tight r m q)
  stmt_reads tight (While c s) e (a, l, b) = while _ _ c s _ _ (expr_reads tight Whole c tt a) (stmt_reads tight s l b)
  stmt_reads tight (DoWhile s c) e (l, b, a) = do_while _ _ s c _ _ (stmt_reads tight s l b) (expr_reads tight Whole c tt a)
  stmt_reads tight (For ss o p s) e (a, b, c, l, d) =
      let (q, same, r) = step_reads tight p c in for_reads _ _ _ _ ss o q p s _ _ _ _ (first_reads tight ss a) (maybe_reads tight o b) same r (stmt_reads tight s l d)
  stmt_reads tight (Goto x) e a = goto x
  stmt_reads tight (Label x s) e (l, b) = labelled _ x s _ (stmt_reads tight s l b)
  stmt_reads tight Break e a = break
  stmt_reads tight Continue e a = continue
  stmt_reads tight (Return o) e a = return _ o _ (maybe_reads tight o a)

  pub block_reads : (tight : Bool) (ss : Stmts) → PrintableBlock ss → ReadsBlock (block_row tight ss) (listed ss) (block_depth tight ss)
  block_reads tight NoStmt a = no_part
  block_reads tight (AndStmt s ss) (a, b) = joined tight s _ _ _ a (λ e. stmt_reads tight s e a) (block_reads tight ss b)
