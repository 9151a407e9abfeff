-- A native function in which each spawn is a call of the spawner can be printed where the function can.
use Rattle.std.proofs.Common.{◌≡◌, ◌+◌, ◌≤◌, Bool, true, false, [], ◌∷◌, ◌++◌, Option, Some, None, refl, sym, subst, ap, ◌∙◌, arith}
use Rattle.cpc_base.specs.declared.stop.Dialect.TheVariants as D
use Rattle.cpc_tree.specs.declared.token.Keyword.TheVariants as K
use Rattle.cpc_tree.specs.declared.token.Punctuator.TheVariants as P
use Rattle.cpc_tree.specs.Tokens.{Word, Mark, Named}
use Rattle.cpc_tree.specs.Syntax.{Ty, Expr, Stmt, Block, Empty, Declare, Assign, Call, Detach, Spawn, If, While, DoWhile, For, Goto, Label, Break, Continue, Return, Stmts, NoStmt, AndStmt, MaybeStmt, Absent, Present}
use Rattle.cpc_tree.specs.ExprGrammar.{Whole}
use Rattle.cpc_tree.specs.StmtGrammar.{dangles}
use Rattle.cpc_tree.specs.ExprPrint.{expr_row, expr_depth, args_row, PrintableExpr}
use Rattle.cpc_tree.specs.StmtPrint.{maybe_row, first_row, step_row, stmt_row, block_row, stmt_depth, block_depth, is_local, PrintableLocals, PrintableFirst, PrintableStep, PrintableStmt, PrintableBlock}
use Rattle.cpc_printer_laws.proofs.Fitting.{Spelled, spelled_both, spelled_parts}
use Rattle.cpc_convert_common.specs.Converted.{respawned, respawned_all, respawned_arm}
use Rattle.cpc_chains_print_laws.proofs.Names.{spawner_is_name}
use Rattle.cpc_chains_print_laws.proofs.Images.{row_widened}

-- ---- what stays

-- in the first part of a for nothing is spawned
locals_same : (base : Ty) (before : Option Expr) (ss : Stmts) → PrintableLocals base before ss → respawned_all ss ≡ ss
unfolding PrintableLocals
locals_same base before NoStmt p = refl
locals_same base before (AndStmt (Declare x t start) ss) p = ap (AndStmt (Declare x t start)) (locals_same base _ ss p.2)
locals_same base before (AndStmt (Call (Some u) v vs) ss) p = ap (AndStmt (Call (Some u) v vs)) (locals_same base None ss p.3)
locals_same base before (AndStmt (Detach (Some u) y vs) ss) p = ap (AndStmt (Detach (Some u) y vs)) (locals_same base None ss p.2)
locals_same base before (AndStmt _ ss) p = absurd p

first_same : (ss : Stmts) → PrintableFirst ss → respawned_all ss ≡ ss
first_same NoStmt p = refl
first_same (AndStmt (Declare x t start) ss) p = ap (AndStmt (Declare x t start)) (locals_same _ _ ss p.1)
first_same (AndStmt (Assign v op w) NoStmt) p = refl
first_same (AndStmt (Call o v vs) NoStmt) p = refl
first_same (AndStmt (Detach o x vs) NoStmt) p = refl
first_same (AndStmt _ (AndStmt s ss)) p = absurd p
first_same (AndStmt _ NoStmt) p = absurd p

-- nor in the last
step_same : (q : MaybeStmt) → PrintableStep q → respawned_arm q ≡ q
step_same Absent p = refl
step_same (Present (Assign v op w)) p = refl
step_same (Present (Call o v vs)) p = refl
step_same (Present (Detach o x vs)) p = refl
step_same (Present _) p = absurd p

local_same : (s : Stmt) → is_local s ≡ false → is_local (respawned s) ≡ false
local_same (Declare x t start) h = h
local_same (Spawn f es) h = refl
local_same (Block ss) h = refl
local_same Empty h = refl
local_same (Assign v op w) h = refl
local_same (Call o v vs) h = refl
local_same (Detach o x vs) h = refl
local_same (If c a r) h = refl
local_same (While c a) h = refl
local_same (DoWhile a c) h = refl
local_same (For ss o q a) h = refl
local_same (Goto x) h = refl
local_same (Label x a) h = refl
local_same Break h = refl
local_same Continue h = refl
local_same (Return o) h = refl

-- an if without else stands where it stood
dangles_same : (s : Stmt) → dangles (respawned s) ≡ dangles s
dangles_same (If c a Absent) = refl
dangles_same (If c a (Present r)) = dangles_same r
dangles_same (While c a) = dangles_same a
dangles_same (For ss o q a) = dangles_same a
dangles_same (Label x a) = dangles_same a
dangles_same (Spawn f es) = refl
dangles_same (Block ss) = refl
dangles_same Empty = refl
dangles_same (Declare x t start) = refl
dangles_same (Assign v op w) = refl
dangles_same (Call o v vs) = refl
dangles_same (Detach o x vs) = refl
dangles_same (DoWhile a c) = refl
dangles_same (Goto x) = refl
dangles_same Break = refl
dangles_same Continue = refl
dangles_same (Return o) = refl

-- ---- statements

mutual
  unfolding PrintableStmt PrintableBlock PrintableExpr

  pub respawn_printable : (s : Stmt) → PrintableStmt s → PrintableStmt (respawned s)
  respawn_printable (Block ss) p = all_printable ss p
  respawn_printable (Spawn f es) p = (tt, tt, p)
  respawn_printable (If c a Absent) p = (p.0, local_same a p.1, respawn_printable a p.2)
  respawn_printable (If c a (Present r)) p = (p.0, local_same a p.1, respawn_printable a p.2, dangles_same a ∙ p.3, local_same r p.4, respawn_printable r p.5)
  respawn_printable (While c a) p = (p.0, local_same a p.1, respawn_printable a p.2)
  respawn_printable (DoWhile a c) p = (local_same a p.0, respawn_printable a p.1, p.2)
  respawn_printable (For ss o q a) p = (subst PrintableFirst (sym (first_same ss p.0)) p.0, p.1, subst PrintableStep (sym (step_same q p.2)) p.2, local_same a p.3, respawn_printable a p.4)
  respawn_printable (Label x a) p = (local_same a p.0, respawn_printable a p.1)
  respawn_printable Empty p = p
  respawn_printable (Declare x t start) p = p
  respawn_printable (Assign v op w) p = p
  respawn_printable (Call o v vs) p = p
  respawn_printable (Detach o x vs) p = p
  respawn_printable (Goto x) p = p
  respawn_printable Break p = p
  respawn_printable Continue p = p
  respawn_printable (Return o) p = p

  pub all_printable : (ss : Stmts) → PrintableBlock ss → PrintableBlock (respawned_all ss)
  all_printable NoStmt p = p
  all_printable (AndStmt s ss) p = (respawn_printable s p.0, all_printable ss p.1)

module _ (tight : Bool) where
  mutual
    unfolding PrintableStmt PrintableBlock stmt_row block_row expr_row

    pub respawn_spelled : (s : Stmt) → PrintableStmt s → Spelled D.Cpc (stmt_row tight s) → Spelled D.Event (stmt_row tight (respawned s))
    respawn_spelled (Block ss) p (b, s) =
        let (x, y) = spelled_parts D.Cpc (block_row tight ss) (Mark P.RightBrace ∷ []) s in (tt, spelled_both D.Event (block_row tight (respawned_all ss)) (Mark P.RightBrace ∷ []) (all_spelled ss p x) (tt, tt))
    respawn_spelled (Spawn f es) p (w, (n, (l, s))) =
        let (x, y) = spelled_parts D.Cpc (args_row tight es) _ s in
        let args = row_widened (args_row tight es) x in
        (spawner_is_name f n, (tt, spelled_both D.Event (args_row tight es ++ Mark P.RightParen ∷ []) (Mark P.Semicolon ∷ []) (spelled_both D.Event (args_row tight es) (Mark P.RightParen ∷ []) args (tt, tt)) (tt, tt)))
    respawn_spelled (If c a Absent) p (w, (l, s)) =
        let (x, y) = spelled_parts D.Cpc (expr_row tight Whole c) _ s in
        (tt, (tt, spelled_both D.Event (expr_row tight Whole c) _ (row_widened (expr_row tight Whole c) x) (tt, respawn_spelled a p.2 y.1)))
    respawn_spelled (If c a (Present r)) p (w, (l, s)) =
        let (x, y) = spelled_parts D.Cpc (expr_row tight Whole c) _ s in
        let (u, v) = spelled_parts D.Cpc (stmt_row tight a) _ y.1 in (
          tt,
          (
            tt,
            spelled_both D.Event (expr_row tight Whole c) _ (row_widened (expr_row tight Whole c) x)
                (tt, spelled_both D.Event (stmt_row tight (respawned a)) (Word K.Else ∷ stmt_row tight (respawned r)) (respawn_spelled a p.2 u) (tt, respawn_spelled r p.5 v.1)),
          ),
        )
    respawn_spelled (While c a) p (w, (l, s)) =
        let (x, y) = spelled_parts D.Cpc (expr_row tight Whole c) _ s in
        (tt, (tt, spelled_both D.Event (expr_row tight Whole c) _ (row_widened (expr_row tight Whole c) x) (tt, respawn_spelled a p.2 y.1)))
    respawn_spelled (DoWhile a c) p (w, s) =
        let (x, y) = spelled_parts D.Cpc (stmt_row tight a) _ s in
        (tt, spelled_both D.Event (stmt_row tight (respawned a)) _ (respawn_spelled a p.1 x) (row_widened (Word K.While ∷ Mark P.LeftParen ∷ (expr_row tight Whole c ++ Mark P.RightParen ∷ Mark P.Semicolon ∷ [])) y))
    respawn_spelled (For ss o q a) p (w, (l, s)) =
        let (x, y) = spelled_parts D.Cpc (first_row tight ss) _ s in
        let (u, v) = spelled_parts D.Cpc (maybe_row tight o) _ y.1 in
        let (i, j) = spelled_parts D.Cpc (step_row tight q) _ v.1 in
        let first = subst (λ ts. Spelled D.Event (first_row tight ts)) (sym (first_same ss p.0)) (row_widened (first_row tight ss) x) in
        let step = subst (λ ts. Spelled D.Event (step_row tight ts)) (sym (step_same q p.2)) (row_widened (step_row tight q) i) in
        (tt, (tt, spelled_both D.Event (first_row tight (respawned_all ss)) _ first (tt, spelled_both D.Event (maybe_row tight o) _ (row_widened (maybe_row tight o) u) (tt, spelled_both D.Event (step_row tight (respawned_arm q)) _ step (tt, respawn_spelled a p.4 j.1)))))
    respawn_spelled (Label x a) p (n, (c, s)) = (let w = row_widened (Named x ∷ []) (n, tt) in w.0, (tt, respawn_spelled a p.1 s))
    respawn_spelled Empty p s = row_widened (stmt_row tight Empty) s
    respawn_spelled (Declare x t start) p s = row_widened (stmt_row tight (Declare x t start)) s
    respawn_spelled (Assign v op w) p s = row_widened (stmt_row tight (Assign v op w)) s
    respawn_spelled (Call o v vs) p s = row_widened (stmt_row tight (Call o v vs)) s
    respawn_spelled (Detach o x vs) p s = row_widened (stmt_row tight (Detach o x vs)) s
    respawn_spelled (Goto x) p s = row_widened (stmt_row tight (Goto x)) s
    respawn_spelled Break p s = row_widened (stmt_row tight Break) s
    respawn_spelled Continue p s = row_widened (stmt_row tight Continue) s
    respawn_spelled (Return o) p s = row_widened (stmt_row tight (Return o)) s

    pub all_spelled : (ss : Stmts) → PrintableBlock ss → Spelled D.Cpc (block_row tight ss) → Spelled D.Event (block_row tight (respawned_all ss))
    all_spelled NoStmt p s = tt
    all_spelled (AndStmt a ss) p s = let (x, y) = spelled_parts D.Cpc (stmt_row tight a) (block_row tight ss) s in spelled_both D.Event (stmt_row tight (respawned a)) (block_row tight (respawned_all ss)) (respawn_spelled a p.0 x) (all_spelled ss p.1 y)

mutual
  unfolding PrintableStmt PrintableBlock stmt_depth block_depth expr_depth

  pub respawn_deep : (s : Stmt) → PrintableStmt s → stmt_depth true (respawned s) ≤ stmt_depth true s + 1
  respawn_deep (Block ss) p = let a = all_deep ss p in omega (arith, a)
  respawn_deep (Spawn f es) p = omega arith
  respawn_deep (If c a Absent) p = let x = respawn_deep a p.2 in omega (arith, x)
  respawn_deep (If c a (Present r)) p = let x = respawn_deep a p.2 in let y = respawn_deep r p.5 in omega (arith, x, y)
  respawn_deep (While c a) p = let x = respawn_deep a p.2 in omega (arith, x)
  respawn_deep (DoWhile a c) p = let x = respawn_deep a p.1 in omega (arith, x)
  respawn_deep (For ss o q a) p =
      let x = respawn_deep a p.4 in
      let d : stmt_depth true (For ss o q (respawned a)) ≤ stmt_depth true (For ss o q a) + 1 = omega (arith, x) in
      subst (λ ts. stmt_depth true (For ts o (respawned_arm q) (respawned a)) ≤ stmt_depth true (For ss o q a) + 1) (sym (first_same ss p.0)) (subst (λ r. stmt_depth true (For ss o r (respawned a)) ≤ stmt_depth true (For ss o q a) + 1) (sym (step_same q p.2)) d)
  respawn_deep (Label x a) p = let y = respawn_deep a p.1 in omega (arith, y)
  respawn_deep Empty p = omega arith
  respawn_deep (Declare x t start) p = omega arith
  respawn_deep (Assign v op w) p = omega arith
  respawn_deep (Call o v vs) p = omega arith
  respawn_deep (Detach o x vs) p = omega arith
  respawn_deep (Goto x) p = omega arith
  respawn_deep Break p = omega arith
  respawn_deep Continue p = omega arith
  respawn_deep (Return o) p = omega arith

  pub all_deep : (ss : Stmts) → PrintableBlock ss → block_depth true (respawned_all ss) ≤ block_depth true ss + 1
  all_deep NoStmt p = omega arith
  all_deep (AndStmt s ss) p = let x = respawn_deep s p.0 in let y = all_deep ss p.1 in omega (arith, x, y)
