-- The printed first part of a for is read as it.
use Rattle.std.proofs.Common.{◌≡◌, ℕ, ◌+◌, Bool, List, [], ◌∷◌, ◌++◌, Option, Some, None, max, refl, sym, subst, arith}
use Rattle.std.proofs.lemmas.List.{append-nil, append_assoc}
use Rattle.cpc_base.specs.Bytes.{Text}
use Rattle.cpc_tree.specs.declared.token.Punctuator.TheVariants as P
use Rattle.cpc_tree.specs.Tokens.{Lexeme, Mark}
use Rattle.cpc_tree.specs.Syntax.{Ty, Expr, ENamed, Exprs, Stmt, Declare, Assign, Call, Detach, Stmts, NoStmt, AndStmt}
use Rattle.cpc_tree.specs.TypePrint.{base_of, declarator_row, declarator_depth, PrintableVariable}
use Rattle.cpc_tree.specs.ExprGrammar.{Postfix}
use Rattle.cpc_tree.specs.ExprPrint.{expr_depth, args_depth, PrintableExpr, PrintableExprs}
use Rattle.cpc_printer_laws.proofs.StmtRows.{Calls, Section, a_call, a_section, ReadsLocalPart, set, ReadsLocalRow, last_local, more_locals, local, ReadsFirst, no_first, simple_first, local_first}
use Rattle.cpc_tree.specs.StmtPrint.{call_row, section_row, local_row, local_depth, locals_row, first_row, first_depth, simple_row, simple_depth, begun_place, PrintableSimple, PrintableLocal, PrintableLocals, PrintableFirst}
use Rattle.cpc_printer_laws.proofs.TypesRead.{base_reads}
use Rattle.cpc_printer_laws.proofs.StatementsRead.{simple_reads, part_reads, declarator_reads, call_reads, section_reads, listed}

-- the only statement of a first part
alone : (tight : Bool) (s : Stmt) → PrintableSimple s → ReadsFirst (simple_row tight s) (s ∷ []) (max (simple_depth tight s) 0)
alone tight s a = subst (λ n. ReadsFirst (simple_row tight s) (s ∷ []) n) (omega arith) (simple_first _ s _ (simple_reads tight s a))

-- a part that is the last
ended : (base : Ty) (f : List Lexeme) (ss : List Stmt) (h : ℕ) → ReadsLocalPart base f ss h → ReadsLocalRow base (f ++ []) ss (max h 0)
ended base f ss h r = subst (λ g. ReadsLocalRow base g ss (max h 0)) (sym (append-nil f)) (subst (λ n. ReadsLocalRow base f ss n) (omega arith) (last_local f ss h r))

-- what a local is given behind its declarator, as a part with both statements
given_call : (tight : Bool) (base : Ty) (x : Text) (t : Ty) (v : Expr) (vs : Exprs) → base_of t ≡ base → PrintableVariable t → PrintableExpr v → PrintableExprs vs
    → ReadsLocalPart base (declarator_row tight (Some x) t ++ Mark P.Equal ∷ call_row tight v vs) (Declare x t None ∷ Call (Some (ENamed x)) v vs ∷ [])
    (max (declarator_depth tight t) (max 1 (max (expr_depth tight Postfix v) (args_depth tight vs))) + 1)
given_call tight base x t v vs e a b c =
    subst (λ b. ReadsLocalPart b (declarator_row tight (Some x) t ++ Mark P.Equal ∷ call_row tight v vs) (Declare x t None ∷ Call (Some (ENamed x)) v vs ∷ []) (max (declarator_depth tight t) (max 1 (max (expr_depth tight Postfix v) (args_depth tight vs))) + 1)) e
    (set _ _ (record { called = x; type = t }) (Calls v vs) _ _ (declarator_reads tight x t a) (a_call _ v vs _ (call_reads tight v vs b c)))

given_section : (tight : Bool) (base : Ty) (x : Text) (t : Ty) (y : Text) (vs : Exprs) → base_of t ≡ base → PrintableVariable t → PrintableExprs vs
    → ReadsLocalPart base (declarator_row tight (Some x) t ++ Mark P.Equal ∷ section_row tight y vs) (Declare x t None ∷ Detach (Some (ENamed x)) y vs ∷ [])
    (max (declarator_depth tight t) (max 1 (args_depth tight vs)) + 1)
given_section tight base x t y vs e a b =
    subst (λ b. ReadsLocalPart b (declarator_row tight (Some x) t ++ Mark P.Equal ∷ section_row tight y vs) (Declare x t None ∷ Detach (Some (ENamed x)) y vs ∷ []) (max (declarator_depth tight t) (max 1 (args_depth tight vs)) + 1)) e
    (set _ _ (record { called = x; type = t }) (Section y vs) _ _ (declarator_reads tight x t a) (a_section _ y vs _ (section_reads tight y vs b)))

-- the declaration and the call nest as deep together as apart
merged : (d c r : ℕ) → max (max d (max 1 c) + 1) r ≡ max (d + 1) (max (max 1 c + 1) r)
merged d c r = omega arith

mutual
  unfolding locals_row first_depth PrintableLocals listed expr_depth

  -- behind a part, the further locals
  rest_read : (tight : Bool) (base : Ty) (f : List Lexeme) (rs : List Stmt) (h : ℕ) (ss : Stmts) → ReadsLocalPart base f rs h → PrintableLocals base None ss
      → ReadsLocalRow base (f ++ locals_row tight ss) (rs ++ listed ss) (max h (first_depth tight ss))
  rest_read tight base f rs h NoStmt r p = subst (λ qs. ReadsLocalRow base (f ++ []) qs (max h 0)) (sym (append-nil rs)) (ended base f rs h r)
  rest_read tight base f rs h (AndStmt (Declare y u o) ss) r (e, a, p) = more_locals _ _ rs _ _ _ r (locals_read tight base y u o ss e a p)
  rest_read tight base f rs h (AndStmt (Call (Some u) v vs) ss) r p = absurd (let d : None ≡ Some u = p.0 in cc)
  rest_read tight base f rs h (AndStmt (Detach (Some u) y vs) ss) r p = absurd (let d : None ≡ Some u = p.0 in cc)
  rest_read tight base f rs h (AndStmt s ss) r p = absurd p

  -- a declared local and what is behind it
  locals_read : (tight : Bool) (base : Ty) (x : Text) (t : Ty) (o : Option Expr) (ss : Stmts) → base_of t ≡ base → PrintableLocal t o → PrintableLocals base (begun_place x o) ss
      → ReadsLocalRow base (local_row tight x t o ++ locals_row tight ss) (Declare x t o ∷ listed ss) (max (local_depth tight t o) (first_depth tight ss))
  locals_read tight base x t o NoStmt e a p = ended base _ _ _ (subst (λ b. ReadsLocalPart b (local_row tight x t o) (Declare x t o ∷ []) (local_depth tight t o)) e (part_reads tight x t o a))
  locals_read tight base x t o (AndStmt (Declare y u q) ss) e a (d, c, p) =
      more_locals _ _ (Declare x t o ∷ []) _ _ _ (subst (λ b. ReadsLocalPart b (local_row tight x t o) (Declare x t o ∷ []) (local_depth tight t o)) e (part_reads tight x t o a)) (locals_read tight base y u q ss d c p)
  locals_read tight base x t (Some w) (AndStmt (Call (Some u) v vs) ss) e a p = absurd (let c : None ≡ Some u = p.0 in cc)
  locals_read tight base x t (Some w) (AndStmt (Detach (Some u) y vs) ss) e a p = absurd (let c : None ≡ Some u = p.0 in cc)
  locals_read tight base x t None (AndStmt (Call (Some u) v vs) ss) e (a, n) (d, b, c, p) =
      let same : ENamed x ≡ u = cc in
      subst (λ w. ReadsLocalRow base (declarator_row tight (Some x) t ++ Mark P.Equal ∷ (call_row tight v vs ++ locals_row tight ss)) (Declare x t None ∷ Call (Some w) v vs ∷ listed ss) (max (declarator_depth tight t + 1) (first_depth tight (AndStmt (Call (Some w) v vs) ss)))) same
      (subst (λ n. ReadsLocalRow base (declarator_row tight (Some x) t ++ Mark P.Equal ∷ (call_row tight v vs ++ locals_row tight ss)) (Declare x t None ∷ Call (Some (ENamed x)) v vs ∷ listed ss) n) (merged (declarator_depth tight t) (max (expr_depth tight Postfix v) (args_depth tight vs)) (first_depth tight ss))
      (subst (λ f. ReadsLocalRow base f (Declare x t None ∷ Call (Some (ENamed x)) v vs ∷ listed ss) (max (max (declarator_depth tight t) (max 1 (max (expr_depth tight Postfix v) (args_depth tight vs))) + 1) (first_depth tight ss))) (append_assoc (declarator_row tight (Some x) t) (Mark P.Equal ∷ call_row tight v vs) (locals_row tight ss))
      (rest_read tight base _ _ _ ss (given_call tight base x t v vs e a b c) p)))
  locals_read tight base x t None (AndStmt (Detach (Some u) y vs) ss) e (a, n) (d, b, p) =
      let same : ENamed x ≡ u = cc in
      subst (λ w. ReadsLocalRow base (declarator_row tight (Some x) t ++ Mark P.Equal ∷ (section_row tight y vs ++ locals_row tight ss)) (Declare x t None ∷ Detach (Some w) y vs ∷ listed ss) (max (declarator_depth tight t + 1) (first_depth tight (AndStmt (Detach (Some w) y vs) ss)))) same
      (subst (λ n. ReadsLocalRow base (declarator_row tight (Some x) t ++ Mark P.Equal ∷ (section_row tight y vs ++ locals_row tight ss)) (Declare x t None ∷ Detach (Some (ENamed x)) y vs ∷ listed ss) n) (merged (declarator_depth tight t) (args_depth tight vs) (first_depth tight ss))
      (subst (λ f. ReadsLocalRow base f (Declare x t None ∷ Detach (Some (ENamed x)) y vs ∷ listed ss) (max (max (declarator_depth tight t) (max 1 (args_depth tight vs)) + 1) (first_depth tight ss))) (append_assoc (declarator_row tight (Some x) t) (Mark P.Equal ∷ section_row tight y vs) (locals_row tight ss))
      (rest_read tight base _ _ _ ss (given_section tight base x t y vs e a b) p)))
  locals_read tight base x t o (AndStmt s ss) e a p = absurd p

pub first_reads : (tight : Bool) (ss : Stmts) → PrintableFirst ss → ReadsFirst (first_row tight ss) (listed ss) (first_depth tight ss)
unfolding first_depth listed
first_reads tight NoStmt a = no_first
first_reads tight (AndStmt (Declare x t o) ss) (a, p) = local_first _ _ _ (local _ _ (base_of t) _ _ _ (base_reads t) (locals_read tight (base_of t) x t o ss refl a p))
first_reads tight (AndStmt (Assign v o w) NoStmt) a = alone tight (Assign v o w) a
first_reads tight (AndStmt (Call o v vs) NoStmt) a = alone tight (Call o v vs) a
first_reads tight (AndStmt (Detach o x vs) NoStmt) a = alone tight (Detach o x vs) a
first_reads tight (AndStmt s NoStmt) a = absurd a
first_reads tight (AndStmt s (AndStmt r ss)) a = absurd a
