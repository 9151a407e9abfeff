-- The variables of a function that can be printed can be declared under any name.
use Rattle.std.proofs.Common.{◌≡◌, ℕ, zero, suc, ◌+◌, ◌≤◌, Bool, true, List, [], ◌∷◌, ◌++◌, map, Option, Some, None, slice_get, refl, sym, subst, arith}
use Rattle.cpc_base.specs.Bytes.{Text}
use Rattle.cpc_base.specs.declared.stop.Dialect.TheVariants as D
use Rattle.cpc_tree.specs.declared.token.Punctuator.TheVariants as P
use Rattle.cpc_tree.specs.Tokens.{Mark}
use Rattle.cpc_tree.specs.Spelling.{IsName}
use Rattle.cpc_tree.specs.Points.{Path, found, locals, locals_in}
use Rattle.cpc_tree.specs.Registers.{or_empty, as_variable, variables}
use Rattle.cpc_tree.specs.Syntax.{Ty, Expr, Stmt, Block, Empty, Declare, Assign, Call, Detach, Spawn, If, While, DoWhile, For, Goto, Label, Break, Continue, Return, Stmts, NoStmt, AndStmt, Absent, Present, Variable, Parameter, Function, FunctionItem, Program}
use Rattle.cpc_tree.specs.ExprGrammar.{Whole}
use Rattle.cpc_tree.specs.ItemGrammar.{all_named}
use Rattle.cpc_tree.specs.TypePrint.{base_of, base_row, stars, declarator_row, declarator_depth, param_row, param_depth, params_row, params_depth, AllPrintable, PrintableVariable}
use Rattle.cpc_tree.specs.ExprPrint.{expr_row}
use Rattle.cpc_tree.specs.StmtPrint.{maybe_row, local_row, local_depth, call_row, section_row, locals_row, first_row, first_depth, step_row, stmt_row, block_row, stmt_depth, block_depth, PrintableLocals, PrintableFirst, PrintableStmt, PrintableBlock}
use Rattle.cpc_tree.specs.ItemPrint.{mode_row, head_row, body_row, body_depth, item_row, item_depth, PrintableItem, PrintableBody}
use Rattle.cpc_printer_laws.proofs.Fitting.{Spelled, spelled_parts}
use Rattle.cpc_printer_laws.proofs.FitTypes.{base_row_of}
use Rattle.cpc_convert_common.specs.Members.{Has, OnTop, Below}
use Rattle.cpc_chains_print_laws.proofs.Items.{Prints, PrintsItem, first_item, later_items}
use Rattle.cpc_chains_print_laws.proofs.Known.{VariablePrints, FunctionReads, ProgramReads}
use Rattle.cpc_chains_print_laws.proofs.Source.{FoundPrints, stmt_found}
use Rattle.cpc_chains_print_laws.proofs.Types.{declarator_name, declarator_rest, param_type, param_name, type_variable, variable_within}

module _ (tight : Bool) (h : ℕ) where
  abbrev EachPrints : List Variable → Type 0
  EachPrints [] = Unit {0}
  EachPrints (x ∷ xs) = VariablePrints tight h x × EachPrints xs

  both_print : (xs ys : List Variable) → EachPrints xs → EachPrints ys → EachPrints (xs ++ ys)
  both_print [] ys a b = b
  both_print (x ∷ xs) ys a b = (a.0, both_print xs ys a.1 b)

  each_at : (xs : List Variable) → EachPrints xs → (k : ℕ) (x : Variable) → slice_get xs k ≡ Some x → VariablePrints tight h x
  each_at [] a k x e = absurd cc
  each_at (y ∷ xs) a zero x e = subst (VariablePrints tight h) (let z : y ≡ x = cc in z) a.0
  each_at (y ∷ xs) a (suc k) x e = each_at xs a.1 k x e

  -- ---- locals

  -- the declarator of a local, with what it starts with or without
  local_front : (x : Text) (t : Ty) (start : Option Expr) → Spelled D.Cpc (local_row tight x t start) → Spelled D.Cpc (declarator_row tight (Some x) t)
  local_front x t None s = s
  local_front x t (Some v) s = (spelled_parts D.Cpc (declarator_row tight (Some x) t) _ s).0

  local_within : (t : Ty) (start : Option Expr) → local_depth true t start ≤ h → declarator_depth true t ≤ h
  local_within t None d = omega (arith, d)
  local_within t (Some v) d = omega (arith, d)

  local_prints : (x : Text) (t : Ty) (start : Option Expr) → PrintableVariable t → Spelled D.Cpc (base_row t) → Spelled D.Cpc (local_row tight x t start) → local_depth true t start ≤ h → VariablePrints tight h (record { called = x; type = t })
  local_prints x t start p b s d =
      let f = local_front x t start s in
      record { name = declarator_name D.Cpc tight x t f; printable = p; typed = record { base = b; rest = declarator_rest D.Cpc tight x t f }; deep = local_within t start d }

  -- those of the first part of a for, which have one base type
  mutual
    unfolding PrintableLocals locals_row first_depth

    locals_print : (base : Ty) → Spelled D.Cpc (base_row base) → (before : Option Expr) (ss : Stmts) → PrintableLocals base before ss → Spelled D.Cpc (locals_row tight ss) → first_depth true ss ≤ h → EachPrints (locals_in ss)
    locals_print base b before NoStmt p s d = tt
    locals_print base b before (AndStmt (Declare x t start) ss) p s d =
        let (u, v) = spelled_parts D.Cpc (local_row tight x t start) (locals_row tight ss) s.1 in
        let own = subst (Spelled D.Cpc) (base_row_of t) (subst (λ (r : Ty). Spelled D.Cpc (base_row r)) (sym p.0) b) in
        (local_prints x t start p.1.0 own u (omega (arith, d)), locals_print base b _ ss p.2 v (omega (arith, d)))
    locals_print base b before (AndStmt (Call (Some u) v vs) ss) p s d = locals_print base b None ss p.3 (spelled_parts D.Cpc (call_row tight v vs) (locals_row tight ss) s.1).1 (omega (arith, d))
    locals_print base b before (AndStmt (Detach (Some u) y vs) ss) p s d = locals_print base b None ss p.2 (spelled_parts D.Cpc (section_row tight y vs) (locals_row tight ss) s.1).1 (omega (arith, d))
    locals_print base b before (AndStmt _ ss) p s d = absurd p

  base_base : (t : Ty) → base_row (base_of t) ≡ base_row t
  base_base t = base_row_of t

  first_print : (ss : Stmts) → PrintableFirst ss → Spelled D.Cpc (first_row tight ss) → first_depth true ss ≤ h → EachPrints (locals_in ss)
  unfolding first_depth
  first_print NoStmt p s d = tt
  first_print (AndStmt (Declare x t start) ss) p s d =
      let (a, b) = spelled_parts D.Cpc (base_row t) _ s in
      let (u, v) = spelled_parts D.Cpc (local_row tight x t start) (locals_row tight ss) b in
      (local_prints x t start p.0.0 a u (omega (arith, d)), locals_print (base_of t) (subst (Spelled D.Cpc) (sym (base_base t)) a) _ ss p.1 v (omega (arith, d)))
  first_print (AndStmt (Assign v op w) NoStmt) p s d = tt
  first_print (AndStmt (Call o v vs) NoStmt) p s d = tt
  first_print (AndStmt (Detach o x vs) NoStmt) p s d = tt
  first_print (AndStmt _ (AndStmt c ss)) p s d = absurd p
  first_print (AndStmt _ NoStmt) p s d = absurd p

  mutual
    unfolding PrintableStmt PrintableBlock stmt_row block_row stmt_depth block_depth

    stmt_print : (s : Stmt) → PrintableStmt s → Spelled D.Cpc (stmt_row tight s) → stmt_depth true s ≤ h → EachPrints (locals s)
    stmt_print (Block ss) p s d = block_print ss p (spelled_parts D.Cpc (block_row tight ss) (Mark P.RightBrace ∷ []) s.1).0 (omega (arith, d))
    stmt_print (Declare x t start) p s d =
        let (a, b) = spelled_parts D.Cpc (base_row t ++ local_row tight x t start) (Mark P.Semicolon ∷ []) s in
        let (u, v) = spelled_parts D.Cpc (base_row t) (local_row tight x t start) a in
        (local_prints x t start p.0 u v d, tt)
    stmt_print (If c a Absent) p s d = both_print (locals a) [] (stmt_print a p.2 (spelled_parts D.Cpc (expr_row tight Whole c) _ s.1.1).1.1 (omega (arith, d))) tt
    stmt_print (If c a (Present r)) p s d =
        let (u, v) = spelled_parts D.Cpc (expr_row tight Whole c) _ s.1.1 in
        let (w, x) = spelled_parts D.Cpc (stmt_row tight a) _ v.1 in
        both_print (locals a) (locals r) (stmt_print a p.2 w (omega (arith, d))) (stmt_print r p.5 x.1 (omega (arith, d)))
    stmt_print (While c a) p s d = stmt_print a p.2 (spelled_parts D.Cpc (expr_row tight Whole c) _ s.1.1).1.1 (omega (arith, d))
    stmt_print (DoWhile a c) p s d = stmt_print a p.1 (spelled_parts D.Cpc (stmt_row tight a) _ s.1).0 (omega (arith, d))
    stmt_print (For ss o q a) p s d =
        let (u, v) = spelled_parts D.Cpc (first_row tight ss) _ s.1.1 in
        let (w, x) = spelled_parts D.Cpc (maybe_row tight o) _ v.1 in
        both_print (locals_in ss) (locals a) (first_print ss p.0 u (omega (arith, d))) (stmt_print a p.4 (spelled_parts D.Cpc (step_row tight q) _ x.1).1.1 (omega (arith, d)))
    stmt_print (Label x a) p s d = stmt_print a p.1 s.1.1 (omega (arith, d))
    stmt_print Empty p s d = tt
    stmt_print (Assign v op w) p s d = tt
    stmt_print (Call o v vs) p s d = tt
    stmt_print (Detach o x vs) p s d = tt
    stmt_print (Spawn x vs) p s d = tt
    stmt_print (Goto x) p s d = tt
    stmt_print Break p s d = tt
    stmt_print Continue p s d = tt
    stmt_print (Return o) p s d = tt

    block_print : (ss : Stmts) → PrintableBlock ss → Spelled D.Cpc (block_row tight ss) → block_depth true ss ≤ h → EachPrints (locals_in ss)
    block_print NoStmt p s d = tt
    block_print (AndStmt a ss) p s d =
        let (x, y) = spelled_parts D.Cpc (stmt_row tight a) (block_row tight ss) s in
        both_print (locals a) (locals_in ss) (stmt_print a p.0 x (omega (arith, d))) (block_print ss p.1 y (omega (arith, d)))

  -- ---- parameters

  named_rest : (p : Parameter) (ps : List Parameter) → all_named (λ (p : Parameter). p.called) (p ∷ ps) ≡ true → (x : Text) × (p.called ≡ Some x) × (all_named (λ (p : Parameter). p.called) ps ≡ true)
  named_rest p ps e = go p.called refl e
    where
      go : (o : Option Text) → p.called ≡ o → all_named (λ (p : Parameter). p.called) (record p { called = o } ∷ ps) ≡ true → (x : Text) × (p.called ≡ Some x) × (all_named (λ (p : Parameter). p.called) ps ≡ true)
      go None i e = absurd cc
      go (Some x) i e = (x, i, e)

  one_print : (p : Parameter) (x : Text) → p.called ≡ Some x → AllPrintable (p ∷ []) → Spelled D.Cpc (param_row tight p.called p.type) → param_depth true p.type + 1 ≤ h → VariablePrints tight h (as_variable p)
  one_print p x e a s d =
      let t = subst (λ o. Spelled D.Cpc (param_row tight o p.type)) e s in
      let w = variable_within p.type a.0 in
      record { name = subst (λ o. IsName D.Cpc (or_empty o)) (sym e) (param_name D.Cpc tight x p.type a.0 t); printable = type_variable p.type a.0; typed = param_type D.Cpc tight p.called p.type a.0 s; deep = omega (arith, d, w) }

  params_print : (ps : List Parameter) → AllPrintable ps → all_named (λ (p : Parameter). p.called) ps ≡ true → Spelled D.Cpc (params_row tight ps) → params_depth true ps + 1 ≤ h → EachPrints (map as_variable ps)
  unfolding params_row params_depth
  params_print [] a e s d = tt
  params_print (p ∷ []) a e s d = let n = named_rest p [] e in (one_print p n.0 n.1 (a.0, tt) s d, tt)
  params_print (p ∷ (q ∷ ps)) a e s d =
      let n = named_rest p (q ∷ ps) e in
      let (u, v) = spelled_parts D.Cpc (param_row tight p.called p.type) (Mark P.Comma ∷ params_row tight (q ∷ ps)) s in
      (one_print p n.0 n.1 (a.0, tt) u (omega (arith, d)), params_print (q ∷ ps) a.1 n.2 v.1 (omega (arith, d)))

  -- ---- functions

  body_prints : (b : Stmt) → PrintableBody b → Spelled D.Cpc (body_row tight b) → body_depth true b ≤ h → EachPrints (locals b) × ((path : Path) → FoundPrints tight h (found b path))
  unfolding PrintableStmt stmt_row stmt_depth
  body_prints (Block ss) p s d = (stmt_print (Block ss) p s d, stmt_found tight h (Block ss) p s d)
  body_prints Empty p s d = absurd p
  body_prints (Declare x t start) p s d = absurd p
  body_prints (Assign v op w) p s d = absurd p
  body_prints (Call o v vs) p s d = absurd p
  body_prints (Detach o x vs) p s d = absurd p
  body_prints (Spawn x vs) p s d = absurd p
  body_prints (If c a r) p s d = absurd p
  body_prints (While c a) p s d = absurd p
  body_prints (DoWhile a c) p s d = absurd p
  body_prints (For ss o q a) p s d = absurd p
  body_prints (Goto x) p s d = absurd p
  body_prints (Label x a) p s d = absurd p
  body_prints Break p s d = absurd p
  body_prints Continue p s d = absurd p
  body_prints (Return o) p s d = absurd p

  pub function_reads : (n : ℕ) → n + 1 ≤ h → (f : Function) → PrintsItem D.Cpc tight n (FunctionItem f) → FunctionReads tight h f
  unfolding PrintableItem item_row item_depth
  function_reads n more f a =
      let deep = a.deep in
      let (m, rest) = spelled_parts D.Cpc (mode_row f.mode) _ a.spelled in
      let (head, body) = spelled_parts D.Cpc (head_row tight f.called f.result f.parameters) (body_row tight f.body) rest in
      let (base, others) = spelled_parts D.Cpc (base_row f.result) _ head in
      let (s, named) = spelled_parts D.Cpc (stars f.result) _ others in
      let ps = (spelled_parts D.Cpc (params_row tight f.parameters) (Mark P.RightParen ∷ []) named.1.1).0 in
      let inside = body_prints f.body a.printable.3 body (omega (arith, deep, more)) in
      record {
        name = named.0;
        variables = each_at (variables f) (both_print (map as_variable f.parameters) (locals f.body) (params_print f.parameters a.printable.1.1 a.printable.2 ps (omega (arith, deep, more))) inside.0);
        result = a.printable.1.0;
        base = base;
        stars = omega (arith, deep, more);
        body = inside.1;
      }

-- all functions of a program
reads_at : (tight : Bool) (h n : ℕ) → n + 1 ≤ h → (f : Function) (p : Program) → Has (FunctionItem f) p → Prints D.Cpc tight n p → FunctionReads tight h f
reads_at tight h n more f _ (OnTop _ p) a = function_reads tight h n more f (first_item D.Cpc tight n (FunctionItem f) p a)
reads_at tight h n more f _ (Below _ x p has) a = reads_at tight h n more f p has (later_items D.Cpc tight n x p a)

pub program_reads : (tight : Bool) (h n : ℕ) → n + 1 ≤ h → (p : Program) → Prints D.Cpc tight n p → ProgramReads tight h p
program_reads tight h n more p a f has = reads_at tight h n more f p has a
