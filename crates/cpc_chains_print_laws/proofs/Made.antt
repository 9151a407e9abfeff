-- Expressions and statements that are made can be printed in the dialect Event, by their parts.
use Rattle.std.proofs.Common.{◌≡◌, ℕ, suc, ◌+◌, ◌≤◌, Bool, true, false, List, [], ◌∷◌, ◌++◌, Option, Some, None, pos, refl, arith}
use Rattle.cpc_base.specs.Bytes.{Text}
use Rattle.cpc_base.specs.declared.stop.Dialect.TheVariants as D
use Rattle.cpc_num.specs.declared.kinds.Kind.TheVariants.{Int}
use Rattle.cpc_num.specs.declared.kinds.Op.{Op}
use Rattle.cpc_num.specs.declared.kinds.Op.TheVariants as O
use Rattle.cpc_tree.specs.declared.token.Punctuator.TheVariants as P
use Rattle.cpc_tree.specs.Tokens.{Mark, Named}
use Rattle.cpc_tree.specs.Spelling.{IsName}
use Rattle.cpc_tree.specs.Syntax.{Ty, TyStruct, Expr, ENamed, EInteger, EBinary, ESizeOf, EArrow, Exprs, NoExpr, AndExpr, Stmt, Empty, Declare, Assign, Call, If, While, Goto, Label, Return, Stmts, NoStmt, AndStmt, Absent}
use Rattle.cpc_tree.specs.ExprGrammar.{Rank, Postfix, Unary, Tier, Whole}
use Rattle.cpc_tree.specs.StmtGrammar.{is_call}
use Rattle.cpc_tree.specs.TypePrint.{base_row, declarator_row, declarator_depth, PrintableType, PrintableVariable}
use Rattle.cpc_tree.specs.ExprPrint.{is_loose, tier_below, expr_row, expr_depth, args_row, args_depth, PrintableExpr, PrintableExprs}
use Rattle.cpc_tree.specs.StmtPrint.{assigning_mark, mark_row, call_row, stmt_row, block_row, stmt_depth, block_depth, is_local, HasMark, PrintableStmt, PrintableBlock}
use Rattle.cpc_printer_laws.proofs.Fitting.{Spelled, spelled_both}
use Rattle.cpc_convert_image_laws.specs.Images.{Readings, image, images, followed, image_stmt}
use Rattle.cpc_convert_flat_laws.specs.Flat.{before}
use Rattle.cpc_chains_store_laws.specs.Frames.{frame_through}
use Rattle.cpc_chains_print_laws.proofs.Images.{ReadingsSpelled, spelled_round, image_spelled, image_printable, image_deep, image_no_call, round_one}
use Rattle.cpc_chains_print_laws.proofs.Source.{ExprPrints, EachPrints, SimplePrints}
use Rattle.cpc_chains_print_laws.proofs.Types.{TypeSpelled, declarator_made}

-- how deep a cast of a name to a pointer to a struct nests, and what is found through it
cast_deep : (to tag : Text) (k : Rank) → expr_depth true k (frame_through to tag) ≤ 3
unfolding expr_depth declarator_depth
cast_deep to tag k = let a = round_one (is_loose k (Tier 0)) 2 in omega (arith, a)

module _ (tight : Bool) (H : ℕ) (room : 8 ≤ H) where
  -- ---- expressions

  pub record ExprMade (e : Expr) : Type 0 where
    pub printable : PrintableExpr e
    pub spelled : (k : Rank) → Spelled D.Event (expr_row tight k e)
    pub deep : (k : Rank) → expr_depth true k e ≤ H

  pub named_made : (x : Text) → IsName D.Event x → ExprMade (ENamed x)
  unfolding PrintableExpr expr_row expr_depth
  named_made x n = record { printable = tt; spelled = λ k. (n, tt); deep = λ k. omega (arith, room) }

  pub zero_made : ExprMade (EInteger Int (pos 0))
  unfolding PrintableExpr expr_row expr_depth
  zero_made = record { printable = tt; spelled = λ k. ((tt, refl), tt); deep = λ k. omega (arith, room) }

  pub arrow_made : (x f : Text) → IsName D.Event x → IsName D.Event f → ExprMade (EArrow (ENamed x) f)
  unfolding PrintableExpr expr_row expr_depth
  arrow_made x f n m = record {
    printable = tt;
    spelled = λ k. spelled_round D.Event (is_loose k Postfix) (Named x ∷ Mark P.Arrow ∷ Named f ∷ []) (n, (tt, (m, tt)));
    deep = λ k. let a = round_one (is_loose k Postfix) 2 in omega (arith, room, a);
  }

  through_spelled : (to tag : Text) (k : Rank) → IsName D.Event to → IsName D.Event tag → Spelled D.Event (expr_row tight k (frame_through to tag))
  unfolding expr_row declarator_row
  through_spelled to tag k n m = spelled_round D.Event (is_loose k (Tier 0)) _ (tt, (tt, (m, (tt, (tt, (n, tt))))))

  pub through_made : (to tag f : Text) → IsName D.Event to → IsName D.Event tag → IsName D.Event f → ExprMade (EArrow (frame_through to tag) f)
  unfolding PrintableExpr PrintableType expr_row expr_depth
  through_made to tag f n m l = record {
    printable = (tt, tt);
    spelled = λ k. spelled_round D.Event (is_loose k Postfix) _ (spelled_both D.Event (expr_row tight Postfix (frame_through to tag)) (Mark P.Arrow ∷ Named f ∷ []) (through_spelled to tag Postfix n m) (tt, (l, tt)));
    deep = λ k. let c = cast_deep to tag Postfix in let a = round_one (is_loose k Postfix) (expr_depth true Postfix (frame_through to tag) + 1) in omega (arith, room, a, c);
  }

  pub size_made : (tag : Text) → IsName D.Event tag → ExprMade (ESizeOf (TyStruct tag))
  unfolding PrintableExpr PrintableType expr_row expr_depth declarator_row declarator_depth
  size_made tag m = record {
    printable = tt;
    spelled = λ k. spelled_round D.Event (is_loose k Unary) _ (tt, (tt, (tt, (m, (tt, tt)))));
    deep = λ k. let a = round_one (is_loose k Unary) 1 in omega (arith, room, a);
  }

  -- `x != 0`
  pub set_made : (x : Text) → IsName D.Event x → ExprMade (EBinary O.Ne (ENamed x) (EInteger Int (pos 0)))
  unfolding PrintableExpr expr_row expr_depth
  set_made x n = record {
    printable = (tt, tt);
    spelled = λ k. spelled_round D.Event (is_loose k (Tier (suc (tier_below O.Ne)))) _ (n, (tt, ((tt, refl), tt)));
    deep = λ k. let a = round_one (is_loose k (Tier (suc (tier_below O.Ne)))) 2 in omega (arith, room, a);
  }

  module _ (h : ℕ) (below : h + 3 ≤ H) (r : Readings) (names : ReadingsSpelled r) where
    pub image_made : (e : Expr) → ExprPrints tight h e → ExprMade (image r e)
    image_made e p = record {
      printable = image_printable r e p.printable;
      spelled = λ k. image_spelled r names tight k e (p.spelled k);
      deep = λ k. let a = p.deep k in let b = image_deep r k e in omega (arith, a, b, below);
    }

  -- ---- arguments

  abbrev pub EachMade : Exprs → Type 0
  EachMade NoExpr = Unit {0}
  EachMade (AndExpr e es) = ExprMade e × EachMade es

  each_printable : (es : Exprs) → EachMade es → PrintableExprs es
  unfolding PrintableExprs
  each_printable NoExpr p = tt
  each_printable (AndExpr e es) p = (p.0.printable, each_printable es p.1)

  each_spelled : (es : Exprs) → EachMade es → Spelled D.Event (args_row tight es)
  unfolding args_row
  each_spelled NoExpr p = tt
  each_spelled (AndExpr e NoExpr) p = p.0.spelled Whole
  each_spelled (AndExpr e (AndExpr u es)) p = spelled_both D.Event (expr_row tight Whole e) (Mark P.Comma ∷ args_row tight (AndExpr u es)) (p.0.spelled Whole) (tt, each_spelled (AndExpr u es) p.1)

  each_deep : (es : Exprs) → EachMade es → args_depth true es ≤ H
  unfolding args_depth
  each_deep NoExpr p = omega (arith, room)
  each_deep (AndExpr e NoExpr) p = p.0.deep Whole
  each_deep (AndExpr e (AndExpr u es)) p = let a = p.0.deep Whole in let b = each_deep (AndExpr u es) p.1 in omega (arith, a, b)

  pub images_made : (h : ℕ) → h + 3 ≤ H → (r : Readings) → ReadingsSpelled r → (es : Exprs) → EachPrints tight h es → EachMade (images r es)
  images_made h below r names NoExpr p = tt
  images_made h below r names (AndExpr e es) p = (image_made h below r names e p.0, images_made h below r names es p.1)

  pub followed_made : (es : Exprs) (a b : Expr) → EachMade es → ExprMade a → ExprMade b → EachMade (followed es a b)
  followed_made NoExpr a b p u v = (u, (v, tt))
  followed_made (AndExpr e es) a b p u v = (p.0, followed_made es a b p.1 u v)

  -- ---- statements

  pub record StmtMade (s : Stmt) : Type 0 where
    pub printable : PrintableStmt s
    pub spelled : Spelled D.Event (stmt_row tight s)
    pub deep : stmt_depth true s ≤ H + 1

  -- a line is no declaration, and may stand behind a test and a label
  pub record LineMade (s : Stmt) : Type 0 where
    pub made : StmtMade s
    pub line : is_local s ≡ false

  pub assign_made : (v w : Expr) → ExprMade v → ExprMade w → is_call w ≡ false → LineMade (Assign v None w)
  unfolding PrintableStmt stmt_row stmt_depth
  assign_made v w a b c = record {
    line = refl;
    made = record {
      printable = (a.printable, (b.printable, c));
      spelled = spelled_both D.Event _ (Mark P.Semicolon ∷ []) (spelled_both D.Event (expr_row tight Unary v) (Mark P.Equal ∷ expr_row tight Whole w) (a.spelled Unary) (tt, b.spelled Whole)) (tt, tt);
      deep = let x = a.deep Unary in let y = b.deep Whole in omega (arith, x, y);
    };
  }

  mark_spelled : (op : Op) → Spelled D.Event (mark_row (assigning_mark op))
  mark_spelled O.Add = (tt, tt)
  mark_spelled O.Sub = (tt, tt)
  mark_spelled O.Mul = (tt, tt)
  mark_spelled O.Div = (tt, tt)
  mark_spelled O.Rem = (tt, tt)
  mark_spelled O.BitAnd = (tt, tt)
  mark_spelled O.BitOr = (tt, tt)
  mark_spelled O.BitXor = (tt, tt)
  mark_spelled O.Shl = (tt, tt)
  mark_spelled O.Shr = (tt, tt)
  mark_spelled _ = tt

  pub changes_made : (v w : Expr) (op : Op) → ExprMade v → ExprMade w → HasMark (assigning_mark op) → LineMade (Assign v (Some op) w)
  unfolding PrintableStmt stmt_row stmt_depth
  changes_made v w op a b c = record {
    line = refl;
    made = record {
      printable = (a.printable, (b.printable, c));
      spelled = spelled_both D.Event _ (Mark P.Semicolon ∷ []) (spelled_both D.Event (expr_row tight Unary v) (mark_row (assigning_mark op) ++ expr_row tight Whole w) (a.spelled Unary) (spelled_both D.Event (mark_row (assigning_mark op)) (expr_row tight Whole w) (mark_spelled op) (b.spelled Whole))) (tt, tt);
      deep = let x = a.deep Unary in let y = b.deep Whole in omega (arith, x, y);
    };
  }

  call_spelled : (v : Expr) (es : Exprs) → ExprMade v → EachMade es → Spelled D.Event (call_row tight v es)
  call_spelled v es a b =
      spelled_both D.Event (expr_row tight Postfix v) (Mark P.LeftParen ∷ (args_row tight es ++ Mark P.RightParen ∷ [])) (a.spelled Postfix) (tt, spelled_both D.Event (args_row tight es) (Mark P.RightParen ∷ []) (each_spelled es b) (tt, tt))

  pub call_made : (v : Expr) (es : Exprs) → ExprMade v → EachMade es → LineMade (Call None v es)
  unfolding PrintableStmt stmt_row stmt_depth
  call_made v es a b = record {
    line = refl;
    made = record {
      printable = (tt, a.printable, each_printable es b);
      spelled = spelled_both D.Event (call_row tight v es) (Mark P.Semicolon ∷ []) (call_spelled v es a b) (tt, tt);
      deep = let x = a.deep Postfix in let y = each_deep es b in omega (arith, x, y);
    };
  }

  pub puts_made : (u v : Expr) (es : Exprs) → ExprMade u → ExprMade v → EachMade es → LineMade (Call (Some u) v es)
  unfolding PrintableStmt stmt_row stmt_depth
  puts_made u v es c a b = record {
    line = refl;
    made = record {
      printable = (c.printable, a.printable, each_printable es b);
      spelled = spelled_both D.Event _ (Mark P.Semicolon ∷ []) (spelled_both D.Event (expr_row tight Unary u) (Mark P.Equal ∷ call_row tight v es) (c.spelled Unary) (tt, call_spelled v es a b)) (tt, tt);
      deep = let x = a.deep Postfix in let y = each_deep es b in let z = c.deep Unary in omega (arith, x, y, z);
    };
  }

  pub return_made : (e : Expr) → ExprMade e → LineMade (Return (Some e))
  unfolding PrintableStmt stmt_row stmt_depth
  return_made e a = record {
    line = refl;
    made = record { printable = a.printable; spelled = (tt, spelled_both D.Event (expr_row tight Whole e) (Mark P.Semicolon ∷ []) (a.spelled Whole) (tt, tt)); deep = let x = a.deep Whole in omega (arith, x) };
  }

  pub empty_made : LineMade Empty
  unfolding PrintableStmt stmt_row stmt_depth
  empty_made = record { line = refl; made = record { printable = tt; spelled = (tt, tt); deep = omega (arith, room) } }

  pub goto_made : (x : Text) → IsName D.Event x → LineMade (Goto x)
  unfolding PrintableStmt stmt_row stmt_depth
  goto_made x n = record { line = refl; made = record { printable = tt; spelled = (tt, (n, (tt, tt))); deep = omega (arith, room) } }

  -- ---- what stands behind a test, and behind a label

  -- statements that nest so deep, with a test and a label before them
  pub record RowMade (s : Stmt) : Type 0 where
    pub printable : PrintableStmt s
    pub spelled : Spelled D.Event (stmt_row tight s)
    pub deep : stmt_depth true s ≤ H + 2
    pub line : is_local s ≡ false

  pub line_row : (s : Stmt) → LineMade s → RowMade s
  line_row s a = record { printable = a.made.printable; spelled = a.made.spelled; deep = let d = a.made.deep in omega (arith, d); line = a.line }

  pub if_made : (e : Expr) (s : Stmt) → ExprMade e → LineMade s → RowMade (If e s Absent)
  unfolding PrintableStmt stmt_row stmt_depth
  if_made e s a b = record {
    printable = (a.printable, b.line, b.made.printable);
    spelled = (tt, (tt, spelled_both D.Event (expr_row tight Whole e) (Mark P.RightParen ∷ stmt_row tight s) (a.spelled Whole) (tt, b.made.spelled)));
    deep = let x = a.deep Whole in let y = b.made.deep in omega (arith, x, y);
    line = refl;
  }

  -- a statement of a body
  pub record InBody (s : Stmt) : Type 0 where
    pub printable : PrintableStmt s
    pub spelled : Spelled D.Event (stmt_row tight s)
    pub deep : stmt_depth true s ≤ H + 3

  pub row_in : (s : Stmt) → RowMade s → InBody s
  row_in s a = record { printable = a.printable; spelled = a.spelled; deep = let d = a.deep in omega (arith, d) }

  pub label_made : (x : Text) (s : Stmt) → IsName D.Event x → RowMade s → InBody (Label x s)
  unfolding PrintableStmt stmt_row stmt_depth
  label_made x s n a = record { printable = (a.line, a.printable); spelled = (n, (tt, a.spelled)); deep = let d = a.deep in omega (arith, d) }

  pub declare_made : (x : Text) (t : Ty) → IsName D.Event x → PrintableVariable t → TypeSpelled D.Event tight t → declarator_depth true t ≤ H → InBody (Declare x t None)
  unfolding PrintableStmt stmt_row stmt_depth
  declare_made x t n p s d = record {
    printable = (p, tt);
    spelled = spelled_both D.Event (base_row t ++ declarator_row tight (Some x) t) (Mark P.Semicolon ∷ []) (spelled_both D.Event (base_row t) (declarator_row tight (Some x) t) s.base (declarator_made D.Event tight x t n s.rest)) (tt, tt);
    deep = omega (arith, d);
  }

  pub starts_made : (x : Text) (t : Ty) (e : Expr) → IsName D.Event x → PrintableVariable t → TypeSpelled D.Event tight t → declarator_depth true t ≤ H → ExprMade e → is_call e ≡ false → InBody (Declare x t (Some e))
  unfolding PrintableStmt stmt_row stmt_depth
  starts_made x t e n p s d a c = record {
    printable = (p, (a.printable, c));
    spelled = spelled_both D.Event _ (Mark P.Semicolon ∷ []) (spelled_both D.Event (base_row t) _ s.base (spelled_both D.Event (declarator_row tight (Some x) t) (Mark P.Equal ∷ expr_row tight Whole e) (declarator_made D.Event tight x t n s.rest) (tt, a.spelled Whole))) (tt, tt);
    deep = let x = a.deep Whole in omega (arith, d, x, room);
  }

  pub while_made : (e : Expr) (s : Stmt) → ExprMade e → LineMade s → InBody (While e s)
  unfolding PrintableStmt stmt_row stmt_depth
  while_made e s a b = record {
    printable = (a.printable, b.line, b.made.printable);
    spelled = (tt, (tt, spelled_both D.Event (expr_row tight Whole e) (Mark P.RightParen ∷ stmt_row tight s) (a.spelled Whole) (tt, b.made.spelled)));
    deep = let x = a.deep Whole in let y = b.made.deep in omega (arith, x, y);
  }

  -- ---- bodies

  abbrev pub EachIn : List Stmt → Type 0
  EachIn [] = Unit {0}
  EachIn (s ∷ ss) = InBody s × EachIn ss

  pub both_in : (ss ts : List Stmt) → EachIn ss → EachIn ts → EachIn (ss ++ ts)
  both_in [] ts a b = b
  both_in (s ∷ ss) ts a b = (a.0, both_in ss ts a.1 b)

  -- what stands between the braces of a made function
  pub record BlockMade (ss : Stmts) : Type 0 where
    pub printable : PrintableBlock ss
    pub spelled : Spelled D.Event (block_row tight ss)
    pub deep : block_depth true ss ≤ H + 3

  pub nothing_in : BlockMade NoStmt
  unfolding PrintableBlock block_row block_depth
  nothing_in = record { printable = tt; spelled = tt; deep = omega arith }

  pub and_in : (s : Stmt) (ss : Stmts) → InBody s → BlockMade ss → BlockMade (AndStmt s ss)
  unfolding PrintableBlock block_row block_depth
  and_in s ss a b = record { printable = (a.printable, b.printable); spelled = spelled_both D.Event (stmt_row tight s) (block_row tight ss) a.spelled b.spelled; deep = let x = a.deep in let y = b.deep in omega (arith, x, y) }

  pub before_in : (ss : List Stmt) (rest : Stmts) → EachIn ss → BlockMade rest → BlockMade (before ss rest)
  before_in [] rest a b = b
  before_in (s ∷ ss) rest a b = and_in s (before ss rest) a.0 (before_in ss rest a.1 b)

  -- ---- images of statements

  pub image_line : (h : ℕ) → h + 3 ≤ H → (r : Readings) → ReadingsSpelled r → (e : Expr) (op : Option Op) (v : Expr) → SimplePrints tight h (Assign e op v) → LineMade (image_stmt r (Assign e op v))
  image_line h below r names e None v p = assign_made (image r e) (image r v) (image_made h below r names e p.0) (image_made h below r names v p.1.0) (image_no_call r v p.1.1)
  image_line h below r names e (Some op) v p = changes_made (image r e) (image r v) op (image_made h below r names e p.0) (image_made h below r names v p.1.0) p.1.1

  pub image_call : (h : ℕ) → h + 3 ≤ H → (r : Readings) → ReadingsSpelled r → (o : Option Expr) (v : Expr) (vs : Exprs) → SimplePrints tight h (Call o v vs) → LineMade (image_stmt r (Call o v vs))
  image_call h below r names None v vs p = call_made (image r v) (images r vs) (image_made h below r names v p.1) (images_made h below r names vs p.2)
  image_call h below r names (Some u) v vs p = puts_made (image r u) (image r v) (images r vs) (image_made h below r names u p.0) (image_made h below r names v p.1) (images_made h below r names vs p.2)
