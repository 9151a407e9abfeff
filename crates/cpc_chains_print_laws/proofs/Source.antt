-- What stands at a point of a body that can be printed can be printed, each expression of it at any place.
use Rattle.std.proofs.Common.{◌≡◌, ℕ, zero, suc, ◌+◌, ◌≤◌, Bool, true, false, [], ◌∷◌, ◌++◌, Option, Some, None, subst, arith}
use Rattle.cpc_base.specs.Bytes.{Text}
use Rattle.cpc_base.specs.declared.stop.Dialect.TheVariants as D
use Rattle.cpc_num.specs.declared.kinds.Op.{Op}
use Rattle.cpc_tree.specs.declared.token.Keyword.TheVariants as K
use Rattle.cpc_tree.specs.declared.token.Punctuator.TheVariants as P
use Rattle.cpc_tree.specs.Tokens.{Word, Mark}
use Rattle.cpc_tree.specs.Spelling.{IsName}
use Rattle.cpc_tree.specs.Points.{Path, Nth, TheTest, TheYes, TheNo, TheStep, TheBody, Found, Simple, Test, Nothing, found, found_in, found_arm}
use Rattle.cpc_tree.specs.Syntax.{Ty, Expr, ENamed, EInteger, ECharacter, EText, EUnary, EBinary, EAnd, EOr, EChoose, ECast, ESizeOf, EIndex, EMember, EArrow, ECall, Exprs, NoExpr, AndExpr, Stmt, Block, Empty, Declare, Assign, Call, Detach, Spawn, If, While, DoWhile, For, Goto, Label, Break, Continue, Return, Stmts, NoStmt, AndStmt, MaybeStmt, Absent, Present}
use Rattle.cpc_tree.specs.ExprGrammar.{Rank, Postfix, Unary, Tier, Whole}
use Rattle.cpc_tree.specs.StmtGrammar.{is_call}
use Rattle.cpc_tree.specs.TypePrint.{base_of, base_row, declarator_row}
use Rattle.cpc_tree.specs.ExprPrint.{deeper_if, is_loose, tier_below, expr_row, expr_depth, args_row, args_depth, PrintableExpr, PrintableExprs}
use Rattle.cpc_tree.specs.StmtPrint.{assigning_mark, assignment_mark, mark_row, call_row, section_row, maybe_row, maybe_depth, local_row, local_depth, simple_row, simple_depth, locals_row, first_row, first_depth, step_row, step_depth, stmt_row, block_row, stmt_depth, block_depth, HasMark, PrintableMaybe, PrintableStart, PrintableValue, PrintableSimple, begun_place, PrintableLocals, PrintableFirst, PrintableStep, PrintableStmt, PrintableBlock}
use Rattle.cpc_printer_laws.proofs.Fitting.{Spelled, spelled_parts}
use Rattle.cpc_chains_print_laws.proofs.Images.{spelled_round, spelled_inside, spelled_with, round_one}
use Rattle.cpc_chains_print_laws.proofs.Types.{declarator_name}

-- ---- expressions at any place

least : (b : Bool) (x : ℕ) → x ≤ deeper_if b x
least true x = omega arith
least false x = omega arith

one_more : (b c : Bool) (x : ℕ) → deeper_if b x ≤ deeper_if c x + 1
one_more b c x = let l = least c x in let m = round_one b x in omega (arith, l, m)

-- an expression is spelled at one place as at another
other_place : (tight : Bool) (k j : Rank) (e : Expr) → Spelled D.Cpc (expr_row tight k e) → Spelled D.Cpc (expr_row tight j e)
unfolding expr_row
other_place tight k j (ENamed x) s = s
other_place tight k j (EInteger kind z) s = s
other_place tight k j (ECharacter z) s = s
other_place tight k j (EText bytes) s = s
other_place tight k j (EUnary op v) s = spelled_round D.Cpc (is_loose j Unary) _ (spelled_inside D.Cpc (is_loose k Unary) _ s)
other_place tight k j (EBinary op v w) s = spelled_round D.Cpc (is_loose j (Tier (suc (tier_below op)))) _ (spelled_inside D.Cpc (is_loose k (Tier (suc (tier_below op)))) _ s)
other_place tight k j (EAnd v w) s = spelled_round D.Cpc (is_loose j (Tier 9)) _ (spelled_inside D.Cpc (is_loose k (Tier 9)) _ s)
other_place tight k j (EOr v w) s = spelled_round D.Cpc (is_loose j (Tier 10)) _ (spelled_inside D.Cpc (is_loose k (Tier 10)) _ s)
other_place tight k j (EChoose c v w) s = spelled_round D.Cpc (is_loose j Whole) _ (spelled_inside D.Cpc (is_loose k Whole) _ s)
other_place tight k j (ECast t v) s = spelled_round D.Cpc (is_loose j (Tier 0)) _ (spelled_inside D.Cpc (is_loose k (Tier 0)) _ s)
other_place tight k j (ESizeOf t) s = spelled_round D.Cpc (is_loose j Unary) _ (spelled_inside D.Cpc (is_loose k Unary) _ s)
other_place tight k j (EIndex v w) s = spelled_round D.Cpc (is_loose j Postfix) _ (spelled_inside D.Cpc (is_loose k Postfix) _ s)
other_place tight k j (EMember v x) s = spelled_round D.Cpc (is_loose j Postfix) _ (spelled_inside D.Cpc (is_loose k Postfix) _ s)
other_place tight k j (EArrow v x) s = spelled_round D.Cpc (is_loose j Postfix) _ (spelled_inside D.Cpc (is_loose k Postfix) _ s)
other_place tight k j (ECall v vs) s = spelled_round D.Cpc (is_loose j Postfix) _ (spelled_inside D.Cpc (is_loose k Postfix) _ s)

-- and nests one level deeper at most
other_depth : (k j : Rank) (e : Expr) → expr_depth true j e ≤ expr_depth true k e + 1
unfolding expr_depth
other_depth k j (ENamed x) = omega arith
other_depth k j (EInteger kind z) = omega arith
other_depth k j (ECharacter z) = omega arith
other_depth k j (EText bytes) = omega arith
other_depth k j (EUnary op v) = one_more (is_loose j Unary) (is_loose k Unary) _
other_depth k j (EBinary op v w) = one_more (is_loose j (Tier (suc (tier_below op)))) (is_loose k (Tier (suc (tier_below op)))) _
other_depth k j (EAnd v w) = one_more (is_loose j (Tier 9)) (is_loose k (Tier 9)) _
other_depth k j (EOr v w) = one_more (is_loose j (Tier 10)) (is_loose k (Tier 10)) _
other_depth k j (EChoose c v w) = one_more (is_loose j Whole) (is_loose k Whole) _
other_depth k j (ECast t v) = one_more (is_loose j (Tier 0)) (is_loose k (Tier 0)) _
other_depth k j (ESizeOf t) = one_more (is_loose j Unary) (is_loose k Unary) _
other_depth k j (EIndex v w) = one_more (is_loose j Postfix) (is_loose k Postfix) _
other_depth k j (EMember v x) = one_more (is_loose j Postfix) (is_loose k Postfix) _
other_depth k j (EArrow v x) = one_more (is_loose j Postfix) (is_loose k Postfix) _
other_depth k j (ECall v vs) = one_more (is_loose j Postfix) (is_loose k Postfix) _

-- ---- what is known of what stands at a point

module _ (tight : Bool) (h : ℕ) where
  -- an expression can be printed, wherever it stands
  pub record ExprPrints (e : Expr) : Type 0 where
    pub printable : PrintableExpr e
    pub spelled : (k : Rank) → Spelled D.Cpc (expr_row tight k e)
    pub deep : (k : Rank) → expr_depth true k e ≤ h + 1

  abbrev pub MaybePrints : Option Expr → Type 0
  MaybePrints None = Unit {0}
  MaybePrints (Some e) = ExprPrints e

  abbrev pub EachPrints : Exprs → Type 0
  EachPrints NoExpr = Unit {0}
  EachPrints (AndExpr e es) = ExprPrints e × EachPrints es

  -- what a variable starts with
  abbrev pub StartPrints : Option Expr → Type 0
  StartPrints None = Unit {0}
  StartPrints (Some e) = ExprPrints e × (is_call e ≡ false)

  -- what is assigned
  abbrev pub ValuePrints : Option Op → Expr → Type 0
  ValuePrints None e = ExprPrints e × (is_call e ≡ false)
  ValuePrints (Some op) e = ExprPrints e × HasMark (assigning_mark op)

  -- a statement without others in it
  abbrev pub SimplePrints : Stmt → Type 0
  SimplePrints (Declare x t start) = IsName D.Cpc x × StartPrints start
  SimplePrints (Assign v op w) = ExprPrints v × ValuePrints op w
  SimplePrints (Call o v vs) = MaybePrints o × ExprPrints v × EachPrints vs
  SimplePrints (Detach o x vs) = MaybePrints o × IsName D.Cpc x × EachPrints vs
  SimplePrints (Spawn x vs) = IsName D.Cpc x × EachPrints vs
  SimplePrints (Return o) = MaybePrints o
  SimplePrints s = Unit {0}

  abbrev pub FoundPrints : Found → Type 0
  FoundPrints (Simple s) = SimplePrints s
  FoundPrints (Test o) = MaybePrints o
  FoundPrints Nothing = Unit {0}

  -- ---- that it holds

  at_place : (k : Rank) (e : Expr) → PrintableExpr e → Spelled D.Cpc (expr_row tight k e) → expr_depth true k e ≤ h → ExprPrints e
  at_place k e p s d = record { printable = p; spelled = λ j. other_place tight k j e s; deep = λ j. let o = other_depth k j e in omega (arith, o, d) }

  pub named_prints : (x : Text) → IsName D.Cpc x → ExprPrints (ENamed x)
  unfolding PrintableExpr expr_row expr_depth
  named_prints x n = record { printable = tt; spelled = λ j. (n, tt); deep = λ j. omega arith }

  each_prints : (es : Exprs) → PrintableExprs es → Spelled D.Cpc (args_row tight es) → args_depth true es ≤ h → EachPrints es
  unfolding PrintableExprs args_row args_depth
  each_prints NoExpr p s d = tt
  each_prints (AndExpr v NoExpr) p s d = (at_place Whole v p.0 s d, tt)
  each_prints (AndExpr v (AndExpr w vs)) p s d =
      let (a, b, c) = spelled_with D.Cpc (expr_row tight Whole v) (args_row tight (AndExpr w vs)) (Mark P.Comma) s in
      (at_place Whole v p.0 a (omega (arith, d)), each_prints (AndExpr w vs) p.1 c (omega (arith, d)))

  maybe_prints : (o : Option Expr) → PrintableMaybe o → Spelled D.Cpc (maybe_row tight o) → maybe_depth true o ≤ h → MaybePrints o
  maybe_prints None p s d = tt
  maybe_prints (Some e) p s d = at_place Whole e p s d

  -- what is called, and with what
  called_prints : (v : Expr) (vs : Exprs) → PrintableExpr v → PrintableExprs vs → Spelled D.Cpc (call_row tight v vs) → expr_depth true Postfix v ≤ h → args_depth true vs ≤ h → ExprPrints v × EachPrints vs
  called_prints v vs p q s d e =
      let (a, b, c) = spelled_with D.Cpc (expr_row tight Postfix v) (args_row tight vs ++ Mark P.RightParen ∷ []) (Mark P.LeftParen) s in
      (at_place Postfix v p a d, each_prints vs q (spelled_parts D.Cpc (args_row tight vs) (Mark P.RightParen ∷ []) c).0 e)

  section_prints : (x : Text) (vs : Exprs) → PrintableExprs vs → Spelled D.Cpc (section_row tight x vs) → args_depth true vs ≤ h → IsName D.Cpc x × EachPrints vs
  section_prints x vs q s e = (s.1.0, each_prints vs q (spelled_parts D.Cpc (args_row tight vs) (Mark P.RightParen ∷ []) s.1.1.1).0 e)

  start_prints : (x : Text) (t : Ty) (start : Option Expr) → PrintableStart start → Spelled D.Cpc (local_row tight x t start) → local_depth true t start ≤ h → IsName D.Cpc x × StartPrints start
  start_prints x t None p s d = (declarator_name D.Cpc tight x t s, tt)
  start_prints x t (Some v) p s d =
      let (a, b, c) = spelled_with D.Cpc (declarator_row tight (Some x) t) (expr_row tight Whole v) (Mark P.Equal) s in
      (declarator_name D.Cpc tight x t a, (at_place Whole v p.0 c (omega (arith, d)), p.1))

  value_prints : (op : Option Op) (w : Expr) → PrintableValue op w → Spelled D.Cpc (expr_row tight Whole w) → expr_depth true Whole w ≤ h → ValuePrints op w
  value_prints None w p s d = (at_place Whole w p.0 s d, p.1)
  value_prints (Some op) w p s d = (at_place Whole w p.0 s d, p.1)

  simple_prints : (s : Stmt) → PrintableSimple s → Spelled D.Cpc (simple_row tight s) → simple_depth true s ≤ h → SimplePrints s
  simple_prints (Assign v op w) p s d =
      let (a, b) = spelled_parts D.Cpc (expr_row tight Unary v) _ s in
      (at_place Unary v p.0 a (omega (arith, d)), value_prints op w p.1 (spelled_parts D.Cpc (mark_row (assignment_mark op)) (expr_row tight Whole w) b).1 (omega (arith, d)))
  simple_prints (Call None v vs) p s d = let c = called_prints v vs p.1 p.2 s (omega (arith, d)) (omega (arith, d)) in (tt, c.0, c.1)
  simple_prints (Call (Some u) v vs) p s d =
      let (a, b, c) = spelled_with D.Cpc (expr_row tight Unary u) (call_row tight v vs) (Mark P.Equal) s in
      let e = called_prints v vs p.1 p.2 c (omega (arith, d)) (omega (arith, d)) in
      (at_place Unary u p.0 a (omega (arith, d)), e.0, e.1)
  simple_prints (Detach None x vs) p s d = let c = section_prints x vs p.1 s (omega (arith, d)) in (tt, c.0, c.1)
  simple_prints (Detach (Some u) x vs) p s d =
      let (a, b, c) = spelled_with D.Cpc (expr_row tight Unary u) (section_row tight x vs) (Mark P.Equal) s in
      let e = section_prints x vs p.1 c (omega (arith, d)) in
      (at_place Unary u p.0 a (omega (arith, d)), e.0, e.1)
  simple_prints _ p s d = absurd p

  -- ---- points

  -- what the local before a call or a section is called
  begun_prints : (x : Text) (start : Option Expr) → IsName D.Cpc x → MaybePrints (begun_place x start)
  begun_prints x None n = named_prints x n
  begun_prints x (Some v) n = tt

  mutual
    unfolding PrintableStmt PrintableBlock PrintableLocals stmt_row block_row locals_row stmt_depth block_depth first_depth

    pub stmt_found : (s : Stmt) → PrintableStmt s → Spelled D.Cpc (stmt_row tight s) → stmt_depth true s ≤ h → (path : Path) → FoundPrints (found s path)
    stmt_found (Block NoStmt) p s d [] = tt
    stmt_found (Block NoStmt) p s d (k ∷ path) = tt
    stmt_found (Block (AndStmt a ss)) p s d (Nth k ∷ path) = block_found (AndStmt a ss) p (spelled_parts D.Cpc (block_row tight (AndStmt a ss)) (Mark P.RightBrace ∷ []) s.1).0 (omega (arith, d)) k path
    stmt_found (Block (AndStmt a ss)) p s d _ = tt
    stmt_found Empty p s d [] = tt
    stmt_found Empty p s d (k ∷ path) = tt
    stmt_found (Declare x t start) p s d [] =
        let (a, b) = spelled_parts D.Cpc (base_row t ++ local_row tight x t start) (Mark P.Semicolon ∷ []) s in
        start_prints x t start p.1 (spelled_parts D.Cpc (base_row t) (local_row tight x t start) a).1 d
    stmt_found (Declare x t start) p s d (k ∷ path) = tt
    stmt_found (Assign v op w) p s d [] = simple_prints (Assign v op w) p (spelled_parts D.Cpc (simple_row tight (Assign v op w)) (Mark P.Semicolon ∷ []) s).0 d
    stmt_found (Assign v op w) p s d (k ∷ path) = tt
    stmt_found (Call o v vs) p s d [] = simple_prints (Call o v vs) p (spelled_parts D.Cpc (simple_row tight (Call o v vs)) (Mark P.Semicolon ∷ []) s).0 d
    stmt_found (Call o v vs) p s d (k ∷ path) = tt
    stmt_found (Detach o x vs) p s d [] = simple_prints (Detach o x vs) p (spelled_parts D.Cpc (simple_row tight (Detach o x vs)) (Mark P.Semicolon ∷ []) s).0 d
    stmt_found (Detach o x vs) p s d (k ∷ path) = tt
    stmt_found (Spawn x vs) p s d [] = (s.1.0, each_prints vs p (spelled_parts D.Cpc (args_row tight vs) _ s.1.1.1).0 (omega (arith, d)))
    stmt_found (Spawn x vs) p s d (k ∷ path) = tt
    stmt_found (If c a Absent) p s d (TheTest ∷ []) =
        let (u, v, w) = spelled_with D.Cpc (expr_row tight Whole c) (stmt_row tight a) (Mark P.RightParen) s.1.1 in at_place Whole c p.0 u (omega (arith, d))
    stmt_found (If c a Absent) p s d (TheYes ∷ path) =
        let (u, v, w) = spelled_with D.Cpc (expr_row tight Whole c) (stmt_row tight a) (Mark P.RightParen) s.1.1 in stmt_found a p.2 w (omega (arith, d)) path
    stmt_found (If c a Absent) p s d (TheNo ∷ path) = tt
    stmt_found (If c a Absent) p s d _ = tt
    stmt_found (If c a (Present r)) p s d (TheTest ∷ []) =
        let (u, v, w) = spelled_with D.Cpc (expr_row tight Whole c) (stmt_row tight a ++ Word K.Else ∷ stmt_row tight r) (Mark P.RightParen) s.1.1 in at_place Whole c p.0 u (omega (arith, d))
    stmt_found (If c a (Present r)) p s d (TheYes ∷ path) =
        let (u, v, w) = spelled_with D.Cpc (expr_row tight Whole c) (stmt_row tight a ++ Word K.Else ∷ stmt_row tight r) (Mark P.RightParen) s.1.1 in
        stmt_found a p.2 (spelled_parts D.Cpc (stmt_row tight a) _ w).0 (omega (arith, d)) path
    stmt_found (If c a (Present r)) p s d (TheNo ∷ path) =
        let (u, v, w) = spelled_with D.Cpc (expr_row tight Whole c) (stmt_row tight a ++ Word K.Else ∷ stmt_row tight r) (Mark P.RightParen) s.1.1 in
        stmt_found r p.5 (spelled_parts D.Cpc (stmt_row tight a) _ w).1.1 (omega (arith, d)) path
    stmt_found (If c a (Present r)) p s d _ = tt
    stmt_found (While c a) p s d (TheTest ∷ []) = let (u, v, w) = spelled_with D.Cpc (expr_row tight Whole c) (stmt_row tight a) (Mark P.RightParen) s.1.1 in at_place Whole c p.0 u (omega (arith, d))
    stmt_found (While c a) p s d (TheBody ∷ path) = let (u, v, w) = spelled_with D.Cpc (expr_row tight Whole c) (stmt_row tight a) (Mark P.RightParen) s.1.1 in stmt_found a p.2 w (omega (arith, d)) path
    stmt_found (While c a) p s d _ = tt
    stmt_found (DoWhile a c) p s d (TheBody ∷ path) = stmt_found a p.1 (spelled_parts D.Cpc (stmt_row tight a) _ s.1).0 (omega (arith, d)) path
    stmt_found (DoWhile a c) p s d (TheTest ∷ []) =
        let (u, v) = spelled_parts D.Cpc (stmt_row tight a) _ s.1 in
        at_place Whole c p.2 (spelled_parts D.Cpc (expr_row tight Whole c) _ v.1.1).0 (omega (arith, d))
    stmt_found (DoWhile a c) p s d _ = tt
    stmt_found (For ss o q a) p s d (Nth k ∷ path) = first_found ss p.0 (spelled_parts D.Cpc (first_row tight ss) _ s.1.1).0 (omega (arith, d)) k path
    stmt_found (For ss o q a) p s d (TheTest ∷ []) =
        let (u, v) = spelled_parts D.Cpc (first_row tight ss) _ s.1.1 in
        maybe_prints o p.1 (spelled_parts D.Cpc (maybe_row tight o) _ v.1).0 (omega (arith, d))
    stmt_found (For ss o q a) p s d (TheStep ∷ path) =
        let (u, v) = spelled_parts D.Cpc (first_row tight ss) _ s.1.1 in
        let (w, x) = spelled_parts D.Cpc (maybe_row tight o) _ v.1 in
        step_found q p.2 (spelled_parts D.Cpc (step_row tight q) _ x.1).0 (omega (arith, d)) path
    stmt_found (For ss o q a) p s d (TheBody ∷ path) =
        let (u, v) = spelled_parts D.Cpc (first_row tight ss) _ s.1.1 in
        let (w, x) = spelled_parts D.Cpc (maybe_row tight o) _ v.1 in
        stmt_found a p.4 (spelled_parts D.Cpc (step_row tight q) _ x.1).1.1 (omega (arith, d)) path
    stmt_found (For ss o q a) p s d _ = tt
    stmt_found (Goto x) p s d [] = tt
    stmt_found (Goto x) p s d (k ∷ path) = tt
    stmt_found (Label x a) p s d (TheBody ∷ path) = stmt_found a p.1 s.1.1 (omega (arith, d)) path
    stmt_found (Label x a) p s d _ = tt
    stmt_found Break p s d [] = tt
    stmt_found Break p s d (k ∷ path) = tt
    stmt_found Continue p s d [] = tt
    stmt_found Continue p s d (k ∷ path) = tt
    stmt_found (Return o) p s d [] = maybe_prints o p (spelled_parts D.Cpc (maybe_row tight o) _ s.1).0 (omega (arith, d))
    stmt_found (Return o) p s d (k ∷ path) = tt

    pub block_found : (ss : Stmts) → PrintableBlock ss → Spelled D.Cpc (block_row tight ss) → block_depth true ss ≤ h → (k : ℕ) (path : Path) → FoundPrints (found_in ss k path)
    block_found NoStmt p s d k path = tt
    block_found (AndStmt a ss) p s d zero path = stmt_found a p.0 (spelled_parts D.Cpc (stmt_row tight a) (block_row tight ss) s).0 (omega (arith, d)) path
    block_found (AndStmt a ss) p s d (suc k) path = block_found ss p.1 (spelled_parts D.Cpc (stmt_row tight a) (block_row tight ss) s).1 (omega (arith, d)) k path

    -- the last part of a for
    step_found : (q : MaybeStmt) → PrintableStep q → Spelled D.Cpc (step_row tight q) → step_depth true q ≤ h → (path : Path) → FoundPrints (found_arm q path)
    step_found Absent p s d path = tt
    step_found (Present (Assign v op w)) p s d [] = simple_prints (Assign v op w) p s d
    step_found (Present (Assign v op w)) p s d (k ∷ path) = tt
    step_found (Present (Call o v vs)) p s d [] = simple_prints (Call o v vs) p s d
    step_found (Present (Call o v vs)) p s d (k ∷ path) = tt
    step_found (Present (Detach o x vs)) p s d [] = simple_prints (Detach o x vs) p s d
    step_found (Present (Detach o x vs)) p s d (k ∷ path) = tt
    step_found (Present _) p s d path = absurd p

    -- the first part
    first_found : (ss : Stmts) → PrintableFirst ss → Spelled D.Cpc (first_row tight ss) → first_depth true ss ≤ h → (k : ℕ) (path : Path) → FoundPrints (found_in ss k path)
    first_found NoStmt p s d k path = tt
    first_found (AndStmt (Declare x t start) ss) p s d zero [] =
        start_prints x t start p.0.1 (spelled_parts D.Cpc (local_row tight x t start) (locals_row tight ss) (spelled_parts D.Cpc (base_row t) _ s).1).0 (omega (arith, d))
    first_found (AndStmt (Declare x t start) ss) p s d zero (k ∷ path) = tt
    first_found (AndStmt (Declare x t start) ss) p s d (suc k) path =
        let (a, b) = spelled_parts D.Cpc (local_row tight x t start) (locals_row tight ss) (spelled_parts D.Cpc (base_row t) _ s).1 in
        locals_found (base_of t) (begun_place x start) (begun_prints x start (start_prints x t start p.0.1 a (omega (arith, d))).0) ss p.1 b (omega (arith, d)) k path
    first_found (AndStmt (Assign v op w) NoStmt) p s d zero [] = simple_prints (Assign v op w) p s (omega (arith, d))
    first_found (AndStmt (Assign v op w) NoStmt) p s d zero (k ∷ path) = tt
    first_found (AndStmt (Assign v op w) NoStmt) p s d (suc k) path = tt
    first_found (AndStmt (Call o v vs) NoStmt) p s d zero [] = simple_prints (Call o v vs) p s (omega (arith, d))
    first_found (AndStmt (Call o v vs) NoStmt) p s d zero (k ∷ path) = tt
    first_found (AndStmt (Call o v vs) NoStmt) p s d (suc k) path = tt
    first_found (AndStmt (Detach o x vs) NoStmt) p s d zero [] = simple_prints (Detach o x vs) p s (omega (arith, d))
    first_found (AndStmt (Detach o x vs) NoStmt) p s d zero (k ∷ path) = tt
    first_found (AndStmt (Detach o x vs) NoStmt) p s d (suc k) path = tt
    first_found (AndStmt _ (AndStmt c ss)) p s d k path = absurd p
    first_found (AndStmt _ NoStmt) p s d k path = absurd p

    -- further locals, each with what it begins with
    locals_found : (base : Ty) (before : Option Expr) → MaybePrints before → (ss : Stmts) → PrintableLocals base before ss → Spelled D.Cpc (locals_row tight ss) → first_depth true ss ≤ h → (k : ℕ) (path : Path) → FoundPrints (found_in ss k path)
    locals_found base before b NoStmt p s d k path = tt
    locals_found base before b (AndStmt (Declare x t start) ss) p s d zero [] = start_prints x t start p.1.1 (spelled_parts D.Cpc (local_row tight x t start) (locals_row tight ss) s.1).0 (omega (arith, d))
    locals_found base before b (AndStmt (Declare x t start) ss) p s d zero (k ∷ path) = tt
    locals_found base before b (AndStmt (Declare x t start) ss) p s d (suc k) path =
        let (u, v) = spelled_parts D.Cpc (local_row tight x t start) (locals_row tight ss) s.1 in
        locals_found base (begun_place x start) (begun_prints x start (start_prints x t start p.1.1 u (omega (arith, d))).0) ss p.2 v (omega (arith, d)) k path
    locals_found base before b (AndStmt (Call (Some u) v vs) ss) p s d zero [] =
        let c = called_prints v vs p.1 p.2 (spelled_parts D.Cpc (call_row tight v vs) (locals_row tight ss) s.1).0 (omega (arith, d)) (omega (arith, d)) in
        (subst MaybePrints p.0 b, c.0, c.1)
    locals_found base before b (AndStmt (Call (Some u) v vs) ss) p s d zero (k ∷ path) = tt
    locals_found base before b (AndStmt (Call (Some u) v vs) ss) p s d (suc k) path = locals_found base None tt ss p.3 (spelled_parts D.Cpc (call_row tight v vs) (locals_row tight ss) s.1).1 (omega (arith, d)) k path
    locals_found base before b (AndStmt (Detach (Some u) y vs) ss) p s d zero [] =
        let c = section_prints y vs p.1 (spelled_parts D.Cpc (section_row tight y vs) (locals_row tight ss) s.1).0 (omega (arith, d)) in
        (subst MaybePrints p.0 b, c.0, c.1)
    locals_found base before b (AndStmt (Detach (Some u) y vs) ss) p s d zero (k ∷ path) = tt
    locals_found base before b (AndStmt (Detach (Some u) y vs) ss) p s d (suc k) path = locals_found base None tt ss p.2 (spelled_parts D.Cpc (section_row tight y vs) (locals_row tight ss) s.1).1 (omega (arith, d)) k path
    locals_found base before b (AndStmt _ ss) p s d k path = absurd p
