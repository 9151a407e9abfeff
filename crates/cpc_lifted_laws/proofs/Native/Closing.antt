-- What a detached function names: where a statement in it breaks no rule, each function that it names is detached.
use Rattle.std.proofs.Common.{◌≡◌, not, ◌&&◌, ℕ, zero, suc, ◌+◌, true, false, cond, List, [], ◌∷◌, length, option_map, Option, Some, None, refl, sym, ◌∙◌, ap}
use Rattle.cpc_base.specs.Bytes.{Text}
use Rattle.cpc_base.specs.declared.stop.Place.{Place}
use Rattle.cpc_base.specs.declared.stop.Dialect.TheVariants as D
use Rattle.cpc_tree.specs.declared.program.Mode.TheVariants.{Extern, Native, Cps, Detached}
use Rattle.cpc_tree.specs.declared.program.UnaryOp.TheVariants.{AddressOf, Minus, Plus, Not, Complement, Dereference}
use Rattle.cpc_num.specs.declared.kinds.Op.{Op}
use Rattle.cpc_meaning.proofs.Functions.{text_same}
use Rattle.cpc_tree.specs.Located.{Ident, LExpr, LNamed, LInteger, LCharacter, LText, LUnary, LBinary, LAnd, LOr, LChoose, LCast, LSizeOf, LIndex, LMember, LArrow, LCall, LExprs, NoLExpr, AndLExpr, LStmt, Block, Empty, Declare, Assign, Call, Detach, Spawn, If, While, DoWhile, For, Goto, Label, Break, Continue, Return, LStmts, NoLStmt, AndLStmt, MaybeLStmt, NoneLStmt, SomeLStmt, bare_expr, bare_exprs, bare_stmt, bare_stmts, bare_maybe}
use Rattle.cpc_tree.specs.Points.{Path, Nth, TheTest, TheYes, TheNo, TheStep, TheBody, found, found_in, found_arm, scope_at, scope_in, scope_arm, extended, extended_all, declared, locals_in}
use Rattle.cpc_tree.specs.Syntax.{Ty, Expr, Exprs, Function, Program}
use Rattle.cpc_tree.specs.Typing.{Scope, Meant, ALocal, AGlobal, AFunction, NotMeant, named}
use Rattle.cpc_check_rules.specs.declared.rule.Rule.TheVariants.{NotClosed, Twice, Incomplete}
use Rattle.cpc_check_rules.specs.Calls.{Wanted, String, callee, wanted, result, number_breaks}
use Rattle.cpc_check_rules.specs.ExprRules.{called_breaks, arg_breaks, expr_breaks, args_breaks, call_breaks}
use Rattle.cpc_check_rules.specs.Operators.{Where, name_breaks, is_detached}
use Rattle.cpc_check_rules.specs.Rule.{at_if}
use Rattle.cpc_check_rules.specs.Scopes.{meant, is_here, is_sized, with_name}
use Rattle.cpc_check_rules.specs.StmtRules.{in_scope, inner, variable, behind, all_behind, target_breaks, to_breaks, test_breaks, maybe_test, stmt_breaks, stmts_breaks, maybe_breaks}
use Rattle.cpc_check_laws.specs.Sound.Typed.{Calls, CallsHost, CallsFunction, CallsPrimitive, CallsPointer}
use Rattle.cpc_check_laws.proofs.Sound.Agreement.{Matches, Facts, At, item_of}
use Rattle.cpc_check_laws.proofs.Sound.Bodies.{at_name, stmt_here}
use Rattle.cpc_check_laws.proofs.Sound.Shapes.{StepWritten, Written, AllWritten, MaybeWritten, all_first_written}
use Rattle.cpc_check_laws.proofs.Sound.Unbroken.{split, not_broken}
use Rattle.cpc_check_laws.proofs.Native.NativeValues.{unbroken}
use Rattle.cpc_meaning.specs.Names.{AllNames, AllNamesIf, AllNamesAmong, AllNamesFound}
use Rattle.cpc_lifted_laws.specs.Native.Instance.{ClosedName}

module _ (p : Program) (facts : Facts p) (f : Function) (det : is_detached f.mode ≡ true) where
  -- ---- expressions

  module _ (w : Where) (scope : Scope) (at : At D.Cpc p f w scope) where
    abbrev Closed : Text → Type 0
    Closed x = ClosedName p scope x

    around_is : is_detached w.mode ≡ true
    around_is = ap is_detached at.mode ∙ det

    name_closed : (x : Text) (q : Place) (m : Meant) → Matches x m (named p scope x) → name_breaks w.mode q m ≡ [] → Closed x
    name_closed x q (ALocal j t) h e mode r ps i = absurd (let k = sym h.1 ∙ i in cc)
    name_closed x q (AGlobal j t) h e mode r ps i = absurd (let k = sym h.1 ∙ i in cc)
    name_closed x q (AFunction Detached r ps) h e mode u us i = let g = facts.function x Detached r ps (item_of p scope x Detached r ps h) refl in record { function = g.0; named = g.1; detached = ap is_detached g.2 }
    name_closed x q (AFunction Native r ps) h e mode u us i =
        absurd (let a = unbroken (is_detached w.mode && not (is_detached Native)) q NotClosed e in let b = ap (λ b. b && not (is_detached Native)) around_is in let z : true ≡ false = sym b ∙ a in cc)
    name_closed x q (AFunction Cps r ps) h e mode u us i = not_broken _ _ e
    name_closed x q (AFunction Extern r ps) h e mode u us i = not_broken _ _ e
    name_closed x q NotMeant h e mode r ps i = not_broken _ _ e

    expr_closed : (e : LExpr) → expr_breaks w e ≡ [] → AllNames Closed (bare_expr e)
    expr_closed (LNamed x) h = name_closed x.text x.place (meant w.scope x.text) (at.names x.text) h
    expr_closed (LInteger q kind z) h = tt
    expr_closed (LCharacter q z) h = tt
    expr_closed (LText q bytes) h = tt
    expr_closed (LUnary q AddressOf v) h = expr_closed v (split (expr_breaks w v) _ h).0
    expr_closed (LUnary q Minus v) h = expr_closed v (split (expr_breaks w v) _ h).0
    expr_closed (LUnary q Plus v) h = expr_closed v (split (expr_breaks w v) _ h).0
    expr_closed (LUnary q Not v) h = expr_closed v (split (expr_breaks w v) _ h).0
    expr_closed (LUnary q Complement v) h = expr_closed v (split (expr_breaks w v) _ h).0
    expr_closed (LUnary q Dereference v) h = expr_closed v (split (expr_breaks w v) _ h).0
    expr_closed (LBinary q op v u) h = let k = split (expr_breaks w v) _ h in (expr_closed v k.0, expr_closed u (split (expr_breaks w u) _ k.1).0)
    expr_closed (LAnd q v u) h = let k = split (expr_breaks w v) _ h in (expr_closed v k.0, expr_closed u (split (expr_breaks w u) _ k.1).0)
    expr_closed (LOr q v u) h = let k = split (expr_breaks w v) _ h in (expr_closed v k.0, expr_closed u (split (expr_breaks w u) _ k.1).0)
    expr_closed (LChoose q c v u) h =
        let j = split (expr_breaks w c) _ h in
        let k = split (expr_breaks w v) _ j.1 in
        (expr_closed c j.0, expr_closed v k.0, expr_closed u (split (expr_breaks w u) _ k.1).0)
    expr_closed (LCast q t v) h = expr_closed v (split (expr_breaks w v) _ h).0
    expr_closed (LSizeOf q t) h = tt
    expr_closed (LIndex q v u) h = let k = split (expr_breaks w v) _ h in (expr_closed v k.0, expr_closed u (split (expr_breaks w u) _ k.1).0)
    expr_closed (LMember q v x) h = expr_closed v (split (expr_breaks w v) _ h).0
    expr_closed (LArrow q v x) h = expr_closed v (split (expr_breaks w v) _ h).0
    expr_closed (LCall q g vs) h = not_broken _ _ h

    if_closed : (e : Option LExpr) → maybe_test w e ≡ [] → AllNamesIf Closed (option_map bare_expr e)
    if_closed None h = tt
    if_closed (Some e) h = expr_closed e (split (expr_breaks w e) _ h).0

    to_closed : (e : Option LExpr) (o : Place) (u : Option Ty) → to_breaks w e o u ≡ [] → AllNamesIf Closed (option_map bare_expr e)
    to_closed None o u h = tt
    to_closed (Some v) o u h = expr_closed v (split (expr_breaks w v) _ (split (target_breaks w v) _ h).0).0

    arg_closed : (t : Wanted) (e : LExpr) → arg_breaks w t e (expr_breaks w e) ≡ [] → AllNames Closed (bare_expr e)
    arg_closed String (LText q bytes) h = tt
    arg_closed t e h = expr_closed e (split (expr_breaks w e) _ h).0

    args_closed : (ts : List Wanted) (es : LExprs) → args_breaks w ts es ≡ [] → AllNamesAmong Closed (bare_exprs es)
    args_closed ts NoLExpr h = tt
    args_closed [] (AndLExpr e es) h = let k = split (expr_breaks w e) _ h in (expr_closed e k.0, args_closed [] es k.1)
    args_closed (t ∷ ts) (AndLExpr e es) h = let k = split (arg_breaks w t e (expr_breaks w e)) _ h in (arg_closed t e k.0, args_closed ts es k.1)

    callee_closed : (g : Expr) (es : Exprs) (t : Ty) → Calls D.Cpc p f.mode scope g es t → AllNames Closed g
    callee_closed _ _ _ (CallsHost x r ps es apart is_x gets many) = absurd (let z : true ≡ false = sym det ∙ apart in cc)
    callee_closed _ _ _ (CallsFunction x mode r ps g es own is_x is_g closes may gets) = λ m u us i. record { function = g; named = is_g; detached = closes det }
    callee_closed _ _ _ (CallsPrimitive x prim es none is_prim is_d closes may gets) = λ m u us i. absurd (let k = sym none ∙ i in cc)
    callee_closed _ _ _ (CallsPointer g typed r ps es apart is_pointer is_t is_u gets) = absurd (let z : true ≡ false = sym det ∙ apart in cc)

    call_closed : (g : LExpr) (es : LExprs) → call_breaks w g es ≡ [] → AllNamesAmong Closed (bare_exprs es)
    call_closed g es h = args_closed (wanted (callee w g es)) es (split (number_breaks (callee w g es) es _) _ (split (called_breaks w g (expr_breaks w g)) _ h).1).1

    -- ---- simple statements

    assign_closed : (q o : Place) (v : LExpr) (op : Option Op) (e : LExpr) → stmt_breaks w (Assign q o v op e) ≡ [] → AllNames Closed (bare_expr v) × AllNames Closed (bare_expr e)
    assign_closed q o v op e h = let k = split (target_breaks w v) _ h in (expr_closed v (split (expr_breaks w v) _ k.0).0, expr_closed e (split (expr_breaks w e) _ k.1).0)

    called_closed : (n : ℕ) (q o : Place) (to : Option LExpr) (g : LExpr) (es : LExprs) → stmt_breaks w (Call q o to g es) ≡ [] → AllNamesIf Closed (option_map bare_expr to) × AllNames Closed (bare_expr g) × AllNamesAmong Closed (bare_exprs es)
    called_closed n q o to g es h =
        let typed = stmt_here D.Cpc p facts f w scope n at (Call q o to g es) tt h in
        let k = split (to_breaks w to o (result (callee w g es))) _ h in
        (to_closed to o (result (callee w g es)) k.0, callee_closed (bare_expr g) (bare_exprs es) typed.0 typed.1, call_closed g es k.1)

    no_section : {A : Type 0} (n : ℕ) (q o k : Place) (to : Option LExpr) (x : Ident) (es : LExprs) → stmt_breaks w (Detach q o k to x es) ≡ [] → A
    no_section n q o k to x es h = let typed = stmt_here D.Cpc p facts f w scope n at (Detach q o k to x es) tt h in absurd (let z : true ≡ false = sym det ∙ typed.0.not_detached in cc)

    no_spawn : {A : Type 0} (n : ℕ) (q : Place) (x : Ident) (es : LExprs) → stmt_breaks w (Spawn q x es) ≡ [] → A
    no_spawn n q x es h = let typed = stmt_here D.Cpc p facts f w scope n at (Spawn q x es) tt h in absurd (let z : true ≡ false = sym det ∙ typed.0.not_detached in cc)

    -- the step of a `for`
    step_closed : (n : ℕ) (r : MaybeLStmt) → StepWritten r → maybe_breaks w r ≡ [] → (path : Path) → AllNamesFound Closed (found_arm (bare_maybe r) path)
    step_closed n NoneLStmt s h path = tt
    step_closed n (SomeLStmt (Assign q o v op e)) s h [] = assign_closed q o v op e h
    step_closed n (SomeLStmt (Assign q o v op e)) s h (x ∷ path) = tt
    step_closed n (SomeLStmt (Call q o to g es)) s h [] = called_closed n q o to g es h
    step_closed n (SomeLStmt (Call q o to g es)) s h (x ∷ path) = tt
    step_closed n (SomeLStmt (Detach q o k to x es)) s h [] = no_section n q o k to x es h
    step_closed n (SomeLStmt (Detach q o k to x es)) s h (y ∷ path) = tt
    step_closed n (SomeLStmt _) s h path = absurd s

  -- ---- scopes

  at_inner : (w : Where) (scope : Scope) → At D.Cpc p f w scope → At D.Cpc p f (inner w) scope
  at_inner w scope at = record { names = at.names; grows = at.grows; mode = at.mode; result = at.result; dialect = at.dialect }

  at_behind : (w : Where) (scope : Scope) (n : ℕ) (s : LStmt) → At D.Cpc p f w scope → At D.Cpc p f (behind w s) (extended scope n (bare_stmt s))
  at_behind w scope n (Declare q x t start) at = at_name D.Cpc p facts f w scope n (variable x t) at
  at_behind w scope n (Block q ss) at = at
  at_behind w scope n (Empty q) at = at
  at_behind w scope n (Assign q o v op e) at = at
  at_behind w scope n (Call q o to g es) at = at
  at_behind w scope n (Detach q o k to g es) at = at
  at_behind w scope n (Spawn q g es) at = at
  at_behind w scope n (If q c s r) at = at
  at_behind w scope n (While q c s) at = at
  at_behind w scope n (DoWhile q s c) at = at
  at_behind w scope n (For q ss c r s) at = at
  at_behind w scope n (Goto q x) at = at
  at_behind w scope n (Label x s) at = at
  at_behind w scope n (Break q) at = at
  at_behind w scope n (Continue q) at = at
  at_behind w scope n (Return q e) at = at

  at_all_behind : (w : Where) (scope : Scope) (n : ℕ) (ss : LStmts) → At D.Cpc p f w scope → At D.Cpc p f (all_behind w ss) (extended_all scope n (bare_stmts ss))
  at_all_behind w scope n NoLStmt at = at
  at_all_behind w scope n (AndLStmt s ss) at = at_all_behind (behind w s) (extended scope n (bare_stmt s)) (n + declared (bare_stmt s)) ss (at_behind w scope n s at)

  -- ---- paths

  -- the names at a path of a statement, in the scope there
  abbrev AtPath : Scope → ℕ → LStmt → Path → Type 0
  AtPath scope n s path = AllNamesFound (ClosedName p (scope_at scope n (bare_stmt s) path)) (found (bare_stmt s) path)

  declare_closed : (w : Where) (scope : Scope) (n : ℕ) → At D.Cpc p f w scope → (q : Place) (x : Ident) (t : Ty) (start : Option LExpr) → stmt_breaks w (Declare q x t start) ≡ [] → AtPath scope n (Declare q x t start) []
  declare_closed w scope n at q x t None h = tt
  declare_closed w scope n at q x t (Some e) h =
      let h1 = split (at_if (is_here w.scope.blocks x.text) x.place Twice) _ h in
      let h2 = split (at_if (not (is_sized w.scope t)) x.place Incomplete) _ h1.1 in
      let w2 = in_scope w (with_name w.scope (variable x t)) in
      let scope2 : Scope = record { called = x.text; type = t; slot = n } ∷ scope in
      let at2 = at_name D.Cpc p facts f w scope n (variable x t) at in (
        (λ m u us i. absurd (let k = sym (ap (λ b. cond b (ALocal n t) (named p scope x.text)) (text_same x.text)) ∙ i in cc)),
        expr_closed w2 scope2 at2 e (split (expr_breaks w2 e) _ h2.1).0,
      )

  mutual
    pub stmt_closed : (w : Where) (scope : Scope) (n : ℕ) → At D.Cpc p f w scope → (s : LStmt) → Written s → stmt_breaks w s ≡ [] → (path : Path) → AtPath scope n s path
    stmt_closed w scope n at (Block q NoLStmt) s h [] = tt
    stmt_closed w scope n at (Block q NoLStmt) s h (k ∷ path) = tt
    stmt_closed w scope n at (Block q (AndLStmt a ss)) s h (Nth k ∷ path) = in_closed (inner w) scope n (at_inner w scope at) (AndLStmt a ss) s h k path
    stmt_closed w scope n at (Block q (AndLStmt a ss)) s h _ = tt
    stmt_closed w scope n at (Empty q) s h [] = tt
    stmt_closed w scope n at (Empty q) s h (k ∷ path) = tt
    stmt_closed w scope n at (Declare q x t start) s h [] = declare_closed w scope n at q x t start h
    stmt_closed w scope n at (Declare q x t start) s h (k ∷ path) = tt
    stmt_closed w scope n at (Assign q o v op e) s h [] = assign_closed w scope at q o v op e h
    stmt_closed w scope n at (Assign q o v op e) s h (k ∷ path) = tt
    stmt_closed w scope n at (Call q o to g es) s h [] = called_closed w scope at n q o to g es h
    stmt_closed w scope n at (Call q o to g es) s h (k ∷ path) = tt
    stmt_closed w scope n at (Detach q o l to x es) s h [] = no_section w scope at n q o l to x es h
    stmt_closed w scope n at (Detach q o l to x es) s h (k ∷ path) = tt
    stmt_closed w scope n at (Spawn q x es) s h [] = no_spawn w scope at n q x es h
    stmt_closed w scope n at (Spawn q x es) s h (k ∷ path) = tt
    stmt_closed w scope n at (Goto q x) s h [] = tt
    stmt_closed w scope n at (Goto q x) s h (k ∷ path) = tt
    stmt_closed w scope n at (Break q) s h [] = tt
    stmt_closed w scope n at (Break q) s h (k ∷ path) = tt
    stmt_closed w scope n at (Continue q) s h [] = tt
    stmt_closed w scope n at (Continue q) s h (k ∷ path) = tt
    stmt_closed w scope n at (Return q None) s h [] = tt
    stmt_closed w scope n at (Return q (Some e)) s h [] = expr_closed w scope at e (split (expr_breaks w e) _ h).0
    stmt_closed w scope n at (Return q e) s h (k ∷ path) = tt
    stmt_closed w scope n at (If q c a r) s h (TheTest ∷ []) = expr_closed w scope at c (split (expr_breaks w c) _ (split (test_breaks w c) _ h).0).0
    stmt_closed w scope n at (If q c a r) s h (TheYes ∷ path) = stmt_closed w scope n at a s.0 (split (stmt_breaks w a) _ (split (test_breaks w c) _ h).1).0 path
    stmt_closed w scope n at (If q c a r) s h (TheNo ∷ path) = arm_closed w scope (n + declared (bare_stmt a)) at r s.1 (split (stmt_breaks w a) _ (split (test_breaks w c) _ h).1).1 path
    stmt_closed w scope n at (If q c a r) s h _ = tt
    stmt_closed w scope n at (While q c a) s h (TheTest ∷ []) = expr_closed w scope at c (split (expr_breaks w c) _ (split (test_breaks w c) _ h).0).0
    stmt_closed w scope n at (While q c a) s h (TheBody ∷ path) = stmt_closed w scope n at a s (split (test_breaks w c) _ h).1 path
    stmt_closed w scope n at (While q c a) s h _ = tt
    stmt_closed w scope n at (DoWhile q a c) s h (TheBody ∷ path) = stmt_closed w scope n at a s (split (stmt_breaks w a) _ h).0 path
    stmt_closed w scope n at (DoWhile q a c) s h (TheTest ∷ []) = expr_closed w scope at c (split (expr_breaks w c) _ (split (stmt_breaks w a) _ h).1).0
    stmt_closed w scope n at (DoWhile q a c) s h _ = tt
    stmt_closed w scope n at (For q ss c r a) s h (Nth k ∷ path) = in_closed (inner w) scope n (at_inner w scope at) ss (all_first_written ss s.0) (split (stmts_breaks (inner w) ss) _ h).0 k path
    stmt_closed w scope n at (For q ss c r a) s h (TheTest ∷ []) =
        if_closed (all_behind (inner w) ss) (extended_all scope n (bare_stmts ss)) (at_all_behind (inner w) scope n ss (at_inner w scope at)) c (split (maybe_test (all_behind (inner w) ss) c) _ (split (stmts_breaks (inner w) ss) _ h).1).0
    stmt_closed w scope n at (For q ss c r a) s h (TheStep ∷ path) =
        let w2 = all_behind (inner w) ss in
        let l = split (maybe_test w2 c) _ (split (stmts_breaks (inner w) ss) _ h).1 in
        step_closed w2 (extended_all scope n (bare_stmts ss)) (at_all_behind (inner w) scope n ss (at_inner w scope at)) n r s.1 (split (maybe_breaks w2 r) _ l.1).0 path
    stmt_closed w scope n at (For q ss c r a) s h (TheBody ∷ path) =
        let w2 = all_behind (inner w) ss in
        let l = split (maybe_test w2 c) _ (split (stmts_breaks (inner w) ss) _ h).1 in
        stmt_closed w2 (extended_all scope n (bare_stmts ss)) (n + length (locals_in (bare_stmts ss))) (at_all_behind (inner w) scope n ss (at_inner w scope at)) a s.2 (split (maybe_breaks w2 r) _ l.1).1 path
    stmt_closed w scope n at (For q ss c r a) s h _ = tt
    stmt_closed w scope n at (Label x a) s h (TheBody ∷ path) = stmt_closed w scope n at a s h path
    stmt_closed w scope n at (Label x a) s h _ = tt

    pub in_closed : (w : Where) (scope : Scope) (n : ℕ) → At D.Cpc p f w scope → (ss : LStmts) → AllWritten ss → stmts_breaks w ss ≡ [] → (k : ℕ) (path : Path) → AllNamesFound (ClosedName p (scope_in scope n (bare_stmts ss) k path)) (found_in (bare_stmts ss) k path)
    in_closed w scope n at NoLStmt s h k path = tt
    in_closed w scope n at (AndLStmt a ss) s h zero path = stmt_closed w scope n at a s.0 (split (stmt_breaks w a) _ h).0 path
    in_closed w scope n at (AndLStmt a ss) s h (suc k) path = in_closed (behind w a) (extended scope n (bare_stmt a)) (n + declared (bare_stmt a)) (at_behind w scope n a at) ss s.1 (split (stmt_breaks w a) _ h).1 k path

    arm_closed : (w : Where) (scope : Scope) (n : ℕ) → At D.Cpc p f w scope → (r : MaybeLStmt) → MaybeWritten r → maybe_breaks w r ≡ [] → (path : Path) → AllNamesFound (ClosedName p (scope_arm scope n (bare_maybe r) path)) (found_arm (bare_maybe r) path)
    arm_closed w scope n at NoneLStmt s h path = tt
    arm_closed w scope n at (SomeLStmt a) s h path = stmt_closed w scope n at a s h path
