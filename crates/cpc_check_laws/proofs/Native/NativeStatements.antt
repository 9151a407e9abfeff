-- What native code breaks in the dialect Event it breaks in the dialect Cpc: calls as statements, and statements.
use Rattle.std.proofs.Common.{◌≡◌, Bool, true, false, not, List, [], ◌∷◌, ◌++◌, Option, Some, None, refl, sym, ap, subst, ◌∙◌}
use Rattle.cpc_base.specs.declared.stop.Place.{Place}
use Rattle.cpc_base.proofs.Truth.{and_first, and_second}
use Rattle.cpc_num.specs.declared.kinds.Kind.TheVariants.{Int}
use Rattle.cpc_num.specs.declared.kinds.Op.{Op}
use Rattle.cpc_tree.specs.declared.program.Mode.{Mode}
use Rattle.cpc_tree.specs.Syntax.{Ty, TyInt}
use Rattle.cpc_tree.specs.Typing.{Meant, ALocal, AGlobal, AFunction, NotMeant}
use Rattle.cpc_tree.specs.Primitives.{primitive_named}
use Rattle.cpc_tree.specs.Located.{Ident, LExpr, LNamed, LInteger, LCharacter, LText, LUnary, LBinary, LAnd, LOr, LChoose, LCast, LSizeOf, LIndex, LMember, LArrow, LCall, LExprs, NoLExpr, AndLExpr, LStmt, Block, Empty, Declare, Assign, Call, Detach, Spawn, If, While, DoWhile, For, Goto, Label, Break, Continue, Return, LStmts, NoLStmt, AndLStmt, MaybeLStmt, NoneLStmt, SomeLStmt}
use Rattle.cpc_check_rules.specs.Rule.{Broken, at_if}
use Rattle.cpc_check_rules.specs.declared.rule.Rule.TheVariants.{CpsInNative, Twice, Incomplete}
use Rattle.cpc_check_rules.specs.Scopes.{Scope, meant, with_name, with_block, is_here, is_sized}
use Rattle.cpc_check_rules.specs.Operators.{is_cps, first, typed_at}
use Rattle.cpc_check_rules.specs.Calls.{Wanted, Integer, Of, Callback, String, ForSection, wanted, callee, number_breaks, result, suit_breaks, named_callee, Anything}
use Rattle.cpc_check_rules.specs.ExprRules.{expr_breaks, args_breaks, arg_breaks, called_breaks, call_breaks}
use Rattle.cpc_check_rules.specs.StmtRules.{stmt_breaks, stmts_breaks, maybe_breaks, target_breaks, assign_breaks, to_breaks, test_breaks, maybe_test, start_breaks, return_breaks, behind, all_behind, variable}
use Rattle.cpc_check_laws.specs.Native.Native.{spawns_none, all_spawn_none, maybe_spawns_none}
use Rattle.cpc_check_laws.proofs.Native.NativeValues.{left_none, right_none, both_none, cpc, event, expr_native, called_native}

module _ (s : Scope) (m : Mode) (r : Ty) (native : is_cps m ≡ false) where
  -- an argument that is no string
  plain_native : (w : Wanted) (e : LExpr) → expr_breaks (cpc s m r) e ++ suit_breaks s w e (typed_at (cpc s m r) e) ≡ [] → expr_breaks (event s m r) e ++ suit_breaks s w e (typed_at (event s m r) e) ≡ []
  plain_native w e h = both_none _ _ (expr_native s m r native e (left_none _ _ h)) (right_none (expr_breaks (cpc s m r) e) _ h)

  string_native : (e : LExpr) → arg_breaks (cpc s m r) String e (expr_breaks (cpc s m r) e) ≡ [] → arg_breaks (event s m r) String e (expr_breaks (event s m r) e) ≡ []
  string_native (LText q bytes) h = refl
  string_native (LNamed x) h = plain_native String (LNamed x) h
  string_native (LInteger q kind z) h = plain_native String (LInteger q kind z) h
  string_native (LCharacter q z) h = plain_native String (LCharacter q z) h
  string_native (LUnary q op v) h = plain_native String (LUnary q op v) h
  string_native (LBinary q op v u) h = plain_native String (LBinary q op v u) h
  string_native (LAnd q v u) h = plain_native String (LAnd q v u) h
  string_native (LOr q v u) h = plain_native String (LOr q v u) h
  string_native (LChoose q c v u) h = plain_native String (LChoose q c v u) h
  string_native (LCast q t v) h = plain_native String (LCast q t v) h
  string_native (LSizeOf q t) h = plain_native String (LSizeOf q t) h
  string_native (LIndex q v u) h = plain_native String (LIndex q v u) h
  string_native (LMember q v x) h = plain_native String (LMember q v x) h
  string_native (LArrow q v x) h = plain_native String (LArrow q v x) h
  string_native (LCall q f vs) h = plain_native String (LCall q f vs) h

  arg_native : (w : Wanted) (e : LExpr) → arg_breaks (cpc s m r) w e (expr_breaks (cpc s m r) e) ≡ [] → arg_breaks (event s m r) w e (expr_breaks (event s m r) e) ≡ []
  arg_native Integer e h = plain_native Integer e h
  arg_native (Of t) e h = plain_native (Of t) e h
  arg_native (Callback t) e h = plain_native (Callback t) e h
  arg_native String e h = string_native e h
  arg_native ForSection e h = plain_native ForSection e h
  arg_native Anything e h = plain_native Anything e h

  args_native : (ws : List Wanted) (es : LExprs) → args_breaks (cpc s m r) ws es ≡ [] → args_breaks (event s m r) ws es ≡ []
  args_native ws NoLExpr h = refl
  args_native [] (AndLExpr e es) h = both_none _ _ (expr_native s m r native e (left_none _ _ h)) (args_native [] es (right_none (expr_breaks (cpc s m r) e) _ h))
  args_native (w ∷ ws) (AndLExpr e es) h =
      both_none _ _ (arg_native w e (left_none _ _ h)) (args_native ws es (right_none (arg_breaks (cpc s m r) w e (expr_breaks (cpc s m r) e)) _ h))

  -- what is called does not depend on the dialect
  same_callee : (f : LExpr) (es : LExprs) → callee (cpc s m r) f es ≡ callee (event s m r) f es
  same_callee (LNamed x) es = same_named (meant s x.text)
    where
      same_named : (k : Meant) → named_callee (cpc s m r) (LNamed x) es k (primitive_named x.text) ≡ named_callee (event s m r) (LNamed x) es k (primitive_named x.text)
      same_named (ALocal n t) = refl
      same_named (AGlobal n t) = refl
      same_named (AFunction mode t ps) = refl
      same_named NotMeant = refl
  same_callee (LText q bytes) es = refl
  same_callee (LInteger q kind z) es = refl
  same_callee (LCharacter q z) es = refl
  same_callee (LUnary q op v) es = refl
  same_callee (LBinary q op v u) es = refl
  same_callee (LAnd q v u) es = refl
  same_callee (LOr q v u) es = refl
  same_callee (LChoose q c v u) es = refl
  same_callee (LCast q t v) es = refl
  same_callee (LSizeOf q t) es = refl
  same_callee (LIndex q v u) es = refl
  same_callee (LMember q v x) es = refl
  same_callee (LArrow q v x) es = refl
  same_callee (LCall q f vs) es = refl

  call_native : (f : LExpr) (es : LExprs) → call_breaks (cpc s m r) f es ≡ [] → call_breaks (event s m r) f es ≡ []
  call_native f es h =
      let g = right_none (called_breaks (cpc s m r) f (expr_breaks (cpc s m r) f)) _ h in
      let counted = subst (λ c. number_breaks c es (first f) ≡ []) (same_callee f es) (left_none _ _ g) in
      let taken = subst (λ c. args_breaks (cpc s m r) (wanted c) es ≡ []) (same_callee f es) (right_none (number_breaks (callee (cpc s m r) f es) es (first f)) _ g) in
      both_none _ _ (called_native s m r native f _ _ (expr_native s m r native f) (left_none _ _ h))
      (both_none _ _ counted (args_native (wanted (callee (event s m r) f es)) es taken))

  -- ---- simple statements

  target_native : (v : LExpr) → target_breaks (cpc s m r) v ≡ [] → target_breaks (event s m r) v ≡ []
  target_native v h = both_none _ _ (expr_native s m r native v (left_none _ _ h)) (right_none (expr_breaks (cpc s m r) v) _ h)

  to_native : (to : Option LExpr) (o : Place) (t : Option Ty) → to_breaks (cpc s m r) to o t ≡ [] → to_breaks (event s m r) to o t ≡ []
  to_native None o t h = refl
  to_native (Some v) o t h = both_none _ _ (target_native v (left_none _ _ h)) (right_none (target_breaks (cpc s m r) v) _ h)

  test_native : (e : LExpr) → test_breaks (cpc s m r) e ≡ [] → test_breaks (event s m r) e ≡ []
  test_native e h = both_none _ _ (expr_native s m r native e (left_none _ _ h)) (right_none (expr_breaks (cpc s m r) e) _ h)

  maybe_test_native : (o : Option LExpr) → maybe_test (cpc s m r) o ≡ [] → maybe_test (event s m r) o ≡ []
  maybe_test_native None h = refl
  maybe_test_native (Some e) h = test_native e h

  pub start_native : (x : Ident) (t : Ty) (start : Option LExpr) → start_breaks (cpc s m r) x t start ≡ [] → start_breaks (event s m r) x t start ≡ []
  start_native x t None h = refl
  start_native x t (Some e) h = both_none _ _ (expr_native s m r native e (left_none _ _ h)) (right_none (expr_breaks (cpc s m r) e) _ h)

  return_native : (q : Place) (o : Option LExpr) → return_breaks (cpc s m r) q o ≡ [] → return_breaks (event s m r) q o ≡ []
  return_native q None h = h
  return_native q (Some e) h = both_none _ _ (expr_native s m r native e (left_none _ _ h)) (right_none (expr_breaks (cpc s m r) e) _ h)

  assign_op_native : (o : Place) (v : LExpr) (op : Option Op) (e : LExpr) → assign_breaks (cpc s m r) o v op e ≡ [] → assign_breaks (event s m r) o v op e ≡ []
  assign_op_native o v None e h = h
  assign_op_native o v (Some op) e h = h

  assign_native : (o : Place) (v : LExpr) (op : Option Op) (e : LExpr) → target_breaks (cpc s m r) v ++ (expr_breaks (cpc s m r) e ++ assign_breaks (cpc s m r) o v op e) ≡ []
      → target_breaks (event s m r) v ++ (expr_breaks (event s m r) e ++ assign_breaks (event s m r) o v op e) ≡ []
  assign_native o v op e h = let g = right_none (target_breaks (cpc s m r) v) _ h in
      both_none _ _ (target_native v (left_none _ _ h)) (both_none _ _ (expr_native s m r native e (left_none _ _ g)) (assign_op_native o v op e (right_none (expr_breaks (cpc s m r) e) _ g)))

  -- no native function has a section
  no_section : (b : Bool) (q : Place) (rest : Broken) → b ≡ false → at_if (not b) q CpsInNative ++ rest ≡ [] → ⊥
  no_section true q rest e h = absurd cc
  no_section false q rest e h = absurd cc

  pub statement_call : (to : Option LExpr) (o : Place) (f : LExpr) (es : LExprs) → to_breaks (cpc s m r) to o (result (callee (cpc s m r) f es)) ++ call_breaks (cpc s m r) f es ≡ []
      → to_breaks (event s m r) to o (result (callee (event s m r) f es)) ++ call_breaks (event s m r) f es ≡ []
  statement_call to o f es h = both_none _ _ (to_native to o (result (callee (event s m r) f es)) (subst (λ c. to_breaks (cpc s m r) to o (result c) ≡ []) (same_callee f es) (left_none _ _ h)))
      (call_native f es (right_none (to_breaks (cpc s m r) to o (result (callee (cpc s m r) f es))) _ h))

-- a scope after statements, in one dialect and the other
same_behind : (s : Scope) (m : Mode) (r : Ty) (x : LStmt) → (t : Scope) × (behind (cpc s m r) x ≡ cpc t m r) × (behind (event s m r) x ≡ event t m r)
same_behind s m r (Declare q x t start) = (with_name s (variable x t), refl, refl)
same_behind s m r (Block q ss) = (s, refl, refl)
same_behind s m r (Empty q) = (s, refl, refl)
same_behind s m r (Assign q o v op e) = (s, refl, refl)
same_behind s m r (Call q o to f es) = (s, refl, refl)
same_behind s m r (Detach q o k to f es) = (s, refl, refl)
same_behind s m r (Spawn q f es) = (s, refl, refl)
same_behind s m r (If q c a b) = (s, refl, refl)
same_behind s m r (While q c a) = (s, refl, refl)
same_behind s m r (DoWhile q a c) = (s, refl, refl)
same_behind s m r (For q ss c a b) = (s, refl, refl)
same_behind s m r (Goto q x) = (s, refl, refl)
same_behind s m r (Label x a) = (s, refl, refl)
same_behind s m r (Break q) = (s, refl, refl)
same_behind s m r (Continue q) = (s, refl, refl)
same_behind s m r (Return q e) = (s, refl, refl)

same_all_behind : (s : Scope) (m : Mode) (r : Ty) (ss : LStmts) → (t : Scope) × (all_behind (cpc s m r) ss ≡ cpc t m r) × (all_behind (event s m r) ss ≡ event t m r)
same_all_behind s m r NoLStmt = (s, refl, refl)
same_all_behind s m r (AndLStmt x ss) =
    let b = same_behind s m r x in
    let a = same_all_behind b.0 m r ss in
    (a.0, ap (λ w. all_behind w ss) b.1 ∙ a.1, ap (λ w. all_behind w ss) b.2 ∙ a.2)

mutual
  pub stmt_native : (s : Scope) (m : Mode) (r : Ty) → is_cps m ≡ false → (x : LStmt) → spawns_none x ≡ true → stmt_breaks (cpc s m r) x ≡ [] → stmt_breaks (event s m r) x ≡ []
  stmt_native s m r native (Block q ss) k h = stmts_native (with_block s) m r native ss k h
  stmt_native s m r native (Empty q) k h = refl
  stmt_native s m r native (Declare q x t start) k h =
      let g = right_none (at_if (is_here s.blocks x.text) x.place Twice) _ h in
      both_none _ _ (left_none _ _ h) (both_none _ _ (left_none _ _ g) (start_native (with_name s (variable x t)) m r native x t start (right_none (at_if (not (is_sized s t)) x.place Incomplete) _ g)))
  stmt_native s m r native (Assign q o v op e) k h = assign_native s m r native o v op e h
  stmt_native s m r native (Call q o to f es) k h = statement_call s m r native to o f es h
  stmt_native s m r native (Detach q o j to f es) k h =
      absurd (no_section s m r native (is_cps m) j _ native (right_none (to_breaks (cpc s m r) to o (Some (TyInt Int))) _ h))
  stmt_native s m r native (Spawn q f es) k h = absurd cc
  stmt_native s m r native (If q c a b) k h =
      let g = right_none (test_breaks (cpc s m r) c) _ h in
      both_none _ _ (test_native s m r native c (left_none _ _ h))
      (both_none _ _ (stmt_native s m r native a (and_first (spawns_none a) (maybe_spawns_none b) k) (left_none _ _ g))
      (maybe_native s m r native b (and_second (spawns_none a) (maybe_spawns_none b) k) (right_none (stmt_breaks (cpc s m r) a) _ g)))
  stmt_native s m r native (While q c a) k h = both_none _ _ (test_native s m r native c (left_none _ _ h)) (stmt_native s m r native a k (right_none (test_breaks (cpc s m r) c) _ h))
  stmt_native s m r native (DoWhile q a c) k h = both_none _ _ (stmt_native s m r native a k (left_none _ _ h)) (test_native s m r native c (right_none (stmt_breaks (cpc s m r) a) _ h))
  stmt_native s m r native (For q ss c b a) k h =
      let i = with_block s in
      let there = same_all_behind i m r ss in
      let t = there.0 in
      let none : stmts_breaks (cpc i m r) ss ++ (maybe_test (cpc t m r) c ++ (maybe_breaks (cpc t m r) b ++ stmt_breaks (cpc t m r) a)) ≡ [] =
      subst (λ w. stmts_breaks (cpc i m r) ss ++ (maybe_test w c ++ (maybe_breaks w b ++ stmt_breaks w a)) ≡ []) there.1 h in
      let g = right_none (stmts_breaks (cpc i m r) ss) _ none in
      let j = right_none (maybe_test (cpc t m r) c) _ g in
      let rest = and_second (all_spawn_none ss) _ k in
      subst (λ w. stmts_breaks (event i m r) ss ++ (maybe_test w c ++ (maybe_breaks w b ++ stmt_breaks w a)) ≡ []) (sym there.2)
      (both_none _ _ (stmts_native i m r native ss (and_first (all_spawn_none ss) _ k) (left_none _ _ none))
      (both_none _ _ (maybe_test_native t m r native c (left_none _ _ g))
      (both_none _ _ (maybe_native t m r native b (and_first (maybe_spawns_none b) (spawns_none a) rest) (left_none _ _ j))
      (stmt_native t m r native a (and_second (maybe_spawns_none b) (spawns_none a) rest) (right_none (maybe_breaks (cpc t m r) b) _ j)))))
  stmt_native s m r native (Goto q x) k h = refl
  stmt_native s m r native (Label x a) k h = stmt_native s m r native a k h
  stmt_native s m r native (Break q) k h = refl
  stmt_native s m r native (Continue q) k h = refl
  stmt_native s m r native (Return q e) k h = return_native s m r native q e h

  pub stmts_native : (s : Scope) (m : Mode) (r : Ty) → is_cps m ≡ false → (ss : LStmts) → all_spawn_none ss ≡ true → stmts_breaks (cpc s m r) ss ≡ [] → stmts_breaks (event s m r) ss ≡ []
  stmts_native s m r native NoLStmt k h = refl
  stmts_native s m r native (AndLStmt x ss) k h =
      let there = same_behind s m r x in
      let none : stmt_breaks (cpc s m r) x ++ stmts_breaks (cpc there.0 m r) ss ≡ [] = subst (λ w. stmt_breaks (cpc s m r) x ++ stmts_breaks w ss ≡ []) there.1 h in
      subst (λ w. stmt_breaks (event s m r) x ++ stmts_breaks w ss ≡ []) (sym there.2)
      (both_none _ _ (stmt_native s m r native x (and_first (spawns_none x) (all_spawn_none ss) k) (left_none _ _ none))
      (stmts_native there.0 m r native ss (and_second (spawns_none x) (all_spawn_none ss) k) (right_none (stmt_breaks (cpc s m r) x) _ none)))

  maybe_native : (s : Scope) (m : Mode) (r : Ty) → is_cps m ≡ false → (x : MaybeLStmt) → maybe_spawns_none x ≡ true → maybe_breaks (cpc s m r) x ≡ [] → maybe_breaks (event s m r) x ≡ []
  maybe_native s m r native NoneLStmt k h = refl
  maybe_native s m r native (SomeLStmt x) k h = stmt_native s m r native x k h
