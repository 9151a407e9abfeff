-- Which rules statements break does not depend on places.
use Rattle.std.proofs.Common.{◌≡◌, ◌||◌, not, ◌++◌, Option, Some, None, option_map, refl, sym, ap, ap₂, ◌∙◌}
use Rattle.cpc_base.specs.declared.stop.Place.{Place}
use Rattle.cpc_num.specs.declared.kinds.Op.{Op}
use Rattle.cpc_num.specs.declared.kinds.Kind.TheVariants.{Int}
use Rattle.cpc_tree.specs.Syntax.{Ty, TyInt, EBinary}
use Rattle.cpc_tree.specs.Typing.{Meant, ALocal, AGlobal, AFunction, NotMeant, Typed, AValue, APlace}
use Rattle.cpc_tree.specs.Located.{Ident, LExpr, LExprs, LStmt, Block, Empty, Declare, Assign, Call, Detach, Spawn, If, While, DoWhile, For, Goto, Label, Break, Continue, Return, LStmts, NoLStmt, AndLStmt, MaybeLStmt, NoneLStmt, SomeLStmt, bare_expr, bare_stmt, bare_stmts, bare_maybe}
use Rattle.cpc_check_rules.specs.declared.rule.Rule.TheVariants.{Twice, Disagree, NoPlace, CpsInNative, Incomplete, BadReturn, NotClosed, CpsForm}
use Rattle.cpc_check_rules.specs.Scopes.{meant, typed, with_name, is_sized, is_here}
use Rattle.cpc_check_rules.specs.Operators.{Where, typed_at, first, is_detached, is_cps}
use Rattle.cpc_check_rules.specs.Calls.{Callee, NoCallee, Takes, callee, section_callee, spawn_callee, is_event, wanted, result}
use Rattle.cpc_check_rules.specs.ExprRules.{call_breaks}
use Rattle.cpc_check_rules.specs.StmtRules.{in_scope, inner, variable, behind, all_behind, place_breaks, target_breaks, type_of, fits_breaks, result_breaks, assign_breaks, given_breaks, to_breaks, tested_breaks, test_breaks, maybe_test, start_breaks, local_breaks, wrong_name, started_breaks, spawn_breaks, section_breaks, is_void, unfit_return, return_breaks, stmt_breaks, stmts_breaks, maybe_breaks}
use Rattle.cpc_check_laws.specs.Native.Rows.{rules_of}
use Rattle.cpc_check_laws.proofs.Native.OnePlace.{here, ident_here, expr_here, stmt_here, stmts_here, maybe_here, expr_again}
use Rattle.cpc_check_laws.proofs.Native.PlacesValues.{moved, all_moved, both_same, same_if, typed_same, takes_same, binary_same, callee_same, number_same, expr_same, args_same, call_same}

abbrev pub moved_ident : Ident → Ident
moved_ident x = ident_here x.text

abbrev pub moved_option : Option LExpr → Option LExpr
moved_option o = option_map expr_here (option_map bare_expr o)

abbrev pub moved_stmt : LStmt → LStmt
moved_stmt s = stmt_here (bare_stmt s)

abbrev pub moved_stmts : LStmts → LStmts
moved_stmts ss = stmts_here (bare_stmts ss)

abbrev pub moved_maybe : MaybeLStmt → MaybeLStmt
moved_maybe s = maybe_here (bare_maybe s)

-- ---- what is written to

place_same : (o p : Option Typed) (q r : Place) → o ≡ p → rules_of (place_breaks o q) ≡ rules_of (place_breaks p r)
place_same o p q r e = go o ∙ ap (λ o. rules_of (place_breaks o r)) e
  where
    go : (o : Option Typed) → rules_of (place_breaks o q) ≡ rules_of (place_breaks o r)
    go None = refl
    go (Some d) = same_if _ _ q r NoPlace refl

target_same : (w : Where) (v : LExpr) → rules_of (target_breaks w v) ≡ rules_of (target_breaks w (moved v))
target_same w v = both_same _ _ _ _ (expr_same w v) (place_same _ _ (first v) (first (moved v)) (typed_same w v))

fits_at : (a b : Option Typed) (e : LExpr) (q r : Place) → rules_of (fits_breaks a e b q) ≡ rules_of (fits_breaks a (moved e) b r)
fits_at None b e q r = refl
fits_at (Some p) None e q r = refl
fits_at (Some p) (Some d) e q r = same_if _ _ q r Disagree (ap not (takes_same (type_of p) e d))

fits_same : (w : Where) (a c : Option Typed) (e : LExpr) (q r : Place) → a ≡ c → rules_of (fits_breaks a e (typed_at w e) q) ≡ rules_of (fits_breaks c (moved e) (typed_at w (moved e)) r)
fits_same w a c e q r h = fits_at a (typed_at w e) e q r ∙ ap₂ (λ a b. rules_of (fits_breaks a (moved e) b r)) h (typed_same w e)

result_at : (a b : Option Typed) (q r : Place) → rules_of (result_breaks a b q) ≡ rules_of (result_breaks a b r)
result_at None b q r = refl
result_at (Some p) None q r = refl
result_at (Some p) (Some (APlace t)) q r = refl
result_at (Some p) (Some (AValue t)) q r = same_if _ _ q r Disagree refl

result_same : (a b c d : Option Typed) (q r : Place) → a ≡ c → b ≡ d → rules_of (result_breaks a b q) ≡ rules_of (result_breaks c d r)
result_same a b c d q r h k = result_at a b q r ∙ ap₂ (λ a b. rules_of (result_breaks a b r)) h k

operator_same : (w : Where) (op : Op) (v e : LExpr) → typed w.scope (EBinary op (bare_expr v) (bare_expr e)) ≡ typed w.scope (EBinary op (bare_expr (moved v)) (bare_expr (moved e)))
operator_same w op v e = ap (typed w.scope) (sym (expr_again (EBinary op (bare_expr v) (bare_expr e))))

assign_same : (w : Where) (q r : Place) (v : LExpr) (op : Option Op) (e : LExpr) → rules_of (assign_breaks w q v op e) ≡ rules_of (assign_breaks w r (moved v) op (moved e))
assign_same w q r v None e = fits_same w _ _ e q r (typed_same w v)
assign_same w q r v (Some op) e = both_same _ _ _ _ (binary_same w.scope op _ _ _ _ _ _ q r (typed_same w v) (typed_same w e) (operator_same w op v e))
    (result_same _ _ _ _ q r (typed_same w v) (operator_same w op v e))

given_at : (a : Option Typed) (t : Option Ty) (q r : Place) → rules_of (given_breaks a t q) ≡ rules_of (given_breaks a t r)
given_at None t q r = refl
given_at (Some p) None q r = refl
given_at (Some p) (Some t) q r = same_if _ _ q r Disagree refl

to_at : (w : Where) (to : Option LExpr) (q r : Place) (t : Option Ty) → rules_of (to_breaks w to q t) ≡ rules_of (to_breaks w (moved_option to) r t)
to_at w None q r t = refl
to_at w (Some v) q r t = both_same _ _ _ _ (target_same w v) (given_at (typed_at w v) t q r ∙ ap (λ a. rules_of (given_breaks a t r)) (typed_same w v))

to_same : (w : Where) (to : Option LExpr) (q r : Place) (t u : Option Ty) → t ≡ u → rules_of (to_breaks w to q t) ≡ rules_of (to_breaks w (moved_option to) r u)
to_same w to q r t u h = to_at w to q r t ∙ ap (λ t. rules_of (to_breaks w (moved_option to) r t)) h

-- ---- tests, starts and returns

tested_same : (o p : Option Typed) (q r : Place) → o ≡ p → rules_of (tested_breaks o q) ≡ rules_of (tested_breaks p r)
tested_same o p q r e = go o ∙ ap (λ o. rules_of (tested_breaks o r)) e
  where
    go : (o : Option Typed) → rules_of (tested_breaks o q) ≡ rules_of (tested_breaks o r)
    go None = refl
    go (Some d) = same_if _ _ q r Disagree refl

test_same : (w : Where) (e : LExpr) → rules_of (test_breaks w e) ≡ rules_of (test_breaks w (moved e))
test_same w e = both_same _ _ _ _ (expr_same w e) (tested_same _ _ (first e) (first (moved e)) (typed_same w e))

maybe_test_same : (w : Where) (o : Option LExpr) → rules_of (maybe_test w o) ≡ rules_of (maybe_test w (moved_option o))
maybe_test_same w None = refl
maybe_test_same w (Some e) = test_same w e

pub start_same : (w : Where) (x : Ident) (t : Ty) (start : Option LExpr) → rules_of (start_breaks w x t start) ≡ rules_of (start_breaks w (moved_ident x) t (moved_option start))
start_same w x t None = refl
start_same w x t (Some e) = both_same _ _ _ _ (expr_same w e) (fits_same w (Some (APlace t)) (Some (APlace t)) e x.place here refl)

local_same : (w : Where) (x : Ident) (t : Ty) (start : Option LExpr) → rules_of (local_breaks w x t start) ≡ rules_of (local_breaks w (moved_ident x) t (moved_option start))
local_same w x t start = both_same _ _ _ _ (same_if (is_here w.scope.blocks x.text) _ x.place here Twice refl)
    (both_same _ _ _ _ (same_if (not (is_sized w.scope t)) _ x.place here Incomplete refl) (start_same (in_scope w (with_name w.scope (variable x t))) x t start))

unfit_same : (w : Where) (e : LExpr) → unfit_return w e (typed_at w e) ≡ unfit_return w (moved e) (typed_at w (moved e))
unfit_same w e = go (typed_at w e) ∙ ap (unfit_return w (moved e)) (typed_same w e)
  where
    go : (o : Option Typed) → unfit_return w e o ≡ unfit_return w (moved e) o
    go None = refl
    go (Some d) = ap (λ b. is_void w.result || not b) (takes_same w.result e d)

return_same : (w : Where) (q r : Place) (o : Option LExpr) → rules_of (return_breaks w q o) ≡ rules_of (return_breaks w r (moved_option o))
return_same w q r None = same_if _ _ q r BadReturn refl
return_same w q r (Some e) = both_same _ _ _ _ (expr_same w e) (same_if _ _ q r BadReturn (unfit_same w e))

-- ---- calls, sections and spawns

wrong_same : (m : Meant) (c : Callee) (q r : Place) → rules_of (wrong_name m c q) ≡ rules_of (wrong_name m c r)
wrong_same NotMeant c q r = refl
wrong_same (ALocal n t) NoCallee q r = refl
wrong_same (ALocal n t) (Takes ws u) q r = refl
wrong_same (AGlobal n t) NoCallee q r = refl
wrong_same (AGlobal n t) (Takes ws u) q r = refl
wrong_same (AFunction mode t ps) NoCallee q r = refl
wrong_same (AFunction mode t ps) (Takes ws u) q r = refl

started_same : (w : Where) (f : Ident) (c : Callee) (es : LExprs) → rules_of (started_breaks w f c es) ≡ rules_of (started_breaks w (moved_ident f) c (all_moved es))
started_same w f c es = both_same _ _ _ _ (wrong_same (meant w.scope f.text) c f.place here) (both_same _ _ _ _ (number_same c c es f.place here refl) (args_same w (wanted c) es))

spawn_same : (w : Where) (q r : Place) (f : Ident) (es : LExprs) → rules_of (spawn_breaks w q f es) ≡ rules_of (spawn_breaks w r (moved_ident f) (all_moved es))
spawn_same w q r f es = both_same _ _ _ _ (same_if (is_event w.dialect) _ q r CpsForm refl)
    (both_same _ _ _ _ (same_if (is_detached w.mode) _ f.place here NotClosed refl) (started_same w f (spawn_callee (meant w.scope f.text)) es))

section_breaks_same : (w : Where) (q r : Place) (f : Ident) (es : LExprs) → rules_of (section_breaks w q f es) ≡ rules_of (section_breaks w r (moved_ident f) (all_moved es))
section_breaks_same w q r f es = both_same _ _ _ _ (same_if (not (is_cps w.mode)) _ q r CpsInNative refl)
    (both_same _ _ _ _ (same_if (is_event w.dialect) _ q r CpsForm refl) (started_same w f (section_callee w.scope (meant w.scope f.text)) es))

call_stmt : (w : Where) (q r : Place) (to : Option LExpr) (f : LExpr) (es : LExprs) → rules_of (to_breaks w to q (result (callee w f es)) ++ call_breaks w f es)
    ≡ rules_of (to_breaks w (moved_option to) r (result (callee w (moved f) (all_moved es))) ++ call_breaks w (moved f) (all_moved es))
call_stmt w q r to f es = both_same _ _ _ _ (to_same w to q r _ _ (ap result (callee_same w f es))) (call_same w f es)

-- ---- statements

behind_same : (w : Where) (s : LStmt) → behind w s ≡ behind w (moved_stmt s)
behind_same w (Declare q x t start) = refl
behind_same w (Block q ss) = refl
behind_same w (Empty q) = refl
behind_same w (Assign q o v op e) = refl
behind_same w (Call q o to f es) = refl
behind_same w (Detach q o k to f es) = refl
behind_same w (Spawn q f es) = refl
behind_same w (If q c a b) = refl
behind_same w (While q c a) = refl
behind_same w (DoWhile q a c) = refl
behind_same w (For q ss c a b) = refl
behind_same w (Goto q x) = refl
behind_same w (Label x a) = refl
behind_same w (Break q) = refl
behind_same w (Continue q) = refl
behind_same w (Return q e) = refl

all_behind_same : (w : Where) (ss : LStmts) → all_behind w ss ≡ all_behind w (moved_stmts ss)
all_behind_same w NoLStmt = refl
all_behind_same w (AndLStmt s ss) = all_behind_same (behind w s) ss ∙ ap (λ w. all_behind w (moved_stmts ss)) (behind_same w s)

mutual
  pub stmt_same : (w : Where) (s : LStmt) → rules_of (stmt_breaks w s) ≡ rules_of (stmt_breaks w (moved_stmt s))
  stmt_same w (Block q ss) = stmts_same (inner w) ss
  stmt_same w (Empty q) = refl
  stmt_same w (Declare q x t start) = local_same w x t start
  stmt_same w (Assign q o v op e) = both_same _ _ _ _ (target_same w v) (both_same _ _ _ _ (expr_same w e) (assign_same w o here v op e))
  stmt_same w (Call q o to f es) = call_stmt w o here to f es
  stmt_same w (Detach q o k to f es) = both_same _ _ _ _ (to_same w to o here (Some (TyInt Int)) _ refl) (section_breaks_same w k here f es)
  stmt_same w (Spawn q f es) = spawn_same w q here f es
  stmt_same w (If q c a b) = both_same _ _ _ _ (test_same w c) (both_same _ _ _ _ (stmt_same w a) (maybe_same w b))
  stmt_same w (While q c a) = both_same _ _ _ _ (test_same w c) (stmt_same w a)
  stmt_same w (DoWhile q a c) = both_same _ _ _ _ (stmt_same w a) (test_same w c)
  stmt_same w (For q ss c b a) =
      let v = all_behind (inner w) ss in
      both_same _ _ _ _ (stmts_same (inner w) ss) (both_same _ _ _ _ (maybe_test_same v c) (both_same _ _ _ _ (maybe_same v b) (stmt_same v a)))
      ∙ ap (λ v. rules_of (stmts_breaks (inner w) (moved_stmts ss) ++ (maybe_test v (moved_option c) ++ (maybe_breaks v (moved_maybe b) ++ stmt_breaks v (moved_stmt a))))) (all_behind_same (inner w) ss)
  stmt_same w (Goto q x) = refl
  stmt_same w (Label x a) = stmt_same w a
  stmt_same w (Break q) = refl
  stmt_same w (Continue q) = refl
  stmt_same w (Return q e) = return_same w q here e

  pub stmts_same : (w : Where) (ss : LStmts) → rules_of (stmts_breaks w ss) ≡ rules_of (stmts_breaks w (moved_stmts ss))
  stmts_same w NoLStmt = refl
  stmts_same w (AndLStmt s ss) = both_same _ _ _ _ (stmt_same w s) (stmts_same (behind w s) ss)
      ∙ ap (λ v. rules_of (stmt_breaks w (moved_stmt s) ++ stmts_breaks v (moved_stmts ss))) (behind_same w s)

  pub maybe_same : (w : Where) (s : MaybeLStmt) → rules_of (maybe_breaks w s) ≡ rules_of (maybe_breaks w (moved_maybe s))
  maybe_same w NoneLStmt = refl
  maybe_same w (SomeLStmt s) = stmt_same w s
