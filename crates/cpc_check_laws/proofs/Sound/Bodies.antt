-- A statement that breaks no rule is well typed, and the variables that it declares have sizes.
use Rattle.std.proofs.Common.{◌≡◌, not, ℕ, ◌+◌, Bool, true, false, cond, List, [], ◌∷◌, ◌++◌, map, length, Option, Some, None, bytes_eq, refl, sym, ◌∙◌, ap, subst}
use Rattle.std.specs.Prelude.{option_map, is_some}
use Rattle.cpc_base.specs.Bytes.{Text}
use Rattle.cpc_base.specs.declared.stop.Place.{Place}
use Rattle.cpc_base.specs.declared.stop.Dialect.{Dialect}
use Rattle.cpc_base.specs.declared.stop.Dialect.TheVariants as D
use Rattle.cpc_base.proofs.Truth.{by_false_true, not_fails, or_neither}
use Rattle.cpc_base.proofs.Lists.{some_is}
use Rattle.cpc_num.specs.declared.kinds.Op.{Op}
use Rattle.cpc_num.specs.declared.kinds.Kind.TheVariants.{Int}
use Rattle.cpc_tree.specs.declared.program.Mode.{Mode}
use Rattle.cpc_tree.specs.declared.program.Mode.TheVariants.{Extern, Native, Cps, Detached}
use Rattle.cpc_tree.specs.Syntax.{Ty, TyVoid, TyInt, TyCondvar, TyPointer, TyCode, TyStruct, TyArray, Expr, ENamed, EBinary, Exprs, Variable, Function, Program}
use Rattle.cpc_tree.specs.Syntax as S
use Rattle.cpc_tree.specs.Located.{Ident, LExpr, LExprs, LStmt, Block, Empty, Declare, Assign, Call, Detach, Spawn, If, While, DoWhile, For, Goto, Label, Break, Continue, Return, LStmts, NoLStmt, AndLStmt, MaybeLStmt, NoneLStmt, SomeLStmt, bare_expr, bare_exprs, bare_stmt, bare_stmts, bare_maybe}
use Rattle.cpc_tree.specs.Typing.{Scope, Meant, ALocal, AFunction, Typed, AValue, APlace, type_named, named, typing, typing_of, used, size, is_null, binary_type, function_named, parameter_types}
use Rattle.cpc_tree.specs.Points.{extended, extended_all, declared, locals, locals_in, locals_arm}
use Rattle.cpc_tree.proofs.Options.{then_some}
use Rattle.cpc_check_rules.specs.declared.rule.Rule.TheVariants.{Disagree, NoPlace, Twice, Incomplete, BadReturn, CpsInNative, CpsForm, NotClosed}
use Rattle.cpc_check_rules.specs.Rule.{at_if}
use Rattle.cpc_check_rules.specs.Scopes as R
use Rattle.cpc_check_rules.specs.Scopes.{meant, typed, takes_value, takes_typed, with_name, with_block, is_sized, has_cells, is_here}
use Rattle.cpc_check_rules.specs.Operators.{Where, typed_at, first, is_detached, is_cps, binary_breaks}
use Rattle.cpc_check_rules.specs.Calls.{Of, Callee, Takes, NoCallee, is_callee, callee, section_callee, spawn_callee, is_event, wanted, result, number_breaks}
use Rattle.cpc_check_rules.specs.ExprRules.{expr_breaks, args_breaks}
use Rattle.cpc_check_rules.specs.StmtRules.{in_scope, inner, variable, behind, all_behind, is_writable, place_breaks, target_breaks, fits_breaks, result_breaks, assign_breaks, given_breaks, to_breaks, is_tested, tested_breaks, test_breaks, maybe_test, local_breaks, wrong_name, started_breaks, spawn_breaks, section_breaks, is_void, unfit_return, return_breaks, stmt_breaks, stmts_breaks, maybe_breaks}
use Rattle.cpc_check_rules.proofs.Scopes.{meant_last, meant_before}
use Rattle.cpc_meaning.specs.Act.{right_side}
use Rattle.cpc_meaning.proofs.Functions.{text_same}
use Rattle.cpc_check_laws.specs.Sound.Typed.{Gets, IsTest, IsTestIf, Assigns, Delivers, AllGet, Detaches, IsOpen, IsTyped, StepTyped, BodyTyped, AllTyped, ArmTyped, AllSized}
use Rattle.cpc_check_laws.proofs.Sound.Unbroken.{split, holds_then, binary_some, writable_is, tested_type_is, right_name, spawn_meant, section_meant, typed_of}
use Rattle.cpc_check_laws.proofs.Sound.Agreement.{Matches, Grows, sizes_grow, Facts, At, item_of, takes_converts, typed_here, gets_here, args_here, detaches_here}
use Rattle.cpc_check_laws.proofs.Sound.Callees.{number_here, call_here}
use Rattle.cpc_check_laws.proofs.Sound.Shapes.{StepWritten, Written, AllWritten, MaybeWritten, all_first_written}
use Rattle.cpc_check_laws.proofs.Native.NativeValues.{unbroken}

-- ---- names

pub size_of : (s : R.Scope) (t : Ty) → is_sized s t ≡ true → (n : ℕ) × (size s.items t ≡ Some n)
size_of s t e = go (size s.items t) refl e
  where
    go : (o : Option ℕ) → size s.items t ≡ o → has_cells o ≡ true → (n : ℕ) × (size s.items t ≡ Some n)
    go None f e = by_false_true e
    go (Some n) f e = (n, f)

binary_value : (names : Text → Meant) (p : Program) (op : Op) (a b : Expr) (d : Typed) → typing_of names p (EBinary op a b) ≡ Some d → (r : Ty) × (d ≡ AValue r)
binary_value names p op a b d h =
    let k = then_some (typing_of names p a) _ d h in
    let l = then_some (used k.0) _ d k.2 in
    let m = then_some (typing_of names p b) _ d l.2 in
    let n = then_some (used m.0) _ d m.2 in
    let r = then_some (binary_type p op (is_null a) (is_null b) l.0 n.0) _ d n.2 in
    (r.0, sym (some_is (AValue r.0) d r.2))

module _ (d : Dialect) (p : Program) (facts : Facts p) (f : Function) where
  -- with one more name
  pub at_name : (w : Where) (scope : Scope) (n : ℕ) (v : Variable) → At d p f w scope → At d p f (in_scope w (with_name w.scope v)) (record { called = v.called; type = v.type; slot = n } ∷ scope)
  at_name w scope n v at = record { names = names; grows = at.grows; mode = at.mode; result = at.result; dialect = at.dialect }
    where
      go : (x : Text) (b : Bool) → bytes_eq v.called x ≡ b → Matches x (meant (with_name w.scope v) x) (cond b (ALocal n v.type) (named p scope x))
      go x true e = subst (λ m. Matches x m (ALocal n v.type)) (sym (meant_last w.scope.items w.scope.blocks v x e)) (n, refl)
      go x false e = subst (λ m. Matches x m (named p scope x)) (sym (meant_before w.scope.items w.scope.blocks v x e)) (at.names x)

      names : (x : Text) → Matches x (meant (with_name w.scope v) x) (named p (record { called = v.called; type = v.type; slot = n } ∷ scope) x)
      names x = go x (bytes_eq v.called x) refl

  at_inner : (w : Where) (scope : Scope) → At d p f w scope → At d p f (inner w) scope
  at_inner w scope at = record { names = at.names; grows = at.grows; mode = at.mode; result = at.result; dialect = at.dialect }

  at_behind : (w : Where) (scope : Scope) (n : ℕ) (s : LStmt) → At d p f w scope → At d p f (behind w s) (extended scope n (bare_stmt s))
  at_behind w scope n (Declare q x t start) at = at_name w scope n (variable x t) at
  at_behind w scope n (Block q ss) at = at
  at_behind w scope n (Empty q) at = at
  at_behind w scope n (Assign q o v op e) at = at
  at_behind w scope n (Call q o to g es) at = at
  at_behind w scope n (Detach q o k to g es) at = at
  at_behind w scope n (Spawn q g es) at = at
  at_behind w scope n (If q c s r) at = at
  at_behind w scope n (While q c s) at = at
  at_behind w scope n (DoWhile q s c) at = at
  at_behind w scope n (For q ss c r s) at = at
  at_behind w scope n (Goto q x) at = at
  at_behind w scope n (Label x s) at = at
  at_behind w scope n (Break q) at = at
  at_behind w scope n (Continue q) at = at
  at_behind w scope n (Return q e) at = at

  at_all_behind : (w : Where) (scope : Scope) (n : ℕ) (ss : LStmts) → At d p f w scope → At d p f (all_behind w ss) (extended_all scope n (bare_stmts ss))
  at_all_behind w scope n NoLStmt at = at
  at_all_behind w scope n (AndLStmt s ss) at = at_all_behind (behind w s) (extended scope n (bare_stmt s)) (n + declared (bare_stmt s)) ss (at_behind w scope n s at)

  -- ---- single statements

  module _ (w : Where) (scope : Scope) (at : At d p f w scope) where
    fits_here : (t : Ty) (e : LExpr) (q : Place) → expr_breaks w e ≡ [] → fits_breaks (Some (APlace t)) e (typed_at w e) q ≡ [] → Gets p scope t (bare_expr e)
    fits_here t e q h k =
        let c = typed_of w e h in
        gets_here d p facts f w scope at t e c.0 c.1 (holds_then (takes_typed t (bare_expr e) c.0) q Disagree (subst (λ o. fits_breaks (Some (APlace t)) e o q ≡ []) c.1 k))

    target_here : (v : LExpr) → target_breaks w v ≡ [] → (t : Ty) × (typed_at w v ≡ Some (APlace t))
    target_here v h =
        let k = split (expr_breaks w v) (place_breaks (typed_at w v) (first v)) h in
        let c = typed_of w v k.0 in
        let t = writable_is c.0 (holds_then (is_writable c.0) (first v) NoPlace (subst (λ o. place_breaks o (first v) ≡ []) c.1 k.1)) in
        (t.0, c.1 ∙ ap (λ d. Some d) t.1)

    place_here : (v : LExpr) (t : Ty) → typed_at w v ≡ Some (APlace t) → typing p scope (bare_expr v) ≡ Some (APlace t)
    place_here v t h = typed_here d p facts f w scope at (bare_expr v) (APlace t) h

    assign_here : (o : Place) (v : LExpr) (op : Option Op) (e : LExpr) → target_breaks w v ≡ [] → expr_breaks w e ≡ [] → assign_breaks w o v op e ≡ [] → Assigns p scope (bare_expr v) (right_side op (bare_expr v) (bare_expr e))
    assign_here o v None e hv he h =
        let t = target_here v hv in
        record { type = t.0; is_place = place_here v t.0 t.1; gets = fits_here t.0 e o he (subst (λ c. fits_breaks c e (typed_at w e) o ≡ []) t.1 h) }
    assign_here o v (Some op) e hv he h =
        let t = target_here v hv in
        let c = typed_of w e he in
        let whole = typed w.scope (EBinary op (bare_expr v) (bare_expr e)) in
        let k = split (binary_breaks w.scope op (typed_at w v) (typed_at w e) whole o) (result_breaks (typed_at w v) whole o) h in
        let b = binary_some w.scope op (typed_at w v) (typed_at w e) whole o k.0 (ap is_some t.1) (ap is_some c.1) in
        let r = binary_value (meant w.scope) w.scope.items op (bare_expr v) (bare_expr e) b.0 b.1 in
        let is_r : whole ≡ Some (AValue r.0) = b.1 ∙ ap (λ d. Some d) r.1 in
        let l : result_breaks (Some (APlace t.0)) (Some (AValue r.0)) o ≡ [] = subst (λ c. result_breaks c (Some (AValue r.0)) o ≡ []) t.1 (subst (λ c. result_breaks (typed_at w v) c o ≡ []) is_r k.1) in
        record {
          type = t.0;
          is_place = place_here v t.0 t.1;
          gets = record {
            typed = AValue r.0;
            type = r.0;
            is_typed = typed_here d p facts f w scope at (EBinary op (bare_expr v) (bare_expr e)) (AValue r.0) is_r;
            is_type = refl;
            converts = takes_converts t.0 r.0 false (holds_then (takes_value t.0 false r.0) o Disagree l) (λ e. by_false_true e);
          };
        }

    deliver_here : (to : Option LExpr) (o : Place) (u : Option Ty) (r : Ty) → u ≡ Some r → to_breaks w to o u ≡ [] → Delivers p scope r (option_map bare_expr to)
    deliver_here None o u r e h = tt
    deliver_here (Some v) o u r e h =
        let k = split (target_breaks w v) (given_breaks (typed_at w v) u o) h in
        let t = target_here v k.0 in
        let l : given_breaks (Some (APlace t.0)) (Some r) o ≡ [] = subst (λ c. given_breaks c (Some r) o ≡ []) t.1 (subst (λ u. given_breaks (typed_at w v) u o ≡ []) e k.1) in
        (t.0, place_here v t.0 t.1, takes_converts t.0 r false (holds_then (takes_value t.0 false r) o Disagree l) (λ e. by_false_true e))

    test_here : (e : LExpr) → test_breaks w e ≡ [] → IsTest p scope (bare_expr e)
    test_here e h =
        let k = split (expr_breaks w e) (tested_breaks (typed_at w e) (first e)) h in
        let c = typed_of w e k.0 in
        let t = tested_type_is (used c.0) (holds_then (is_tested (used c.0)) (first e) Disagree (subst (λ o. tested_breaks o (first e) ≡ []) c.1 k.1)) in
        record { typed = c.0; type = t.0; is_typed = typed_here d p facts f w scope at (bare_expr e) c.0 c.1; is_type = t.1; testable = t.2 }

    maybe_test_here : (o : Option LExpr) → maybe_test w o ≡ [] → IsTestIf p scope (option_map bare_expr o)
    maybe_test_here None h = tt
    maybe_test_here (Some e) h = test_here e h

    cpc_is : (e : Dialect) → is_event e ≡ false → e ≡ D.Cpc
    cpc_is D.Cpc h = refl
    cpc_is D.Event h = by_false_true (sym h)

    cps_is : (m : Mode) → is_cps m ≡ true → is_detached m ≡ false
    cps_is Cps h = refl
    cps_is Native h = by_false_true h
    cps_is Extern h = by_false_true h
    cps_is Detached h = by_false_true h

    -- what is started by its name with arguments
    started_here : (x : Ident) (c : Callee) (es : LExprs) → started_breaks w x c es ≡ [] → (is_callee c ≡ true) × ((ps : List Ty) (r : Ty) → c ≡ Takes (map (λ t. Of t) ps) r → AllGet p scope ps (bare_exprs es))
    started_here x c es h =
        let k = split (wrong_name (meant w.scope x.text) c x.place) _ h in
        let l = split (number_breaks c es x.place) (args_breaks w (wanted c) es) k.1 in (
          right_name (meant w.scope x.text) c x.place k.0,
          λ ps r e. args_here d p facts f w scope at ps es (number_here d p facts f w scope at c (map (λ t. Of t) ps) r es x.place e l.0) (subst (λ c. args_breaks w (wanted c) es ≡ []) e l.1),
        )

    section_here : (k : Place) (x : Ident) (es : LExprs) → section_breaks w k x es ≡ [] → IsOpen d f.mode × Detaches p scope x.text (bare_exprs es) × (is_cps f.mode ≡ true)
    section_here k x es h =
        let h1 = split (at_if (not (is_cps w.mode)) k CpsInNative) _ h in
        let h2 = split (at_if (is_event w.dialect) k CpsForm) _ h1.1 in
        let s = started_here x (section_callee w.scope (meant w.scope x.text)) es h2.1 in
        let m = section_meant w.scope (meant w.scope x.text) s.0 in
        let e : section_callee w.scope (meant w.scope x.text) ≡ Takes (map (λ t. Of t) m.0) (TyInt Int) = ap (section_callee w.scope) m.1 ∙ ap (λ b. cond b (Takes (map (λ t. Of t) m.0) (TyInt Int)) NoCallee) m.2 in (
          record { dialect = sym at.dialect ∙ cpc_is w.dialect (unbroken (is_event w.dialect) k CpsForm h2.0); not_detached = ap is_detached (sym at.mode) ∙ cps_is w.mode (holds_then (is_cps w.mode) k CpsInNative h1.0) },
          detaches_here d p facts f w scope at x.text m.0 es m.1 m.2 (s.1 m.0 (TyInt Int) e),
          ap is_cps (sym at.mode) ∙ holds_then (is_cps w.mode) k CpsInNative h1.0,
        )

    spawn_here : (q : Place) (x : Ident) (es : LExprs) → spawn_breaks w q x es ≡ [] → IsOpen d f.mode × ((h : Function) × (function_named p x.text ≡ Some h) × AllGet p scope (parameter_types h) (bare_exprs es) × (is_cps h.mode ≡ true))
    spawn_here q x es h =
        let h1 = split (at_if (is_event w.dialect) q CpsForm) _ h in
        let h2 = split (at_if (is_detached w.mode) x.place NotClosed) _ h1.1 in
        let s = started_here x (spawn_callee (meant w.scope x.text)) es h2.1 in
        let m = spawn_meant (meant w.scope x.text) s.0 in
        let is_m : named p scope x.text ≡ AFunction Cps m.0 m.1 = subst (λ m. Matches x.text m (named p scope x.text)) m.2 (at.names x.text) in
        let g = facts.function x.text Cps m.0 m.1 (item_of p scope x.text Cps m.0 m.1 is_m) refl in (
          record { dialect = sym at.dialect ∙ cpc_is w.dialect (unbroken (is_event w.dialect) q CpsForm h1.0); not_detached = ap is_detached (sym at.mode) ∙ unbroken (is_detached w.mode) x.place NotClosed h2.0 },
          (g.0, g.1, subst (λ us. AllGet p scope us (bare_exprs es)) (sym g.4) (s.1 m.1 m.0 (ap spawn_callee m.2)), ap is_cps g.2),
        )

    return_here : (q : Place) (e : LExpr) → return_breaks w q (Some e) ≡ [] → Gets p scope f.result (bare_expr e)
    return_here q e h =
        let k = split (expr_breaks w e) (at_if (unfit_return w e (typed_at w e)) q BadReturn) h in
        let c = typed_of w e k.0 in
        let u : unfit_return w e (Some c.0) ≡ false = ap (unfit_return w e) (sym c.1) ∙ unbroken (unfit_return w e (typed_at w e)) q BadReturn k.1 in
        let v = or_neither (is_void w.result) (not (takes_typed w.result (bare_expr e) c.0)) u in
        subst (λ t. Gets p scope t (bare_expr e)) at.result (gets_here d p facts f w scope at w.result e c.0 c.1 (not_fails (takes_typed w.result (bare_expr e) c.0) v.1))

  -- ---- declarations

  declare_here : (w : Where) (scope : Scope) (n : ℕ) (at : At d p f w scope) (q : Place) (x : Ident) (t : Ty) (start : Option LExpr) → local_breaks w x t start ≡ []
      → IsTyped d p f (extended scope n (S.Declare x.text t (option_map bare_expr start))) (S.Declare x.text t (option_map bare_expr start))
  declare_here w scope n at q x t None h = tt
  declare_here w scope n at q x t (Some e) h =
      let h1 = split (at_if (is_here w.scope.blocks x.text) x.place Twice) _ h in
      let h2 = split (at_if (not (is_sized w.scope t)) x.place Incomplete) _ h1.1 in
      let w2 = in_scope w (with_name w.scope (variable x t)) in
      let scope2 : Scope = record { called = x.text; type = t; slot = n } ∷ scope in
      let at2 = at_name w scope n (variable x t) at in
      let k = split (expr_breaks w2 e) (fits_breaks (Some (APlace t)) e (typed_at w2 e) x.place) h2.1 in
      record { type = t; is_place = ap (λ b. type_named (cond b (ALocal n t) (named p scope x.text))) (text_same x.text); gets = fits_here w2 scope2 at2 t e x.place k.0 k.1 }

  step_here : (w : Where) (scope : Scope) (at : At d p f w scope) (r : MaybeLStmt) → StepWritten r → maybe_breaks w r ≡ [] → StepTyped d p f scope (bare_maybe r)
  step_here w scope at NoneLStmt s h = tt
  step_here w scope at (SomeLStmt (Assign q o v op e)) s h =
      let k = split (target_breaks w v) _ h in
      let l = split (expr_breaks w e) _ k.1 in
      assign_here w scope at o v op e k.0 l.0 l.1
  step_here w scope at (SomeLStmt (Call q o to g es)) s h =
      let k = split (to_breaks w to o (result (callee w g es))) _ h in
      let c = call_here d p facts f w scope at g es k.1 in
      (c.0, c.2, deliver_here w scope at to o (result (callee w g es)) c.0 c.1 k.0)
  step_here w scope at (SomeLStmt (Detach q o k to x es)) s h =
      let l = split (to_breaks w to o (Some (TyInt Int))) _ h in
      let c = section_here w scope at k x es l.1 in
      (c.0, c.1, deliver_here w scope at to o (Some (TyInt Int)) (TyInt Int) refl l.0, c.2)
  step_here w scope at (SomeLStmt _) s h = absurd s

  mutual
    pub stmt_here : (w : Where) (scope : Scope) (n : ℕ) → At d p f w scope → (s : LStmt) → Written s → stmt_breaks w s ≡ [] → BodyTyped d p f scope n (bare_stmt s)
    stmt_here w scope n at (Block q ss) s h = stmts_here (inner w) scope n (at_inner w scope at) ss s h
    stmt_here w scope n at (Empty q) s h = tt
    stmt_here w scope n at (Declare q x t start) s h = declare_here w scope n at q x t start h
    stmt_here w scope n at (Assign q o v op e) s h = step_here w scope at (SomeLStmt (Assign q o v op e)) tt h
    stmt_here w scope n at (Call q o to g es) s h = step_here w scope at (SomeLStmt (Call q o to g es)) tt h
    stmt_here w scope n at (Detach q o k to x es) s h = step_here w scope at (SomeLStmt (Detach q o k to x es)) tt h
    stmt_here w scope n at (Spawn q x es) s h = spawn_here w scope at q x es h
    stmt_here w scope n at (If q c a r) s h =
        let k = split (test_breaks w c) _ h in
        let l = split (stmt_breaks w a) (maybe_breaks w r) k.1 in
        (test_here w scope at c k.0, stmt_here w scope n at a s.0 l.0, maybe_here w scope (n + declared (bare_stmt a)) at r s.1 l.1)
    stmt_here w scope n at (While q c a) s h =
        let k = split (test_breaks w c) (stmt_breaks w a) h in
        (test_here w scope at c k.0, stmt_here w scope n at a s k.1)
    stmt_here w scope n at (DoWhile q a c) s h =
        let k = split (stmt_breaks w a) (test_breaks w c) h in
        (stmt_here w scope n at a s k.0, test_here w scope at c k.1)
    stmt_here w scope n at (For q ss c r a) s h =
        let k = split (stmts_breaks (inner w) ss) _ h in
        let w2 = all_behind (inner w) ss in
        let scope2 = extended_all scope n (bare_stmts ss) in
        let at2 = at_all_behind (inner w) scope n ss (at_inner w scope at) in
        let l = split (maybe_test w2 c) _ k.1 in
        let m = split (maybe_breaks w2 r) (stmt_breaks w2 a) l.1 in (
          stmts_here (inner w) scope n (at_inner w scope at) ss (all_first_written ss s.0) k.0,
          maybe_test_here w2 scope2 at2 c l.0,
          step_here w2 scope2 at2 r s.1 m.0,
          stmt_here w2 scope2 (n + length (locals_in (bare_stmts ss))) at2 a s.2 m.1,
        )
    stmt_here w scope n at (Goto q x) s h = tt
    stmt_here w scope n at (Label x a) s h = stmt_here w scope n at a s h
    stmt_here w scope n at (Break q) s h = tt
    stmt_here w scope n at (Continue q) s h = tt
    stmt_here w scope n at (Return q None) s h = tt
    stmt_here w scope n at (Return q (Some e)) s h = return_here w scope at q e h

    pub stmts_here : (w : Where) (scope : Scope) (n : ℕ) → At d p f w scope → (ss : LStmts) → AllWritten ss → stmts_breaks w ss ≡ [] → AllTyped d p f scope n (bare_stmts ss)
    stmts_here w scope n at NoLStmt s h = tt
    stmts_here w scope n at (AndLStmt a ss) s h =
        let k = split (stmt_breaks w a) (stmts_breaks (behind w a) ss) h in
        (stmt_here w scope n at a s.0 k.0, stmts_here (behind w a) (extended scope n (bare_stmt a)) (n + declared (bare_stmt a)) (at_behind w scope n a at) ss s.1 k.1)

    maybe_here : (w : Where) (scope : Scope) (n : ℕ) → At d p f w scope → (r : MaybeLStmt) → MaybeWritten r → maybe_breaks w r ≡ [] → ArmTyped d p f scope n (bare_maybe r)
    maybe_here w scope n at NoneLStmt s h = tt
    maybe_here w scope n at (SomeLStmt a) s h = stmt_here w scope n at a s h

-- ---- sizes

pub all_sized : (p : Program) (xs ys : List Variable) → AllSized p xs → AllSized p ys → AllSized p (xs ++ ys)
all_sized p [] ys h k = k
all_sized p (x ∷ xs) ys h k = (h.0, all_sized p xs ys h.1 k)

-- a statement declares no item
pub behind_items : (w : Where) (s : LStmt) → (behind w s).scope.items ≡ w.scope.items
behind_items w (Declare q x t start) = refl
behind_items w (Block q ss) = refl
behind_items w (Empty q) = refl
behind_items w (Assign q o v op e) = refl
behind_items w (Call q o to g es) = refl
behind_items w (Detach q o k to g es) = refl
behind_items w (Spawn q g es) = refl
behind_items w (If q c s r) = refl
behind_items w (While q c s) = refl
behind_items w (DoWhile q s c) = refl
behind_items w (For q ss c r s) = refl
behind_items w (Goto q x) = refl
behind_items w (Label x s) = refl
behind_items w (Break q) = refl
behind_items w (Continue q) = refl
behind_items w (Return q e) = refl

-- nor do statements
pub all_behind_items : (w : Where) (ss : LStmts) → (all_behind w ss).scope.items ≡ w.scope.items
all_behind_items w NoLStmt = refl
all_behind_items w (AndLStmt s ss) = all_behind_items (behind w s) ss ∙ behind_items w s

module _ (p : Program) where
  mutual
    pub stmt_sized : (w : Where) → Grows w.scope.items p → (s : LStmt) → stmt_breaks w s ≡ [] → AllSized p (locals (bare_stmt s))
    stmt_sized w g (Block q ss) h = stmts_sized (inner w) g ss h
    stmt_sized w g (Declare q x t start) h =
        let h1 = split (at_if (is_here w.scope.blocks x.text) x.place Twice) _ h in
        let h2 = split (at_if (not (is_sized w.scope t)) x.place Incomplete) _ h1.1 in
        let n = size_of w.scope t (holds_then (is_sized w.scope t) x.place Incomplete h2.0) in
        ((n.0, sizes_grow w.scope.items p g t n.0 n.1), tt)
    stmt_sized w g (If q c a r) h =
        let k = split (test_breaks w c) _ h in
        let l = split (stmt_breaks w a) (maybe_breaks w r) k.1 in
        all_sized p (locals (bare_stmt a)) (locals_arm (bare_maybe r)) (stmt_sized w g a l.0) (maybe_sized w g r l.1)
    stmt_sized w g (While q c a) h = stmt_sized w g a (split (test_breaks w c) (stmt_breaks w a) h).1
    stmt_sized w g (DoWhile q a c) h = stmt_sized w g a (split (stmt_breaks w a) (test_breaks w c) h).0
    stmt_sized w g (For q ss c r a) h =
        let k = split (stmts_breaks (inner w) ss) _ h in
        let w2 = all_behind (inner w) ss in
        let l = split (maybe_test w2 c) _ k.1 in
        let m = split (maybe_breaks w2 r) (stmt_breaks w2 a) l.1 in
        all_sized p (locals_in (bare_stmts ss)) (locals (bare_stmt a)) (stmts_sized (inner w) g ss k.0) (stmt_sized w2 (subst (λ items. Grows items p) (sym (all_behind_items (inner w) ss)) g) a m.1)
    stmt_sized w g (Label x a) h = stmt_sized w g a h
    stmt_sized w g (Empty q) h = tt
    stmt_sized w g (Assign q o v op e) h = tt
    stmt_sized w g (Call q o to c es) h = tt
    stmt_sized w g (Detach q o k to c es) h = tt
    stmt_sized w g (Spawn q c es) h = tt
    stmt_sized w g (Goto q x) h = tt
    stmt_sized w g (Break q) h = tt
    stmt_sized w g (Continue q) h = tt
    stmt_sized w g (Return q e) h = tt

    pub stmts_sized : (w : Where) → Grows w.scope.items p → (ss : LStmts) → stmts_breaks w ss ≡ [] → AllSized p (locals_in (bare_stmts ss))
    stmts_sized w g NoLStmt h = tt
    stmts_sized w g (AndLStmt a ss) h =
        let k = split (stmt_breaks w a) (stmts_breaks (behind w a) ss) h in
        all_sized p (locals (bare_stmt a)) (locals_in (bare_stmts ss)) (stmt_sized w g a k.0) (stmts_sized (behind w a) (subst (λ items. Grows items p) (sym (behind_items w a)) g) ss k.1)

    maybe_sized : (w : Where) → Grows w.scope.items p → (r : MaybeLStmt) → maybe_breaks w r ≡ [] → AllSized p (locals_arm (bare_maybe r))
    maybe_sized w g NoneLStmt h = tt
    maybe_sized w g (SomeLStmt a) h = stmt_sized w g a h
