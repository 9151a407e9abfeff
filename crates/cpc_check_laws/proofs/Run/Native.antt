-- Native code that breaks no rule of the dialect Cpc is plain.
use Rattle.std.proofs.Common.{◌≡◌, Bool, true, false, ◌&&◌, not, List, [], ◌∷◌, ◌++◌, map, Option, Some, None, refl, sym, ◌∙◌, ap, subst}
use Rattle.cpc_base.specs.declared.stop.Place.{Place}
use Rattle.cpc_base.specs.declared.stop.Dialect.TheVariants as D
use Rattle.cpc_base.proofs.Truth.{and_first, and_second, not_holds, and_holds}
use Rattle.cpc_num.specs.declared.kinds.Kind.TheVariants.{Int}
use Rattle.cpc_tree.specs.Syntax.{TyInt, Program}
use Rattle.cpc_tree.specs.Located.{Ident, LExpr, LNamed, LExprs, LStmt, Block, Declare, Assign, Call, Detach, Spawn, If, While, DoWhile, For, Label, LStmts, NoLStmt, AndLStmt, MaybeLStmt, NoneLStmt, SomeLStmt, LFunction, LItem, LStruct, LGlobal, LPrototype, LFunctionItem, bare, bare_item, bare_expr, bare_stmt, bare_stmts, bare_maybe}
use Rattle.cpc_tree.specs.Primitives.{Primitive, primitive_named}
use Rattle.cpc_check_rules.specs.declared.rule.Rule.TheVariants.{CpsInNative, NotClosed, RtCall, CpsForm}
use Rattle.cpc_check_rules.specs.Rule.{Broken, at_if}
use Rattle.cpc_check_rules.specs.Scopes.{meant}
use Rattle.cpc_check_rules.specs.Operators.{Where, is_cps, is_detached}
use Rattle.cpc_check_rules.specs.Calls.{gives_up, is_rt, is_closed, is_event, primitive_breaks, named_breaks, callee, result}
use Rattle.cpc_check_rules.specs.ExprRules.{expr_breaks, called_breaks}
use Rattle.cpc_check_rules.specs.StmtRules.{inner, variable, behind, all_behind, to_breaks, test_breaks, maybe_test, stmt_breaks, stmts_breaks, maybe_breaks}
use Rattle.cpc_check_rules.specs.FunctionRules.{reserved_breaks, parameter_names, locals, locals_in, locals_maybe, labels}
use Rattle.cpc_check_rules.specs.ItemRules.{outside, types, cps_breaks, declared_breaks, parameters_breaks, sized_breaks, in_body, body_breaks, function_breaks, item_breaks, items_breaks}
use Rattle.cpc_check_laws.specs.Native.Native.{spawns_none, all_spawn_none, maybe_spawns_none, is_native_item, are_native}
use Rattle.cpc_check_laws.proofs.Native.NativeValues.{left_none, right_none, unbroken}
use Rattle.cpc_check_laws.specs.Run.Plain.{is_shared, shares, calls_shared, is_plain_stmt, are_plain, is_plain_arm, is_plain_item, is_plain}
use Rattle.cpc_check_laws.specs.Run.Shape.{is_step, is_shaped, all_shaped, is_shaped_arm, is_block, is_shaped_item, are_shaped}
use Rattle.cpc_check_laws.specs.Run.Laws.{NativeIsPlain}
use Rattle.cpc_check_laws.proofs.Run.Names.{primitive_kept, Unreserved, first_unkept, first_no_underscores, front_unreserved, back_unreserved, NoneKept, block_none_kept, name_none_kept, parameters_apart, NoneDeclared, item_name, more_none_declared}

-- where native code of the dialect Cpc stands, in which no kept name stands for anything
record Fine (w : Where) : Type 0 where
  native : is_cps w.mode ≡ false
  no_event : is_event w.dialect ≡ false
  none_kept : NoneKept w.scope

-- ---- calls

shared_row : (g c t e closed : Bool) (q : Place) → c ≡ false → e ≡ false → at_if (g && not c) q CpsInNative ++ (at_if closed q NotClosed ++ (at_if (t && not e) q RtCall ++ at_if (g && e) q CpsForm)) ≡ []
    → (g ≡ false) × (t ≡ false)
shared_row g true t e closed q i j h = absurd cc
shared_row g false t true closed q i j h = absurd cc
shared_row true false t false closed q i j h = absurd cc
shared_row false false true false true q i j h = absurd cc
shared_row false false true false false q i j h = absurd cc
shared_row false false false false closed q i j h = (refl, refl)

module _ (w : Where) (fine : Fine w) where
  primitive_shared : (q : Place) (p : Primitive) → primitive_breaks w q p ≡ [] → is_shared p ≡ true
  primitive_shared q p h =
      let e = shared_row (gives_up p) (is_cps w.mode) (is_rt p) (is_event w.dialect) (is_detached w.mode && not (is_closed p)) q fine.native fine.no_event h in
      simp (e.0, e.1) refl

  named_shared : (x : Ident) (parts : Broken) (o : Option Primitive) → primitive_named x.text ≡ o → named_breaks w (LNamed x) x.place parts (meant w.scope x.text) o ≡ [] → shares o ≡ true
  named_shared x parts None e h = refl
  named_shared x parts (Some p) e h =
      primitive_shared x.place p (subst (λ m. named_breaks w (LNamed x) x.place parts m (Some p) ≡ []) (fine.none_kept x.text (primitive_kept x.text p e)) h)

  called_shared : (f : LExpr) (parts : Broken) → called_breaks w f parts ≡ [] → calls_shared (bare_expr f) ≡ true
  called_shared (LNamed x) parts h = named_shared x parts (primitive_named x.text) refl h
  called_shared _ parts h = refl

  call_shared : (q o : Place) (to : Option LExpr) (f : LExpr) (es : LExprs) → stmt_breaks w (Call q o to f es) ≡ [] → calls_shared (bare_expr f) ≡ true
  call_shared q o to f es h = called_shared f (expr_breaks w f) (left_none _ _ (right_none (to_breaks w to o (result (callee w f es))) _ h))

  no_section : (q o k : Place) (to : Option LExpr) (f : Ident) (es : LExprs) → stmt_breaks w (Detach q o k to f es) ≡ [] → ⊥
  no_section q o k to f es h =
      let e = unbroken (not (is_cps w.mode)) k CpsInNative (left_none _ _ (right_none (to_breaks w to o (Some (TyInt Int))) _ h)) in
      let i : true ≡ false = sym (ap not fine.native) ∙ e in
      absurd cc

-- ---- where statements stand

inner_fine : (w : Where) → Fine w → Fine (inner w)
inner_fine w fine = record { native = fine.native; no_event = fine.no_event; none_kept = block_none_kept w.scope fine.none_kept }

behind_fine : (w : Where) → Fine w → (s : LStmt) → Unreserved (locals s) → Fine (behind w s)
behind_fine w fine (Declare q x t start) u = record { native = fine.native; no_event = fine.no_event; none_kept = name_none_kept w.scope (variable x t) (first_unkept x [] u) fine.none_kept }
behind_fine w fine _ u = fine

all_behind_fine : (w : Where) → Fine w → (ss : LStmts) → Unreserved (locals_in ss) → Fine (all_behind w ss)
all_behind_fine w fine NoLStmt u = fine
all_behind_fine w fine (AndLStmt s ss) u =
    all_behind_fine (behind w s) (behind_fine w fine s (front_unreserved (locals s) (locals_in ss) u)) ss (back_unreserved (locals s) (locals_in ss) u)

-- ---- statements

step_plain : (w : Where) → Fine w → (r : MaybeLStmt) → is_step r ≡ true → maybe_breaks w r ≡ [] → is_plain_arm (bare_maybe r) ≡ true
step_plain w fine NoneLStmt shape h = refl
step_plain w fine (SomeLStmt (Assign q o v op e)) shape h = refl
step_plain w fine (SomeLStmt (Call q o to f es)) shape h = call_shared w fine q o to f es h
step_plain w fine (SomeLStmt (Detach q o k to f es)) shape h = absurd (no_section w fine q o k to f es h)
step_plain w fine _ shape h = absurd cc

mutual
  stmt_plain : (w : Where) → Fine w → (s : LStmt) → is_shaped s ≡ true → Unreserved (locals s) → spawns_none s ≡ true → stmt_breaks w s ≡ [] → is_plain_stmt (bare_stmt s) ≡ true
  stmt_plain w fine (Block q ss) shape u n h = stmts_plain (inner w) (inner_fine w fine) ss shape u n h
  stmt_plain w fine (Call q o to f es) shape u n h = call_shared w fine q o to f es h
  stmt_plain w fine (Detach q o k to f es) shape u n h = absurd (no_section w fine q o k to f es h)
  stmt_plain w fine (Spawn q f es) shape u n h = absurd cc
  stmt_plain w fine (If q c s r) shape u n h =
      let g = right_none (test_breaks w c) _ h in
      and_holds _ _
      (stmt_plain w fine s (and_first (is_shaped s) (is_shaped_arm r) shape) (front_unreserved (locals s) (locals_maybe r) u) (and_first (spawns_none s) (maybe_spawns_none r) n) (left_none _ _ g))
      (arm_plain w fine r (and_second (is_shaped s) (is_shaped_arm r) shape) (back_unreserved (locals s) (locals_maybe r) u) (and_second (spawns_none s) (maybe_spawns_none r) n) (right_none (stmt_breaks w s) _ g))
  stmt_plain w fine (While q c s) shape u n h = stmt_plain w fine s shape u n (right_none (test_breaks w c) _ h)
  stmt_plain w fine (DoWhile q s c) shape u n h = stmt_plain w fine s shape u n (left_none _ _ h)
  stmt_plain w fine (For q ss c r s) shape u n h =
      let firsts = front_unreserved (locals_in ss) (locals s) u in
      let there = all_behind_fine (inner w) (inner_fine w fine) ss firsts in
      let shapes = and_second (all_shaped ss) (is_step r && is_shaped s) shape in
      let none = and_second (all_spawn_none ss) (maybe_spawns_none r && spawns_none s) n in
      let g = right_none (stmts_breaks (inner w) ss) _ h in
      let k = right_none (maybe_test (all_behind (inner w) ss) c) _ g in
      and_holds _ _ (stmts_plain (inner w) (inner_fine w fine) ss (and_first (all_shaped ss) (is_step r && is_shaped s) shape) firsts (and_first (all_spawn_none ss) (maybe_spawns_none r && spawns_none s) n) (left_none _ _ h))
      (and_holds _ _ (step_plain (all_behind (inner w) ss) there r (and_first (is_step r) (is_shaped s) shapes) (left_none _ _ k))
      (stmt_plain (all_behind (inner w) ss) there s (and_second (is_step r) (is_shaped s) shapes) (back_unreserved (locals_in ss) (locals s) u) (and_second (maybe_spawns_none r) (spawns_none s) none)
      (right_none (maybe_breaks (all_behind (inner w) ss) r) _ k)))
  stmt_plain w fine (Label x s) shape u n h = stmt_plain w fine s shape u n h
  stmt_plain w fine _ shape u n h = refl

  stmts_plain : (w : Where) → Fine w → (ss : LStmts) → all_shaped ss ≡ true → Unreserved (locals_in ss) → all_spawn_none ss ≡ true → stmts_breaks w ss ≡ [] → are_plain (bare_stmts ss) ≡ true
  stmts_plain w fine NoLStmt shape u n h = refl
  stmts_plain w fine (AndLStmt s ss) shape u n h =
      let firsts = front_unreserved (locals s) (locals_in ss) u in
      and_holds _ _ (stmt_plain w fine s (and_first (is_shaped s) (all_shaped ss) shape) firsts (and_first (spawns_none s) (all_spawn_none ss) n) (left_none _ _ h))
      (stmts_plain (behind w s) (behind_fine w fine s firsts) ss (and_second (is_shaped s) (all_shaped ss) shape) (back_unreserved (locals s) (locals_in ss) u) (and_second (spawns_none s) (all_spawn_none ss) n)
      (right_none (stmt_breaks w s) _ h))

  arm_plain : (w : Where) → Fine w → (r : MaybeLStmt) → is_shaped_arm r ≡ true → Unreserved (locals_maybe r) → maybe_spawns_none r ≡ true → maybe_breaks w r ≡ [] → is_plain_arm (bare_maybe r) ≡ true
  arm_plain w fine NoneLStmt shape u n h = refl
  arm_plain w fine (SomeLStmt s) shape u n h = stmt_plain w fine s shape u n h

-- ---- items

body_plain : (w : Where) → Fine w → (s : LStmt) → is_block s ≡ true → is_shaped s ≡ true → Unreserved (locals s) → spawns_none s ≡ true → body_breaks w s ≡ [] → is_plain_stmt (bare_stmt s) ≡ true
body_plain w fine (Block q ss) block shape u n h = stmts_plain w fine ss shape u n h
body_plain w fine _ block shape u n h = absurd cc

module _ (program before : Program) (none_declared : NoneDeclared before) where
  body_fine : (f : LFunction) → is_cps f.mode ≡ false → Unreserved (f.called ∷ []) → Unreserved (parameter_names f.parameters) → Fine (in_body D.Cpc before f)
  body_fine f native u v = record {
    native = native;
    no_event = refl;
    none_kept = λ x k. simp (parameters_apart f.parameters v x k []) (more_none_declared before (LFunctionItem f) u none_declared x k);
  }

  function_plain : (f : LFunction) → is_shaped_item (LFunctionItem f) ≡ true → is_native_item (LFunctionItem f) ≡ true → function_breaks D.Cpc before f ≡ [] → is_plain_item (bare_item (LFunctionItem f)) ≡ true
  function_plain f shape n h =
      let native = not_holds (is_cps f.mode) (and_first (not (is_cps f.mode)) (spawns_none f.body) n) in
      let name : Unreserved (f.called ∷ []) = left_none (reserved_breaks D.Cpc (f.called ∷ [])) _ h in
      let a = right_none (reserved_breaks D.Cpc (f.called ∷ [])) _ h in
      let b = right_none (cps_breaks D.Cpc f.mode f.place) _ a in
      let c = right_none (declared_breaks before f.called (record { mode = f.mode; result = f.result; parameters = types f.parameters; is_defined = true })) _ b in
      let parameters : Unreserved (parameter_names f.parameters) = right_none _ (reserved_breaks D.Cpc (parameter_names f.parameters)) (left_none (parameters_breaks D.Cpc f.parameters) _ c) in
      let d = right_none (parameters_breaks D.Cpc f.parameters) _ c in
      let e = right_none (sized_breaks (outside D.Cpc before).scope f.parameters) _ d in
      let i = right_none (body_breaks (in_body D.Cpc before f) f.body) _ e in
      let names : Unreserved (locals f.body ++ labels f.body) = left_none (reserved_breaks D.Cpc (locals f.body ++ labels f.body)) _ i in
      and_holds _ _ (ap not native) (and_holds _ _ (ap not (first_no_underscores f.called [] name))
      (body_plain (in_body D.Cpc before f) (body_fine f native name parameters) f.body (and_first (is_block f.body) (is_shaped f.body) shape) (and_second (is_block f.body) (is_shaped f.body) shape)
      (front_unreserved (locals f.body) (labels f.body) names) (and_second (not (is_cps f.mode)) (spawns_none f.body) n) (left_none (body_breaks (in_body D.Cpc before f) f.body) _ e)))

  item_plain : (x : LItem) → is_shaped_item x ≡ true → is_native_item x ≡ true → item_breaks D.Cpc program before x ≡ [] → is_plain_item (bare_item x) ≡ true
  item_plain (LStruct tag fs) shape n h = refl
  item_plain (LGlobal x t start) shape n h = refl
  item_plain (LPrototype q mode x r ps) shape n h = n
  item_plain (LFunctionItem f) shape n h = function_plain f shape n h

  name_unreserved : (x : LItem) → item_breaks D.Cpc program before x ≡ [] → Unreserved (item_name x)
  name_unreserved (LStruct tag fs) h = refl
  name_unreserved (LGlobal x t start) h = left_none (reserved_breaks D.Cpc (x ∷ [])) _ h
  name_unreserved (LPrototype q mode x r ps) h = left_none (reserved_breaks D.Cpc (x ∷ [])) _ h
  name_unreserved (LFunctionItem f) h = left_none (reserved_breaks D.Cpc (f.called ∷ [])) _ h

items_plain : (program before : Program) → NoneDeclared before → (xs : List LItem) → are_shaped xs ≡ true → are_native xs ≡ true → items_breaks D.Cpc program before xs ≡ [] → is_plain (map bare_item xs) ≡ true
items_plain program before none [] shape n h = refl
items_plain program before none (x ∷ xs) shape n h =
    let here = left_none (item_breaks D.Cpc program before x) _ h in
    and_holds _ _ (item_plain program before none x (and_first (is_shaped_item x) (are_shaped xs) shape) (and_first (is_native_item x) (are_native xs) n) here)
    (items_plain program (before ++ bare_item x ∷ []) (more_none_declared before x (name_unreserved program before none x here) none) xs (and_second (is_shaped_item x) (are_shaped xs) shape)
    (and_second (is_native_item x) (are_native xs) n) (right_none (item_breaks D.Cpc program before x) _ h))

pub native_is_plain : NativeIsPlain
native_is_plain p shape h n = items_plain (bare p) [] (λ x k. refl) p.items shape n (left_none (items_breaks D.Cpc (bare p) [] p.items) _ h)
