-- A native or detached body that breaks no rule of the dialect Cpc breaks none of the dialect Event, where each spawn is a call of the spawner.
use Rattle.std.proofs.Common.{◌≡◌, ◌==◌, ◌&&◌, not, ℕ, Bool, true, false, List, [], ◌∷◌, ◌++◌, length, map, reverse, Option, Some, None, refl, sym, ◌∙◌, ap, subst, arith}
use Rattle.std.specs.Prelude.{option_map}
use Rattle.cpc_base.specs.Bytes.{Text}
use Rattle.cpc_base.specs.declared.stop.Place.{Place}
use Rattle.cpc_base.specs.declared.stop.Dialect.TheVariants as D
use Rattle.cpc_base.proofs.Truth.{by_false_true, or_neither, eq_means}
use Rattle.cpc_num.specs.declared.kinds.Kind.TheVariants.{Int}
use Rattle.cpc_tree.specs.declared.program.Mode.{Mode}
use Rattle.cpc_tree.specs.declared.program.Mode.TheVariants.{Extern, Native, Cps, Detached}
use Rattle.cpc_tree.specs.Syntax.{Ty, TyVoid, TyInt, TyCondvar, TyPointer, TyCode, TyStruct, TyArray, Expr, ENamed, Exprs, NoExpr, AndExpr, Stmt, Block, Empty, Declare, Assign, Call, Detach, Spawn, If, While, DoWhile, For, Goto, Label, Break, Continue, Return, Stmts, NoStmt, AndStmt, MaybeStmt, Absent, Present, Program}
use Rattle.cpc_tree.specs.Located.{Ident, bare_expr}
use Rattle.cpc_tree.specs.Typing.{Meant, ALocal, AGlobal, AFunction, NotMeant, Typed, size, is_scalar, is_null}
use Rattle.cpc_tree.specs.Primitives.{Primitive, primitive_named}
use Rattle.cpc_check_rules.specs.declared.rule.Rule.TheVariants.{Twice, Incomplete, Reserved, CpsInNative, NotClosed, WrongNumber}
use Rattle.cpc_check_rules.specs.Rule.{at_if}
use Rattle.cpc_check_rules.specs.Scopes as S
use Rattle.cpc_check_rules.specs.Scopes.{in_items, in_blocks, meant, takes_value, takes_typed, with_name, is_here, is_sized, has_cells}
use Rattle.cpc_check_rules.specs.Operators.{Where, first, is_detached, is_cps}
use Rattle.cpc_check_rules.specs.Calls.{Wanted, Of, Takes, spawn_callee, gives_up, named_breaks, named_callee, number_breaks, wanted, result, callee, count}
use Rattle.cpc_check_rules.specs.ExprRules.{expr_breaks, called_breaks, arg_breaks, args_breaks, call_breaks}
use Rattle.cpc_check_rules.specs.StmtRules.{variable, behind, all_behind, to_breaks, test_breaks, maybe_test, start_breaks, wrong_name, return_breaks, stmt_breaks, stmts_breaks, maybe_breaks}
use Rattle.cpc_check_rules.specs.FunctionRules.{is_kept, is_reserved, holds_underscores, reserved_breaks, locals, locals_in, locals_maybe}
use Rattle.cpc_check_laws.proofs.Native.NativeValues.{both_none, cpc, event, unbroken}
use Rattle.cpc_check_laws.proofs.Native.OnePlace.{here, ident_here, expr_here, exprs_here, stmt_here, stmts_here, maybe_here}
use Rattle.cpc_check_laws.proofs.Sound.Agreement.{used_taken}
use Rattle.cpc_check_laws.proofs.Sound.Unbroken.{split, holds_then, right_name, spawn_meant}
use Rattle.cpc_convert_common.specs.Converted.{spawner_name, respawned, respawned_all, respawned_arm}
use Rattle.cpc_convert_image_laws.specs.Images.{image, image_if}
use Rattle.cpc_lifted_laws.specs.Complete.Reads.{Carries, stays_meant, stays_called}
use Rattle.cpc_lifted_laws.specs.Complete.Kept.{all_scalar, KeepsItems}
use Rattle.cpc_lifted_laws.specs.Complete.Steps.{IsStep, HasSteps, AllHaveSteps, ArmHasSteps}
use Rattle.cpc_lifted_laws.proofs.Complete.Names.{unread, image_unread, images_unread, image_if_unread, stays, kept_blocks, function_below, HidesNone, hides_none_more}
use Rattle.cpc_lifted_laws.proofs.Complete.Typing.{sizes}
use Rattle.cpc_lifted_laws.proofs.Complete.Called.{plain_suits, args_carried}
use Rattle.cpc_lifted_laws.proofs.Complete.Acts.{assign_carried, call_carried, test_carried, maybe_test_carried, start_carried, return_carried}

-- ---- names that are not reserved

pub reserved_both : (xs ys : List Ident) → reserved_breaks D.Cpc (xs ++ ys) ≡ [] → (reserved_breaks D.Cpc xs ≡ []) × (reserved_breaks D.Cpc ys ≡ [])
reserved_both [] ys h = (refl, h)
reserved_both (x ∷ xs) ys h =
    let k = split (at_if (is_reserved D.Cpc x.text) x.place Reserved) _ h in
    let l = reserved_both xs ys k.1 in
    (both_none _ _ k.0 l.0, l.1)

pub barless : (x : Ident) (xs : List Ident) → reserved_breaks D.Cpc (x ∷ xs) ≡ [] → holds_underscores x.text ≡ false
barless x xs h = (or_neither (is_kept x.text) (holds_underscores x.text) (unbroken (is_reserved D.Cpc x.text) x.place Reserved (split (at_if (is_reserved D.Cpc x.text) x.place Reserved) _ h).0)).1

-- ---- arguments

-- so many arguments as are wanted
number_is : (es : Exprs) (ws : List Wanted) (t : Ty) (q : Place) → number_breaks (Takes ws t) (exprs_here es) q ≡ [] → length (count (exprs_here es)) ≡ length ws
number_is es ws t q h = eq_means (length (count (exprs_here es))) (length ws) (holds_then (length (count (exprs_here es)) == length ws) q WrongNumber h)

takes_scalar : (t : Ty) (null : Bool) (u : Ty) → takes_value t null u ≡ true → is_scalar t ≡ true
takes_scalar (TyInt k) null u h = refl
takes_scalar TyCondvar null u h = refl
takes_scalar (TyPointer t) null u h = refl
takes_scalar (TyCode r ps) null u h = refl
takes_scalar TyVoid null u h = by_false_true h
takes_scalar (TyStruct tag) null u h = by_false_true h
takes_scalar (TyArray t n) null u h = by_false_true h

-- what is assignable to a type is so to a scalar one
pub typed_scalar : (t : Ty) (e : Expr) (d : Typed) → takes_typed t e d ≡ true → is_scalar t ≡ true
typed_scalar t e d h = let k = used_taken t e d h in takes_scalar t (is_null e) k.0 k.2

set_scalar : (w : Where) (ts : List Ty) (es : Exprs) → length (count (exprs_here es)) ≡ length (map (λ t. Of t) ts) → args_breaks w (map (λ t. Of t) ts) (exprs_here es) ≡ [] → all_scalar ts ≡ true
set_scalar w [] NoExpr n h = refl
set_scalar w (t ∷ ts) (AndExpr e es) n h =
    let k = split (arg_breaks w (Of t) (expr_here e) (expr_breaks w (expr_here e))) _ h in
    let s = plain_suits w (Of t) (expr_here e) k.0 in
    ap (λ b. b && all_scalar ts) (typed_scalar t (bare_expr (expr_here e)) s.1.0 s.1.2) ∙ set_scalar w ts es (omega (arith, n)) k.1
set_scalar w [] (AndExpr e es) n h = refl
set_scalar w (t ∷ ts) NoExpr n h = absurd (omega (arith, n))

-- a function is called by its name
pub function_called : (w : Where) (x : Text) (es : Exprs) (ts : List Ty) (t : Ty) → meant w.scope x ≡ AFunction Native t ts → at_if (is_detached w.mode && true) here NotClosed ≡ []
    → number_breaks (Takes (map (λ t. Of t) ts) t) (exprs_here es) here ≡ [] → args_breaks w (map (λ t. Of t) ts) (exprs_here es) ≡ [] → stmt_breaks w (stmt_here (Call None (ENamed x) es)) ≡ []
function_called w x es ts t found is_open numbers arguments =
    let is : callee w (expr_here (ENamed x)) (exprs_here es) ≡ Takes (map (λ t. Of t) ts) t = ap (λ m. named_callee w (expr_here (ENamed x)) (exprs_here es) m (primitive_named x)) found in
    both_none _ _ (ap (λ m. named_breaks w (expr_here (ENamed x)) here (expr_breaks w (expr_here (ENamed x))) m (primitive_named x)) found ∙ is_open)
    (both_none _ _ (subst (λ c. number_breaks c (exprs_here es) here ≡ []) (sym is) numbers) (subst (λ c. args_breaks w (wanted c) (exprs_here es) ≡ []) (sym is) arguments))

-- ---- places

-- these blocks over these items
abbrev pub over : Program → List S.Block → S.Scope
over items blocks = record { items = items; blocks = blocks }

module _ (before after : Program) (keeps : KeepsItems before after) (m : Mode) (u : Ty) (native : is_cps m ≡ false) where
  abbrev w : List S.Block → Where
  w blocks = cpc (over before blocks) m u

  abbrev v : List S.Block → Where
  v blocks = event (over after blocks) m u

  carries : (blocks : List S.Block) → Carries (w blocks) (v blocks) unread
  carries blocks = record {
    names = λ x. stays (over after blocks) x (meant (over before blocks) x) (kept_blocks x blocks (in_items (reverse before) x) (in_items (reverse after) x) (keeps.names x));
    cells = keeps.cells;
    fields = keeps.fields;
    closed = refl;
    source = refl;
    target = refl;
  }

  -- behind a statement the blocks are again the same
  record Behind (blocks : List S.Block) (s : Stmt) : Type 0 where
    new : List S.Block
    hides : HidesNone new
    source : behind (w blocks) (stmt_here s) ≡ w new
    target : behind (v blocks) (stmt_here (respawned s)) ≡ v new

  behind_kept : (blocks : List S.Block) (s : Stmt) → HidesNone blocks → reserved_breaks D.Cpc (locals (stmt_here s)) ≡ [] → Behind blocks s
  behind_kept blocks (Declare x t o) h k = record {
    new = (with_name (over before blocks) (variable (ident_here x) t)).blocks;
    hides = hides_none_more before blocks (variable (ident_here x) t) (barless (ident_here x) [] k) h;
    source = refl;
    target = refl;
  }
  behind_kept blocks (Block ss) h k = record { new = blocks; hides = h; source = refl; target = refl }
  behind_kept blocks Empty h k = record { new = blocks; hides = h; source = refl; target = refl }
  behind_kept blocks (Assign e op a) h k = record { new = blocks; hides = h; source = refl; target = refl }
  behind_kept blocks (Call to f es) h k = record { new = blocks; hides = h; source = refl; target = refl }
  behind_kept blocks (Detach to f es) h k = record { new = blocks; hides = h; source = refl; target = refl }
  behind_kept blocks (Spawn f es) h k = record { new = blocks; hides = h; source = refl; target = refl }
  behind_kept blocks (If t a b) h k = record { new = blocks; hides = h; source = refl; target = refl }
  behind_kept blocks (While t s) h k = record { new = blocks; hides = h; source = refl; target = refl }
  behind_kept blocks (DoWhile s t) h k = record { new = blocks; hides = h; source = refl; target = refl }
  behind_kept blocks (For first t step s) h k = record { new = blocks; hides = h; source = refl; target = refl }
  behind_kept blocks (Goto l) h k = record { new = blocks; hides = h; source = refl; target = refl }
  behind_kept blocks (Label l s) h k = record { new = blocks; hides = h; source = refl; target = refl }
  behind_kept blocks Break h k = record { new = blocks; hides = h; source = refl; target = refl }
  behind_kept blocks Continue h k = record { new = blocks; hides = h; source = refl; target = refl }
  behind_kept blocks (Return o) h k = record { new = blocks; hides = h; source = refl; target = refl }

  record AllBehind (blocks : List S.Block) (ss : Stmts) : Type 0 where
    new : List S.Block
    hides : HidesNone new
    source : all_behind (w blocks) (stmts_here ss) ≡ w new
    target : all_behind (v blocks) (stmts_here (respawned_all ss)) ≡ v new

  all_behind_kept : (blocks : List S.Block) (ss : Stmts) → HidesNone blocks → reserved_breaks D.Cpc (locals_in (stmts_here ss)) ≡ [] → AllBehind blocks ss
  all_behind_kept blocks NoStmt h k = record { new = blocks; hides = h; source = refl; target = refl }
  all_behind_kept blocks (AndStmt s ss) h k =
      let l = reserved_both (locals (stmt_here s)) (locals_in (stmts_here ss)) k in
      let b = behind_kept blocks s h l.0 in
      let a = all_behind_kept b.new ss b.hides l.1 in
      record {
        new = a.new;
        hides = a.hides;
        source = ap (λ x. all_behind x (stmts_here ss)) b.source ∙ a.source;
        target = ap (λ x. all_behind x (stmts_here (respawned_all ss))) b.target ∙ a.target;
      }

  -- ---- simple statements

  unless_cps : (b : Bool) → (b && not (is_cps m)) ≡ false → b ≡ false
  unless_cps true h = by_false_true (sym h ∙ ap not native)
  unless_cps false h = refl

  -- native code calls no cps function, and nothing that waits
  function_stays : (mode : Mode) (t : Ty) (ts : List Ty) (o : Option Primitive) → is_cps mode ≡ false → stays_meant (AFunction mode t ts) o ≡ true
  function_stays Cps t ts o h = by_false_true (sym h)
  function_stays Native t ts o h = refl
  function_stays Extern t ts o h = refl
  function_stays Detached t ts o h = refl

  name_stays : (blocks : List S.Block) (x : Text) (k : Meant) (o : Option Primitive) → named_breaks (w blocks) (expr_here (ENamed x)) here (expr_breaks (w blocks) (expr_here (ENamed x))) k o ≡ [] → stays_meant k o ≡ true
  name_stays blocks x (AFunction mode t ts) o h = function_stays mode t ts o (unless_cps (is_cps mode) (unbroken (is_cps mode && not (is_cps m)) here CpsInNative (split (at_if (is_cps mode && not (is_cps m)) here CpsInNative) _ h).0))
  name_stays blocks x NotMeant None h = refl
  name_stays blocks x NotMeant (Some prim) h = ap not (unless_cps (gives_up prim) (unbroken (gives_up prim && not (is_cps m)) here CpsInNative (split (at_if (gives_up prim && not (is_cps m)) here CpsInNative) _ h).0))
  name_stays blocks x (ALocal k t) o h = refl
  name_stays blocks x (AGlobal k t) o h = refl

  call_stays : (blocks : List S.Block) (f : Expr) (es : Exprs) → call_breaks (w blocks) (expr_here f) (exprs_here es) ≡ [] → stays_called (over before blocks) f ≡ true
  call_stays blocks (ENamed x) es h = name_stays blocks x (meant (over before blocks) x) (primitive_named x) (split (called_breaks (w blocks) (expr_here (ENamed x)) (expr_breaks (w blocks) (expr_here (ENamed x)))) _ h).0
  call_stays blocks f es h = refl

  assign_kept : (blocks : List S.Block) (e : Expr) (op : _) (a : Expr) → stmt_breaks (w blocks) (stmt_here (Assign e op a)) ≡ [] → stmt_breaks (v blocks) (stmt_here (Assign e op a)) ≡ []
  assign_kept blocks e op a h =
      subst (λ a. stmt_breaks (v blocks) (stmt_here (Assign e op a)) ≡ []) (image_unread a)
      (subst (λ e. stmt_breaks (v blocks) (stmt_here (Assign e op (image unread a))) ≡ []) (image_unread e) (assign_carried (w blocks) (v blocks) unread (carries blocks) e op a h))

  call_kept : (blocks : List S.Block) (to : Option Expr) (f : Expr) (es : Exprs) → stmt_breaks (w blocks) (stmt_here (Call to f es)) ≡ [] → stmt_breaks (v blocks) (stmt_here (Call to f es)) ≡ []
  call_kept blocks to f es h =
      let k = split (to_breaks (w blocks) (option_map expr_here to) here (result (callee (w blocks) (expr_here f) (exprs_here es)))) _ h in
      subst (λ to. stmt_breaks (v blocks) (stmt_here (Call to f es)) ≡ []) (image_if_unread to)
      (subst (λ f. stmt_breaks (v blocks) (stmt_here (Call (image_if unread to) f es)) ≡ []) (image_unread f)
      (subst (λ es. stmt_breaks (v blocks) (stmt_here (Call (image_if unread to) (image unread f) es)) ≡ []) (images_unread es)
      (call_carried (w blocks) (v blocks) unread (carries blocks) to f es (call_stays blocks f es k.1) h)))

  test_kept : (blocks : List S.Block) (e : Expr) → test_breaks (w blocks) (expr_here e) ≡ [] → test_breaks (v blocks) (expr_here e) ≡ []
  test_kept blocks e h = subst (λ e. test_breaks (v blocks) (expr_here e) ≡ []) (image_unread e) (test_carried (w blocks) (v blocks) unread (carries blocks) e h)

  maybe_test_kept : (blocks : List S.Block) (o : Option Expr) → maybe_test (w blocks) (option_map expr_here o) ≡ [] → maybe_test (v blocks) (option_map expr_here o) ≡ []
  maybe_test_kept blocks o h = subst (λ o. maybe_test (v blocks) (option_map expr_here o) ≡ []) (image_if_unread o) (maybe_test_carried (w blocks) (v blocks) unread (carries blocks) o h)

  return_kept : (blocks : List S.Block) (o : Option Expr) → return_breaks (w blocks) here (option_map expr_here o) ≡ [] → return_breaks (v blocks) here (option_map expr_here o) ≡ []
  return_kept blocks o h = subst (λ o. return_breaks (v blocks) here (option_map expr_here o) ≡ []) (image_if_unread o) (return_carried (w blocks) (v blocks) unread (carries blocks) refl o h)

  start_kept : (blocks : List S.Block) (x : Text) (t : Ty) (o : Option Expr) → start_breaks (w blocks) (ident_here x) t (option_map expr_here o) ≡ [] → start_breaks (v blocks) (ident_here x) t (option_map expr_here o) ≡ []
  start_kept blocks x t o h = subst (λ o. start_breaks (v blocks) (ident_here x) t (option_map expr_here o) ≡ []) (image_if_unread o) (start_carried (w blocks) (v blocks) unread (carries blocks) x x t o h)

  sized_kept : (blocks : List S.Block) (t : Ty) → is_sized (over before blocks) t ≡ true → is_sized (over after blocks) t ≡ true
  sized_kept blocks t h = go (size before t) refl h
    where
      go : (o : Option ℕ) → size before t ≡ o → has_cells o ≡ true → is_sized (over after blocks) t ≡ true
      go None e h = by_false_true h
      go (Some n) e h = ap has_cells (sizes (w blocks) (v blocks) unread (carries blocks) t n e) ∙ h

  declare_kept : (blocks : List S.Block) (x : Text) (t : Ty) (o : Option Expr) → stmt_breaks (w blocks) (stmt_here (Declare x t o)) ≡ [] → stmt_breaks (v blocks) (stmt_here (Declare x t o)) ≡ []
  declare_kept blocks x t o h =
      let k = split (at_if (is_here blocks x) here Twice) _ h in
      let l = split (at_if (not (is_sized (over before blocks) t)) here Incomplete) _ k.1 in
      both_none _ _ k.0 (both_none _ _ (ap (λ b. at_if (not b) here Incomplete) (sized_kept blocks t (holds_then (is_sized (over before blocks) t) here Incomplete l.0)))
      (start_kept (with_name (over before blocks) (variable (ident_here x) t)).blocks x t o l.1))

  -- ---- spawns

  -- a native function has no section
  detach_kept : (blocks : List S.Block) (to : Option Expr) (f : Text) (es : Exprs) → stmt_breaks (w blocks) (stmt_here (Detach to f es)) ≡ [] → ⊥
  detach_kept blocks to f es h =
      let k = split (to_breaks (w blocks) (option_map expr_here to) here (Some (TyInt Int))) _ h in
      let l = split (at_if (not (is_cps m)) here CpsInNative) _ k.1 in
      by_false_true (sym native ∙ holds_then (is_cps m) here CpsInNative l.0)

  spawn_kept : (blocks : List S.Block) → HidesNone blocks → (x : Text) (es : Exprs) → stmt_breaks (w blocks) (stmt_here (Spawn x es)) ≡ [] → stmt_breaks (v blocks) (stmt_here (respawned (Spawn x es))) ≡ []
  spawn_kept blocks hides x es h =
      let k = meant (over before blocks) x in
      let h1 = split (at_if (is_detached m) here NotClosed) _ h in
      let h2 = split (wrong_name k (spawn_callee k) here) _ h1.1 in
      let h3 = split (number_breaks (spawn_callee k) (exprs_here es) here) _ h2.1 in
      let t = spawn_meant k (right_name k (spawn_callee k) here h2.0) in
      let ws = map (λ t. Of t) t.1 in
      let is : spawn_callee k ≡ Takes ws t.0 = ap spawn_callee t.2 in
      let numbers : number_breaks (Takes ws t.0) (exprs_here es) here ≡ [] = subst (λ c. number_breaks c (exprs_here es) here ≡ []) is h3.0 in
      let arguments : args_breaks (w blocks) ws (exprs_here es) ≡ [] = subst (λ c. args_breaks (w blocks) (wanted c) (exprs_here es) ≡ []) is h3.1 in
      let scalar = set_scalar (w blocks) t.1 es (number_is es ws t.0 here numbers) arguments in
      let found : meant (over after blocks) (spawner_name x) ≡ AFunction Native TyVoid t.1 =
      hides x (in_items (reverse after) (spawner_name x)) ∙ keeps.spawners x t.0 t.1 (function_below x blocks (in_items (reverse before) x) Cps t.0 t.1 t.2) scalar in
      let there : args_breaks (v blocks) ws (exprs_here es) ≡ [] = subst (λ es. args_breaks (v blocks) ws (exprs_here es) ≡ []) (images_unread es) (args_carried (w blocks) (v blocks) unread (carries blocks) ws es arguments) in
      let is_open : is_detached m ≡ false = unbroken (is_detached m) here NotClosed h1.0 in
      function_called (v blocks) (spawner_name x) es t.1 TyVoid found (ap (λ b. at_if (b && true) here NotClosed) is_open) numbers there

  -- ---- statements

  step_kept : (blocks : List S.Block) (s : MaybeStmt) → IsStep s → maybe_breaks (w blocks) (maybe_here s) ≡ [] → maybe_breaks (v blocks) (maybe_here (respawned_arm s)) ≡ []
  step_kept blocks Absent g h = refl
  step_kept blocks (Present (Assign e op a)) g h = assign_kept blocks e op a h
  step_kept blocks (Present (Call to f es)) g h = call_kept blocks to f es h
  step_kept blocks (Present (Detach to f es)) g h = absurd (detach_kept blocks to f es h)
  step_kept blocks (Present _) g h = absurd g

  mutual
    pub stmt_kept : (blocks : List S.Block) → HidesNone blocks → (s : Stmt) → HasSteps s → reserved_breaks D.Cpc (locals (stmt_here s)) ≡ [] → stmt_breaks (w blocks) (stmt_here s) ≡ [] → stmt_breaks (v blocks) (stmt_here (respawned s)) ≡ []
    stmt_kept blocks hides (Block ss) g n h = stmts_kept ([] ∷ blocks) hides ss g n h
    stmt_kept blocks hides Empty g n h = refl
    stmt_kept blocks hides (Declare x t o) g n h = declare_kept blocks x t o h
    stmt_kept blocks hides (Assign e op a) g n h = assign_kept blocks e op a h
    stmt_kept blocks hides (Call to f es) g n h = call_kept blocks to f es h
    stmt_kept blocks hides (Detach to f es) g n h = absurd (detach_kept blocks to f es h)
    stmt_kept blocks hides (Spawn f es) g n h = spawn_kept blocks hides f es h
    stmt_kept blocks hides (If t a b) g n h =
        let k = split (test_breaks (w blocks) (expr_here t)) _ h in
        let l = split (stmt_breaks (w blocks) (stmt_here a)) _ k.1 in
        let m = reserved_both (locals (stmt_here a)) (locals_maybe (maybe_here b)) n in
        both_none _ _ (test_kept blocks t k.0) (both_none _ _ (stmt_kept blocks hides a g.0 m.0 l.0) (maybe_kept blocks hides b g.1 m.1 l.1))
    stmt_kept blocks hides (While t s) g n h =
        let k = split (test_breaks (w blocks) (expr_here t)) _ h in
        both_none _ _ (test_kept blocks t k.0) (stmt_kept blocks hides s g n k.1)
    stmt_kept blocks hides (DoWhile s t) g n h =
        let k = split (stmt_breaks (w blocks) (stmt_here s)) _ h in
        both_none _ _ (stmt_kept blocks hides s g n k.0) (test_kept blocks t k.1)
    stmt_kept blocks hides (For first t step s) g n h =
        let m = reserved_both (locals_in (stmts_here first)) (locals (stmt_here s)) n in
        let b = all_behind_kept ([] ∷ blocks) first hides m.0 in
        let none : stmts_breaks (w ([] ∷ blocks)) (stmts_here first) ++ (maybe_test (w b.new) (option_map expr_here t) ++ (maybe_breaks (w b.new) (maybe_here step) ++ stmt_breaks (w b.new) (stmt_here s))) ≡ [] =
        subst (λ x. stmts_breaks (w ([] ∷ blocks)) (stmts_here first) ++ (maybe_test x (option_map expr_here t) ++ (maybe_breaks x (maybe_here step) ++ stmt_breaks x (stmt_here s))) ≡ []) b.source h in
        let k = split (stmts_breaks (w ([] ∷ blocks)) (stmts_here first)) _ none in
        let l = split (maybe_test (w b.new) (option_map expr_here t)) _ k.1 in
        let o = split (maybe_breaks (w b.new) (maybe_here step)) _ l.1 in
        subst (λ x. stmts_breaks (v ([] ∷ blocks)) (stmts_here (respawned_all first)) ++ (maybe_test x (option_map expr_here t) ++ (maybe_breaks x (maybe_here (respawned_arm step)) ++ stmt_breaks x (stmt_here (respawned s)))) ≡ []) (sym b.target)
        (both_none _ _ (stmts_kept ([] ∷ blocks) hides first g.0 m.0 k.0) (both_none _ _ (maybe_test_kept b.new t l.0) (both_none _ _ (step_kept b.new step g.1 o.0) (stmt_kept b.new b.hides s g.2 m.1 o.1))))
    stmt_kept blocks hides (Goto l) g n h = refl
    stmt_kept blocks hides (Label l s) g n h = stmt_kept blocks hides s g n h
    stmt_kept blocks hides Break g n h = refl
    stmt_kept blocks hides Continue g n h = refl
    stmt_kept blocks hides (Return o) g n h = return_kept blocks o h

    pub stmts_kept : (blocks : List S.Block) → HidesNone blocks → (ss : Stmts) → AllHaveSteps ss → reserved_breaks D.Cpc (locals_in (stmts_here ss)) ≡ [] → stmts_breaks (w blocks) (stmts_here ss) ≡ [] → stmts_breaks (v blocks) (stmts_here (respawned_all ss)) ≡ []
    stmts_kept blocks hides NoStmt g n h = refl
    stmts_kept blocks hides (AndStmt s ss) g n h =
        let m = reserved_both (locals (stmt_here s)) (locals_in (stmts_here ss)) n in
        let b = behind_kept blocks s hides m.0 in
        let none : stmt_breaks (w blocks) (stmt_here s) ++ stmts_breaks (w b.new) (stmts_here ss) ≡ [] = subst (λ x. stmt_breaks (w blocks) (stmt_here s) ++ stmts_breaks x (stmts_here ss) ≡ []) b.source h in
        let k = split (stmt_breaks (w blocks) (stmt_here s)) _ none in
        subst (λ x. stmt_breaks (v blocks) (stmt_here (respawned s)) ++ stmts_breaks x (stmts_here (respawned_all ss)) ≡ []) (sym b.target)
        (both_none _ _ (stmt_kept blocks hides s g.0 m.0 k.0) (stmts_kept b.new b.hides ss g.1 m.1 k.1))

    maybe_kept : (blocks : List S.Block) → HidesNone blocks → (s : MaybeStmt) → ArmHasSteps s → reserved_breaks D.Cpc (locals_maybe (maybe_here s)) ≡ [] → maybe_breaks (w blocks) (maybe_here s) ≡ [] → maybe_breaks (v blocks) (maybe_here (respawned_arm s)) ≡ []
    maybe_kept blocks hides Absent g n h = refl
    maybe_kept blocks hides (Present s) g n h = stmt_kept blocks hides s g n h
