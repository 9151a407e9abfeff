-- An accepted program without cps functions is plain, and its own event program.
use Rattle.std.proofs.Common.{◌≡◌, ◌⊎◌, inl, inr, ◌&&◌, not, ℕ, Bool, true, false, List, [], ◌∷◌, ◌++◌, map, Some, refl, sym, ◌∙◌, ap}
use Rattle.cpc_base.specs.Bytes.{Text}
use Rattle.cpc_base.specs.declared.stop.Dialect.TheVariants as D
use Rattle.cpc_base.proofs.Truth.{and_first, and_second, and_holds, not_holds}
use Rattle.cpc_tree.specs.declared.program.Mode.TheVariants.{Extern, Native, Cps, Detached}
use Rattle.cpc_tree.specs.Located.{LStmt, Block, Assign, Call, Detach, Spawn, If, While, DoWhile, For, Label, LStmts, NoLStmt, AndLStmt, MaybeLStmt, NoneLStmt, SomeLStmt, LItem, LStruct, LGlobal, LPrototype, LFunctionItem, bare_stmt, bare_stmts, bare_maybe, bare_function, bare_item, bare}
use Rattle.cpc_tree.specs.Syntax as S
use Rattle.cpc_tree.specs.Syntax.{Stmt, Stmts, NoStmt, AndStmt, MaybeStmt, Absent, Present, Function, Item, StructItem, GlobalItem, PrototypeItem, FunctionItem, Program}
use Rattle.cpc_tree.specs.Typing.{Scope, function_named}
use Rattle.cpc_meaning.specs.Threads.{is_cps_mode}
use Rattle.cpc_check_rules.specs.ItemRules.{item_breaks, items_breaks}
use Rattle.cpc_check_rules.specs.FunctionRules.{holds_underscores}
use Rattle.cpc_check_rules.specs.Operators.{is_cps}
use Rattle.cpc_check_laws.specs.Native.Native.{spawns_none, all_spawn_none, maybe_spawns_none, is_native_item, are_native}
use Rattle.cpc_check_laws.specs.Sound.Typed.{StepTyped, BodyTyped, AllTyped, ArmTyped, TypedProgram}
use Rattle.cpc_check_laws.proofs.Sound.Accepted.{accepted_is_typed, accepted_facts}
use Rattle.cpc_check_laws.proofs.Sound.Agendas.{Each}
use Rattle.cpc_check_laws.proofs.Sound.Agreement.{Facts}
use Rattle.cpc_check_laws.proofs.Sound.Grammar.{items_shape}
use Rattle.cpc_check_laws.proofs.Sound.Programs.{BodyShape, ItemShape}
use Rattle.cpc_check_laws.proofs.Sound.Shapes.{StepWritten, Written, AllWritten, MaybeWritten, all_first_written}
use Rattle.cpc_check_laws.proofs.Sound.Unbroken.{split}
use Rattle.cpc_convert_common.specs.Converted.{respawned, respawned_all, respawned_arm}
use Rattle.cpc_convert_common.specs.Members.{Has, OnTop, Below}
use Rattle.cpc_convert_routines.specs.Kept.{kept_function, item_unless, kept_items, routine_if, routines_in}
use Rattle.cpc_chains_event.specs.Converted.{converted_with}
use Rattle.cpc_lifted_laws.specs.Accepted.Names.{HasNames}
use Rattle.cpc_lifted_laws.proofs.Accepted.Names.{accepted_has_names}
use Rattle.cpc_lifted_laws.proofs.Accepted.Counts.{cps_same}
use Rattle.cpc_check_laws.specs.Run.Plain.{is_plain_stmt, are_plain, is_plain_arm, is_plain_function, is_plain}
use Rattle.cpc_check_laws.specs.Run.Shape.{is_step, is_shaped, all_shaped, is_shaped_arm, is_block, are_shaped}
use Rattle.cpc_check_laws.proofs.Run.Native.{native_is_plain}
use Rattle.cpc_lifted_laws.proofs.Native.Accepted.{one_more}
use Rattle.cpc_chains_laws.specs.Runs.Laws.{AcceptedIsNative}
use Rattle.cpc_lifted_laws.proofs.Runs.Signed.{item_declares}

-- ---- cps functions

-- a cps function among these items
abbrev pub CpsAmong : Program → Type 0
CpsAmong items = (f : Function) × Has (FunctionItem f) items × (is_cps_mode f.mode ≡ true)

later_cps : (p : Program) (i : Item) (items : Program) → (routines_in p items ≡ []) ⊎ CpsAmong items → (routines_in p items ≡ []) ⊎ CpsAmong (i ∷ items)
later_cps p i items (inl none) = inl none
later_cps p i items (inr (f, has, cps)) = inr (f, Below _ _ _ has, cps)

-- nothing is made, or there is a cps function
pub some_cps : (p items : Program) → (routines_in p items ≡ []) ⊎ CpsAmong items
some_cps p [] = inl refl
some_cps p (StructItem tag fs ∷ items) = later_cps p (StructItem tag fs) items (some_cps p items)
some_cps p (GlobalItem x t start ∷ items) = later_cps p (GlobalItem x t start) items (some_cps p items)
some_cps p (PrototypeItem m x r ps ∷ items) = later_cps p (PrototypeItem m x r ps) items (some_cps p items)
some_cps p (FunctionItem f ∷ items) = go (is_cps_mode f.mode) refl (later_cps p (FunctionItem f) items (some_cps p items))
  where
    go : (b : Bool) → is_cps_mode f.mode ≡ b → (routines_in p items ≡ []) ⊎ CpsAmong (FunctionItem f ∷ items) → (routine_if b p f (routines_in p items) ≡ []) ⊎ CpsAmong (FunctionItem f ∷ items)
    go true e rest = inr (f, OnTop _ _, e)
    go false e rest = rest

-- where nothing is made no function is cps
none_cps : (p items : Program) (f : Function) → routines_in p items ≡ [] → Has (FunctionItem f) items → is_cps_mode f.mode ≡ false
none_cps p [] f e has = elim has [ ]
none_cps p (StructItem tag fs ∷ items) f e (Below _ _ _ has) = none_cps p items f e has
none_cps p (GlobalItem x t start ∷ items) f e (Below _ _ _ has) = none_cps p items f e has
none_cps p (PrototypeItem m x r ps ∷ items) f e (Below _ _ _ has) = none_cps p items f e has
none_cps p (FunctionItem _ ∷ items) f e (OnTop _ _) = go (is_cps_mode f.mode) e
  where
    go : (b : Bool) → routine_if b p f (routines_in p items) ≡ [] → b ≡ false
    go true e = absurd (cc)
    go false e = refl
none_cps p (FunctionItem g ∷ items) f e (Below _ _ _ has) = go (is_cps_mode g.mode) e (λ i. none_cps p items f i has)
  where
    go : (b : Bool) → routine_if b p g (routines_in p items) ≡ [] → (routines_in p items ≡ [] → is_cps_mode f.mode ≡ false) → is_cps_mode f.mode ≡ false
    go true e rest = absurd (cc)
    go false e rest = rest e

-- ---- shapes

step_is : (r : MaybeLStmt) → StepWritten r → is_step r ≡ true
step_is NoneLStmt h = refl
step_is (SomeLStmt (Assign q o v op e)) h = refl
step_is (SomeLStmt (Call q o to f es)) h = refl
step_is (SomeLStmt (Detach q o k to f es)) h = refl
step_is (SomeLStmt _) h = absurd h

mutual
  shaped : (s : LStmt) → Written s → is_shaped s ≡ true
  shaped (Block q ss) h = all_are_shaped ss h
  shaped (If q c a r) h = and_holds _ _ (shaped a h.0) (arm_shaped r h.1)
  shaped (While q c a) h = shaped a h
  shaped (DoWhile q a c) h = shaped a h
  shaped (For q ss c r a) h = and_holds _ _ (all_are_shaped ss (all_first_written ss h.0)) (and_holds _ _ (step_is r h.1) (shaped a h.2))
  shaped (Label x a) h = shaped a h
  shaped _ h = refl

  all_are_shaped : (ss : LStmts) → AllWritten ss → all_shaped ss ≡ true
  all_are_shaped NoLStmt h = refl
  all_are_shaped (AndLStmt s ss) h = and_holds _ _ (shaped s h.0) (all_are_shaped ss h.1)

  arm_shaped : (r : MaybeLStmt) → MaybeWritten r → is_shaped_arm r ≡ true
  arm_shaped NoneLStmt h = refl
  arm_shaped (SomeLStmt s) h = shaped s h

body_shaped : (s : LStmt) → BodyShape s → (is_block s && is_shaped s) ≡ true
body_shaped (Block q ss) h = all_are_shaped ss h
body_shaped _ h = absurd h

items_shaped : (xs : List LItem) → Each ItemShape xs → are_shaped xs ≡ true
items_shaped [] h = refl
items_shaped (LStruct tag fs ∷ xs) h = items_shaped xs h.1
items_shaped (LGlobal x t start ∷ xs) h = items_shaped xs h.1
items_shaped (LPrototype q m x r ps ∷ xs) h = items_shaped xs h.1
items_shaped (LFunctionItem f ∷ xs) h = and_holds _ _ (body_shaped f.body h.0.2) (items_shaped xs h.1)

-- ---- spawns

module _ (p : Program) (none : (x : Text) (g : Function) → function_named p x ≡ Some g → is_cps g.mode ≡ false) (f : Function) where
  step_none : (scope : Scope) (r : MaybeLStmt) → StepTyped D.Cpc p f scope (bare_maybe r) → maybe_spawns_none r ≡ true
  step_none scope NoneLStmt h = refl
  step_none scope (SomeLStmt (Assign q o v op e)) h = refl
  step_none scope (SomeLStmt (Call q o to g es)) h = refl
  step_none scope (SomeLStmt (Detach q o k to g es)) h = refl
  step_none scope (SomeLStmt _) h = absurd h

  mutual
    none_there : (scope : Scope) (n : ℕ) (s : LStmt) → BodyTyped D.Cpc p f scope n (bare_stmt s) → spawns_none s ≡ true
    none_there scope n (Block q ss) h = none_in scope n ss h
    none_there scope n (Spawn q g es) h = absurd (let i : true ≡ false = sym h.1.3 ∙ none g.text h.1.0 h.1.1 in cc)
    none_there scope n (If q c a r) h = and_holds _ _ (none_there scope n a h.1) (none_arm _ _ r h.2)
    none_there scope n (While q c a) h = none_there scope n a h.1
    none_there scope n (DoWhile q a c) h = none_there scope n a h.0
    none_there scope n (For q ss c r a) h = and_holds _ _ (none_in scope n ss h.0) (and_holds _ _ (step_none _ r h.2) (none_there _ _ a h.3))
    none_there scope n (Label x a) h = none_there scope n a h
    none_there scope n _ h = refl

    none_in : (scope : Scope) (n : ℕ) (ss : LStmts) → AllTyped D.Cpc p f scope n (bare_stmts ss) → all_spawn_none ss ≡ true
    none_in scope n NoLStmt h = refl
    none_in scope n (AndLStmt s ss) h = and_holds _ _ (none_there scope n s h.0) (none_in _ _ ss h.1)

    none_arm : (scope : Scope) (n : ℕ) (r : MaybeLStmt) → ArmTyped D.Cpc p f scope n (bare_maybe r) → maybe_spawns_none r ≡ true
    none_arm scope n NoneLStmt h = refl
    none_arm scope n (SomeLStmt s) h = none_there scope n s h

-- ---- items

module _ (p : Program) (names : HasNames p) (typed : TypedProgram D.Cpc p) (facts : Facts p) (none : (x : Text) (g : Function) → function_named p x ≡ Some g → is_cps g.mode ≡ false) where
  mode_native : (before rest : Program) (x : LItem) → p ≡ before ++ bare_item x ∷ rest → item_breaks D.Cpc p before x ≡ [] → Has (bare_item x) p → is_native_item x ≡ true
  mode_native before rest (LStruct tag fs) whole h has = refl
  mode_native before rest (LGlobal x t start) whole h has = refl
  mode_native before rest (LPrototype q Cps x r ps) whole h has =
      let g = facts.function x.text Cps r _ (item_declares p before rest (LPrototype q Cps x r ps) whole h) refl in
      absurd (let i : true ≡ false = ap is_cps (sym g.2) ∙ none x.text g.0 g.1 in cc)
  mode_native before rest (LPrototype q Extern x r ps) whole h has = refl
  mode_native before rest (LPrototype q Native x r ps) whole h has = refl
  mode_native before rest (LPrototype q Detached x r ps) whole h has = refl
  mode_native before rest (LFunctionItem f) whole h has =
      let found = (names.functions (bare_function f) has).found in
      and_holds _ _ (ap not (none f.called.text (bare_function f) found)) (none_there p none (bare_function f) _ _ f.body (typed.functions f.called.text (bare_function f) found).body)

  items_native : (before : Program) (xs : List LItem) → p ≡ before ++ map bare_item xs → items_breaks D.Cpc p before xs ≡ [] → ((i : Item) → Has i (map bare_item xs) → Has i p) → are_native xs ≡ true
  items_native before [] whole h has = refl
  items_native before (x ∷ xs) whole h has =
      let k = split (item_breaks D.Cpc p before x) (items_breaks D.Cpc p (before ++ bare_item x ∷ []) xs) h in
      let e = one_more before (map bare_item xs) (bare_item x) in
      and_holds _ _ (mode_native before (map bare_item xs) x whole k.0 (has (bare_item x) (OnTop _ _))) (items_native (before ++ bare_item x ∷ []) xs (whole ∙ sym e) k.1 (λ i a. has i (Below _ _ _ a)))

-- ---- the event program

mutual
  same_stmt : (s : Stmt) → is_plain_stmt s ≡ true → respawned s ≡ s
  same_stmt (S.Block ss) h = ap (λ ss. S.Block ss) (same_stmts ss h)
  same_stmt (S.Spawn g es) h = absurd (cc)
  same_stmt (S.If t a b) h = ap (λ a. S.If t a (respawned_arm b)) (same_stmt a (and_first (is_plain_stmt a) (is_plain_arm b) h)) ∙ ap (λ b. S.If t a b) (same_arm b (and_second (is_plain_stmt a) (is_plain_arm b) h))
  same_stmt (S.While t s) h = ap (λ s. S.While t s) (same_stmt s h)
  same_stmt (S.DoWhile s t) h = ap (λ s. S.DoWhile s t) (same_stmt s h)
  same_stmt (S.For first t step s) h =
      let k = and_second (are_plain first) (is_plain_arm step && is_plain_stmt s) h in
      ap (λ ss. S.For ss t (respawned_arm step) (respawned s)) (same_stmts first (and_first (are_plain first) (is_plain_arm step && is_plain_stmt s) h))
      ∙ (ap (λ r. S.For first t r (respawned s)) (same_arm step (and_first (is_plain_arm step) (is_plain_stmt s) k)) ∙ ap (λ s. S.For first t step s) (same_stmt s (and_second (is_plain_arm step) (is_plain_stmt s) k)))
  same_stmt (S.Label l s) h = ap (λ s. S.Label l s) (same_stmt s h)
  same_stmt _ h = refl

  same_stmts : (ss : Stmts) → are_plain ss ≡ true → respawned_all ss ≡ ss
  same_stmts NoStmt h = refl
  same_stmts (AndStmt s ss) h = ap (λ s. AndStmt s (respawned_all ss)) (same_stmt s (and_first (is_plain_stmt s) (are_plain ss) h)) ∙ ap (λ ss. AndStmt s ss) (same_stmts ss (and_second (is_plain_stmt s) (are_plain ss) h))

  same_arm : (b : MaybeStmt) → is_plain_arm b ≡ true → respawned_arm b ≡ b
  same_arm Absent h = refl
  same_arm (Present s) h = ap (λ s. Present s) (same_stmt s h)

same_items : (items : Program) → is_plain items ≡ true → kept_items items ≡ items
same_items [] h = refl
same_items (StructItem tag fs ∷ items) h = ap (λ xs. StructItem tag fs ∷ xs) (same_items items h)
same_items (GlobalItem x t start ∷ items) h = ap (λ xs. GlobalItem x t start ∷ xs) (same_items items h)
same_items (PrototypeItem m x r ps ∷ items) h =
    ap (λ b. item_unless b (PrototypeItem m x r ps) (kept_items items)) (cps_same m ∙ not_holds (is_cps m) (and_first (not (is_cps m)) (is_plain items) h))
    ∙ ap (λ xs. PrototypeItem m x r ps ∷ xs) (same_items items (and_second (not (is_cps m)) (is_plain items) h))
same_items (FunctionItem f ∷ items) h =
    let k = and_first (is_plain_function f) (is_plain items) h in
    let mode = and_first (not (is_cps f.mode)) _ k in
    let body = and_second (not (holds_underscores f.called)) (is_plain_stmt f.body) (and_second (not (is_cps f.mode)) _ k) in
    ap (λ b. item_unless b (FunctionItem (kept_function f)) (kept_items items)) (cps_same f.mode ∙ not_holds (is_cps f.mode) mode)
    ∙ (ap (λ s. FunctionItem (record f { body = s }) ∷ kept_items items) (same_stmt f.body body) ∙ ap (λ xs. FunctionItem f ∷ xs) (same_items items (and_second (is_plain_function f) (is_plain items) h)))

pub native_converted : AcceptedIsNative
native_converted list end p read unbroken none =
    let names = accepted_has_names list end p read unbroken in
    let no_cps : (x : Text) (g : Function) → function_named (bare p) x ≡ Some g → is_cps g.mode ≡ false = λ x g e. sym (cps_same g.mode) ∙ none_cps (bare p) (bare p) g none (names.there x g e).0 in
    let k = split (items_breaks D.Cpc (bare p) [] p.items) _ unbroken in
    let native = items_native (bare p) names (accepted_is_typed D.Cpc list end p read unbroken) (accepted_facts D.Cpc list end p read unbroken) no_cps [] p.items refl k.0 (λ i a. a) in
    let plain = native_is_plain p (items_shaped p.items (items_shape list p.items read.1 read.3)) unbroken native in
    record { plain = plain; same = ap (converted_with (bare p)) none ∙ same_items (bare p) plain }
