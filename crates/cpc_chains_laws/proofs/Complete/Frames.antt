-- The statements that make, fill, take up, give back and patch frames break no rule, nor do those that wait and return.
use Rattle.std.proofs.Common.{◌≡◌, true, false, List, [], ◌∷◌, ◌++◌, map, codes, pos, ℕ, Some, None, refl, sym, ap, subst}
use Rattle.cpc_base.specs.Bytes.{Text}
use Rattle.cpc_base.specs.declared.stop.Dialect.TheVariants as D
use Rattle.cpc_base.proofs.Truth.{by_false_true}
use Rattle.cpc_num.specs.declared.kinds.Kind.TheVariants.{Int, Long, ULong}
use Rattle.cpc_tree.specs.declared.program.Mode.TheVariants.{Native}
use Rattle.cpc_tree.specs.Syntax.{Ty, TyVoid, TyInt, TyCondvar, TyPointer, TyCode, TyStruct, TyArray, Expr, ENamed, ESizeOf, EArrow, EInteger, Exprs, NoExpr, AndExpr, Assign, Call, Return}
use Rattle.cpc_tree.specs.Typing.{ALocal, AFunction, NotMeant, Typed, AValue, APlace, used, field, is_scalar, function_type}
use Rattle.cpc_tree.specs.Primitives.{Primitive, Sleep, IoWait, Wait, Yield, RtFrame, RtBox, RtFrameFree, RtUnbox, RtReady, RtWait, RtSleep, RtIo, primitive_named, takes_first, any_pointer}
use Rattle.cpc_check_rules.specs.Scopes.{meant, measured, takes_value}
use Rattle.cpc_check_rules.specs.Operators.{Where, is_detached}
use Rattle.cpc_check_rules.specs.Calls.{Wanted, Of, Callback, wanted_of, gives, gives_up}
use Rattle.cpc_check_rules.specs.StmtRules.{is_writable, is_void, stmt_breaks}
use Rattle.cpc_check_laws.proofs.Native.OnePlace.{stmt_here}
use Rattle.cpc_convert_image_laws.specs.Images.{followed}
use Rattle.cpc_convert_flat_laws.specs.Locals.{Save, saves_one}
use Rattle.cpc_chains_store_laws.specs.Frames.{frame_through, asks_block, frees_frame, Give, gives_one}
use Rattle.cpc_convert_flat_laws.specs.Boxes.{boxes_one, fills_box, unboxes_one}
use Rattle.cpc_chains_store_laws.specs.Driver.{code_field, next_field, value_field, piece_type, is_set, patches, readies}
use Rattle.cpc_lifted_laws.specs.Complete.Sets.{Has, Sets, Writes, Suits, AllSuit, NoneSuits, AndSuits, is_simple}
use Rattle.cpc_lifted_laws.proofs.Complete.Makers.{scalar_used, takes_itself, local_has, code_has, arrow_has, cast_has, size_has, set_has, local_sets, null_sets, test_fine, sets_suits, callback_suits}
use Rattle.cpc_lifted_laws.proofs.Complete.Rows.{assign_fine, if_fine, return_fine, primitive_fine}

-- the primitive of the dialect Event that stands for a wait
abbrev pub runtime : Primitive → Primitive
runtime Sleep = RtSleep
runtime IoWait = RtIo
runtime Wait = RtWait
runtime prim = RtReady

-- what takes a callback and its pointer
abbrev pub of_driver : Ty
of_driver = function_type TyVoid (any_pointer ∷ TyInt Int ∷ [])

pub writable_scalar : (t : Ty) → is_scalar t ≡ true → is_writable (APlace t) ≡ true
writable_scalar (TyInt k) h = refl
writable_scalar TyCondvar h = refl
writable_scalar (TyPointer t) h = refl
writable_scalar (TyCode r ts) h = refl
writable_scalar TyVoid h = by_false_true h
writable_scalar (TyStruct tag) h = by_false_true h
writable_scalar (TyArray t n) h = by_false_true h

pub takes_any : (t : Ty) → takes_value (TyPointer t) false any_pointer ≡ true
takes_any TyVoid = refl
takes_any _ = refl

-- what it takes: as the wait does, and then a callback and its pointer
runtime_takes : (prim : Primitive) → gives_up prim ≡ true → map wanted_of (takes_first (runtime prim)) ≡ map wanted_of (takes_first prim) ++ Callback of_driver ∷ Of any_pointer ∷ []
runtime_takes Yield h = refl
runtime_takes Sleep h = refl
runtime_takes IoWait h = refl
runtime_takes Wait h = refl
runtime_takes _ h = by_false_true h

runtime_stays : (prim : Primitive) → gives_up (runtime prim) ≡ false
runtime_stays Sleep = refl
runtime_stays IoWait = refl
runtime_stays Wait = refl
runtime_stays _ = refl

runtime_simple : (prim : Primitive) → is_simple (runtime prim) ≡ true
runtime_simple Sleep = refl
runtime_simple IoWait = refl
runtime_simple Wait = refl
runtime_simple _ = refl

runtime_gives : (prim : Primitive) → gives (runtime prim) ≡ TyVoid
runtime_gives Sleep = refl
runtime_gives IoWait = refl
runtime_gives Wait = refl
runtime_gives _ = refl

module _ (v : Where) (dialect : v.dialect ≡ D.Event) (closed : is_detached v.mode ≡ false) (free : (x : Text) (prim : Primitive) → primitive_named x ≡ Some prim → meant v.scope x ≡ NotMeant) where
  -- ---- pointers

  pub pointer_sets : (x : Text) (k : ℕ) (u : Ty) → meant v.scope x ≡ ALocal k (TyPointer u) → Sets v any_pointer (ENamed x)
  pointer_sets x k u e = record { type = APlace (TyPointer u); has = local_has v x k (TyPointer u) e; takes = refl }

  pub pointer_writes : (x : Text) (k : ℕ) (u : Ty) → meant v.scope x ≡ ALocal k (TyPointer u) → Writes v (TyPointer u) (ENamed x)
  pointer_writes x k u e = record { has = local_has v x k (TyPointer u) e; writable = refl }

  -- a local of a scalar type may be written
  pub local_writes : (x : Text) (k : ℕ) (t : Ty) → is_scalar t ≡ true → meant v.scope x ≡ ALocal k t → Writes v t (ENamed x)
  local_writes x k t s e = record { has = local_has v x k t e; writable = writable_scalar t s }

  -- a field of a scalar type, of what a pointer points to
  pub field_writes : (e : Expr) (d : Typed) (tag x : Text) (n : ℕ) (t : Ty) → Has v e d → used d ≡ Some (TyPointer (TyStruct tag)) → field v.scope.items tag x ≡ Some (n, t) → is_scalar t ≡ true → Writes v t (EArrow e x)
  field_writes e d tag x n t h i f s = record { has = arrow_has v e d tag x n t h i f; writable = writable_scalar t s }

  -- and its value
  pub field_sets : (e : Expr) (d : Typed) (tag x : Text) (n : ℕ) (t : Ty) → Has v e d → used d ≡ Some (TyPointer (TyStruct tag)) → field v.scope.items tag x ≡ Some (n, t) → is_scalar t ≡ true → Sets v t (EArrow e x)
  field_sets e d tag x n t h i f s = record { type = APlace t; has = arrow_has v e d tag x n t h i f; takes = rw (scalar_used t s) (takes_itself t s) }

  pub through_has : (to tag : Text) (k : ℕ) (u : Ty) → meant v.scope to ≡ ALocal k (TyPointer u) → Has v (frame_through to tag) (AValue (TyPointer (TyStruct tag)))
  through_has to tag k u e = cast_has v (ENamed to) (APlace (TyPointer u)) (TyStruct tag) u (local_has v to k (TyPointer u) e) refl

  -- ---- blocks

  -- `x = rt_frame(sizeof(t));` and `x = rt_box(sizeof(t));`
  makes_fine : (x name : Text) (k n : ℕ) (u t : Ty) (prim : Primitive) → primitive_named name ≡ Some prim → gives_up prim ≡ false → is_simple prim ≡ true → gives prim ≡ any_pointer → map wanted_of (takes_first prim) ≡ Of (TyInt Long) ∷ []
      → meant v.scope x ≡ ALocal k (TyPointer u) → measured v.scope t ≡ Some n → stmt_breaks v (stmt_here (Call (Some (ENamed x)) (ENamed name) (AndExpr (ESizeOf t) NoExpr))) ≡ []
  makes_fine x name k n u t prim i g s j takes e m =
      let sets : Sets v (TyInt Long) (ESizeOf t) = record { type = AValue (TyInt ULong); has = size_has v t n m; takes = refl } in
      primitive_fine v (Some (ENamed x)) name (AndExpr (ESizeOf t) NoExpr) prim dialect closed (free name prim i) i g s
      (subst (λ ws. AllSuit v ws (AndExpr (ESizeOf t) NoExpr)) (sym takes) (AndSuits (Of (TyInt Long)) [] (ESizeOf t) NoExpr (sets_suits v (TyInt Long) (ESizeOf t) sets) NoneSuits))
      (TyPointer u, pointer_writes x k u e, subst (λ t. takes_value (TyPointer u) false t ≡ true) (sym j) (takes_any u))

  pub asks_fine : (to tag : Text) (k n : ℕ) (u : Ty) → meant v.scope to ≡ ALocal k (TyPointer u) → measured v.scope (TyStruct tag) ≡ Some n → stmt_breaks v (stmt_here (asks_block to tag)) ≡ []
  asks_fine to tag k n u e m = makes_fine to (codes "rt_frame") k n u (TyStruct tag) RtFrame refl refl refl refl refl e m

  pub boxes_fine : (x : Text) (k n : ℕ) (u t : Ty) → meant v.scope x ≡ ALocal k (TyPointer u) → measured v.scope t ≡ Some n → stmt_breaks v (stmt_here (boxes_one x (ESizeOf t))) ≡ []
  boxes_fine x k n u t e m = makes_fine x (codes "rt_box") k n u t RtBox refl refl refl refl refl e m

  -- `rt_frame_free(x);` and `rt_unbox(x);`
  gives_back : (x name : Text) (k : ℕ) (u : Ty) (prim : Primitive) → primitive_named name ≡ Some prim → gives_up prim ≡ false → is_simple prim ≡ true → map wanted_of (takes_first prim) ≡ Of any_pointer ∷ []
      → meant v.scope x ≡ ALocal k (TyPointer u) → stmt_breaks v (stmt_here (Call None (ENamed name) (AndExpr (ENamed x) NoExpr))) ≡ []
  gives_back x name k u prim i g s takes e =
      primitive_fine v None name (AndExpr (ENamed x) NoExpr) prim dialect closed (free name prim i) i g s
      (subst (λ ws. AllSuit v ws (AndExpr (ENamed x) NoExpr)) (sym takes) (AndSuits (Of any_pointer) [] (ENamed x) NoExpr (sets_suits v any_pointer (ENamed x) (pointer_sets x k u e)) NoneSuits)) tt

  pub frees_fine : (x : Text) (k : ℕ) (u : Ty) → meant v.scope x ≡ ALocal k (TyPointer u) → stmt_breaks v (stmt_here (frees_frame x)) ≡ []
  frees_fine x k u e = gives_back x (codes "rt_frame_free") k u RtFrameFree refl refl refl refl e

  pub unboxes_fine : (x : Text) (k : ℕ) (u : Ty) → meant v.scope x ≡ ALocal k (TyPointer u) → stmt_breaks v (stmt_here (unboxes_one x)) ≡ []
  unboxes_fine x k u e = gives_back x (codes "rt_unbox") k u RtUnbox refl refl refl refl e

  -- ---- fields

  -- a value into a field of a scalar type
  pub gives_fine : (f : Expr) (d : Typed) (tag : Text) (g : Give) (n : ℕ) (t : Ty) → Has v f d → used d ≡ Some (TyPointer (TyStruct tag)) → field v.scope.items tag g.field ≡ Some (n, t) → is_scalar t ≡ true → Sets v t g.expression
      → stmt_breaks v (stmt_here (gives_one f g)) ≡ []
  gives_fine f d tag g n t h i j s k = assign_fine v t (EArrow f g.field) g.expression (field_writes f d tag g.field n t h i j s) k

  -- a local into a field of its type
  pub saves_fine : (f : Expr) (d : Typed) (tag : Text) (p : Save) (n k : ℕ) (t : Ty) → Has v f d → used d ≡ Some (TyPointer (TyStruct tag)) → field v.scope.items tag p.field ≡ Some (n, t) → is_scalar t ≡ true → meant v.scope p.variable ≡ ALocal k t
      → stmt_breaks v (stmt_here (saves_one f p)) ≡ []
  saves_fine f d tag p n k t h i j s e = assign_fine v t (EArrow f p.field) (ENamed p.variable) (field_writes f d tag p.field n t h i j s) (local_sets v p.variable k t s e)

  -- the code of a piece into the field of a frame's code
  pub code_fine : (f : Expr) (d : Typed) (tag piece : Text) (n : ℕ) → Has v f d → used d ≡ Some (TyPointer (TyStruct tag)) → field v.scope.items tag code_field ≡ Some (n, piece_type) → meant v.scope piece ≡ AFunction Native any_pointer (any_pointer ∷ [])
      → stmt_breaks v (stmt_here (Assign (EArrow f code_field) None (ENamed piece))) ≡ []
  code_fine f d tag piece n h i j e =
      assign_fine v piece_type (EArrow f code_field) (ENamed piece) (field_writes f d tag code_field n piece_type h i j refl) (record { type = AValue piece_type; has = code_has v piece any_pointer (any_pointer ∷ []) closed e; takes = refl })

  -- a pointer into the field of the frame below
  pub next_fine : (f : Expr) (d : Typed) (tag : Text) (below : Expr) (n : ℕ) → Has v f d → used d ≡ Some (TyPointer (TyStruct tag)) → field v.scope.items tag next_field ≡ Some (n, any_pointer) → Sets v any_pointer below
      → stmt_breaks v (stmt_here (Assign (EArrow f next_field) None below)) ≡ []
  next_fine f d tag below n h i j k = assign_fine v any_pointer (EArrow f next_field) below (field_writes f d tag next_field n any_pointer h i j refl) k

  -- `if (next != 0) next->value__ = e;`
  pub patches_fine : (next tag : Text) (k n : ℕ) (t : Ty) (e : Expr) → meant v.scope next ≡ ALocal k (TyPointer (TyStruct tag)) → field v.scope.items tag value_field ≡ Some (n, t) → is_scalar t ≡ true → Sets v t e → stmt_breaks v (stmt_here (patches next e)) ≡ []
  patches_fine next tag k n t e i j s h =
      let has = local_has v next k (TyPointer (TyStruct tag)) i in
      if_fine v (is_set next) (Assign (EArrow (ENamed next) value_field) None e) (test_fine v (is_set next) (AValue (TyInt Int)) (TyInt Int) (set_has v (ENamed next) (APlace (TyPointer (TyStruct tag))) (TyStruct tag) has refl) refl refl)
      (assign_fine v t (EArrow (ENamed next) value_field) e (field_writes (ENamed next) (APlace (TyPointer (TyStruct tag))) tag value_field n t has refl j s) h)

  -- an argument into its box: `x->y = frame->z;`
  pub fills_fine : (x y frame z box tag : Text) (j k m n : ℕ) (t : Ty) → meant v.scope x ≡ ALocal j (TyPointer (TyStruct box)) → field v.scope.items box y ≡ Some (m, t) → meant v.scope frame ≡ ALocal k (TyPointer (TyStruct tag)) → field v.scope.items tag z ≡ Some (n, t) → is_scalar t ≡ true
      → stmt_breaks v (stmt_here (fills_box x y frame z)) ≡ []
  fills_fine x y frame z box tag j k m n t e f g h s =
      assign_fine v t (EArrow (ENamed x) y) (EArrow (ENamed frame) z) (field_writes (ENamed x) (APlace (TyPointer (TyStruct box))) box y m t (local_has v x j (TyPointer (TyStruct box)) e) refl f s)
      (field_sets (ENamed frame) (APlace (TyPointer (TyStruct tag))) tag z n t (local_has v frame k (TyPointer (TyStruct tag)) g) refl h s)

  -- ---- waits and returns

  followed_suit : (ws : List Wanted) (es : Exprs) (t u : Wanted) (a b : Expr) → AllSuit v ws es → Suits v t a → Suits v u b → AllSuit v (ws ++ t ∷ u ∷ []) (followed es a b)
  followed_suit _ _ t u a b NoneSuits h k = AndSuits t (u ∷ []) a (AndExpr b NoExpr) h (AndSuits u [] b NoExpr k NoneSuits)
  followed_suit _ _ t u a b (AndSuits w ws e es s more) h k = AndSuits w (ws ++ t ∷ u ∷ []) e (followed es a b) s (followed_suit ws es t u a b more h k)

  -- a wait of the driver, for what the wait of the source takes
  pub wait_fine : (prim : Primitive) (name drive to : Text) (es : Exprs) (k : ℕ) (u : Ty) → gives_up prim ≡ true → primitive_named name ≡ Some (runtime prim) → meant v.scope drive ≡ AFunction Native TyVoid (any_pointer ∷ TyInt Int ∷ []) → meant v.scope to ≡ ALocal k (TyPointer u)
      → AllSuit v (map wanted_of (takes_first prim)) es → stmt_breaks v (stmt_here (Call None (ENamed name) (followed es (ENamed drive) (ENamed to)))) ≡ []
  wait_fine prim name drive to es k u g i d e h =
      primitive_fine v None name (followed es (ENamed drive) (ENamed to)) (runtime prim) dialect closed (free name (runtime prim) i) i (runtime_stays prim) (runtime_simple prim)
      (subst (λ ws. AllSuit v ws (followed es (ENamed drive) (ENamed to))) (sym (runtime_takes prim g))
      (followed_suit (map wanted_of (takes_first prim)) es (Callback of_driver) (Of any_pointer) (ENamed drive) (ENamed to) h (callback_suits v drive closed d) (sets_suits v any_pointer (ENamed to) (pointer_sets to k u e)))) tt

  -- `rt_ready(drive__, x);`
  pub readies_fine : (x : Text) (k : ℕ) (u : Ty) → meant v.scope (codes "drive__") ≡ AFunction Native TyVoid (any_pointer ∷ TyInt Int ∷ []) → meant v.scope x ≡ ALocal k (TyPointer u) → stmt_breaks v (stmt_here (readies x)) ≡ []
  readies_fine x k u d e = wait_fine Yield (codes "rt_ready") (codes "drive__") x NoExpr k u refl refl d e NoneSuits

  pub hands_fine : (x : Text) (k : ℕ) (u : Ty) → v.result ≡ any_pointer → meant v.scope x ≡ ALocal k (TyPointer u) → stmt_breaks v (stmt_here (Return (Some (ENamed x)))) ≡ []
  hands_fine x k u r e = return_fine v (ENamed x) (ap is_void r) (subst (λ t. Sets v t (ENamed x)) (sym r) (pointer_sets x k u e))

  pub nothing_fine : v.result ≡ any_pointer → stmt_breaks v (stmt_here (Return (Some (EInteger Int (pos 0))))) ≡ []
  nothing_fine r = return_fine v (EInteger Int (pos 0)) (ap is_void r) (subst (λ t. Sets v t (EInteger Int (pos 0))) (sym r) (null_sets v any_pointer refl))
