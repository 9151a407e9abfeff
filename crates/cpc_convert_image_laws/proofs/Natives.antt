-- Native code does the same beside frames.
use Rattle.std.proofs.Common.{◌≡◌, ℕ, true, List, Option, Some, None, slice_get, refl, sym, ◌∙◌, ap, subst}
use Rattle.std.specs.List.{All}
use Rattle.cpc_base.specs.Bytes.{Text}
use Rattle.cpc_tree.specs.declared.program.UnaryOp.TheVariants.{AddressOf}
use Rattle.cpc_tree.specs.Syntax.{Ty, TyVoid, Expr, ENamed, EInteger, ECharacter, EText, EUnary, EBinary, EAnd, EOr, EChoose, ECast, ESizeOf, EIndex, EMember, EArrow, ECall, Exprs, NoExpr, AndExpr, Stmt, Empty, Declare, Assign, Call, Detach, Spawn, Return, Function, Program}
use Rattle.cpc_tree.specs.Points.{Found as Standing, Simple, Test, Nothing}
use Rattle.cpc_tree.specs.Typing.{Scope, Meant, ALocal, named, AFunction, function_named, parameter_types}
use Rattle.cpc_tree.specs.declared.program.Mode.TheVariants.{Native}
use Rattle.cpc_store.specs.Store.{Value, Unset, Store, Blocks}
use Rattle.cpc_meaning.specs.Answer.{Answer, Gives, ◌>>=◌}
use Rattle.cpc_meaning.specs.Eval.{Slot, Register, Boxed, Context, value, assigned}
use Rattle.cpc_meaning.specs.Act.{Stood, AtStatement, AtArrival, AtEnd, Act, GoesOn, Leaves, deliver, assigns, calls_expr, leaves, returns, simple_act, test_act, arrives, act, spawns}
use Rattle.cpc_meaning.proofs.SameValues.{at}
use Rattle.cpc_meaning.specs.Names.{AllNames, AllNamesIf, AllNamesAmong, AllNamesOf, AllNamesFound, AllNamesStood}
use Rattle.cpc_meaning.proofs.Chained.{then_assoc}
use Rattle.cpc_convert_image_laws.specs.Images.{image, images, image_if}
use Rattle.cpc_convert_image_laws.specs.InPlace.{IsWritten, IsWrittenIf, IsCalledInPlace}
use Rattle.cpc_convert_image_laws.specs.Native.{stays, IsSelf, KeptItem, KeptGlobal, KeptFunction, LeftOut, KeptNothing, KeptName, KeptLocal, KeptAsItem, IsNative, IsArrival, IsNativeStood, IsHeldIf}
use Rattle.cpc_convert_image_laws.specs.Held.{IsHeld, IsHeldSlot, IsHeldStore, beside}
use Rattle.cpc_convert_image_laws.specs.Relations.{Common, Meets, BothGive, Stuck, Same, Means, StaysRegister, StaysBox, StaysNowhere, StaysGlobal, StaysFunction, IsCps, StaysNothing, StoreBeside, InBoth, SameAct, BothLeave, OneToOne, SpawnAct}
use Rattle.cpc_convert_image_laws.proofs.Answers.{same_then, meets_then}
use Rattle.cpc_convert_image_laws.proofs.Acts.{assigned_alike, assigns_alike, passes_alike, arrives_alike, test_alike}
use Rattle.cpc_convert_image_laws.proofs.Calls.{calls_expr_alike}
use Rattle.cpc_convert_image_laws.proofs.Statements.{spawn_alike}
use Rattle.cpc_convert_image_laws.proofs.Beside.{slots_free}

-- ---- images that stay

mutual
  pub same_image : (e : Expr) → image stays e ≡ e
  same_image (ENamed x) = refl
  same_image (EInteger kind z) = refl
  same_image (ECharacter z) = refl
  same_image (EText bytes) = refl
  same_image (EUnary AddressOf (ENamed x)) = refl
  same_image (EUnary sign e) = ap (λ d. EUnary sign d) (same_image e)
  same_image (EBinary op a b) = ap (λ d. EBinary op d (image stays b)) (same_image a) ∙ ap (λ d. EBinary op a d) (same_image b)
  same_image (EAnd a b) = ap (λ d. EAnd d (image stays b)) (same_image a) ∙ ap (λ d. EAnd a d) (same_image b)
  same_image (EOr a b) = ap (λ d. EOr d (image stays b)) (same_image a) ∙ ap (λ d. EOr a d) (same_image b)
  same_image (EChoose t a b) = ap (λ d. EChoose d (image stays a) (image stays b)) (same_image t) ∙ (ap (λ d. EChoose t d (image stays b)) (same_image a) ∙ ap (λ d. EChoose t a d) (same_image b))
  same_image (ECast t e) = ap (λ d. ECast t d) (same_image e)
  same_image (ESizeOf t) = refl
  same_image (EIndex a i) = ap (λ d. EIndex d (image stays i)) (same_image a) ∙ ap (λ d. EIndex a d) (same_image i)
  same_image (EMember e x) = ap (λ d. EMember d x) (same_image e)
  same_image (EArrow e x) = ap (λ d. EArrow d x) (same_image e)
  same_image (ECall f es) = ap (λ d. ECall d (images stays es)) (same_image f) ∙ ap (λ d. ECall f d) (same_images es)

  pub same_images : (es : Exprs) → images stays es ≡ es
  same_images NoExpr = refl
  same_images (AndExpr e es) = ap (λ d. AndExpr d (images stays es)) (same_image e) ∙ ap (λ d. AndExpr e d) (same_images es)

same_if : (o : Option Expr) → image_if stays o ≡ o
same_if None = refl
same_if (Some e) = ap (λ d. Some d) (same_image e)

-- ---- names

pub self_one : OneToOne IsSelf
self_one = record { forth = λ k k' j j' t u e f i. sym e ∙ (i ∙ f); back = λ k k' j j' t u e f i. e ∙ (i ∙ sym f) }

pub item_means : (C : Text → Type 0) (P : ℕ → Ty → ℕ → Type 0) (q : Program) (scope : Scope) (slots slots' : List Slot) (x : Text) (m m' : Meant) → KeptItem C x m m' → named q scope x ≡ m' → Means C P q scope slots slots' x None m
item_means C P q scope slots slots' x _ _ (KeptGlobal b t) n = StaysGlobal b t n
item_means C P q scope slots slots' x _ _ (KeptFunction mode t ts h) n = StaysFunction mode t ts n h
item_means C P q scope slots slots' x _ _ (LeftOut t ts m) n = IsCps t ts
item_means C P q scope slots slots' x _ _ KeptNothing n = StaysNothing n

pub kept_means : (C : Text → Type 0) (q : Program) (scope : Scope) (slots : List Slot) (x : Text) (m m' : Meant) → KeptName C x m m' → named q scope x ≡ m' → Means C IsSelf q scope slots slots x None m
kept_means C q scope slots x _ _ (KeptLocal k t) n = go (slice_get slots k) refl
  where
    go : (o : Option Slot) → slice_get slots k ≡ o → Means C IsSelf q scope slots slots x None (ALocal k t)
    go None e = StaysNowhere k k t e n
    go (Some (Register v)) e = StaysRegister k k t v refl e n e
    go (Some (Boxed b)) e = StaysBox k k t b refl e n e
kept_means C q scope slots x _ _ (KeptAsItem m m' h) n = item_means C IsSelf q scope slots slots x m m' h n

module _ (C : Text → Type 0) (R : Function → Function → Type 0) (p q : Program) (common : Common C R p q) (L : Text → Type 0) (scope : Scope) (slots : List Slot) (names : (x : Text) → L x → KeptName C x (named p scope x) (named q scope x)) (s : Store) (source : IsHeldStore C s) (held : All (IsHeldSlot C) slots) (frames : Blocks) where
  abbrev here : Context
  here = at p scope slots s

  abbrev there : Context
  there = at q scope slots (beside frames s)

  abbrev BothAct : Answer Act → Answer Act → Type 0
  BothAct a b = Meets (SameAct C R IsSelf frames slots slots) a b

  abbrev Act' : Act → Act → Type 0
  Act' = SameAct C R IsSelf frames slots slots

  means : (x : Text) → L x → Means C IsSelf q scope slots slots x (stays x) (named p scope x)
  means x l = kept_means C q scope slots x _ _ (names x l) refl

  native_passes : BothAct (simple_act here TyVoid Empty) (simple_act there TyVoid Empty)
  native_passes = passes_alike C R IsSelf p q common L stays scope scope slots slots means s source held (λ x. tt) frames true

  native_assigns : (x e : Expr) → IsWritten here x → AllNames L x → AllNames L e → BothAct (assigns here x e) (assigns there x e)
  native_assigns x e h l m =
      subst (λ y. BothAct (assigns here x e) (assigns there y e)) (same_image x)
      (subst (λ y. BothAct (assigns here x e) (assigns there (image stays x) y)) (same_image e) (assigns_alike C R IsSelf p q common L stays scope scope slots slots means s source held (λ x. tt) frames x e h l m))

  native_calls : (f : Expr) (es : Exprs) → IsCalledInPlace here f → AllNames L f → AllNamesAmong L es → BothAct (calls_expr here f es) (calls_expr there f es)
  native_calls f es h l m =
      subst (λ y. BothAct (calls_expr here f es) (calls_expr there y es)) (same_image f)
      (subst (λ ys. BothAct (calls_expr here f es) (calls_expr there (image stays f) ys)) (same_images es) (calls_expr_alike C R IsSelf p q common L stays scope scope slots slots means s source held (λ x. tt) frames f es h l m))

  native_test : (o : Option Expr) → AllNamesIf L o → BothAct (test_act here o) (test_act there o)
  native_test o l = subst (λ y. BothAct (test_act here o) (test_act there y)) (same_if o) (test_alike C R IsSelf p q common L stays scope scope slots slots means s source held (λ x. tt) frames o l)

  native_value : (t : Ty) (e : Expr) → AllNames L e → Meets (Same (IsHeld C)) (value here e >>= assigned t) (value there e >>= assigned t)
  native_value t e l = subst (λ y. Meets (Same (IsHeld C)) (value here e >>= assigned t) (value there y >>= assigned t)) (same_image e) (assigned_alike C R IsSelf p q common L stays scope scope slots slots means s source held (λ x. tt) frames t e l)

  native_leaves : (v : Value) → IsHeld C v → BothAct (leaves here v) (leaves there v)
  native_leaves v h = meets_then (StoreBeside C frames) Act' _ _ _ _ (slots_free C frames slots s source) left
    where
      left : (x y : Store) → StoreBeside C frames x y → BothAct (Gives (Leaves v x)) (Gives (Leaves v y))
      left _ _ (InBoth t on) = BothGive _ _ (BothLeave v t on h)

  left_with : (a b : Answer Value) → Meets (Same (IsHeld C)) a b → BothAct (a >>= leaves here) (b >>= leaves there)
  left_with a b h = same_then (IsHeld C) Act' _ _ _ _ h λ v i. native_leaves v i

  native_returns : (result : Ty) (o : Option Expr) → AllNamesIf L o → BothAct (returns here result o) (returns there result o)
  native_returns result None l = native_leaves Unset tt
  native_returns result (Some e) l =
      rw (then_assoc (value here e) (assigned result) (leaves here), then_assoc (value there e) (assigned result) (leaves there))
      (left_with _ _ (native_value result e l))

  pub native_simple : (result : Ty) (st : Stmt) → IsNative here st → AllNamesOf L st → BothAct (simple_act here result st) (simple_act there result st)
  native_simple result (Declare x t None) h l = native_passes
  native_simple result (Declare x t (Some e)) h l = native_assigns (ENamed x) e h l.0 l.1
  native_simple result (Assign e None v) h l = native_assigns e v h l.0 l.1
  native_simple result (Assign e (Some op) v) h l = native_assigns e (EBinary op e v) h l.0 (l.0, l.1)
  native_simple result (Call to f es) h l = native_calls f es h l.1 l.2
  native_simple result (Detach to f es) h l = absurd (cc)
  native_simple result (Spawn f es) h l = absurd (cc)
  native_simple result (Return o) h l = native_returns result o l
  native_simple result st h l = native_passes

  -- a value arrives at a place
  native_delivers : (o : Option Expr) (v : Value) → IsWrittenIf here o → AllNamesIf L o → IsHeld C v
      → BothAct (deliver here o v >>= λ w. Gives (GoesOn true w.1 w.0)) (deliver there o v >>= λ w. Gives (GoesOn true w.1 w.0))
  native_delivers o v h l i =
      subst (λ y. BothAct (deliver here o v >>= λ w. Gives (GoesOn true w.1 w.0)) (deliver there y v >>= λ w. Gives (GoesOn true w.1 w.0))) (same_if o)
      (arrives_alike C R IsSelf p q common L stays scope scope slots slots means s source held (λ x. tt) frames o v h l i)

  pub native_arrives : (f : Standing) (o : Option Value) → IsArrival here f → IsHeldIf C o → AllNamesFound L f → BothAct (arrives here f o) (arrives there f o)
  native_arrives f None h i l = Stuck _
  native_arrives (Simple (Call to g es)) (Some v) h i l = native_delivers to v h l.0 i
  native_arrives (Simple (Detach to g es)) (Some v) h i l = native_delivers to v h l.0 i
  native_arrives (Simple (Spawn g es)) (Some v) h i l = native_delivers None v tt tt i
  native_arrives _ (Some v) h i l = Stuck _

  -- a step of native code
  pub native_act : (result : Ty) (o : Option Value) (st : Stood) → IsNativeStood here st → IsHeldIf C o → AllNamesStood L st → BothAct (act here result o st) (act there result o st)
  native_act result o (AtStatement (Simple st)) h i l = native_simple result st h l
  native_act result o (AtStatement (Test t)) h i l = native_test t l
  native_act result o (AtStatement Nothing) h i l = Stuck _
  native_act result o (AtArrival f) h i l = native_arrives f o h i l
  native_act result o AtEnd h i l = native_leaves Unset tt

  -- a spawn of native code, and a call of the spawner
  pub native_spawn : (f x : Text) (es : Exprs) (g : Function) (t : Ty) (ts : List Ty) → named q scope x ≡ AFunction Native t ts → function_named q x ≡ Some g
      → ((h : Function) → function_named p f ≡ Some h → parameter_types h ≡ parameter_types g) → AllNamesAmong L es → Meets (SpawnAct C f g) (spawns here f es) (calls_expr there (ENamed x) es)
  native_spawn f x es g t ts n e h l =
      subst (λ ys. Meets (SpawnAct C f g) (spawns here f es) (calls_expr there (ENamed x) ys)) (same_images es) (spawn_alike C R IsSelf p q common L stays scope scope slots slots means s source held (λ x. tt) frames f x es g t ts n e h l)
