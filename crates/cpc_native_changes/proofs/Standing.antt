-- What stands at a point and is neither a call nor a return leaves as many cells.
use Rattle.std.proofs.Common.{◌≡◌, List, [], ◌∷◌, Option, Some, None, option_map, refl, sym, ap, subst, ◌∙◌, Vec, Global}
use Rattle.cpc_base.specs.Bytes.{Text}
use Rattle.cpc_base.specs.declared.stop.Place.{Place}
use Rattle.cpc_tree.specs.Erase.{Names, type_of, stmt_of, expr_of, exprs_of, function_of}
use Rattle.cpc_tree.specs.declared.program.Expr as G
use Rattle.cpc_tree.specs.declared.program.Statement.{Statement}
use Rattle.cpc_tree.specs.declared.program.Statement.TheVariants as T
use Rattle.std.specs.Borrow.{Bor}
use Rattle.cpc_native_points.specs.Finds.{found_of}
use Rattle.cpc_native_points.specs.declared.control.Found.{Found}
use Rattle.cpc_native_points.specs.declared.control.Found.TheVariants as F
use Rattle.cpc_native_points.specs.declared.parts.Phase.{Phase}
use Rattle.cpc_native_points.specs.Seen.{point_at}
use Rattle.cpc_meaning.specs.Trees.{scope_from, stood_at}
use Rattle.cpc_tree.specs.Syntax as Y
use Rattle.cpc_tree.specs.Points as P
use Rattle.cpc_store.specs.Store.{Value, Store, store_cells}
use Rattle.cpc_meaning.specs.Answer.{Answer, Gives, Faults, NoAnswer, ◌>>=◌, needed}
use Rattle.cpc_meaning.specs.Eval as E
use Rattle.cpc_meaning.specs.Act as M
use Rattle.cpc_meaning.specs.Requests as R
use Rattle.cpc_tree.specs.Typing.{Scope, function_named, parameter_types}
use Rattle.cpc_base.specs.declared.names.Name.{Name}
use Rattle.cpc_tree.specs.declared.program.Function as H
use Rattle.cpc_check_rules.specs.Apart.{AreApart}
use Rattle.cpc_store.specs.declared.values.Class.TheVariants as K
use Rattle.cpc_meaning.specs.Section.{allocated, freed}
use Rattle.cpc_eval_index.specs.declared.index.Index.{Index}
use Rattle.cpc_eval_index.specs.Indexed.{items_of}
use Rattle.cpc_native_changes.specs.Foreseen.{Foresees, MakesSo, FreesSo, ArrivesSo, AsksSo, EntersOwnly, Tells, told_of, arrival}
use Rattle.cpc_native_changes.specs.declared.changes.Change as C0
use Rattle.cpc_native_changes.specs.declared.changes.Told as T1
use Rattle.cpc_native_changes.specs.declared.changes.Told.TheVariants as T0
use Rattle.cpc_native_changes.specs.declared.changes.Change.TheVariants as C
use Rattle.cpc_native_changes.proofs.Foreseeing.{after_any}

module _ (names : Names) (c : E.Context) (stood : M.Stood) where
  abbrev pub Stays : Answer M.Act → Type 0
  Stays a = Foresees names c stood C.Stays a

  -- what is done after parts that may fault
  pub stays_after : {A : Type 0} (a : Answer A) (f : A → Answer M.Act) → ((x : A) → Stays (f x)) → Stays (a >>= f)
  stays_after a f g = after_any Stays tt (λ d. refl) a f g

  assigns_stays : (x v : Y.Expr) → Stays (M.assigns c x v)
  assigns_stays x v = stays_after (E.value c v) _ (λ w. stays_after (M.assign c x w) _ (λ p. refl))

  pub test_stays : (o : Option Y.Expr) → Stays (M.test_act c o)
  test_stays None = refl
  test_stays (Some t) = stays_after (E.value c t) _ (λ v. stays_after (E.holds v) _ (λ h. refl))

  declare_stays : (result : Y.Ty) (x : Text) (t : Y.Ty) (o : Option Y.Expr) → Stays (M.simple_act c result (Y.Declare x t o))
  declare_stays result x t None = refl
  declare_stays result x t (Some v) = assigns_stays (Y.ENamed x) v

  detaches_stays : (f : Text) (es : Y.Exprs) → Stays (M.detaches c f es)
  detaches_stays f es =
      stays_after (needed (function_named c.program f)) _ (λ g. stays_after (E.values c es) _ (λ vs. stays_after (R.all_taken (R.section_takes (parameter_types g)) vs) _ (λ ws. refl)))

  spawns_stays : (f : Text) (es : Y.Exprs) → Stays (M.spawns c f es)
  spawns_stays f es = stays_after (needed (function_named c.program f)) _ (λ g. stays_after (E.values c es) _ (λ vs. stays_after (R.arguments (parameter_types g) vs) _ (λ ws. refl)))

  pub simple_stays : (result : Y.Ty) (s : Statement) → ((p o : Place) (e : Option G.Expr) (f : G.Expr) (es : Vec G.Expr Global) → s ≡ T.Call p o e f es → ⊥) → ((p : Place) (v : Option G.Expr) → s ≡ T.Return p v → ⊥) → Stays (M.simple_act c result (stmt_of names s))
  simple_stays result (T.Block' p shape row) h g = refl
  simple_stays result (T.Empty p) h g = refl
  simple_stays result (T.Declare p w t start) h g = declare_stays result _ (type_of names t) (option_map (expr_of names) start)
  simple_stays result (T.Assign p o e op v) h g = assigns_stays (expr_of names e) (M.right_side op (expr_of names e) (expr_of names v))
  simple_stays result (T.Call p o e f es) h g = absurd (h p o e f es refl)
  simple_stays result (T.Detach p o k e f es) h g = detaches_stays _ (exprs_of names es.items)
  simple_stays result (T.Spawn p f es) h g = spawns_stays _ (exprs_of names es.items)
  simple_stays result (T.If' p t q a b) h g = refl
  simple_stays result (T.While' p t q s) h g = refl
  simple_stays result (T.DoWhile' p q s t) h g = refl
  simple_stays result (T.For' p shape row t step q s) h g = refl
  simple_stays result (T.Goto p l) h g = refl
  simple_stays result (T.Label' l q s) h g = refl
  simple_stays result (T.Break p) h g = refl
  simple_stays result (T.Continue p) h g = refl
  simple_stays result (T.Return p v) h g = absurd (g p v refl)

  pub arrives_stays : (f : P.Found) (o : Option Value) → Stays (M.arrives c f o)
  arrives_stays f o = stays_after (needed o) _ (λ v. stays_after (needed (M.target_of f)) _ (λ x. stays_after (M.deliver c x v) _ (λ p. refl)))

  -- what is no simple statement
  pub found_stays : (result : Y.Ty) (there : Found) → ((s : Bor Statement) → there ≡ F.Simple s → ⊥) → Stays (M.found_act c result (found_of names there))
  found_stays result (F.Simple s) h = absurd (h s refl)
  found_stays result F.Empty h = refl
  found_stays result (F.Test o) h = test_stays (option_map (λ (t : Bor G.Expr). expr_of names t.now) o)
  found_stays result F.Nothing h = tt

-- ---- where a frame stands

module _ (p : Y.Program) (x : Text) (f : Y.Function) (path : P.Path) (slots : List E.Slot) (s : Store) (Q : E.Context → M.Stood → Type 0) where
  abbrev pub within : Scope → E.Context
  within scope = record { program = p; scope = scope; slots = slots; store = s }

  -- what is said of a point of the function that the name means
  abbrev pub SaidAt : Option Y.Function → Phase → Type 0
  SaidAt g ph = Q (within (scope_from g (point_at ph path))) (stood_at (Some f) (point_at ph path))

  pub said_at : (ph is : Phase) → ph ≡ is → function_named p x ≡ Some f → SaidAt (Some f) is → SaidAt (function_named p x) ph
  said_at ph is e own h =
      let A : Option Y.Function → Type 0 = λ g. SaidAt g is in
      let B : Phase → Type 0 = λ q. SaidAt (function_named p x) q in
      subst B (sym e) (subst A (sym own) h)

-- a change that is told by the name of the function
pub tells_so : (names : Names) (index : Index) (c : E.Context) (stood : M.Stood) (change : C0.Change) (t : T1.Told) (a : Answer M.Act) → t ≡ told_of change → AreApart names → c.program ≡ items_of names index → EntersOwnly index change
    → Foresees names c stood change a → Tells names c stood t a
tells_so names index c stood change t a e apart program own h = let Q : T1.Told → Type 0 = λ u. Tells names c stood u a in subst Q (sym e) (go change own h)
  where
    go : (change : C0.Change) → EntersOwnly index change → Foresees names c stood change a → Tells names c stood (told_of change) a
    go C.Stays own h = h
    go (C.Enters g) own h = (g, ap (λ p. function_named p (names g.now.word.name)) program ∙ own names apart, h)
    go C.Leaves own h = h
    go (C.Makes n) own h = h
    go (C.Frees n) own h = h

-- nothing that is asked enters a function
made_same : (c : E.Context) (stood : M.Stood) (g q : Bor H.Function) (a : Answer (Store × Value)) → MakesSo c stood (C.Enters q) a → MakesSo c stood (C.Enters g) a
made_same c stood g q (Gives p) h = go (arrival c stood p.1) h
  where
    go : (a : Answer M.Act) → ArrivesSo (C.Enters q) (store_cells c.store) (store_cells p.0) a → ArrivesSo (C.Enters g) (store_cells c.store) (store_cells p.0) a
    go (Gives act) h = h
    go (Faults d) h = absurd cc
    go NoAnswer h = tt
made_same c stood g q (Faults d) h = absurd cc
made_same c stood g q NoAnswer h = tt

freed_same : (c : E.Context) (g q : Bor H.Function) (a : Answer (Store × Value)) → FreesSo c (C.Enters q) a → FreesSo c (C.Enters g) a
freed_same c g q (Gives p) h = h
freed_same c g q (Faults d) h = absurd cc
freed_same c g q NoAnswer h = tt

asks_same : (names : Names) (c : E.Context) (stood : M.Stood) (g q : Bor H.Function) (asked : R.Asked) (vs : List Value) → AsksSo c stood (C.Enters q) asked vs → AsksSo c stood (C.Enters g) asked vs
asks_same names c stood g q (R.Builtin R.Malloc) (v ∷ []) h = made_same c stood g q (allocated K.Heap v c.store) h
asks_same names c stood g q (R.Builtin R.RtFrame) (v ∷ []) h = made_same c stood g q (allocated K.Frame v c.store) h
asks_same names c stood g q (R.Builtin R.RtBox) (v ∷ []) h = made_same c stood g q (allocated K.Auto v c.store) h
asks_same names c stood g q (R.Builtin R.Free) (v ∷ []) h = freed_same c g q (freed K.Heap v c.store) h
asks_same names c stood g q (R.Builtin R.RtFrameFree) (v ∷ []) h = freed_same c g q (freed K.Frame v c.store) h
asks_same names c stood g q (R.Builtin R.RtUnbox) (v ∷ []) h = freed_same c g q (freed K.Auto v c.store) h
asks_same names c stood g q _ vs h = absurd cc

-- the same, where two functions are one
same_enters : (names : Names) (c : E.Context) (stood : M.Stood) (g q : Bor H.Function) (a : Answer M.Act) → function_of names g.now ≡ function_of names q.now → Foresees names c stood (C.Enters q) a → Foresees names c stood (C.Enters g) a
same_enters names c stood g q (Gives (M.Enters f vs)) is h = is ∙ h
same_enters names c stood g q (Gives (M.GoesOn b t slots)) is h = absurd cc
same_enters names c stood g q (Gives (M.Leaves v t)) is h = absurd cc
same_enters names c stood g q (Gives (M.AsksFor r)) is h = asks_same names c stood g q r.asked r.arguments h
same_enters names c stood g q (Faults d) is h = absurd cc
same_enters names c stood g q NoAnswer is h = tt

-- the function that the name means
pub tells_found : (names : Names) (c : E.Context) (stood : M.Stood) (x : Name) (g : Bor H.Function) (a : Answer M.Act) → Tells names c stood (T0.Enters x) a → Some (function_of names g.now) ≡ function_named c.program (names x) → Foresees names c stood (C.Enters g) a
tells_found names c stood x g a h e = let is : function_of names g.now ≡ function_of names h.0.now = some_same _ _ (e ∙ h.1) in same_enters names c stood g h.0 a is h.2
  where
    some_same : (u v : Y.Function) → Some u ≡ Some v → u ≡ v
    some_same u v e = cc

pub tells_none : (names : Names) (c : E.Context) (stood : M.Stood) (x : Name) (a : Answer M.Act) → Tells names c stood (T0.Enters x) a → None ≡ function_named c.program (names x) → ⊥
tells_none names c stood x a h e = none_some _ (e ∙ h.1)
  where
    none_some : (u : Y.Function) → None ≡ Some u → ⊥
    none_some u e = cc
