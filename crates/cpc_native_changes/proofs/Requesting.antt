-- Primitives that make and free blocks, by their one argument.
use Rattle.std.proofs.Common.{◌≡◌, List, [], ◌∷◌, length, get_or, Option, Some, None, option_map, Result, Ok, Err, refl, sym, ap, subst, ◌∙◌, arith}
use Rattle.std.specs.Result.{result_ok, result_map_both}
use Rattle.cpc_base.specs.Bytes.{Text}
use Rattle.cpc_num.specs.declared.kinds.Fault.{Fault}
use Rattle.cpc_tree.specs.Erase.{Names, expr_of, exprs_of}
use Rattle.cpc_tree.specs.Primitives as P
use Rattle.cpc_tree.specs.declared.program.Expr as G
use Rattle.cpc_tree.specs.Syntax.{Exprs}
use Rattle.cpc_store.specs.declared.values.Class.{Class}
use Rattle.cpc_store.specs.declared.values.Class.TheVariants as K
use Rattle.cpc_store.specs.Store.{Value}
use Rattle.cpc_meaning.specs.Answer.{Answer, Gives, Faults, NoAnswer, ◌>>=◌}
use Rattle.cpc_meaning.specs.Eval as E
use Rattle.cpc_meaning.specs.Act as M
use Rattle.cpc_meaning.specs.Requests as R
use Rattle.cpc_meaning.specs.Section.{allocated, freed}
use Rattle.cpc_eval_values.specs.Meets.{Meets}
use Rattle.cpc_eval.specs.Numbers.{HasNumbers, AllNumbers}
use Rattle.cpc_eval.proofs.Evaluating.{chain_one}
use Rattle.cpc_native_plans.specs.Rows.{taken, longs}
use Rattle.cpc_native_plans.specs.Calls.{calls_host}
use Rattle.cpc_native_changes.specs.Foreseen.{Foresees, MakesSo, FreesSo, AsksSo, IsAlone, maker, freer}
use Rattle.cpc_native_changes.specs.declared.changes.Change.{Change}
use Rattle.cpc_native_changes.specs.declared.changes.Change.TheVariants as C
use Rattle.cpc_native_changes.proofs.Foreseeing.{after_any}

-- ---- one argument

pub ok_seen : {X Y : Type 0} (view : X → Y) (r : Result X Fault) (o : Option X) → o ≡ result_ok r → option_map view o ≡ result_ok (result_map_both view (λ (fault : Fault). fault) r)
ok_seen view (Ok x) o e = ap (option_map view) e
ok_seen view (Err d) o e = ap (option_map view) e

module _ (t : P.Taken) where
  -- what the first part and the others come to, as they are taken
  abbrev one_taken : Answer Value → Answer (List Value)
  one_taken q = (q >>= (λ v. Gives (v ∷ []))) >>= R.all_taken (t ∷ [])

  alone_by : (o p : Option Value) (a : Answer (List Value)) → o ≡ p → IsAlone p a → IsAlone o a
  alone_by o p a e h = let Q : Option Value → Type 0 = λ q. IsAlone q a in subst Q (sym e) h

  taken_some : (o : Option Value) (a : Answer Value) (r : Result Value Fault) → o ≡ result_ok r → Meets r a → IsAlone o (a >>= (λ x. Gives (x ∷ [])))
  taken_some o (Gives y) (Ok x) e m = let is : x ≡ y = cc in alone_by o (Some y) (Gives (y ∷ [])) (e ∙ ap Some is) refl
  taken_some o (Gives y) (Err d) e m = let no : ⊥ = cc in absurd no
  taken_some o (Faults f) (Ok x) e m = let no : ⊥ = cc in absurd no
  taken_some o (Faults f) (Err d) e m = alone_by o None (Faults f) e refl
  taken_some o NoAnswer (Ok x) e m = alone_by o (Some x) NoAnswer e tt
  taken_some o NoAnswer (Err d) e m = alone_by o None NoAnswer e tt

  alone_some : (q : Answer Value) (v : Value) (o : Option Value) (r : Result Value Fault) → Meets (Ok v) q → o ≡ result_ok r → Meets r (R.taken_as t v) → IsAlone o (one_taken q)
  alone_some (Gives w) v o r h e m = let is : v ≡ w = cc in let Q : Value → Type 0 = λ x. Meets r (R.taken_as t x) in taken_some o (R.taken_as t w) r e (subst Q is m)
  alone_some (Faults f) v o r h e m = let no : ⊥ = cc in absurd no
  alone_some NoAnswer v None r h e m = tt
  alone_some NoAnswer v (Some x) r h e m = tt

  abbrev nothing : Answer (List Value)
  nothing = NoAnswer

  two_values : (q r : Answer Value) (a : Answer (List Value)) → IsAlone None ((q >>= (λ v. (r >>= (λ w. a >>= (λ vs. Gives (w ∷ vs)))) >>= (λ vs. Gives (v ∷ vs)))) >>= R.all_taken (t ∷ []))
  two_values (Gives v) (Gives w) (Gives vs) = go (R.taken_as t v)
    where
      go : (a : Answer Value) → IsAlone None (a >>= (λ x. nothing >>= (λ xs. Gives (x ∷ xs))))
      go (Gives x) = tt
      go (Faults f) = refl
      go NoAnswer = tt
  two_values (Gives v) (Gives w) (Faults f) = refl
  two_values (Gives v) (Gives w) NoAnswer = tt
  two_values (Gives v) (Faults f) a = refl
  two_values (Gives v) NoAnswer a = tt
  two_values (Faults f) r a = refl
  two_values NoAnswer r a = tt

  pub not_alone : (names : Names) (c : E.Context) (args : List G.Expr) → (length args ≡ 1 → ⊥) → IsAlone None (taken c (t ∷ []) (exprs_of names args))
  not_alone names c [] h = tt
  not_alone names c (e ∷ []) h = absurd (h refl)
  not_alone names c (e ∷ x ∷ rest) h = two_values (E.value c (expr_of names e)) (E.value c (expr_of names x)) (E.values c (exprs_of names rest))

  pub alone_value : (names : Names) (c : E.Context) (args : List G.Expr) (x : G.Expr) (v : Value) (o : Option Value) (r : Result Value Fault) → length args ≡ 1 → x ≡ get_or args 0 x → AllNumbers c.program (exprs_of names args)
      → (HasNumbers c.program (expr_of names x) → Meets (Ok v) (E.value c (expr_of names x))) → o ≡ result_ok r → Meets r (R.taken_as t v) → IsAlone o (taken c (t ∷ []) (exprs_of names args))
  alone_value names c [] x v o r n is h g e m = absurd (omega arith)
  alone_value names c (y ∷ []) x v o r n is h g e m =
      let N : G.Expr → Type 0 = λ z. HasNumbers c.program (expr_of names z) in
      let Q : G.Expr → Type 0 = λ z. IsAlone o (one_taken (E.value c (expr_of names z))) in
      subst Q is (alone_some (E.value c (expr_of names x)) v o r (g (subst N (sym is) h.0)) e m)
  alone_value names c (y ∷ z ∷ rest) x v o r n is h g e m = absurd (omega arith)

-- ---- blocks

-- what a request does once its one argument is taken
module _ (names : Names) (c : E.Context) (stood : M.Stood) (prim : R.Primitive) where
  asked_alone : (change : Change) (o : Option Value) (a : Answer (List Value)) → IsAlone o a → ((v : Value) → o ≡ Some v → AsksSo c stood change (R.Builtin prim) (v ∷ [])) → (o ≡ None → change ≡ C.Stays)
      → Foresees names c stood change (a >>= M.asks (R.Builtin prim))
  asked_alone change (Some v) (Gives vs) h f g = let Q : List Value → Type 0 = AsksSo c stood change (R.Builtin prim) in subst Q (sym h) (f v refl)
  asked_alone change None (Gives vs) h f g = absurd h
  asked_alone change o (Faults d) h f g = g h
  asked_alone change o NoAnswer h f g = tt

make_asked : (c : E.Context) (stood : M.Stood) (change : Change) (prim : R.Primitive) (class : Class) (v : Value) → Some class ≡ maker prim → MakesSo c stood change (allocated class v c.store) → AsksSo c stood change (R.Builtin prim) (v ∷ [])
make_asked c stood change R.Malloc class v e h = let is : class ≡ K.Heap = cc in let Q : Class → Type 0 = λ k. MakesSo c stood change (allocated k v c.store) in subst Q is h
make_asked c stood change R.RtFrame class v e h = let is : class ≡ K.Frame = cc in let Q : Class → Type 0 = λ k. MakesSo c stood change (allocated k v c.store) in subst Q is h
make_asked c stood change R.RtBox class v e h = let is : class ≡ K.Auto = cc in let Q : Class → Type 0 = λ k. MakesSo c stood change (allocated k v c.store) in subst Q is h
make_asked c stood change _ class v e h = absurd cc

free_asked : (c : E.Context) (stood : M.Stood) (change : Change) (prim : R.Primitive) (class : Class) (v : Value) → Some class ≡ freer prim → FreesSo c change (freed class v c.store) → AsksSo c stood change (R.Builtin prim) (v ∷ [])
free_asked c stood change R.Free class v e h = let is : class ≡ K.Heap = cc in let Q : Class → Type 0 = λ k. FreesSo c change (freed k v c.store) in subst Q is h
free_asked c stood change R.RtFrameFree class v e h = let is : class ≡ K.Frame = cc in let Q : Class → Type 0 = λ k. FreesSo c change (freed k v c.store) in subst Q is h
free_asked c stood change R.RtUnbox class v e h = let is : class ≡ K.Auto = cc in let Q : Class → Type 0 = λ k. FreesSo c change (freed k v c.store) in subst Q is h
free_asked c stood change _ class v e h = absurd cc

-- what they take
maker_takes : (c : E.Context) (prim : R.Primitive) (class : Class) (es : Exprs) → Some class ≡ maker prim → (taken c (P.long ∷ []) es >>= M.asks (R.Builtin prim)) ≡ M.asks_with c prim es None
maker_takes c R.Malloc class es e = sym (chain_one (E.values c es) (R.all_taken (P.long ∷ [])) (M.asks (R.Builtin R.Malloc)))
maker_takes c R.RtFrame class es e = sym (chain_one (E.values c es) (R.all_taken (P.long ∷ [])) (M.asks (R.Builtin R.RtFrame)))
maker_takes c R.RtBox class es e = sym (chain_one (E.values c es) (R.all_taken (P.long ∷ [])) (M.asks (R.Builtin R.RtBox)))
maker_takes c _ class es e = absurd cc

freer_takes : (c : E.Context) (prim : R.Primitive) (class : Class) (es : Exprs) → Some class ≡ freer prim → (taken c (P.SetOf P.any_pointer ∷ []) es >>= M.asks (R.Builtin prim)) ≡ M.asks_with c prim es None
freer_takes c R.Free class es e = sym (chain_one (E.values c es) (R.all_taken (P.SetOf P.any_pointer ∷ [])) (M.asks (R.Builtin R.Free)))
freer_takes c R.RtFrameFree class es e = sym (chain_one (E.values c es) (R.all_taken (P.SetOf P.any_pointer ∷ [])) (M.asks (R.Builtin R.RtFrameFree)))
freer_takes c R.RtUnbox class es e = sym (chain_one (E.values c es) (R.all_taken (P.SetOf P.any_pointer ∷ [])) (M.asks (R.Builtin R.RtUnbox)))
freer_takes c _ class es e = absurd cc

module _ (names : Names) (c : E.Context) (stood : M.Stood) (prim : R.Primitive) (class : Class) (es : Exprs) (change : Change) (o : Option Value) where
  pub foresees_by : (a b : Answer M.Act) → a ≡ b → Foresees names c stood change a → Foresees names c stood change b
  foresees_by a b e h = let Q : Answer M.Act → Type 0 = Foresees names c stood change in subst Q e h

  pub made_alone : Some class ≡ maker prim → IsAlone o (taken c (P.long ∷ []) es) → ((v : Value) → o ≡ Some v → MakesSo c stood change (allocated class v c.store)) → (o ≡ None → change ≡ C.Stays)
      → Foresees names c stood change (M.asks_with c prim es None)
  made_alone e h f g =
      foresees_by _ _ (maker_takes c prim class es e) (asked_alone names c stood prim change o (taken c (P.long ∷ []) es) h (λ v i. make_asked c stood change prim class v e (f v i)) g)

  pub freed_alone : Some class ≡ freer prim → IsAlone o (taken c (P.SetOf P.any_pointer ∷ []) es) → ((v : Value) → o ≡ Some v → FreesSo c change (freed class v c.store)) → (o ≡ None → change ≡ C.Stays)
      → Foresees names c stood change (M.asks_with c prim es None)
  freed_alone e h f g =
      foresees_by _ _ (freer_takes c prim class es e) (asked_alone names c stood prim change o (taken c (P.SetOf P.any_pointer ∷ []) es) h (λ v i. free_asked c stood change prim class v e (f v i)) g)

-- a primitive that neither makes nor frees a block
nothing_asked : (c : E.Context) (stood : M.Stood) (prim : R.Primitive) (vs : List Value) → None ≡ maker prim → None ≡ freer prim → AsksSo c stood C.Stays (R.Builtin prim) vs
nothing_asked c stood R.Malloc vs e f = absurd cc
nothing_asked c stood R.RtFrame vs e f = absurd cc
nothing_asked c stood R.RtBox vs e f = absurd cc
nothing_asked c stood R.Free vs e f = absurd cc
nothing_asked c stood R.RtFrameFree vs e f = absurd cc
nothing_asked c stood R.RtUnbox vs e f = absurd cc
nothing_asked c stood _ vs e f = refl

pub other_asked : (names : Names) (c : E.Context) (stood : M.Stood) (prim : R.Primitive) (es : Exprs) (o : Option Text) → None ≡ maker prim → None ≡ freer prim → Foresees names c stood C.Stays (M.asks_with c prim es o)
other_asked names c stood prim es (Some bytes) e f = nothing_asked c stood prim (R.byte_values bytes) e f
other_asked names c stood prim es None e f =
    let Q : Answer M.Act → Type 0 = Foresees names c stood C.Stays in
    after_any Q tt (λ d. refl) (E.values c es) _ (λ vs. after_any Q tt (λ d. refl) (R.all_taken (R.takes c.program prim vs) vs) _ (λ ws. nothing_asked c stood prim ws e f))

-- a function of the host neither makes nor frees a block
pub host_asked : (names : Names) (c : E.Context) (stood : M.Stood) (x : Text) (es : Exprs) → Foresees names c stood C.Stays (calls_host c x es)
host_asked names c stood x es =
    let Q : Answer M.Act → Type 0 = Foresees names c stood C.Stays in
    after_any Q tt (λ d. refl) (longs c es) _ (λ ws. refl)

-- makers and freers have no string
pub maker_no_text : (prim : R.Primitive) (class : Class) (es : Exprs) → Some class ≡ maker prim → None ≡ M.puts_text prim es
maker_no_text R.Malloc class es e = refl
maker_no_text R.RtFrame class es e = refl
maker_no_text R.RtBox class es e = refl
maker_no_text _ class es e = absurd cc

pub freer_no_text : (prim : R.Primitive) (class : Class) (es : Exprs) → Some class ≡ freer prim → None ≡ M.puts_text prim es
freer_no_text R.Free class es e = refl
freer_no_text R.RtFrameFree class es e = refl
freer_no_text R.RtUnbox class es e = refl
freer_no_text _ class es e = absurd cc
