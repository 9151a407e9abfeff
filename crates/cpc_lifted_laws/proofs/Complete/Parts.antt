-- The parts of statements that break no rule.
use Rattle.std.proofs.Common.{◌≡◌, ◌==◌, not, true, false, cond, List, [], ◌∷◌, ◌++◌, length, map, Option, Some, None, refl, sym, ◌∙◌, ap, subst, arith}
use Rattle.std.specs.Prelude.{option_map}
use Rattle.cpc_base.specs.Bytes.{Text}
use Rattle.cpc_base.proofs.Truth.{by_false_true, or_neither, eq_means, not_fails}
use Rattle.cpc_num.specs.declared.kinds.Kind.TheVariants.{Int}
use Rattle.cpc_tree.specs.declared.program.Mode.{Mode}
use Rattle.cpc_tree.specs.declared.program.Mode.TheVariants.{Cps, Detached}
use Rattle.cpc_tree.specs.Syntax.{Ty, TyVoid, TyInt, TyCondvar, TyPointer, TyCode, TyStruct, TyArray, Expr, ENamed, Exprs, NoExpr, AndExpr, Assign, Call, Detach, Spawn, Return}
use Rattle.cpc_tree.specs.Located.{bare_expr}
use Rattle.cpc_tree.specs.Typing.{AFunction, NotMeant, Typed, APlace, used, is_testable}
use Rattle.cpc_tree.specs.Primitives.{Primitive, primitive_named, Taken, AnyInteger, SetOf, FreeOf, takes_first}
use Rattle.cpc_tree.specs.Primitives as P
use Rattle.cpc_check_rules.specs.declared.rule.Rule.TheVariants.{Disagree, NoPlace, BadReturn, WrongNumber, CpsInNative, NotClosed, CpsForm}
use Rattle.cpc_check_rules.specs.Rule.{at_if}
use Rattle.cpc_check_rules.specs.Scopes.{meant, takes_value, takes_typed}
use Rattle.cpc_check_rules.specs.Operators.{Where, typed_at, first, is_detached, is_cps}
use Rattle.cpc_check_rules.specs.Calls.{Wanted, Integer, Of, Callback, Callee, Takes, NoCallee, wanted_of, wants, gives, is_callee, takes_section, section_callee, spawn_callee, is_event, named_callee, callee, unmeant_callee, number_breaks, wanted, result, count, suit_breaks}
use Rattle.cpc_check_rules.specs.ExprRules.{expr_breaks, called_breaks, arg_breaks, args_breaks}
use Rattle.cpc_check_rules.specs.StmtRules.{is_writable, place_breaks, target_breaks, fits_breaks, given_breaks, to_breaks, is_tested, tested_breaks, test_breaks, start_breaks, wrong_name, started_breaks, is_void, unfit_return, stmt_breaks}
use Rattle.cpc_check_laws.proofs.Native.OnePlace.{here, ident_here, expr_here, exprs_here, expr_again, stmt_here}
use Rattle.cpc_check_laws.proofs.Sound.Unbroken.{split, holds_then, writable_is, tested_type_is, right_name, spawn_meant, section_meant, typed_of}
use Rattle.cpc_check_laws.proofs.Native.NativeValues.{unbroken}
use Rattle.cpc_lifted_laws.specs.Complete.Sets.{Has, Sets, Writes, AllSet, NoneSet, AndSet, Gives, Suits, AllSuit, NoneSuits, AndSuits, is_simple}
use Rattle.cpc_lifted_laws.proofs.Complete.Typing.{type_again}
use Rattle.cpc_lifted_laws.proofs.Complete.Called.{plain_suits}

module _ (w : Where) where
  -- ---- values and places

  -- an expression that breaks no rule has a type
  pub has_of : (e : Expr) → expr_breaks w (expr_here e) ≡ [] → (d : Typed) × Has w e d
  has_of e h = let d = typed_of w (expr_here e) h in (d.0, record { fine = h; is_typed = sym (type_again w e) ∙ d.1 })

  fits_sets : (t : Ty) (e : Expr) → expr_breaks w (expr_here e) ≡ [] → fits_breaks (Some (APlace t)) (expr_here e) (typed_at w (expr_here e)) here ≡ [] → Sets w t e
  fits_sets t e h k =
      let d = has_of e h in
      let is : typed_at w (expr_here e) ≡ Some d.0 = type_again w e ∙ d.1.is_typed in
      record {
        type = d.0;
        has = d.1;
        takes = ap (λ e. takes_typed t e d.0) (sym (expr_again e)) ∙ holds_then (takes_typed t (bare_expr (expr_here e)) d.0) here Disagree (subst (λ o. fits_breaks (Some (APlace t)) (expr_here e) o here ≡ []) is k);
      }

  target_writes : (e : Expr) → target_breaks w (expr_here e) ≡ [] → (t : Ty) × Writes w t e
  target_writes e h =
      let k = split (expr_breaks w (expr_here e)) _ h in
      let d = has_of e k.0 in
      let is : typed_at w (expr_here e) ≡ Some d.0 = type_again w e ∙ d.1.is_typed in
      let writable = holds_then (is_writable d.0) (first (expr_here e)) NoPlace (subst (λ o. place_breaks o (first (expr_here e)) ≡ []) is k.1) in
      let t = writable_is d.0 writable in
      (t.0, record { has = subst (Has w e) t.1 d.1; writable = subst (λ d. is_writable d ≡ true) t.1 writable })

  -- ---- statements

  pub assign_parts : (e a : Expr) → stmt_breaks w (stmt_here (Assign e None a)) ≡ [] → (t : Ty) × Writes w t e × Sets w t a
  assign_parts e a h =
      let k = split (target_breaks w (expr_here e)) _ h in
      let l = split (expr_breaks w (expr_here a)) _ k.1 in
      let t = target_writes e k.0 in
      let is : typed_at w (expr_here e) ≡ Some (APlace t.0) = type_again w e ∙ t.1.has.is_typed in
      (t.0, t.1, fits_sets t.0 a l.0 (subst (λ o. fits_breaks o (expr_here a) (typed_at w (expr_here a)) here ≡ []) is l.1))

  pub start_sets : (x : Text) (t : Ty) (e : Expr) → start_breaks w (ident_here x) t (Some (expr_here e)) ≡ [] → Sets w t e
  start_sets x t e h = let k = split (expr_breaks w (expr_here e)) _ h in fits_sets t e k.0 k.1

  pub return_sets : (e : Expr) → stmt_breaks w (stmt_here (Return (Some e))) ≡ [] → (is_void w.result ≡ false) × Sets w w.result e
  return_sets e h =
      let k = split (expr_breaks w (expr_here e)) _ h in
      let d = has_of e k.0 in
      let is : typed_at w (expr_here e) ≡ Some d.0 = type_again w e ∙ d.1.is_typed in
      let fit = or_neither (is_void w.result) _ (unbroken (unfit_return w (expr_here e) (Some d.0)) here BadReturn (subst (λ o. at_if (unfit_return w (expr_here e) o) here BadReturn ≡ []) is k.1)) in
      (fit.0, record { type = d.0; has = d.1; takes = ap (λ e. takes_typed w.result e d.0) (sym (expr_again e)) ∙ not_fails (takes_typed w.result (bare_expr (expr_here e)) d.0) fit.1 })

  pub test_has : (e : Expr) → test_breaks w (expr_here e) ≡ [] → (d : Typed) × (t : Ty) × Has w e d × (used d ≡ Some t) × (is_testable t ≡ true)
  test_has e h =
      let k = split (expr_breaks w (expr_here e)) _ h in
      let d = has_of e k.0 in
      let is : typed_at w (expr_here e) ≡ Some d.0 = type_again w e ∙ d.1.is_typed in
      let t = tested_type_is (used d.0) (holds_then (is_tested (used d.0)) (first (expr_here e)) Disagree (subst (λ o. tested_breaks o (first (expr_here e)) ≡ []) is k.1)) in
      (d.0, t.0, d.1, t.1, t.2)

  pub gives_of : (o : Option Expr) (u : Option Ty) (t : Ty) → u ≡ Some t → to_breaks w (option_map expr_here o) here u ≡ [] → Gives w o t
  gives_of None u t i h = tt
  gives_of (Some e) u t i h =
      let k = split (target_breaks w (expr_here e)) _ h in
      let p = target_writes e k.0 in
      let is : typed_at w (expr_here e) ≡ Some (APlace p.0) = type_again w e ∙ p.1.has.is_typed in
      let row : given_breaks (Some (APlace p.0)) (Some t) here ≡ [] = subst (λ o. given_breaks o (Some t) here ≡ []) is (subst (λ u. given_breaks (typed_at w (expr_here e)) u here ≡ []) i k.1) in
      (p.0, p.1, holds_then (takes_value p.0 false t) here Disagree row)

  -- ---- arguments

  -- so many arguments as are wanted
  counted : (ws : List Wanted) (t : Ty) (es : Exprs) (q : _) → number_breaks (Takes ws t) (exprs_here es) q ≡ [] → length (count (exprs_here es)) ≡ length ws
  counted ws t es q h = eq_means (length (count (exprs_here es))) (length ws) (holds_then (length (count (exprs_here es)) == length ws) q WrongNumber h)

  plain_arg : (t : Wanted) (e : Expr) → expr_breaks w (expr_here e) ++ suit_breaks w.scope t (expr_here e) (typed_at w (expr_here e)) ≡ [] → Suits w t e
  plain_arg t e h = let s = plain_suits w t (expr_here e) h in record { type = s.1.0; has = record { fine = s.0; is_typed = sym (type_again w e) ∙ s.1.1 }; suits = s.1.2 }

  pub all_set : (ts : List Ty) (es : Exprs) → length (count (exprs_here es)) ≡ length (map (λ t. Of t) ts) → args_breaks w (map (λ t. Of t) ts) (exprs_here es) ≡ [] → AllSet w ts es
  all_set [] NoExpr n h = NoneSet
  all_set (t ∷ ts) (AndExpr e es) n h =
      let k = split (arg_breaks w (Of t) (expr_here e) (expr_breaks w (expr_here e))) _ h in
      let s = plain_suits w (Of t) (expr_here e) k.0 in
      let sets : Sets w t e = record {
        type = s.1.0;
        has = record { fine = s.0; is_typed = sym (type_again w e) ∙ s.1.1 };
        takes = ap (λ e. takes_typed t e s.1.0) (sym (expr_again e)) ∙ s.1.2;
      } in
      AndSet t ts e es sets (all_set ts es (omega (arith, n)) k.1)
  all_set [] (AndExpr e es) n h = absurd (omega (arith, n))
  all_set (t ∷ ts) NoExpr n h = absurd (omega (arith, n))

  -- those of a primitive
  taken_suits : (t : Taken) (e : Expr) → arg_breaks w (wanted_of t) (expr_here e) (expr_breaks w (expr_here e)) ≡ [] → Suits w (wanted_of t) e
  taken_suits AnyInteger e h = plain_arg Integer e h
  taken_suits (FreeOf t) e h = plain_arg (Of t) e h
  taken_suits (SetOf (TyCode r ts)) e h = plain_arg (Callback (TyCode r ts)) e h
  taken_suits (SetOf TyVoid) e h = plain_arg (Of TyVoid) e h
  taken_suits (SetOf (TyInt k)) e h = plain_arg (Of (TyInt k)) e h
  taken_suits (SetOf TyCondvar) e h = plain_arg (Of TyCondvar) e h
  taken_suits (SetOf (TyPointer t)) e h = plain_arg (Of (TyPointer t)) e h
  taken_suits (SetOf (TyStruct tag)) e h = plain_arg (Of (TyStruct tag)) e h
  taken_suits (SetOf (TyArray t n)) e h = plain_arg (Of (TyArray t n)) e h

  pub all_suit : (ts : List Taken) (es : Exprs) → length (count (exprs_here es)) ≡ length (map wanted_of ts) → args_breaks w (map wanted_of ts) (exprs_here es) ≡ [] → AllSuit w (map wanted_of ts) es
  all_suit [] NoExpr n h = NoneSuits
  all_suit (t ∷ ts) (AndExpr e es) n h =
      let k = split (arg_breaks w (wanted_of t) (expr_here e) (expr_breaks w (expr_here e))) _ h in
      AndSuits (wanted_of t) (map wanted_of ts) e es (taken_suits t e k.0) (all_suit ts es (omega (arith, n)) k.1)
  all_suit [] (AndExpr e es) n h = absurd (omega (arith, n))
  all_suit (t ∷ ts) NoExpr n h = absurd (omega (arith, n))

  -- ---- calls

  -- a call of a function by its name
  pub call_parts : (to : Option Expr) (x : Text) (es : Exprs) (mode : Mode) (t : Ty) (ts : List Ty) → meant w.scope x ≡ AFunction mode t ts → stmt_breaks w (stmt_here (Call to (ENamed x) es)) ≡ [] → AllSet w ts es × Gives w to t
  call_parts to x es mode t ts e h =
      let f = expr_here (ENamed x) in
      let is : callee w f (exprs_here es) ≡ Takes (map (λ t. Of t) ts) t = ap (λ m. named_callee w f (exprs_here es) m (primitive_named x)) e in
      let k = split (to_breaks w (option_map expr_here to) here (result (callee w f (exprs_here es)))) _ h in
      let l = split (called_breaks w f (expr_breaks w f)) _ k.1 in
      let m = split (number_breaks (callee w f (exprs_here es)) (exprs_here es) here) _ l.1 in (
        all_set ts es (counted (map (λ t. Of t) ts) t es here (subst (λ c. number_breaks c (exprs_here es) here ≡ []) is m.0)) (subst (λ c. args_breaks w (wanted c) (exprs_here es) ≡ []) is m.1),
        gives_of to _ t (ap result is) k.0,
      )

  simple_wants : (prim : Primitive) (es : Exprs) → is_simple prim ≡ true → wants w.scope prim (exprs_here es) ≡ map wanted_of (takes_first prim)
  simple_wants P.Puts es h = by_false_true h
  simple_wants P.RtDetach es h = by_false_true h
  simple_wants prim es h = refl

  -- a call of a primitive
  pub primitive_parts : (to : Option Expr) (x : Text) (es : Exprs) (prim : Primitive) → is_simple prim ≡ true → meant w.scope x ≡ NotMeant → primitive_named x ≡ Some prim → stmt_breaks w (stmt_here (Call to (ENamed x) es)) ≡ []
      → AllSuit w (map wanted_of (takes_first prim)) es × Gives w to (gives prim)
  primitive_parts to x es prim s e i h =
      let f = expr_here (ENamed x) in
      let ws = map wanted_of (takes_first prim) in
      let is : callee w f (exprs_here es) ≡ Takes ws (gives prim) = ap (λ m. named_callee w f (exprs_here es) m (primitive_named x)) e ∙ ap (λ o. unmeant_callee w.scope o (exprs_here es)) i ∙ ap (λ ws. Takes ws (gives prim)) (simple_wants prim es s) in
      let k = split (to_breaks w (option_map expr_here to) here (result (callee w f (exprs_here es)))) _ h in
      let l = split (called_breaks w f (expr_breaks w f)) _ k.1 in
      let m = split (number_breaks (callee w f (exprs_here es)) (exprs_here es) here) _ l.1 in (
        all_suit (takes_first prim) es (counted ws (gives prim) es here (subst (λ c. number_breaks c (exprs_here es) here ≡ []) is m.0)) (subst (λ c. args_breaks w (wanted c) (exprs_here es) ≡ []) is m.1),
        gives_of to _ (gives prim) (ap result is) k.0,
      )

  -- ---- spawns and sections

  started_parts : (x : Text) (es : Exprs) (c : Callee) → started_breaks w (ident_here x) c (exprs_here es) ≡ [] → (is_callee c ≡ true) × ((ts : List Ty) (t : Ty) → c ≡ Takes (map (λ t. Of t) ts) t → AllSet w ts es)
  started_parts x es c h =
      let k = split (wrong_name (meant w.scope x) c here) _ h in
      let l = split (number_breaks c (exprs_here es) here) _ k.1 in (
        right_name (meant w.scope x) c here k.0,
        λ ts t i. all_set ts es (counted (map (λ t. Of t) ts) t es here (subst (λ c. number_breaks c (exprs_here es) here ≡ []) i l.0)) (subst (λ c. args_breaks w (wanted c) (exprs_here es) ≡ []) i l.1),
      )

  pub spawn_parts : (x : Text) (es : Exprs) → stmt_breaks w (stmt_here (Spawn x es)) ≡ [] → (t : Ty) × (ts : List Ty) × (meant w.scope x ≡ AFunction Cps t ts) × AllSet w ts es
  spawn_parts x es h =
      let k = split (at_if (is_event w.dialect) here CpsForm) _ h in
      let l = split (at_if (is_detached w.mode) here NotClosed) _ k.1 in
      let s = started_parts x es (spawn_callee (meant w.scope x)) l.1 in
      let t = spawn_meant (meant w.scope x) s.0 in
      (t.0, t.1, t.2, s.1 t.1 t.0 (ap spawn_callee t.2))

  pub section_parts : (to : Option Expr) (x : Text) (es : Exprs) → stmt_breaks w (stmt_here (Detach to x es)) ≡ []
      → (ts : List Ty) × (meant w.scope x ≡ AFunction Detached (TyInt Int) ts) × (takes_section w.scope ts ≡ true) × AllSet w ts es × Gives w to (TyInt Int)
  section_parts to x es h =
      let k = split (to_breaks w (option_map expr_here to) here (Some (TyInt Int))) _ h in
      let l = split (at_if (not (is_cps w.mode)) here CpsInNative) _ k.1 in
      let m = split (at_if (is_event w.dialect) here CpsForm) _ l.1 in
      let s = started_parts x es (section_callee w.scope (meant w.scope x)) m.1 in
      let t = section_meant w.scope (meant w.scope x) s.0 in
      (t.0, t.1, t.2, s.1 t.0 (TyInt Int) (ap (section_callee w.scope) t.1 ∙ ap (λ b. cond b (Takes (map (λ t. Of t) t.0) (TyInt Int)) NoCallee) t.2), gives_of to _ (TyInt Int) refl k.0)
