-- Statements that are made break no rule, and flat bodies of them.
use Rattle.std.proofs.Common.{◌≡◌, ◌&&◌, ◌||◌, not, true, false, cond, List, [], ◌∷◌, ◌++◌, map, codes, Option, Some, None, refl, sym, ◌∙◌, ap, subst, length}
use Rattle.std.specs.Prelude.{option_map}
use Rattle.cpc_base.specs.Bytes.{Text}
use Rattle.cpc_base.specs.declared.stop.Dialect.TheVariants as D
use Rattle.cpc_base.proofs.Truth.{by_false_true, and_with_false}
use Rattle.cpc_num.specs.declared.kinds.Kind.TheVariants.{Int}
use Rattle.cpc_tree.specs.declared.program.Mode.{Mode}
use Rattle.cpc_tree.specs.declared.program.Mode.TheVariants.{Detached}
use Rattle.cpc_tree.specs.Syntax.{Ty, TyVoid, TyInt, Expr, ENamed, Exprs, AndExpr, Stmt, Assign, Call, If, Return, Absent}
use Rattle.cpc_tree.specs.Located.{bare_expr}
use Rattle.cpc_tree.specs.Typing.{AFunction, NotMeant, AValue, APlace, type_named, function_type}
use Rattle.cpc_tree.specs.Primitives.{Primitive, RtDetach, primitive_named, takes_first, any_pointer}
use Rattle.cpc_tree.specs.Primitives as P
use Rattle.cpc_check_rules.specs.declared.rule.Rule.TheVariants.{Disagree, BadReturn, CpsInNative, NotClosed, RtCall, CpsForm}
use Rattle.cpc_check_rules.specs.Rule.{at_if}
use Rattle.cpc_check_rules.specs.Scopes.{meant, takes_typed}
use Rattle.cpc_check_rules.specs.Operators.{Where, typed_at, is_detached, is_cps, name_breaks}
use Rattle.cpc_check_rules.specs.Calls.{Wanted, Of, Callback, ForSection, Takes, NoCallee, wanted_of, wants, gives, gives_up, is_rt, is_event, is_closed, takes_section, section_callee, detached_wants, primitive_breaks, unmeant_breaks, unmeant_callee, named_breaks, named_callee, callee, number_breaks, wanted, result, is_callee, count}
use Rattle.cpc_check_rules.specs.ExprRules.{expr_breaks, called_breaks, args_breaks}
use Rattle.cpc_check_rules.specs.StmtRules.{fits_breaks, start_breaks, to_breaks, is_void, unfit_return, test_breaks, stmt_breaks}
use Rattle.cpc_check_laws.proofs.Native.NativeValues.{both_none}
use Rattle.cpc_check_laws.proofs.Native.OnePlace.{here, ident_here, expr_here, exprs_here, stmt_here, expr_again}
use Rattle.cpc_lifted_laws.specs.Complete.Sets.{Sets, Writes, AllSet, Gives, Suits, AllSuit, AndSuits, is_simple}
use Rattle.cpc_lifted_laws.proofs.Complete.Makers.{type_here, target_fine, to_fine, sets_suits, all_sets_suit, args_fine, number_fine}

module _ (v : Where) where
  -- ---- statements

  value_fits : (t : Ty) (e : Expr) → Sets v t e → fits_breaks (Some (APlace t)) (expr_here e) (typed_at v (expr_here e)) here ≡ []
  value_fits t e h =
      ap (λ o. fits_breaks (Some (APlace t)) (expr_here e) o here) (type_here v e h.type h.has)
      ∙ ap (λ e. at_if (not (takes_typed t e h.type)) here Disagree) (expr_again e) ∙ ap (λ b. at_if (not b) here Disagree) h.takes

  -- what a variable starts with
  pub start_fine : (x : Text) (t : Ty) (e : Expr) → Sets v t e → start_breaks v (ident_here x) t (Some (expr_here e)) ≡ []
  start_fine x t e h = both_none _ _ h.has.fine (value_fits t e h)

  pub assign_fine : (t : Ty) (e a : Expr) → Writes v t e → Sets v t a → stmt_breaks v (stmt_here (Assign e None a)) ≡ []
  assign_fine t e a h k =
      both_none _ _ (target_fine v t e h) (both_none _ _ k.has.fine
      (ap (λ o. fits_breaks o (expr_here a) (typed_at v (expr_here a)) here) (type_here v e (APlace t) h.has) ∙ value_fits t a k))

  -- a test before a statement
  pub if_fine : (e : Expr) (s : Stmt) → test_breaks v (expr_here e) ≡ [] → stmt_breaks v (stmt_here s) ≡ [] → stmt_breaks v (stmt_here (If e s Absent)) ≡ []
  if_fine e s h k = both_none _ _ h (both_none _ _ k refl)

  pub return_fine : (e : Expr) → is_void v.result ≡ false → Sets v v.result e → stmt_breaks v (stmt_here (Return (Some e))) ≡ []
  return_fine e n h =
      both_none _ _ h.has.fine
      (ap (λ o. at_if (unfit_return v (expr_here e) o) here BadReturn) (type_here v e h.type h.has)
      ∙ ap (λ b. at_if (b || not (takes_typed v.result (bare_expr (expr_here e)) h.type)) here BadReturn) n
      ∙ ap (λ e. at_if (not (takes_typed v.result e h.type)) here BadReturn) (expr_again e) ∙ ap (λ b. at_if (not b) here BadReturn) h.takes)

  -- a function that is no cps function is called by its name
  pub function_fine : (to : Option Expr) (x : Text) (es : Exprs) (mode : Mode) (t : Ty) (ts : List Ty) → meant v.scope x ≡ AFunction mode t ts → is_cps mode ≡ false → (is_detached v.mode && not (is_detached mode)) ≡ false
      → AllSet v ts es → Gives v to t → stmt_breaks v (stmt_here (Call to (ENamed x) es)) ≡ []
  function_fine to x es mode t ts e n d h k =
      let f = expr_here (ENamed x) in
      let ws = map (λ t. Of t) ts in
      let is : callee v f (exprs_here es) ≡ Takes ws t = ap (λ m. named_callee v f (exprs_here es) m (primitive_named x)) e in
      let called : called_breaks v f (expr_breaks v f) ≡ [] = ap (λ m. named_breaks v f here (expr_breaks v f) m (primitive_named x)) e
      ∙ both_none _ _ (ap (λ b. at_if (b && not (is_cps v.mode)) here CpsInNative) n) (ap (λ b. at_if b here NotClosed) d) in
      let suit = all_sets_suit v ts es h in
      both_none _ _ (subst (λ c. to_breaks v (option_map expr_here to) here (result c) ≡ []) (sym is) (to_fine v to t k))
      (both_none _ _ called (both_none _ _ (subst (λ c. number_breaks c (exprs_here es) here ≡ []) (sym is) (number_fine v ws es t here suit))
      (subst (λ c. args_breaks v (wanted c) (exprs_here es) ≡ []) (sym is) (args_fine v ws es suit))))

  -- a primitive is called
  called_fine : (to : Option Expr) (x : Text) (es : Exprs) (prim : Primitive) (ws : List Wanted) → v.dialect ≡ D.Event → is_detached v.mode ≡ false → meant v.scope x ≡ NotMeant → primitive_named x ≡ Some prim → gives_up prim ≡ false
      → wants v.scope prim (exprs_here es) ≡ ws → number_breaks (Takes ws (gives prim)) (exprs_here es) here ≡ [] → args_breaks v ws (exprs_here es) ≡ [] → Gives v to (gives prim) → stmt_breaks v (stmt_here (Call to (ENamed x) es)) ≡ []
  called_fine to x es prim ws dialect closed e i g j numbers arguments k =
      let f = expr_here (ENamed x) in
      let is : callee v f (exprs_here es) ≡ Takes ws (gives prim) = ap (λ m. named_callee v f (exprs_here es) m (primitive_named x)) e ∙ ap (λ o. unmeant_callee v.scope o (exprs_here es)) i ∙ ap (λ ws. Takes ws (gives prim)) j in
      let row : primitive_breaks v here prim ≡ [] =
      both_none _ _ (ap (λ b. at_if (b && not (is_cps v.mode)) here CpsInNative) g)
      (both_none _ _ (ap (λ b. at_if (b && not (is_closed prim)) here NotClosed) closed)
      (both_none _ _ (ap (λ d. at_if (is_rt prim && not (is_event d)) here RtCall) dialect ∙ ap (λ b. at_if b here RtCall) (and_with_false (is_rt prim))) (ap (λ b. at_if (b && is_event v.dialect) here CpsForm) g))) in
      let called : called_breaks v f (expr_breaks v f) ≡ [] = ap (λ m. named_breaks v f here (expr_breaks v f) m (primitive_named x)) e ∙ ap (unmeant_breaks v here) i ∙ row in
      both_none _ _ (subst (λ c. to_breaks v (option_map expr_here to) here (result c) ≡ []) (sym is) (to_fine v to (gives prim) k))
      (both_none _ _ called (both_none _ _ (subst (λ c. number_breaks c (exprs_here es) here ≡ []) (sym is) numbers) (subst (λ c. args_breaks v (wanted c) (exprs_here es) ≡ []) (sym is) arguments)))

  simple_wants : (prim : Primitive) (es : Exprs) → is_simple prim ≡ true → wants v.scope prim (exprs_here es) ≡ map wanted_of (takes_first prim)
  simple_wants P.Puts es h = by_false_true h
  simple_wants P.RtDetach es h = by_false_true h
  simple_wants prim es h = refl

  pub primitive_fine : (to : Option Expr) (x : Text) (es : Exprs) (prim : Primitive) → v.dialect ≡ D.Event → is_detached v.mode ≡ false → meant v.scope x ≡ NotMeant → primitive_named x ≡ Some prim → gives_up prim ≡ false → is_simple prim ≡ true
      → AllSuit v (map wanted_of (takes_first prim)) es → Gives v to (gives prim) → stmt_breaks v (stmt_here (Call to (ENamed x) es)) ≡ []
  primitive_fine to x es prim dialect closed e i g s h k =
      called_fine to x es prim (map wanted_of (takes_first prim)) dialect closed e i g (simple_wants prim es s) (number_fine v (map wanted_of (takes_first prim)) es (gives prim) here h) (args_fine v (map wanted_of (takes_first prim)) es h) k

  -- ---- sections

  -- the name of a section's function
  section_suits : (x : Text) (ts : List Ty) → meant v.scope x ≡ AFunction Detached (TyInt Int) ts → takes_section v.scope ts ≡ true → Suits v ForSection (ENamed x)
  section_suits x ts e h = record {
    type = AValue (function_type (TyInt Int) ts);
    has = record { fine = ap (name_breaks v.mode here) e; is_typed = ap type_named e };
    suits = ap (λ m. is_callee (section_callee v.scope m)) e ∙ ap (λ b. is_callee (cond b (Takes (map (λ t. Of t) ts) (TyInt Int)) NoCallee)) h;
  }

  -- `rt_detach(f, k, x, es);`
  pub detach_fine : (f k x : Text) (es : Exprs) (ts : List Ty) → v.dialect ≡ D.Event → is_detached v.mode ≡ false → meant v.scope (codes "rt_detach") ≡ NotMeant
      → Suits v (Callback (function_type TyVoid (any_pointer ∷ TyInt Int ∷ []))) (ENamed f) → Sets v any_pointer (ENamed k) → meant v.scope x ≡ AFunction Detached (TyInt Int) ts → takes_section v.scope ts ≡ true → AllSet v ts es
      → stmt_breaks v (stmt_here (Call None (ENamed (codes "rt_detach")) (AndExpr (ENamed f) (AndExpr (ENamed k) (AndExpr (ENamed x) es))))) ≡ []
  detach_fine f k x es ts dialect closed e hf hk hx s h =
      let all = AndExpr (ENamed f) (AndExpr (ENamed k) (AndExpr (ENamed x) es)) in
      let ws : List Wanted = Callback (function_type TyVoid (any_pointer ∷ TyInt Int ∷ [])) ∷ Of any_pointer ∷ ForSection ∷ map (λ t. Of t) ts in
      let suit : AllSuit v ws all = AndSuits _ _ _ _ hf (AndSuits _ _ _ _ (sets_suits v any_pointer (ENamed k) hk) (AndSuits _ _ _ _ (section_suits x ts hx s) (all_sets_suit v ts es h))) in
      called_fine None (codes "rt_detach") all RtDetach ws dialect closed e refl refl
      (ap (λ m. map wanted_of (takes_first RtDetach) ++ detached_wants (length (count (exprs_here all))) (section_callee v.scope m)) hx ∙ ap (λ b. map wanted_of (takes_first RtDetach) ++ detached_wants (length (count (exprs_here all))) (cond b (Takes (map (λ t. Of t) ts) (TyInt Int)) NoCallee)) s)
      (number_fine v ws all TyVoid here suit) (args_fine v ws all suit) tt
