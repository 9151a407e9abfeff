-- A call that breaks no rule is well typed.
use Rattle.std.proofs.Common.{◌≡◌, ◌&&◌, ◌==◌, ◌-◌, not, ℕ, suc, true, false, cond, List, [], ◌∷◌, ◌++◌, map, length, Option, Some, None, refl, sym, ◌∙◌, ap, subst, arith, max, replicate}
use Rattle.cpc_base.specs.Bytes.{Text}
use Rattle.cpc_base.specs.declared.stop.Place.{Place}
use Rattle.cpc_base.specs.declared.stop.Dialect.{Dialect}
use Rattle.cpc_base.specs.declared.stop.Dialect.TheVariants as D
use Rattle.cpc_base.proofs.Truth.{by_false_true, eq_means, and_with_true, and_not_fails}
use Rattle.cpc_base.proofs.Lists.{some_is}
use Rattle.cpc_num.specs.declared.kinds.Kind.TheVariants.{Int}
use Rattle.cpc_tree.specs.declared.program.Mode.{Mode}
use Rattle.cpc_tree.specs.declared.program.Mode.TheVariants.{Extern, Native, Cps, Detached}
use Rattle.cpc_tree.specs.Syntax.{Ty, TyVoid, TyInt, TyCondvar, TyPointer, TyCode, TyStruct, TyArray, Tys, Expr, ENamed, Function, Program}
use Rattle.cpc_tree.specs.Located.{Ident, LExpr, LNamed, LInteger, LCharacter, LText, LUnary, LBinary, LAnd, LOr, LChoose, LCast, LSizeOf, LIndex, LMember, LArrow, LCall, LExprs, NoLExpr, AndLExpr, bare_expr, bare_exprs}
use Rattle.cpc_tree.specs.Typing.{Scope, Meant, ALocal, AGlobal, AFunction, NotMeant, Typed, named, used, function_type, list_of_tys}
use Rattle.cpc_tree.specs.Primitives.{Primitive, Puts, RtDetach, primitive_named, SetOf, takes_first}
use Rattle.cpc_check_rules.specs.declared.rule.Rule.TheVariants.{Disagree, WrongNumber, NotClosed, RtCall, CpsForm, CpsInNative}
use Rattle.cpc_check_rules.specs.Rule.{at_if}
use Rattle.cpc_check_rules.specs.Scopes.{meant}
use Rattle.cpc_check_rules.specs.Operators.{Where, typed_at, used_of, first, is_detached, is_cps}
use Rattle.cpc_check_rules.specs.Calls.{Wanted, Of, String, ForSection, Callback, Callee, Takes, NoCallee, is_callee, section_callee, section_of, detached_wants, wants, gives, gives_up, is_rt, is_closed, is_event, primitive_breaks, function_breaks, code_callee, named_callee, callee, is_code, no_code, pointer_breaks, named_breaks, count, number_breaks, wanted, result, Anything}
use Rattle.cpc_check_rules.specs.ExprRules.{expr_breaks, called_breaks, arg_breaks, args_breaks, call_breaks}
use Rattle.cpc_check_laws.specs.Sound.Typed.{Gets, GetsTaken, AllGet, TakesArguments, is_for, is_own, is_variable, is_pointer_call, Calls, CallsHost, CallsFunction, CallsPrimitive, CallsPointer}
use Rattle.cpc_check_laws.proofs.Sound.Answers.{no_some}
use Rattle.cpc_check_laws.proofs.Sound.Unbroken.{split, not_broken, holds_then, section_meant, typed_of}
use Rattle.cpc_check_laws.proofs.Sound.Agreement.{Matches, Facts, At, item_of, typed_here, suits_here, of_here, args_here, taken_here, all_taken_here, detaches_here}
use Rattle.cpc_check_laws.proofs.Native.NativeValues.{unbroken}

module _ (d : Dialect) (p : Program) (facts : Facts p) (f : Function) (w : Where) (scope : Scope) (at : At d p f w scope) where
  -- ---- the arguments of primitives

  text_here : (e : LExpr) → arg_breaks w String e (expr_breaks w e) ≡ [] → TakesArguments p scope Puts (bare_exprs (AndLExpr e NoLExpr))
  text_here (LText q bytes) h = tt
  text_here (LNamed x) h = by_false_true (suits_here d p facts f w scope at String (LNamed x) h).2
  text_here (LInteger q kind z) h = by_false_true (suits_here d p facts f w scope at String (LInteger q kind z) h).2
  text_here (LCharacter q z) h = by_false_true (suits_here d p facts f w scope at String (LCharacter q z) h).2
  text_here (LUnary q op v) h = by_false_true (suits_here d p facts f w scope at String (LUnary q op v) h).2
  text_here (LBinary q op v u) h = by_false_true (suits_here d p facts f w scope at String (LBinary q op v u) h).2
  text_here (LAnd q v u) h = by_false_true (suits_here d p facts f w scope at String (LAnd q v u) h).2
  text_here (LOr q v u) h = by_false_true (suits_here d p facts f w scope at String (LOr q v u) h).2
  text_here (LChoose q c v u) h = by_false_true (suits_here d p facts f w scope at String (LChoose q c v u) h).2
  text_here (LCast q t v) h = by_false_true (suits_here d p facts f w scope at String (LCast q t v) h).2
  text_here (LSizeOf q t) h = by_false_true (suits_here d p facts f w scope at String (LSizeOf q t) h).2
  text_here (LIndex q v u) h = by_false_true (suits_here d p facts f w scope at String (LIndex q v u) h).2
  text_here (LMember q v x) h = by_false_true (suits_here d p facts f w scope at String (LMember q v x) h).2
  text_here (LArrow q v x) h = by_false_true (suits_here d p facts f w scope at String (LArrow q v x) h).2
  text_here (LCall q g vs) h = by_false_true (suits_here d p facts f w scope at String (LCall q g vs) h).2

  puts_here : (es : LExprs) → length (count es) ≡ 1 → args_breaks w (String ∷ []) es ≡ [] → TakesArguments p scope Puts (bare_exprs es)
  puts_here (AndLExpr e NoLExpr) n h = text_here e (split (arg_breaks w String e (expr_breaks w e)) [] h).0
  puts_here NoLExpr n h = absurd (omega arith)
  puts_here (AndLExpr e (AndLExpr e2 es)) n h = absurd (omega arith)

  -- the third argument of `rt_detach`, and those behind it
  third_breaks : (g : ℕ) (k : Callee) (c : LExpr) (es : LExprs) → args_breaks w (detached_wants g k) (AndLExpr c es) ≡ [] → arg_breaks w ForSection c (expr_breaks w c) ≡ []
  third_breaks g (Takes ws r) c es h = (split (arg_breaks w ForSection c (expr_breaks w c)) (args_breaks w ws es) h).0
  third_breaks g NoCallee c es h = (split (arg_breaks w ForSection c (expr_breaks w c)) (args_breaks w (replicate (max (g - 3) 1) Anything) es) h).0

  section_name : (given : ℕ) (a b : LExpr) (x : Ident) (es : LExprs) → GetsTaken p scope (SetOf (function_type TyVoid (TyPointer TyVoid ∷ TyInt Int ∷ []))) (bare_expr a) → Gets p scope (TyPointer TyVoid) (bare_expr b)
      → (n : length (count es) ≡ length (detached_wants given (section_callee w.scope (meant w.scope x.text))) - 1) → args_breaks w (detached_wants given (section_callee w.scope (meant w.scope x.text))) (AndLExpr (LNamed x) es) ≡ []
      → TakesArguments p scope RtDetach (bare_exprs (AndLExpr a (AndLExpr b (AndLExpr (LNamed x) es))))
  section_name given a b x es ga gb n h =
      let i = third_breaks given (section_callee w.scope (meant w.scope x.text)) (LNamed x) es h in
      let j = suits_here d p facts f w scope at ForSection (LNamed x) i in
      let m = section_meant w.scope (meant w.scope x.text) j.2 in
      let k : section_callee w.scope (meant w.scope x.text) ≡ Takes (map (λ t. Of t) m.0) (TyInt Int) = ap (section_callee w.scope) m.1 ∙ ap (λ b. cond b (Takes (map (λ t. Of t) m.0) (TyInt Int)) NoCallee) m.2 in
      let n2 : length (count es) ≡ length (map (λ t. Of t) m.0) = subst (λ c. length (count es) ≡ length (detached_wants given c) - 1) k n ∙ omega arith in
      let h2 : args_breaks w (ForSection ∷ map (λ t. Of t) m.0) (AndLExpr (LNamed x) es) ≡ [] = subst (λ c. args_breaks w (detached_wants given c) (AndLExpr (LNamed x) es) ≡ []) k h in
      let gets = args_here d p facts f w scope at m.0 es n2 (split (arg_breaks w ForSection (LNamed x) (expr_breaks w (LNamed x))) (args_breaks w (map (λ t. Of t) m.0) es) h2).1 in
      (ga, gb, (TyInt Int, m.0, subst (λ m. Matches x.text m (named p scope x.text)) m.1 (at.names x.text)), detaches_here d p facts f w scope at x.text m.0 es m.1 m.2 gets)

  -- what is no name is no section
  no_section : (c : LExpr) → is_callee (section_of w.scope (Some c)) ≡ true → (x : Ident) × (c ≡ LNamed x)
  no_section (LNamed x) h = (x, refl)
  no_section (LInteger q kind z) h = by_false_true h
  no_section (LCharacter q z) h = by_false_true h
  no_section (LText q bytes) h = by_false_true h
  no_section (LUnary q op v) h = by_false_true h
  no_section (LBinary q op v u) h = by_false_true h
  no_section (LAnd q v u) h = by_false_true h
  no_section (LOr q v u) h = by_false_true h
  no_section (LChoose q c v u) h = by_false_true h
  no_section (LCast q t v) h = by_false_true h
  no_section (LSizeOf q t) h = by_false_true h
  no_section (LIndex q v u) h = by_false_true h
  no_section (LMember q v x) h = by_false_true h
  no_section (LArrow q v x) h = by_false_true h
  no_section (LCall q g vs) h = by_false_true h

  some_left : (g : ℕ) (k : Callee) → (n : ℕ) × (length (detached_wants g k) ≡ suc n)
  some_left g (Takes ws r) = (length ws, refl)
  some_left g NoCallee = (length (replicate (max (g - 3) 1) Anything), refl)

  detach_here : (es : LExprs) → length (count es) ≡ length (wants w.scope RtDetach es) → args_breaks w (wants w.scope RtDetach es) es ≡ [] → TakesArguments p scope RtDetach (bare_exprs es)
  detach_here (AndLExpr a (AndLExpr b (AndLExpr c es))) n h =
      let cb : Wanted = Callback (function_type TyVoid (TyPointer TyVoid ∷ TyInt Int ∷ [])) in
      let given = length (count (AndLExpr a (AndLExpr b (AndLExpr c es)))) in
      let rest = detached_wants given (section_of w.scope (Some c)) in
      let h1 = split (arg_breaks w cb a (expr_breaks w a)) (args_breaks w (Of (TyPointer TyVoid) ∷ rest) (AndLExpr b (AndLExpr c es))) h in
      let h2 = split (arg_breaks w (Of (TyPointer TyVoid)) b (expr_breaks w b)) (args_breaks w rest (AndLExpr c es)) h1.1 in
      let j = suits_here d p facts f w scope at ForSection c (third_breaks given (section_of w.scope (Some c)) c es h2.1) in
      let x = no_section c j.2 in
      let left = some_left given (section_of w.scope (Some c)) in
      let m : length (count es) ≡ length rest - 1 = omega (arith, n, left.1) in
      subst (λ c. TakesArguments p scope RtDetach (bare_exprs (AndLExpr a (AndLExpr b (AndLExpr c es))))) (sym x.1)
      (section_name given a b x.0 es (taken_here d p facts f w scope at (SetOf (function_type TyVoid (TyPointer TyVoid ∷ TyInt Int ∷ []))) a h1.0) (of_here d p facts f w scope at (TyPointer TyVoid) b h2.0)
      (subst (λ c. length (count es) ≡ length (detached_wants given (section_of w.scope (Some c))) - 1) x.1 m)
      (subst (λ c. args_breaks w (detached_wants given (section_of w.scope (Some c))) (AndLExpr c es) ≡ []) x.1 h2.1))
  detach_here NoLExpr n h = absurd (omega arith)
  detach_here (AndLExpr a NoLExpr) n h = absurd (omega arith)
  detach_here (AndLExpr a (AndLExpr b NoLExpr)) n h = absurd (omega arith)

  takes_here : (prim : Primitive) (es : LExprs) → length (count es) ≡ length (wants w.scope prim es) → args_breaks w (wants w.scope prim es) es ≡ [] → TakesArguments p scope prim (bare_exprs es)
  takes_here Puts es n h = puts_here es n h
  takes_here RtDetach es n h = detach_here es n h
  takes_here prim es n h = all_taken_here d p facts f w scope at (takes_first prim) es n h

  -- ---- what is called

  pub number_here : (c : Callee) (ws : List Wanted) (r : Ty) (es : LExprs) (q : Place) → c ≡ Takes ws r → number_breaks c es q ≡ [] → length (count es) ≡ length ws
  number_here (Takes us u) ws r es q e h = eq_means (length (count es)) (length us) (holds_then (length (count es) == length us) q WrongNumber h) ∙ ap (λ c. length (wanted c)) e
  number_here NoCallee ws r es q e h = absurd (cc)

  primitive_for : (e : Dialect) (prim : Primitive) (q : Place) → (at_if (is_rt prim && not (is_event e)) q RtCall ++ at_if (gives_up prim && is_event e) q CpsForm) ≡ [] → is_for e prim ≡ true
  primitive_for D.Cpc prim q h = ap not (sym (and_with_true (is_rt prim)) ∙ unbroken (is_rt prim && true) q RtCall (split (at_if (is_rt prim && true) q RtCall) (at_if (gives_up prim && false) q CpsForm) h).0)
  primitive_for D.Event prim q h = ap not (sym (and_with_true (gives_up prim)) ∙ unbroken (gives_up prim && true) q CpsForm (split (at_if (is_rt prim && false) q RtCall) (at_if (gives_up prim && true) q CpsForm) h).1)

  -- what a call is
  abbrev CallOk : Callee → Expr → LExprs → Type 0
  CallOk c g es = (r : Ty) × (result c ≡ Some r) × Calls d p f.mode scope g (bare_exprs es) r

  around : is_detached w.mode ≡ is_detached f.mode
  around = ap is_detached at.mode

  host_call : (x : Text) (r : Ty) (ps : List Ty) (es : LExprs) → meant w.scope x ≡ AFunction Extern r ps → is_detached w.mode ≡ false → AllGet p scope ps (bare_exprs es) → Calls d p f.mode scope (ENamed x) (bare_exprs es) r
  host_call x r ps es e closed gets =
      let is_m : named p scope x ≡ AFunction Extern r ps = subst (λ m. Matches x m (named p scope x)) e (at.names x) in
      let long = facts.extern x r ps (item_of p scope x Extern r ps is_m) in
      subst (Calls d p f.mode scope (ENamed x) (bare_exprs es)) (sym long.0) (CallsHost x r ps (bare_exprs es) (sym around ∙ closed) is_m (long.1 (bare_exprs es) scope gets) gets)

  own_call : (x : Text) (mode : Mode) (r : Ty) (ps : List Ty) (es : LExprs) → is_own mode ≡ true → meant w.scope x ≡ AFunction mode r ps → (is_detached w.mode ≡ true → is_detached mode ≡ true) → (is_cps mode ≡ true → is_cps w.mode ≡ true) → AllGet p scope ps (bare_exprs es)
      → Calls d p f.mode scope (ENamed x) (bare_exprs es) r
  own_call x mode r ps es own e closed cps gets =
      let is_m : named p scope x ≡ AFunction mode r ps = subst (λ m. Matches x m (named p scope x)) e (at.names x) in
      let g = facts.function x mode r ps (item_of p scope x mode r ps is_m) own in
      subst (Calls d p f.mode scope (ENamed x) (bare_exprs es)) g.3
      (CallsFunction x mode r ps g.0 (bare_exprs es) own is_m g.1 (λ k. ap is_detached g.2 ∙ closed (around ∙ k)) (λ k. ap is_cps (sym at.mode) ∙ cps (ap is_cps (sym g.2) ∙ k)) (subst (λ us. AllGet p scope us (bare_exprs es)) (sym g.4) gets))

  function_call : (x : Text) (q : Place) (mode : Mode) (r : Ty) (ps : List Ty) (es : LExprs) → meant w.scope x ≡ AFunction mode r ps → function_breaks w q mode ≡ [] → AllGet p scope ps (bare_exprs es)
      → Calls d p f.mode scope (ENamed x) (bare_exprs es) r
  function_call x q mode r ps es e h gets =
      let k = split (at_if (is_cps mode && not (is_cps w.mode)) q CpsInNative) (at_if (is_detached w.mode && not (is_detached mode)) q NotClosed) h in
      go mode e (unbroken (is_detached w.mode && not (is_detached mode)) q NotClosed k.1) (and_not_fails (is_cps mode) (is_cps w.mode) (unbroken (is_cps mode && not (is_cps w.mode)) q CpsInNative k.0))
    where
      go : (mode : Mode) → meant w.scope x ≡ AFunction mode r ps → (is_detached w.mode && not (is_detached mode)) ≡ false → (is_cps mode ≡ true → is_cps w.mode ≡ true) → Calls d p f.mode scope (ENamed x) (bare_exprs es) r
      go Extern e i cps = host_call x r ps es e (sym (and_with_true (is_detached w.mode)) ∙ i) gets
      go Native e i cps = own_call x Native r ps es refl e (and_not_fails (is_detached w.mode) false i) cps gets
      go Cps e i cps = own_call x Cps r ps es refl e (and_not_fails (is_detached w.mode) false i) cps gets
      go Detached e i cps = own_call x Detached r ps es refl e (λ k. refl) cps gets

  primitive_call : (x : Text) (q : Place) (prim : Primitive) (es : LExprs) → meant w.scope x ≡ NotMeant → primitive_named x ≡ Some prim → primitive_breaks w q prim ≡ [] → TakesArguments p scope prim (bare_exprs es)
      → Calls d p f.mode scope (ENamed x) (bare_exprs es) (gives prim)
  primitive_call x q prim es e is_prim h gets =
      let is_m : named p scope x ≡ NotMeant = (subst (λ m. Matches x m (named p scope x)) e (at.names x)) prim is_prim in
      let h1 = split (at_if (gives_up prim && not (is_cps w.mode)) q CpsInNative) _ h in
      let h2 = split (at_if (is_detached w.mode && not (is_closed prim)) q NotClosed) _ h1.1 in
      CallsPrimitive x prim (bare_exprs es) is_m is_prim (subst (λ d. is_for d prim ≡ true) at.dialect (primitive_for w.dialect prim q h2.1))
      (λ k. and_not_fails (is_detached w.mode) (is_closed prim) (unbroken (is_detached w.mode && not (is_closed prim)) q NotClosed h2.0) (around ∙ k))
      (λ k. ap is_cps (sym at.mode) ∙ and_not_fails (gives_up prim) (is_cps w.mode) (unbroken (gives_up prim && not (is_cps w.mode)) q CpsInNative h1.0) k) gets

  code_of : (o : Option Ty) → is_code o ≡ true → (r : Ty) × (ps : Tys) × (o ≡ Some (TyCode r ps))
  code_of (Some (TyCode r ps)) h = (r, ps, refl)
  code_of None h = by_false_true h
  code_of (Some TyVoid) h = by_false_true h
  code_of (Some (TyInt k)) h = by_false_true h
  code_of (Some TyCondvar) h = by_false_true h
  code_of (Some (TyPointer t)) h = by_false_true h
  code_of (Some (TyStruct tag)) h = by_false_true h
  code_of (Some (TyArray t n)) h = by_false_true h

  code_holds : (o : Option Typed) (c : Typed) (q : Place) → o ≡ Some c → no_code o q ≡ [] → is_code (used c) ≡ true
  code_holds None c q e h = no_some c e
  code_holds (Some b) c q e h = subst (λ c. is_code (used c) ≡ true) (some_is b c e) (holds_then (is_code (used b)) q Disagree h)

  pointer_call : (g : LExpr) (es : LExprs) → is_pointer_call p scope (bare_expr g) ≡ true → pointer_breaks w g (expr_breaks w g) ≡ [] → number_breaks (code_callee (used_of (typed_at w g))) es (first g) ≡ []
      → args_breaks w (wanted (code_callee (used_of (typed_at w g)))) es ≡ [] → CallOk (code_callee (used_of (typed_at w g))) (bare_expr g) es
  pointer_call g es is_pointer h n a =
      let h1 = split (expr_breaks w g) _ h in
      let h2 = split (at_if (is_detached w.mode) (first g) NotClosed) (no_code (typed_at w g) (first g)) h1.1 in
      let c = typed_of w g h1.0 in
      let t = code_of (used c.0) (code_holds (typed_at w g) c.0 (first g) c.1 h2.1) in
      let is_callee : code_callee (used_of (typed_at w g)) ≡ Takes (map (λ t. Of t) (list_of_tys t.1)) t.0 = ap (λ o. code_callee (used_of o)) c.1 ∙ ap code_callee t.2 in
      let gets = args_here d p facts f w scope at (list_of_tys t.1) es (number_here (code_callee (used_of (typed_at w g))) (map (λ t. Of t) (list_of_tys t.1)) t.0 es (first g) is_callee n) (subst (λ c. args_breaks w (wanted c) es ≡ []) is_callee a) in
      (t.0, ap result is_callee, CallsPointer (bare_expr g) c.0 t.0 t.1 (bare_exprs es) (sym around ∙ unbroken (is_detached w.mode) (first g) NotClosed h2.0) is_pointer (typed_here d p facts f w scope at (bare_expr g) c.0 c.1) t.2 gets)

  named_call : (x : Ident) (es : LExprs) (m : Meant) (o : Option Primitive) → meant w.scope x.text ≡ m → primitive_named x.text ≡ o → named_breaks w (LNamed x) x.place (expr_breaks w (LNamed x)) m o ≡ []
      → number_breaks (named_callee w (LNamed x) es m o) es x.place ≡ [] → args_breaks w (wanted (named_callee w (LNamed x) es m o)) es ≡ [] → CallOk (named_callee w (LNamed x) es m o) (ENamed x.text) es
  named_call x es (AFunction mode r ps) o e i h n a =
      (r, refl, function_call x.text x.place mode r ps es e h (args_here d p facts f w scope at ps es (number_here (Takes (map (λ t. Of t) ps) r) (map (λ t. Of t) ps) r es x.place refl n) a))
  named_call x es NotMeant None e i h n a = not_broken _ _ h
  named_call x es NotMeant (Some prim) e i h n a =
      (gives prim, refl, primitive_call x.text x.place prim es e i h (takes_here prim es (number_here (Takes (wants w.scope prim es) (gives prim)) (wants w.scope prim es) (gives prim) es x.place refl n) a))
  named_call x es (ALocal k t) o e i h n a =
      let is_m = subst (λ m. Matches x.text m (named p scope x.text)) e (at.names x.text) in
      pointer_call (LNamed x) es (ap is_variable is_m.1) h n a
  named_call x es (AGlobal k t) o e i h n a =
      let is_m = subst (λ m. Matches x.text m (named p scope x.text)) e (at.names x.text) in
      pointer_call (LNamed x) es (ap is_variable is_m.1) h n a

  -- a call that breaks no rule
  pub call_here : (g : LExpr) (es : LExprs) → call_breaks w g es ≡ [] → CallOk (callee w g es) (bare_expr g) es
  call_here g es h =
      let h1 = split (called_breaks w g (expr_breaks w g)) _ h in
      let h2 = split (number_breaks (callee w g es) es (first g)) (args_breaks w (wanted (callee w g es)) es) h1.1 in
      go g h1.0 h2.0 h2.1
    where
      go : (g : LExpr) → called_breaks w g (expr_breaks w g) ≡ [] → number_breaks (callee w g es) es (first g) ≡ [] → args_breaks w (wanted (callee w g es)) es ≡ [] → CallOk (callee w g es) (bare_expr g) es
      go (LNamed x) h n a = named_call x es (meant w.scope x.text) (primitive_named x.text) refl refl h n a
      go (LInteger q kind z) h n a = pointer_call (LInteger q kind z) es refl h n a
      go (LCharacter q z) h n a = pointer_call (LCharacter q z) es refl h n a
      go (LText q bytes) h n a = pointer_call (LText q bytes) es refl h n a
      go (LUnary q op v) h n a = pointer_call (LUnary q op v) es refl h n a
      go (LBinary q op v u) h n a = pointer_call (LBinary q op v u) es refl h n a
      go (LAnd q v u) h n a = pointer_call (LAnd q v u) es refl h n a
      go (LOr q v u) h n a = pointer_call (LOr q v u) es refl h n a
      go (LChoose q t v u) h n a = pointer_call (LChoose q t v u) es refl h n a
      go (LCast q t v) h n a = pointer_call (LCast q t v) es refl h n a
      go (LSizeOf q t) h n a = pointer_call (LSizeOf q t) es refl h n a
      go (LIndex q v u) h n a = pointer_call (LIndex q v u) es refl h n a
      go (LMember q v x) h n a = pointer_call (LMember q v x) es refl h n a
      go (LArrow q v x) h n a = pointer_call (LArrow q v x) es refl h n a
      go (LCall q k vs) h n a = pointer_call (LCall q k vs) es refl h n a
