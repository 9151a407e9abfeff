-- Statements and tests that break no rule break none as their images.
use Rattle.std.proofs.Common.{◌≡◌, ◌||◌, not, true, List, [], Option, Some, None, refl, sym, ◌∙◌, ap, ap₂, subst}
use Rattle.std.specs.Prelude.{option_map, is_some}
use Rattle.cpc_base.specs.Bytes.{Text}
use Rattle.cpc_base.proofs.Truth.{or_neither, not_fails}
use Rattle.cpc_num.specs.declared.kinds.Op.{Op}
use Rattle.cpc_tree.specs.Syntax.{Ty, Expr, EBinary, Exprs, Assign, Call}
use Rattle.cpc_tree.specs.Located.{bare_expr}
use Rattle.cpc_tree.specs.Typing.{Typed, APlace, used}
use Rattle.cpc_check_rules.specs.declared.rule.Rule.TheVariants.{Disagree, NoPlace, BadReturn}
use Rattle.cpc_check_rules.specs.Rule.{at_if}
use Rattle.cpc_check_rules.specs.Scopes.{takes_typed}
use Rattle.cpc_check_rules.specs.Operators.{Where, typed_at, first, binary_breaks}
use Rattle.cpc_check_rules.specs.Calls.{Wanted, callee, result}
use Rattle.cpc_check_rules.specs.ExprRules.{expr_breaks}
use Rattle.cpc_check_rules.specs.StmtRules.{is_writable, place_breaks, target_breaks, type_of, fits_breaks, result_breaks, assign_breaks, given_breaks, to_breaks, is_tested, tested_breaks, test_breaks, maybe_test, start_breaks, is_void, unfit_return, return_breaks, stmt_breaks}
use Rattle.cpc_check_laws.proofs.Native.NativeValues.{both_none, unbroken}
use Rattle.cpc_check_laws.proofs.Native.OnePlace.{here, ident_here, expr_here, exprs_here, stmt_here}
use Rattle.cpc_check_laws.proofs.Sound.Unbroken.{split, holds_then, binary_some}
use Rattle.cpc_convert_image_laws.specs.Images.{Readings, image, images, image_if}
use Rattle.cpc_convert_image_laws.proofs.Types.{same_null}
use Rattle.cpc_lifted_laws.specs.Complete.Reads.{Carries, stays_called}
use Rattle.cpc_lifted_laws.specs.Complete.Sets.{Has, Sets, Writes, AllSet, NoneSet, AndSet, Gives, Suits, AllSuit, NoneSuits, AndSuits}
use Rattle.cpc_lifted_laws.proofs.Complete.Typing.{typed_image, here_image}
use Rattle.cpc_lifted_laws.proofs.Complete.Carried.{both_typed, binary_there, expr_carried}
use Rattle.cpc_lifted_laws.proofs.Complete.Called.{takes_there, suits_there}
use Rattle.cpc_lifted_laws.proofs.Complete.CallRows.{call_row}

module _ (w v : Where) (r : Readings) (c : Carries w v r) where
  -- ---- parts

  pub has_carried : (e : Expr) (d : Typed) → Has w e d → Has v (image r e) d
  has_carried e d h = record { fine = expr_carried w v r c e h.fine; is_typed = typed_image w v r c e d h.is_typed }

  pub sets_carried : (t : Ty) (e : Expr) → Sets w t e → Sets v t (image r e)
  sets_carried t e h = record { type = h.type; has = has_carried e h.type h.has; takes = rw (same_null r e) h.takes }

  pub writes_carried : (t : Ty) (e : Expr) → Writes w t e → Writes v t (image r e)
  writes_carried t e h = record { has = has_carried e (APlace t) h.has; writable = h.writable }

  pub all_carried : (ts : List Ty) (es : Exprs) → AllSet w ts es → AllSet v ts (images r es)
  all_carried _ _ NoneSet = NoneSet
  all_carried _ _ (AndSet t ts e es h k) = AndSet t ts (image r e) (images r es) (sets_carried t e h) (all_carried ts es k)

  pub gives_carried : (o : Option Expr) (t : Ty) → Gives w o t → Gives v (image_if r o) t
  gives_carried None t h = tt
  gives_carried (Some e) t h = (h.0, writes_carried h.0 e h.1, h.2)

  pub suits_carried : (t : Wanted) (e : Expr) → Suits w t e → Suits v t (image r e)
  suits_carried t e h = record { type = h.type; has = has_carried e h.type h.has; suits = suits_there w v r c t e h.type h.has.fine h.suits }

  pub all_suit_carried : (ts : List Wanted) (es : Exprs) → AllSuit w ts es → AllSuit v ts (images r es)
  all_suit_carried _ _ NoneSuits = NoneSuits
  all_suit_carried _ _ (AndSuits t ts e es h k) = AndSuits t ts (image r e) (images r es) (suits_carried t e h) (all_suit_carried ts es k)

  -- ---- rows

  same_typed : (e : Expr) → expr_breaks w (expr_here e) ≡ [] → typed_at v (expr_here (image r e)) ≡ typed_at w (expr_here e)
  same_typed e h = let d = both_typed w v r c e h in d.2 ∙ sym d.1

  target_carried : (e : Expr) → target_breaks w (expr_here e) ≡ [] → target_breaks v (expr_here (image r e)) ≡ []
  target_carried e h =
      let k = split (expr_breaks w (expr_here e)) _ h in
      let d = both_typed w v r c e k.0 in
      let q = first (expr_here e) in
      let writable = holds_then (is_writable d.0) q NoPlace (subst (λ o. place_breaks o q ≡ []) d.1 k.1) in
      both_none _ _ (expr_carried w v r c e k.0) (ap (λ o. place_breaks o (first (expr_here (image r e)))) d.2 ∙ ap (λ b. at_if (not b) (first (expr_here (image r e))) NoPlace) writable)

  fits_carried : (o u : Option Typed) (e : Expr) → o ≡ u → expr_breaks w (expr_here e) ≡ [] → fits_breaks o (expr_here e) (typed_at w (expr_here e)) here ≡ [] → fits_breaks u (expr_here (image r e)) (typed_at v (expr_here (image r e))) here ≡ []
  fits_carried o u e i h k = subst (λ u. fits_breaks u (expr_here (image r e)) (typed_at v (expr_here (image r e))) here ≡ []) i (go o k)
    where
      go : (o : Option Typed) → fits_breaks o (expr_here e) (typed_at w (expr_here e)) here ≡ [] → fits_breaks o (expr_here (image r e)) (typed_at v (expr_here (image r e))) here ≡ []
      go None k = refl
      go (Some p) k =
          let d = both_typed w v r c e h in
          let takes = holds_then (takes_typed (type_of p) (bare_expr (expr_here e)) d.0) here Disagree (subst (λ o. fits_breaks (Some p) (expr_here e) o here ≡ []) d.1 k) in
          ap (λ o. fits_breaks (Some p) (expr_here (image r e)) o here) d.2 ∙ ap (λ b. at_if (not b) here Disagree) (takes_there w v r c (type_of p) e d.0 takes)

  assign_there : (e : Expr) (op : Option Op) (a : Expr) → expr_breaks w (expr_here e) ≡ [] → expr_breaks w (expr_here a) ≡ [] → assign_breaks w here (expr_here e) op (expr_here a) ≡ []
      → assign_breaks v here (expr_here (image r e)) op (expr_here (image r a)) ≡ []
  assign_there e None a he ha h = fits_carried _ _ a (sym (same_typed e he)) ha h
  assign_there e (Some op) a he ha h =
      let whole = typed_at w (expr_here (EBinary op e a)) in
      let k = split (binary_breaks w.scope op (typed_at w (expr_here e)) (typed_at w (expr_here a)) whole here) _ h in
      let d = binary_some w.scope op (typed_at w (expr_here e)) (typed_at w (expr_here a)) whole here k.0 (ap is_some (both_typed w v r c e he).1) (ap is_some (both_typed w v r c a ha).1) in
      let there : typed_at v (expr_here (EBinary op (image r e) (image r a))) ≡ Some d.0 = here_image w v r c (EBinary op e a) d.0 d.1 in
      both_none _ _ (binary_there w v r c op e a whole (typed_at v (expr_here (EBinary op (image r e) (image r a)))) d.0 he ha k.0 there)
      (ap₂ (λ a b. result_breaks a b here) (same_typed e he) (there ∙ sym d.1) ∙ k.1)

  pub assign_carried : (e : Expr) (op : Option Op) (a : Expr) → stmt_breaks w (stmt_here (Assign e op a)) ≡ [] → stmt_breaks v (stmt_here (Assign (image r e) op (image r a))) ≡ []
  assign_carried e op a h =
      let k = split (target_breaks w (expr_here e)) _ h in
      let l = split (expr_breaks w (expr_here a)) _ k.1 in
      let m = split (expr_breaks w (expr_here e)) _ k.0 in
      both_none _ _ (target_carried e k.0) (both_none _ _ (expr_carried w v r c a l.0) (assign_there e op a m.0 l.0 l.1))

  to_carried : (o : Option Expr) (t u : Option Ty) → u ≡ t → to_breaks w (option_map expr_here o) here t ≡ [] → to_breaks v (option_map expr_here (image_if r o)) here u ≡ []
  to_carried None t u i h = refl
  to_carried (Some e) t u i h =
      let k = split (target_breaks w (expr_here e)) _ h in
      let l = split (expr_breaks w (expr_here e)) _ k.0 in
      both_none _ _ (target_carried e k.0) (ap₂ (λ a b. given_breaks a b here) (same_typed e l.0) i ∙ k.1)

  pub call_carried : (to : Option Expr) (f : Expr) (es : Exprs) → stays_called w.scope f ≡ true → stmt_breaks w (stmt_here (Call to f es)) ≡ []
      → stmt_breaks v (stmt_here (Call (image_if r to) (image r f) (images r es))) ≡ []
  call_carried to f es s h =
      let k = split (to_breaks w (option_map expr_here to) here (result (callee w (expr_here f) (exprs_here es)))) _ h in
      let row = call_row w v r c f es s k.1 in
      both_none _ _ (to_carried to _ _ row.1 k.0) row.0

  pub test_carried : (e : Expr) → test_breaks w (expr_here e) ≡ [] → test_breaks v (expr_here (image r e)) ≡ []
  test_carried e h =
      let k = split (expr_breaks w (expr_here e)) _ h in
      let d = both_typed w v r c e k.0 in
      let tested = holds_then (is_tested (used d.0)) (first (expr_here e)) Disagree (subst (λ o. tested_breaks o (first (expr_here e)) ≡ []) d.1 k.1) in
      both_none _ _ (expr_carried w v r c e k.0) (ap (λ o. tested_breaks o (first (expr_here (image r e)))) d.2 ∙ ap (λ b. at_if (not b) (first (expr_here (image r e))) Disagree) tested)

  -- a test that may be absent
  pub maybe_test_carried : (o : Option Expr) → maybe_test w (option_map expr_here o) ≡ [] → maybe_test v (option_map expr_here (image_if r o)) ≡ []
  maybe_test_carried None h = refl
  maybe_test_carried (Some e) h = test_carried e h

  -- what a variable of a type starts with
  pub start_carried : (x y : Text) (t : Ty) (o : Option Expr) → start_breaks w (ident_here x) t (option_map expr_here o) ≡ [] → start_breaks v (ident_here y) t (option_map expr_here (image_if r o)) ≡ []
  start_carried x y t None h = refl
  start_carried x y t (Some e) h =
      let k = split (expr_breaks w (expr_here e)) _ h in
      both_none _ _ (expr_carried w v r c e k.0) (fits_carried (Some (APlace t)) (Some (APlace t)) e refl k.0 k.1)

  -- a return, from a function with the same result
  pub return_carried : v.result ≡ w.result → (o : Option Expr) → return_breaks w here (option_map expr_here o) ≡ [] → return_breaks v here (option_map expr_here (image_if r o)) ≡ []
  return_carried same None h = ap (λ t. at_if (not (is_void t)) here BadReturn) same ∙ h
  return_carried same (Some e) h =
      let k = split (expr_breaks w (expr_here e)) _ h in
      let d = both_typed w v r c e k.0 in
      let fit = or_neither (is_void w.result) _ (unbroken (unfit_return w (expr_here e) (Some d.0)) here BadReturn (subst (λ o. at_if (unfit_return w (expr_here e) o) here BadReturn ≡ []) d.1 k.1)) in
      let takes = takes_there w v r c w.result e d.0 (not_fails (takes_typed w.result (bare_expr (expr_here e)) d.0) fit.1) in
      both_none _ _ (expr_carried w v r c e k.0)
      (ap (λ o. at_if (unfit_return v (expr_here (image r e)) o) here BadReturn) d.2
      ∙ ap (λ t. at_if (is_void t || not (takes_typed t (bare_expr (expr_here (image r e))) d.0)) here BadReturn) same
      ∙ ap (λ b. at_if (b || not (takes_typed w.result (bare_expr (expr_here (image r e))) d.0)) here BadReturn) fit.0
      ∙ ap (λ b. at_if (not b) here BadReturn) takes)
