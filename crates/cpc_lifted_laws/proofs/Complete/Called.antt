-- Arguments and calls that break no rule break none as their images.
use Rattle.std.proofs.Common.{◌≡◌, ◌==◌, ◌&&◌, not, suc, Bool, true, false, cond, List, [], ◌∷◌, ◌++◌, length, map, Option, Some, None, refl, sym, ◌∙◌, ap, subst}
use Rattle.cpc_base.specs.Bytes.{Text}
use Rattle.cpc_base.specs.declared.stop.Place.{Place}
use Rattle.cpc_base.proofs.Truth.{by_false_true, and_both}
use Rattle.cpc_num.specs.declared.kinds.Kind.TheVariants.{Int}
use Rattle.cpc_tree.specs.declared.program.Mode.TheVariants.{Detached}
use Rattle.cpc_tree.specs.Syntax.{Ty, TyVoid, TyInt, TyCondvar, TyPointer, TyCode, TyStruct, TyArray, Expr, ENamed, EInteger, ECharacter, EText, EUnary, EBinary, EAnd, EOr, EChoose, ECast, ESizeOf, EIndex, EMember, EArrow, ECall, Exprs, NoExpr, AndExpr}
use Rattle.cpc_tree.specs.Located.{LExpr, bare_expr}
use Rattle.cpc_tree.specs.Typing.{Meant, AFunction, Typed, cells}
use Rattle.cpc_check_rules.specs.declared.rule.Rule.TheVariants.{Disagree, WrongNumber}
use Rattle.cpc_check_rules.specs.Rule.{at_if}
use Rattle.cpc_check_rules.specs.Scopes.{Scope, meant, takes_typed}
use Rattle.cpc_check_rules.specs.Operators.{Where, typed_at, first, name_breaks}
use Rattle.cpc_check_rules.specs.Calls.{Wanted, Integer, Of, Callback, String, ForSection, Callee, Takes, NoCallee, points_to_integers, are_integers, all_integers, takes_section, section_callee, section_of, is_callee, count, number_breaks, is_function, is_function_name, suits, suit_breaks, Anything}
use Rattle.cpc_check_rules.specs.ExprRules.{expr_breaks, arg_breaks, args_breaks}
use Rattle.cpc_check_laws.proofs.Native.NativeValues.{both_none}
use Rattle.cpc_check_laws.proofs.Native.OnePlace.{here, expr_here, exprs_here, expr_again}
use Rattle.cpc_check_laws.proofs.Sound.Unbroken.{split, not_broken, holds_then, typed_of}
use Rattle.cpc_convert_image_laws.specs.Images.{Reading, Readings, image_named, image, images}
use Rattle.cpc_convert_image_laws.proofs.Types.{same_null}
use Rattle.cpc_lifted_laws.specs.Complete.Reads.{Reads, ReadsLocal, ReadsField, StaysLocal, StaysGlobal, StaysFunction, IsCps, StaysNothing, Carries}
use Rattle.cpc_lifted_laws.proofs.Complete.Typing.{here_image}
use Rattle.cpc_lifted_laws.proofs.Complete.Carried.{expr_carried}

-- ---- arguments

pub suit_none : (s : Scope) (t : Wanted) (e : LExpr) (o : Option Typed) (d : Typed) → o ≡ Some d → suits s t e d ≡ true → suit_breaks s t e o ≡ []
suit_none s t e o d h k = ap (suit_breaks s t e) h ∙ ap (λ b. at_if (not b) (first e) Disagree) k

-- an argument that is no string
pub plain_suits : (w : Where) (t : Wanted) (e : LExpr) → expr_breaks w e ++ suit_breaks w.scope t e (typed_at w e) ≡ [] → (expr_breaks w e ≡ []) × ((d : Typed) × (typed_at w e ≡ Some d) × (suits w.scope t e d ≡ true))
plain_suits w t e h =
    let k = split (expr_breaks w e) _ h in
    let d = typed_of w e k.0 in
    let s : suit_breaks w.scope t e (Some d.0) ≡ [] = subst (λ o. suit_breaks w.scope t e o ≡ []) d.1 k.1 in
    (k.0, (d.0, d.1, holds_then (suits w.scope t e d.0) (first e) Disagree s))

module _ (w v : Where) (r : Readings) (c : Carries w v r) where
  integers_there : (t : Ty) → are_integers (cells w.scope.items t) ≡ true → are_integers (cells v.scope.items t) ≡ true
  integers_there t h = go (cells w.scope.items t) refl h
    where
      go : (o : Option (List Ty)) → cells w.scope.items t ≡ o → are_integers o ≡ true → are_integers (cells v.scope.items t) ≡ true
      go None e h = by_false_true h
      go (Some ts) e h = ap are_integers (c.cells t ts e) ∙ h

  points_there : (t : Ty) → points_to_integers w.scope t ≡ true → points_to_integers v.scope t ≡ true
  points_there (TyPointer t) h = integers_there t h
  points_there TyVoid h = by_false_true h
  points_there (TyInt k) h = by_false_true h
  points_there TyCondvar h = by_false_true h
  points_there (TyCode u ts) h = by_false_true h
  points_there (TyStruct tag) h = by_false_true h
  points_there (TyArray t n) h = by_false_true h

  pub section_there : (ts : List Ty) → takes_section w.scope ts ≡ true → takes_section v.scope ts ≡ true
  section_there [] h = by_false_true h
  section_there (t ∷ ts) h = let k = and_both (points_to_integers w.scope t) _ h in ap (λ b. b && all_integers ts) (points_there t k.0) ∙ k.1

  pub takes_there : (t : Ty) (e : Expr) (d : Typed) → takes_typed t (bare_expr (expr_here e)) d ≡ true → takes_typed t (bare_expr (expr_here (image r e))) d ≡ true
  takes_there t e d h = rw (expr_again (image r e)) (null_there (ap (λ e. takes_typed t e d) (sym (expr_again e)) ∙ h))
    where
      null_there : takes_typed t e d ≡ true → takes_typed t (image r e) d ≡ true
      null_there h = rw (same_null r e) h

  -- the name of a function, which is no cps function, stays one
  function_there : (t : Ty) (x : Text) (d : Typed) (o : Option Reading) (m : Meant) → Reads v.scope x o m → name_breaks w.mode here m ≡ [] → is_function m ≡ true → takes_typed t (ENamed x) d ≡ true
      → (is_function_name v.scope (expr_here (image_named o x)) && takes_typed t (bare_expr (expr_here (image_named o x))) d) ≡ true
  function_there t x d _ _ (StaysFunction mode u ts e) h i k = rw e k
  function_there t x d _ _ (IsCps o u ts) h i k = not_broken _ _ h
  function_there t x d _ _ (ReadsLocal y j n u e) h i k = by_false_true i
  function_there t x d _ _ (ReadsField y f tag j n m u e g) h i k = by_false_true i
  function_there t x d _ _ (StaysLocal j n u e) h i k = by_false_true i
  function_there t x d _ _ (StaysGlobal j n u e) h i k = by_false_true i
  function_there t x d _ _ (StaysNothing e) h i k = by_false_true i

  callback_there : (t : Ty) (e : Expr) (d : Typed) → expr_breaks w (expr_here e) ≡ [] → suits w.scope (Callback t) (expr_here e) d ≡ true → suits v.scope (Callback t) (expr_here (image r e)) d ≡ true
  callback_there t (ENamed x) d h k =
      let l = and_both (is_function (meant w.scope x)) (takes_typed t (ENamed x) d) k in
      function_there t x d (r x) (meant w.scope x) (c.names x) h l.0 l.1
  callback_there t (EInteger kind z) d h k = by_false_true k
  callback_there t (ECharacter z) d h k = by_false_true k
  callback_there t (EText bytes) d h k = by_false_true k
  callback_there t (EUnary op e) d h k = by_false_true k
  callback_there t (EBinary op a b) d h k = by_false_true k
  callback_there t (EAnd a b) d h k = by_false_true k
  callback_there t (EOr a b) d h k = by_false_true k
  callback_there t (EChoose e a b) d h k = by_false_true k
  callback_there t (ECast u e) d h k = by_false_true k
  callback_there t (ESizeOf u) d h k = by_false_true k
  callback_there t (EIndex a b) d h k = by_false_true k
  callback_there t (EMember e x) d h k = by_false_true k
  callback_there t (EArrow e x) d h k = by_false_true k
  callback_there t (ECall f es) d h k = by_false_true k

  -- a function of a section stays one
  callee_section : (ts : List Ty) → is_callee (cond (takes_section w.scope ts) (Takes (map (λ t. Of t) ts) (TyInt Int)) NoCallee) ≡ true → is_callee (cond (takes_section v.scope ts) (Takes (map (λ t. Of t) ts) (TyInt Int)) NoCallee) ≡ true
  callee_section ts h = go (takes_section w.scope ts) refl h
    where
      go : (b : Bool) → takes_section w.scope ts ≡ b → is_callee (cond b (Takes (map (λ t. Of t) ts) (TyInt Int)) NoCallee) ≡ true → is_callee (cond (takes_section v.scope ts) (Takes (map (λ t. Of t) ts) (TyInt Int)) NoCallee) ≡ true
      go true e h = ap (λ b. is_callee (cond b (Takes (map (λ t. Of t) ts) (TyInt Int)) NoCallee)) (section_there ts e)
      go false e h = by_false_true h

  meant_section : (m : Meant) → is_callee (section_callee w.scope m) ≡ true → is_callee (section_callee v.scope m) ≡ true
  meant_section (AFunction Detached (TyInt Int) ts) h = callee_section ts h
  meant_section _ h = by_false_true h

  named_section : (x : Text) (o : Option Reading) (m : Meant) → Reads v.scope x o m → is_callee (section_callee w.scope m) ≡ true → is_callee (section_of v.scope (Some (expr_here (image_named o x)))) ≡ true
  named_section x _ _ (StaysFunction mode u ts e) h = ap (λ m. is_callee (section_callee v.scope m)) e ∙ meant_section (AFunction mode u ts) h
  named_section x _ _ (IsCps o u ts) h = by_false_true h
  named_section x _ _ (ReadsLocal y j n u e) h = by_false_true h
  named_section x _ _ (ReadsField y f tag j n m u e g) h = by_false_true h
  named_section x _ _ (StaysLocal j n u e) h = by_false_true h
  named_section x _ _ (StaysGlobal j n u e) h = by_false_true h
  named_section x _ _ (StaysNothing e) h = by_false_true h

  section_suits : (e : Expr) → is_callee (section_of w.scope (Some (expr_here e))) ≡ true → is_callee (section_of v.scope (Some (expr_here (image r e)))) ≡ true
  section_suits (ENamed x) h = named_section x (r x) (meant w.scope x) (c.names x) h
  section_suits (EInteger kind z) h = by_false_true h
  section_suits (ECharacter z) h = by_false_true h
  section_suits (EText bytes) h = by_false_true h
  section_suits (EUnary op e) h = by_false_true h
  section_suits (EBinary op a b) h = by_false_true h
  section_suits (EAnd a b) h = by_false_true h
  section_suits (EOr a b) h = by_false_true h
  section_suits (EChoose e a b) h = by_false_true h
  section_suits (ECast u e) h = by_false_true h
  section_suits (ESizeOf u) h = by_false_true h
  section_suits (EIndex a b) h = by_false_true h
  section_suits (EMember e x) h = by_false_true h
  section_suits (EArrow e x) h = by_false_true h
  section_suits (ECall f es) h = by_false_true h

  pub suits_there : (t : Wanted) (e : Expr) (d : Typed) → expr_breaks w (expr_here e) ≡ [] → suits w.scope t (expr_here e) d ≡ true → suits v.scope t (expr_here (image r e)) d ≡ true
  suits_there Integer e d h k = k
  suits_there (Of t) e d h k = takes_there t e d k
  suits_there (Callback t) e d h k = callback_there t e d h k
  suits_there String e d h k = by_false_true k
  suits_there ForSection e d h k = section_suits e k
  suits_there Anything e d h k = k

  plain_carried : (t : Wanted) (e : Expr) → expr_breaks w (expr_here e) ++ suit_breaks w.scope t (expr_here e) (typed_at w (expr_here e)) ≡ []
      → expr_breaks v (expr_here (image r e)) ++ suit_breaks v.scope t (expr_here (image r e)) (typed_at v (expr_here (image r e))) ≡ []
  plain_carried t e h =
      let k = plain_suits w t (expr_here e) h in
      both_none _ _ (expr_carried w v r c e k.0)
      (suit_none v.scope t (expr_here (image r e)) (typed_at v (expr_here (image r e))) k.1.0 (here_image w v r c e k.1.0 k.1.1) (suits_there t e k.1.0 k.0 k.1.2))

  no_string : (e : Expr) → expr_breaks w (expr_here e) ++ suit_breaks w.scope String (expr_here e) (typed_at w (expr_here e)) ≡ [] → arg_breaks v String (expr_here (image r e)) (expr_breaks v (expr_here (image r e))) ≡ []
  no_string e h = by_false_true (plain_suits w String (expr_here e) h).1.2

  -- a string stays one, and nothing else is
  string_carried : (e : Expr) → arg_breaks w String (expr_here e) (expr_breaks w (expr_here e)) ≡ [] → arg_breaks v String (expr_here (image r e)) (expr_breaks v (expr_here (image r e))) ≡ []
  string_carried (EText bytes) h = refl
  string_carried (ENamed x) h = no_string (ENamed x) h
  string_carried (EInteger kind z) h = no_string (EInteger kind z) h
  string_carried (ECharacter z) h = no_string (ECharacter z) h
  string_carried (EUnary op e) h = no_string (EUnary op e) h
  string_carried (EBinary op a b) h = no_string (EBinary op a b) h
  string_carried (EAnd a b) h = no_string (EAnd a b) h
  string_carried (EOr a b) h = no_string (EOr a b) h
  string_carried (EChoose e a b) h = no_string (EChoose e a b) h
  string_carried (ECast u e) h = no_string (ECast u e) h
  string_carried (ESizeOf u) h = no_string (ESizeOf u) h
  string_carried (EIndex a b) h = no_string (EIndex a b) h
  string_carried (EMember e x) h = no_string (EMember e x) h
  string_carried (EArrow e x) h = no_string (EArrow e x) h
  string_carried (ECall f es) h = no_string (ECall f es) h

  arg_carried : (t : Wanted) (e : Expr) → arg_breaks w t (expr_here e) (expr_breaks w (expr_here e)) ≡ [] → arg_breaks v t (expr_here (image r e)) (expr_breaks v (expr_here (image r e))) ≡ []
  arg_carried Integer e h = plain_carried Integer e h
  arg_carried (Of t) e h = plain_carried (Of t) e h
  arg_carried (Callback t) e h = plain_carried (Callback t) e h
  arg_carried String e h = string_carried e h
  arg_carried ForSection e h = plain_carried ForSection e h
  arg_carried Anything e h = plain_carried Anything e h

  pub args_carried : (ts : List Wanted) (es : Exprs) → args_breaks w ts (exprs_here es) ≡ [] → args_breaks v ts (exprs_here (images r es)) ≡ []
  args_carried ts NoExpr h = refl
  args_carried [] (AndExpr e es) h = let k = split (expr_breaks w (expr_here e)) _ h in both_none _ _ (expr_carried w v r c e k.0) (args_carried [] es k.1)
  args_carried (t ∷ ts) (AndExpr e es) h = let k = split (arg_breaks w t (expr_here e) (expr_breaks w (expr_here e))) _ h in both_none _ _ (arg_carried t e k.0) (args_carried ts es k.1)

  -- ---- what is called

  count_images : (es : Exprs) → length (count (exprs_here (images r es))) ≡ length (count (exprs_here es))
  count_images NoExpr = refl
  count_images (AndExpr e es) = ap suc (count_images es)

  pub number_there : (k : Callee) (es : Exprs) (q q' : Place) → number_breaks k (exprs_here es) q ≡ [] → number_breaks k (exprs_here (images r es)) q' ≡ []
  number_there NoCallee es q q' h = refl
  number_there (Takes ws u) es q q' h = ap (λ n. at_if (not (n == length ws)) q' WrongNumber) (count_images es) ∙ ap (λ b. at_if (not b) q' WrongNumber) (holds_then (length (count (exprs_here es)) == length ws) q WrongNumber h)
