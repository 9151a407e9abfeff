-- A call that breaks no rule, of what is neither a cps function nor a primitive that waits, breaks none as its image.
use Rattle.std.proofs.Common.{◌≡◌, ◌&&◌, not, Bool, true, false, List, [], Option, Some, None, refl, sym, ◌∙◌, ap, subst}
use Rattle.cpc_base.specs.Bytes.{Text}
use Rattle.cpc_base.proofs.Truth.{by_false_true, not_holds, and_with_true}
use Rattle.cpc_tree.specs.declared.program.Mode.{Mode}
use Rattle.cpc_tree.specs.declared.program.Mode.TheVariants.{Extern, Native, Cps, Detached}
use Rattle.cpc_tree.specs.Syntax.{Ty, Expr, ENamed, EInteger, ECharacter, EText, EUnary, EBinary, EAnd, EOr, EChoose, ECast, ESizeOf, EIndex, EMember, EArrow, ECall, Exprs}
use Rattle.cpc_tree.specs.Typing.{Meant, AFunction, used}
use Rattle.cpc_tree.specs.Primitives.{Primitive, primitive_named}
use Rattle.cpc_tree.specs.Primitives as P
use Rattle.cpc_check_rules.specs.declared.rule.Rule.TheVariants.{Disagree, NotClosed, CpsInNative, RtCall, CpsForm}
use Rattle.cpc_check_rules.specs.Rule.{at_if}
use Rattle.cpc_check_rules.specs.Scopes.{meant}
use Rattle.cpc_check_rules.specs.Operators.{Where, typed_at, first, is_detached, is_cps, used_of}
use Rattle.cpc_check_rules.specs.Calls.{Takes, unmeant_callee, unmeant_breaks, wants, gives, gives_up, is_rt, is_closed, is_event, primitive_breaks, function_breaks, code_callee, named_callee, callee, is_code, no_code, pointer_breaks, named_breaks, number_breaks, wanted, result}
use Rattle.cpc_check_rules.specs.ExprRules.{expr_breaks, called_breaks, args_breaks, call_breaks}
use Rattle.cpc_check_laws.proofs.Native.NativeValues.{both_none, unbroken}
use Rattle.cpc_check_laws.proofs.Native.OnePlace.{here, expr_here, exprs_here}
use Rattle.cpc_check_laws.proofs.Sound.Unbroken.{split, not_broken, holds_then}
use Rattle.cpc_convert_image_laws.specs.Images.{Reading, Readings, image_named, image, images}
use Rattle.cpc_lifted_laws.specs.Complete.Reads.{Reads, ReadsLocal, ReadsField, StaysLocal, StaysGlobal, StaysFunction, IsCps, StaysNothing, Carries, stays_meant, stays_called}
use Rattle.cpc_lifted_laws.proofs.Complete.Carried.{both_typed, expr_carried}
use Rattle.cpc_lifted_laws.proofs.Complete.Called.{args_carried, number_there}

both_false : (a b : Bool) → a ≡ false → (a && b) ≡ false
both_false true b e = by_false_true (sym e)
both_false false b e = refl

no_cps : (m : Mode) (u : Ty) (ts : List Ty) (o : Option Primitive) → stays_meant (AFunction m u ts) o ≡ true → is_cps m ≡ false
no_cps Cps u ts o h = by_false_true h
no_cps Native u ts o h = refl
no_cps Extern u ts o h = refl
no_cps Detached u ts o h = refl

module _ (w v : Where) (r : Readings) (c : Carries w v r) where
  -- a call of a value
  pointer_there : (f : Expr) → pointer_breaks w (expr_here f) (expr_breaks w (expr_here f)) ≡ [] → pointer_breaks v (expr_here (image r f)) (expr_breaks v (expr_here (image r f))) ≡ []
  pointer_there f h =
      let k = split (expr_breaks w (expr_here f)) _ h in
      let l = split (at_if (is_detached w.mode) (first (expr_here f)) NotClosed) _ k.1 in
      let d = both_typed w v r c f k.0 in
      let code : is_code (used d.0) ≡ true = holds_then (is_code (used d.0)) (first (expr_here f)) Disagree (subst (λ o. no_code o (first (expr_here f)) ≡ []) d.1 l.1) in
      both_none _ _ (expr_carried w v r c f k.0)
      (both_none _ _ (ap (λ b. at_if b (first (expr_here (image r f))) NotClosed) (c.closed ∙ unbroken (is_detached w.mode) (first (expr_here f)) NotClosed l.0))
      (ap (λ o. no_code o (first (expr_here (image r f)))) d.2 ∙ ap (λ b. at_if (not b) (first (expr_here (image r f))) Disagree) code))

  code_there : (f : Expr) → expr_breaks w (expr_here f) ≡ [] → code_callee (used_of (typed_at v (expr_here (image r f)))) ≡ code_callee (used_of (typed_at w (expr_here f)))
  code_there f h = let d = both_typed w v r c f h in ap (λ o. code_callee (used_of o)) d.2 ∙ sym (ap (λ o. code_callee (used_of o)) d.1)

  -- what is called there
  record CallThere (f : Expr) (es : Exprs) : Type 0 where
    called : called_breaks v (expr_here (image r f)) (expr_breaks v (expr_here (image r f))) ≡ []
    same : callee v (expr_here (image r f)) (exprs_here (images r es)) ≡ callee w (expr_here f) (exprs_here es)

  -- a call of a value, by the name x that is read so
  abbrev PointerThere : Text → Option Reading → Type 0
  PointerThere x o = pointer_breaks w (expr_here (ENamed x)) (expr_breaks w (expr_here (ENamed x))) ≡ []
      → (pointer_breaks v (expr_here (image_named o x)) (expr_breaks v (expr_here (image_named o x))) ≡ [])
      × (code_callee (used_of (typed_at v (expr_here (image_named o x)))) ≡ code_callee (used_of (typed_at w (expr_here (ENamed x)))))

  -- what a name calls there
  record NamedThere (x : Text) (es : Exprs) (o : Option Reading) (m : Meant) (prim : Option Primitive) : Type 0 where
    called : called_breaks v (expr_here (image_named o x)) (expr_breaks v (expr_here (image_named o x))) ≡ []
    same : callee v (expr_here (image_named o x)) (exprs_here (images r es)) ≡ named_callee w (expr_here (ENamed x)) (exprs_here es) m prim

  function_there : (m : Mode) → is_cps m ≡ false → function_breaks w here m ≡ [] → function_breaks v here m ≡ []
  function_there m e h =
      let k = split (at_if (is_cps m && not (is_cps w.mode)) here CpsInNative) _ h in
      both_none _ _ (ap (λ b. at_if b here CpsInNative) (both_false (is_cps m) (not (is_cps v.mode)) e)) (ap (λ b. at_if (b && not (is_detached m)) here NotClosed) c.closed ∙ k.1)

  -- no primitive of the dialect Event is called in the dialect Cpc
  cpc_row : (prim : Primitive) → primitive_breaks w here prim ≡ [] → (is_rt prim ≡ false) × (at_if (is_detached w.mode && not (is_closed prim)) here NotClosed ≡ [])
  cpc_row prim h =
      let k = split (at_if (gives_up prim && not (is_cps w.mode)) here CpsInNative) _ h in
      let l = split (at_if (is_detached w.mode && not (is_closed prim)) here NotClosed) _ k.1 in
      let m = split (at_if (is_rt prim && not (is_event w.dialect)) here RtCall) _ l.1 in
      (sym (and_with_true (is_rt prim)) ∙ subst (λ d. (is_rt prim && not (is_event d)) ≡ false) c.source (unbroken (is_rt prim && not (is_event w.dialect)) here RtCall m.0), l.0)

  primitive_there : (prim : Primitive) → gives_up prim ≡ false → primitive_breaks w here prim ≡ [] → primitive_breaks v here prim ≡ []
  primitive_there prim e h =
      let k = cpc_row prim h in
      both_none _ _ (ap (λ b. at_if b here CpsInNative) (both_false (gives_up prim) (not (is_cps v.mode)) e))
      (both_none _ _ (ap (λ b. at_if (b && not (is_closed prim)) here NotClosed) c.closed ∙ k.1)
      (both_none _ _ (ap (λ b. at_if b here RtCall) (both_false (is_rt prim) (not (is_event v.dialect)) k.0)) (ap (λ b. at_if b here CpsForm) (both_false (gives_up prim) (is_event v.dialect) e))))

  -- what it wants does not depend on the place
  wants_there : (prim : Primitive) (es : Exprs) → is_rt prim ≡ false → wants v.scope prim (exprs_here (images r es)) ≡ wants w.scope prim (exprs_here es)
  wants_there P.RtDetach es h = by_false_true (sym h)
  wants_there P.Puts es h = refl
  wants_there prim es h = refl

  named_there : (x : Text) (es : Exprs) (o : Option Reading) (m : Meant) (prim : Option Primitive) → primitive_named x ≡ prim → Reads v.scope x o m → stays_meant m prim ≡ true → PointerThere x o
      → named_breaks w (expr_here (ENamed x)) here (expr_breaks w (expr_here (ENamed x))) m prim ≡ [] → NamedThere x es o m prim
  named_there x es _ _ prim i (ReadsLocal y j k t e) s pointer h =
      let l = pointer h in
      record {
        called = ap (λ m. named_breaks v (expr_here (ENamed y)) here (expr_breaks v (expr_here (ENamed y))) m (primitive_named y)) e ∙ l.0;
        same = ap (λ m. named_callee v (expr_here (ENamed y)) (exprs_here (images r es)) m (primitive_named y)) e ∙ l.1;
      }
  named_there x es _ _ prim i (ReadsField y f tag j k n t e g) s pointer h = let l = pointer h in record { called = l.0; same = l.1 }
  named_there x es _ _ prim i (StaysLocal j k t e) s pointer h =
      let l = pointer h in
      record {
        called = ap (λ m. named_breaks v (expr_here (ENamed x)) here (expr_breaks v (expr_here (ENamed x))) m (primitive_named x)) e ∙ l.0;
        same = ap (λ m. named_callee v (expr_here (ENamed x)) (exprs_here (images r es)) m (primitive_named x)) e ∙ l.1;
      }
  named_there x es _ _ prim i (StaysGlobal j k t e) s pointer h =
      let l = pointer h in
      record {
        called = ap (λ m. named_breaks v (expr_here (ENamed x)) here (expr_breaks v (expr_here (ENamed x))) m (primitive_named x)) e ∙ l.0;
        same = ap (λ m. named_callee v (expr_here (ENamed x)) (exprs_here (images r es)) m (primitive_named x)) e ∙ l.1;
      }
  named_there x es _ _ prim i (StaysFunction mode u ts e) s pointer h = record {
    called = ap (λ m. named_breaks v (expr_here (ENamed x)) here (expr_breaks v (expr_here (ENamed x))) m (primitive_named x)) e ∙ function_there mode (no_cps mode u ts prim s) h;
    same = ap (λ m. named_callee v (expr_here (ENamed x)) (exprs_here (images r es)) m (primitive_named x)) e;
  }
  named_there x es _ _ prim i (IsCps o u ts) s pointer h = by_false_true s
  named_there x es _ _ None i (StaysNothing e) s pointer h = not_broken _ _ h
  named_there x es _ _ (Some prim) i (StaysNothing e) s pointer h =
      let waits_not : gives_up prim ≡ false = not_holds (gives_up prim) s in
      record {
        called = ap (λ m. named_breaks v (expr_here (ENamed x)) here (expr_breaks v (expr_here (ENamed x))) m (primitive_named x)) (e prim i)
            ∙ ap (unmeant_breaks v here) i ∙ primitive_there prim waits_not h;
        same = ap (λ m. named_callee v (expr_here (ENamed x)) (exprs_here (images r es)) m (primitive_named x)) (e prim i)
            ∙ ap (λ o. unmeant_callee v.scope o (exprs_here (images r es))) i ∙ ap (λ ws. Takes ws (gives prim)) (wants_there prim es (cpc_row prim h).0);
      }

  name_pointer : (x : Text) → PointerThere x (r x)
  name_pointer x h = (pointer_there (ENamed x) h, code_there (ENamed x) (split (expr_breaks w (expr_here (ENamed x))) _ h).0)

  other_there : (f : Expr) (es : Exprs) → pointer_breaks w (expr_here f) (expr_breaks w (expr_here f)) ≡ []
      → (pointer_breaks v (expr_here (image r f)) (expr_breaks v (expr_here (image r f))) ≡ []) × (code_callee (used_of (typed_at v (expr_here (image r f)))) ≡ code_callee (used_of (typed_at w (expr_here f))))
  other_there f es h = (pointer_there f h, code_there f (split (expr_breaks w (expr_here f)) _ h).0)

  -- what is called there, which is called alike
  call_there : (f : Expr) (es : Exprs) → stays_called w.scope f ≡ true → called_breaks w (expr_here f) (expr_breaks w (expr_here f)) ≡ [] → CallThere f es
  call_there (ENamed x) es s h = let k = named_there x es (r x) (meant w.scope x) (primitive_named x) refl (c.names x) s (name_pointer x) h in record { called = k.called; same = k.same }
  call_there (EInteger kind z) es s h = let k = other_there (EInteger kind z) es h in record { called = k.0; same = k.1 }
  call_there (ECharacter z) es s h = let k = other_there (ECharacter z) es h in record { called = k.0; same = k.1 }
  call_there (EText bytes) es s h = let k = other_there (EText bytes) es h in record { called = k.0; same = k.1 }
  call_there (EUnary op e) es s h = let k = other_there (EUnary op e) es h in record { called = k.0; same = k.1 }
  call_there (EBinary op a b) es s h = let k = other_there (EBinary op a b) es h in record { called = k.0; same = k.1 }
  call_there (EAnd a b) es s h = let k = other_there (EAnd a b) es h in record { called = k.0; same = k.1 }
  call_there (EOr a b) es s h = let k = other_there (EOr a b) es h in record { called = k.0; same = k.1 }
  call_there (EChoose t a b) es s h = let k = other_there (EChoose t a b) es h in record { called = k.0; same = k.1 }
  call_there (ECast t e) es s h = let k = other_there (ECast t e) es h in record { called = k.0; same = k.1 }
  call_there (ESizeOf t) es s h = let k = other_there (ESizeOf t) es h in record { called = k.0; same = k.1 }
  call_there (EIndex a b) es s h = let k = other_there (EIndex a b) es h in record { called = k.0; same = k.1 }
  call_there (EMember e x) es s h = let k = other_there (EMember e x) es h in record { called = k.0; same = k.1 }
  call_there (EArrow e x) es s h = let k = other_there (EArrow e x) es h in record { called = k.0; same = k.1 }
  call_there (ECall g vs) es s h = let k = other_there (ECall g vs) es h in record { called = k.0; same = k.1 }

  -- a call
  pub call_row : (f : Expr) (es : Exprs) → stays_called w.scope f ≡ true → call_breaks w (expr_here f) (exprs_here es) ≡ []
      → (call_breaks v (expr_here (image r f)) (exprs_here (images r es)) ≡ []) × (result (callee v (expr_here (image r f)) (exprs_here (images r es))) ≡ result (callee w (expr_here f) (exprs_here es)))
  call_row f es s h =
      let k = split (called_breaks w (expr_here f) (expr_breaks w (expr_here f))) _ h in
      let l = split (number_breaks (callee w (expr_here f) (exprs_here es)) (exprs_here es) (first (expr_here f))) _ k.1 in
      let t = call_there f es s k.0 in
      let numbers = number_there w v r c (callee w (expr_here f) (exprs_here es)) es (first (expr_here f)) (first (expr_here (image r f))) l.0 in
      let arguments = args_carried w v r c (wanted (callee w (expr_here f) (exprs_here es))) es l.1 in (
        both_none _ _ t.called
            (both_none _ _ (subst (λ k. number_breaks k (exprs_here (images r es)) (first (expr_here (image r f))) ≡ []) (sym t.same) numbers)
            (subst (λ k. args_breaks v (wanted k) (exprs_here (images r es)) ≡ []) (sym t.same) arguments)),
        ap result t.same,
      )
