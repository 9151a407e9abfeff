-- Expressions, places and arguments that are made break no rule.
use Rattle.std.proofs.Common.{◌≡◌, ◌==◌, ◌&&◌, not, ℕ, suc, Bool, true, false, List, [], ◌∷◌, ◌++◌, length, map, pos, Option, Some, None, refl, sym, ◌∙◌, ap}
use Rattle.std.specs.Prelude.{option_map}
use Rattle.std.specs.Option.{is_none}
use Rattle.cpc_base.specs.Bytes.{Text}
use Rattle.cpc_base.proofs.Truth.{by_false_true, eq_reflexive}
use Rattle.cpc_num.specs.declared.kinds.Kind.{Kind}
use Rattle.cpc_num.specs.declared.kinds.Kind.TheVariants.{Int, ULong}
use Rattle.cpc_num.specs.declared.kinds.Op.TheVariants.{Ne}
use Rattle.cpc_tree.specs.declared.program.Mode.TheVariants.{Native}
use Rattle.cpc_tree.specs.Syntax.{Ty, TyVoid, TyInt, TyCondvar, TyPointer, TyCode, TyStruct, TyArray, Expr, ENamed, EInteger, EBinary, ECast, ESizeOf, EArrow, Exprs}
use Rattle.cpc_tree.specs.Located.{bare_expr}
use Rattle.cpc_tree.specs.Typing.{ALocal, AFunction, Typed, AValue, APlace, type_named, used, size, field, is_scalar, is_testable, is_reference, is_null, tys_of, function_type, equality_type, ◌>>=◌}
use Rattle.cpc_tree.specs.Primitives.{any_pointer}
use Rattle.cpc_meaning.proofs.Functions.{text_same}
use Rattle.cpc_check_rules.specs.declared.rule.Rule.TheVariants.{Disagree, NoPlace, NotClosed, Incomplete, WrongNumber}
use Rattle.cpc_check_rules.specs.Rule.{at_if}
use Rattle.cpc_check_rules.specs.Scopes.{meant, measured, typed, takes_value, takes_typed}
use Rattle.cpc_check_rules.specs.Operators.{Where, typed_at, first, is_detached, name_breaks}
use Rattle.cpc_check_rules.specs.Calls.{Wanted, Integer, Of, Callback, String, ForSection, Takes, count, number_breaks, is_integer_used, is_function, suit_breaks, Anything}
use Rattle.cpc_check_rules.specs.ExprRules.{expr_breaks, arg_breaks, args_breaks}
use Rattle.cpc_check_rules.specs.StmtRules.{is_tested, place_breaks, target_breaks, given_breaks, to_breaks, tested_breaks, test_breaks}
use Rattle.cpc_check_rules.proofs.Sameness.{type_itself}
use Rattle.cpc_check_laws.proofs.Native.NativeValues.{both_none}
use Rattle.cpc_check_laws.proofs.Native.OnePlace.{here, ident_here, expr_here, exprs_here, expr_again}
use Rattle.cpc_check_laws.proofs.Sound.Answers.{no_some}
use Rattle.cpc_check_laws.proofs.Sound.Options.{then_of}
use Rattle.cpc_lifted_laws.specs.Complete.Sets.{Has, Sets, Writes, AllSet, NoneSet, AndSet, Gives, Suits, AllSuit, NoneSuits, AndSuits}
use Rattle.cpc_lifted_laws.proofs.Complete.Typing.{type_again}
use Rattle.cpc_lifted_laws.proofs.Complete.Carried.{rule_none, arrow_none, binary_none}
use Rattle.cpc_lifted_laws.proofs.Complete.Called.{suit_none}

-- ---- types

-- a value of a scalar type is assignable to it
pub takes_itself : (t : Ty) → is_scalar t ≡ true → takes_value t false t ≡ true
takes_itself (TyInt k) h = refl
takes_itself TyCondvar h = refl
takes_itself (TyCode r ts) h = rw (type_itself (TyCode r ts)) refl
takes_itself (TyPointer TyVoid) h = refl
takes_itself (TyPointer (TyInt k)) h = rw (type_itself (TyInt k)) refl
takes_itself (TyPointer TyCondvar) h = refl
takes_itself (TyPointer (TyPointer t)) h = rw (type_itself t) refl
takes_itself (TyPointer (TyCode r ts)) h = rw (type_itself (TyCode r ts)) refl
takes_itself (TyPointer (TyStruct tag)) h = rw (text_same tag) refl
takes_itself (TyPointer (TyArray t n)) h = rw (type_itself (TyArray t n)) refl
takes_itself TyVoid h = by_false_true h
takes_itself (TyStruct tag) h = by_false_true h
takes_itself (TyArray t n) h = by_false_true h

-- null is assignable to what refers
pub takes_null : (t : Ty) → is_reference t ≡ true → takes_value t true (TyInt Int) ≡ true
takes_null (TyPointer TyVoid) h = refl
takes_null (TyPointer (TyInt k)) h = refl
takes_null (TyPointer TyCondvar) h = refl
takes_null (TyPointer (TyPointer t)) h = refl
takes_null (TyPointer (TyCode r ts)) h = refl
takes_null (TyPointer (TyStruct tag)) h = refl
takes_null (TyPointer (TyArray t n)) h = refl
takes_null (TyCode r ts) h = refl
takes_null TyVoid h = by_false_true h
takes_null (TyInt k) h = by_false_true h
takes_null TyCondvar h = by_false_true h
takes_null (TyStruct tag) h = by_false_true h
takes_null (TyArray t n) h = by_false_true h

pub scalar_used : (t : Ty) → is_scalar t ≡ true → used (APlace t) ≡ Some t
scalar_used (TyInt k) h = refl
scalar_used TyCondvar h = refl
scalar_used (TyPointer t) h = refl
scalar_used (TyCode r ts) h = refl
scalar_used TyVoid h = by_false_true h
scalar_used (TyStruct tag) h = by_false_true h
scalar_used (TyArray t n) h = by_false_true h

compares_null : (a : Bool) (u : Ty) → equality_type a true (TyPointer u) (TyInt Int) ≡ Some (TyInt Int)
compares_null true TyVoid = refl
compares_null true _ = refl
compares_null false TyVoid = refl
compares_null false _ = refl

module _ (v : Where) where
  -- ---- expressions

  pub type_here : (e : Expr) (d : Typed) → Has v e d → typed_at v (expr_here e) ≡ Some d
  type_here e d h = type_again v e ∙ h.is_typed

  pub local_has : (x : Text) (k : ℕ) (t : Ty) → meant v.scope x ≡ ALocal k t → Has v (ENamed x) (APlace t)
  local_has x k t e = record { fine = ap (name_breaks v.mode here) e; is_typed = ap type_named e }

  pub code_has : (x : Text) (r : Ty) (ts : List Ty) → is_detached v.mode ≡ false → meant v.scope x ≡ AFunction Native r ts → Has v (ENamed x) (AValue (TyCode r (tys_of ts)))
  code_has x r ts n e = record { fine = ap (name_breaks v.mode here) e ∙ ap (λ b. at_if (b && true) here NotClosed) n; is_typed = ap type_named e }

  pub arrow_has : (e : Expr) (d : Typed) (tag x : Text) (n : ℕ) (t : Ty) → Has v e d → used d ≡ Some (TyPointer (TyStruct tag)) → field v.scope.items tag x ≡ Some (n, t) → Has v (EArrow e x) (APlace t)
  arrow_has e d tag x n t h i f =
      let is : typed v.scope (EArrow e x) ≡ Some (APlace t) = then_of (typed v.scope e) _ d _ h.is_typed (then_of (used d) _ (TyPointer (TyStruct tag)) _ i (then_of (field v.scope.items tag x) _ (n, t) _ f refl)) in
      let whole : typed_at v (expr_here (EArrow e x)) ≡ Some (APlace t) = type_again v (EArrow e x) ∙ is in
      record { fine = both_none _ _ h.fine (arrow_none v.scope (typed_at v (expr_here e)) here (ident_here x) _ (APlace t) whole whole); is_typed = is }

  pub cast_has : (e : Expr) (d : Typed) (t u : Ty) → Has v e d → used d ≡ Some (TyPointer u) → Has v (ECast (TyPointer t) e) (AValue (TyPointer t))
  cast_has e d t u h i =
      let is : typed v.scope (ECast (TyPointer t) e) ≡ Some (AValue (TyPointer t)) = then_of (typed v.scope e) _ d _ h.is_typed (then_of (used d) _ (TyPointer u) _ i refl) in
      record { fine = both_none _ _ h.fine (rule_none _ _ (AValue (TyPointer t)) here (type_again v (ECast (TyPointer t) e) ∙ is)); is_typed = is }

  pub size_has : (t : Ty) (n : ℕ) → measured v.scope t ≡ Some n → Has v (ESizeOf t) (AValue (TyInt ULong))
  size_has t n h = record { fine = ap (λ o. at_if (is_none o) here Incomplete) h; is_typed = go (size v.scope.items t) refl }
    where
      go : (o : Option ℕ) → size v.scope.items t ≡ o → typed v.scope (ESizeOf t) ≡ Some (AValue (TyInt ULong))
      go None e = no_some n (let i : measured v.scope t ≡ None = simp (e) refl in sym i ∙ h)
      go (Some k) e = then_of (size v.scope.items t) _ k _ e refl

  pub zero_has : Has v (EInteger Int (pos 0)) (AValue (TyInt Int))
  zero_has = record { fine = refl; is_typed = refl }

  -- a pointer that is not null
  pub set_has : (e : Expr) (d : Typed) (u : Ty) → Has v e d → used d ≡ Some (TyPointer u) → Has v (EBinary Ne e (EInteger Int (pos 0))) (AValue (TyInt Int))
  set_has e d u h i =
      let is : typed v.scope (EBinary Ne e (EInteger Int (pos 0))) ≡ Some (AValue (TyInt Int)) =
      then_of (typed v.scope e) _ d _ h.is_typed (then_of (used d) _ (TyPointer u) _ i (ap (λ o. o >>= λ t. Some (AValue t)) (compares_null (is_null e) u))) in
      record { fine = both_none _ _ h.fine (binary_none v.scope Ne (typed_at v (expr_here e)) (typed_at v (expr_here (EInteger Int (pos 0)))) _ (AValue (TyInt Int)) here refl (type_again v (EBinary Ne e (EInteger Int (pos 0))) ∙ is)); is_typed = is }

  -- ---- values and places

  -- a local of a scalar type
  pub local_sets : (x : Text) (k : ℕ) (t : Ty) → is_scalar t ≡ true → meant v.scope x ≡ ALocal k t → Sets v t (ENamed x)
  local_sets x k t s e = record { type = APlace t; has = local_has x k t e; takes = rw (scalar_used t s) (takes_itself t s) }

  pub null_sets : (t : Ty) → is_reference t ≡ true → Sets v t (EInteger Int (pos 0))
  null_sets t h = record { type = AValue (TyInt Int); has = zero_has; takes = takes_null t h }

  pub target_fine : (t : Ty) (e : Expr) → Writes v t e → target_breaks v (expr_here e) ≡ []
  target_fine t e h = both_none _ _ h.has.fine (ap (λ o. place_breaks o (first (expr_here e))) (type_here e (APlace t) h.has) ∙ ap (λ b. at_if (not b) (first (expr_here e)) NoPlace) h.writable)

  pub to_fine : (o : Option Expr) (t : Ty) → Gives v o t → to_breaks v (option_map expr_here o) here (Some t) ≡ []
  to_fine None t h = refl
  to_fine (Some e) t h =
      both_none _ _ (target_fine h.0 e h.1) (ap (λ o. given_breaks o (Some t) here) (type_here e (APlace h.0) h.1.has) ∙ ap (λ b. at_if (not b) here Disagree) h.2)

  pub test_fine : (e : Expr) (d : Typed) (t : Ty) → Has v e d → used d ≡ Some t → is_testable t ≡ true → test_breaks v (expr_here e) ≡ []
  test_fine e d t h i k =
      both_none _ _ h.fine (ap (λ o. tested_breaks o (first (expr_here e))) (type_here e d h) ∙ ap (λ o. at_if (not (is_tested o)) (first (expr_here e)) Disagree) i ∙ ap (λ b. at_if (not b) (first (expr_here e)) Disagree) k)

  -- ---- arguments

  again_takes : (t : Ty) (e : Expr) (d : Typed) → takes_typed t e d ≡ true → takes_typed t (bare_expr (expr_here e)) d ≡ true
  again_takes t e d h = ap (λ e. takes_typed t e d) (expr_again e) ∙ h

  -- an argument that is assignable to a type suits it
  pub sets_suits : (t : Ty) (e : Expr) → Sets v t e → Suits v (Of t) e
  sets_suits t e h = record { type = h.type; has = h.has; suits = again_takes t e h.type h.takes }

  pub all_sets_suit : (ts : List Ty) (es : Exprs) → AllSet v ts es → AllSuit v (map (λ t. Of t) ts) es
  all_sets_suit _ _ NoneSet = NoneSuits
  all_sets_suit _ _ (AndSet t ts e es h k) = AndSuits (Of t) (map (λ t. Of t) ts) e es (sets_suits t e h) (all_sets_suit ts es k)

  -- an integer of any kind
  pub integer_suits : (e : Expr) (d : Typed) (k : Kind) → Has v e d → used d ≡ Some (TyInt k) → Suits v Integer e
  integer_suits e d k h i = record { type = d; has = h; suits = ap is_integer_used i }

  -- the driver, or another function of its type
  pub callback_suits : (x : Text) → is_detached v.mode ≡ false → meant v.scope x ≡ AFunction Native TyVoid (any_pointer ∷ TyInt Int ∷ []) → Suits v (Callback (function_type TyVoid (any_pointer ∷ TyInt Int ∷ []))) (ENamed x)
  callback_suits x n e = record {
    type = AValue (function_type TyVoid (any_pointer ∷ TyInt Int ∷ []));
    has = code_has x TyVoid (any_pointer ∷ TyInt Int ∷ []) n e;
    suits = ap (λ m. is_function m && true) e;
  }

  plain_arg : (t : Wanted) (e : Expr) → Suits v t e → expr_breaks v (expr_here e) ++ suit_breaks v.scope t (expr_here e) (typed_at v (expr_here e)) ≡ []
  plain_arg t e h = both_none _ _ h.has.fine (suit_none v.scope t (expr_here e) (typed_at v (expr_here e)) h.type (type_here e h.type h.has) h.suits)

  arg_fine : (t : Wanted) (e : Expr) → Suits v t e → arg_breaks v t (expr_here e) (expr_breaks v (expr_here e)) ≡ []
  arg_fine Integer e h = plain_arg Integer e h
  arg_fine (Of t) e h = plain_arg (Of t) e h
  arg_fine (Callback t) e h = plain_arg (Callback t) e h
  arg_fine ForSection e h = plain_arg ForSection e h
  arg_fine Anything e h = plain_arg Anything e h
  arg_fine String e h = by_false_true h.suits

  pub args_fine : (ts : List Wanted) (es : Exprs) → AllSuit v ts es → args_breaks v ts (exprs_here es) ≡ []
  args_fine _ _ NoneSuits = refl
  args_fine _ _ (AndSuits t ts e es h k) = both_none _ _ (arg_fine t e h) (args_fine ts es k)

  pub count_fine : (ts : List Wanted) (es : Exprs) → AllSuit v ts es → length (count (exprs_here es)) ≡ length ts
  count_fine _ _ NoneSuits = refl
  count_fine _ _ (AndSuits t ts e es h k) = ap suc (count_fine ts es k)

  pub number_fine : (ts : List Wanted) (es : Exprs) (r : Ty) (q : _) → AllSuit v ts es → number_breaks (Takes ts r) (exprs_here es) q ≡ []
  number_fine ts es r q h = ap (λ n. at_if (not (n == length ts)) q WrongNumber) (count_fine ts es h) ∙ ap (λ b. at_if (not b) q WrongNumber) (eq_reflexive (length ts))
