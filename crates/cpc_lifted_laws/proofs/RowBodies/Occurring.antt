-- What an expression or a statement breaks depends on what the names stand for that occur in it, and on no other.
use Rattle.std.proofs.Common.{◌≡◌, ◌&&◌, not, cond, List, [], ◌∷◌, ◌++◌, map, Option, Some, None, option_map, refl, sym, ◌∙◌, ap, ap₂, subst, length}
use Rattle.std.specs.Prelude.{is_some}
use Rattle.cpc_base.specs.Bytes.{Text}
use Rattle.cpc_base.specs.declared.stop.Place.{Place}
use Rattle.cpc_base.specs.declared.stop.Dialect.{Dialect}
use Rattle.cpc_num.specs.declared.kinds.Kind.TheVariants.{Int}
use Rattle.cpc_num.specs.declared.kinds.Op.{Op}
use Rattle.cpc_num.specs.declared.kinds.Op.TheVariants.{Add, Sub}
use Rattle.cpc_tree.specs.declared.program.Mode.{Mode}
use Rattle.cpc_tree.specs.declared.program.Mode.TheVariants.{Detached}
use Rattle.cpc_tree.specs.declared.program.UnaryOp.TheVariants.{Minus, Plus, Not, Complement, Dereference, AddressOf}
use Rattle.cpc_tree.specs.Syntax.{Ty, TyVoid, TyInt, TyCondvar, TyPointer, TyCode, TyStruct, TyArray, Expr, ENamed, EInteger, ECharacter, EText, EUnary, EBinary, EAnd, EOr, EChoose, ECast, ESizeOf, EIndex, EMember, EArrow, ECall, Exprs, NoExpr, AndExpr, Assign, Call, Program}
use Rattle.cpc_tree.specs.Located.{Ident, bare_expr}
use Rattle.cpc_tree.specs.Primitives.{Primitive, primitive_named, takes_first}
use Rattle.cpc_tree.specs.Primitives as P
use Rattle.cpc_tree.specs.Typing.{Meant, ALocal, AGlobal, AFunction, NotMeant, Typed, APlace, used, typed_place, type_named, address_type, sign_type, test_type, typing_of, ◌>>=◌}
use Rattle.cpc_check_rules.specs.Scopes as S
use Rattle.cpc_check_rules.specs.declared.rule.Rule.TheVariants.{Disagree, Incomplete, NotClosed}
use Rattle.cpc_check_rules.specs.Rule.{at_if}
use Rattle.cpc_check_rules.specs.Scopes.{meant, takes_typed}
use Rattle.cpc_check_rules.specs.Operators.{Where, typed_at, first, name_breaks, no_rule, is_unmeasured, used_of, moves_unmeasured, between_unmeasured, is_incomplete_sum, binary_breaks, address_breaks, field_breaks, member_breaks, arrow_breaks, pointed, is_detached}
use Rattle.cpc_check_rules.specs.Calls.{Wanted, Integer, Of, Callback, String, ForSection, Takes, NoCallee, points_to_integers, all_integers, takes_section, section_callee, section_of, is_callee, callee, named_callee, unmeant_callee, code_callee, wants, third, detached_wants, wanted_of, gives, pointer_breaks, unmeant_breaks, named_breaks, number_breaks, wanted, is_function, is_function_name, suits, suit_breaks, no_code, result, Anything, count}
use Rattle.cpc_check_rules.specs.ExprRules.{called_breaks, arg_breaks, expr_breaks, args_breaks}
use Rattle.cpc_check_rules.specs.StmtRules.{place_breaks, target_breaks, fits_breaks, result_breaks, assign_breaks, given_breaks, to_breaks, tested_breaks, test_breaks, stmt_breaks}
use Rattle.cpc_check_laws.proofs.Native.OnePlace.{here, ident_here, expr_here, exprs_here, stmt_here}
use Rattle.cpc_meaning.specs.Names.{AllNames, AllNamesIf, AllNamesAmong}
use Rattle.cpc_check_laws.proofs.Native.NativeValues.{both_none}
use Rattle.cpc_check_laws.proofs.Sound.Unbroken.{split, not_broken}
use Rattle.cpc_lifted_laws.specs.Complete.Sets.{Has, Sets, Writes, AllSet, NoneSet, AndSet, Gives, AllSuit, NoneSuits, AndSuits}
use Rattle.cpc_lifted_laws.proofs.Complete.Typing.{type_again}

-- ---- types

module _ (m n : Text → Meant) (items : Program) where
  abbrev Alike : Text → Type 0
  Alike x = m x ≡ n x

  -- the type of an expression
  typing_same : (e : Expr) → AllNames Alike e → typing_of m items e ≡ typing_of n items e
  typing_same (ENamed x) h = ap type_named h
  typing_same (EInteger kind z) h = refl
  typing_same (ECharacter z) h = refl
  typing_same (EText bytes) h = refl
  typing_same (EUnary AddressOf (ENamed x)) h = ap (λ k. type_named k >>= λ d. Some (address_type d)) h
  typing_same (EUnary sign e) h = ap (sign_type sign) (typing_same e h)
  typing_same (EBinary op a b) h = let i = typing_same a h.0 in let j = typing_same b h.1 in rw (i, j) refl
  typing_same (EAnd a b) h = ap₂ test_type (typing_same a h.0) (typing_same b h.1)
  typing_same (EOr a b) h = ap₂ test_type (typing_same a h.0) (typing_same b h.1)
  typing_same (EChoose c a b) h = let k = typing_same c h.0 in let i = typing_same a h.1 in let j = typing_same b h.2 in rw (k, i, j) refl
  typing_same (ECast t e) h = let i = typing_same e h in rw i refl
  typing_same (ESizeOf t) h = refl
  typing_same (EIndex a i) h = let k = typing_same a h.0 in let j = typing_same i h.1 in rw (k, j) refl
  typing_same (EMember e x) h = let i = typing_same e h in rw i refl
  typing_same (EArrow e x) h = let i = typing_same e h in rw i refl
  typing_same (ECall f es) h = refl

-- two places that differ in the names of variables alone
module _ (items : Program) (bs cs : List S.Block) (mode : Mode) (u : Ty) (dialect : Dialect) where
  abbrev w : Where
  w = record { scope = record { items = items; blocks = bs }; mode = mode; result = u; dialect = dialect }

  abbrev v : Where
  v = record { scope = record { items = items; blocks = cs }; mode = mode; result = u; dialect = dialect }

  -- a name stands for the same at both
  abbrev pub Same : Text → Type 0
  Same x = meant w.scope x ≡ meant v.scope x

  pub type_same : (e : Expr) → AllNames Same e → typed_at w (expr_here e) ≡ typed_at v (expr_here e)
  type_same e h = type_again w e ∙ (typing_same (meant w.scope) (meant v.scope) items e h ∙ sym (type_again v e))

  -- ---- operators

  unmeasured_same : (o : Option Ty) → is_unmeasured w.scope o ≡ is_unmeasured v.scope o
  unmeasured_same None = refl
  unmeasured_same (Some (TyPointer t)) = refl
  unmeasured_same (Some TyVoid) = refl
  unmeasured_same (Some (TyInt k)) = refl
  unmeasured_same (Some TyCondvar) = refl
  unmeasured_same (Some (TyCode r ts)) = refl
  unmeasured_same (Some (TyStruct tag)) = refl
  unmeasured_same (Some (TyArray t k)) = refl

  moves_same : (a b : Option Ty) → moves_unmeasured w.scope a b ≡ moves_unmeasured v.scope a b
  moves_same a (Some (TyInt k)) = unmeasured_same a
  moves_same (Some (TyInt k)) None = refl
  moves_same (Some (TyInt k)) (Some TyVoid) = refl
  moves_same (Some (TyInt k)) (Some TyCondvar) = refl
  moves_same (Some (TyInt k)) (Some (TyPointer t)) = refl
  moves_same (Some (TyInt k)) (Some (TyCode r ts)) = refl
  moves_same (Some (TyInt k)) (Some (TyStruct tag)) = refl
  moves_same (Some (TyInt k)) (Some (TyArray t n)) = refl
  moves_same None _ = refl
  moves_same (Some TyVoid) _ = refl
  moves_same (Some TyCondvar) _ = refl
  moves_same (Some (TyPointer t)) _ = refl
  moves_same (Some (TyCode r ts)) _ = refl
  moves_same (Some (TyStruct tag)) _ = refl
  moves_same (Some (TyArray t n)) _ = refl

  between_same : (a b : Option Ty) → between_unmeasured w.scope a b ≡ between_unmeasured v.scope a b
  between_same (Some (TyPointer t)) (Some (TyPointer s)) = refl
  between_same a (Some (TyInt k)) = unmeasured_same a
  between_same None _ = refl
  between_same (Some TyVoid) _ = refl
  between_same (Some (TyInt k)) _ = refl
  between_same (Some TyCondvar) _ = refl
  between_same (Some (TyCode s ts)) _ = refl
  between_same (Some (TyStruct tag)) _ = refl
  between_same (Some (TyArray t n)) _ = refl
  between_same (Some (TyPointer t)) _ = refl

  sum_same : (op : Op) (a b : Option Typed) → is_incomplete_sum w.scope op a b ≡ is_incomplete_sum v.scope op a b
  sum_same Add a b = moves_same (used_of a) (used_of b)
  sum_same Sub a b = between_same (used_of a) (used_of b)
  sum_same op a b = refl

  binary_same : (op : Op) (a a' b b' z z' : Option Typed) (q : Place) → a ≡ a' → b ≡ b' → z ≡ z' → binary_breaks w.scope op a b z q ≡ binary_breaks v.scope op a' b' z' q
  binary_same op a a' b b' z z' q ea eb ez =
      ap (λ c. cond c ((q, Incomplete) ∷ []) (no_rule (is_some a && is_some b) z q)) (sum_same op a b)
      ∙ (ap (λ o. binary_breaks v.scope op o b z q) ea ∙ (ap (λ o. binary_breaks v.scope op a' o z q) eb ∙ ap (λ o. binary_breaks v.scope op a' b' o q) ez))

  field_same : (o : Option Ty) (q : Place) (x : Ident) (z : Option Typed) → field_breaks w.scope o q x z ≡ field_breaks v.scope o q x z
  field_same None q x z = refl
  field_same (Some (TyStruct tag)) q x z = refl
  field_same (Some TyVoid) q x z = refl
  field_same (Some (TyInt k)) q x z = refl
  field_same (Some TyCondvar) q x z = refl
  field_same (Some (TyPointer t)) q x z = refl
  field_same (Some (TyCode r ts)) q x z = refl
  field_same (Some (TyArray t n)) q x z = refl

  member_one : (o : Option Typed) (q : Place) (x : Ident) (z : Option Typed) → member_breaks w.scope o q x z ≡ member_breaks v.scope o q x z
  member_one None q x z = refl
  member_one (Some d) q x z = field_same (typed_place d) q x z

  member_same : (o o' : Option Typed) (q : Place) (x : Ident) (z z' : Option Typed) → o ≡ o' → z ≡ z' → member_breaks w.scope o q x z ≡ member_breaks v.scope o' q x z'
  member_same o o' q x z z' e f = member_one o q x z ∙ ap₂ (λ a b. member_breaks v.scope a q x b) e f

  arrow_one : (o : Option Typed) (q : Place) (x : Ident) (z : Option Typed) → arrow_breaks w.scope o q x z ≡ arrow_breaks v.scope o q x z
  arrow_one None q x z = refl
  arrow_one (Some d) q x z = field_same (pointed (used d)) q x z

  arrow_same : (o o' : Option Typed) (q : Place) (x : Ident) (z z' : Option Typed) → o ≡ o' → z ≡ z' → arrow_breaks w.scope o q x z ≡ arrow_breaks v.scope o' q x z'
  arrow_same o o' q x z z' e f = arrow_one o q x z ∙ ap₂ (λ a b. arrow_breaks v.scope a q x b) e f

  -- ---- expressions

  both_have : (a b : Expr) → AllNames Same a → AllNames Same b → (is_some (typed_at w (expr_here a)) && is_some (typed_at w (expr_here b))) ≡ (is_some (typed_at v (expr_here a)) && is_some (typed_at v (expr_here b)))
  both_have a b h k = ap₂ (λ x y. is_some x && is_some y) (type_same a h) (type_same b k)

  -- an operator on one operand
  unary_fine : (e whole : Expr) → AllNames Same e → AllNames Same whole → no_rule (is_some (typed_at w (expr_here e))) (typed_at w (expr_here whole)) here ≡ [] → no_rule (is_some (typed_at v (expr_here e))) (typed_at v (expr_here whole)) here ≡ []
  unary_fine e whole h k i = sym (ap₂ (λ x y. no_rule (is_some x) y here) (type_same e h) (type_same whole k)) ∙ i

  -- an expression that breaks no rule at one place breaks none at the other
  pub expr_fine : (e : Expr) → AllNames Same e → expr_breaks w (expr_here e) ≡ [] → expr_breaks v (expr_here e) ≡ []
  expr_fine (ENamed x) h i = ap (name_breaks mode here) (sym h) ∙ i
  expr_fine (EInteger kind z) h i = refl
  expr_fine (ECharacter z) h i = refl
  expr_fine (EText bytes) h i = i
  expr_fine (EUnary AddressOf e) h i =
      let k = split (expr_breaks w (expr_here e)) _ i in
      both_none _ _ (expr_fine e h k.0) (sym (ap₂ (λ a b. address_breaks a b (first (expr_here e))) (type_same e h) (type_same (EUnary AddressOf e) h)) ∙ k.1)
  expr_fine (EUnary Minus e) h i = let k = split (expr_breaks w (expr_here e)) _ i in both_none _ _ (expr_fine e h k.0) (unary_fine e (EUnary Minus e) h h k.1)
  expr_fine (EUnary Plus e) h i = let k = split (expr_breaks w (expr_here e)) _ i in both_none _ _ (expr_fine e h k.0) (unary_fine e (EUnary Plus e) h h k.1)
  expr_fine (EUnary Not e) h i = let k = split (expr_breaks w (expr_here e)) _ i in both_none _ _ (expr_fine e h k.0) (unary_fine e (EUnary Not e) h h k.1)
  expr_fine (EUnary Complement e) h i = let k = split (expr_breaks w (expr_here e)) _ i in both_none _ _ (expr_fine e h k.0) (unary_fine e (EUnary Complement e) h h k.1)
  expr_fine (EUnary Dereference e) h i = let k = split (expr_breaks w (expr_here e)) _ i in both_none _ _ (expr_fine e h k.0) (unary_fine e (EUnary Dereference e) h h k.1)
  expr_fine (EBinary op a b) h i =
      let k = split (expr_breaks w (expr_here a)) _ i in
      let l = split (expr_breaks w (expr_here b)) _ k.1 in
      both_none _ _ (expr_fine a h.0 k.0) (both_none _ _ (expr_fine b h.1 l.0) (sym (binary_same op _ _ _ _ _ _ here (type_same a h.0) (type_same b h.1) (type_same (EBinary op a b) h)) ∙ l.1))
  expr_fine (EAnd a b) h i =
      let k = split (expr_breaks w (expr_here a)) _ i in
      let l = split (expr_breaks w (expr_here b)) _ k.1 in
      both_none _ _ (expr_fine a h.0 k.0) (both_none _ _ (expr_fine b h.1 l.0) (sym (ap₂ (λ x y. no_rule x y here) (both_have a b h.0 h.1) (type_same (EAnd a b) h)) ∙ l.1))
  expr_fine (EOr a b) h i =
      let k = split (expr_breaks w (expr_here a)) _ i in
      let l = split (expr_breaks w (expr_here b)) _ k.1 in
      both_none _ _ (expr_fine a h.0 k.0) (both_none _ _ (expr_fine b h.1 l.0) (sym (ap₂ (λ x y. no_rule x y here) (both_have a b h.0 h.1) (type_same (EOr a b) h)) ∙ l.1))
  expr_fine (EChoose c a b) h i =
      let j = split (expr_breaks w (expr_here c)) _ i in
      let k = split (expr_breaks w (expr_here a)) _ j.1 in
      let l = split (expr_breaks w (expr_here b)) _ k.1 in
      both_none _ _ (expr_fine c h.0 j.0) (both_none _ _ (expr_fine a h.1 k.0) (both_none _ _ (expr_fine b h.2 l.0)
      (sym (ap₂ (λ x y. no_rule x y here) (ap₂ (λ x y. is_some x && y) (type_same c h.0) (both_have a b h.1 h.2)) (type_same (EChoose c a b) h)) ∙ l.1)))
  expr_fine (ECast t e) h i = let k = split (expr_breaks w (expr_here e)) _ i in both_none _ _ (expr_fine e h k.0) (unary_fine e (ECast t e) h h k.1)
  expr_fine (ESizeOf t) h i = i
  expr_fine (EIndex a b) h i =
      let k = split (expr_breaks w (expr_here a)) _ i in
      let l = split (expr_breaks w (expr_here b)) _ k.1 in
      both_none _ _ (expr_fine a h.0 k.0) (both_none _ _ (expr_fine b h.1 l.0) (sym (binary_same Add _ _ _ _ _ _ here (type_same a h.0) (type_same b h.1) (type_same (EIndex a b) h)) ∙ l.1))
  expr_fine (EMember e x) h i =
      let k = split (expr_breaks w (expr_here e)) _ i in
      both_none _ _ (expr_fine e h k.0) (sym (member_same _ _ here (ident_here x) _ _ (type_same e h) (type_same (EMember e x) h)) ∙ k.1)
  expr_fine (EArrow e x) h i =
      let k = split (expr_breaks w (expr_here e)) _ i in
      both_none _ _ (expr_fine e h k.0) (sym (arrow_same _ _ here (ident_here x) _ _ (type_same e h) (type_same (EArrow e x) h)) ∙ k.1)
  expr_fine (ECall f es) h i = not_broken _ _ i

  -- ---- parts of statements

  pub has_same : (e : Expr) (d : Typed) → AllNames Same e → Has w e d → Has v e d
  has_same e d n h = record { fine = expr_fine e n h.fine; is_typed = sym (typing_same (meant w.scope) (meant v.scope) items e n) ∙ h.is_typed }

  pub sets_same : (t : Ty) (e : Expr) → AllNames Same e → Sets w t e → Sets v t e
  sets_same t e n h = record { type = h.type; has = has_same e h.type n h.has; takes = h.takes }

  pub writes_same : (t : Ty) (e : Expr) → AllNames Same e → Writes w t e → Writes v t e
  writes_same t e n h = record { has = has_same e (APlace t) n h.has; writable = h.writable }

  pub gives_same : (o : Option Expr) (t : Ty) → AllNamesIf Same o → Gives w o t → Gives v o t
  gives_same None t n h = tt
  gives_same (Some e) t n h = (h.0, writes_same h.0 e n h.1, h.2)

  pub all_set_same : (ts : List Ty) (es : Exprs) → AllNamesAmong Same es → AllSet w ts es → AllSet v ts es
  all_set_same _ _ n NoneSet = NoneSet
  all_set_same _ _ n (AndSet t ts e es h k) = AndSet t ts e es (sets_same t e n.0 h) (all_set_same ts es n.1 k)

  -- ---- arguments

  points_same : (t : Ty) → points_to_integers w.scope t ≡ points_to_integers v.scope t
  points_same (TyPointer t) = refl
  points_same TyVoid = refl
  points_same (TyInt k) = refl
  points_same TyCondvar = refl
  points_same (TyCode r ts) = refl
  points_same (TyStruct tag) = refl
  points_same (TyArray t n) = refl

  pub section_types : (ts : List Ty) → takes_section w.scope ts ≡ takes_section v.scope ts
  section_types [] = refl
  section_types (t ∷ ts) = ap (λ b. b && all_integers ts) (points_same t)

  section_meant : (m : Meant) → section_callee w.scope m ≡ section_callee v.scope m
  section_meant (AFunction Detached (TyInt Int) ts) = ap (λ b. cond b (Takes (map (λ t. Of t) ts) (TyInt Int)) NoCallee) (section_types ts)
  section_meant _ = refl

  section_same : (e : Expr) → AllNames Same e → section_of w.scope (Some (expr_here e)) ≡ section_of v.scope (Some (expr_here e))
  section_same (ENamed x) h = section_meant (meant w.scope x) ∙ ap (section_callee v.scope) h
  section_same (EInteger kind z) h = refl
  section_same (ECharacter z) h = refl
  section_same (EText bytes) h = refl
  section_same (EUnary op e) h = refl
  section_same (EBinary op a b) h = refl
  section_same (EAnd a b) h = refl
  section_same (EOr a b) h = refl
  section_same (EChoose e a b) h = refl
  section_same (ECast t e) h = refl
  section_same (ESizeOf t) h = refl
  section_same (EIndex a b) h = refl
  section_same (EMember e x) h = refl
  section_same (EArrow e x) h = refl
  section_same (ECall f es) h = refl

  function_same : (e : Expr) → AllNames Same e → is_function_name w.scope (expr_here e) ≡ is_function_name v.scope (expr_here e)
  function_same (ENamed x) h = ap is_function h
  function_same (EInteger kind z) h = refl
  function_same (ECharacter z) h = refl
  function_same (EText bytes) h = refl
  function_same (EUnary op e) h = refl
  function_same (EBinary op a b) h = refl
  function_same (EAnd a b) h = refl
  function_same (EOr a b) h = refl
  function_same (EChoose e a b) h = refl
  function_same (ECast t e) h = refl
  function_same (ESizeOf t) h = refl
  function_same (EIndex a b) h = refl
  function_same (EMember e x) h = refl
  function_same (EArrow e x) h = refl
  function_same (ECall f es) h = refl

  suits_same : (t : Wanted) (e : Expr) (d : Typed) → AllNames Same e → suits w.scope t (expr_here e) d ≡ suits v.scope t (expr_here e) d
  suits_same Integer e d h = refl
  suits_same (Of t) e d h = refl
  suits_same (Callback t) e d h = ap (λ b. b && takes_typed t (bare_expr (expr_here e)) d) (function_same e h)
  suits_same String e d h = refl
  suits_same ForSection e d h = ap is_callee (section_same e h)
  suits_same Anything e d h = refl

  pub all_suit_same : (ts : List Wanted) (es : Exprs) → AllNamesAmong Same es → AllSuit w ts es → AllSuit v ts es
  all_suit_same _ _ n NoneSuits = NoneSuits
  all_suit_same _ _ n (AndSuits t ts e es h k) = AndSuits t ts e es (record { type = h.type; has = has_same e h.type n.0 h.has; suits = sym (suits_same t e h.type n.0) ∙ h.suits }) (all_suit_same ts es n.1 k)

  suit_one : (t : Wanted) (e : Expr) (o : Option Typed) → AllNames Same e → suit_breaks w.scope t (expr_here e) o ≡ suit_breaks v.scope t (expr_here e) o
  suit_one t e None h = refl
  suit_one t e (Some d) h = ap (λ b. at_if (not b) (first (expr_here e)) Disagree) (suits_same t e d h)

  plain_fine : (t : Wanted) (e : Expr) → AllNames Same e → expr_breaks w (expr_here e) ++ suit_breaks w.scope t (expr_here e) (typed_at w (expr_here e)) ≡ [] → expr_breaks v (expr_here e) ++ suit_breaks v.scope t (expr_here e) (typed_at v (expr_here e)) ≡ []
  plain_fine t e h i =
      let k = split (expr_breaks w (expr_here e)) _ i in
      both_none _ _ (expr_fine e h k.0) (sym (suit_one t e (typed_at w (expr_here e)) h ∙ ap (suit_breaks v.scope t (expr_here e)) (type_same e h)) ∙ k.1)

  string_fine : (e : Expr) → AllNames Same e → arg_breaks w String (expr_here e) (expr_breaks w (expr_here e)) ≡ [] → arg_breaks v String (expr_here e) (expr_breaks v (expr_here e)) ≡ []
  string_fine (EText bytes) h i = refl
  string_fine (ENamed x) h i = plain_fine String (ENamed x) h i
  string_fine (EInteger kind z) h i = plain_fine String (EInteger kind z) h i
  string_fine (ECharacter z) h i = plain_fine String (ECharacter z) h i
  string_fine (EUnary op e) h i = plain_fine String (EUnary op e) h i
  string_fine (EBinary op a b) h i = plain_fine String (EBinary op a b) h i
  string_fine (EAnd a b) h i = plain_fine String (EAnd a b) h i
  string_fine (EOr a b) h i = plain_fine String (EOr a b) h i
  string_fine (EChoose e a b) h i = plain_fine String (EChoose e a b) h i
  string_fine (ECast t e) h i = plain_fine String (ECast t e) h i
  string_fine (ESizeOf t) h i = plain_fine String (ESizeOf t) h i
  string_fine (EIndex a b) h i = plain_fine String (EIndex a b) h i
  string_fine (EMember e x) h i = plain_fine String (EMember e x) h i
  string_fine (EArrow e x) h i = plain_fine String (EArrow e x) h i
  string_fine (ECall f es) h i = plain_fine String (ECall f es) h i

  arg_fine : (t : Wanted) (e : Expr) → AllNames Same e → arg_breaks w t (expr_here e) (expr_breaks w (expr_here e)) ≡ [] → arg_breaks v t (expr_here e) (expr_breaks v (expr_here e)) ≡ []
  arg_fine Integer e h i = plain_fine Integer e h i
  arg_fine (Of t) e h i = plain_fine (Of t) e h i
  arg_fine (Callback t) e h i = plain_fine (Callback t) e h i
  arg_fine String e h i = string_fine e h i
  arg_fine ForSection e h i = plain_fine ForSection e h i
  arg_fine Anything e h i = plain_fine Anything e h i

  args_fine : (ts : List Wanted) (es : Exprs) → AllNamesAmong Same es → args_breaks w ts (exprs_here es) ≡ [] → args_breaks v ts (exprs_here es) ≡ []
  args_fine ts NoExpr h i = refl
  args_fine [] (AndExpr e es) h i = let k = split (expr_breaks w (expr_here e)) _ i in both_none _ _ (expr_fine e h.0 k.0) (args_fine [] es h.1 k.1)
  args_fine (t ∷ ts) (AndExpr e es) h i = let k = split (arg_breaks w t (expr_here e) (expr_breaks w (expr_here e))) _ i in both_none _ _ (arg_fine t e h.0 k.0) (args_fine ts es h.1 k.1)

  -- ---- calls

  section_third : (es : Exprs) → AllNamesAmong Same es → section_of w.scope (third (exprs_here es)) ≡ section_of v.scope (third (exprs_here es))
  section_third NoExpr h = refl
  section_third (AndExpr a NoExpr) h = refl
  section_third (AndExpr a (AndExpr b NoExpr)) h = refl
  section_third (AndExpr a (AndExpr b (AndExpr c es))) h = section_same c (third_names a b c es h)
    where
      third_names : (a b c : Expr) (es : Exprs) → AllNamesAmong Same (AndExpr a (AndExpr b (AndExpr c es))) → AllNames Same c
      third_names a b c es h = let i : AllNamesAmong Same (AndExpr b (AndExpr c es)) = h.1 in let j : AllNamesAmong Same (AndExpr c es) = i.1 in j.0

  wants_same : (prim : Primitive) (es : Exprs) → AllNamesAmong Same es → wants w.scope prim (exprs_here es) ≡ wants v.scope prim (exprs_here es)
  wants_same P.RtDetach es h = ap (λ c. map wanted_of (takes_first P.RtDetach) ++ detached_wants (length (count (exprs_here es))) c) (section_third es h)
  wants_same P.Puts es h = refl
  wants_same prim es h = refl

  unmeant_same : (o : Option Primitive) (es : Exprs) → AllNamesAmong Same es → unmeant_callee w.scope o (exprs_here es) ≡ unmeant_callee v.scope o (exprs_here es)
  unmeant_same None es h = refl
  unmeant_same (Some prim) es h = ap (λ ws. Takes ws (gives prim)) (wants_same prim es h)

  code_same : (f : Expr) → AllNames Same f → code_callee (used_of (typed_at w (expr_here f))) ≡ code_callee (used_of (typed_at v (expr_here f)))
  code_same f h = ap (λ o. code_callee (used_of o)) (type_same f h)

  named_callee_same : (x : Text) (es : Exprs) (m : Meant) (o : Option Primitive) → Same x → AllNamesAmong Same es → named_callee w (expr_here (ENamed x)) (exprs_here es) m o ≡ named_callee v (expr_here (ENamed x)) (exprs_here es) m o
  named_callee_same x es (AFunction mode r ps) o n h = refl
  named_callee_same x es NotMeant o n h = unmeant_same o es h
  named_callee_same x es (ALocal k t) o n h = code_same (ENamed x) n
  named_callee_same x es (AGlobal k t) o n h = code_same (ENamed x) n

  callee_same : (f : Expr) (es : Exprs) → AllNames Same f → AllNamesAmong Same es → callee w (expr_here f) (exprs_here es) ≡ callee v (expr_here f) (exprs_here es)
  callee_same (ENamed x) es n h = named_callee_same x es (meant w.scope x) (primitive_named x) n h ∙ ap (λ m. named_callee v (expr_here (ENamed x)) (exprs_here es) m (primitive_named x)) n
  callee_same (EInteger kind z) es n h = code_same (EInteger kind z) n
  callee_same (ECharacter z) es n h = code_same (ECharacter z) n
  callee_same (EText bytes) es n h = code_same (EText bytes) n
  callee_same (EUnary op e) es n h = code_same (EUnary op e) n
  callee_same (EBinary op a b) es n h = code_same (EBinary op a b) n
  callee_same (EAnd a b) es n h = code_same (EAnd a b) n
  callee_same (EOr a b) es n h = code_same (EOr a b) n
  callee_same (EChoose e a b) es n h = code_same (EChoose e a b) n
  callee_same (ECast t e) es n h = code_same (ECast t e) n
  callee_same (ESizeOf t) es n h = code_same (ESizeOf t) n
  callee_same (EIndex a b) es n h = code_same (EIndex a b) n
  callee_same (EMember e x) es n h = code_same (EMember e x) n
  callee_same (EArrow e x) es n h = code_same (EArrow e x) n
  callee_same (ECall g vs) es n h = code_same (ECall g vs) n

  pointer_fine : (f : Expr) → AllNames Same f → pointer_breaks w (expr_here f) (expr_breaks w (expr_here f)) ≡ [] → pointer_breaks v (expr_here f) (expr_breaks v (expr_here f)) ≡ []
  pointer_fine f n i =
      let k = split (expr_breaks w (expr_here f)) _ i in
      let l = split (at_if (is_detached mode) (first (expr_here f)) NotClosed) _ k.1 in
      both_none _ _ (expr_fine f n k.0) (both_none _ _ l.0 (sym (ap (λ o. no_code o (first (expr_here f))) (type_same f n)) ∙ l.1))

  unmeant_fine : (o : Option Primitive) → unmeant_breaks w here o ≡ [] → unmeant_breaks v here o ≡ []
  unmeant_fine None i = i
  unmeant_fine (Some prim) i = i

  named_fine : (x : Text) (m : Meant) (o : Option Primitive) → Same x → named_breaks w (expr_here (ENamed x)) here (expr_breaks w (expr_here (ENamed x))) m o ≡ [] → named_breaks v (expr_here (ENamed x)) here (expr_breaks v (expr_here (ENamed x))) m o ≡ []
  named_fine x (AFunction g r ps) o n i = i
  named_fine x NotMeant o n i = unmeant_fine o i
  named_fine x (ALocal k t) o n i = pointer_fine (ENamed x) n i
  named_fine x (AGlobal k t) o n i = pointer_fine (ENamed x) n i

  called_fine : (f : Expr) → AllNames Same f → called_breaks w (expr_here f) (expr_breaks w (expr_here f)) ≡ [] → called_breaks v (expr_here f) (expr_breaks v (expr_here f)) ≡ []
  called_fine (ENamed x) n i =
      ap (λ m. named_breaks v (expr_here (ENamed x)) here (expr_breaks v (expr_here (ENamed x))) m (primitive_named x)) (sym n) ∙ named_fine x (meant w.scope x) (primitive_named x) n i
  called_fine (EInteger kind z) n i = pointer_fine (EInteger kind z) n i
  called_fine (ECharacter z) n i = pointer_fine (ECharacter z) n i
  called_fine (EText bytes) n i = pointer_fine (EText bytes) n i
  called_fine (EUnary op e) n i = pointer_fine (EUnary op e) n i
  called_fine (EBinary op a b) n i = pointer_fine (EBinary op a b) n i
  called_fine (EAnd a b) n i = pointer_fine (EAnd a b) n i
  called_fine (EOr a b) n i = pointer_fine (EOr a b) n i
  called_fine (EChoose e a b) n i = pointer_fine (EChoose e a b) n i
  called_fine (ECast t e) n i = pointer_fine (ECast t e) n i
  called_fine (ESizeOf t) n i = pointer_fine (ESizeOf t) n i
  called_fine (EIndex a b) n i = pointer_fine (EIndex a b) n i
  called_fine (EMember e x) n i = pointer_fine (EMember e x) n i
  called_fine (EArrow e x) n i = pointer_fine (EArrow e x) n i
  called_fine (ECall g vs) n i = pointer_fine (ECall g vs) n i

  -- ---- statements and tests

  target_fine : (e : Expr) → AllNames Same e → target_breaks w (expr_here e) ≡ [] → target_breaks v (expr_here e) ≡ []
  target_fine e n i = let k = split (expr_breaks w (expr_here e)) _ i in both_none _ _ (expr_fine e n k.0) (sym (ap (λ o. place_breaks o (first (expr_here e))) (type_same e n)) ∙ k.1)

  assign_part : (e : Expr) (op : Option Op) (a : Expr) → AllNames Same e → AllNames Same a → assign_breaks w here (expr_here e) op (expr_here a) ≡ [] → assign_breaks v here (expr_here e) op (expr_here a) ≡ []
  assign_part e None a n m i = sym (ap₂ (λ x y. fits_breaks x (expr_here a) y here) (type_same e n) (type_same a m)) ∙ i
  assign_part e (Some op) a n m i =
      let whole = type_same (EBinary op e a) (n, m) in
      let k = split (binary_breaks w.scope op (typed_at w (expr_here e)) (typed_at w (expr_here a)) (typed_at w (expr_here (EBinary op e a))) here) _ i in
      both_none _ _ (sym (binary_same op _ _ _ _ _ _ here (type_same e n) (type_same a m) whole) ∙ k.0) (sym (ap₂ (λ x y. result_breaks x y here) (type_same e n) whole) ∙ k.1)

  pub assign_same : (e : Expr) (op : Option Op) (a : Expr) → AllNames Same e → AllNames Same a → stmt_breaks w (stmt_here (Assign e op a)) ≡ [] → stmt_breaks v (stmt_here (Assign e op a)) ≡ []
  assign_same e op a n m i =
      let k = split (target_breaks w (expr_here e)) _ i in
      let l = split (expr_breaks w (expr_here a)) _ k.1 in
      both_none _ _ (target_fine e n k.0) (both_none _ _ (expr_fine a m l.0) (assign_part e op a n m l.1))

  to_fine : (o : Option Expr) (t s : Option Ty) → t ≡ s → AllNamesIf Same o → to_breaks w (option_map expr_here o) here t ≡ [] → to_breaks v (option_map expr_here o) here s ≡ []
  to_fine None t s e n i = refl
  to_fine (Some x) t s e n i =
      let k = split (target_breaks w (expr_here x)) _ i in
      both_none _ _ (target_fine x n k.0) (sym (ap₂ (λ a b. given_breaks a b here) (type_same x n) e) ∙ k.1)

  pub call_same : (to : Option Expr) (f : Expr) (es : Exprs) → AllNamesIf Same to → AllNames Same f → AllNamesAmong Same es → stmt_breaks w (stmt_here (Call to f es)) ≡ [] → stmt_breaks v (stmt_here (Call to f es)) ≡ []
  call_same to f es n m h i =
      let same = callee_same f es m h in
      let j = split (to_breaks w (option_map expr_here to) here (result (callee w (expr_here f) (exprs_here es)))) _ i in
      let k = split (called_breaks w (expr_here f) (expr_breaks w (expr_here f))) _ j.1 in
      let l = split (number_breaks (callee w (expr_here f) (exprs_here es)) (exprs_here es) (first (expr_here f))) _ k.1 in
      both_none _ _ (to_fine to _ _ (ap result same) n j.0)
      (both_none _ _ (called_fine f m k.0)
      (both_none _ _ (subst (λ c. number_breaks c (exprs_here es) (first (expr_here f)) ≡ []) same l.0)
      (subst (λ c. args_breaks v (wanted c) (exprs_here es) ≡ []) same (args_fine (wanted (callee w (expr_here f) (exprs_here es))) es h l.1))))

  pub test_same : (e : Expr) → AllNames Same e → test_breaks w (expr_here e) ≡ [] → test_breaks v (expr_here e) ≡ []
  test_same e n i = let k = split (expr_breaks w (expr_here e)) _ i in both_none _ _ (expr_fine e n k.0) (sym (ap (λ o. tested_breaks o (first (expr_here e))) (type_same e n)) ∙ k.1)
