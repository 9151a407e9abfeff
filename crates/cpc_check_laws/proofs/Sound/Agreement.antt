-- Where the rules and the meaning agree on names and types, what is assignable by the rules can be assigned.
use Rattle.std.proofs.Common.{◌≡◌, ◌⊎◌, inl, inr, ◌&&◌, ◌||◌, ℕ, Bool, true, false, cond, List, [], ◌∷◌, ◌++◌, map, length, Option, Some, None, bytes_eq, refl, sym, ◌∙◌, ap, subst, arith}
use Rattle.cpc_base.specs.Bytes.{Text}
use Rattle.cpc_base.specs.declared.stop.Dialect.{Dialect}
use Rattle.cpc_base.proofs.Truth.{by_false_true, and_both, or_either}
use Rattle.cpc_base.proofs.Lists.{some_is}
use Rattle.cpc_num.specs.declared.kinds.Kind.TheVariants.{Int, Long}
use Rattle.cpc_tree.specs.declared.program.Mode.{Mode}
use Rattle.cpc_tree.specs.declared.program.Mode.TheVariants.{Extern, Native, Cps, Detached}
use Rattle.cpc_tree.specs.Syntax.{Ty, TyVoid, TyInt, TyCondvar, TyPointer, TyCode, TyStruct, TyArray, Tys, Expr, ENamed, Exprs, NoExpr, AndExpr, Function, Program}
use Rattle.cpc_tree.specs.Located.{Ident, LExpr, LNamed, LInteger, LCharacter, LText, LUnary, LBinary, LAnd, LOr, LChoose, LCast, LSizeOf, LIndex, LMember, LArrow, LCall, LExprs, NoLExpr, AndLExpr, bare_expr, bare_exprs}
use Rattle.cpc_tree.specs.Typing.{Scope, Meant, ALocal, AGlobal, AFunction, NotMeant, Typed, AValue, APlace, type_named, named, item_named, typing, used, size, cells, field, is_null, is_reference, same_type, tys_of, function_named, parameter_types}
use Rattle.cpc_tree.specs.Primitives.{Primitive, primitive_named, Taken, AnyInteger, SetOf, FreeOf}
use Rattle.cpc_tree.proofs.Options.{then_some}
use Rattle.cpc_check_rules.specs.declared.rule.Rule.TheVariants.{Disagree}
use Rattle.cpc_check_rules.specs.Scopes.{meant, typed, takes_value, takes_typed}
use Rattle.cpc_check_rules.specs.Operators.{Where, typed_at, first, is_detached}
use Rattle.cpc_check_rules.specs.Calls.{Wanted, Integer, Of, Callback, wanted_of, takes_section, all_integers, are_integers, is_integer_used, is_function, is_function_name, count, suits, suit_breaks}
use Rattle.cpc_check_rules.specs.ExprRules.{expr_breaks, arg_breaks, args_breaks}
use Rattle.cpc_check_rules.proofs.Sameness.{type_is}
use Rattle.cpc_store.specs.declared.values.Scalar.{Scalar}
use Rattle.cpc_meaning.specs.Layout.{layout, scalars}
use Rattle.cpc_meaning.specs.Requests.{section_takes}
use Rattle.cpc_check_laws.specs.Sound.Suits.{converts}
use Rattle.cpc_check_laws.specs.Sound.Typed.{Gets, AllGet, EachGets, NamesFunction, GetsTaken, AllGetTaken, IsSection, Detaches, is_own}
use Rattle.cpc_check_laws.proofs.Sound.Answers.{no_some}
use Rattle.cpc_check_laws.proofs.Sound.Options.{then_of}
use Rattle.cpc_check_laws.proofs.Sound.Scalars.{null_int}
use Rattle.cpc_check_laws.proofs.Sound.More.{typing_more}
use Rattle.cpc_check_laws.proofs.Sound.Unbroken.{split, holds_then, typed_of}

-- ---- assignable types

same_itself : (t u : Ty) → same_type t u ≡ true → converts t t ≡ true → converts t u ≡ true
same_itself t u e h = subst (λ u. converts t u ≡ true) (type_is t u e) h

code_takes : (null : Bool) (t u : Ty) → is_reference t ≡ true → converts t t ≡ true → (same_type t u || (null && is_reference t)) ≡ true → (null ≡ true → u ≡ TyInt Int) → converts t (TyInt Int) ≡ true → converts t u ≡ true
code_takes null t u r h e f g = go (or_either (same_type t u) (null && is_reference t) e)
  where
    go : ((same_type t u ≡ true) ⊎ ((null && is_reference t) ≡ true)) → converts t u ≡ true
    go (inl i) = same_itself t u i h
    go (inr i) = subst (λ u. converts t u ≡ true) (sym (f (and_both null (is_reference t) i).0)) g

plain_takes : (null : Bool) (t u : Ty) → is_reference t ≡ false → converts t t ≡ true → (same_type t u || (null && is_reference t)) ≡ true → converts t u ≡ true
plain_takes null t u r h e = go (or_either (same_type t u) (null && is_reference t) e)
  where
    go : ((same_type t u ≡ true) ⊎ ((null && is_reference t) ≡ true)) → converts t u ≡ true
    go (inl i) = same_itself t u i h
    go (inr i) = by_false_true (sym r ∙ (and_both null (is_reference t) i).1)

pointer_takes : (t u : Ty) (null : Bool) → takes_value (TyPointer t) null u ≡ true → (null ≡ true → u ≡ TyInt Int) → converts (TyPointer t) u ≡ true
pointer_takes t (TyPointer u) null e f = refl
pointer_takes TyVoid u null e f = code_takes null (TyPointer TyVoid) u refl refl e f refl
pointer_takes (TyInt k) u null e f = code_takes null (TyPointer (TyInt k)) u refl refl e f refl
pointer_takes TyCondvar u null e f = code_takes null (TyPointer TyCondvar) u refl refl e f refl
pointer_takes (TyPointer t) u null e f = code_takes null (TyPointer (TyPointer t)) u refl refl e f refl
pointer_takes (TyCode r ps) u null e f = code_takes null (TyPointer (TyCode r ps)) u refl refl e f refl
pointer_takes (TyStruct tag) u null e f = code_takes null (TyPointer (TyStruct tag)) u refl refl e f refl
pointer_takes (TyArray t n) u null e f = code_takes null (TyPointer (TyArray t n)) u refl refl e f refl

int_takes : (j : _) (u : Ty) (null : Bool) → takes_value (TyInt j) null u ≡ true → converts (TyInt j) u ≡ true
int_takes j (TyInt k) null e = refl
int_takes j TyVoid null e = plain_takes null (TyInt j) TyVoid refl refl e
int_takes j TyCondvar null e = plain_takes null (TyInt j) TyCondvar refl refl e
int_takes j (TyPointer t) null e = plain_takes null (TyInt j) (TyPointer t) refl refl e
int_takes j (TyCode r ps) null e = plain_takes null (TyInt j) (TyCode r ps) refl refl e
int_takes j (TyStruct tag) null e = plain_takes null (TyInt j) (TyStruct tag) refl refl e
int_takes j (TyArray t n) null e = plain_takes null (TyInt j) (TyArray t n) refl refl e

pub takes_converts : (t u : Ty) (null : Bool) → takes_value t null u ≡ true → (null ≡ true → u ≡ TyInt Int) → converts t u ≡ true
takes_converts (TyInt j) u null e f = int_takes j u null e
takes_converts (TyPointer t) u null e f = pointer_takes t u null e f
takes_converts TyVoid u null e f = by_false_true e
takes_converts (TyStruct tag) u null e f = by_false_true e
takes_converts (TyArray t n) u null e f = by_false_true e
takes_converts TyCondvar u null e f = plain_takes null TyCondvar u refl refl e
takes_converts (TyCode r ps) u null e f = code_takes null (TyCode r ps) u refl refl e f refl

pub used_taken : (t : Ty) (e : Expr) (d : Typed) → takes_typed t e d ≡ true → (u : Ty) × (used d ≡ Some u) × (takes_value t (is_null e) u ≡ true)
used_taken t e (AValue u) h = (u, refl, h)
used_taken t e (APlace (TyArray u n)) h = (TyPointer u, refl, h)
used_taken t e (APlace (TyStruct tag)) h = by_false_true h
used_taken t e (APlace TyVoid) h = (TyVoid, refl, h)
used_taken t e (APlace (TyInt k)) h = (TyInt k, refl, h)
used_taken t e (APlace TyCondvar) h = (TyCondvar, refl, h)
used_taken t e (APlace (TyPointer u)) h = (TyPointer u, refl, h)
used_taken t e (APlace (TyCode r ps)) h = (TyCode r ps, refl, h)

-- ---- names

-- what a name stands for by the rules, and by the meaning
abbrev pub Matches : Text → Meant → Meant → Type 0
Matches x (ALocal j t) m = (k : ℕ) × (m ≡ ALocal k t)
Matches x (AGlobal j t) m = (n : ℕ) × (m ≡ AGlobal n t)
Matches x (AFunction mode r ps) m = m ≡ AFunction mode r ps
Matches x NotMeant m = (prim : Primitive) → primitive_named x ≡ Some prim → m ≡ NotMeant

-- what holds of types where these items are declared holds where those are
pub record Grows (q p : Program) : Type 0 where
  pub cells : (t : Ty) (ts : List Ty) → cells q t ≡ Some ts → cells p t ≡ Some ts
  pub fields : (tag x : Text) (f : ℕ × Ty) → field q tag x ≡ Some f → field p tag x ≡ Some f

pub sizes_grow : (q p : Program) → Grows q p → (t : Ty) (n : ℕ) → size q t ≡ Some n → size p t ≡ Some n
sizes_grow q p g t n e = let k = then_some (cells q t) _ n e in then_of (cells p t) _ k.0 n (g.cells t k.0 k.1) k.2

-- what is known of the items of a whole program
pub record Facts (p : Program) : Type 0 where
  pub extern : (x : Text) (r : Ty) (ps : List Ty) → item_named 0 p x ≡ AFunction Extern r ps → (r ≡ TyInt Long) × ((es : Exprs) (scope : Scope) → AllGet p scope ps es → EachGets p scope (TyInt Long) es)
  pub function : (x : Text) (mode : Mode) (r : Ty) (ps : List Ty) → item_named 0 p x ≡ AFunction mode r ps → is_own mode ≡ true
      → (g : Function) × (function_named p x ≡ Some g) × (g.mode ≡ mode) × (g.result ≡ r) × (parameter_types g ≡ ps)

pub item_of : (p : Program) (scope : Scope) (x : Text) (mode : Mode) (r : Ty) (ps : List Ty) → named p scope x ≡ AFunction mode r ps → item_named 0 p x ≡ AFunction mode r ps
item_of p [] x mode r ps e = e
item_of p (l ∷ scope) x mode r ps e = go (bytes_eq l.called x) e (item_of p scope x mode r ps)
  where
    go : (b : Bool) → cond b (ALocal l.slot l.type) (named p scope x) ≡ AFunction mode r ps → (named p scope x ≡ AFunction mode r ps → item_named 0 p x ≡ AFunction mode r ps) → item_named 0 p x ≡ AFunction mode r ps
    go true e rest = absurd (cc)
    go false e rest = rest e

-- the rules and the meaning agree where a statement stands
pub record At (d : Dialect) (p : Program) (f : Function) (w : Where) (scope : Scope) : Type 0 where
  pub names : (x : Text) → Matches x (meant w.scope x) (named p scope x)
  pub grows : Grows w.scope.items p
  pub mode : w.mode ≡ f.mode
  pub result : w.result ≡ f.result
  pub dialect : w.dialect ≡ d

same_named : (x : Text) (m n : Meant) (d : Typed) → Matches x m n → type_named m ≡ Some d → type_named n ≡ Some d
same_named x (ALocal j t) n d h e = ap type_named h.1 ∙ e
same_named x (AGlobal j t) n d h e = ap type_named h.1 ∙ e
same_named x (AFunction mode r ps) n d h e = ap type_named h ∙ e
same_named x NotMeant n d h e = no_some d e

module _ (d : Dialect) (p : Program) (facts : Facts p) (f : Function) (w : Where) (scope : Scope) (at : At d p f w scope) where
  pub typed_here : (e : Expr) (t : Typed) → typed w.scope e ≡ Some t → typing p scope e ≡ Some t
  typed_here e t h = typing_more w.scope.items p (sizes_grow w.scope.items p at.grows) at.grows.fields (meant w.scope) (named p scope) (λ x t k. same_named x (meant w.scope x) (named p scope x) t (at.names x) k) e t h

  pub gets_here : (t : Ty) (e : LExpr) (c : Typed) → typed_at w e ≡ Some c → takes_typed t (bare_expr e) c ≡ true → Gets p scope t (bare_expr e)
  gets_here t e c h k =
      let u = used_taken t (bare_expr e) c k in
      let i = typed_here (bare_expr e) c h in
      record { typed = c; type = u.0; is_typed = i; is_type = u.1; converts = takes_converts t u.0 (is_null (bare_expr e)) u.2 (null_int p scope (bare_expr e) c u.0 i u.1) }

  -- ---- arguments

  suit_holds : (t : Wanted) (e : LExpr) (c : Typed) (o : Option Typed) → o ≡ Some c → suit_breaks w.scope t e o ≡ [] → suits w.scope t e c ≡ true
  suit_holds t e c None h k = no_some c h
  suit_holds t e c (Some b) h k = subst (λ c. suits w.scope t e c ≡ true) (some_is b c h) (holds_then (suits w.scope t e b) (first e) Disagree k)

  -- an argument that is no string
  pub suits_here : (t : Wanted) (e : LExpr) → expr_breaks w e ++ suit_breaks w.scope t e (typed_at w e) ≡ [] → (c : Typed) × (typed_at w e ≡ Some c) × (suits w.scope t e c ≡ true)
  suits_here t e h =
      let k = split (expr_breaks w e) (suit_breaks w.scope t e (typed_at w e)) h in
      let c = typed_of w e k.0 in
      (c.0, c.1, suit_holds t e c.0 (typed_at w e) c.1 k.1)

  pub of_here : (t : Ty) (e : LExpr) → arg_breaks w (Of t) e (expr_breaks w e) ≡ [] → Gets p scope t (bare_expr e)
  of_here t e h = let c = suits_here (Of t) e h in gets_here t e c.0 c.1 c.2

  pub args_here : (ps : List Ty) (es : LExprs) → length (count es) ≡ length (map (λ t. Of t) ps) → args_breaks w (map (λ t. Of t) ps) es ≡ [] → AllGet p scope ps (bare_exprs es)
  args_here [] NoLExpr n h = tt
  args_here (t ∷ ps) (AndLExpr e es) n h =
      let k = split (arg_breaks w (Of t) e (expr_breaks w e)) (args_breaks w (map (λ t. Of t) ps) es) h in
      (of_here t e k.0, args_here ps es (omega arith) k.1)
  args_here [] (AndLExpr e es) n h = absurd (omega arith)
  args_here (t ∷ ps) NoLExpr n h = absurd (omega arith)

  integer_gets : (e : LExpr) (c : Typed) (o : Option Ty) → typed_at w e ≡ Some c → used c ≡ o → is_integer_used o ≡ true → Gets p scope (TyInt Long) (bare_expr e)
  integer_gets e c (Some (TyInt k)) h i j = record { typed = c; type = TyInt k; is_typed = typed_here (bare_expr e) c h; is_type = i; converts = refl }
  integer_gets e c None h i j = by_false_true j
  integer_gets e c (Some TyVoid) h i j = by_false_true j
  integer_gets e c (Some TyCondvar) h i j = by_false_true j
  integer_gets e c (Some (TyPointer t)) h i j = by_false_true j
  integer_gets e c (Some (TyCode r ps)) h i j = by_false_true j
  integer_gets e c (Some (TyStruct tag)) h i j = by_false_true j
  integer_gets e c (Some (TyArray t n)) h i j = by_false_true j

  value_mode : (mode : Mode) (r : Ty) (ps : List Ty) (c : Typed) → type_named (AFunction mode r ps) ≡ Some c → ((mode ≡ Native) ⊎ (mode ≡ Detached)) × (c ≡ AValue (TyCode r (tys_of ps))) × (is_own mode ≡ true)
  value_mode Native r ps c e = (inl refl, sym (some_is _ c e), refl)
  value_mode Detached r ps c e = (inr refl, sym (some_is _ c e), refl)
  value_mode Cps r ps c e = no_some c e
  value_mode Extern r ps c e = no_some c e

  code_is : (q : Ty) (qs : Tys) (u : Ty) → takes_value (TyCode q qs) false u ≡ true → TyCode q qs ≡ u
  code_is q qs u h = go (or_either (same_type (TyCode q qs) u) false h)
    where
      go : ((same_type (TyCode q qs) u ≡ true) ⊎ (false ≡ true)) → TyCode q qs ≡ u
      go (inl i) = type_is (TyCode q qs) u i
      go (inr i) = by_false_true i

  -- the name of a function as a callback
  names_here : (q : Ty) (qs : Tys) (x : Ident) (c : Typed) (m : Meant) → meant w.scope x.text ≡ m → is_function m ≡ true → type_named m ≡ Some c → takes_typed (TyCode q qs) (ENamed x.text) c ≡ true → NamesFunction p scope (TyCode q qs) x.text
  names_here q qs x c (AFunction mode r ps) i j k l =
      let v = value_mode mode r ps c k in
      let is_m : named p scope x.text ≡ AFunction mode r ps = subst (λ m. Matches x.text m (named p scope x.text)) i (at.names x.text) in
      let g = facts.function x.text mode r ps (item_of p scope x.text mode r ps is_m) v.2 in
      let code : takes_typed (TyCode q qs) (ENamed x.text) (AValue (TyCode r (tys_of ps))) ≡ true = subst (λ c. takes_typed (TyCode q qs) (ENamed x.text) c ≡ true) v.1 l in
      record {
        mode = mode;
        result = r;
        parameters = ps;
        function = g.0;
        is_meant = is_m;
        is_value = v.0;
        is_function = g.1;
        is_type = code_is q qs (TyCode r (tys_of ps)) code ∙ ap (λ r. TyCode r (tys_of ps)) (sym g.3) ∙ ap (λ ps. TyCode g.0.result (tys_of ps)) (sym g.4);
      }
  names_here q qs x c (ALocal n u) i j k l = by_false_true j
  names_here q qs x c (AGlobal n u) i j k l = by_false_true j
  names_here q qs x c NotMeant i j k l = by_false_true j

  callback_here : (q : Ty) (qs : Tys) (e : LExpr) (c : Typed) → typed_at w e ≡ Some c → (is_function_name w.scope e && takes_typed (TyCode q qs) (bare_expr e) c) ≡ true → GetsTaken p scope (SetOf (TyCode q qs)) (bare_expr e)
  callback_here q qs (LNamed x) c h k =
      let l = and_both (is_function (meant w.scope x.text)) (takes_typed (TyCode q qs) (ENamed x.text) c) k in
      names_here q qs x c (meant w.scope x.text) refl l.0 h l.1
  callback_here q qs (LInteger a b z) c h k = by_false_true k
  callback_here q qs (LCharacter a z) c h k = by_false_true k
  callback_here q qs (LText a b) c h k = by_false_true k
  callback_here q qs (LUnary a op v) c h k = by_false_true k
  callback_here q qs (LBinary a op v u) c h k = by_false_true k
  callback_here q qs (LAnd a v u) c h k = by_false_true k
  callback_here q qs (LOr a v u) c h k = by_false_true k
  callback_here q qs (LChoose a t v u) c h k = by_false_true k
  callback_here q qs (LCast a t v) c h k = by_false_true k
  callback_here q qs (LSizeOf a t) c h k = by_false_true k
  callback_here q qs (LIndex a v u) c h k = by_false_true k
  callback_here q qs (LMember a v x) c h k = by_false_true k
  callback_here q qs (LArrow a v x) c h k = by_false_true k
  callback_here q qs (LCall a g vs) c h k = by_false_true k

  pub taken_here : (t : Taken) (e : LExpr) → arg_breaks w (wanted_of t) e (expr_breaks w e) ≡ [] → GetsTaken p scope t (bare_expr e)
  taken_here AnyInteger e h = let c = suits_here Integer e h in integer_gets e c.0 (used c.0) c.1 refl c.2
  taken_here (SetOf (TyCode r ps)) e h = let c = suits_here (Callback (TyCode r ps)) e h in callback_here r ps e c.0 c.1 c.2
  taken_here (SetOf TyVoid) e h = of_here TyVoid e h
  taken_here (SetOf (TyInt k)) e h = of_here (TyInt k) e h
  taken_here (SetOf TyCondvar) e h = of_here TyCondvar e h
  taken_here (SetOf (TyPointer t)) e h = of_here (TyPointer t) e h
  taken_here (SetOf (TyStruct tag)) e h = of_here (TyStruct tag) e h
  taken_here (SetOf (TyArray t n)) e h = of_here (TyArray t n) e h
  taken_here (FreeOf t) e h = of_here t e h

  pub all_taken_here : (ts : List Taken) (es : LExprs) → length (count es) ≡ length (map wanted_of ts) → args_breaks w (map wanted_of ts) es ≡ [] → AllGetTaken p scope ts (bare_exprs es)
  all_taken_here [] NoLExpr n h = tt
  all_taken_here (t ∷ ts) (AndLExpr e es) n h =
      let k = split (arg_breaks w (wanted_of t) e (expr_breaks w e)) (args_breaks w (map wanted_of ts) es) h in
      (taken_here t e k.0, all_taken_here ts es (omega arith) k.1)
  all_taken_here [] (AndLExpr e es) n h = absurd (omega arith)
  all_taken_here (t ∷ ts) NoLExpr n h = absurd (omega arith)

  -- ---- sections

  all_scalars : (q : Program) (ts : List Ty) → all_integers ts ≡ true → (xs : List Scalar) × (scalars ts ≡ Some xs)
  all_scalars q [] h = ([], refl)
  all_scalars q (TyInt k ∷ ts) h = let xs = all_scalars q ts h in (_, then_of (scalars ts) _ xs.0 _ xs.1 refl)
  all_scalars q (TyVoid ∷ ts) h = by_false_true h
  all_scalars q (TyCondvar ∷ ts) h = by_false_true h
  all_scalars q (TyPointer t ∷ ts) h = by_false_true h
  all_scalars q (TyCode r ps ∷ ts) h = by_false_true h
  all_scalars q (TyStruct tag ∷ ts) h = by_false_true h
  all_scalars q (TyArray t n ∷ ts) h = by_false_true h

  layout_here : (t : Ty) → are_integers (cells w.scope.items t) ≡ true → (xs : List Scalar) × (layout p t ≡ Some xs)
  layout_here t h = go (cells w.scope.items t) refl h
    where
      go : (o : Option (List Ty)) → cells w.scope.items t ≡ o → are_integers o ≡ true → (xs : List Scalar) × (layout p t ≡ Some xs)
      go None e h = by_false_true h
      go (Some ts) e h = let xs = all_scalars p ts h in (xs.0, then_of (cells p t) scalars ts xs.0 (at.grows.cells t ts e) xs.1)

  section_of_types : (x : Text) (g : Function) (ps : List Ty) → function_named p x ≡ Some g → g.mode ≡ Detached → g.result ≡ TyInt Int → parameter_types g ≡ ps → takes_section w.scope ps ≡ true → IsSection p x g
  section_of_types x g (TyPointer t ∷ ps) is_g m r e h =
      let k = and_both (are_integers (cells w.scope.items t)) (all_integers ps) h in
      record { is_function = is_g; detached = ap is_detached m; result = r; cells = t; others = ps; parameters = e; complete = layout_here t k.0 }
  section_of_types x g [] is_g m r e h = by_false_true h
  section_of_types x g (TyVoid ∷ ps) is_g m r e h = by_false_true h
  section_of_types x g (TyInt k ∷ ps) is_g m r e h = by_false_true h
  section_of_types x g (TyCondvar ∷ ps) is_g m r e h = by_false_true h
  section_of_types x g (TyCode q qs ∷ ps) is_g m r e h = by_false_true h
  section_of_types x g (TyStruct tag ∷ ps) is_g m r e h = by_false_true h
  section_of_types x g (TyArray t n ∷ ps) is_g m r e h = by_false_true h

  free_gets : (ps : List Ty) (es : Exprs) → AllGet p scope ps es → AllGetTaken p scope (map (λ t. FreeOf t) ps) es
  free_gets [] NoExpr h = tt
  free_gets (t ∷ ps) (AndExpr e es) h = (h.0, free_gets ps es h.1)
  free_gets [] (AndExpr e es) h = absurd h
  free_gets (t ∷ ps) NoExpr h = absurd h

  section_gets : (ps : List Ty) (es : Exprs) → takes_section w.scope ps ≡ true → AllGet p scope ps es → AllGetTaken p scope (section_takes ps) es
  section_gets (TyPointer t ∷ ps) (AndExpr e es) h k = (k.0, free_gets ps es k.1)
  section_gets (TyPointer t ∷ ps) NoExpr h k = absurd k
  section_gets [] es h k = by_false_true h
  section_gets (TyVoid ∷ ps) es h k = by_false_true h
  section_gets (TyInt i ∷ ps) es h k = by_false_true h
  section_gets (TyCondvar ∷ ps) es h k = by_false_true h
  section_gets (TyCode q qs ∷ ps) es h k = by_false_true h
  section_gets (TyStruct tag ∷ ps) es h k = by_false_true h
  section_gets (TyArray t n ∷ ps) es h k = by_false_true h

  -- a section by its name
  pub detaches_here : (x : Text) (ps : List Ty) (es : LExprs) → meant w.scope x ≡ AFunction Detached (TyInt Int) ps → takes_section w.scope ps ≡ true → AllGet p scope ps (bare_exprs es) → Detaches p scope x (bare_exprs es)
  detaches_here x ps es i h k =
      let is_m : named p scope x ≡ AFunction Detached (TyInt Int) ps = subst (λ m. Matches x m (named p scope x)) i (at.names x) in
      let g = facts.function x Detached (TyInt Int) ps (item_of p scope x Detached (TyInt Int) ps is_m) refl in
      record { function = g.0; section = section_of_types x g.0 ps g.1 g.2 g.3 g.4 h; arguments = subst (λ us. AllGetTaken p scope (section_takes us) (bare_exprs es)) (sym g.4) (section_gets ps (bare_exprs es) h k) }
