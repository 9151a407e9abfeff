-- What breaks no rule: an expression has a type, and a name means what it has to.
use Rattle.std.proofs.Common.{◌≡◌, ◌&&◌, not, ℕ, Bool, true, false, cond, List, [], ◌∷◌, ◌++◌, map, Option, Some, None, refl, sym, ◌∙◌, ap}
use Rattle.std.specs.Prelude.{is_some}
use Rattle.std.specs.Option.{is_none}
use Rattle.cpc_base.specs.Bytes.{Text}
use Rattle.cpc_base.specs.declared.stop.Place.{Place}
use Rattle.cpc_base.proofs.Truth.{by_false_true, not_fails, and_fails_second, and_holds}
use Rattle.cpc_num.specs.declared.kinds.Op.{Op}
use Rattle.cpc_num.specs.declared.kinds.Op.TheVariants.{Add}
use Rattle.cpc_num.specs.declared.kinds.Kind.TheVariants.{Int, ULong}
use Rattle.cpc_tree.specs.declared.program.Mode.{Mode}
use Rattle.cpc_tree.specs.declared.program.Mode.TheVariants.{Extern, Native, Cps, Detached}
use Rattle.cpc_tree.specs.declared.program.UnaryOp.{UnaryOp}
use Rattle.cpc_tree.specs.declared.program.UnaryOp.TheVariants.{Minus, Plus, Not, Complement, Dereference, AddressOf}
use Rattle.cpc_tree.specs.Syntax.{Ty, TyVoid, TyInt, TyCondvar, TyPointer, TyCode, TyStruct, TyArray}
use Rattle.cpc_tree.specs.Located.{Ident, LExpr, LNamed, LInteger, LCharacter, LText, LUnary, LBinary, LAnd, LOr, LChoose, LCast, LSizeOf, LIndex, LMember, LArrow, LCall}
use Rattle.cpc_tree.specs.Typing.{Meant, ALocal, AGlobal, AFunction, NotMeant, Typed, AValue, APlace, type_named, used, typed_place, size, fields, is_testable}
use Rattle.cpc_check_rules.specs.declared.rule.Rule.{Rule}
use Rattle.cpc_check_rules.specs.declared.rule.Rule.TheVariants.{Incomplete, NoField}
use Rattle.cpc_check_rules.specs.Rule.{Broken, at_if}
use Rattle.cpc_check_rules.specs.Scopes.{Scope, meant, measured}
use Rattle.cpc_check_rules.specs.Operators.{Where, typed_at, first, name_breaks, no_rule, binary_breaks, is_incomplete_sum, address_breaks, field_breaks, member_breaks, arrow_breaks, pointed}
use Rattle.cpc_check_rules.specs.Calls.{Of, Callee, Takes, NoCallee, is_callee, takes_section, section_callee, spawn_callee}
use Rattle.cpc_check_rules.specs.ExprRules.{expr_breaks}
use Rattle.cpc_check_rules.specs.StmtRules.{is_writable, is_tested, wrong_name}
use Rattle.cpc_check_laws.proofs.Sound.Answers.{no_some}
use Rattle.cpc_check_laws.proofs.Sound.Options.{then_of}
use Rattle.cpc_check_laws.proofs.Native.NativeValues.{unbroken}

-- ---- rows of broken rules

pub split : (xs ys : Broken) → xs ++ ys ≡ [] → (xs ≡ []) × (ys ≡ [])
split [] ys e = (refl, e)
split (x ∷ xs) ys e = absurd (cc)

pub not_broken : {A : Type 0} (x : Place × Rule) (xs : Broken) → x ∷ xs ≡ [] → A
not_broken x xs e = absurd (cc)

pub holds_then : (b : Bool) (q : Place) (rule : Rule) → at_if (not b) q rule ≡ [] → b ≡ true
holds_then b q rule e = not_fails b (unbroken (not b) q rule e)

pub there : {A : Type 0} (o : Option A) → is_none o ≡ false → (x : A) × (o ≡ Some x)
there None e = by_false_true (sym e)
there (Some x) e = (x, refl)

pub rule_some : (have : Bool) (whole : Option Typed) (q : Place) → no_rule have whole q ≡ [] → have ≡ true → (d : Typed) × (whole ≡ Some d)
rule_some have whole q e h = there whole (and_fails_second have (is_none whole) (unbroken (have && is_none whole) q _ e) h)

pub binary_some : (s : Scope) (op : Op) (a b whole : Option Typed) (q : Place) → binary_breaks s op a b whole q ≡ [] → is_some a ≡ true → is_some b ≡ true → (d : Typed) × (whole ≡ Some d)
binary_some s op a b whole q e h k = go (is_incomplete_sum s op a b) e
  where
    go : (x : Bool) → cond x ((q, Incomplete) ∷ []) (no_rule (is_some a && is_some b) whole q) ≡ [] → (d : Typed) × (whole ≡ Some d)
    go true e = not_broken _ [] e
    go false e = rule_some (is_some a && is_some b) whole q e (and_holds (is_some a) (is_some b) h k)

-- ---- what is written, tested and called

pub writable_is : (d : Typed) → is_writable d ≡ true → (t : Ty) × (d ≡ APlace t)
writable_is (APlace t) e = (t, refl)
writable_is (AValue t) e = by_false_true e

pub tested_type_is : (o : Option Ty) → is_tested o ≡ true → (t : Ty) × (o ≡ Some t) × (is_testable t ≡ true)
tested_type_is None e = by_false_true e
tested_type_is (Some t) e = (t, refl, e)

pub right_name : (m : Meant) (c : Callee) (q : Place) → wrong_name m c q ≡ [] → is_callee c ≡ true
right_name m (Takes ws r) q h = refl
right_name NotMeant NoCallee q h = not_broken _ _ h
right_name (ALocal k t) NoCallee q h = not_broken _ _ h
right_name (AGlobal k t) NoCallee q h = not_broken _ _ h
right_name (AFunction mode r ps) NoCallee q h = not_broken _ _ h

pub spawn_meant : (m : Meant) → is_callee (spawn_callee m) ≡ true → (r : Ty) × (ps : List Ty) × (m ≡ AFunction Cps r ps)
spawn_meant (AFunction Cps r ps) h = (r, ps, refl)
spawn_meant _ h = by_false_true h

pub section_meant : (s : Scope) (m : Meant) → is_callee (section_callee s m) ≡ true → (ps : List Ty) × (m ≡ AFunction Detached (TyInt Int) ps) × (takes_section s ps ≡ true)
section_meant s (AFunction Detached (TyInt Int) ps) h = go (takes_section s ps) refl h
  where
    go : (b : Bool) → takes_section s ps ≡ b → is_callee (cond b (Takes (map (λ t. Of t) ps) (TyInt Int)) NoCallee) ≡ true → (us : List Ty) × (AFunction Detached (TyInt Int) ps ≡ AFunction Detached (TyInt Int) us) × (takes_section s us ≡ true)
    go true e h = (ps, refl, e)
    go false e h = by_false_true h
section_meant s _ h = by_false_true h

-- ---- expressions

name_some : (around : Mode) (q : Place) (m : Meant) → name_breaks around q m ≡ [] → (d : Typed) × (type_named m ≡ Some d)
name_some around q (ALocal n t) e = (APlace t, refl)
name_some around q (AGlobal n t) e = (APlace t, refl)
name_some around q (AFunction Native r ps) e = (_, refl)
name_some around q (AFunction Detached r ps) e = (_, refl)
name_some around q (AFunction Cps r ps) e = not_broken _ _ e
name_some around q (AFunction Extern r ps) e = not_broken _ _ e
name_some around q NotMeant e = not_broken _ _ e

struct_some : (s : Scope) (tag : Text) (q : Place) (x : Ident) (whole : Option Typed) → field_breaks s (Some (TyStruct tag)) q x whole ≡ [] → (d : Typed) × (whole ≡ Some d)
struct_some s tag q x whole e = go (is_none (fields s.items tag)) e
  where
    go : (b : Bool) → cond b ((q, Incomplete) ∷ []) (at_if (is_none whole) x.place NoField) ≡ [] → (d : Typed) × (whole ≡ Some d)
    go true e = not_broken _ [] e
    go false e = there whole (unbroken (is_none whole) x.place _ e)

field_some : (s : Scope) (o : Option Ty) (q : Place) (x : Ident) (whole : Option Typed) → field_breaks s o q x whole ≡ [] → (d : Typed) × (whole ≡ Some d)
field_some s (Some (TyStruct tag)) q x whole e = struct_some s tag q x whole e
field_some s None q x whole e = not_broken _ _ e
field_some s (Some TyVoid) q x whole e = not_broken _ _ e
field_some s (Some (TyInt k)) q x whole e = not_broken _ _ e
field_some s (Some TyCondvar) q x whole e = not_broken _ _ e
field_some s (Some (TyPointer t)) q x whole e = not_broken _ _ e
field_some s (Some (TyCode r ps)) q x whole e = not_broken _ _ e
field_some s (Some (TyArray t n)) q x whole e = not_broken _ _ e

member_some : (s : Scope) (d : Typed) (o : Option Typed) (q : Place) (x : Ident) (whole : Option Typed) → o ≡ Some d → member_breaks s o q x whole ≡ [] → (e : Typed) × (whole ≡ Some e)
member_some s d None q x whole h e = no_some d h
member_some s d (Some c) q x whole h e = field_some s (typed_place c) q x whole e

arrow_some : (s : Scope) (d : Typed) (o : Option Typed) (q : Place) (x : Ident) (whole : Option Typed) → o ≡ Some d → arrow_breaks s o q x whole ≡ [] → (e : Typed) × (whole ≡ Some e)
arrow_some s d None q x whole h e = no_some d h
arrow_some s d (Some c) q x whole h e = field_some s (pointed (used c)) q x whole e

module _ (w : Where) where
  size_some : (t : Ty) → is_none (measured w.scope t) ≡ false → (n : ℕ) × (size w.scope.items t ≡ Some n)
  size_some t e = go (size w.scope.items t) refl e
    where
      go : (o : Option ℕ) → size w.scope.items t ≡ o → is_none (measured w.scope t) ≡ false → (n : ℕ) × (o ≡ Some n)
      go None f e = by_false_true (sym (let i : is_none (measured w.scope t) ≡ true = simp (f) refl in sym i ∙ e))
      go (Some n) f e = (n, refl)

  sign_of : (q : Place) (op : UnaryOp) (v : LExpr) → no_rule (is_some (typed_at w v)) (typed_at w (LUnary q op v)) q ≡ [] → (d : Typed) × (typed_at w v ≡ Some d) → (e : Typed) × (typed_at w (LUnary q op v) ≡ Some e)
  sign_of q op v h d = rule_some (is_some (typed_at w v)) (typed_at w (LUnary q op v)) q h (ap is_some d.1)

  pub typed_of : (e : LExpr) → expr_breaks w e ≡ [] → (d : Typed) × (typed_at w e ≡ Some d)
  typed_of (LNamed x) h = name_some w.mode x.place (meant w.scope x.text) h
  typed_of (LInteger q kind z) h = (_, refl)
  typed_of (LCharacter q z) h = (_, refl)
  typed_of (LText q bytes) h = not_broken _ _ h
  typed_of (LUnary q AddressOf v) h =
      let k = split (expr_breaks w v) (address_breaks (typed_at w v) (typed_at w (LUnary q AddressOf v)) (first v)) h in
      let d = typed_of v k.0 in
      there (typed_at w (LUnary q AddressOf v)) (and_fails_second (is_some (typed_at w v)) (is_none (typed_at w (LUnary q AddressOf v))) (unbroken _ (first v) _ k.1) (ap is_some d.1))
  typed_of (LUnary q Minus v) h = sign_of q Minus v (split (expr_breaks w v) _ h).1 (typed_of v (split (expr_breaks w v) _ h).0)
  typed_of (LUnary q Plus v) h = sign_of q Plus v (split (expr_breaks w v) _ h).1 (typed_of v (split (expr_breaks w v) _ h).0)
  typed_of (LUnary q Not v) h = sign_of q Not v (split (expr_breaks w v) _ h).1 (typed_of v (split (expr_breaks w v) _ h).0)
  typed_of (LUnary q Complement v) h = sign_of q Complement v (split (expr_breaks w v) _ h).1 (typed_of v (split (expr_breaks w v) _ h).0)
  typed_of (LUnary q Dereference v) h = sign_of q Dereference v (split (expr_breaks w v) _ h).1 (typed_of v (split (expr_breaks w v) _ h).0)
  typed_of (LBinary q op v u) h =
      let k = split (expr_breaks w v) _ h in
      let l = split (expr_breaks w u) _ k.1 in
      binary_some w.scope op (typed_at w v) (typed_at w u) _ q l.1 (ap is_some (typed_of v k.0).1) (ap is_some (typed_of u l.0).1)
  typed_of (LAnd q v u) h =
      let k = split (expr_breaks w v) _ h in
      let l = split (expr_breaks w u) _ k.1 in
      rule_some (is_some (typed_at w v) && is_some (typed_at w u)) _ q l.1 (and_holds _ _ (ap is_some (typed_of v k.0).1) (ap is_some (typed_of u l.0).1))
  typed_of (LOr q v u) h =
      let k = split (expr_breaks w v) _ h in
      let l = split (expr_breaks w u) _ k.1 in
      rule_some (is_some (typed_at w v) && is_some (typed_at w u)) _ q l.1 (and_holds _ _ (ap is_some (typed_of v k.0).1) (ap is_some (typed_of u l.0).1))
  typed_of (LChoose q c v u) h =
      let j = split (expr_breaks w c) _ h in
      let k = split (expr_breaks w v) _ j.1 in
      let l = split (expr_breaks w u) _ k.1 in
      rule_some (is_some (typed_at w c) && (is_some (typed_at w v) && is_some (typed_at w u))) _ q l.1
      (and_holds _ _ (ap is_some (typed_of c j.0).1) (and_holds _ _ (ap is_some (typed_of v k.0).1) (ap is_some (typed_of u l.0).1)))
  typed_of (LCast q t v) h =
      let k = split (expr_breaks w v) _ h in
      rule_some (is_some (typed_at w v)) _ q k.1 (ap is_some (typed_of v k.0).1)
  typed_of (LSizeOf q t) h =
      let n = size_some t (unbroken (is_none (measured w.scope t)) q _ h) in
      (AValue (TyInt ULong), then_of (size w.scope.items t) _ n.0 _ n.1 refl)
  typed_of (LIndex q v u) h =
      let k = split (expr_breaks w v) _ h in
      let l = split (expr_breaks w u) _ k.1 in
      binary_some w.scope Add (typed_at w v) (typed_at w u) _ q l.1 (ap is_some (typed_of v k.0).1) (ap is_some (typed_of u l.0).1)
  typed_of (LMember q v x) h =
      let k = split (expr_breaks w v) _ h in
      let d = typed_of v k.0 in
      member_some w.scope d.0 (typed_at w v) q x _ d.1 k.1
  typed_of (LArrow q v x) h =
      let k = split (expr_breaks w v) _ h in
      let d = typed_of v k.0 in
      arrow_some w.scope d.0 (typed_at w v) q x _ d.1 k.1
  typed_of (LCall q g vs) h = not_broken _ _ h
