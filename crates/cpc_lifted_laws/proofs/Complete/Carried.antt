-- An expression that breaks no rule breaks none as its image.
use Rattle.std.proofs.Common.{◌≡◌, ◌&&◌, not, ℕ, Bool, true, false, cond, [], ◌∷◌, Option, Some, None, refl, sym, ◌∙◌, ap, subst}
use Rattle.std.specs.Prelude.{is_some}
use Rattle.std.specs.Option.{is_none}
use Rattle.cpc_base.specs.Bytes.{Text}
use Rattle.cpc_base.specs.declared.stop.Place.{Place}
use Rattle.cpc_base.proofs.Truth.{by_false_true, and_with_false}
use Rattle.cpc_num.specs.declared.kinds.Op.{Op}
use Rattle.cpc_num.specs.declared.kinds.Op.TheVariants.{Add, Sub}
use Rattle.cpc_tree.specs.declared.program.Mode.{Mode}
use Rattle.cpc_tree.specs.declared.program.Mode.TheVariants.{Extern, Native, Cps, Detached}
use Rattle.cpc_tree.specs.declared.program.UnaryOp.TheVariants.{Minus, Plus, Not, Complement, Dereference, AddressOf}
use Rattle.cpc_tree.specs.Syntax.{Ty, TyVoid, TyInt, TyCondvar, TyPointer, TyCode, TyStruct, TyArray, Expr, ENamed, EInteger, ECharacter, EText, EUnary, EBinary, EAnd, EOr, EChoose, ECast, ESizeOf, EIndex, EMember, EArrow, ECall}
use Rattle.cpc_tree.specs.Located.{Ident}
use Rattle.cpc_tree.specs.Typing.{Meant, Typed, APlace, used, size, field, fields, field_type, target, same_type, typed_place, ◌>>=◌}
use Rattle.cpc_tree.proofs.Options.{then_some}
use Rattle.cpc_check_rules.specs.declared.rule.Rule.TheVariants.{Incomplete, NoField, NotClosed, NoPlace, Disagree}
use Rattle.cpc_check_rules.specs.Rule.{at_if}
use Rattle.cpc_check_rules.specs.Scopes.{Scope, meant, measured}
use Rattle.cpc_check_rules.specs.Operators.{Where, typed_at, first, is_detached, open_name, name_breaks, no_rule, is_unmeasured, used_of, moves_unmeasured, between_unmeasured, binary_breaks, is_incomplete_sum, address_breaks, field_breaks, member_breaks, arrow_breaks, pointed}
use Rattle.cpc_check_rules.specs.ExprRules.{expr_breaks}
use Rattle.cpc_check_laws.proofs.Native.NativeValues.{both_none, unbroken}
use Rattle.cpc_check_laws.proofs.Native.OnePlace.{here, ident_here, expr_here}
use Rattle.cpc_check_laws.proofs.Sound.Answers.{no_some}
use Rattle.cpc_check_laws.proofs.Sound.Unbroken.{split, not_broken, typed_of}
use Rattle.cpc_convert_image_laws.specs.Images.{Reading, Readings, image_named, image}
use Rattle.cpc_lifted_laws.specs.Complete.Reads.{Reads, ReadsLocal, ReadsField, StaysLocal, StaysGlobal, StaysFunction, IsCps, StaysNothing, Carries}
use Rattle.cpc_lifted_laws.proofs.Complete.Typing.{sizes, here_image}

-- ---- what breaks no rule, of parts and a whole that have types

pub rule_none : (have : Bool) (whole : Option Typed) (d : Typed) (q : Place) → whole ≡ Some d → no_rule have whole q ≡ []
rule_none have whole d q e = ap (λ o. at_if (have && is_none o) q Disagree) e ∙ ap (λ b. at_if b q Disagree) (and_with_false have)

pub address_none : (operand whole : Option Typed) (d : Typed) (q : Place) → whole ≡ Some d → address_breaks operand whole q ≡ []
address_none operand whole d q e = ap (λ o. at_if (is_some operand && is_none o) q NoPlace) e ∙ ap (λ b. at_if b q NoPlace) (and_with_false (is_some operand))

pub binary_none : (s : Scope) (op : Op) (a b whole : Option Typed) (d : Typed) (q : Place) → is_incomplete_sum s op a b ≡ false → whole ≡ Some d → binary_breaks s op a b whole q ≡ []
binary_none s op a b whole d q e h = ap (λ c. cond c ((q, Incomplete) ∷ []) (no_rule (is_some a && is_some b) whole q)) e ∙ rule_none (is_some a && is_some b) whole d q h

-- a field that has a type is one of a struct that is complete
field_none : (s : Scope) (o : Option Ty) (q : Place) (x : Ident) (whole : Option Typed) (d : Typed) → field_type s.items o x.text ≡ Some d → whole ≡ Some d → field_breaks s o q x whole ≡ []
field_none s (Some (TyStruct tag)) q x whole d h e =
    let k = then_some (field s.items tag x.text) _ d h in
    let l = then_some (fields s.items tag) _ k.0 k.1 in
    ap (λ o. cond (is_none o) ((q, Incomplete) ∷ []) (at_if (is_none whole) x.place NoField)) l.1 ∙ ap (λ o. at_if (is_none o) x.place NoField) e
field_none s None q x whole d h e = no_some d h
field_none s (Some TyVoid) q x whole d h e = no_some d h
field_none s (Some (TyInt k)) q x whole d h e = no_some d h
field_none s (Some TyCondvar) q x whole d h e = no_some d h
field_none s (Some (TyPointer t)) q x whole d h e = no_some d h
field_none s (Some (TyCode u ts)) q x whole d h e = no_some d h
field_none s (Some (TyArray t n)) q x whole d h e = no_some d h

pub member_none : (s : Scope) (o : Option Typed) (q : Place) (x : Ident) (whole : Option Typed) (d : Typed) → (o >>= λ k. field_type s.items (typed_place k) x.text) ≡ Some d → whole ≡ Some d → member_breaks s o q x whole ≡ []
member_none s None q x whole d h e = no_some d h
member_none s (Some k) q x whole d h e = field_none s (typed_place k) q x whole d h e

pointed_is : (s : Scope) (o : Option Ty) (x : Text) (d : Typed) → (o >>= λ t. field_type s.items (target t) x) ≡ Some d → field_type s.items (pointed o) x ≡ Some d
pointed_is s None x d h = no_some d h
pointed_is s (Some (TyPointer t)) x d h = h
pointed_is s (Some TyVoid) x d h = h
pointed_is s (Some (TyInt k)) x d h = h
pointed_is s (Some TyCondvar) x d h = h
pointed_is s (Some (TyCode u ts)) x d h = h
pointed_is s (Some (TyStruct tag)) x d h = h
pointed_is s (Some (TyArray t n)) x d h = h

pub arrow_none : (s : Scope) (o : Option Typed) (q : Place) (x : Ident) (whole : Option Typed) (d : Typed) → (o >>= λ k. used k >>= λ t. field_type s.items (target t) x.text) ≡ Some d → whole ≡ Some d → arrow_breaks s o q x whole ≡ []
arrow_none s None q x whole d h e = no_some d h
arrow_none s (Some k) q x whole d h e = field_none s (pointed (used k)) q x whole d (pointed_is s (used k) x.text d h) e

-- a sum that breaks no rule is of what is measured
pub not_incomplete : (s : Scope) (op : Op) (a b whole : Option Typed) (q : Place) → binary_breaks s op a b whole q ≡ [] → is_incomplete_sum s op a b ≡ false
not_incomplete s op a b whole q h = go (is_incomplete_sum s op a b) h
  where
    go : (c : Bool) → cond c ((q, Incomplete) ∷ []) (no_rule (is_some a && is_some b) whole q) ≡ [] → c ≡ false
    go true h = not_broken _ _ h
    go false h = refl

-- ---- at another place

module _ (w v : Where) (r : Readings) (c : Carries w v r) where
  -- what is measured is measured there
  pub measured_there : (t : Ty) (n : ℕ) → measured w.scope t ≡ Some n → measured v.scope t ≡ Some n
  measured_there t n h = go (size w.scope.items t) refl h
    where
      go : (o : Option ℕ) → size w.scope.items t ≡ o → measured w.scope t ≡ Some n → measured v.scope t ≡ Some n
      go None e h = no_some n (let i : measured w.scope t ≡ None = simp (e) refl in sym i ∙ h)
      go (Some k) e h =
          let i : measured w.scope t ≡ measured v.scope t = simp (e, sizes w v r c t k e) refl in
          sym i ∙ h

  none_there : (t : Ty) → is_none (measured w.scope t) ≡ false → is_none (measured v.scope t) ≡ false
  none_there t h = go (measured w.scope t) refl h
    where
      go : (o : Option ℕ) → measured w.scope t ≡ o → is_none o ≡ false → is_none (measured v.scope t) ≡ false
      go None e h = by_false_true (sym h)
      go (Some n) e h = ap is_none (measured_there t n e)

  unmeasured_there : (o : Option Ty) → is_unmeasured w.scope o ≡ false → is_unmeasured v.scope o ≡ false
  unmeasured_there (Some (TyPointer t)) h = none_there t h
  unmeasured_there None h = refl
  unmeasured_there (Some TyVoid) h = refl
  unmeasured_there (Some (TyInt k)) h = refl
  unmeasured_there (Some TyCondvar) h = refl
  unmeasured_there (Some (TyCode u ts)) h = refl
  unmeasured_there (Some (TyStruct tag)) h = refl
  unmeasured_there (Some (TyArray t n)) h = refl

  moves_there : (a b : Option Ty) → moves_unmeasured w.scope a b ≡ false → moves_unmeasured v.scope a b ≡ false
  moves_there a (Some (TyInt k)) h = unmeasured_there a h
  moves_there (Some (TyInt k)) None h = refl
  moves_there (Some (TyInt k)) (Some TyVoid) h = refl
  moves_there (Some (TyInt k)) (Some TyCondvar) h = refl
  moves_there (Some (TyInt k)) (Some (TyPointer t)) h = none_there t h
  moves_there (Some (TyInt k)) (Some (TyCode u ts)) h = refl
  moves_there (Some (TyInt k)) (Some (TyStruct tag)) h = refl
  moves_there (Some (TyInt k)) (Some (TyArray t n)) h = refl
  moves_there None _ h = refl
  moves_there (Some TyVoid) _ h = refl
  moves_there (Some TyCondvar) _ h = refl
  moves_there (Some (TyPointer t)) _ h = refl
  moves_there (Some (TyCode u ts)) _ h = refl
  moves_there (Some (TyStruct tag)) _ h = refl
  moves_there (Some (TyArray t n)) _ h = refl

  both_there : (a b d : Bool) → (a && b) ≡ false → (b ≡ false → d ≡ false) → (a && d) ≡ false
  both_there true b d h f = f h
  both_there false b d h f = refl

  between_there : (a b : Option Ty) → between_unmeasured w.scope a b ≡ false → between_unmeasured v.scope a b ≡ false
  between_there (Some (TyPointer t)) (Some (TyPointer u)) h = both_there (same_type t u) _ _ h (none_there t)
  between_there a (Some (TyInt k)) h = unmeasured_there a h
  between_there None _ h = refl
  between_there (Some TyVoid) _ h = refl
  between_there (Some (TyInt k)) _ h = refl
  between_there (Some TyCondvar) _ h = refl
  between_there (Some (TyCode s ts)) _ h = refl
  between_there (Some (TyStruct tag)) _ h = refl
  between_there (Some (TyArray t n)) _ h = refl
  between_there (Some (TyPointer t)) _ h = refl

  pub sum_there : (op : Op) (a b : Option Typed) → is_incomplete_sum w.scope op a b ≡ false → is_incomplete_sum v.scope op a b ≡ false
  sum_there Add a b h = moves_there (used_of a) (used_of b) h
  sum_there Sub a b h = between_there (used_of a) (used_of b) h
  sum_there op a b h = refl

  -- ---- names

  open_there : (m : Mode) → open_name w.mode here m ≡ [] → open_name v.mode here m ≡ []
  open_there m h = ap (λ b. at_if (b && not (is_detached m)) here NotClosed) c.closed ∙ h

  named_there : (x : Text) (o : Option Reading) (m : Meant) → Reads v.scope x o m → name_breaks w.mode here m ≡ [] → expr_breaks v (expr_here (image_named o x)) ≡ []
  named_there x _ _ (ReadsLocal y j k t e) h = ap (name_breaks v.mode here) e
  named_there x _ _ (ReadsField y f tag j k n t e g) h =
      let whole : typed_at v (expr_here (EArrow (ENamed y) f)) ≡ Some (APlace t) = simp (e, g) refl in
      both_none _ _ (ap (name_breaks v.mode here) e) (arrow_none v.scope (typed_at v (expr_here (ENamed y))) here (ident_here f) _ (APlace t) whole whole)
  named_there x _ _ (StaysLocal j k t e) h = ap (name_breaks v.mode here) e
  named_there x _ _ (StaysGlobal j k t e) h = ap (name_breaks v.mode here) e ∙ ap (λ b. at_if b here NotClosed) c.closed ∙ h
  named_there x _ _ (StaysFunction Native u ts e) h = ap (name_breaks v.mode here) e ∙ open_there Native h
  named_there x _ _ (StaysFunction Detached u ts e) h = ap (name_breaks v.mode here) e
  named_there x _ _ (StaysFunction Cps u ts e) h = not_broken _ _ h
  named_there x _ _ (StaysFunction Extern u ts e) h = not_broken _ _ h
  named_there x _ _ (IsCps o u ts) h = not_broken _ _ h
  named_there x _ _ (StaysNothing e) h = not_broken _ _ h

  -- ---- expressions

  -- the type of an operand, here and there
  pub both_typed : (e : Expr) → expr_breaks w (expr_here e) ≡ [] → (d : Typed) × (typed_at w (expr_here e) ≡ Some d) × (typed_at v (expr_here (image r e)) ≡ Some d)
  both_typed e h = let d = typed_of w (expr_here e) h in (d.0, d.1, here_image w v r c e d.0 d.1)

  pub binary_there : (op : Op) (a b : Expr) (whole there : Option Typed) (d : Typed) → expr_breaks w (expr_here a) ≡ [] → expr_breaks w (expr_here b) ≡ []
      → binary_breaks w.scope op (typed_at w (expr_here a)) (typed_at w (expr_here b)) whole here ≡ [] → there ≡ Some d
      → binary_breaks v.scope op (typed_at v (expr_here (image r a))) (typed_at v (expr_here (image r b))) there here ≡ []
  binary_there op a b whole there d ha hb h e =
      let da = both_typed a ha in
      let db = both_typed b hb in
      let i = not_incomplete w.scope op (typed_at w (expr_here a)) (typed_at w (expr_here b)) whole here h in
      let j : is_incomplete_sum w.scope op (Some da.0) (Some db.0) ≡ false = subst (λ o. is_incomplete_sum w.scope op o (Some db.0) ≡ false) da.1 (subst (λ o. is_incomplete_sum w.scope op (typed_at w (expr_here a)) o ≡ false) db.1 i) in
      let k = sum_there op (Some da.0) (Some db.0) j in
      binary_none v.scope op _ _ there d here
      (subst (λ o. is_incomplete_sum v.scope op o (typed_at v (expr_here (image r b))) ≡ false) (sym da.2) (subst (λ o. is_incomplete_sum v.scope op (Some da.0) o ≡ false) (sym db.2) k)) e

  -- an image breaks no rule
  pub expr_carried : (e : Expr) → expr_breaks w (expr_here e) ≡ [] → expr_breaks v (expr_here (image r e)) ≡ []
  expr_carried (ENamed x) h = named_there x (r x) (meant w.scope x) (c.names x) h
  expr_carried (EInteger kind z) h = refl
  expr_carried (ECharacter z) h = refl
  expr_carried (EText bytes) h = not_broken _ _ h
  expr_carried (EUnary AddressOf e) h =
      let k = split (expr_breaks w (expr_here e)) _ h in
      let d = both_typed (EUnary AddressOf e) h in
      both_none _ _ (expr_carried e k.0) (address_none _ _ d.0 (first (expr_here (image r e))) d.2)
  expr_carried (EUnary Minus e) h = let k = split (expr_breaks w (expr_here e)) _ h in let d = both_typed (EUnary Minus e) h in both_none _ _ (expr_carried e k.0) (rule_none _ _ d.0 here d.2)
  expr_carried (EUnary Plus e) h = let k = split (expr_breaks w (expr_here e)) _ h in let d = both_typed (EUnary Plus e) h in both_none _ _ (expr_carried e k.0) (rule_none _ _ d.0 here d.2)
  expr_carried (EUnary Not e) h = let k = split (expr_breaks w (expr_here e)) _ h in let d = both_typed (EUnary Not e) h in both_none _ _ (expr_carried e k.0) (rule_none _ _ d.0 here d.2)
  expr_carried (EUnary Complement e) h = let k = split (expr_breaks w (expr_here e)) _ h in let d = both_typed (EUnary Complement e) h in both_none _ _ (expr_carried e k.0) (rule_none _ _ d.0 here d.2)
  expr_carried (EUnary Dereference e) h = let k = split (expr_breaks w (expr_here e)) _ h in let d = both_typed (EUnary Dereference e) h in both_none _ _ (expr_carried e k.0) (rule_none _ _ d.0 here d.2)
  expr_carried (EBinary op a b) h =
      let k = split (expr_breaks w (expr_here a)) _ h in
      let l = split (expr_breaks w (expr_here b)) _ k.1 in
      let d = both_typed (EBinary op a b) h in
      both_none _ _ (expr_carried a k.0) (both_none _ _ (expr_carried b l.0) (binary_there op a b _ _ d.0 k.0 l.0 l.1 d.2))
  expr_carried (EAnd a b) h =
      let k = split (expr_breaks w (expr_here a)) _ h in
      let l = split (expr_breaks w (expr_here b)) _ k.1 in
      let d = both_typed (EAnd a b) h in
      both_none _ _ (expr_carried a k.0) (both_none _ _ (expr_carried b l.0) (rule_none _ _ d.0 here d.2))
  expr_carried (EOr a b) h =
      let k = split (expr_breaks w (expr_here a)) _ h in
      let l = split (expr_breaks w (expr_here b)) _ k.1 in
      let d = both_typed (EOr a b) h in
      both_none _ _ (expr_carried a k.0) (both_none _ _ (expr_carried b l.0) (rule_none _ _ d.0 here d.2))
  expr_carried (EChoose t a b) h =
      let j = split (expr_breaks w (expr_here t)) _ h in
      let k = split (expr_breaks w (expr_here a)) _ j.1 in
      let l = split (expr_breaks w (expr_here b)) _ k.1 in
      let d = both_typed (EChoose t a b) h in
      both_none _ _ (expr_carried t j.0) (both_none _ _ (expr_carried a k.0) (both_none _ _ (expr_carried b l.0) (rule_none _ _ d.0 here d.2)))
  expr_carried (ECast t e) h =
      let k = split (expr_breaks w (expr_here e)) _ h in
      let d = both_typed (ECast t e) h in
      both_none _ _ (expr_carried e k.0) (rule_none _ _ d.0 here d.2)
  expr_carried (ESizeOf t) h = ap (λ b. at_if b here Incomplete) (none_there t (unbroken (is_none (measured w.scope t)) here Incomplete h))
  expr_carried (EIndex a b) h =
      let k = split (expr_breaks w (expr_here a)) _ h in
      let l = split (expr_breaks w (expr_here b)) _ k.1 in
      let d = both_typed (EIndex a b) h in
      both_none _ _ (expr_carried a k.0) (both_none _ _ (expr_carried b l.0) (binary_there Add a b _ _ d.0 k.0 l.0 l.1 d.2))
  expr_carried (EMember e x) h =
      let k = split (expr_breaks w (expr_here e)) _ h in
      let d = both_typed (EMember e x) h in
      both_none _ _ (expr_carried e k.0) (member_none v.scope (typed_at v (expr_here (image r e))) here (ident_here x) _ d.0 d.2 d.2)
  expr_carried (EArrow e x) h =
      let k = split (expr_breaks w (expr_here e)) _ h in
      let d = both_typed (EArrow e x) h in
      both_none _ _ (expr_carried e k.0) (arrow_none v.scope (typed_at v (expr_here (image r e))) here (ident_here x) _ d.0 d.2 d.2)
  expr_carried (ECall f es) h = not_broken _ _ h
