-- What native code breaks in the dialect Event it breaks in the dialect Cpc: expressions and calls.
use Rattle.std.proofs.Common.{◌≡◌, Bool, true, false, ◌&&◌, not, [], ◌∷◌, ◌++◌, Option, Some, None, refl}
use Rattle.cpc_base.specs.declared.stop.Place.{Place}
use Rattle.cpc_base.specs.declared.stop.Dialect.TheVariants as D
use Rattle.cpc_tree.specs.declared.program.Mode.{Mode}
use Rattle.cpc_tree.specs.declared.program.UnaryOp.TheVariants as U
use Rattle.cpc_tree.specs.Syntax.{Ty}
use Rattle.cpc_tree.specs.Typing.{Meant, ALocal, AGlobal, AFunction, NotMeant}
use Rattle.cpc_tree.specs.Primitives.{Primitive, primitive_named}
use Rattle.cpc_tree.specs.Located.{LExpr, LNamed, LInteger, LCharacter, LText, LUnary, LBinary, LAnd, LOr, LChoose, LCast, LSizeOf, LIndex, LMember, LArrow, LCall}
use Rattle.cpc_check_rules.specs.Rule.{Broken, at_if}
use Rattle.cpc_check_rules.specs.declared.rule.Rule.{Rule}
use Rattle.cpc_check_rules.specs.declared.rule.Rule.TheVariants.{CpsInNative, NotClosed, RtCall, CpsForm}
use Rattle.cpc_check_rules.specs.Scopes.{Scope, meant}
use Rattle.cpc_check_rules.specs.Operators.{Where, is_cps, is_detached}
use Rattle.cpc_check_rules.specs.Calls.{gives_up, is_rt, is_closed, primitive_breaks, unmeant_breaks, named_breaks, pointer_breaks}
use Rattle.cpc_check_rules.specs.ExprRules.{expr_breaks, called_breaks}

-- ---- rows of broken rules that are empty

pub left_none : (a b : Broken) → a ++ b ≡ [] → a ≡ []
left_none [] b e = refl
left_none (x ∷ a) b e = absurd cc

pub right_none : (a b : Broken) → a ++ b ≡ [] → b ≡ []
right_none [] b e = e
right_none (x ∷ a) b e = absurd cc

pub both_none : (a b : Broken) → a ≡ [] → b ≡ [] → a ++ b ≡ []
both_none a b e f = rw e f

-- a rule that is not broken
pub unbroken : (b : Bool) (q : Place) (rule : Rule) → at_if b q rule ≡ [] → b ≡ false
unbroken true q rule e = absurd cc
unbroken false q rule e = refl

-- ---- places in the two dialects

abbrev pub cpc : Scope → Mode → Ty → Where
cpc s m r = record { scope = s; mode = m; result = r; dialect = D.Cpc }

abbrev pub event : Scope → Mode → Ty → Where
event s m r = record { scope = s; mode = m; result = r; dialect = D.Event }

-- a primitive: where native code may call it, it does not give up the processor
primitive_row : (g c d t : Bool) (q : Place) → c ≡ false
    → at_if (g && not c) q CpsInNative ++ (at_if d q NotClosed ++ (at_if (t && not false) q RtCall ++ at_if (g && false) q CpsForm)) ≡ []
    → at_if (g && not c) q CpsInNative ++ (at_if d q NotClosed ++ (at_if (t && not true) q RtCall ++ at_if (g && true) q CpsForm)) ≡ []
primitive_row g true d t q c e = absurd cc
primitive_row true false d t q c e = absurd cc
primitive_row false false true t q c e = absurd cc
primitive_row false false false true q c e = absurd cc
primitive_row false false false false q c e = refl

module _ (s : Scope) (m : Mode) (r : Ty) (native : is_cps m ≡ false) where
  primitive_native : (q : Place) (p : Primitive) → primitive_breaks (cpc s m r) q p ≡ [] → primitive_breaks (event s m r) q p ≡ []
  primitive_native q p e = primitive_row (gives_up p) (is_cps m) (is_detached m && not (is_closed p)) (is_rt p) q native e

  unmeant_native : (q : Place) (o : Option Primitive) → unmeant_breaks (cpc s m r) q o ≡ [] → unmeant_breaks (event s m r) q o ≡ []
  unmeant_native q None e = e
  unmeant_native q (Some p) e = primitive_native q p e

  -- a call by a pointer, whose parts break nothing in either dialect
  pointer_native : (f : LExpr) (a b : Broken) → (a ≡ [] → b ≡ []) → pointer_breaks (cpc s m r) f a ≡ [] → pointer_breaks (event s m r) f b ≡ []
  pointer_native f a b h e = both_none b _ (h (left_none a _ e)) (right_none a _ e)

  named_native : (f : LExpr) (q : Place) (a b : Broken) → (a ≡ [] → b ≡ []) → (k : Meant) (o : Option Primitive)
      → named_breaks (cpc s m r) f q a k o ≡ [] → named_breaks (event s m r) f q b k o ≡ []
  named_native f q a b h (AFunction mode t ps) o e = e
  named_native f q a b h NotMeant o e = unmeant_native q o e
  named_native f q a b h (ALocal n t) o e = pointer_native f a b h e
  named_native f q a b h (AGlobal n t) o e = pointer_native f a b h e

  pub called_native : (f : LExpr) (a b : Broken) → (a ≡ [] → b ≡ []) → called_breaks (cpc s m r) f a ≡ [] → called_breaks (event s m r) f b ≡ []
  called_native (LNamed x) a b h e = named_native (LNamed x) x.place a b h (meant s x.text) (primitive_named x.text) e
  called_native (LInteger q kind z) a b h e = pointer_native (LInteger q kind z) a b h e
  called_native (LCharacter q z) a b h e = pointer_native (LCharacter q z) a b h e
  called_native (LText q bytes) a b h e = pointer_native (LText q bytes) a b h e
  called_native (LUnary q op v) a b h e = pointer_native (LUnary q op v) a b h e
  called_native (LBinary q op v u) a b h e = pointer_native (LBinary q op v u) a b h e
  called_native (LAnd q v u) a b h e = pointer_native (LAnd q v u) a b h e
  called_native (LOr q v u) a b h e = pointer_native (LOr q v u) a b h e
  called_native (LChoose q c v u) a b h e = pointer_native (LChoose q c v u) a b h e
  called_native (LCast q t v) a b h e = pointer_native (LCast q t v) a b h e
  called_native (LSizeOf q t) a b h e = pointer_native (LSizeOf q t) a b h e
  called_native (LIndex q v u) a b h e = pointer_native (LIndex q v u) a b h e
  called_native (LMember q v x) a b h e = pointer_native (LMember q v x) a b h e
  called_native (LArrow q v x) a b h e = pointer_native (LArrow q v x) a b h e
  called_native (LCall q f vs) a b h e = pointer_native (LCall q f vs) a b h e

  -- an expression, which has no call inside
  pub expr_native : (e : LExpr) → expr_breaks (cpc s m r) e ≡ [] → expr_breaks (event s m r) e ≡ []
  expr_native (LNamed x) h = h
  expr_native (LInteger q kind z) h = h
  expr_native (LCharacter q z) h = h
  expr_native (LText q bytes) h = h
  expr_native (LUnary q U.AddressOf v) h = both_none _ _ (expr_native v (left_none _ _ h)) (right_none _ _ h)
  expr_native (LUnary q U.Minus v) h = both_none _ _ (expr_native v (left_none _ _ h)) (right_none _ _ h)
  expr_native (LUnary q U.Plus v) h = both_none _ _ (expr_native v (left_none _ _ h)) (right_none _ _ h)
  expr_native (LUnary q U.Not v) h = both_none _ _ (expr_native v (left_none _ _ h)) (right_none _ _ h)
  expr_native (LUnary q U.Complement v) h = both_none _ _ (expr_native v (left_none _ _ h)) (right_none _ _ h)
  expr_native (LUnary q U.Dereference v) h = both_none _ _ (expr_native v (left_none _ _ h)) (right_none _ _ h)
  expr_native (LBinary q op v u) h = let g = right_none (expr_breaks (cpc s m r) v) _ h in
      both_none _ _ (expr_native v (left_none _ _ h)) (both_none _ _ (expr_native u (left_none _ _ g)) (right_none (expr_breaks (cpc s m r) u) _ g))
  expr_native (LAnd q v u) h = let g = right_none (expr_breaks (cpc s m r) v) _ h in
      both_none _ _ (expr_native v (left_none _ _ h)) (both_none _ _ (expr_native u (left_none _ _ g)) (right_none (expr_breaks (cpc s m r) u) _ g))
  expr_native (LOr q v u) h = let g = right_none (expr_breaks (cpc s m r) v) _ h in
      both_none _ _ (expr_native v (left_none _ _ h)) (both_none _ _ (expr_native u (left_none _ _ g)) (right_none (expr_breaks (cpc s m r) u) _ g))
  expr_native (LChoose q c v u) h =
      let g = right_none (expr_breaks (cpc s m r) c) _ h in
      let k = right_none (expr_breaks (cpc s m r) v) _ g in
      both_none _ _ (expr_native c (left_none _ _ h)) (both_none _ _ (expr_native v (left_none _ _ g)) (both_none _ _ (expr_native u (left_none _ _ k)) (right_none (expr_breaks (cpc s m r) u) _ k)))
  expr_native (LCast q t v) h = both_none _ _ (expr_native v (left_none _ _ h)) (right_none (expr_breaks (cpc s m r) v) _ h)
  expr_native (LSizeOf q t) h = h
  expr_native (LIndex q v u) h = let g = right_none (expr_breaks (cpc s m r) v) _ h in
      both_none _ _ (expr_native v (left_none _ _ h)) (both_none _ _ (expr_native u (left_none _ _ g)) (right_none (expr_breaks (cpc s m r) u) _ g))
  expr_native (LMember q v x) h = both_none _ _ (expr_native v (left_none _ _ h)) (right_none (expr_breaks (cpc s m r) v) _ h)
  expr_native (LArrow q v x) h = both_none _ _ (expr_native v (left_none _ _ h)) (right_none (expr_breaks (cpc s m r) v) _ h)
  expr_native (LCall q f vs) h = absurd cc
