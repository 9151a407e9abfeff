-- Names that are not reserved: two underscores stand in none, and none is one that the language keeps.
use Rattle.std.proofs.Common.{◌≡◌, ℕ, zero, suc, arith, Bool, true, false, ◌||◌, ◌==◌, List, [], ◌∷◌, ◌++◌, cond, map, slice_get, Some, refl, ◌∙◌, subst}
use Rattle.cpc_base.specs.Bytes.{Text}
use Rattle.cpc_base.specs.declared.stop.Dialect.TheVariants as D
use Rattle.cpc_base.proofs.Truth.{or_neither}
use Rattle.cpc_base.proofs.Lists.{some_is}
use Rattle.cpc_tree.specs.Located.{Ident}
use Rattle.cpc_check_rules.specs.declared.rule.Rule.TheVariants.{Reserved}
use Rattle.cpc_check_rules.specs.Rule.{at_if}
use Rattle.cpc_check_rules.specs.FunctionRules.{begins_with, holds_underscores, is_kept, is_reserved, reserved_breaks}
use Rattle.cpc_check_laws.proofs.Sound.Unbroken.{split}
use Rattle.cpc_check_laws.proofs.Run.Names.{Unreserved, rest_unreserved}
use Rattle.cpc_check_laws.proofs.Native.NativeValues.{unbroken}
use Rattle.cpc_convert_common.specs.Marks.{marks_in}
use Rattle.cpc_lifted_laws.specs.Accepted.Names.{IsPlain}

-- ---- two underscores

-- a underscore is told from either side
pub bar_turned : (c : ℕ) → (95 == c) ≡ (c == 95)
bar_turned c = grind arith

-- one more character, behind none and behind a underscore
after_none : (c : ℕ) (x : Text) (b : Bool) → (c == 95) ≡ b → marks_in false x ≡ holds_underscores x → marks_in true x ≡ (begins_with (95 ∷ []) x || holds_underscores x) → cond b (marks_in true x) (marks_in false x) ≡ holds_underscores (c ∷ x)
after_none c x true e h k = simp (bar_turned c, e) k
after_none c x false e h k = simp (bar_turned c, e) h

after_bar : (c : ℕ) (x : Text) (b : Bool) → (c == 95) ≡ b → marks_in false x ≡ holds_underscores x → cond b true (marks_in false x) ≡ (begins_with (95 ∷ []) (c ∷ x) || holds_underscores (c ∷ x))
after_bar c x true e h = simp (bar_turned c, e) refl
after_bar c x false e h = simp (bar_turned c, e) h

mutual
  -- two underscores stand in a name by either test
  pub marks_are : (x : Text) → marks_in false x ≡ holds_underscores x
  marks_are [] = refl
  marks_are (c ∷ x) = after_none c x (c == 95) refl (marks_are x) (marks_behind x)

  marks_behind : (x : Text) → marks_in true x ≡ (begins_with (95 ∷ []) x || holds_underscores x)
  marks_behind [] = refl
  marks_behind (c ∷ x) = after_bar c x (c == 95) refl (marks_are x)

-- ---- plain names

plain : (x : Text) → is_reserved D.Cpc x ≡ false → IsPlain x
plain x h = let k = or_neither (is_kept x) (holds_underscores x) h in record { unmarked = marks_are x ∙ k.1; unkept = k.0 }

abbrev pub texts : List Ident → List Text
texts xs = map (λ (x : Ident). x.text) xs

pub first_plain : (x : Ident) (xs : List Ident) → Unreserved (x ∷ xs) → IsPlain x.text
first_plain x xs h = plain x.text (unbroken (is_reserved D.Cpc x.text) x.place Reserved (split (at_if (is_reserved D.Cpc x.text) x.place Reserved) (reserved_breaks D.Cpc xs) h).0)

-- each of these names is plain
abbrev pub AllPlain : List Ident → Type 0
AllPlain xs = (k : ℕ) (x : Text) → slice_get (texts xs) k ≡ Some x → IsPlain x

pub all_plain : (xs : List Ident) → Unreserved xs → AllPlain xs
all_plain [] h k x e = absurd (cc)
all_plain (y ∷ ys) h zero x e = subst IsPlain (some_is y.text x e) (first_plain y ys h)
all_plain (y ∷ ys) h (suc k) x e = all_plain ys (rest_unreserved y ys h) k x e

-- names of two lists
pub both_plain : (xs ys : List Ident) → AllPlain xs → AllPlain ys → AllPlain (xs ++ ys)
both_plain [] ys f g k x e = g k x e
both_plain (z ∷ xs) ys f g zero x e = f zero x e
both_plain (z ∷ xs) ys f g (suc k) x e = both_plain xs ys (λ k x e. f (suc k) x e) g k x e
