-- The types of expressions and of their images.
use Rattle.std.proofs.Common.{◌≡◌, ℕ, Bool, false, List, Option, Some, None, refl, sym, subst}
use Rattle.cpc_base.specs.Bytes.{Text}
use Rattle.cpc_num.specs.declared.kinds.Op.{Op}
use Rattle.cpc_num.specs.declared.kinds.Op.TheVariants.{Add, Sub}
use Rattle.cpc_tree.specs.declared.program.UnaryOp.{UnaryOp}
use Rattle.cpc_tree.specs.declared.program.UnaryOp.TheVariants.{Minus, Plus, Not, Complement, Dereference, AddressOf}
use Rattle.cpc_tree.specs.Syntax.{Ty, TyInt, TyPointer, Expr, ENamed, EInteger, ECharacter, EText, EUnary, EBinary, EAnd, EOr, EChoose, ECast, ESizeOf, EIndex, EMember, EArrow, ECall, Program}
use Rattle.cpc_tree.specs.Typing.{◌>>=◌, Scope, Meant, AFunction, Typed, AValue, APlace, named, used, typed_place, field_type, size, typing, type_named, struct_tag, sign_type, tested_type, test_type, address_type, pointer_type, binary_type, sum_type, difference_type, choice_type, cast_type, movable, same_type, target, is_null}
use Rattle.cpc_meaning.specs.Eval.{Slot}
use Rattle.cpc_meaning.specs.Names.{AllNames}
use Rattle.cpc_convert_image_laws.specs.Images.{Reading, AsLocal, AsField, Readings, image_named, image}
use Rattle.cpc_convert_image_laws.specs.Relations.{Less, AsIs, Untold, Extends, Means, InLocal, InBox, StaysRegister, StaysBox, StaysNowhere, StaysGlobal, StaysFunction, IsCps, StaysNothing}
use Rattle.cpc_convert_image_laws.proofs.Options.{less_then, less_if, less_if_both}

-- the type that is tested, and that of an operator on one operand
tested_less : (a b : Option Typed) → Less a b → Less (tested_type a) (tested_type b)
tested_less _ _ (AsIs o) = AsIs (tested_type o)
tested_less _ _ (Untold o) = Untold (tested_type o)

sign_less : (sign : UnaryOp) (a b : Option Typed) → Less a b → Less (sign_type sign a) (sign_type sign b)
sign_less sign _ _ (AsIs o) = AsIs (sign_type sign o)
sign_less sign _ _ (Untold o) = Untold (sign_type sign o)

-- a value of the type that is used
used_then : {B : Type 0} (a b : Option Typed) (f g : Ty → Option B) → Less a b → ((t : Ty) → Less (f t) (g t)) → Less (a >>= λ d. used d >>= f) (b >>= λ d. used d >>= g)
used_then a b f g h i = less_then a b _ _ h λ d. less_then (used d) (used d) f g (AsIs (used d)) i

-- ---- two programs

module _ (p q : Program) (h : Extends p q) where
  pub size_less : (t : Ty) → Less (size p t) (size q t)
  size_less t = less_then _ _ _ _ (h.cells t) λ xs. AsIs _

  movable_less : (t : Ty) → Less (movable p t) (movable q t)
  movable_less t = less_if (size p t) (size q t) (TyPointer t) (size_less t)

  sum_less : (t u : Ty) → Less (sum_type p t u) (sum_type q t u)
  sum_less (TyPointer t) (TyInt k) = movable_less t
  sum_less (TyInt j) (TyPointer t) = movable_less t
  sum_less t u = AsIs _

  difference_less : (t u : Ty) → Less (difference_type p t u) (difference_type q t u)
  difference_less (TyPointer t) (TyInt k) = movable_less t
  difference_less (TyPointer t) (TyPointer u) = less_if_both (same_type t u) (size p t) (size q t) _ (size_less t)
  difference_less t u = AsIs _

  binary_less : (op : Op) (m n : Bool) (t u : Ty) → Less (binary_type p op m n t u) (binary_type q op m n t u)
  binary_less Add m n t u = sum_less t u
  binary_less Sub m n t u = difference_less t u
  binary_less op m n t u = AsIs _

  field_less : (o : Option Ty) (x : Text) → Less (field_type p o x) (field_type q o x)
  field_less None x = AsIs None
  field_less (Some t) x = less_then _ _ _ _ (AsIs (struct_tag t)) λ tag. less_then _ _ _ _ (h.fields tag x) λ f. AsIs _

  member_less : (a b : Option Typed) (x : Text) → Less a b → Less (a >>= λ d. field_type p (typed_place d) x) (b >>= λ d. field_type q (typed_place d) x)
  member_less a b x h = less_then a b _ _ h λ d. field_less (typed_place d) x

-- ---- expressions

-- an image is the literal 0 where the expression is
pub null_named : (o : Option Reading) (x : Text) → is_null (image_named o x) ≡ false
null_named None x = refl
null_named (Some (AsLocal y)) x = refl
null_named (Some (AsField y f)) x = refl

pub same_null : (r : Readings) (e : Expr) → is_null (image r e) ≡ is_null e
same_null r (ENamed x) = null_named (r x) x
same_null r (EUnary sign e) = refl
same_null r _ = refl

-- an address is no place
pub no_place : (p : Program) (scope : Scope) (e : Expr) → sign_type AddressOf (typing p scope (EUnary AddressOf e)) ≡ None
no_place p scope (ENamed x) = named_no_place (type_named (named p scope x))
  where
    named_no_place : (o : Option Typed) → sign_type AddressOf (o >>= λ d. Some (address_type d)) ≡ None
    named_no_place None = refl
    named_no_place (Some (AValue t)) = refl
    named_no_place (Some (APlace t)) = refl
no_place p scope e = address_no_place (typing p scope e)
  where
    address_no_place : (o : Option Typed) → sign_type AddressOf (sign_type AddressOf o) ≡ None
    address_no_place None = refl
    address_no_place (Some (AValue t)) = refl
    address_no_place (Some (APlace t)) = refl

module _ (C : Text → Type 0) (P : ℕ → Ty → ℕ → Type 0) (p q : Program) (types : Extends p q) (L : Text → Type 0) (r : Readings) (scope scope' : Scope) (slots slots' : List Slot) (names : (x : Text) → L x → Means C P q scope' slots slots' x (r x) (named p scope x)) where
  -- the type of a name, and of its address
  named_typed : (x : Text) (o : Option Reading) (m : Meant) → Means C P q scope' slots slots' x o m → Less (type_named m) (typing q scope' (image_named o x))
  named_typed x _ _ (InLocal y k k' t v i e n f) = rw n (AsIs (Some (APlace t)))
  named_typed x _ _ (InBox y f tag k k' t b i e n g h) = simp (n, g) (AsIs (Some (APlace t)))
  named_typed x _ _ (StaysRegister k k' t v i e n f) = rw n (AsIs (Some (APlace t)))
  named_typed x _ _ (StaysBox k k' t b i e n f) = rw n (AsIs (Some (APlace t)))
  named_typed x _ _ (StaysNowhere k k' t e n) = rw n (AsIs (Some (APlace t)))
  named_typed x _ _ (StaysGlobal b t n) = rw n (AsIs (Some (APlace t)))
  named_typed x _ _ (StaysFunction mode t ts n i) = rw n (AsIs (type_named (AFunction mode t ts)))
  named_typed x _ _ (IsCps t ts) = Untold (typing q scope' (ENamed x))
  named_typed x _ _ (StaysNothing n) = Untold (typing q scope' (ENamed x))

  address_typed : (x : Text) (o : Option Reading) (m : Meant) → Means C P q scope' slots slots' x o m
      → Less (type_named m >>= λ d. Some (address_type d)) (typing q scope' (EUnary AddressOf (image_named o x)))
  address_typed x _ _ (InLocal y k k' t v i e n f) = rw n (AsIs (Some (AValue (pointer_type t))))
  address_typed x _ _ (InBox y f tag k k' t b i e n g h) = simp (n, g) (AsIs (Some (AValue (pointer_type t))))
  address_typed x _ _ (StaysRegister k k' t v i e n f) = rw n (AsIs (Some (AValue (pointer_type t))))
  address_typed x _ _ (StaysBox k k' t b i e n f) = rw n (AsIs (Some (AValue (pointer_type t))))
  address_typed x _ _ (StaysNowhere k k' t e n) = rw n (AsIs (Some (AValue (pointer_type t))))
  address_typed x _ _ (StaysGlobal b t n) = rw n (AsIs (Some (AValue (pointer_type t))))
  address_typed x _ _ (StaysFunction mode t ts n i) = rw n (AsIs (type_named (AFunction mode t ts) >>= λ d. Some (address_type d)))
  address_typed x _ _ (IsCps t ts) = Untold (typing q scope' (EUnary AddressOf (ENamed x)))
  address_typed x _ _ (StaysNothing n) = Untold (typing q scope' (EUnary AddressOf (ENamed x)))

  tests : (a b : Expr) → Less (typing p scope a) (typing q scope' (image r a)) → Less (typing p scope b) (typing q scope' (image r b))
      → Less (test_type (typing p scope a) (typing p scope b)) (test_type (typing q scope' (image r a)) (typing q scope' (image r b)))
  tests a b h i =
      less_then _ _ _ _ (tested_less _ _ h) λ t.
      less_then _ _ _ _ (tested_less _ _ i) λ u. AsIs _

  operator_typed : (op : Op) (a b : Expr) (t u : Ty) → Less (binary_type p op (is_null a) (is_null b) t u) (binary_type q op (is_null (image r a)) (is_null (image r b)) t u)
  operator_typed op a b t u = rw (same_null r a, same_null r b) (binary_less p q types op (is_null a) (is_null b) t u)

  choice_typed : (a b : Expr) (t u : Ty) → Less (choice_type (is_null a) (is_null b) t u) (choice_type (is_null (image r a)) (is_null (image r b)) t u)
  choice_typed a b t u = rw (same_null r a, same_null r b) (AsIs (choice_type (is_null a) (is_null b) t u))

  cast_typed : (e : Expr) (t u : Ty) → Less (cast_type (is_null e) t u) (cast_type (is_null (image r e)) t u)
  cast_typed e t u = rw (same_null r e) (AsIs (cast_type (is_null e) t u))

  pub typed : (e : Expr) → AllNames L e → Less (typing p scope e) (typing q scope' (image r e))
  typed (ENamed x) l = named_typed x (r x) (named p scope x) (names x l)
  typed (EInteger kind z) l = AsIs _
  typed (ECharacter z) l = AsIs _
  typed (EText bytes) l = AsIs _
  typed (EUnary AddressOf (ENamed x)) l = address_typed x (r x) (named p scope x) (names x l)
  typed (EUnary AddressOf (EUnary AddressOf e)) l = subst (λ o. Less o (typing q scope' (image r (EUnary AddressOf (EUnary AddressOf e))))) (sym (no_place p scope e)) (Untold _)
  typed (EUnary AddressOf e) l = sign_less AddressOf _ _ (typed e l)
  typed (EUnary Minus e) l = sign_less Minus _ _ (typed e l)
  typed (EUnary Plus e) l = sign_less Plus _ _ (typed e l)
  typed (EUnary Not e) l = sign_less Not _ _ (typed e l)
  typed (EUnary Complement e) l = sign_less Complement _ _ (typed e l)
  typed (EUnary Dereference e) l = sign_less Dereference _ _ (typed e l)
  typed (EBinary op a b) l =
      used_then _ _ _ _ (typed a l.0) λ t.
      used_then _ _ _ _ (typed b l.1) λ u.
      less_then _ _ _ _ (operator_typed op a b t u) λ v. AsIs _
  typed (EAnd a b) l = tests a b (typed a l.0) (typed b l.1)
  typed (EOr a b) l = tests a b (typed a l.0) (typed b l.1)
  typed (EChoose c a b) l =
      less_then _ _ _ _ (tested_less _ _ (typed c l.0)) λ k.
      used_then _ _ _ _ (typed a l.1) λ t.
      used_then _ _ _ _ (typed b l.2) λ u.
      less_then _ _ _ _ (choice_typed a b t u) λ v. AsIs _
  typed (ECast t e) l = used_then _ _ _ _ (typed e l) λ u. less_then _ _ _ _ (cast_typed e t u) λ v. AsIs _
  typed (ESizeOf t) l = less_then _ _ _ _ (size_less p q types t) λ n. AsIs _
  typed (EIndex a i) l =
      used_then _ _ _ _ (typed a l.0) λ t.
      used_then _ _ _ _ (typed i l.1) λ u.
      less_then _ _ _ _ (sum_less p q types t u) λ v. AsIs _
  typed (EMember e x) l = member_less p q types _ _ x (typed e l)
  typed (EArrow e x) l = used_then _ _ _ _ (typed e l) λ t. field_less p q types (target t) x
  typed (ECall f es) l = Untold _
