-- The types of the forms of expression by the values of their parts.
use Rattle.std.proofs.Common.{◌≡◌, ℕ, Bool, true, false, if◌then◌else◌, Option, Some, None, option_map, is_some, ◌&&◌, refl, ap, sym, ◌∙◌}
use Rattle.cpc_base.specs.Bytes.{Text}
use Rattle.cpc_num.specs.declared.kinds.Op.{Op}
use Rattle.cpc_num.specs.declared.kinds.Kind.TheVariants.{Int, ULong}
use Rattle.cpc_tree.specs.declared.program.UnaryOp.{UnaryOp}
use Rattle.cpc_tree.specs.declared.program.UnaryOp.TheVariants.{AddressOf}
use Rattle.cpc_tree.specs.Syntax.{Ty, TyInt, Expr, ENamed, EUnary, ESizeOf, Program}
use Rattle.cpc_tree.specs.Typing as T
use Rattle.cpc_tree.specs.Typing.{◌>>=◌}
use Rattle.cpc_shapes.specs.Found.{used_of}
use Rattle.cpc_shapes.specs.Forms.{is_named, unary_of, binary_of, choice_of, cast_of, index_of, arrow_of, of_both, element_of}

value_of : (o : Option Ty) → (o >>= (λ (r : Ty). Some (T.AValue r))) ≡ option_map T.AValue o
value_of None = refl
value_of (Some r) = refl

place_of : (o : Option Ty) → (o >>= (λ (r : Ty). Some (T.APlace r))) ≡ option_map T.APlace o
place_of None = refl
place_of (Some r) = refl

address_of : (o : Option T.Typed) → (o >>= (λ d. Some (T.address_type d))) ≡ option_map T.address_type o
address_of None = refl
address_of (Some d) = refl

-- ---- one operand

pub unary_typed : (meant : Text → T.Meant) (p : Program) (op : UnaryOp) (a : Expr) → T.typing_of meant p (EUnary op a) ≡ unary_of op (is_named a) (T.typing_of meant p a)
unary_typed meant p AddressOf (ENamed x) = address_of (T.type_named (meant x))
unary_typed meant p AddressOf a = refl
unary_typed meant p op a = refl

-- ---- one operand that is used as a value

one_some : {X : Type 0} (a : Option T.Typed) (f : Ty → Option X) (t : Ty) → Some t ≡ used_of a → (a >>= (λ d. T.used d >>= f)) ≡ f t
one_some None f t e = cc
one_some (Some d) f t e = rw (← e) refl

one_none : {X : Type 0} (a : Option T.Typed) (f : Ty → Option X) → None ≡ used_of a → (a >>= (λ d. T.used d >>= f)) ≡ None
one_none None f e = refl
one_none (Some d) f e = rw (← e) refl

pub cast_some : (m : Bool) (t u : Ty) (o : Option T.Typed) → Some u ≡ used_of o → cast_of m t o ≡ option_map T.AValue (T.cast_type m t u)
cast_some m t u o h = one_some o (λ w. T.cast_type m t w >>= (λ (r : Ty). Some (T.AValue r))) u h ∙ value_of (T.cast_type m t u)

pub cast_none : (m : Bool) (t : Ty) (o : Option T.Typed) → None ≡ used_of o → cast_of m t o ≡ None
cast_none m t o h = one_none o (λ w. T.cast_type m t w >>= (λ (r : Ty). Some (T.AValue r))) h

pub arrow_some : (p : Program) (o : Option T.Typed) (x : Text) (t : Ty) → Some t ≡ used_of o → arrow_of p o x ≡ T.field_type p (T.target t) x
arrow_some p o x t h = one_some o (λ w. T.field_type p (T.target w) x) t h

pub arrow_none : (p : Program) (o : Option T.Typed) (x : Text) → None ≡ used_of o → arrow_of p o x ≡ None
arrow_none p o x h = one_none o (λ w. T.field_type p (T.target w) x) h

-- ---- two operands that are used as values

two : {X : Type 0} → Option T.Typed → Option T.Typed → (Ty → Ty → Option X) → Option X
two a b f = a >>= (λ d. T.used d >>= (λ t. b >>= (λ e. T.used e >>= (λ u. f t u))))

two_some : {X : Type 0} (a b : Option T.Typed) (f : Ty → Ty → Option X) (t u : Ty) → Some t ≡ used_of a → Some u ≡ used_of b → two a b f ≡ f t u
unfolding two
two_some a b f t u e g = one_some a (λ v. b >>= (λ c. T.used c >>= (λ w. f v w))) t e ∙ one_some b (f t) u g

two_left : {X : Type 0} (a b : Option T.Typed) (f : Ty → Ty → Option X) → None ≡ used_of a → two a b f ≡ None
unfolding two
two_left a b f e = one_none a (λ v. b >>= (λ c. T.used c >>= (λ w. f v w))) e

none_twice : {X : Type 0} (a : Option T.Typed) (f : Ty → Option X) → ((t : Ty) → f t ≡ None) → (a >>= (λ d. T.used d >>= f)) ≡ None
none_twice None f h = refl
none_twice (Some d) f h = elim (T.used d) as (λ o. (o >>= f) ≡ None) [ None ↦ refl | Some t ↦ h t ]

two_right : {X : Type 0} (a b : Option T.Typed) (f : Ty → Ty → Option X) → None ≡ used_of b → two a b f ≡ None
unfolding two
two_right a b f e = none_twice a (λ v. b >>= (λ c. T.used c >>= (λ w. f v w))) (λ v. one_none b (f v) e)

pub binary_some : (p : Program) (op : Op) (m n : Bool) (a b : Option T.Typed) (t u : Ty) → Some t ≡ used_of a → Some u ≡ used_of b → binary_of p op m n a b ≡ option_map T.AValue (T.binary_type p op m n t u)
unfolding two
binary_some p op m n a b t u e f = two_some a b (λ v w. T.binary_type p op m n v w >>= (λ (r : Ty). Some (T.AValue r))) t u e f ∙ value_of (T.binary_type p op m n t u)

pub binary_left : (p : Program) (op : Op) (m n : Bool) (a b : Option T.Typed) → None ≡ used_of a → binary_of p op m n a b ≡ None
unfolding two
binary_left p op m n a b e = two_left a b (λ v w. T.binary_type p op m n v w >>= (λ (r : Ty). Some (T.AValue r))) e

pub binary_right : (p : Program) (op : Op) (m n : Bool) (a b : Option T.Typed) → None ≡ used_of b → binary_of p op m n a b ≡ None
unfolding two
binary_right p op m n a b e = two_right a b (λ v w. T.binary_type p op m n v w >>= (λ (r : Ty). Some (T.AValue r))) e

-- ---- two operands, one after the other

second_used : {X : Type 0} (t : Ty) (b : Option T.Typed) (f : Ty → Ty → Option X) → (b >>= (λ e. T.used e >>= (λ u. f t u))) ≡ of_both (Some t) (used_of b) f
second_used t None f = refl
second_used t (Some e) f = elim (T.used e) as (λ o. (o >>= (λ u. f t u)) ≡ of_both (Some t) o f) [ None ↦ refl | Some u ↦ refl ]

two_used : {X : Type 0} (a b : Option T.Typed) (f : Ty → Ty → Option X) → two a b f ≡ of_both (used_of a) (used_of b) f
unfolding two
two_used None b f = refl
two_used (Some d) b f = elim (T.used d) as (λ o. (o >>= (λ t. b >>= (λ e. T.used e >>= (λ u. f t u)))) ≡ of_both o (used_of b) f) [ None ↦ refl | Some t ↦ second_used t b f ]

values_of : (a b : Option Ty) (f : Ty → Ty → Option Ty) → of_both a b (λ t u. f t u >>= (λ (r : Ty). Some (T.AValue r))) ≡ option_map T.AValue (of_both a b f)
values_of None b f = refl
values_of (Some t) None f = refl
values_of (Some t) (Some u) f = value_of (f t u)

pub binary_used : (p : Program) (op : Op) (m n : Bool) (a b : Option T.Typed) (o q : Option Ty) → o ≡ used_of a → q ≡ used_of b
    → option_map T.AValue (of_both o q (T.binary_type p op m n)) ≡ binary_of p op m n a b
unfolding two
binary_used p op m n a b o q e f =
    let g = λ (v w : Ty). T.binary_type p op m n v w >>= (λ (r : Ty). Some (T.AValue r)) in
    ap (λ u. option_map T.AValue (of_both u q (T.binary_type p op m n))) e
    ∙ (ap (λ u. option_map T.AValue (of_both (used_of a) u (T.binary_type p op m n))) f
    ∙ sym (two_used a b g ∙ values_of (used_of a) (used_of b) (T.binary_type p op m n)))

pub index_used : (p : Program) (a b : Option T.Typed) (o q : Option Ty) → o ≡ used_of a → q ≡ used_of b → of_both o q (element_of p) ≡ index_of p a b
unfolding two
index_used p a b o q e f = ap (λ u. of_both u q (element_of p)) e ∙ (ap (λ u. of_both (used_of a) u (element_of p)) f ∙ sym (two_used a b (element_of p)))

element_at : Option Ty → Option T.Typed
element_at o = o >>= (λ (r : Ty). T.target r >>= (λ (v : Ty). Some (T.APlace v)))

pub element_some : (p : Program) (t u r : Ty) → Some r ≡ T.sum_type p t u → element_of p t u ≡ option_map T.APlace (T.target r)
unfolding element_at
element_some p t u r g = ap element_at (sym g) ∙ place_of (T.target r)

pub element_none : (p : Program) (t u : Ty) → None ≡ T.sum_type p t u → element_of p t u ≡ None
unfolding element_at
element_none p t u g = ap element_at (sym g)

pub index_left : (p : Program) (a b : Option T.Typed) → None ≡ used_of a → index_of p a b ≡ None
unfolding two element_at
index_left p a b e = two_left a b (λ v w. element_at (T.sum_type p v w)) e

pub index_right : (p : Program) (a b : Option T.Typed) → None ≡ used_of b → index_of p a b ≡ None
unfolding two element_at
index_right p a b e = two_right a b (λ v w. element_at (T.sum_type p v w)) e

-- ---- choices

test_first : {X : Type 0} (o : Option Ty) (r : Option X) → is_some o ≡ true → (o >>= (λ k. r)) ≡ r
test_first None r e = cc
test_first (Some k) r e = refl

test_none : {X : Type 0} (o : Option Ty) (r : Option X) → is_some o ≡ false → (o >>= (λ k. r)) ≡ None
test_none None r e = refl
test_none (Some k) r e = cc

pub choice_tested : (m n : Bool) (c a b : Option T.Typed) (o q : Option Ty) → is_some (T.tested_type c) ≡ true → o ≡ used_of a → q ≡ used_of b
    → option_map T.AValue (of_both o q (T.choice_type m n)) ≡ choice_of m n c a b
unfolding two
choice_tested m n c a b o q h e f =
    let g = λ (v w : Ty). T.choice_type m n v w >>= (λ (r : Ty). Some (T.AValue r)) in
    ap (λ u. option_map T.AValue (of_both u q (T.choice_type m n))) e
    ∙ (ap (λ u. option_map T.AValue (of_both (used_of a) u (T.choice_type m n))) f
    ∙ sym (test_first (T.tested_type c) (two a b g) h ∙ two_used a b g ∙ values_of (used_of a) (used_of b) (T.choice_type m n)))

pub choice_untested : (m n : Bool) (c a b : Option T.Typed) → is_some (T.tested_type c) ≡ false → choice_of m n c a b ≡ None
unfolding two
choice_untested m n c a b h = test_none (T.tested_type c) (two a b (λ v w. T.choice_type m n v w >>= (λ (r : Ty). Some (T.AValue r)))) h

-- ---- tests, places and sizes

tests : (a b : Option Ty) → (a >>= (λ (t : Ty). b >>= (λ (u : Ty). Some (T.AValue (TyInt Int))))) ≡ (if is_some b && is_some a then Some (T.AValue (TyInt Int)) else None)
tests None None = refl
tests None (Some u) = refl
tests (Some t) None = refl
tests (Some t) (Some u) = refl

pub tested_both : (a b : Option T.Typed) → T.test_type a b ≡ (if is_some (T.tested_type b) && is_some (T.tested_type a) then Some (T.AValue (TyInt Int)) else None)
tested_both a b = tests (T.tested_type a) (T.tested_type b)

sized : (o : Option ℕ) → (o >>= (λ (n : ℕ). Some (T.AValue (TyInt ULong)))) ≡ (if is_some o then Some (T.AValue (TyInt ULong)) else None)
sized None = refl
sized (Some n) = refl

pub size_typed : (meant : Text → T.Meant) (p : Program) (t : Ty) → T.typing_of meant p (ESizeOf t) ≡ (if is_some (T.size p t) then Some (T.AValue (TyInt ULong)) else None)
size_typed meant p t = sized (T.size p t)
