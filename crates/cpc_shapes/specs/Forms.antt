-- The types of the forms of expression by those of their parts.
use Rattle.std.specs.Prelude.{Bool, true, false, Option, Some, None, option_map}
use Rattle.cpc_base.specs.Bytes.{Text}
use Rattle.cpc_num.specs.declared.kinds.Op.{Op}
use Rattle.cpc_tree.specs.declared.program.UnaryOp.{UnaryOp}
use Rattle.cpc_tree.specs.declared.program.UnaryOp.TheVariants.{AddressOf}
use Rattle.cpc_tree.specs.Syntax.{Ty, Expr, ENamed, EUnary, EBinary, EAnd, EOr, EChoose, ECast, EIndex, EMember, EArrow, Program}
use Rattle.cpc_check_rules.specs.Scopes as R
use Rattle.cpc_tree.specs.Typing as T
use Rattle.cpc_tree.specs.Typing.{Typed, AValue, APlace, used, ◌>>=◌}

-- whether an expression is a name
abbrev pub is_named : Expr → Bool
is_named (ENamed x) = true
is_named _ = false

-- an operator on one operand; the truth value tells whether it is a name
abbrev pub unary_of : UnaryOp → Bool → Option Typed → Option Typed
unary_of AddressOf true o = option_map T.address_type o
unary_of op named o = T.sign_type op o

-- an operator on two values; the truth values tell which operands are the literal 0
abbrev pub binary_of : Program → Op → Bool → Bool → Option Typed → Option Typed → Option Typed
binary_of p op m n a b = do
  d ← a
  t ← used d
  e ← b
  u ← used e
  r ← T.binary_type p op m n t u
  Some (AValue r)

-- `?:`, likewise
abbrev pub choice_of : Bool → Bool → Option Typed → Option Typed → Option Typed → Option Typed
choice_of m n c a b = do
  k ← T.tested_type c
  d ← a
  t ← used d
  e ← b
  u ← used e
  r ← T.choice_type m n t u
  Some (AValue r)

-- a cast
abbrev pub cast_of : Bool → Ty → Option Typed → Option Typed
cast_of m t o = do
  d ← o
  u ← used d
  r ← T.cast_type m t u
  Some (AValue r)

-- an element
abbrev pub index_of : Program → Option Typed → Option Typed → Option Typed
index_of p a b = do
  d ← a
  t ← used d
  e ← b
  u ← used e
  r ← T.sum_type p t u
  v ← T.target r
  Some (APlace v)

-- a field of a place
abbrev pub member_of : Program → Option Typed → Text → Option Typed
member_of p o x = do
  d ← o
  T.field_type p (T.typed_place d) x

-- a field of what a pointer points to
abbrev pub arrow_of : Program → Option Typed → Text → Option Typed
arrow_of p o x = do
  d ← o
  t ← used d
  T.field_type p (T.target t) x

-- what is made of two types that are there
abbrev pub of_both : {X : Type 0} → Option Ty → Option Ty → (Ty → Ty → Option X) → Option X
of_both (Some t) (Some u) f = f t u
of_both _ _ f = None

-- an element of a value of the first type, where the index has the second
abbrev pub element_of : Program → Ty → Ty → Option Typed
element_of p t u = do
  r ← T.sum_type p t u
  v ← T.target r
  Some (APlace v)

-- the type of an expression with one operand, or None
abbrev pub narrow_typed : R.Scope → Expr → Option Typed
narrow_typed s (EUnary op a) = unary_of op (is_named a) (R.typed s a)
narrow_typed s (ECast t a) = cast_of (T.is_null a) t (R.typed s a)
narrow_typed s (EMember a x) = member_of s.items (R.typed s a) x
narrow_typed s (EArrow a x) = arrow_of s.items (R.typed s a) x
narrow_typed s _ = None

-- the type of an expression with two operands that are used as values, or None
abbrev pub wide_typed : R.Scope → Expr → Option Typed
wide_typed s (EBinary op a b) = binary_of s.items op (T.is_null a) (T.is_null b) (R.typed s a) (R.typed s b)
wide_typed s (EIndex a b) = index_of s.items (R.typed s a) (R.typed s b)
wide_typed s _ = None

-- the type of an expression with a test, or None
abbrev pub logical_typed : R.Scope → Expr → Option Typed
logical_typed s (EAnd a b) = T.test_type (R.typed s a) (R.typed s b)
logical_typed s (EOr a b) = T.test_type (R.typed s a) (R.typed s b)
logical_typed s (EChoose c a b) = choice_of (T.is_null a) (T.is_null b) (R.typed s c) (R.typed s a) (R.typed s b)
logical_typed s _ = None
