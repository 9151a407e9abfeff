-- The cells of types, scopes, and the types of expressions.
use Rattle.std.specs.Prelude.{ℕ, zero, suc, ◌+◌, Bool, true, false, ◌&&◌, ◌||◌, ◌==◌, if◌then◌else◌, unsigned_abs, List, [], ◌∷◌, ◌++◌, length, reverse, map, Option, Some, None, bytes_eq, is_some}
use Rattle.cpc_base.specs.Bytes.{Text}
use Rattle.cpc_tree.specs.Syntax.{Ty, TyVoid, TyInt, TyCondvar, TyPointer, TyCode, TyStruct, TyArray, Tys, NoTy, AndTy, Expr, ENamed, EInteger, ECharacter, EText, EUnary, EBinary, EAnd, EOr, EChoose, ECast, ESizeOf, EIndex, EMember, EArrow, ECall, Variable, Parameter, Function, Item, StructItem, GlobalItem, PrototypeItem, FunctionItem, Program}
use Rattle.cpc_num.specs.declared.kinds.Kind.{Kind}
use Rattle.cpc_num.specs.declared.kinds.Kind.TheVariants.{Int, Long, ULong}
use Rattle.cpc_num.specs.declared.kinds.Op.{Op}
use Rattle.cpc_num.specs.declared.kinds.Op.TheVariants.{Add, Sub, Shl, Shr, Lt, Le, Gt, Ge, Eq, Ne}
use Rattle.cpc_tree.specs.declared.program.UnaryOp.{UnaryOp}
use Rattle.cpc_tree.specs.declared.program.UnaryOp.TheVariants.{Minus, Plus, Not, Complement, Dereference, AddressOf}
use Rattle.cpc_tree.specs.declared.program.Mode.{Mode}
use Rattle.cpc_tree.specs.declared.program.Mode.TheVariants.{Extern, Native, Cps, Detached}
use Rattle.cpc_num.specs.Number.{same_kind, promoted, common}

-- what is made of a value that is there
infixl 1 ◌>>=◌
abbrev pub ◌>>=◌ : {A B : Type 0} → Option A → (A → Option B) → Option B
None >>= f = None
Some x >>= f = f x

-- ---- cells

-- the types of a type's cells in order, and None where the type is incomplete
abbrev pub Cells : Type 0
Cells = Option (List Ty)

-- the cells of two types, one after the other
abbrev pub both : Cells → Cells → Cells
both a b = do
  xs ← a
  ys ← b
  Some (xs ++ ys)

-- a list so many times over
abbrev pub times : ℕ → List Ty → List Ty
times zero xs = []
times (suc n) xs = xs ++ times n xs

-- a type's cells, where the structs have these
abbrev pub cells_in : (Text → Cells) → Ty → Cells
cells_in tags TyVoid = None
cells_in tags (TyInt kind) = Some (TyInt kind ∷ [])
cells_in tags TyCondvar = Some (TyCondvar ∷ [])
cells_in tags (TyPointer t) = Some (TyPointer t ∷ [])
cells_in tags (TyCode r ps) = Some (TyCode r ps ∷ [])
cells_in tags (TyStruct tag) = tags tag
cells_in tags (TyArray t n) = do
  xs ← cells_in tags t
  Some (times n xs)

-- the cells of fields, in order
abbrev pub fields_cells : (Text → Cells) → List Variable → Cells
fields_cells tags [] = Some []
fields_cells tags (f ∷ fs) = both (cells_in tags f.type) (fields_cells tags fs)

-- the cells of the structs of a row of items, the last item first
abbrev pub struct_cells : List Item → Text → Cells
struct_cells [] tag = None
struct_cells (StructItem t fields ∷ items) tag =
    if bytes_eq t tag then fields_cells (struct_cells items) fields else struct_cells items tag
struct_cells (GlobalItem x t start ∷ items) tag = struct_cells items tag
struct_cells (PrototypeItem mode f r ps ∷ items) tag = struct_cells items tag
struct_cells (FunctionItem f ∷ items) tag = struct_cells items tag

-- the cells of a type
abbrev pub cells : Program → Ty → Cells
cells p t = cells_in (struct_cells (reverse p)) t

-- the number of cells of a type
abbrev pub size : Program → Ty → Option ℕ
size p t = do
  xs ← cells p t
  Some (length xs)

-- whether a type is scalar: its values fill one cell
abbrev pub is_scalar : Ty → Bool
is_scalar (TyInt kind) = true
is_scalar TyCondvar = true
is_scalar (TyPointer t) = true
is_scalar (TyCode r ps) = true
is_scalar _ = false

-- the fields of a struct of a row of items, the last item first
abbrev pub fields_in : List Item → Text → Option (List Variable)
fields_in [] tag = None
fields_in (StructItem t fs ∷ items) tag = if bytes_eq t tag then Some fs else fields_in items tag
fields_in (_ ∷ items) tag = fields_in items tag

-- the fields of a struct
abbrev pub fields : Program → Text → Option (List Variable)
fields p tag = fields_in (reverse p) tag

-- a field among these, the first of which is at the offset n
abbrev pub field_from : Program → ℕ → List Variable → Text → Option (ℕ × Ty)
field_from p n [] x = None
field_from p n (f ∷ fs) x =
    if bytes_eq f.called x then Some (n, f.type) else (size p f.type >>= (λ k. field_from p (n + k) fs x))

-- the offset and the type of a field
abbrev pub field : Program → Text → Text → Option (ℕ × Ty)
field p tag x = do
  fs ← fields p tag
  field_from p 0 fs x

-- ---- names

-- a parameter or local of a function, with its place among them all
pub record Local : Type 0 where
  pub called : Text
  pub type : Ty
  pub slot : ℕ

-- innermost first
abbrev pub Scope : Type 0
Scope = List Local

-- what a name stands for
pub data Meant : Type 0 where
  ALocal : (slot : ℕ) → Ty → Meant
  AGlobal : (block : ℕ) → Ty → Meant
  AFunction : Mode → (result : Ty) → (parameters : List Ty) → Meant
  NotMeant : Meant

-- the type of a parameter
abbrev pub parameter_type : Parameter → Ty
parameter_type p = p.type

-- n globals stand before these items
abbrev pub item_named : ℕ → Program → Text → Meant
item_named n [] x = NotMeant
item_named n (StructItem tag fs ∷ items) x = item_named n items x
item_named n (GlobalItem g t start ∷ items) x = if bytes_eq g x then AGlobal n t else item_named (suc n) items x
item_named n (PrototypeItem mode f r ps ∷ items) x =
    if bytes_eq f x then AFunction mode r (map parameter_type ps) else item_named n items x
item_named n (FunctionItem f ∷ items) x =
    if bytes_eq f.called x then AFunction f.mode f.result (map parameter_type f.parameters) else item_named n items x

-- what a name stands for: the innermost local, or else an item
abbrev pub named : Program → Scope → Text → Meant
named p [] x = item_named 0 p x
named p (l ∷ scope) x = if bytes_eq l.called x then ALocal l.slot l.type else named p scope x

-- the function of a name, where the program defines one
abbrev pub function_named : Program → Text → Option Function
function_named [] x = None
function_named (FunctionItem f ∷ items) x = if bytes_eq f.called x then Some f else function_named items x
function_named (_ ∷ items) x = function_named items x

-- the types of a function's parameters
abbrev pub parameter_types : Function → List Ty
parameter_types f = map parameter_type f.parameters

-- ---- types of expressions

-- types as the parameters of a code type
abbrev pub tys_of : List Ty → Tys
tys_of [] = NoTy
tys_of (t ∷ ts) = AndTy t (tys_of ts)

-- the parameters of a code type, as a list
abbrev pub list_of_tys : Tys → List Ty
list_of_tys NoTy = []
list_of_tys (AndTy t ts) = t ∷ list_of_tys ts

-- the type of a function
abbrev pub function_type : (result : Ty) → (parameters : List Ty) → Ty
function_type r ps = TyCode r (tys_of ps)

-- the type, where it is that of a function
abbrev pub code_type : Ty → Option Ty
code_type (TyCode r ps) = Some (TyCode r ps)
code_type _ = None

-- the parameter types of a code type
abbrev pub code_parameters : Ty → List Ty
code_parameters (TyCode r ps) = list_of_tys ps
code_parameters _ = []

abbrev mutual
  -- whether two types are one
  pub same_type : Ty → Ty → Bool
  same_type TyVoid TyVoid = true
  same_type (TyInt j) (TyInt k) = same_kind j k
  same_type TyCondvar TyCondvar = true
  same_type (TyPointer t) (TyPointer u) = same_type t u
  same_type (TyCode r ps) (TyCode q qs) = same_type r q && same_types ps qs
  same_type (TyStruct t) (TyStruct u) = bytes_eq t u
  same_type (TyArray t m) (TyArray u n) = same_type t u && (m == n)
  same_type _ _ = false

  -- whether two rows of types are one
  pub same_types : Tys → Tys → Bool
  same_types NoTy NoTy = true
  same_types (AndTy t ts) (AndTy u us) = same_type t u && same_types ts us
  same_types _ _ = false

-- the type of an expression: of a value, or of a place
pub data Typed : Type 0 where
  AValue : Ty → Typed
  APlace : Ty → Typed

-- the type of a value, or of what a place gives where it is used as a value
abbrev pub used : Typed → Option Ty
used (AValue t) = Some t
used (APlace (TyArray t n)) = Some (TyPointer t)
used (APlace (TyStruct tag)) = None
used (APlace t) = Some t

-- the kind of an integer type
abbrev pub integer : Ty → Option Kind
integer (TyInt kind) = Some kind
integer _ = None

-- integers, pointers and codes can be tested
abbrev pub is_testable : Ty → Bool
is_testable (TyInt kind) = true
is_testable (TyPointer t) = true
is_testable (TyCode r ps) = true
is_testable _ = false

-- whether an expression is the literal 0
abbrev pub is_null : Expr → Bool
is_null (EInteger Int z) = unsigned_abs z == 0
is_null _ = false

-- the type of a name; one of a cps or extern function is no value
abbrev pub type_named : Meant → Option Typed
type_named (ALocal n t) = Some (APlace t)
type_named (AGlobal n t) = Some (APlace t)
type_named (AFunction Native r ps) = Some (AValue (TyCode r (tys_of ps)))
type_named (AFunction Detached r ps) = Some (AValue (TyCode r (tys_of ps)))
type_named (AFunction Cps r ps) = None
type_named (AFunction Extern r ps) = None
type_named NotMeant = None

-- two integers give their common type
abbrev pub common_type : Ty → Ty → Option Ty
common_type (TyInt j) (TyInt k) = Some (TyInt (common j k))
common_type _ _ = None

-- a pointer that can be moved
abbrev pub movable : Program → Ty → Option Ty
movable p t = if is_some (size p t) then Some (TyPointer t) else None

-- the type of a sum: an integer, or a moved pointer
abbrev pub sum_type : Program → Ty → Ty → Option Ty
sum_type p (TyPointer t) (TyInt k) = movable p t
sum_type p (TyInt j) (TyPointer t) = movable p t
sum_type p t u = common_type t u

-- the type of a difference: an integer, a moved pointer, or a distance
abbrev pub difference_type : Program → Ty → Ty → Option Ty
difference_type p (TyPointer t) (TyInt k) = movable p t
difference_type p (TyPointer t) (TyPointer u) =
    if same_type t u && is_some (size p t) then Some (TyInt Long) else None
difference_type p t u = common_type t u

-- the type of `<` and its kin
abbrev pub order_type : Ty → Ty → Option Ty
order_type (TyInt j) (TyInt k) = Some (TyInt Int)
order_type (TyPointer t) (TyPointer u) = if same_type t u then Some (TyInt Int) else None
order_type _ _ = None

-- pointers and codes, beside which a literal 0 is null
abbrev pub is_reference : Ty → Bool
is_reference (TyPointer t) = true
is_reference (TyCode r ps) = true
is_reference _ = false

-- types whose values can be told equal
abbrev pub are_comparable : Ty → Ty → Bool
are_comparable (TyInt j) (TyInt k) = true
are_comparable (TyPointer TyVoid) (TyPointer u) = true
are_comparable (TyPointer t) (TyPointer TyVoid) = true
are_comparable (TyPointer t) (TyPointer u) = same_type t u
are_comparable (TyCode r ps) (TyCode q qs) = same_type (TyCode r ps) (TyCode q qs)
are_comparable TyCondvar TyCondvar = true
are_comparable _ _ = false

-- the type of `==` and `!=`; the truth values tell which operands are the literal 0
abbrev pub equality_type : Bool → Bool → Ty → Ty → Option Ty
equality_type a_null b_null t u =
    if are_comparable t u || (a_null && is_reference u) || (b_null && is_reference t) then Some (TyInt Int) else None

-- the type of a shift is the promoted left one
abbrev pub shift_type : Ty → Ty → Option Ty
shift_type (TyInt j) (TyInt k) = Some (TyInt (promoted j))
shift_type _ _ = None

-- the type of an operator on two values; the first two truth values tell which of them are the literal 0
abbrev pub binary_type : Program → Op → Bool → Bool → Ty → Ty → Option Ty
binary_type p Add m n t u = sum_type p t u
binary_type p Sub m n t u = difference_type p t u
binary_type p Shl m n t u = shift_type t u
binary_type p Shr m n t u = shift_type t u
binary_type p Lt m n t u = order_type t u
binary_type p Le m n t u = order_type t u
binary_type p Gt m n t u = order_type t u
binary_type p Ge m n t u = order_type t u
binary_type p Eq m n t u = equality_type m n t u
binary_type p Ne m n t u = equality_type m n t u
binary_type p _ m n t u = common_type t u

-- the type of `?:`; the truth values tell which arms are the literal 0
abbrev pub choice_type : Bool → Bool → Ty → Ty → Option Ty
choice_type m n (TyInt j) (TyInt k) = Some (TyInt (common j k))
choice_type m n t u =
    if is_reference t && (same_type t u || n) then Some t else (if m && is_reference u then Some u else None)

-- the type of a cast to t of a value of the type u, where the truth value tells whether it is the literal 0
abbrev pub cast_type : Bool → Ty → Ty → Option Ty
cast_type m (TyInt j) (TyInt k) = Some (TyInt j)
cast_type m (TyPointer t) (TyPointer u) = Some (TyPointer t)
cast_type m t u = if m && is_reference t then Some t else None

-- what a pointer type points to
abbrev pub target : Ty → Option Ty
target (TyPointer t) = Some t
target _ = None

-- the tag of a struct type
abbrev pub struct_tag : Ty → Option Text
struct_tag (TyStruct tag) = Some tag
struct_tag _ = None

-- a pointer to a place of the type: of an array, to its element
abbrev pub pointer_type : Ty → Ty
pointer_type (TyArray t n) = TyPointer t
pointer_type t = TyPointer t

-- `&` of a variable, or of a function's name
abbrev pub address_type : Typed → Typed
address_type (APlace t) = AValue (pointer_type t)
address_type (AValue t) = AValue t

-- the type of a place
abbrev pub typed_place : Typed → Option Ty
typed_place (APlace t) = Some t
typed_place (AValue t) = None

-- the type of an expression that can be tested
abbrev pub tested_type : Option Typed → Option Ty
tested_type a = do
  d ← a
  t ← used d
  if is_testable t then Some t else None

-- the type of an operator on one operand
abbrev pub unary_type : UnaryOp → Typed → Option Typed
unary_type Minus d = do
  t ← used d
  k ← integer t
  Some (AValue (TyInt (promoted k)))
unary_type Plus d = do
  t ← used d
  k ← integer t
  Some (AValue (TyInt (promoted k)))
unary_type Complement d = do
  t ← used d
  k ← integer t
  Some (AValue (TyInt (promoted k)))
unary_type Not d = do
  t ← tested_type (Some d)
  Some (AValue (TyInt Int))
unary_type Dereference d = do
  t ← used d
  u ← target t
  Some (APlace u)
unary_type AddressOf d = do
  t ← typed_place d
  Some (AValue (pointer_type t))

-- the same, where the operand may have no type
abbrev pub sign_type : UnaryOp → Option Typed → Option Typed
sign_type sign None = None
sign_type sign (Some d) = unary_type sign d

-- the type of `&&` and `||`
abbrev pub test_type : Option Typed → Option Typed → Option Typed
test_type a b = do
  t ← tested_type a
  u ← tested_type b
  Some (AValue (TyInt Int))

-- the type of a field of a struct type
abbrev pub field_type : Program → Option Ty → Text → Option Typed
field_type p o x = do
  t ← o
  tag ← struct_tag t
  f ← field p tag x
  Some (APlace f.1)

-- the type of an expression where names stand for these, and whether it is a place
abbrev pub typing_of : (Text → Meant) → Program → Expr → Option Typed
typing_of meant p (ENamed x) = type_named (meant x)
typing_of meant p (EInteger kind z) = Some (AValue (TyInt kind))
typing_of meant p (ECharacter z) = Some (AValue (TyInt Int))
typing_of meant p (EText bytes) = None
typing_of meant p (EUnary AddressOf (ENamed x)) = do
  d ← type_named (meant x)
  Some (address_type d)
typing_of meant p (EUnary sign e) = sign_type sign (typing_of meant p e)
typing_of meant p (EBinary op a b) = do
  d ← typing_of meant p a
  t ← used d
  e ← typing_of meant p b
  u ← used e
  r ← binary_type p op (is_null a) (is_null b) t u
  Some (AValue r)
typing_of meant p (EAnd a b) = test_type (typing_of meant p a) (typing_of meant p b)
typing_of meant p (EOr a b) = test_type (typing_of meant p a) (typing_of meant p b)
typing_of meant p (EChoose c a b) = do
  k ← tested_type (typing_of meant p c)
  d ← typing_of meant p a
  t ← used d
  e ← typing_of meant p b
  u ← used e
  r ← choice_type (is_null a) (is_null b) t u
  Some (AValue r)
typing_of meant p (ECast t e) = do
  d ← typing_of meant p e
  u ← used d
  r ← cast_type (is_null e) t u
  Some (AValue r)
typing_of meant p (ESizeOf t) = do
  n ← size p t
  Some (AValue (TyInt ULong))
typing_of meant p (EIndex a i) = do
  d ← typing_of meant p a
  t ← used d
  e ← typing_of meant p i
  u ← used e
  r ← sum_type p t u
  v ← target r
  Some (APlace v)
typing_of meant p (EMember e x) = do
  d ← typing_of meant p e
  field_type p (typed_place d) x
typing_of meant p (EArrow e x) = do
  d ← typing_of meant p e
  t ← used d
  field_type p (target t) x
typing_of meant p (ECall f es) = None

-- the type of an expression in a scope
abbrev pub typing : Program → Scope → Expr → Option Typed
typing p scope e = typing_of (named p scope) p e
