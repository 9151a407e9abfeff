-- What names stand for where a text is checked: the items so far, and the blocks round a place.
use Rattle.std.specs.Prelude.{ℕ, ◌^◌, Bool, true, false, ◌&&◌, ◌||◌, nat_le, nat_lt, if◌then◌else◌, List, [], ◌∷◌, reverse, map, Option, Some, None, is_some, bytes_eq}
use Rattle.cpc_base.specs.Bytes.{Text}
use Rattle.cpc_tree.specs.Syntax.{Ty, TyVoid, TyInt, TyPointer, TyStruct, TyArray, Expr, Variable, Item, StructItem, GlobalItem, PrototypeItem, FunctionItem, Program}
use Rattle.cpc_tree.specs.Typing.{Meant, ALocal, AGlobal, AFunction, NotMeant, parameter_type, Typed, used, is_reference, is_null, same_type, typing_of, size}

-- the names of a block with their types, the last one first
abbrev pub Block : Type 0
Block = List Variable

-- What is in scope at a place: the items so far, in order, and the blocks, the innermost first.
pub record Scope : Type 0 where
  pub items : Program
  pub blocks : List Block

-- the last entry of a name in a block
abbrev pub in_block : Block → Text → Option Ty
in_block [] x = None
in_block (v ∷ vs) x = if bytes_eq v.called x then Some v.type else in_block vs x

-- the last item that declares a name, of items the last of which comes first
abbrev pub in_items : List Item → Text → Meant
in_items [] x = NotMeant
in_items (StructItem tag fs ∷ items) x = in_items items x
in_items (GlobalItem g t start ∷ items) x = if bytes_eq g x then AGlobal 0 t else in_items items x
in_items (PrototypeItem mode f r ps ∷ items) x = if bytes_eq f x then AFunction mode r (map parameter_type ps) else in_items items x
in_items (FunctionItem f ∷ items) x = if bytes_eq f.called x then AFunction f.mode f.result (map parameter_type f.parameters) else in_items items x

abbrev in_one : Option Ty → Meant → Meant
in_one None m = m
in_one (Some t) m = ALocal 0 t

-- what a name stands for: its last entry in the innermost block that has it, or else the last item that declares it
abbrev pub in_blocks : List Block → Meant → Text → Meant
in_blocks [] m x = m
in_blocks (b ∷ bs) m x = in_one (in_block b x) (in_blocks bs m x)

abbrev pub meant : Scope → Text → Meant
meant s x = in_blocks s.blocks (in_items (reverse s.items) x) x

-- the type of an expression in a scope, and whether it is a place
abbrev pub typed : Scope → Expr → Option Typed
typed s e = typing_of (meant s) s.items e

-- a struct or an array has so many cells at most
abbrev pub cell_limit : ℕ
cell_limit = 2 ^ 16

abbrev within_limit : Option ℕ → Option ℕ
within_limit None = None
within_limit (Some n) = if nat_le n cell_limit then Some n else None

-- the number of cells of a type that is complete and not oversized
abbrev pub measured : Scope → Ty → Option ℕ
measured s t = within_limit (size s.items t)

-- what a value may be written to: the same integer, pointer, code or condition; `void *` and any pointer; the literal 0
-- and any pointer or code
abbrev pub takes_value : Ty → Bool → Ty → Bool
takes_value (TyInt j) null (TyInt k) = true
takes_value (TyPointer TyVoid) null (TyPointer u) = true
takes_value (TyPointer t) null (TyPointer TyVoid) = true
takes_value TyVoid null u = false
takes_value (TyStruct tag) null u = false
takes_value (TyArray t n) null u = false
takes_value t null u = same_type t u || (null && is_reference t)

abbrev takes_used : Ty → Bool → Option Ty → Bool
takes_used t null None = false
takes_used t null (Some u) = takes_value t null u

-- whether an expression that has a type is assignable to a type
abbrev pub takes_typed : Ty → Expr → Typed → Bool
takes_typed t e d = takes_used t (is_null e) (used d)

abbrev takes_maybe : Ty → Expr → Option Typed → Bool
takes_maybe t e None = false
takes_maybe t e (Some d) = takes_typed t e d

-- whether an expression is assignable to a type
abbrev pub is_assignable : Scope → Ty → Expr → Bool
is_assignable s t e = takes_maybe t e (typed s e)

abbrev with_first : List Block → Variable → List Block
with_first [] v = (v ∷ []) ∷ []
with_first (b ∷ bs) v = (v ∷ b) ∷ bs

-- with one more name in the innermost block
abbrev pub with_name : Scope → Variable → Scope
with_name s v = record { items = s.items; blocks = with_first s.blocks v }

-- an inner block
abbrev pub with_block : Scope → Scope
with_block s = record { items = s.items; blocks = [] ∷ s.blocks }

-- a variable has cells: one at least, and not too many
abbrev pub has_cells : Option ℕ → Bool
has_cells None = false
has_cells (Some n) = nat_lt 0 n && nat_le n cell_limit

abbrev pub is_sized : Scope → Ty → Bool
is_sized s t = has_cells (size s.items t)

-- whether the innermost block has a name
abbrev pub is_here : List Block → Text → Bool
is_here [] x = false
is_here (b ∷ bs) x = is_some (in_block b x)
