-- Whole numbers of six kinds: promotion, the common kind, conversion, and the value or the fault of each operator.
use Rattle.std.specs.Prelude.{ℕ, ◌-◌, ◌^◌, Bool, true, false, not, ◌&&◌, ◌==◌, nat_lt, if◌then◌else◌, ℤ, pos, ◌+ℤ◌, ◌-ℤ◌, ◌*ℤ◌, ◌≤ℤ◌, neg_ℤ, unsigned_abs, int_lt, int_le, int_div, int_rem, bit_and, bit_or, bit_xor, Result, Ok, Err}
use Rattle.std.specs.Int.{int_div_euclid, int_rem_euclid}
use Rattle.std.specs.Ordering.{int_eq}
use Rattle.cpc_num.specs.declared.kinds.Kind.{Kind}
use Rattle.cpc_num.specs.declared.kinds.Kind.TheVariants.{Char, UChar, Int, UInt, Long, ULong}
use Rattle.cpc_num.specs.declared.kinds.Op.{Op}
use Rattle.cpc_num.specs.declared.kinds.Op.TheVariants.{Mul, Div, Rem, Add, Sub, Shl, Shr, Lt, Le, Gt, Ge, Eq, Ne, BitAnd, BitXor, BitOr}
use Rattle.cpc_num.specs.declared.kinds.Fault.{Fault}
use Rattle.cpc_num.specs.declared.kinds.Fault.TheVariants as F

-- ---- kinds

-- the width of a kind
abbrev pub bits : Kind → ℕ
bits Char = 8
bits UChar = 8
bits Int = 32
bits UInt = 32
bits Long = 64
bits ULong = 64

-- whether a kind has negative values
abbrev pub is_signed : Kind → Bool
is_signed Char = true
is_signed UChar = false
is_signed Int = true
is_signed UInt = false
is_signed Long = true
is_signed ULong = false

-- the place of a kind in the order of the kinds
abbrev pub rank : Kind → ℕ
rank Char = 0
rank UChar = 1
rank Int = 2
rank UInt = 3
rank Long = 4
rank ULong = 5

-- whether two kinds are one
abbrev pub same_kind : Kind → Kind → Bool
same_kind a b = rank a == rank b

-- a char kind becomes int
abbrev pub promoted : Kind → Kind
promoted Char = Int
promoted UChar = Int
promoted Int = Int
promoted UInt = UInt
promoted Long = Long
promoted ULong = ULong

-- the greater of the promoted kinds
abbrev pub common : Kind → Kind → Kind
common a b = if nat_lt (rank (promoted a)) (rank (promoted b)) then promoted b else promoted a

-- ---- values of a kind, and conversion

-- the least value of a kind
abbrev pub least : Kind → ℤ
least kind = if is_signed kind then neg_ℤ (pos (2 ^ (bits kind - 1))) else pos 0

-- the greatest value of a kind
abbrev pub greatest : Kind → ℤ
greatest kind = if is_signed kind then pos (2 ^ (bits kind - 1) - 1) else pos (2 ^ bits kind - 1)

-- whether a number is a value of the kind
abbrev pub is_of : Kind → ℤ → Bool
is_of kind z = int_le (least kind) z && int_le z (greatest kind)

-- z is a value of the kind
pub record IsOf (kind : Kind) (z : ℤ) : Type 0 where
  pub low : least kind ≤ℤ z
  pub high : z ≤ℤ greatest kind

-- z is a value of some kind: of long where it is negative, else of unsigned long
pub record IsOfSome (z : ℤ) : Type 0 where
  pub low : least Long ≤ℤ z
  pub high : z ≤ℤ greatest ULong

-- two numbers that differ by a multiple of this are one in the kind
abbrev pub modulus : Kind → ℤ
modulus kind = pos (2 ^ bits kind)

-- what is left of a number modulo 2 ^ bits, from 0 on
abbrev pub residue : Kind → ℤ → ℤ
residue kind z = int_rem_euclid z (modulus kind)

-- the value of the kind that is z modulo 2 ^ bits
abbrev pub convert : Kind → ℤ → ℤ
convert kind z = if int_le (residue kind z) (greatest kind) then residue kind z else residue kind z -ℤ modulus kind

-- ---- operators

-- a result of the kind: an unsigned one wraps, a signed one out of range is a fault
unfoldable pub settle : Kind → ℤ → Result ℤ Fault
settle kind z = if is_signed kind then (if is_of kind z then Ok z else Err F.Overflow) else Ok (convert kind z)

-- whether a number is 0
abbrev pub is_zero : ℤ → Bool
is_zero z = int_eq z (pos 0)

-- a division of x by y that gives z: y is not 0, and the quotient is a value of the kind
unfoldable pub divided : Kind → ℤ → ℤ → ℤ → Result ℤ Fault
divided kind x y z = if is_zero y then Err F.Divide else if is_of kind (int_div x y) then Ok z else Err F.Overflow

-- a shift is by 0 to bits - 1
abbrev pub can_shift : Kind → ℤ → Bool
can_shift kind y = int_le (pos 0) y && int_lt y (pos (bits kind))

-- a left shift multiplies by a power of two
unfoldable pub shift_left : Kind → ℤ → ℤ → Result ℤ Fault
shift_left kind x y = if can_shift kind y then settle kind (x *ℤ pos (2 ^ unsigned_abs y)) else Err F.Shift

-- a right shift is the floor of a division by a power of two
unfoldable pub shift_right : Kind → ℤ → ℤ → Result ℤ Fault
shift_right kind x y = if can_shift kind y then Ok (int_div_euclid x (pos (2 ^ unsigned_abs y))) else Err F.Shift

-- the bits of a value, as a number
abbrev pub bits_of : Kind → ℤ → ℕ
bits_of kind z = unsigned_abs (residue kind z)

-- an operator on the bits of two values
abbrev pub bitwise : (ℕ → ℕ → ℕ) → Kind → ℤ → ℤ → ℤ
bitwise f kind x y = convert kind (pos (f (bits_of kind x) (bits_of kind y)))

-- the number of a truth value
abbrev pub truth : Bool → ℤ
truth true = pos 1
truth false = pos 0

-- unary minus
abbrev pub negate : Kind → ℤ → Result ℤ Fault
negate kind x = settle kind (neg_ℤ x)

-- an operator on two values of the kind, to which the operands were converted; the right one of a shift is of any kind
abbrev pub binary : Op → Kind → ℤ → ℤ → Result ℤ Fault
binary Mul kind x y = settle kind (x *ℤ y)
binary Div kind x y = divided kind x y (int_div x y)
binary Rem kind x y = divided kind x y (int_rem x y)
binary Add kind x y = settle kind (x +ℤ y)
binary Sub kind x y = settle kind (x -ℤ y)
binary Shl kind x y = shift_left kind x y
binary Shr kind x y = shift_right kind x y
binary Lt kind x y = Ok (truth (int_lt x y))
binary Le kind x y = Ok (truth (int_le x y))
binary Gt kind x y = Ok (truth (int_lt y x))
binary Ge kind x y = Ok (truth (int_le y x))
binary Eq kind x y = Ok (truth (int_eq x y))
binary Ne kind x y = Ok (truth (not (int_eq x y)))
binary BitAnd kind x y = Ok (bitwise bit_and kind x y)
binary BitXor kind x y = Ok (bitwise bit_xor kind x y)
binary BitOr kind x y = Ok (bitwise bit_or kind x y)

-- y may stand at the right of the operator: a shift takes a value of some kind, another operator one of the same kind
abbrev pub IsRight : Op → Kind → ℤ → Type 0
IsRight Shl kind y = IsOfSome y
IsRight Shr kind y = IsOfSome y
IsRight _ kind y = IsOf kind y

-- the kind of the result: a comparison gives an int
abbrev pub result_kind : Op → Kind → Kind
result_kind Lt kind = Int
result_kind Le kind = Int
result_kind Gt kind = Int
result_kind Ge kind = Int
result_kind Eq kind = Int
result_kind Ne kind = Int
result_kind _ kind = kind
