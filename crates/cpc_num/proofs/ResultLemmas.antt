-- The result of an operator is a value of its result kind; quotient and remainder; equality of numbers.
use Rattle.std.proofs.Common.{◌≡◌, ℕ, zero, suc, ◌/◌, ◌%◌, ◌^◌, ◌<◌, ◌≤◌, Bool, true, false, not, cond, ℤ, pos, negsuc, ◌+ℤ◌, ◌-ℤ◌, ◌*ℤ◌, refl, arith, Ok, Err, Result}
use Rattle.std.proofs.lemmas.Int.{ints, quot-rem, rem_below}
use Rattle.std.proofs.Math.Nat.{mod-le, div-le_self}
use Rattle.std.specs.Prelude.{int_le, int_lt, int_div, int_rem, unsigned_abs, neg_ℤ, IfOk, bit_and, bit_or, bit_xor}
use Rattle.std.specs.Int.{int_shr, int_div_euclid}
use Rattle.std.specs.Ordering.{int_eq}
use Rattle.cpc_num.specs.declared.kinds.Kind.{Kind}
use Rattle.cpc_num.specs.declared.kinds.Kind.TheVariants.{Char, UChar, Int, UInt, Long, ULong}
use Rattle.cpc_num.specs.declared.kinds.Fault.{Fault}
use Rattle.cpc_num.specs.declared.kinds.Fault.TheVariants as F
use Rattle.cpc_num.specs.declared.kinds.Op.{Op}
use Rattle.cpc_num.specs.declared.kinds.Op.TheVariants.{Mul, Div, Rem, Add, Sub, Shl, Shr, Lt, Le, Gt, Ge, Eq, Ne, BitAnd, BitXor, BitOr}
use Rattle.cpc_num.specs.Number.{IsOf, is_of, settle, divided, shift_left, shift_right, can_shift, truth, bits_of, negate, binary, IsRight, result_kind}
use Rattle.cpc_num.specs.Laws.{HasSignOf, DividesBack, DivisionTruncates}
use Rattle.cpc_num.proofs.KindLemmas.{IsOf-convert, IsOf-is_of, IsOfSome-IsOf, spans}

-- ---- results are values of their kind

-- a value that is given only where it is one of the kind
checked : (kind : Kind) (z : ℤ) (f : Fault) (b : Bool) → is_of kind z ≡ b → IfOk (cond b (Ok z) (Err f)) (IsOf kind)
checked kind z f true e = IsOf-is_of kind z e
checked kind z f false e = tt

pub settle-kept : (kind : Kind) (z : ℤ) → IfOk (settle kind z) (IsOf kind)
unfolding settle
settle-kept Char z = checked Char z _ (is_of Char z) refl
settle-kept UChar z = IsOf-convert UChar z
settle-kept Int z = checked Int z _ (is_of Int z) refl
settle-kept UInt z = IsOf-convert UInt z
settle-kept Long z = checked Long z _ (is_of Long z) refl
settle-kept ULong z = IsOf-convert ULong z

-- a remainder lies between 0 and the dividend
pub rem_between : (kind : Kind) (x y : ℤ) → IsOf kind x → IsOf kind (int_rem x y)
rem_between kind (pos a) y h =
    let s = (spans kind).below in let m : a % unsigned_abs y ≤ a = mod-le a (unsigned_abs y) in
    record { low = omega (arith, ints); high = omega (arith, ints) }
rem_between kind (negsuc a) y h =
    let s = (spans kind).above in let m : suc a % unsigned_abs y ≤ suc a = mod-le (suc a) (unsigned_abs y) in
    record { low = omega (arith, ints); high = omega (arith, ints) }

divided-kept : (kind : Kind) (x y z : ℤ) → (is_of kind (int_div x y) ≡ true → IsOf kind z) → IfOk (divided kind x y z) (IsOf kind)
unfolding divided
divided-kept kind x y z h = go (int_eq y (pos 0)) (is_of kind (int_div x y)) h
  where
    go : (a b : Bool) → (b ≡ true → IsOf kind z) → IfOk {E = Fault} (cond a (Err F.Divide) (cond b (Ok z) (Err F.Overflow))) (IsOf kind)
    go true b k = tt
    go false true k = k refl
    go false false k = tt

shift_left-kept : (kind : Kind) (x y : ℤ) → IfOk (shift_left kind x y) (IsOf kind)
unfolding shift_left
shift_left-kept kind x y = elim (can_shift kind y) as (λ b. IfOk (cond b (settle kind (x *ℤ pos (2 ^ unsigned_abs y))) (Err F.Shift)) (IsOf kind)) [ true ↦ settle-kept kind (x *ℤ pos (2 ^ unsigned_abs y)) | false ↦ tt ]

-- the floor of a quotient by a power lies between the dividend and 0 or -1
pub floor_between : (kind : Kind) (x : ℤ) (n : ℕ) → IsOf kind x → IsOf kind (int_div_euclid x (pos n))
floor_between kind (pos a) n h =
    let s = (spans kind).below in let m : a / n ≤ a = div-le_self a n in
    record { low = omega (arith, ints); high = omega (arith, ints) }
floor_between kind (negsuc a) n h =
    let s = (spans kind).above in let m : a / n ≤ a = div-le_self a n in
    record { low = omega (arith, ints); high = omega (arith, ints) }

shift_right-kept : (kind : Kind) (x y : ℤ) → IsOf kind x → IfOk (shift_right kind x y) (IsOf kind)
unfolding shift_right
shift_right-kept kind x y h = elim (can_shift kind y) as (λ b. IfOk (cond b (Ok (int_div_euclid x (pos (2 ^ unsigned_abs y)))) (Err F.Shift)) (IsOf kind)) [ true ↦ floor_between kind x (2 ^ unsigned_abs y) h | false ↦ tt ]

pub truth-kept : (b : Bool) → IsOf Int (truth b)
truth-kept true = record { low = omega (arith, ints); high = omega (arith, ints) }
truth-kept false = record { low = omega (arith, ints); high = omega (arith, ints) }

-- the value that an operator gives is one of its result kind, so it may be an operand again
pub binary-kept : (op : Op) (kind : Kind) (x y : ℤ) → IsOf kind x → IfOk (binary op kind x y) (IsOf (result_kind op kind))
binary-kept Mul kind x y h = settle-kept kind (x *ℤ y)
binary-kept Div kind x y h = divided-kept kind x y (int_div x y) (IsOf-is_of kind (int_div x y))
binary-kept Rem kind x y h = divided-kept kind x y (int_rem x y) (λ _. rem_between kind x y h)
binary-kept Add kind x y h = settle-kept kind (x +ℤ y)
binary-kept Sub kind x y h = settle-kept kind (x -ℤ y)
binary-kept Shl kind x y h = shift_left-kept kind x y
binary-kept Shr kind x y h = shift_right-kept kind x y h
binary-kept Lt kind x y h = truth-kept (int_lt x y)
binary-kept Le kind x y h = truth-kept (int_le x y)
binary-kept Gt kind x y h = truth-kept (int_lt y x)
binary-kept Ge kind x y h = truth-kept (int_le y x)
binary-kept Eq kind x y h = truth-kept (int_eq x y)
binary-kept Ne kind x y h = truth-kept (not (int_eq x y))
binary-kept BitAnd kind x y h = IsOf-convert kind (pos (bit_and (bits_of kind x) (bits_of kind y)))
binary-kept BitXor kind x y h = IsOf-convert kind (pos (bit_xor (bits_of kind x) (bits_of kind y)))
binary-kept BitOr kind x y h = IsOf-convert kind (pos (bit_or (bits_of kind x) (bits_of kind y)))

-- the same, of a result that is known by an equation
pub binary-result : (op : Op) (kind : Kind) (x y : ℤ) (r : Result ℤ Fault) → r ≡ binary op kind x y → IsOf kind x → IfOk r (IsOf (result_kind op kind))
binary-result op kind x y r e h = rw e (binary-kept op kind x y h)

pub negate-result : (kind : Kind) (x : ℤ) (r : Result ℤ Fault) → r ≡ negate kind x → IfOk r (IsOf kind)
negate-result kind x r e = rw e (settle-kept kind (neg_ℤ x))

-- a value of the kind, or of some kind at a shift, may stand at the right
pub IsRight-IsOf : (op : Op) (kind : Kind) (y : ℤ) → IsOf kind y → IsRight op kind y
IsRight-IsOf Shl kind y h = IsOfSome-IsOf kind y h
IsRight-IsOf Shr kind y h = IsOfSome-IsOf kind y h
IsRight-IsOf Mul kind y h = h
IsRight-IsOf Div kind y h = h
IsRight-IsOf Rem kind y h = h
IsRight-IsOf Add kind y h = h
IsRight-IsOf Sub kind y h = h
IsRight-IsOf Lt kind y h = h
IsRight-IsOf Le kind y h = h
IsRight-IsOf Gt kind y h = h
IsRight-IsOf Ge kind y h = h
IsRight-IsOf Eq kind y h = h
IsRight-IsOf Ne kind y h = h
IsRight-IsOf BitAnd kind y h = h
IsRight-IsOf BitXor kind y h = h
IsRight-IsOf BitOr kind y h = h

-- for a caller whose operands are values of the kind
pub ruleset operands = (IsRight-IsOf, IsOfSome-IsOf)

-- ---- division

rem_sign : (x y : ℤ) → HasSignOf x (int_rem x y)
rem_sign (pos a) y = record { negative = λ h. let m : a % unsigned_abs y ≤ a = mod-le a (unsigned_abs y) in omega (arith, ints); positive = λ h. omega (arith, ints) }
rem_sign (negsuc a) y = record { negative = λ h. omega (arith, ints); positive = λ h. absurd (omega (arith, ints)) }

divides_back : (x y : ℤ) → int_eq y (pos 0) ≡ false → DividesBack x y (int_div x y) (int_rem x y)
divides_back x y h = record { whole = quot-rem x y; sign = rem_sign x y; size = rem_below x y (nonzero y h) }
  where
    nonzero : (y : ℤ) → int_eq y (pos 0) ≡ false → 0 < unsigned_abs y
    nonzero (pos zero) h = absurd (grind (arith, ints))
    nonzero (pos (suc n)) h = omega arith
    nonzero (negsuc n) h = omega arith

-- what a division that does not fault gives
divided_out : (kind : Kind) (x y z v : ℤ) → divided kind x y z ≡ Ok v → (int_eq y (pos 0) ≡ false) × (v ≡ z)
unfolding divided
divided_out kind x y z v e = go (int_eq y (pos 0)) (is_of kind (int_div x y)) e
  where
    go : (a b : Bool) → cond {A = Result ℤ Fault} a (Err F.Divide) (cond b (Ok z) (Err F.Overflow)) ≡ Ok v → (a ≡ false) × (v ≡ z)
    go true b k = (absurd (cc), absurd (cc))
    go false true k = (refl, cc)
    go false false k = (refl, absurd (cc))

-- C11 6.5.5p6
pub division_truncates : DivisionTruncates
division_truncates kind x y q r e f =
    let d = divided_out kind x y (int_div x y) q e in
    let m = divided_out kind x y (int_rem x y) r f in
    rw (d.1, m.1) (divides_back x y d.0)

-- ---- what the code computes

-- a right shift of two's complement rounds down
pub int_shr-floor : (x : ℤ) (k : ℕ) → int_shr x k ≡ int_div_euclid x (pos (2 ^ k))
int_shr-floor (pos a) k = refl
int_shr-floor (negsuc a) k = refl
