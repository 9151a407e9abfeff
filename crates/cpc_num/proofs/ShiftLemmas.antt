-- The cases of a shift, and the size of what a left shift multiplies.
use Rattle.std.proofs.Common.{◌≡◌, ◌≤◌, ◌^◌, ◌-◌, ◌*ℤ◌, ◌≤ℤ◌, ◌<ℤ◌, FitsSigned, ℕ, true, false, ℤ, pos, arith, refl, Ok, Err}
use Rattle.std.proofs.lemmas.Int.{ints, fits_signed_mul}
use Rattle.std.specs.Int.{w128, int_div_euclid}
use Rattle.std.specs.Prelude.{unsigned_abs}
use Rattle.cpc_num.specs.declared.kinds.Kind.{Kind}
use Rattle.cpc_num.specs.declared.kinds.Kind.TheVariants.{Char, UChar, Int, UInt, Long, ULong}
use Rattle.cpc_num.specs.declared.kinds.Fault.TheVariants as F
use Rattle.cpc_num.specs.Number.{IsOfSome, bits, can_shift, settle, shift_left, shift_right}

narrow : (kind : Kind) → bits kind ≤ 64
narrow Char = omega arith
narrow UChar = omega arith
narrow Int = omega arith
narrow UInt = omega arith
narrow Long = omega arith
narrow ULong = omega arith

-- what the amount of a shift is
pub shift_low : (kind : Kind) (y : ℤ) → can_shift kind y ≡ true → pos 0 ≤ℤ y
shift_low kind y h = grind (arith, ints)

pub shift_high : (kind : Kind) (y : ℤ) → can_shift kind y ≡ true → y <ℤ pos 64
shift_high kind y h = let n = narrow kind in grind (arith, ints)

-- what is shifted has 64 bits and a sign at most, and the power 63
wide : (x : ℤ) → IsOfSome x → unsigned_abs x ≤ 2 ^ 64 - 1
wide x h = let l = h.low in let k = h.high in grind (arith, ints)

power_size : (p : ℤ) (n : ℕ) → p ≡ pos n → p ≤ℤ pos (2 ^ 63) → unsigned_abs p ≤ 2 ^ 63
power_size p n e k = grind (arith, ints)

pub shift_fits : (x p : ℤ) (n : ℕ) → IsOfSome x → p ≡ pos n → p ≤ℤ pos (2 ^ 63) → FitsSigned w128 (x *ℤ p)
shift_fits x p n h e k = fits_signed_mul w128 x p (2 ^ 64 - 1) (2 ^ 63) (wide x h) (power_size p n e k) (omega arith)

-- what a shift gives
pub shifted_left : (kind : Kind) (x y : ℤ) → can_shift kind y ≡ true → shift_left kind x y ≡ settle kind (x *ℤ pos (2 ^ unsigned_abs y))
unfolding shift_left
shifted_left kind x y h = rw h refl

pub unshifted_left : (kind : Kind) (x y : ℤ) → can_shift kind y ≡ false → shift_left kind x y ≡ Err F.Shift
unfolding shift_left
unshifted_left kind x y h = rw h refl

pub shifted_right : (kind : Kind) (x y : ℤ) → can_shift kind y ≡ true → shift_right kind x y ≡ Ok (int_div_euclid x (pos (2 ^ unsigned_abs y)))
unfolding shift_right
shifted_right kind x y h = rw h refl

pub unshifted_right : (kind : Kind) (x y : ℤ) → can_shift kind y ≡ false → shift_right kind x y ≡ Err F.Shift
unfolding shift_right
unshifted_right kind x y h = rw h refl
