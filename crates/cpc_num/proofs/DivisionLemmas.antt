-- The cases of a division, and the size of a product.
use Rattle.std.proofs.Common.{◌≡◌, ◌≢◌, zero, suc, ◌^◌, ◌≤◌, ◌*ℤ◌, FitsSigned, true, false, ℤ, pos, negsuc, refl, arith, Ok, Err, of_z}
use Rattle.std.proofs.lemmas.Int.{ints, fits_signed_mul}
use Rattle.std.specs.Int.{w128}
use Rattle.std.specs.Prelude.{int_div, unsigned_abs}
use Rattle.std.specs.Ordering.{int_eq}
use Rattle.cpc_num.specs.declared.kinds.Kind.{Kind}
use Rattle.cpc_num.specs.declared.kinds.Kind.TheVariants.{Char, UChar, Int, UInt, Long, ULong}
use Rattle.cpc_num.specs.declared.kinds.Fault.TheVariants as F
use Rattle.cpc_num.specs.Number.{is_of, divided, IsOf}

not_zero : (y : ℤ) → (of_z w128 y ≡ 0 → ⊥) → int_eq y (pos 0) ≡ false
not_zero (pos zero) h = absurd (h refl)
not_zero (pos (suc n)) h = grind (arith, ints)
not_zero (negsuc n) h = grind (arith, ints)

pub divided_by_zero : (kind : Kind) (x y z : ℤ) → of_z w128 y ≡ 0 → y ≡ pos 0 → divided kind x y z ≡ Err F.Divide
unfolding divided
divided_by_zero kind x y z h e = rw e refl

pub divided_fits : (kind : Kind) (x y z : ℤ) → (of_z w128 y ≡ 0 → ⊥) → is_of kind (int_div x y) ≡ true → divided kind x y z ≡ Ok z
unfolding divided
divided_fits kind x y z h e = rw (not_zero y h, e) refl

pub divided_overflows : (kind : Kind) (x y z : ℤ) → (of_z w128 y ≡ 0 → ⊥) → is_of kind (int_div x y) ≡ false → divided kind x y z ≡ Err F.Overflow
unfolding divided
divided_overflows kind x y z h e = rw (not_zero y h, e) refl

pub ruleset dividing = (divided_by_zero, divided_fits, divided_overflows)

-- two values of a kind other than unsigned long have a product of at most 126 bits
narrow : (kind : Kind) (x : ℤ) → kind ≢ ULong → IsOf kind x → unsigned_abs x ≤ 2 ^ 63
narrow Char x n h = grind (arith, ints)
narrow UChar x n h = grind (arith, ints)
narrow Int x n h = grind (arith, ints)
narrow UInt x n h = grind (arith, ints)
narrow Long x n h = grind (arith, ints)
narrow ULong x n h = absurd (n refl)

pub product_fits : (kind : Kind) (x y : ℤ) → kind ≢ ULong → IsOf kind x → IsOf kind y → FitsSigned w128 (x *ℤ y)
product_fits kind x y n h k = fits_signed_mul w128 x y (2 ^ 63) (2 ^ 63) (narrow kind x n h) (narrow kind y n k) (omega arith)
