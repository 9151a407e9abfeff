-- Ranges, residues and conversion: what is converted is a value of the kind, congruent, and itself where it was one.
use Rattle.std.proofs.Common.{◌≡◌, ℕ, ◌*◌, ◌%◌, ◌^◌, ◌<◌, true, false, cond, ℤ, pos, negsuc, ◌+ℤ◌, ◌-ℤ◌, ◌≤ℤ◌, ◌<ℤ◌, refl, ap, ◌∙◌, arith}
use Rattle.std.proofs.lemmas.Int.{ints, int_rem_euclid_is}
use Rattle.std.proofs.lemmas.Nat.{mod_below, pow_pos}
use Rattle.std.proofs.Math.Nat.{mod-eq_of_lt}
use Rattle.std.specs.Prelude.{if◌then◌else◌, nat_lt, int_le}
use Rattle.std.specs.Int.{int_rem_euclid}
use Rattle.cpc_num.specs.declared.kinds.Kind.{Kind}
use Rattle.cpc_num.specs.declared.kinds.Kind.TheVariants.{Char, UChar, Int, UInt, Long, ULong}
use Rattle.cpc_num.specs.Number.{bits, rank, same_kind, promoted, common, IsOf, IsOfSome, is_of, least, greatest, residue, convert}

-- ---- residues

-- a residue is at least 0 and below the modulus
pub rem_euclid_bounds : (z : ℤ) (n : ℕ) → 0 < n → (pos 0 ≤ℤ int_rem_euclid z (pos n)) × (int_rem_euclid z (pos n) <ℤ pos n)
rem_euclid_bounds (pos a) n h = let b : a % n < n = mod_below a n h in (omega (arith, ints), omega (arith, ints))
rem_euclid_bounds (negsuc a) n h = (omega (arith, ints), omega (arith, ints))

-- a residue's own residue, and that of the number one modulus below it
rem_euclid_again : (r : ℤ) (n : ℕ) → pos 0 ≤ℤ r → r <ℤ pos n → int_rem_euclid r (pos n) ≡ r
rem_euclid_again (pos a) n h k = let below : a < n = omega (arith, ints) in ap pos (mod-eq_of_lt below)
rem_euclid_again (negsuc a) n h k = absurd (omega (arith, ints))

rem_euclid_below : (r : ℤ) (n : ℕ) → pos 0 ≤ℤ r → r <ℤ pos n → int_rem_euclid (r -ℤ pos n) (pos n) ≡ r
rem_euclid_below (pos a) n h k =
    let below : a < n = omega (arith, ints) in
    let up : (pos a -ℤ pos n) +ℤ pos (1 * n) ≡ pos a = omega (arith, ints) in
    int_rem_euclid_is (pos a -ℤ pos n) (pos n) n 1 a (omega arith) refl up ∙ ap pos (mod-eq_of_lt below)
rem_euclid_below (negsuc a) n h k = absurd (omega (arith, ints))

-- a number from -n to -1 has itself and n as its residue
rem_euclid_negative : (a n : ℕ) → a < n → int_rem_euclid (negsuc a) (pos n) ≡ negsuc a +ℤ pos n
rem_euclid_negative a n h = let e : a % n ≡ a = mod-eq_of_lt h in omega (arith, ints)

-- ---- the range of a kind

-- from low to high are n numbers, 0 among them
pub record Spans (low high : ℤ) (n : ℕ) : Type 0 where
  pub below : low ≤ℤ pos 0
  pub above : pos 0 ≤ℤ high
  pub count : low +ℤ pos n ≡ high +ℤ pos 1

pub spans : (kind : Kind) → Spans (least kind) (greatest kind) (2 ^ bits kind)
spans Char = record { below = omega (arith, ints); above = omega (arith, ints); count = refl }
spans UChar = record { below = omega (arith, ints); above = omega (arith, ints); count = refl }
spans Int = record { below = omega (arith, ints); above = omega (arith, ints); count = refl }
spans UInt = record { below = omega (arith, ints); above = omega (arith, ints); count = refl }
spans Long = record { below = omega (arith, ints); above = omega (arith, ints); count = refl }
spans ULong = record { below = omega (arith, ints); above = omega (arith, ints); count = refl }

-- the number of a residue class that stands in a range
abbrev chosen : ℤ → ℤ → ℤ → ℤ
chosen r high m = if int_le r high then r else r -ℤ m

chosen_in_range : (r low high : ℤ) (n : ℕ) → Spans low high n → pos 0 ≤ℤ r → r <ℤ pos n → (low ≤ℤ chosen r high (pos n)) × (chosen r high (pos n) ≤ℤ high)
chosen_in_range r low high n s h k = let b = s.below in let a = s.above in let c = s.count in grind (arith, ints)

chosen_congruent : (r high : ℤ) (n : ℕ) → pos 0 ≤ℤ r → r <ℤ pos n → int_rem_euclid (chosen r high (pos n)) (pos n) ≡ r
chosen_congruent r high n h k =
    elim (int_le r high) as (λ b. int_rem_euclid (cond b r (r -ℤ pos n)) (pos n) ≡ r) [ true ↦ rem_euclid_again r n h k | false ↦ rem_euclid_below r n h k ]

chosen_same : (z low high : ℤ) (n : ℕ) → Spans low high n → low ≤ℤ z → z ≤ℤ high → chosen (int_rem_euclid z (pos n)) high (pos n) ≡ z
chosen_same (pos a) low high n s h k =
    let b = s.below in let c = s.count in
    let below : a < n = omega (arith, ints) in
    let e : a % n ≡ a = mod-eq_of_lt below in
    rw e (grind (arith, ints))
chosen_same (negsuc a) low high n s h k =
    let b = s.below in let c = s.count in
    let below : a < n = omega (arith, ints) in
    rw (rem_euclid_negative a n below) (grind (arith, ints))

-- ---- conversion

-- what is converted is a value of the kind
pub IsOf-convert : (kind : Kind) (z : ℤ) → IsOf kind (convert kind z)
IsOf-convert kind z =
    let b = rem_euclid_bounds z (2 ^ bits kind) (pow_pos (bits kind)) in
    let h = chosen_in_range (residue kind z) (least kind) (greatest kind) (2 ^ bits kind) (spans kind) b.0 b.1 in
    record { low = h.0; high = h.1 }

-- a conversion keeps the number modulo 2 ^ bits
pub residue-convert : (kind : Kind) (z : ℤ) → residue kind (convert kind z) ≡ residue kind z
residue-convert kind z = let b = rem_euclid_bounds z (2 ^ bits kind) (pow_pos (bits kind)) in chosen_congruent (residue kind z) (greatest kind) (2 ^ bits kind) b.0 b.1

-- a value of the kind is converted to itself
pub convert-same : (kind : Kind) (z : ℤ) → IsOf kind z → convert kind z ≡ z
convert-same kind z h = chosen_same z (least kind) (greatest kind) (2 ^ bits kind) (spans kind) h.low h.high

-- a second conversion changes nothing
pub convert-convert : (kind : Kind) (z : ℤ) → convert kind (convert kind z) ≡ convert kind z
convert-convert kind z = convert-same kind (convert kind z) (IsOf-convert kind z)

-- ---- values of kinds

-- the test says what the fact says
pub IsOf-is_of : (kind : Kind) (z : ℤ) → is_of kind z ≡ true → IsOf kind z
IsOf-is_of kind z h = record { low = grind (arith, ints); high = grind (arith, ints) }

pub is_of-IsOf : (kind : Kind) (z : ℤ) → IsOf kind z → is_of kind z ≡ true
is_of-IsOf kind z h = let l = h.low in let k = h.high in grind (arith, ints)

-- a value of a kind is a value of some kind, and the other way round
pub IsOfSome-IsOf : (kind : Kind) (z : ℤ) → IsOf kind z → IsOfSome z
IsOfSome-IsOf Char z h = record { low = omega (arith, ints); high = omega (arith, ints) }
IsOfSome-IsOf UChar z h = record { low = omega (arith, ints); high = omega (arith, ints) }
IsOfSome-IsOf Int z h = record { low = omega (arith, ints); high = omega (arith, ints) }
IsOfSome-IsOf UInt z h = record { low = omega (arith, ints); high = omega (arith, ints) }
IsOfSome-IsOf Long z h = record { low = omega (arith, ints); high = omega (arith, ints) }
IsOfSome-IsOf ULong z h = record { low = omega (arith, ints); high = omega (arith, ints) }

pub IsOfSome-out : (z : ℤ) → IsOfSome z → (kind : Kind) × IsOf kind z
IsOfSome-out (pos a) h = (ULong, record { low = omega (arith, ints); high = h.high })
IsOfSome-out (negsuc a) h = (Long, record { low = h.low; high = omega (arith, ints) })

-- ---- promotion

-- kinds that are the same by their test
pub same_kind-refl : (kind : Kind) → same_kind kind kind ≡ true
same_kind-refl Char = refl
same_kind-refl UChar = refl
same_kind-refl Int = refl
same_kind-refl UInt = refl
same_kind-refl Long = refl
same_kind-refl ULong = refl

-- a promotion changes no value (C11 6.3.1.1p3)
pub IsOf-promoted : (kind : Kind) (z : ℤ) → IsOf kind z → IsOf (promoted kind) z
IsOf-promoted Char z h = record { low = omega (arith, ints); high = omega (arith, ints) }
IsOf-promoted UChar z h = record { low = omega (arith, ints); high = omega (arith, ints) }
IsOf-promoted Int z h = h
IsOf-promoted UInt z h = h
IsOf-promoted Long z h = h
IsOf-promoted ULong z h = h

pub promoted-promoted : (kind : Kind) → promoted (promoted kind) ≡ promoted kind
promoted-promoted Char = refl
promoted-promoted UChar = refl
promoted-promoted Int = refl
promoted-promoted UInt = refl
promoted-promoted Long = refl
promoted-promoted ULong = refl

-- the common kind is a promoted one
pub promoted-common : (a b : Kind) → promoted (common a b) ≡ common a b
promoted-common a b =
    elim (nat_lt (rank (promoted a)) (rank (promoted b))) as (λ t. promoted (cond t (promoted b) (promoted a)) ≡ cond t (promoted b) (promoted a))
    [ true ↦ promoted-promoted b | false ↦ promoted-promoted a ]
