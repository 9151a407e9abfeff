-- A literal passes through 128 bits as it is.
use Rattle.std.proofs.Common.{◌≡◌, ℤ, arith, to_z, of_z, to_z-of_z, FitsSigned, subst, rules}
use Rattle.std.proofs.lemmas.Int.{ints}
use Rattle.std.specs.Int.{w128}
use Rattle.cpc_num.specs.declared.kinds.Kind.{Kind}
use Rattle.cpc_num.specs.declared.kinds.Kind.TheVariants.{Char, UChar, Int, UInt, Long, ULong}
use Rattle.cpc_num.specs.Number.{IsOf}
use Rattle.cpc_store.specs.Store.{Value, Whole}

kind_fits : (kind : Kind) (z : ℤ) → IsOf kind z → FitsSigned w128 z
kind_fits Char z h = first_of (grind (arith, ints), search (rules, ints), omega (arith, ints))
kind_fits UChar z h = first_of (grind (arith, ints), search (rules, ints), omega (arith, ints))
kind_fits Int z h = first_of (grind (arith, ints), search (rules, ints), omega (arith, ints))
kind_fits UInt z h = first_of (grind (arith, ints), search (rules, ints), omega (arith, ints))
kind_fits Long z h = first_of (grind (arith, ints), search (rules, ints), omega (arith, ints))
kind_fits ULong z h = first_of (grind (arith, ints), search (rules, ints), omega (arith, ints))

pub literal_is : (kind : Kind) (z : ℤ) (v : Value) → (IsOf kind (to_z w128 (of_z w128 z)) → v ≡ Whole kind (to_z w128 (of_z w128 z))) → IsOf kind z → v ≡ Whole kind z
literal_is kind z v g h = let P : ℤ → Type 0 = λ y. IsOf kind y → v ≡ Whole kind y in subst P (to_z-of_z (kind_fits kind z h)) g h
