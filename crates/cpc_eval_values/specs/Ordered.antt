-- What the comparisons of pointers compare, and when two moves of a pointer are as one.
use Rattle.std.specs.Prelude.{◌≡◌, Bool, ℤ, pos, negsuc, min, int_lt, int_le}
use Rattle.cpc_num.specs.declared.kinds.Op.{Op}
use Rattle.cpc_num.specs.declared.kinds.Op.TheVariants.{Lt, Le, Gt}

-- the test of `<`, `<=`, `>`, and else of `>=`
abbrev pub order_of : Op → ℤ → ℤ → Bool
order_of Lt j k = int_lt j k
order_of Le j k = int_le j k
order_of Gt j k = int_lt k j
order_of _ j k = int_le k j

-- a move of a pointer: 2 ^ 63 stands for itself and all above it, and - 2 ^ 63 for itself and all below it
abbrev pub limited : ℤ → ℤ
limited (pos n) = pos (min n 9223372036854775808)
limited (negsuc n) = negsuc (min n 9223372036854775807)

-- two moves that no block tells apart, since each has fewer than 2 ^ 63 cells
pub record AreAlike (d e : ℤ) : Type 0 where
  pub limited : limited d ≡ limited e
