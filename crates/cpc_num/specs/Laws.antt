-- Laws of the numbers, in the words of the C standard.
use Rattle.std.specs.Prelude.{◌≡◌, ◌<◌, ℤ, pos, ◌+ℤ◌, ◌*ℤ◌, ◌≤ℤ◌, unsigned_abs, Ok}
use Rattle.cpc_num.specs.declared.kinds.Kind.{Kind}
use Rattle.cpc_num.specs.declared.kinds.Op.TheVariants.{Div, Rem}
use Rattle.cpc_num.specs.Number.{binary}

-- r has no sign, or the sign of x
pub record HasSignOf (x r : ℤ) : Type 0 where
  pub negative : x ≤ℤ pos 0 → r ≤ℤ pos 0
  pub positive : pos 0 ≤ℤ x → pos 0 ≤ℤ r

-- q and r are a quotient and a remainder of x by y, as C11 6.5.5p6 has them
pub record DividesBack (x y q r : ℤ) : Type 0 where
  pub whole : q *ℤ y +ℤ r ≡ x
  pub sign : HasSignOf x r
  pub size : unsigned_abs r < unsigned_abs y

-- where neither `x / y` nor `x % y` faults, they are the quotient and the remainder
abbrev pub DivisionTruncates : Type 0
DivisionTruncates = (kind : Kind) (x y q r : ℤ) → binary Div kind x y ≡ Ok q → binary Rem kind x y ≡ Ok r → DividesBack x y q r
