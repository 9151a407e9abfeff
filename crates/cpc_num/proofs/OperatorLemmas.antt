-- An operator that is known by an equation, and the size of a sum and of a difference.
use Rattle.std.proofs.Common.{◌≡◌, ◌+ℤ◌, ◌-ℤ◌, FitsSigned, ℤ, arith, sym, ap, ◌∙◌, subst, Result}
use Rattle.std.proofs.lemmas.Int.{ints, fits_signed_from_abs}
use Rattle.std.specs.Int.{w128}
use Rattle.cpc_num.specs.declared.kinds.Kind.{Kind}
use Rattle.cpc_num.specs.declared.kinds.Fault.{Fault}
use Rattle.cpc_num.specs.declared.kinds.Op.{Op}
use Rattle.cpc_num.specs.Number.{IsOf, IsOfSome, binary, result_kind}
use Rattle.cpc_num.proofs.KindLemmas.{IsOfSome-IsOf}

-- what an operator gives, of one that is known by an equation
pub of_operator : (op o : Op) (kind : Kind) (x y : ℤ) (r : Result ℤ Fault) → op ≡ o → r ≡ binary o kind x y → r ≡ binary op kind x y
of_operator op o kind x y r e h = h ∙ ap (λ p. binary p kind x y) (sym e)

pub kept_as : (op o : Op) (kind : Kind) (z : ℤ) → op ≡ o → IsOf (result_kind o kind) z → IsOf (result_kind op kind) z
kept_as op o kind z e h = subst (λ p. IsOf (result_kind p kind) z) (sym e) h

some_sum_fits : (x y : ℤ) → IsOfSome x → IsOfSome y → FitsSigned w128 (x +ℤ y)
some_sum_fits x y h k = let a = h.low in let b = h.high in let c = k.low in let d = k.high in fits_signed_from_abs w128 (x +ℤ y) (grind (arith, ints))

some_difference_fits : (x y : ℤ) → IsOfSome x → IsOfSome y → FitsSigned w128 (x -ℤ y)
some_difference_fits x y h k = let a = h.low in let b = h.high in let c = k.low in let d = k.high in fits_signed_from_abs w128 (x -ℤ y) (grind (arith, ints))

pub sum_fits : (kind : Kind) (x y : ℤ) → IsOf kind x → IsOf kind y → FitsSigned w128 (x +ℤ y)
sum_fits kind x y h k = some_sum_fits x y (IsOfSome-IsOf kind x h) (IsOfSome-IsOf kind y k)

pub difference_fits : (kind : Kind) (x y : ℤ) → IsOf kind x → IsOf kind y → FitsSigned w128 (x -ℤ y)
difference_fits kind x y h k = some_difference_fits x y (IsOfSome-IsOf kind x h) (IsOfSome-IsOf kind y k)
