use Rattle.std.proofs.Common.{◌≡◌, sym, ◌∙◌, subst, arith, to_z, of_z, to_z-of_z, FitsSigned, ◌*ℤ◌, ◌≤ℤ◌, ◌<ℤ◌, pos, ◌^◌, true, false}
use Rattle.std.specs.Int.{w128}
use Rattle.std.specs.Prelude.{unsigned_abs}
use Rattle.cpc_num.specs.Number.{can_shift, settle}
use Rattle.cpc_num.proofs.ShiftLemmas.{shift_low, shift_high, shift_fits, shifted_left, unshifted_left}
use Rattle.cpc_num.proofs.arithmetic.shift_left.Goals as goal

pub power-requires-clause-low : goal.power-requires-clause-low
power-requires-clause-low c =
    let q : to_z w128 (of_z w128 c.args.amount) ≡ c.args.amount = to_z-of_z c.ranges.amount in
    let t : can_shift c.args.kind c.args.amount ≡ true = cc in
    subst (λ z. pos 0 ≤ℤ z) (sym q) (shift_low c.args.kind c.args.amount t)

pub power-requires-clause-high : goal.power-requires-clause-high
power-requires-clause-high c =
    let q : to_z w128 (of_z w128 c.args.amount) ≡ c.args.amount = to_z-of_z c.ranges.amount in
    let t : can_shift c.args.kind c.args.amount ≡ true = cc in
    subst (λ z. z <ℤ pos 64) (sym q) (shift_high c.args.kind c.args.amount t)

pub overflow_mul-left : goal.overflow_mul-left
overflow_mul-left c =
    let f : FitsSigned w128 (c.args.left *ℤ c.power.result) = shift_fits c.args.left c.power.result _ c.requires c.power.ensures.value c.power.ensures.high in
    grind (arith, to_z-of_z)

pub returns-then-can_shift-clause-value : goal.returns-then-can_shift-clause-value
returns-then-can_shift-clause-value c =
    let kind = c.args.kind in
    let left = c.args.left in
    let l : to_z w128 (of_z w128 left) ≡ left = to_z-of_z c.ranges.left in
    let q : to_z w128 (of_z w128 c.args.amount) ≡ c.args.amount = to_z-of_z c.ranges.amount in
    let p : to_z w128 (of_z w128 c.power.result) ≡ c.power.result = to_z-of_z {w = w128} (record { sfits = c.power.type_inv }) in
    let f : FitsSigned w128 (left *ℤ c.power.result) = shift_fits left c.power.result _ c.requires c.power.ensures.value c.power.ensures.high in
    let v : c.power.result ≡ pos (2 ^ unsigned_abs c.args.amount) = c.power.ensures.value ∙ (λ i. pos (2 ^ unsigned_abs (q i))) in
    let t : can_shift kind c.args.amount ≡ true = cc in
    c.settle.ensures.value ∙ (λ i. settle kind (to_z w128 (of_z w128 (l i *ℤ p i)))) ∙ (λ i. settle kind (to_z-of_z f i)) ∙ (λ i. settle kind (left *ℤ v i)) ∙ sym (shifted_left kind left c.args.amount t)

pub returns-then-can_shift-clause-kept : goal.returns-then-can_shift-clause-kept
returns-then-can_shift-clause-kept c = c.settle.ensures.kept

pub returns-else-can_shift-clause-value : goal.returns-else-can_shift-clause-value
returns-else-can_shift-clause-value c =
    let q : to_z w128 (of_z w128 c.args.amount) ≡ c.args.amount = to_z-of_z c.ranges.amount in
    let t : can_shift c.args.kind c.args.amount ≡ false = cc in
    sym (unshifted_left c.args.kind c.args.left c.args.amount t)

pub returns-else-can_shift-clause-kept : goal.returns-else-can_shift-clause-kept
returns-else-can_shift-clause-kept c = tt
