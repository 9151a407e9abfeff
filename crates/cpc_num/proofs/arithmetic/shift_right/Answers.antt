use Rattle.std.proofs.Common.{◌≡◌, sym, ap, ◌∙◌, subst, to_z, of_z, to_z-of_z, ◌≤ℤ◌, ◌<ℤ◌, pos, ◌^◌, true, false, Ok}
use Rattle.std.specs.Int.{w128, int_div_euclid}
use Rattle.std.specs.Prelude.{unsigned_abs}
use Rattle.cpc_num.specs.Number.{IsOf, can_shift}
use Rattle.cpc_num.proofs.ShiftLemmas.{shift_low, shift_high, shifted_right, unshifted_right}
use Rattle.cpc_num.proofs.arithmetic.shift_right.Goals as goal

pub floor-requires-clause-left_of_kind : goal.floor-requires-clause-left_of_kind
floor-requires-clause-left_of_kind c = subst (IsOf c.args.kind) (sym (to_z-of_z c.ranges.left)) c.requires

pub floor-requires-clause-low : goal.floor-requires-clause-low
floor-requires-clause-low c =
    let q : to_z w128 (of_z w128 c.args.amount) ≡ c.args.amount = to_z-of_z c.ranges.amount in
    let t : can_shift c.args.kind c.args.amount ≡ true = cc in
    subst (λ z. pos 0 ≤ℤ z) (sym q) (shift_low c.args.kind c.args.amount t)

pub floor-requires-clause-high : goal.floor-requires-clause-high
floor-requires-clause-high c =
    let q : to_z w128 (of_z w128 c.args.amount) ≡ c.args.amount = to_z-of_z c.ranges.amount in
    let t : can_shift c.args.kind c.args.amount ≡ true = cc in
    subst (λ z. z <ℤ pos 64) (sym q) (shift_high c.args.kind c.args.amount t)

pub returns-then-can_shift-clause-value : goal.returns-then-can_shift-clause-value
returns-then-can_shift-clause-value c =
    let l : to_z w128 (of_z w128 c.args.left) ≡ c.args.left = to_z-of_z c.ranges.left in
    let q : to_z w128 (of_z w128 c.args.amount) ≡ c.args.amount = to_z-of_z c.ranges.amount in
    let k : to_z w128 (of_z w128 c.floor.result) ≡ c.floor.result = to_z-of_z {w = w128} (record { sfits = c.floor.type_inv }) in
    let t : can_shift c.args.kind c.args.amount ≡ true = cc in
    ap Ok (k ∙ c.floor.ensures.value ∙ (λ i. int_div_euclid (l i) (pos (2 ^ unsigned_abs (q i))))) ∙ sym (shifted_right c.args.kind c.args.left c.args.amount t)

pub returns-then-can_shift-clause-kept : goal.returns-then-can_shift-clause-kept
returns-then-can_shift-clause-kept c =
    let k : to_z w128 (of_z w128 c.floor.result) ≡ c.floor.result = to_z-of_z {w = w128} (record { sfits = c.floor.type_inv }) in
    subst (IsOf c.args.kind) (sym k) c.floor.ensures.kept

pub returns-else-can_shift-clause-value : goal.returns-else-can_shift-clause-value
returns-else-can_shift-clause-value c =
    let q : to_z w128 (of_z w128 c.args.amount) ≡ c.args.amount = to_z-of_z c.ranges.amount in
    let t : can_shift c.args.kind c.args.amount ≡ false = cc in
    sym (unshifted_right c.args.kind c.args.left c.args.amount t)

pub returns-else-can_shift-clause-kept : goal.returns-else-can_shift-clause-kept
returns-else-can_shift-clause-kept c = tt
