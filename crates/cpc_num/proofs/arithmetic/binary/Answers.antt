use Rattle.std.proofs.Common.{◌≡◌, sym, ap, ◌∙◌, subst, to_z, of_z, to_z-of_z, FitsSigned, ◌+ℤ◌, ◌-ℤ◌, ◌*ℤ◌, Ok}
use Rattle.std.specs.Int.{w128}
use Rattle.std.specs.Prelude.{int_div, int_rem, int_lt, int_le}
use Rattle.cpc_num.specs.declared.kinds.Kind.TheVariants.{Int}
use Rattle.cpc_num.specs.declared.kinds.Op.TheVariants.{Mul, Div, Rem, Add, Sub, Shl, Shr, Lt, Le, Gt, Ge, Eq, Ne, BitAnd, BitXor, BitOr}
use Rattle.cpc_num.specs.Number.{IsOf, IsOfSome, IsRight, settle, divided, shift_left, shift_right, truth}
use Rattle.cpc_num.proofs.KindLemmas.{IsOfSome-IsOf}
use Rattle.cpc_num.proofs.OperatorLemmas.{of_operator, kept_as, sum_fits, difference_fits}
use Rattle.cpc_num.proofs.ResultLemmas.{binary-result, truth-kept}
use Rattle.cpc_num.proofs.arithmetic.binary.Goals as goal

pub product-requires-clause-left_of_kind : goal.product-requires-clause-left_of_kind
product-requires-clause-left_of_kind c = subst (IsOf c.args.kind) (sym (to_z-of_z c.ranges.left)) c.requires.left_of_kind

pub product-requires-clause-right_of_kind : goal.product-requires-clause-right_of_kind
product-requires-clause-right_of_kind c =
    let h : IsOf c.args.kind c.args.right = subst (λ o. IsRight o c.args.kind c.args.right) c.in-Mul.is c.requires.right_of_kind in
    subst (IsOf c.args.kind) (sym (to_z-of_z c.ranges.right)) h

pub quotient-requires : goal.quotient-requires
quotient-requires c = subst IsOfSome (sym (to_z-of_z c.ranges.left)) (IsOfSome-IsOf c.args.kind c.args.left c.requires.left_of_kind)

pub shift_left-requires : goal.shift_left-requires
shift_left-requires c = subst IsOfSome (sym (to_z-of_z c.ranges.left)) (IsOfSome-IsOf c.args.kind c.args.left c.requires.left_of_kind)

pub remainder-requires : goal.remainder-requires
remainder-requires c = subst (IsOf c.args.kind) (sym (to_z-of_z c.ranges.left)) c.requires.left_of_kind

pub shift_right-requires : goal.shift_right-requires
shift_right-requires c = subst (IsOf c.args.kind) (sym (to_z-of_z c.ranges.left)) c.requires.left_of_kind

pub overflow_add-left : goal.overflow_add-left
overflow_add-left c =
    let l : to_z w128 (of_z w128 c.args.left) ≡ c.args.left = to_z-of_z c.ranges.left in
    let r : to_z w128 (of_z w128 c.args.right) ≡ c.args.right = to_z-of_z c.ranges.right in
    let h : IsOf c.args.kind c.args.right = subst (λ o. IsRight o c.args.kind c.args.right) c.in-Add.is c.requires.right_of_kind in
    subst (FitsSigned w128) (λ i. sym l i +ℤ sym r i) (sum_fits c.args.kind c.args.left c.args.right c.requires.left_of_kind h)

pub overflow_sub-left : goal.overflow_sub-left
overflow_sub-left c =
    let l : to_z w128 (of_z w128 c.args.left) ≡ c.args.left = to_z-of_z c.ranges.left in
    let r : to_z w128 (of_z w128 c.args.right) ≡ c.args.right = to_z-of_z c.ranges.right in
    let h : IsOf c.args.kind c.args.right = subst (λ o. IsRight o c.args.kind c.args.right) c.in-Sub.is c.requires.right_of_kind in
    subst (FitsSigned w128) (λ i. sym l i -ℤ sym r i) (difference_fits c.args.kind c.args.left c.args.right c.requires.left_of_kind h)

pub returns-in-Mul-clause-value : goal.returns-in-Mul-clause-value
returns-in-Mul-clause-value c =
    let l : to_z w128 (of_z w128 c.args.left) ≡ c.args.left = to_z-of_z c.ranges.left in
    let r : to_z w128 (of_z w128 c.args.right) ≡ c.args.right = to_z-of_z c.ranges.right in
    of_operator c.args.op Mul c.args.kind c.args.left c.args.right _ c.in-Mul.is (c.product.ensures.value ∙ (λ i. settle c.args.kind (l i *ℤ r i)))

pub returns-in-Mul-clause-kept : goal.returns-in-Mul-clause-kept
returns-in-Mul-clause-kept c = binary-result c.args.op c.args.kind c.args.left c.args.right _ (returns-in-Mul-clause-value c) c.requires.left_of_kind

pub returns-in-Div-clause-value : goal.returns-in-Div-clause-value
returns-in-Div-clause-value c =
    let l : to_z w128 (of_z w128 c.args.left) ≡ c.args.left = to_z-of_z c.ranges.left in
    let r : to_z w128 (of_z w128 c.args.right) ≡ c.args.right = to_z-of_z c.ranges.right in
    of_operator c.args.op Div c.args.kind c.args.left c.args.right _ c.in-Div.is (c.quotient.ensures.value ∙ (λ i. divided c.args.kind (l i) (r i) (int_div (l i) (r i))))

pub returns-in-Div-clause-kept : goal.returns-in-Div-clause-kept
returns-in-Div-clause-kept c = binary-result c.args.op c.args.kind c.args.left c.args.right _ (returns-in-Div-clause-value c) c.requires.left_of_kind

pub returns-in-Rem-clause-value : goal.returns-in-Rem-clause-value
returns-in-Rem-clause-value c =
    let l : to_z w128 (of_z w128 c.args.left) ≡ c.args.left = to_z-of_z c.ranges.left in
    let r : to_z w128 (of_z w128 c.args.right) ≡ c.args.right = to_z-of_z c.ranges.right in
    of_operator c.args.op Rem c.args.kind c.args.left c.args.right _ c.in-Rem.is (c.remainder.ensures.value ∙ (λ i. divided c.args.kind (l i) (r i) (int_rem (l i) (r i))))

pub returns-in-Rem-clause-kept : goal.returns-in-Rem-clause-kept
returns-in-Rem-clause-kept c = binary-result c.args.op c.args.kind c.args.left c.args.right _ (returns-in-Rem-clause-value c) c.requires.left_of_kind

pub returns-in-Shl-clause-value : goal.returns-in-Shl-clause-value
returns-in-Shl-clause-value c =
    let l : to_z w128 (of_z w128 c.args.left) ≡ c.args.left = to_z-of_z c.ranges.left in
    let r : to_z w128 (of_z w128 c.args.right) ≡ c.args.right = to_z-of_z c.ranges.right in
    of_operator c.args.op Shl c.args.kind c.args.left c.args.right _ c.in-Shl.is (c.shift_left.ensures.value ∙ (λ i. shift_left c.args.kind (l i) (r i)))

pub returns-in-Shl-clause-kept : goal.returns-in-Shl-clause-kept
returns-in-Shl-clause-kept c = binary-result c.args.op c.args.kind c.args.left c.args.right _ (returns-in-Shl-clause-value c) c.requires.left_of_kind

pub returns-in-Shr-clause-value : goal.returns-in-Shr-clause-value
returns-in-Shr-clause-value c =
    let l : to_z w128 (of_z w128 c.args.left) ≡ c.args.left = to_z-of_z c.ranges.left in
    let r : to_z w128 (of_z w128 c.args.right) ≡ c.args.right = to_z-of_z c.ranges.right in
    of_operator c.args.op Shr c.args.kind c.args.left c.args.right _ c.in-Shr.is (c.shift_right.ensures.value ∙ (λ i. shift_right c.args.kind (l i) (r i)))

pub returns-in-Shr-clause-kept : goal.returns-in-Shr-clause-kept
returns-in-Shr-clause-kept c = binary-result c.args.op c.args.kind c.args.left c.args.right _ (returns-in-Shr-clause-value c) c.requires.left_of_kind

pub returns-in-Add-clause-value : goal.returns-in-Add-clause-value
returns-in-Add-clause-value c =
    let l : to_z w128 (of_z w128 c.args.left) ≡ c.args.left = to_z-of_z c.ranges.left in
    let r : to_z w128 (of_z w128 c.args.right) ≡ c.args.right = to_z-of_z c.ranges.right in
    let h : IsOf c.args.kind c.args.right = subst (λ o. IsRight o c.args.kind c.args.right) c.in-Add.is c.requires.right_of_kind in
    let f : FitsSigned w128 (c.args.left +ℤ c.args.right) = sum_fits c.args.kind c.args.left c.args.right c.requires.left_of_kind h in
    of_operator c.args.op Add c.args.kind c.args.left c.args.right _ c.in-Add.is (c.settle.ensures.value ∙ (λ i. settle c.args.kind (to_z w128 (of_z w128 (l i +ℤ r i)))) ∙ (λ i. settle c.args.kind (to_z-of_z f i)))

pub returns-in-Add-clause-kept : goal.returns-in-Add-clause-kept
returns-in-Add-clause-kept c = binary-result c.args.op c.args.kind c.args.left c.args.right _ (returns-in-Add-clause-value c) c.requires.left_of_kind

pub returns-in-Sub-clause-value : goal.returns-in-Sub-clause-value
returns-in-Sub-clause-value c =
    let l : to_z w128 (of_z w128 c.args.left) ≡ c.args.left = to_z-of_z c.ranges.left in
    let r : to_z w128 (of_z w128 c.args.right) ≡ c.args.right = to_z-of_z c.ranges.right in
    let h : IsOf c.args.kind c.args.right = subst (λ o. IsRight o c.args.kind c.args.right) c.in-Sub.is c.requires.right_of_kind in
    let f : FitsSigned w128 (c.args.left -ℤ c.args.right) = difference_fits c.args.kind c.args.left c.args.right c.requires.left_of_kind h in
    of_operator c.args.op Sub c.args.kind c.args.left c.args.right _ c.in-Sub.is (c.settle-in-Sub.ensures.value ∙ (λ i. settle c.args.kind (to_z w128 (of_z w128 (l i -ℤ r i)))) ∙ (λ i. settle c.args.kind (to_z-of_z f i)))

pub returns-in-Sub-clause-kept : goal.returns-in-Sub-clause-kept
returns-in-Sub-clause-kept c = binary-result c.args.op c.args.kind c.args.left c.args.right _ (returns-in-Sub-clause-value c) c.requires.left_of_kind

pub returns-in-Lt-clause-value : goal.returns-in-Lt-clause-value
returns-in-Lt-clause-value c =
    let l : to_z w128 (of_z w128 c.args.left) ≡ c.args.left = to_z-of_z c.ranges.left in
    let r : to_z w128 (of_z w128 c.args.right) ≡ c.args.right = to_z-of_z c.ranges.right in
    let k : to_z w128 (of_z w128 c.truth.result) ≡ c.truth.result = to_z-of_z {w = w128} (record { sfits = c.truth.type_inv }) in
    of_operator c.args.op Lt c.args.kind c.args.left c.args.right _ c.in-Lt.is (ap Ok (k ∙ c.truth.ensures ∙ (λ i. truth (int_lt (l i) (r i)))))

pub returns-in-Lt-clause-kept : goal.returns-in-Lt-clause-kept
returns-in-Lt-clause-kept c = binary-result c.args.op c.args.kind c.args.left c.args.right _ (returns-in-Lt-clause-value c) c.requires.left_of_kind

pub returns-in-Le-clause-value : goal.returns-in-Le-clause-value
returns-in-Le-clause-value c =
    let l : to_z w128 (of_z w128 c.args.left) ≡ c.args.left = to_z-of_z c.ranges.left in
    let r : to_z w128 (of_z w128 c.args.right) ≡ c.args.right = to_z-of_z c.ranges.right in
    let k : to_z w128 (of_z w128 c.truth-in-Le.result) ≡ c.truth-in-Le.result = to_z-of_z {w = w128} (record { sfits = c.truth-in-Le.type_inv }) in
    of_operator c.args.op Le c.args.kind c.args.left c.args.right _ c.in-Le.is (ap Ok (k ∙ c.truth-in-Le.ensures ∙ (λ i. truth (int_le (l i) (r i)))))

pub returns-in-Le-clause-kept : goal.returns-in-Le-clause-kept
returns-in-Le-clause-kept c = binary-result c.args.op c.args.kind c.args.left c.args.right _ (returns-in-Le-clause-value c) c.requires.left_of_kind

pub returns-in-Gt-clause-value : goal.returns-in-Gt-clause-value
returns-in-Gt-clause-value c =
    let l : to_z w128 (of_z w128 c.args.left) ≡ c.args.left = to_z-of_z c.ranges.left in
    let r : to_z w128 (of_z w128 c.args.right) ≡ c.args.right = to_z-of_z c.ranges.right in
    let k : to_z w128 (of_z w128 c.truth-in-Gt.result) ≡ c.truth-in-Gt.result = to_z-of_z {w = w128} (record { sfits = c.truth-in-Gt.type_inv }) in
    of_operator c.args.op Gt c.args.kind c.args.left c.args.right _ c.in-Gt.is (ap Ok (k ∙ c.truth-in-Gt.ensures ∙ (λ i. truth (int_lt (r i) (l i)))))

pub returns-in-Gt-clause-kept : goal.returns-in-Gt-clause-kept
returns-in-Gt-clause-kept c = binary-result c.args.op c.args.kind c.args.left c.args.right _ (returns-in-Gt-clause-value c) c.requires.left_of_kind

pub returns-in-Ge-clause-value : goal.returns-in-Ge-clause-value
returns-in-Ge-clause-value c =
    let l : to_z w128 (of_z w128 c.args.left) ≡ c.args.left = to_z-of_z c.ranges.left in
    let r : to_z w128 (of_z w128 c.args.right) ≡ c.args.right = to_z-of_z c.ranges.right in
    let k : to_z w128 (of_z w128 c.truth-in-Ge.result) ≡ c.truth-in-Ge.result = to_z-of_z {w = w128} (record { sfits = c.truth-in-Ge.type_inv }) in
    of_operator c.args.op Ge c.args.kind c.args.left c.args.right _ c.in-Ge.is (ap Ok (k ∙ c.truth-in-Ge.ensures ∙ (λ i. truth (int_le (r i) (l i)))))

pub returns-in-Ge-clause-kept : goal.returns-in-Ge-clause-kept
returns-in-Ge-clause-kept c = binary-result c.args.op c.args.kind c.args.left c.args.right _ (returns-in-Ge-clause-value c) c.requires.left_of_kind

pub returns-in-Eq-clause-kept : goal.returns-in-Eq-clause-kept
returns-in-Eq-clause-kept c =
    let k : to_z w128 (of_z w128 c.truth-in-Eq.result) ≡ c.truth-in-Eq.result = to_z-of_z {w = w128} (record { sfits = c.truth-in-Eq.type_inv }) in
    kept_as c.args.op Eq c.args.kind _ c.in-Eq.is (subst (IsOf Int) (sym (k ∙ c.truth-in-Eq.ensures)) (truth-kept _))

pub returns-in-Ne-clause-kept : goal.returns-in-Ne-clause-kept
returns-in-Ne-clause-kept c =
    let k : to_z w128 (of_z w128 c.truth-in-Ne.result) ≡ c.truth-in-Ne.result = to_z-of_z {w = w128} (record { sfits = c.truth-in-Ne.type_inv }) in
    kept_as c.args.op Ne c.args.kind _ c.in-Ne.is (subst (IsOf Int) (sym (k ∙ c.truth-in-Ne.ensures)) (truth-kept _))

pub returns-in-BitAnd-clause-kept : goal.returns-in-BitAnd-clause-kept
returns-in-BitAnd-clause-kept c =
    let k : to_z w128 (of_z w128 c.convert.result) ≡ c.convert.result = to_z-of_z {w = w128} (record { sfits = c.convert.type_inv }) in
    kept_as c.args.op BitAnd c.args.kind _ c.in-BitAnd.is (subst (IsOf c.args.kind) (sym k) c.convert.ensures.fits)

pub returns-in-BitXor-clause-kept : goal.returns-in-BitXor-clause-kept
returns-in-BitXor-clause-kept c =
    let k : to_z w128 (of_z w128 c.convert-in-BitXor.result) ≡ c.convert-in-BitXor.result = to_z-of_z {w = w128} (record { sfits = c.convert-in-BitXor.type_inv }) in
    kept_as c.args.op BitXor c.args.kind _ c.in-BitXor.is (subst (IsOf c.args.kind) (sym k) c.convert-in-BitXor.ensures.fits)

pub returns-in-BitOr-clause-kept : goal.returns-in-BitOr-clause-kept
returns-in-BitOr-clause-kept c =
    let k : to_z w128 (of_z w128 c.convert-in-BitOr.result) ≡ c.convert-in-BitOr.result = to_z-of_z {w = w128} (record { sfits = c.convert-in-BitOr.type_inv }) in
    kept_as c.args.op BitOr c.args.kind _ c.in-BitOr.is (subst (IsOf c.args.kind) (sym k) c.convert-in-BitOr.ensures.fits)
