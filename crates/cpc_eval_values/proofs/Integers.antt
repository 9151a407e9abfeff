-- Numbers as answers, and the operators on them.
use Rattle.std.proofs.Common.{◌≡◌, ℤ, Result, Ok, Err, refl, sym, ap, ◌∙◌}
use Rattle.std.proofs.lemmas.Result.{err_from_is_err_and}
use Rattle.std.specs.Result.{IsErrAnd}
use Rattle.cpc_num.specs.declared.kinds.Fault.{Fault}
use Rattle.cpc_num.specs.declared.kinds.Kind.{Kind}
use Rattle.cpc_num.specs.declared.kinds.Op.{Op}
use Rattle.cpc_num.specs.declared.kinds.Op.TheVariants as O
use Rattle.cpc_num.specs.Number as N
use Rattle.cpc_store.specs.declared.values.Value as V
use Rattle.cpc_tree.specs.Erase.{Names}
use Rattle.cpc_store.specs.Store.{Value, Whole}
use Rattle.cpc_tree.specs.declared.program.UnaryOp.{UnaryOp}
use Rattle.cpc_tree.specs.declared.program.UnaryOp.TheVariants as U
use Rattle.cpc_eval_values.specs.Signed.{signed}
use Rattle.cpc_meaning.specs.Eval.{apply, number, on_numbers, work_kind, result_kind, right_operand}
use Rattle.cpc_eval_values.specs.Meets.{Meets}
use Rattle.cpc_eval_values.specs.Shown.{shown}

-- a number that a result has
pub number_given : (kind : Kind) (z : ℤ) (r : Result ℤ Fault) → Ok z ≡ r → Meets (Ok (Whole kind z)) (number kind r)
number_given kind z r e = rw (sym e) refl

-- a fault that came through an early return
pub number_faulted : (names : Names) (x : Result V.Value Fault) (fault : Fault) (kind : Kind) (r : Result ℤ Fault) → IsErrAnd x (λ e. e ≡ fault) → Err fault ≡ r → Meets (shown names x) (number kind r)
number_faulted names x fault kind r i e = let p = err_from_is_err_and x i in rw (p.1, p.2, sym e) refl

-- the kind of a result, by the kind of the work
pub result_kind_is : (op : Op) (j k : Kind) → N.result_kind op (work_kind op j k) ≡ result_kind op j k
result_kind_is O.Mul j k = refl
result_kind_is O.Div j k = refl
result_kind_is O.Rem j k = refl
result_kind_is O.Add j k = refl
result_kind_is O.Sub j k = refl
result_kind_is O.Shl j k = refl
result_kind_is O.Shr j k = refl
result_kind_is O.Lt j k = refl
result_kind_is O.Le j k = refl
result_kind_is O.Gt j k = refl
result_kind_is O.Ge j k = refl
result_kind_is O.Eq j k = refl
result_kind_is O.Ne j k = refl
result_kind_is O.BitAnd j k = refl
result_kind_is O.BitXor j k = refl
result_kind_is O.BitOr j k = refl

-- an operator on numbers, in the steps of the code
pub operated : (op : Op) (j k : Kind) (x y : ℤ) (kind rk : Kind) (a b z : ℤ) → kind ≡ work_kind op j k → a ≡ N.convert kind x → b ≡ right_operand op kind y → Ok z ≡ N.binary op kind a b → rk ≡ N.result_kind op kind
    → Meets (Ok (Whole rk z)) (on_numbers op j x k y)
operated op j k x y kind rk a b z e f g h i =
    let result : rk ≡ result_kind op j k = i ∙ ap (N.result_kind op) e ∙ result_kind_is op j k in
    let is : Ok z ≡ N.binary op (work_kind op j k) (N.convert (work_kind op j k) x) (right_operand op (work_kind op j k) y) = cc in
    rw result (number_given (result_kind op j k) z _ is)

pub not_operated : (names : Names) (r : Result V.Value Fault) (fault : Fault) (op : Op) (j k : Kind) (x y : ℤ) (kind : Kind) (a b : ℤ) → kind ≡ work_kind op j k → a ≡ N.convert kind x → b ≡ right_operand op kind y → IsErrAnd r (λ e. e ≡ fault) → Err fault ≡ N.binary op kind a b
    → Meets (shown names r) (on_numbers op j x k y)
not_operated names r fault op j k x y kind a b e f g i h =
    let is : Err fault ≡ N.binary op (work_kind op j k) (N.convert (work_kind op j k) x) (right_operand op (work_kind op j k) y) = cc in
    number_faulted names r fault (result_kind op j k) _ i is

-- `-`, `+` and `~`, which come after the promotion
pub applied : (op : UnaryOp) (r : Result Value Fault) (kind : Kind) (z w : ℤ) → (op ≡ U.Not → ⊥) → w ≡ N.convert (N.promoted kind) z → Meets r (signed op (N.promoted kind) w) → Meets r (apply op (Whole kind z))
applied U.Minus r kind z w n e h = rw (sym e) h
applied U.Plus r kind z w n e h = rw (sym e) h
applied U.Complement r kind z w n e h = rw (sym e) h
applied U.Not r kind z w n e h = absurd (n refl)
applied U.Dereference r kind z w n e h = tt
applied U.AddressOf r kind z w n e h = tt
