use Rattle.std.proofs.Common.{◌≡◌, pos, ◌-ℤ◌, to_z, of_z, to_z-of_z, Ok, ap, arith}
use Rattle.std.specs.Int.{w128}
use Rattle.cpc_num.specs.Number as N
use Rattle.cpc_store.specs.Store.{Whole}
use Rattle.cpc_eval_values.specs.Meets.{Meets}
use Rattle.cpc_eval_values.specs.Shown.{shown}
use Rattle.cpc_meaning.specs.Eval as E
use Rattle.cpc_eval_values.proofs.numbers.sign.Goals as goal

pub returns-in-Minus-clause-value : goal.returns-in-Minus-clause-value
returns-in-Minus-clause-value c = λ names.
    let e : to_z w128 (of_z w128 c.args.number) ≡ c.args.number = grind (arith, to_z-of_z) in
    let h : Meets (shown names c.minus.result) (E.number c.args.kind (N.negate c.args.kind c.args.number)) = rw e at (c.minus.ensures.value names) in
    rw c.in-Minus.is h

pub returns-in-Complement-clause-value : goal.returns-in-Complement-clause-value
returns-in-Complement-clause-value c = λ names.
    let e : to_z w128 (of_z w128 c.convert.result) ≡ N.convert c.args.kind (pos 0 -ℤ pos 1 -ℤ c.args.number) = grind (arith, to_z-of_z) in
    rw c.in-Complement.is (ap (λ n. Ok (Whole c.args.kind n)) e)
