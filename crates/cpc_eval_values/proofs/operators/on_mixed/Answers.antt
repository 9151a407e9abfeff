use Rattle.std.proofs.Common.{◌≡◌, to_z, of_z, to_z-of_z, arith}
use Rattle.std.specs.Int.{w128}
use Rattle.cpc_eval_values.specs.Meets.{Meets}
use Rattle.cpc_eval_values.specs.Shown.{store_of, value_of, shown}
use Rattle.cpc_eval_values.specs.Counted.{IsSize}
use Rattle.cpc_meaning.specs.Eval as E
use Rattle.cpc_eval_values.proofs.operators.on_mixed.Goals as goal

pub returns-in-Add-clause-value : goal.returns-in-Add-clause-value
returns-in-Add-clause-value c = λ names p u told known.
    let z : to_z w128 (of_z w128 c.args.left) ≡ c.args.left = grind (arith, to_z-of_z) in
    let k : IsSize c.args.size (E.element_size p u) = rw c.in-Add.is at known in
    let h : Meets (shown names c.moved_elements.result) (E.moved_by p (store_of names c.args.store.now) u (value_of names c.args.right) c.args.left) = rw z at (c.moved_elements.ensures.value names p u k) in
    rw c.in-Add.is h
