use Rattle.std.proofs.Common.{◌≡◌, pos, ◌-ℤ◌, to_z, of_z, to_z-of_z, ap, ◌∙◌, arith}
use Rattle.std.specs.Int.{w128}
use Rattle.std.specs.Prelude.{int_div}
use Rattle.cpc_eval_values.proofs.Sized.{distance_given, difference_passed}
use Rattle.cpc_eval_values.specs.Shown.{store_of, value_of}
use Rattle.cpc_eval_values.proofs.pointers.distance.Goals as goal

pub returns-clause-value : goal.returns-clause-value
returns-clause-value c = λ names p t known.
    let z : to_z w128 (of_z w128 c.elements.result) ≡ c.elements.result = grind (arith, to_z-of_z) in
    let j : to_z w128 (of_z w128 c.from.result) ≡ pos c.in_ok-j.j = grind (arith, to_z-of_z) in
    let k : to_z w128 (of_z w128 c.from-2.result) ≡ pos c.in_ok-j.k = grind (arith, to_z-of_z) in
    let d : to_z w128 (of_z w128 (to_z w128 (of_z w128 c.from.result) -ℤ to_z w128 (of_z w128 c.from-2.result))) ≡ pos c.in_ok-j.j -ℤ pos c.in_ok-j.k = difference_passed _ _ c.in_ok-j.j c.in_ok-j.k j k c.in_ok-j.ensures.small.0 c.in_ok-j.ensures.small.1 in
    rw z (distance_given p (store_of names c.args.store.now) t (value_of names c.args.left) (value_of names c.args.right) c.in_ok-j.j c.in_ok-j.k c.args.cells c.elements.result
    (c.in_ok-j.ensures.value names) known (λ n e. c.elements.ensures.value n e ∙ ap (λ x. int_div x (pos n)) d))
